-- Logic that is settled, and a further wire.
use Rattle.std.proofs.Common.{◌≡◌, ℕ, zero, suc, List, [], ◌∷◌, ◌++◌, length, refl, ap, ◌∙◌, subst, Some}
use Rattle.std.specs.Prelude.{slice_get}
use Rattle.netlist.specs.declared.net.Net.{Net}
use Rattle.netlist.specs.declared.net.Expression.{Expression}
use Rattle.netlist.specs.Meaning.{Words, result_of, word_on, driven}
use Rattle.circuit_build.specs.Wiring.{Wiring, IsSettled, Gives, Adds}

kept : (es : List Expression) (e x : Expression) (k : ℕ) → slice_get es k ≡ Some x → slice_get (es ++ e ∷ []) k ≡ Some x
kept [] e x k h = cc
kept (y ∷ ys) e x zero h = h
kept (y ∷ ys) e x (suc k) h = kept ys e x k h

behind : (es : List Expression) (e : Expression) → slice_get (es ++ e ∷ []) (length es) ≡ Some e
behind [] e = refl
behind (y ∷ ys) e = behind ys e

pub settled_before : (old new : Wiring) (net : Net) (e : Expression) → Adds old new net e → (ws : Words) → IsSettled new ws → IsSettled old ws
settled_before old new net e a ws h =
    let is : new ≡ record old { wires = old.wires ++ e ∷ [] } = a.wires h.whole in
    let there : IsSettled (record old { wires = old.wires ++ e ∷ [] }) ws = subst (λ l. IsSettled l ws) is h in
    record { whole = there.whole; wires = λ k x at. there.wires k x (kept old.wires e x k at) }

pub word_of : (old new : Wiring) (net : Net) (e : Expression) → Adds old new net e → (ws : Words) → IsSettled new ws → word_on ws net ≡ result_of ws e
word_of old new net e a ws h =
    let is : new ≡ record old { wires = old.wires ++ e ∷ [] } = a.wires h.whole in
    let there : IsSettled (record old { wires = old.wires ++ e ∷ [] }) ws = subst (λ l. IsSettled l ws) is h in
    ap (λ d. driven ws d) a.driver ∙ there.wires (length old.wires) e (behind old.wires e)

pub added : (old new : Wiring) (net : Net) (e : Expression) → Adds old new net e → Gives old new (λ ws. word_on ws net ≡ result_of ws e)
added old new net e a = record { settled = settled_before old new net e a; fact = word_of old new net e a }
