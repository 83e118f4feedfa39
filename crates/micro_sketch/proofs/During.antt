-- What the cycles of a run put out, hand over and note: in parts, after other output, and with further answers behind those they take.
use Rattle.std.proofs.Common.{◌≡◌, ℕ, zero, suc, ◌+◌, ◌%◌, ◌^◌, Bool, true, false, List, [], ◌∷◌, ◌++◌, reverse, nat_lt, if◌then◌else◌, None, Some, refl, sym, ap, ◌∙◌, subst, arith, append_assoc, append-nil, add-zero, add-suc}
use Rattle.std.specs.declared.option.Option.{Option}
use Rattle.std.proofs.lemmas.List.{reverse-append}
use Rattle.microcode.specs.declared.isa.Micro.{Micro}
use Rattle.jop_core.specs.State.{MachineState, seen_of}
use Rattle.jop_core.specs.Cycle.{output_of, puts, body_outputs, micro_at}
use Rattle.jop_core.specs.Ticked.{notes_of}
use Rattle.jop_core.specs.Scene.{Scene, run, output_during, seen_during, notes_during}
use Rattle.micro_sketch.proofs.Scenes.{run-suc, run-add, run-after_output, run-followed, after_output, followed_by, UsesUp}

-- no cycle

pub output_during-zero : (c : Scene) → output_during 0 c ≡ []
unfolding output_during
output_during-zero c = refl

pub seen_during-zero : (c : Scene) → seen_during 0 c ≡ []
unfolding seen_during
seen_during-zero c = refl

pub notes_during-zero : (c : Scene) → notes_during 0 c ≡ []
unfolding notes_during
notes_during-zero c = refl

-- one cycle

pub output_during-one : (c : Scene) → output_during 1 c ≡ output_of c.state
unfolding output_during
output_during-one c = refl

pub seen_during-one : (c : Scene) → seen_during 1 c ≡ seen_of c.state ∷ []
unfolding seen_during
seen_during-one c = refl

pub notes_during-one : (c : Scene) → notes_during 1 c ≡ notes_of c.state
unfolding notes_during
notes_during-one c = refl

-- one cycle more

pub output_during-suc : (k : ℕ) (c : Scene) → output_during (suc k) c ≡ output_during k c ++ output_of (run k c).state
unfolding output_during
output_during-suc k c = refl

pub seen_during-suc : (k : ℕ) (c : Scene) → seen_during (suc k) c ≡ seen_during k c ++ seen_of (run k c).state ∷ []
unfolding seen_during
seen_during-suc k c = refl

pub notes_during-suc : (k : ℕ) (c : Scene) → notes_during (suc k) c ≡ notes_during k c ++ notes_of (run k c).state
unfolding notes_during
notes_during-suc k c = refl

-- cycles after others

pub output_during-add : (m n : ℕ) (c : Scene) → output_during (m + n) c ≡ output_during m c ++ output_during n (run m c)
unfolding output_during
output_during-add m zero c = rw add-zero (sym (append-nil (output_during m c)))
output_during-add m (suc n) c =
    rw (add-suc, output_during-add m n c, run-add m n c) (append_assoc (output_during m c) (output_during n (run m c)) (output_of (run n (run m c)).state))

pub seen_during-add : (m n : ℕ) (c : Scene) → seen_during (m + n) c ≡ seen_during m c ++ seen_during n (run m c)
unfolding seen_during
seen_during-add m zero c = rw add-zero (sym (append-nil (seen_during m c)))
seen_during-add m (suc n) c =
    rw (add-suc, seen_during-add m n c, run-add m n c) (append_assoc (seen_during m c) (seen_during n (run m c)) (seen_of (run n (run m c)).state ∷ []))

pub notes_during-add : (m n : ℕ) (c : Scene) → notes_during (m + n) c ≡ notes_during m c ++ notes_during n (run m c)
unfolding notes_during
notes_during-add m zero c = rw add-zero (sym (append-nil (notes_during m c)))
notes_during-add m (suc n) c =
    rw (add-suc, notes_during-add m n c, run-add m n c) (append_assoc (notes_during m c) (notes_during n (run m c)) (notes_of (run n (run m c)).state))

-- after other output

state-after_output : (k : ℕ) (before : List ℕ) (c : Scene) → (run k (after_output before c)).state ≡ (run k c).state
state-after_output k before c = ap (λ (z : Scene). z.state) (run-after_output k before c)

pub output_during-after_output : (k : ℕ) (before : List ℕ) (c : Scene) → output_during k (after_output before c) ≡ output_during k c
unfolding output_during
output_during-after_output zero before c = refl
output_during-after_output (suc k) before c = rw (output_during-after_output k before c, state-after_output k before c) refl

pub seen_during-after_output : (k : ℕ) (before : List ℕ) (c : Scene) → seen_during k (after_output before c) ≡ seen_during k c
unfolding seen_during
seen_during-after_output zero before c = refl
seen_during-after_output (suc k) before c = rw (seen_during-after_output k before c, state-after_output k before c) refl

pub notes_during-after_output : (k : ℕ) (before : List ℕ) (c : Scene) → notes_during k (after_output before c) ≡ notes_during k c
unfolding notes_during
notes_during-after_output zero before c = refl
notes_during-after_output (suc k) before c = rw (notes_during-after_output k before c, state-after_output k before c) refl

-- with further answers behind

pub state-followed : (i k : ℕ) (c : Scene) → UsesUp (i + k) c → (more : List (Option ℕ)) → (run i (followed_by more c)).state ≡ (run i c).state
state-followed i k c uses more = ap (λ (z : Scene). z.state) (run-followed i k c uses more)

uses_further : (i k : ℕ) (c : Scene) → UsesUp (suc i + k) c → UsesUp (i + suc k) c
uses_further i k c uses = let U : ℕ → Type 0 = λ n. UsesUp n c in let same : suc i + k ≡ i + suc k = omega arith in subst U same uses

pub output_during-followed : (i k : ℕ) (c : Scene) → UsesUp (i + k) c → (more : List (Option ℕ)) → output_during i (followed_by more c) ≡ output_during i c
unfolding output_during
output_during-followed zero k c uses more = refl
output_during-followed (suc i) k c uses more = let onward = uses_further i k c uses in rw (output_during-followed i (suc k) c onward more, state-followed i (suc k) c onward more) refl

pub seen_during-followed : (i k : ℕ) (c : Scene) → UsesUp (i + k) c → (more : List (Option ℕ)) → seen_during i (followed_by more c) ≡ seen_during i c
unfolding seen_during
seen_during-followed zero k c uses more = refl
seen_during-followed (suc i) k c uses more = let onward = uses_further i k c uses in rw (seen_during-followed i (suc k) c onward more, state-followed i (suc k) c onward more) refl

pub notes_during-followed : (i k : ℕ) (c : Scene) → UsesUp (i + k) c → (more : List (Option ℕ)) → notes_during i (followed_by more c) ≡ notes_during i c
unfolding notes_during
notes_during-followed zero k c uses more = refl
notes_during-followed (suc i) k c uses more = let onward = uses_further i k c uses in rw (notes_during-followed i (suc k) c onward more, state-followed i (suc k) c onward more) refl

-- The output of a scene is what its cycles put out, the last byte first.

one_or_none : (b : Bool) (x : ℕ) → reverse (if b then x ∷ [] else []) ≡ (if b then x ∷ [] else [])
one_or_none true x = refl
one_or_none false x = refl

puts-reversed : (m : Option Micro) (a : ℕ) → reverse (puts m a) ≡ puts m a
puts-reversed None a = refl
puts-reversed (Some m) a = one_or_none (body_outputs m.body) (a % 2 ^ 8)

pending : (b : Bool) (m : Option Micro) (a : ℕ) → reverse (if b then [] else puts m a) ≡ (if b then [] else puts m a)
pending true m a = refl
pending false m a = puts-reversed m a

output_of-reversed : (s : MachineState) → reverse (output_of s) ≡ output_of s
unfolding output_of
output_of-reversed s = pending (nat_lt 0 s.stall) (micro_at s) s.a

pub output-reversed : (k : ℕ) (c : Scene) → (run k c).output ≡ reverse (output_during k c) ++ c.output
unfolding output_during
output-reversed zero c = refl
output-reversed (suc k) c =
    ap (λ (z : Scene). z.output) (run-suc k c)
    ∙ rw (output-reversed k c, reverse-append (output_during k c) (output_of (run k c).state), output_of-reversed (run k c).state)
    (sym (append_assoc (output_of (run k c).state) (reverse (output_during k c)) c.output))
