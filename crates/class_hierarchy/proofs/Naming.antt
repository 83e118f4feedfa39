-- Methods with the symbols of their names and descriptors; and the first that the classes of a list declare.
use Rattle.std.proofs.Common.{◌≡◌, ℕ, suc, ◌+◌, ◌<◌, List, ◌∷◌, map, length, get_or, drop, drop-cons, arith, Option, Some, None, sym, ap, ◌∙◌}
use Rattle.std.specs.Prelude.{slice_get}
use Rattle.class_pool.specs.declared.class.Member.{Member}
use Rattle.class_pool.specs.declared.class.ClassFile.{ClassFile}
use Rattle.lists.specs.Lists.{onto, first_some}
use Rattle.lists.proofs.Lemmas.{onto_some, index_found}
use Rattle.class_lookup.specs.Parts.{signature_of, same_text}
use Rattle.class_pool.specs.Grammar.{text_at}
use Rattle.class_lookup.specs.Lookup.{Place, method_at}
use Rattle.class_lookup.specs.Symbols.{texts, symbol}
use Rattle.class_hierarchy.specs.Members.{HasSymbols}
use Rattle.class_hierarchy.proofs.Directly.{text_same}

pub named_is : (cs : List ClassFile) (p : Place) (m : Member) (n d : ℕ) → Some m ≡ method_at cs p → ((c : ClassFile) → slice_get cs p.0 ≡ Some c → symbol cs (text_at c.pool m.name) ≡ Some n)
    → ((c : ClassFile) → slice_get cs p.0 ≡ Some c → symbol cs (text_at c.pool m.descriptor) ≡ Some d) → HasSymbols cs (record { place = p; name = n; descriptor = d })
named_is cs p m n d h f g =
    let k = onto_some (slice_get cs p.0) (λ c. slice_get c.methods p.1) m (sym h) in
    record {
      signature = signature_of k.0 m;
      has = ap (λ o. onto o (λ c. onto (method_at cs p) (λ x. Some (signature_of c x)))) k.1 ∙ ap (λ o. onto o (λ x. Some (signature_of k.0 x))) (sym h);
      name_is = f k.0 k.1;
      descriptor_is = g k.0 k.1;
    }

pub first_step : (find : ℕ → Option Place) (xs : List ℕ) (i : ℕ) → i < length xs → None ≡ find (get_or xs i 0) → first_some (map find (drop (i + 1) xs)) ≡ first_some (map find (drop i xs))
first_step find xs i lt h =
    let next : i + 1 ≡ suc i = omega arith in
    ap (λ k. first_some (map find (drop k xs))) next
    ∙ (ap (λ o. first_some (o ∷ map find (drop (suc i) xs))) h ∙ sym (ap (λ ys. first_some (map find ys)) (drop-cons xs i 0 lt)))

pub first_here : (find : ℕ → Option Place) (xs : List ℕ) (i : ℕ) (p : Place) → i < length xs → Some p ≡ find (get_or xs i 0) → Some p ≡ first_some (map find (drop i xs))
first_here find xs i p lt h = ap (λ o. first_some (o ∷ map find (drop (suc i) xs))) h ∙ sym (ap (λ ys. first_some (map find ys)) (drop-cons xs i 0 lt))

-- ---- the text of a symbol

pub symbol_below : (cs : List ClassFile) (t : List ℕ) (n : ℕ) → symbol cs t ≡ Some n → (u : List ℕ) × (slice_get (texts cs) n ≡ Some u) × (t ≡ u)
unfolding symbol
symbol_below cs t n h =
    let f = index_found (same_text t) (texts cs) n h in
    (f.0, f.1, text_same t f.0 f.2)
