-- For each place of a list an item: where there can't be none at any place, there can't be no list.
use Rattle.std.proofs.Common.{◌≡◌, ℕ, zero, suc, ◌<◌, List, [], ◌∷◌, ◌++◌, length, get_or, refl, sym, subst, inl, inr, arith}
use Rattle.std.proofs.lemmas.Bool.{cases_lt}
use Rattle.std.proofs.lemmas.List.{get_or_append_left, get_or_push, length_push}

pub record AreChosen {X : Type 0} (d : X) (Q : ℕ → X → Type 0) (count : ℕ) : Type 0 where
  pub items : List X
  pub long : length items ≡ count
  pub each : (i : ℕ) → i < count → Q i (get_or items i d)

pub chosen : {X : Type 0} (d : X) (Q : ℕ → X → Type 0) (count : ℕ) → ((i : ℕ) → i < count → ((x : X) × Q i x → ⊥) → ⊥) → (AreChosen d Q count → ⊥) → ⊥
chosen d Q zero exists none = none (record { items = []; long = refl; each = λ i lt. absurd (omega arith) })
chosen {X} d Q (suc count) exists none =
    chosen d Q count (λ i lt. exists i (omega arith)) (λ r. exists count (omega arith) (λ x. none (more r x.0 x.1)))
  where
    more : AreChosen d Q count → (x : X) → Q count x → AreChosen d Q (suc count)
    more r x holds = record {
      items = r.items ++ x ∷ [];
      long = (let k = length_push r.items x in let l = r.long in omega arith);
      each = λ i lt. elim (cases_lt i count) [
        | inl below ↦ let l = r.long in subst (λ (y : X). Q i y) (sym (get_or_append_left r.items (x ∷ []) d i (omega arith))) (r.each i below)
        | inr last ↦
            let l = r.long in
            let same : count ≡ i = omega arith in
            subst (λ (y : X). Q i y) (sym (get_or_push r.items x d i (omega arith))) (subst (λ (k : ℕ). Q k x) same holds)
      ];
    }
