-- What is stored in a local variable, and what is filled, by what is found.
use Rattle.std.proofs.Common.{◌≡◌, ℕ, ◌<◌, ℤ, List, length, Contains, All, Option, Some, None, nat_eq, eqb-true, get_or, sym, ap, ◌∙◌, subst}
use Rattle.std.specs.Prelude.{◌↔◌, IsTrue}
use Rattle.std.specs.Int.{w32, cast_signed, cast_unsigned}
use Rattle.std.specs.Int.RustNames.{FitsSigned}
use Rattle.std.proofs.lemmas.Bool.{eq-eqb}
use Rattle.std.proofs.lemmas.Int.{to_z-of_z}
use Rattle.std.proofs.lemmas.List.Elements.{All-contains, All-contains_itself}
use Rattle.lists.proofs.Lemmas.{none≢some, some_same}
use Rattle.loop_rules.specs.declared.further.table.KnownInt.{KnownInt}
use Rattle.known_ints.specs.declared.parts.Part.TheVariants as does
use Rattle.known_ints.specs.Code.{CodeOf}
use Rattle.loop_rules.specs.Further.Found.{known_at}
use Rattle.known_ints.specs.Knowing.{IsConstantPart, IsDoneBefore, IsFilledBefore}

-- two ints are the same where their words are
pub same_ints : (n v : ℤ) → FitsSigned w32 n → FitsSigned w32 v → IsTrue (nat_eq (cast_unsigned w32 n) (cast_unsigned w32 v)) ↔ (n ≡ v)
same_ints n v p q = (
  (λ e. sym (to_z-of_z w32 n p) ∙ ap (cast_signed w32) (eqb-true (cast_unsigned w32 n) (cast_unsigned w32 v) e) ∙ to_z-of_z w32 v q),
  (λ e. eq-eqb (cast_unsigned w32 n) (cast_unsigned w32 v) (ap (cast_unsigned w32) e)),
)

-- an int is pushed with the line before, if that does so
pub before_is : (Does : ℕ → Type 0) (from : ℕ) (v w : ℤ) → w ≡ v → ((p : ℕ) → (Some from ≡ Some p) ↔ Does p) → (x : KnownInt)
    → (Some (record { from = from; value = w }) ≡ Some x) ↔ (Does x.from × (x.value ≡ v))
before_is Does from v w same exact x = (
  (λ e.
      let at : made ≡ x = some_same made x e in
      ((exact x.from).0 (ap (λ (k : KnownInt). Some k.from) at), sym (ap (λ (k : KnownInt). k.value) at) ∙ same)),
  (λ h.
      let at : from ≡ x.from = some_same from x.from ((exact x.from).1 h.0) in
      ap (λ (f : ℕ). Some (record { from = f; value = w })) at ∙ ap (λ (z : ℤ). Some (record { from = x.from; value = z })) (same ∙ sym h.1)),
)
  where
    made : KnownInt
    made = record { from = from; value = w }

-- what is stored at each of some places is what is stored at one of them
module _ (S : ℕ → ℤ → Type 0) (ps : List ℕ) (first : ℕ) (some : 0 < length ps) (has : Contains ps first) (o : Option ℤ) (exact : (c : ℤ) → (o ≡ Some c) ↔ S first c) where
  abbrev pub AreAll : ℤ → Type 0
  AreAll c = (0 < length ps) × ((w : ℕ) → Contains ps w → S w c)

  first_is : (c : ℤ) → AreAll c → o ≡ Some c
  first_is c h = (exact c).1 (h.1 first has)

  pub none_stored : o ≡ None → (c : ℤ) → (None ≡ Some c) ↔ AreAll c
  none_stored none c = ((λ e. absurd (none≢some c e)), (λ h. sym none ∙ first_is c h))

  pub one_stored : (v w : ℤ) → o ≡ Some v → w ≡ v → All (λ p. S p v) ps → (c : ℤ) → (Some w ≡ Some c) ↔ AreAll c
  one_stored v w is same all c = (
    (λ e. let at : v ≡ c = sym same ∙ some_same w c e in (some, λ p here. subst (S p) at (All-contains (λ q. S q v) ps p all here))),
    (λ h. ap Some same ∙ sym is ∙ first_is c h),
  )

  pub others_stored : (v : ℤ) → o ≡ Some v → (All (λ p. S p v) ps → ⊥) → (c : ℤ) → (None ≡ Some c) ↔ AreAll c
  others_stored v is not_all c = (
    (λ e. absurd (none≢some c e)),
    (λ h. let at : c ≡ v = some_same c v (sym (first_is c h) ∙ is) in absurd (not_all (λ k d lt. subst (S (get_or ps k d)) at (h.1 (get_or ps k d) (All-contains_itself ps k d lt))))),
  )

-- the array that is filled, of what stands before the store
module _ (code : CodeOf) (lengths : List (Option KnownInt)) (store value index copy : ℕ) (value_is : IsDoneBefore code IsConstantPart store value)
    (index_is : IsDoneBefore code IsConstantPart value index) (copy_is : IsDoneBefore code (λ part. part ≡ does.Copy) index copy) where
  pub filled_is : (x : KnownInt) → (known_at lengths copy ≡ Some x) ↔ IsFilledBefore code lengths store x.from x.value
  filled_is x = (
    (λ e. record { value = value; index = index; copy = copy; value_is = value_is; index_is = index_is; copy_is = copy_is; array = e }),
    (λ h.
        let v : h.value ≡ value = some_same h.value value (sym h.value_is.is ∙ value_is.is) in
        let on_index = subst (λ (p : ℕ). IsDoneBefore code IsConstantPart p h.index) v h.index_is in
        let i : h.index ≡ index = some_same h.index index (sym on_index.is ∙ index_is.is) in
        let on_copy = subst (λ (p : ℕ). IsDoneBefore code (λ part. part ≡ does.Copy) p h.copy) i h.copy_is in
        let k : h.copy ≡ copy = some_same h.copy copy (sym on_copy.is ∙ copy_is.is) in
        ap (known_at lengths) (sym k) ∙ h.array),
  )
