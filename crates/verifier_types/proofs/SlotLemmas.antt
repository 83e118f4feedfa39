-- Local variables that are written.
use Rattle.std.proofs.Common.{◌≡◌, ℕ, zero, suc, Bool, true, false, List, [], ◌∷◌, set, Some, None, refl, sym, ap, ◌∙◌}
use Rattle.std.specs.Prelude.{if◌then◌else◌, slice_get}
use Rattle.lists.proofs.Lemmas.{none≢some, some_same}
use Rattle.bytecode_model.specs.Lists.{onto}
use Rattle.bytecode_model.specs.Slots.{without_half, stored_at}

module _ {A : Type 0} (long : A → Bool) (unset : A) where
  -- ---- the first half of what has its second half at an index

  pub half_at_start : (xs : List A) → without_half long unset xs 0 ≡ xs
  half_at_start [] = refl
  half_at_start (x ∷ xs) = refl

  pub half_forgotten : (xs : List A) (j : ℕ) (x : A) → slice_get xs j ≡ Some x → long x ≡ true → without_half long unset xs (suc j) ≡ set xs j unset
  half_forgotten [] j x e h = absurd (none≢some x e)
  half_forgotten (y ∷ xs) zero x e h = ap (λ b. (if b then unset else y) ∷ xs) (ap long (some_same y x e) ∙ h)
  half_forgotten (y ∷ xs) (suc j) x e h = ap (λ ys. y ∷ ys) (half_forgotten xs j x e h)

  pub half_kept : (xs : List A) (j : ℕ) (x : A) → slice_get xs j ≡ Some x → long x ≡ false → without_half long unset xs (suc j) ≡ xs
  half_kept [] j x e h = refl
  half_kept (y ∷ xs) zero x e h = ap (λ b. (if b then unset else y) ∷ xs) (ap long (some_same y x e) ∙ h)
  half_kept (y ∷ xs) (suc j) x e h = ap (λ ys. y ∷ ys) (half_kept xs j x e h)

  pub half_beyond : (xs : List A) (j : ℕ) → slice_get xs j ≡ None → without_half long unset xs (suc j) ≡ xs
  half_beyond [] j e = refl
  half_beyond (y ∷ xs) zero e = absurd (none≢some y (sym e))
  half_beyond (y ∷ xs) (suc j) e = ap (λ ys. y ∷ ys) (half_beyond xs j e)

  -- ---- what is written at an index

  pub stored_beyond : (xs : List A) (k : ℕ) (v : A) → slice_get xs k ≡ None → stored_at long unset xs k v ≡ None
  stored_beyond [] k v e = refl
  stored_beyond (x ∷ []) zero v e = absurd (none≢some x (sym e))
  stored_beyond (x ∷ y ∷ xs) zero v e = absurd (none≢some x (sym e))
  stored_beyond (x ∷ xs) (suc k) v e = ap (λ o. onto o (λ ws. Some (x ∷ ws))) (stored_beyond xs k v e)

  onto_if : (b : Bool) (ys : List A) (f : List A → List A) → onto (if b then None else Some ys) (λ ws. Some (f ws)) ≡ (if b then None else Some (f ys))
  onto_if true ys f = refl
  onto_if false ys f = refl

  pub stored_last : (xs : List A) (k : ℕ) (v u : A) → slice_get xs k ≡ Some u → slice_get xs (suc k) ≡ None → stored_at long unset xs k v ≡ (if long v then None else Some (set xs k v))
  stored_last [] k v u e g = absurd (none≢some u e)
  stored_last (x ∷ []) zero v u e g = refl
  stored_last (x ∷ y ∷ xs) zero v u e g = absurd (none≢some y (sym g))
  stored_last (x ∷ xs) (suc k) v u e g = ap (λ o. onto o (λ ws. Some (x ∷ ws))) (stored_last xs k v u e g) ∙ onto_if (long v) (set xs k v) (λ ws. x ∷ ws)

  -- both
  pub stored_long : (xs : List A) (k : ℕ) (v u w : A) → slice_get xs k ≡ Some u → slice_get xs (suc k) ≡ Some w → long v ≡ true → stored_at long unset xs k v ≡ Some (set (set xs (suc k) unset) k v)
  stored_long [] k v u w e g h = absurd (none≢some u e)
  stored_long (x ∷ []) zero v u w e g h = absurd (none≢some w g)
  stored_long (x ∷ y ∷ xs) zero v u w e g h = ap (λ b. if b then Some (v ∷ unset ∷ xs) else Some (v ∷ (if long x then unset else y) ∷ xs)) h
  stored_long (x ∷ xs) (suc k) v u w e g h = ap (λ o. onto o (λ ws. Some (x ∷ ws))) (stored_long xs k v u w e g h)

  -- over one that takes two
  pub stored_over_long : (xs : List A) (k : ℕ) (v u w : A) → slice_get xs k ≡ Some u → slice_get xs (suc k) ≡ Some w → long v ≡ false → long u ≡ true → stored_at long unset xs k v ≡ Some (set (set xs (suc k) unset) k v)
  stored_over_long [] k v u w e g h t = absurd (none≢some u e)
  stored_over_long (x ∷ []) zero v u w e g h t = absurd (none≢some w g)
  stored_over_long (x ∷ y ∷ xs) zero v u w e g h t =
      ap (λ b. if b then Some (v ∷ unset ∷ xs) else Some (v ∷ (if long x then unset else y) ∷ xs)) h ∙ ap (λ b. Some (v ∷ (if b then unset else y) ∷ xs)) (ap long (some_same x u e) ∙ t)
  stored_over_long (x ∷ xs) (suc k) v u w e g h t = ap (λ o. onto o (λ ws. Some (x ∷ ws))) (stored_over_long xs k v u w e g h t)

  pub stored_short : (xs : List A) (k : ℕ) (v u w : A) → slice_get xs k ≡ Some u → slice_get xs (suc k) ≡ Some w → long v ≡ false → long u ≡ false → stored_at long unset xs k v ≡ Some (set xs k v)
  stored_short [] k v u w e g h t = absurd (none≢some u e)
  stored_short (x ∷ []) zero v u w e g h t = absurd (none≢some w g)
  stored_short (x ∷ y ∷ xs) zero v u w e g h t =
      ap (λ b. if b then Some (v ∷ unset ∷ xs) else Some (v ∷ (if long x then unset else y) ∷ xs)) h ∙ ap (λ b. Some (v ∷ (if b then unset else y) ∷ xs)) (ap long (some_same x u e) ∙ t)
  stored_short (x ∷ xs) (suc k) v u w e g h t = ap (λ o. onto o (λ ws. Some (x ∷ ws))) (stored_short xs k v u w e g h t)
