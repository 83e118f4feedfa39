-- What is written into local variables.
use Rattle.std.proofs.Common.{◌≡◌, ℕ, zero, suc, ◌+◌, ◌-◌, ◌<◌, true, false, List, [], ◌∷◌, length, set, Some, None, add-one, refl, sym, ap, ◌∙◌, arith}
use Rattle.std.specs.Prelude.{slice_get, if◌then◌else◌}
use Rattle.bytecode_model.specs.Slots.{without_half, stored_at}
use Rattle.bytecode_typing.specs.Types as typing
use Rattle.bytecode_typing.specs.Types.{is_long_type}
use Rattle.verifier_types.proofs.SlotLemmas.{half_at_start, half_forgotten, half_kept, half_beyond, stored_beyond, stored_last, stored_long, stored_over_long, stored_short}

-- ---- the half that is forgotten

pub forgets_none : (xs : List typing.VarType) (k : ℕ) → k ≡ 0 → xs ≡ without_half is_long_type typing.Top xs k
forgets_none xs k e = sym (ap (without_half is_long_type typing.Top xs) e ∙ half_at_start is_long_type typing.Top xs)

before_is : (xs : List typing.VarType) (k : ℕ) (ys : List typing.VarType) → (k ≡ 0 → ⊥) → without_half is_long_type typing.Top xs (suc (k - 1)) ≡ ys → without_half is_long_type typing.Top xs k ≡ ys
before_is xs k ys h e = let same : k ≡ suc (k - 1) = omega (arith, h) in ap (without_half is_long_type typing.Top xs) same ∙ e

pub forgets : (xs : List typing.VarType) (k : ℕ) (x : typing.VarType) → (k ≡ 0 → ⊥) → slice_get xs (k - 1) ≡ Some x → is_long_type x ≡ true → set xs (k - 1) typing.Top ≡ without_half is_long_type typing.Top xs k
forgets xs k x h e l = sym (before_is xs k (set xs (k - 1) typing.Top) h (half_forgotten is_long_type typing.Top xs (k - 1) x e l))

pub keeps : (xs : List typing.VarType) (k : ℕ) (x : typing.VarType) → (k ≡ 0 → ⊥) → slice_get xs (k - 1) ≡ Some x → is_long_type x ≡ false → xs ≡ without_half is_long_type typing.Top xs k
keeps xs k x h e l = sym (before_is xs k xs h (half_kept is_long_type typing.Top xs (k - 1) x e l))

pub keeps_beyond : (xs : List typing.VarType) (k : ℕ) → (k ≡ 0 → ⊥) → slice_get xs (k - 1) ≡ None → xs ≡ without_half is_long_type typing.Top xs k
keeps_beyond xs k h e = sym (before_is xs k xs h (half_beyond is_long_type typing.Top xs (k - 1) e))

-- ---- what is stored

pub none_stored : (xs : List typing.VarType) (k : ℕ) (v : typing.VarType) → slice_get xs k ≡ None → None ≡ stored_at is_long_type typing.Top xs k v
none_stored xs k v e = sym (stored_beyond is_long_type typing.Top xs k v e)

got : (xs : List typing.VarType) (k : ℕ) → k < length xs → (u : typing.VarType) × (slice_get xs k ≡ Some u)
got [] k lt = absurd (omega (arith, lt))
got (x ∷ xs) zero lt = (x, refl)
got (x ∷ xs) (suc k) lt = got xs k (omega (arith, lt))

last : (xs : List typing.VarType) (k : ℕ) (v : typing.VarType) → k < length xs → slice_get xs (k + 1) ≡ None → stored_at is_long_type typing.Top xs k v ≡ (if is_long_type v then None else Some (set xs k v))
last xs k v lt g = let u = got xs k lt in stored_last is_long_type typing.Top xs k v u.0 u.1 (ap (slice_get xs) (sym (add-one k)) ∙ g)

pub last_long : (xs : List typing.VarType) (k : ℕ) (v : typing.VarType) → k < length xs → slice_get xs (k + 1) ≡ None → is_long_type v ≡ true → None ≡ stored_at is_long_type typing.Top xs k v
last_long xs k v lt g l = sym (last xs k v lt g ∙ ap (λ b. if b then None else Some (set xs k v)) l)

pub last_short : (xs ys : List typing.VarType) (k : ℕ) (v : typing.VarType) → k < length xs → slice_get xs (k + 1) ≡ None → is_long_type v ≡ false → ys ≡ set xs k v → Some ys ≡ stored_at is_long_type typing.Top xs k v
last_short xs ys k v lt g l is = ap Some is ∙ sym (last xs k v lt g ∙ ap (λ b. if b then None else Some (set xs k v)) l)

both_set : (xs : List typing.VarType) (k : ℕ) (v : typing.VarType) → set (set xs (k + 1) typing.Top) k v ≡ set (set xs (suc k) typing.Top) k v
both_set xs k v = ap (λ (n : ℕ). set (set xs n typing.Top) k v) (add-one k)

-- another is behind it
module _ (xs ys : List typing.VarType) (k : ℕ) (v u : typing.VarType) (at : slice_get xs k ≡ Some u) (lt : k + 1 < length xs) where
  behind : (w : typing.VarType) × (slice_get xs (suc k) ≡ Some w)
  behind = let w = got xs (k + 1) lt in (w.0, ap (slice_get xs) (sym (add-one k)) ∙ w.1)

  pub stores_long : is_long_type v ≡ true → ys ≡ set (set xs (k + 1) typing.Top) k v → Some ys ≡ stored_at is_long_type typing.Top xs k v
  stores_long l is = ap Some (is ∙ both_set xs k v) ∙ sym (stored_long is_long_type typing.Top xs k v u behind.0 at behind.1 l)

  pub stores_over : is_long_type v ≡ false → is_long_type u ≡ true → ys ≡ set (set xs (k + 1) typing.Top) k v → Some ys ≡ stored_at is_long_type typing.Top xs k v
  stores_over l t is = ap Some (is ∙ both_set xs k v) ∙ sym (stored_over_long is_long_type typing.Top xs k v u behind.0 at behind.1 l t)

  pub stores_short : is_long_type v ≡ false → is_long_type u ≡ false → ys ≡ set xs k v → Some ys ≡ stored_at is_long_type typing.Top xs k v
  stores_short l t is = ap Some is ∙ sym (stored_short is_long_type typing.Top xs k v u behind.0 at behind.1 l t)
