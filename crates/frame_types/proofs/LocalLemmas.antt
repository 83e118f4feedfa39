-- Local variables that are padded.
use Rattle.std.proofs.Common.{◌≡◌, ℕ, zero, suc, ◌<◌, List, [], ◌∷◌, length, None, refl, arith}
use Rattle.bytecode_model.specs.Slots.{padded}

pub padded_past : {A : Type 0} (unset : A) (n : ℕ) (xs : List A) → n < length xs → padded unset n xs ≡ None
padded_past unset n [] lt = absurd (omega arith)
padded_past unset zero (x ∷ xs) lt = refl
padded_past unset (suc n) (x ∷ xs) lt = rw (padded_past unset n xs (omega arith)) refl
