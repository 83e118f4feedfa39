-- Two rows of one word each, the first with the bits 1 and 63 and the second with the bit 0.
use Rattle.std.specs.Prelude.{◌≡◌, true, false, [], ◌∷◌, refl}
use Rattle.number_sets.specs.Bits.Table.{BitTable}
use Rattle.number_sets.specs.Bits.Bits.{has, is_set_from}

abbrev pub two_rows : BitTable
two_rows = record { width = 1; starts = ((7, 8), 0) ∷ ((8, 7), 1) ∷ []; words = 9223372036854775810 ∷ 1 ∷ [] }

pub first_row : (has two_rows (7, 8) 1 ≡ true) × (has two_rows (7, 8) 63 ≡ true) × (has two_rows (7, 8) 0 ≡ false)
unfolding has is_set_from
first_row = (refl, refl, refl)

pub second_row : (has two_rows (8, 7) 0 ≡ true) × (has two_rows (8, 7) 1 ≡ false)
unfolding has is_set_from
second_row = (refl, refl)

-- a row has no bit beyond its columns, also where the next row begins there
pub beyond : has two_rows (7, 8) 64 ≡ false
unfolding has is_set_from
beyond = refl

pub no_row : has two_rows (7, 7) 1 ≡ false
unfolding has is_set_from
no_row = refl
