-- Which bits of rows are set.
use Rattle.std.specs.Prelude.{ℕ, ◌+◌, ◌/◌, ◌%◌, ◌==◌, Bool, false, ◌&&◌, List, slice_index, nat_lt}
use Rattle.std.specs.Int.{bit_at}
use Rattle.std.specs.Option.{option_map_or}
use Rattle.number_sets.specs.Bits.Table.{BitTable, start_of}
pub use Rattle.number_sets.specs.Bits.Table.{is_pair}
use Rattle.number_sets.specs.declared.bits.rows.Row.{Row}

-- the bit of a column among words
unfoldable pub is_set : List ℕ → (column : ℕ) → Bool
is_set words c = bit_at (slice_index words (c / 64)) (c % 64) == 1

-- the bit of a column in a row
abbrev pub is_in : Row → (column : ℕ) → Bool
is_in row c = is_set row.words.now c

-- the bit of a column in the row that starts at a word
unfoldable pub is_set_from : (width : ℕ) → List ℕ → (start column : ℕ) → Bool
is_set_from width words start c = nat_lt (c / 64) width && bit_at (slice_index words (start + c / 64)) (c % 64) == 1

-- the bit of a column in the row of this pair; no bit is set where there is no row
unfoldable pub has : BitTable → ℕ × ℕ → (column : ℕ) → Bool
has t p c = option_map_or (λ start. is_set_from t.width t.words start c) (start_of t p) false
