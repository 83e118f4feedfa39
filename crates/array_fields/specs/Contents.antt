-- What instructions put to a field, one put after another: nothing, null or arrays of one length, or anything else.
use Rattle.std.specs.Prelude.{◌≡◌, ◌↔◌, ℕ, ℤ, Bool, false, if◌then◌else◌, List, length, Some, None, slice_set, slice_index_or}
use Rattle.std.specs.Ordering.{int_eq}
use Rattle.std.specs.declared.option.Option.{Option}
use Rattle.array_fields.specs.declared.contents.Content.{Content}
use Rattle.array_fields.specs.declared.contents.Content.TheVariants.{Unput, Arrays, Anything}

-- with one put more, of null or an array of so many elements, or of what isn't known
abbrev pub met : Content → (length : Option ℤ) → Content
met Unput (Some n) = Arrays n
met (Arrays k) (Some n) = if int_eq k n then Arrays k else Anything
met content length = Anything

-- it tells what these puts put: none, or arrays of one length
pub record Tells (content : Content) (Puts : (length : Option ℤ) → Type 0) : Type 0 where
  pub unput : (content ≡ Unput) ↔ ((length : Option ℤ) → ¬ Puts length)
  pub arrays : (n : ℤ) → (content ≡ Arrays n) ↔ (Puts (Some n) × ((length : Option ℤ) → Puts length → length ≡ Some n))

-- ---- several fields, by index

abbrev pub content_at : List Content → ℕ → Content
content_at xs i = slice_index_or xs i Anything

-- with one put more to the field of an index, where there is one
abbrev pub met_at : List Content → (index : Option ℕ) → (length : Option ℤ) → List Content
met_at xs None l = xs
met_at xs (Some i) l = slice_set xs i (met (content_at xs i) l)

abbrev pub flag_at : List Bool → ℕ → Bool
flag_at flags x = slice_index_or flags x false
