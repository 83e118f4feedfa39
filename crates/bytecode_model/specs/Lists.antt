-- Partial results, one after another.
use Rattle.std.specs.Prelude.{ℕ, zero, suc, List, [], ◌∷◌, Option, Some, None, ℤ, pos, negsuc}
pub use Rattle.lists.specs.Lists.{onto, index_of}

-- the list with the item at this index replaced, where there is one
abbrev pub replaced : {A : Type 0} → List A → ℕ → A → Option (List A)
replaced [] k y = None
replaced (x ∷ xs) zero y = Some (y ∷ xs)
replaced (x ∷ xs) (suc k) y = onto (replaced xs k y) (λ zs. Some (x ∷ zs))

-- a number that isn't negative
abbrev pub natural : ℤ → Option ℕ
natural (pos n) = Some n
natural (negsuc n) = None
