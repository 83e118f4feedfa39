-- The first of several partial results; lists without repeats.
use Rattle.std.specs.Prelude.{Bool, not, if◌then◌else◌, List, [], ◌∷◌, ◌++◌}
use Rattle.std.specs.List.{filter, list_any}
pub use Rattle.lists.specs.Lists.{first_some}

-- the items, each at its first mention
abbrev pub distinct : {A : Type 0} → (A → A → Bool) → List A → List A
distinct same [] = []
distinct same (x ∷ xs) = x ∷ filter (λ y. not (same x y)) (distinct same xs)

-- the item goes last, unless it is there
abbrev pub with_item : {A : Type 0} → (A → A → Bool) → List A → A → List A
with_item same xs x = if list_any (same x) xs then xs else xs ++ x ∷ []

-- one item after another
abbrev pub with_items : {A : Type 0} → (A → A → Bool) → List A → List A → List A
with_items same xs [] = xs
with_items same xs (y ∷ ys) = with_items same (with_item same xs y) ys
