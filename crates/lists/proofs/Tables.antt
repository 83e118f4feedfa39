-- Tables of lists, as they are made and read.
use Rattle.std.proofs.Common.{◌≡◌, ℕ, zero, suc, ◌+◌, ◌<◌, List, [], ◌∷◌, ◌++◌, map, length, get_or, replicate, refl, sym, ap, ◌∙◌, arith}
use Rattle.std.proofs.lemmas.List.{get_or_default}
use Rattle.lists.specs.Lists.{first_some}
use Rattle.lists.specs.Numbers.{entry, IsSameSearch}

pub replicate_more : (n : ℕ) → replicate {A = List ℕ} n [] ++ [] ∷ [] ≡ replicate (n + 1) []
replicate_more zero = refl
replicate_more (suc n) = let same : suc (n + 1) ≡ suc n + 1 = omega arith in ap (λ xs. [] ∷ xs) (replicate_more n) ∙ ap (λ k. replicate {A = List ℕ} k []) same

pub entry_read : (table : List (List ℕ)) (t : ℕ) (list : List ℕ) → t < length table → list ≡ get_or table t list → entry table t ≡ list
entry_read table t list lt h = get_or_default table t [] list lt ∙ sym h

pub same_along : (list xs ys : List ℕ) → IsSameSearch list xs → xs ≡ ys → IsSameSearch list ys
same_along list xs ys h e find = h find ∙ ap (λ zs. first_some (map find zs)) e
