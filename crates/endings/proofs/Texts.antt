-- The texts of operands that were read.
use Rattle.std.proofs.Common.{◌≡◌, ℕ, zero, suc, ◌+◌, ◌<◌, ◌≤◌, List, [], ◌∷◌, length, slice_index_or, All, arith}
use Rattle.std.specs.Prelude.{sum_by, Vec}
use Rattle.std.specs.declared.alloc.Global.{Global}
use Rattle.std.proofs.lemmas.List.Sums.{sum_by-cons}
use Rattle.outside.specs.Files.{contents}
use Rattle.endings.specs.Line.{text_of_word}

-- each is at most as long as all together
pub within_all : (files : List (Vec ℕ Global)) (k : ℕ) (d : Vec ℕ Global) → k < length files → length (slice_index_or files k d).items ≤ sum_by length (contents files)
within_all [] k d below = absurd (omega arith)
within_all (f ∷ fs) zero d below =
    let all : sum_by length (contents (f ∷ fs)) ≡ length f.items + sum_by length (contents fs) = sum_by-cons length f.items (contents fs) in
    omega (arith, all)
within_all (f ∷ fs) (suc k) d below =
    let all : sum_by length (contents (f ∷ fs)) ≡ length f.items + sum_by length (contents fs) = sum_by-cons length f.items (contents fs) in
    let rest = within_all fs k d (omega arith) in
    omega (arith, all, rest)

-- where none of the files is longer than so much, the text of none is
pub short_at : (most : ℕ) (files : List (Vec ℕ Global)) → All (λ f. length f.items ≤ most) files → (k : ℕ) → length (text_of_word (contents files) k) ≤ most
short_at most [] all k = omega arith
short_at most (f ∷ fs) all zero = all 0 f (omega arith)
short_at most (f ∷ fs) all (suc k) = short_at most fs (λ j d below. all (suc j) d (omega (arith, below))) k
