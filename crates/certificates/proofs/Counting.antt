-- How many lines a text has at most, and how reading them ends.
use Rattle.std.proofs.Common.{ℕ, ◌+◌, ◌≤◌, List, [], ◌∷◌, length, ap, arith, map}
use Rattle.std.specs.List.{slice_split}
use Rattle.std.specs.Prelude.{◌==◌}
use Rattle.std.proofs.lemmas.List.{length-append}
use Rattle.std.proofs.lemmas.List.Splits.{length-slice_split}
use Rattle.std.proofs.lemmas.List.Sums.{count_by-le-length}
use Rattle.ascii_text.specs.Line.{lines_of, without_empty_last}
use Rattle.certificates.specs.CertLines.{line_text}
use Rattle.certificates.specs.Drafts.{Draft}
use Rattle.certificates.proofs.LinesRead.{IsReadTo}

shorter : (pieces : List (List ℕ)) → length (without_empty_last pieces) ≤ length pieces
shorter [] = omega arith
shorter ([] ∷ []) = omega arith
shorter ((x ∷ xs) ∷ []) = omega arith
shorter (piece ∷ next ∷ pieces) = omega (arith, shorter (next ∷ pieces))

pub count_fits : (text : List ℕ) (number : ℕ) (left : List (List ℕ)) (d : Draft) → IsReadTo (lines_of text) number left d → number + length left ≤ length text + 1
count_fits text number left d r =
    omega (arith, shorter (slice_split (λ byte. byte == 10) text), length-slice_split (λ byte. byte == 10) text, count_by-le-length (λ byte. byte == 10) text, r.count, ap length r.whole, length-append (map line_text r.entries) left)
