-- The lines of a text.
use Rattle.std.specs.Prelude.{◌≡◌, ◌≢◌, ℕ, ◌==◌, ◌<◌, List, [], ◌∷◌, ◌++◌, length, All, ◌⊎◌}
use Rattle.std.specs.List.{slice_split}

-- a last piece is a line where it isn't empty
abbrev pub last_line : List ℕ → List (List ℕ)
last_line [] = []
last_line (byte ∷ bytes) = (byte ∷ bytes) ∷ []

-- the pieces, without the last where that is empty
abbrev pub without_empty_last : List (List ℕ) → List (List ℕ)
without_empty_last [] = []
without_empty_last (piece ∷ []) = last_line piece
without_empty_last (piece ∷ next ∷ pieces) = piece ∷ without_empty_last (next ∷ pieces)

-- the lines of a text, without their LF: the pieces that end with LF, and a last piece that isn't empty and has no LF
abbrev pub lines_of : List ℕ → List (List ℕ)
lines_of text = without_empty_last (slice_split (λ byte. byte == 10) text)

-- the lines, each with an LF behind it
abbrev pub with_line_feeds : List (List ℕ) → List ℕ
with_line_feeds [] = []
with_line_feeds (line ∷ lines) = line ++ (10 ∷ with_line_feeds lines)

-- the text ends with the last line, which isn't empty, and has an LF behind each earlier one
pub record EndsWithinLine (text : List ℕ) (lines : List (List ℕ)) : Type 0 where
  pub earlier : List (List ℕ)
  pub last : List ℕ
  pub not_empty : 0 < length last
  pub lines_are : lines ≡ earlier ++ last ∷ []
  pub text_is : text ≡ with_line_feeds earlier ++ last

-- no line has an LF in it, and the lines with an LF behind each of them are the text, the LF behind the last one excepted where the text ends without it
pub record AreLines (text : List ℕ) (lines : List (List ℕ)) : Type 0 where
  pub no_line_feed : All (All (λ byte. byte ≢ 10)) lines
  pub whole : (text ≡ with_line_feeds lines) ⊎ EndsWithinLine text lines
