-- The lines of a microprogram's words.
use Rattle.std.specs.Prelude.{ℕ, suc, List, [], ◌∷◌, ◌++◌, codes}
use Rattle.std.specs.List.{concat}
use Rattle.ascii_text.specs.Hex.{hex}

-- ADDRESS WORD, in three and in four hexadecimal digits
abbrev pub word_line : (address word : ℕ) → List ℕ
word_line address word = concat (hex 3 address ∷ codes " " ∷ hex 4 word ∷ codes "\n" ∷ [])

-- a line for each word, from an address on
abbrev pub lines_from : (address : ℕ) → List ℕ → List ℕ
lines_from address [] = []
lines_from address (word ∷ words) = word_line address word ++ lines_from (suc address) words

-- the text of the words of a microprogram
abbrev pub listing_of : List ℕ → List ℕ
listing_of words = lines_from 0 words
