-- What is put of a line.
use Rattle.std.specs.Prelude.{ℕ, ◌<◌, List, [], ◌∷◌, ◌++◌, length, take, decimal, Ok, Err}
use Rattle.std.specs.declared.option.Option.{Option}
use Rattle.std.specs.declared.result.Result.{Result}
use Rattle.outside.specs.Outside.{Grew}
use Rattle.answer_lines.specs.declared.pieces.Piece.{Piece}
use Rattle.answer_lines.specs.declared.pieces.Piece.TheVariants.{Text, Number, Word}
use Rattle.answer_lines.specs.Line.{word_text}

abbrev pub piece_text : Piece → List ℕ
piece_text (Text text) = text.now
piece_text (Number n) = decimal n
piece_text (Word word) = word_text word

-- pieces one after another
abbrev pub joined : List Piece → List ℕ
joined [] = []
joined (piece ∷ pieces) = piece_text piece ++ joined pieces

-- what was put of a line: all of it or, where the sink failed, a front
abbrev pub PutLine : {T E : Type 0} → Option (List ℕ) → Option (List ℕ) → List ℕ → Result T E → Type 0
PutLine old new line (Ok x) = Grew old new line
PutLine old new line (Err e) = (n : ℕ) × (n < length line) × Grew old new (take n line)
