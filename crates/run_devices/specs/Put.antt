-- What is put of a line.
use Rattle.std.specs.Prelude.{ℕ, ◌<◌, List, [], ◌∷◌, ◌++◌, length, take, Ok, Err}
use Rattle.std.specs.declared.option.Option.{Option}
use Rattle.std.specs.declared.result.Result.{Result}
use Rattle.std.specs.Borrow.{Bor}
use Rattle.outside.specs.Outside.{Grew}

-- pieces one after another
abbrev pub joined : List (Bor (List ℕ)) → List ℕ
joined [] = []
joined (piece ∷ pieces) = piece.now ++ joined pieces

-- all of the line or, where the sink failed, a front
abbrev pub PutLine : {T E : Type 0} → Option (List ℕ) → Option (List ℕ) → List ℕ → Result T E → Type 0
PutLine old new line (Ok x) = Grew old new line
PutLine old new line (Err e) = (n : ℕ) × (n < length line) × Grew old new (take n line)
