-- What the fields of bounds mean.
use Rattle.std.specs.Prelude.{ℕ, List, [], ◌∷◌, slice_index_or}
use Rattle.bound_texts.specs.declared.loops.site.Site.{Site}
use Rattle.bound_texts.specs.declared.loops.quantity.Quantity.{Quantity}
use Rattle.bound_texts.specs.declared.loops.line.Found.{Found}
use Rattle.bound_texts.specs.declared.loops.line.Said.{Said}
use Rattle.bound_texts.specs.declared.loops.line.Said.TheVariants.{Nothing, Bound, Malformed}
use Rattle.bound_texts.specs.Loops.Bounds.{LoopBound}
use Rattle.bound_texts.specs.Loops.Lines.{SaysBound, IsNoLine}

-- a bound as it is kept, where these are the names
abbrev pub bound_of : (names : List (List ℕ)) → Site × ℕ → LoopBound
bound_of names e = record { name = slice_index_or names e.0.name []; pc = e.0.pc; bound = e.1 }

-- a bound as it is read
abbrev pub bound_at : Found → LoopBound
bound_at found = record { name = found.name.now; pc = found.pc; bound = found.bound }

-- what a line was found to say
abbrev pub FindsBound : (quantity : Quantity) (line : List ℕ) → Said → Type 0
FindsBound quantity line Nothing = SaysBound quantity line []
FindsBound quantity line (Bound found) = SaysBound quantity line (bound_at found ∷ [])
FindsBound quantity line Malformed = IsNoLine quantity line
