-- What is said of how a command ended.
use Rattle.std.specs.Prelude.{ℕ, ◌<◌, ◌≤◌, Bool, true, false, List, ◌++◌, length, take, codes, Ok, Err}
use Rattle.std.specs.declared.option.Option.{Option}
use Rattle.std.specs.declared.result.Result.{Result}
use Rattle.outside.specs.Outside.{Grew, Rose}

abbrev pub write_fault_line : List ℕ
write_fault_line = codes "write fault\n"

-- The sink failed at the line of an answer, of which a front was put. Then the line of a write fault was put behind it, or less of that line and the sink
-- failed again.
pub record SaidFault (line : List ℕ) (old new : Option (List ℕ)) (before now : ℕ) : Type 0 where
  pub front : ℕ
  pub part : front < length line
  pub middle : ℕ
  pub rose : Rose before middle
  pub later : middle ≤ now
  pub fault_front : ℕ
  pub fault_within : fault_front ≤ length write_fault_line
  pub fault_part : fault_front < length write_fault_line → Rose middle now
  pub put : Grew old new (take front line ++ take fault_front write_fault_line)

-- The sink failed at the line of a fault or of want of memory, of which a front was put.
pub record SaidPart (line : List ℕ) (old new : Option (List ℕ)) (before now : ℕ) : Type 0 where
  pub front : ℕ
  pub part : front < length line
  pub rose : Rose before now
  pub put : Grew old new (take front line)

abbrev pub SaidLess : (is_fault : Bool) → (line : List ℕ) → (old new : Option (List ℕ)) → (before now : ℕ) → Type 0
SaidLess true line old new before now = SaidPart line old new before now
SaidLess false line old new before now = SaidFault line old new before now

-- what a sink was given of a line, and its counts of faults: the whole line, or less where it failed
abbrev pub Said : {T E : Type 0} → (is_fault : Bool) → (line : List ℕ) → (old new : Option (List ℕ)) → (before now : ℕ) → Result T E → Type 0
Said is_fault line old new before now (Ok x) = Grew old new line
Said is_fault line old new before now (Err e) = SaidLess is_fault line old new before now
