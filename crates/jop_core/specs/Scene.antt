-- The machine with the answers that its input gives, cycle by cycle.
use Rattle.std.specs.Prelude.{ℕ, zero, suc, Bool, true, false, List, [], ◌∷◌, ◌++◌, None}
use Rattle.std.specs.declared.option.Option.{Option}
use Rattle.device_traits.specs.declared.seen.Seen.{Seen}
use Rattle.jop_core.specs.State.{MachineState, seen_of}
use Rattle.jop_core.specs.Cycle.{cycle_of, asks_input, output_of}
use Rattle.device_traits.specs.Told.{DeviceNote}
use Rattle.jop_core.specs.Ticked.{notes_of}

-- answers are those to come, each a byte or the end of the input, and output has the bytes that were put out, the last one first
pub record Scene : Type 0 where
  pub state : MachineState
  pub answers : List (Option ℕ)
  pub output : List ℕ

-- a machine that has put nothing out yet
abbrev pub begun : MachineState → List (Option ℕ) → Scene
begun s answers = record { state = s; answers = answers; output = [] }

-- the next answer; past the last one the input has ended
abbrev pub first_of : List (Option ℕ) → Option ℕ
first_of [] = None
first_of (answer ∷ answers) = answer

abbrev pub rest_of : List (Option ℕ) → List (Option ℕ)
rest_of [] = []
rest_of (answer ∷ answers) = answers

-- the answer to a cycle that asks for one, and the answers that are left then
abbrev pub given : (asks : Bool) → List (Option ℕ) → Option ℕ
given true answers = first_of answers
given false answers = None

abbrev pub left_over : (asks : Bool) → List (Option ℕ) → List (Option ℕ)
left_over true answers = rest_of answers
left_over false answers = answers

-- a cycle of a machine that hasn't halted
abbrev pub next_scene : Scene → Scene
next_scene c = record {
  state = cycle_of (given (asks_input c.state) c.answers) c.state;
  answers = left_over (asks_input c.state) c.answers;
  output = output_of c.state ++ c.output;
}

-- so many cycles
abbrev pub run : ℕ → Scene → Scene
run zero c = c
run (suc k) c = run k (next_scene c)

-- what so many cycles put out
unfoldable pub output_during : ℕ → Scene → List ℕ
output_during zero c = []
output_during (suc k) c = output_during k c ++ output_of (run k c).state

-- the states from which these cycles are done
unfoldable pub seen_during : ℕ → Scene → List Seen
seen_during zero c = []
seen_during (suc k) c = seen_during k c ++ seen_of (run k c).state ∷ []

-- what a device notes of these cycles
unfoldable pub notes_during : ℕ → Scene → List DeviceNote
notes_during zero c = []
notes_during (suc k) c = notes_during k c ++ notes_of (run k c).state
