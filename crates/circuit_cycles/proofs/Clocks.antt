-- A clock of a circuit that stands for a machine is a cycle of it, and so are many.
use Rattle.std.proofs.Common.{◌≡◌, ℕ, Bool, true, false, List, [], ◌∷◌, ◌++◌, refl, sym, ap, ◌∙◌}
use Rattle.jop_core.specs.Cycle.{cycle_of, output_of}
use Rattle.circuit_cycles.specs.Core.{next, runs}
use Rattle.circuit_cycles.specs.Stands.{Stands}
use Rattle.circuit_cycles.specs.Runs.{ClocksAreCycles, clocked_out, RunsAreRuns}
use Rattle.circuit_cycles.proofs.IdleClocks.{idle_clock}
use Rattle.circuit_cycles.proofs.Running.{running_clock}
use Rattle.circuit_cycles.proofs.Devices.{clocks_see_the_same}

pub clocks_are_cycles : ClocksAreCycles
clocks_are_cycles shape given c s alive stands can = by (runs c) refl
  where
    by : (b : Bool) → runs c ≡ b → Stands shape (next shape given c) (cycle_of given.input s)
    by true on = running_clock shape given c s alive stands on (λ yes. can (sym (clocks_see_the_same shape c s alive stands).method ∙ yes))
    by false idle = idle_clock shape given c s alive stands idle

pub runs_are_runs : RunsAreRuns
runs_are_runs shape [] c s stands on = record { stands = stands; output = refl }
runs_are_runs shape (given ∷ later) c s stands on =
    let sees = clocks_see_the_same shape c s on.0 stands in
    let step : Stands shape (next shape given c) (cycle_of given.input s) = clocks_are_cycles shape given c s on.0 stands on.1 in
    let rest = runs_are_runs shape later (next shape given c) (cycle_of given.input s) step on.2 in
    record {
      stands = rest.stands;
      output = ap (λ (xs : List ℕ). xs ++ clocked_out shape later (next shape given c)) sees.output ∙ ap (λ (xs : List ℕ). output_of s ++ xs) rest.output;
    }
