-- To which nodes a search for last writes may skip back, by what instructions do.
use Rattle.std.specs.Prelude.{◌≡◌, ℕ, Bool, true, List, length}
use Rattle.loop_nest.specs.Digraph.{Digraph}
use Rattle.loop_rules.specs.Further.Search.{AreBacks, flag_at}
use Rattle.loop_acts.specs.declared.effects.Act.{Act}
use Rattle.loop_acts.specs.Writing.{IsIdle}

-- flags of so many nodes: those that are set are of nodes that are no instructions that write local variables
pub record AreIdleFlags (acts : List Act) (nodes : ℕ) (flags : List Bool) : Type 0 where
  pub long : length flags ≡ nodes
  pub each : (x : ℕ) → flag_at flags x ≡ true → IsIdle acts x

-- for each node one to which it may be skipped back, past such nodes
pub record AreBacksPast (acts : List Act) (g : Digraph) (backs : List ℕ) : Type 0 where
  pub idle : List Bool
  pub flags : AreIdleFlags acts g.nodes idle
  pub are : AreBacks g idle backs
