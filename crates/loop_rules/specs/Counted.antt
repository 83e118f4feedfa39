-- Loops that count: how often they go round at most is read off the code.
use Rattle.std.specs.Prelude.{◌≡◌, ◌≢◌, ℕ, ℤ, pos, ◌^◌, ◌<◌, ◌≤◌, Bool, List, ◌∷◌}
use Rattle.bytecode_model.specs.Program.{Program}
use Rattle.bytecode_model.specs.Rows as rows
use Rattle.loop_nest.specs.Digraph.{Digraph, Edge}
use Rattle.loop_nest.specs.Walks.{Walk, IsMember, IsBackEdge, TakesEdge}
use Rattle.method_flow.specs.Nodes.{At, number_of}
use Rattle.code_lines.specs.Lines.{IsLine, Writes}
use Rattle.loop_rules.specs.Tests.{Constants, Pushing, PushesLimit, IsTest, LeavesLoop}
use Rattle.loop_rules.specs.Iterations.{IsOnEachIteration, FirstTested, IsSetBefore}
use Rattle.loop_rules.specs.Values.{IsFirstOut}

-- The loop with the header at the place h counts a local variable by s at one place, its step, and is left by a test at another; value n is the first one
-- that leaves it. `Limit` says which lines push the limit, and `Start` with what the local variable begins.
pub record CountsBy (P : Program) (Limit : Pushing) (Start : (local : ℕ) → ℤ → Type 0) (m : ℕ) (g : Digraph) (h n : ℕ) : Type 0 where
  pub local : ℕ
  pub step : ℕ
  pub behind_step : ℕ
  pub s : ℤ
  pub increment : IsLine P m step behind_step (rows.Increment local s)
  pub moves : s ≢ pos 0
  pub each_step : IsOnEachIteration g (number_of (At h)) (number_of (At step))
  pub no_other : (p : ℕ) → IsMember g (number_of (At h)) (number_of (At p)) → Writes P m p local → p ≡ step
  pub test : ℕ
  pub behind_test : ℕ
  pub offset : ℤ
  pub taken : ℤ → Bool
  pub out : ℤ → Bool
  pub is_test : IsTest P Limit m test behind_test local offset taken
  pub each_test : IsOnEachIteration g (number_of (At h)) (number_of (At test))
  pub leaves : LeavesLoop g (number_of (At h)) test behind_test offset taken out
  pub c : ℤ
  pub begins : Start local c
  pub first : ℤ
  pub tested : FirstTested g (number_of (At h)) (number_of (At step)) (number_of (At test)) c s first
  pub first_out : IsFirstOut first s out n
  pub small : n < 2 ^ 32

-- with a limit of one line, and a constant that is stored on the one way in
abbrev pub CountsTo : Program → Constants → (method : ℕ) → Digraph → (header n : ℕ) → Type 0
CountsTo P constants m g h n = CountsBy P (PushesLimit P constants m) (IsSetBefore P m g (number_of (At h))) m g h n

-- the least such number
pub record IsCounted (P : Program) (constants : Constants) (m : ℕ) (g : Digraph) (h n : ℕ) : Type 0 where
  pub counts : CountsTo P constants m g h n
  pub least : (other : ℕ) → CountsTo P constants m g h other → n ≤ other

-- as in a reducible graph, every cycle takes a back edge
abbrev pub EachCycleIsALoop : Digraph → Type 0
EachCycleIsALoop g = (u v : ℕ) (ns : List ℕ) → Edge g u v → Walk g v u ns → (a h : ℕ) × TakesEdge (u ∷ ns) a h × IsBackEdge g a h
