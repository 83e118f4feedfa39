-- Which methods can end, and the part of a method's graph that a run can take until then.
use Rattle.std.specs.Prelude.{ℕ, List, [], ◌∷◌}
use Rattle.bytecode_model.specs.Program.{Program}
use Rattle.method_flow.specs.Nodes.{Node, At, number_of, IsEdge, IsExit}
use Rattle.method_flow.specs.Calls.{IsCall, IsTarget}

-- the edge leads from an invoke to the instruction behind it: control takes it where the invoked method returns
abbrev pub IsReturning : Program → (method : ℕ) → Node → Node → Type 0
IsReturning P m (At p) (At q) = IsCall P m p
IsReturning P m u v = ⊥

-- A method can end where an exit is reached from its first instruction, and an invoke goes on to the next instruction only where one of its targets
-- can end. The two sentences use each other; these are the least sets of which both hold.
mutual
  pub data CanEnd (P : Program) : ℕ → Type 0 where
    ends : {m : ℕ} → EndsFrom P m (At 0) → CanEnd P m

  -- an exit is reached from the node
  pub data EndsFrom (P : Program) : ℕ → Node → Type 0 where
    here : {m : ℕ} {u : Node} → IsExit P m u → EndsFrom P m u
    along : {m : ℕ} {u v : Node} → IsEdge P m u v → ¬ IsReturning P m u v → EndsFrom P m v → EndsFrom P m u
    behind : {m t p q : ℕ} → IsEdge P m (At p) (At q) → IsTarget P m p t → CanEnd P t → EndsFrom P m (At q) → EndsFrom P m (At p)

-- a run can take the edge: where it leads behind an invoke, one of its targets can end
abbrev pub CanBeTaken : Program → (method : ℕ) → Node → Node → Type 0
CanBeTaken P m (At p) (At q) = IsCall P m p → (t : ℕ) × IsTarget P m p t × CanEnd P t
CanBeTaken P m u v = Unit {0}

pub record IsLiveEdge (P : Program) (m : ℕ) (u v : Node) : Type 0 where
  pub edge : IsEdge P m u v
  pub goes_on : CanBeTaken P m u v

-- a walk that a run can take from a node to an exit, and the numbers of its nodes
pub data LiveWalk (P : Program) (m : ℕ) : Node → List ℕ → Type 0 where
  stops : {u : Node} → IsExit P m u → LiveWalk P m u (number_of u ∷ [])
  along : {u v : Node} {ns : List ℕ} → IsLiveEdge P m u v → LiveWalk P m v ns → LiveWalk P m u (number_of u ∷ ns)
