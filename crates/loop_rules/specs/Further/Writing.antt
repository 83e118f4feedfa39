-- Which instruction wrote a local variable last, by the ways that lead to a node: the reaching definitions of the textbooks.
use Rattle.std.specs.Prelude.{ℕ, Some, None}
use Rattle.std.specs.declared.option.Option.{Option}
use Rattle.bytecode_model.specs.Program.{Program}
use Rattle.method_flow.specs.Nodes.{Node, At, RaiseAt, IsEdge, IsReached}
use Rattle.code_lines.specs.Lines.{Writes}

-- the instruction at the node writes the local variable; a raise step writes none
abbrev pub NodeWrites : Program → (method : ℕ) → Node → (local : ℕ) → Type 0
NodeWrites P m (At p) k = Writes P m p k
NodeWrites P m (RaiseAt p) k = ⊥

-- Once control has come to the node and passed it, the instruction at this place may be the last one that wrote the local variable; none: on some way there
-- no instruction did.
pub data MayBeLast (P : Program) (m k : ℕ) : Node → Option ℕ → Type 0 where
  here : {p : ℕ} → IsReached (IsEdge P m) (At p) → Writes P m p k → MayBeLast P m k (At p) (Some p)
  unwritten : ¬ NodeWrites P m (At 0) k → MayBeLast P m k (At 0) None
  before : {u v : Node} {w : Option ℕ} → MayBeLast P m k u w → IsEdge P m u v → ¬ NodeWrites P m v k → MayBeLast P m k v w
