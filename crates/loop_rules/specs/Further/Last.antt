-- What may have written a local variable last, found by searches in the graph of a method.
use Rattle.std.specs.Prelude.{◌≡◌, ◌↔◌, ◌⊎◌, ℕ, ◌*◌, Contains, Some, None, IsTrue}
use Rattle.std.specs.declared.option.Option.{Option}
use Rattle.bytecode_model.specs.Program.{Program}
use Rattle.method_flow.specs.Nodes.{Node, At, IsEdge, IsReached, number_of}
use Rattle.code_lines.specs.Lines.{Writes}
use Rattle.loop_rules.specs.declared.further.writes.LastWrites.{LastWrites}
use Rattle.loop_rules.specs.Further.Writing.{NodeWrites, MayBeLast}

-- it stops at instructions alone, among them all that write the local variable
pub record StopsAtWrites (P : Program) (m k : ℕ) (Stop : ℕ → Type 0) : Type 0 where
  pub instruction : (x : ℕ) → Stop x → (p : ℕ) × (x ≡ 2 * p)
  pub writes : (p : ℕ) → Writes P m p k → Stop (2 * p)

-- just at those that do
abbrev pub StopsAtWritesAlone : Program → (method local : ℕ) → (Stop : ℕ → Type 0) → Type 0
StopsAtWritesAlone P m k Stop = (u : Node) → Stop (number_of u) ↔ NodeWrites P m u k

-- The instructions at which a search stopped that went back from the node: what may have written the local variable last at one of these may have done so at
-- the node, and else nothing but that it was written on no way from the beginning of the method, where the search came to that.
pub record AreNearest (P : Program) (m k : ℕ) (u : Node) (Stop : ℕ → Type 0) (found : LastWrites) : Type 0 where
  pub stops : (p : ℕ) → Contains found.places.items p → Stop (2 * p) × IsReached (IsEdge P m) (At p)
  pub led : (p : ℕ) (w : Option ℕ) → Contains found.places.items p → MayBeLast P m k (At p) w → MayBeLast P m k u w
  pub all : (w : Option ℕ) → MayBeLast P m k u w
      → ((p : ℕ) × Contains found.places.items p × MayBeLast P m k (At p) w) ⊎ (IsTrue found.unwritten × (w ≡ None))
  pub begun : IsTrue found.unwritten → MayBeLast P m k u None

-- just the instructions that may have written it last once control has come to the node and passed it, and whether there is a way on which none did
pub record AreLastWrites (P : Program) (m k : ℕ) (u : Node) (found : LastWrites) : Type 0 where
  pub places : (w : ℕ) → Contains found.places.items w ↔ MayBeLast P m k u (Some w)
  pub unwritten : IsTrue found.unwritten ↔ MayBeLast P m k u None
