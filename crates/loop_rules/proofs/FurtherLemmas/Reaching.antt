-- What may have written a local variable last.
use Rattle.std.proofs.Common.{◌≡◌, ℕ, Option, Some, refl, subst}
use Rattle.lists.proofs.Lemmas.{none≢some, some_same}
use Rattle.bytecode_model.specs.Program.{Program}
use Rattle.method_flow.specs.Nodes.{Node, At, IsEdge, IsReached}
use Rattle.method_flow.specs.Nodes.IsReached.{first, later}
use Rattle.code_lines.specs.Lines.{Writes}
use Rattle.loop_rules.specs.Further.Writing.{MayBeLast}
use Rattle.loop_rules.specs.Further.Writing.MayBeLast.{here, unwritten, before}
use Rattle.loop_rules.specs.Further.Laws.{LastWritesAreReached, LastWritesWrite}

pub reached : {P : Program} {m k : ℕ} {u : Node} {w : Option ℕ} → MayBeLast P m k u w → IsReached (IsEdge P m) u
reached (here come writes) = come
reached (unwritten none) = first
reached (before last edge none) = later (reached last) edge

pub last_writes_are_reached : LastWritesAreReached
last_writes_are_reached P m k u w last = reached last

writes : {P : Program} {m k : ℕ} {u : Node} {w : Option ℕ} → MayBeLast P m k u w → (p : ℕ) → w ≡ Some p → IsReached (IsEdge P m) (At p) × Writes P m p k
writes {P} {m} {k} (here {p = q} come write) p e = subst (λ (x : ℕ). IsReached (IsEdge P m) (At x) × Writes P m x k) (some_same q p e) (come, write)
writes (unwritten none) p e = absurd (none≢some p e)
writes (before last edge none) p e = writes last p e

pub last_writes_write : LastWritesWrite
last_writes_write P m k p u last = writes last p refl
