-- What is proved of writes that may be the last ones, and of ints that are known.
use Rattle.std.specs.Prelude.{◌≡◌, ℕ, ℤ, Some}
use Rattle.std.specs.Option.{IsSomeAnd}
use Rattle.std.specs.declared.option.Option.{Option}
use Rattle.opcodes.specs.Start.{IsStart}
use Rattle.bytecode_model.specs.Program.{Program, body_of}
use Rattle.bytecode_model.specs.Rows.{Row}
use Rattle.method_flow.specs.Nodes.{Node, At, IsEdge, IsReached}
use Rattle.code_lines.specs.Lines.{IsLine, IsNamed, Writes}
use Rattle.loop_rules.specs.Further.Writing.{MayBeLast}
use Rattle.loop_rules.specs.Further.Known.{Known, Pushes, PushesArray}

-- only at nodes to which control comes may an instruction be the last that wrote a local variable
abbrev pub LastWritesAreReached : Type 0
LastWritesAreReached = (P : Program) (m k : ℕ) (u : Node) (w : Option ℕ) → MayBeLast P m k u w → IsReached (IsEdge P m) u

-- and it writes it, and control comes to it
abbrev pub LastWritesWrite : Type 0
LastWritesWrite = (P : Program) (m k p : ℕ) (u : Node) → MayBeLast P m k u (Some p) → IsReached (IsEdge P m) (At p) × Writes P m p k

-- control comes to instructions of the method alone, and not into the middle of one (4.9.1)
abbrev pub StaysAtStarts : Program → (method : ℕ) → Type 0
StaysAtStarts P m = (p : ℕ) → IsReached (IsEdge P m) (At p) → IsSomeAnd (body_of P m) (λ b. IsStart b.code p)

-- so at each node to which control comes some instruction may be the last that wrote the local variable, or none did
abbrev pub LastWritesExist : Type 0
LastWritesExist = (P : Program) (m k : ℕ) (u : Node) → StaysAtStarts P m → IsReached (IsEdge P m) u → (w : Option ℕ) × MayBeLast P m k u w

-- control comes to this place, and from the line before it alone
pub record IsReachedFromBefore (P : Program) (m to : ℕ) : Type 0 where
  pub stays : StaysAtStarts P m
  pub reached : IsReached (IsEdge P m) (At to)
  pub unnamed : ¬ IsNamed P m to

-- so it comes to that line
abbrev pub LinesBeforeAreReached : Type 0
LinesBeforeAreReached = (P : Program) (m p to : ℕ) (r : Row) → IsReachedFromBefore P m to → IsLine P m p to r → IsReached (IsEdge P m) (At p)

-- there lines push one int at most, from one place on
abbrev pub PushedAreOne : Type 0
PushedAreOne =
    (P : Program) (known : Known) (m from other to : ℕ) (c d : ℤ) → IsReachedFromBefore P m to → Pushes P known m from to c → Pushes P known m other to d
    → (from ≡ other) × (c ≡ d)

-- and arrays of one length at most
abbrev pub ArraysAreOne : Type 0
ArraysAreOne =
    (P : Program) (known : Known) (m from other to n l : ℕ) → IsReachedFromBefore P m to → PushesArray P known m from to n → PushesArray P known m other to l
    → (from ≡ other) × (n ≡ l)

-- control comes to the first of these lines
abbrev pub FirstLinesAreReached : Type 0
FirstLinesAreReached = (P : Program) (known : Known) (m from to : ℕ) (c : ℤ) → IsReachedFromBefore P m to → Pushes P known m from to c
    → IsReached (IsEdge P m) (At from)
