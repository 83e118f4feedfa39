-- Numbers of methods exist (JVM Specification SE 8, 4.7.3; JOP Reference Handbook, "Method Cache").
use Rattle.std.specs.Prelude.{◌≡◌, ◌<◌, ◌≤◌, ℕ, List, length, Some, IsSome}
use Rattle.class_pool.specs.declared.class.ClassFile.{ClassFile}
use Rattle.program_tables.specs.Resolved.{resolved}
use Rattle.program_tables.specs.Resolving.{IsResolved}
use Rattle.bytecode_model.specs.Program.{Program, Body, body_of}
use Rattle.bytecode_typing.specs.Typed.{Typing, Typed}
use Rattle.bytecode_typing.specs.Lawful.{Lawful}
use Rattle.method_flow.specs.Nodes.{Node, IsEdge, IsReached}
use Rattle.method_flow.specs.Keeping.{BoundOf}
use Rattle.method_flow.specs.declared.timing.Timing.{Timing}
use Rattle.method_flow.specs.Costs.{IsOwnCost}
use Rattle.bound_rules.specs.Bounding.{HasNoRecursion, AreReducible, HaveLines}
use Rattle.bound_rules.specs.Laws.{CallsEnd}
use Rattle.bound_rules.specs.Numbers.{Numbers, AreNumbers}

-- the code and the exception table are of lengths that a class file can tell (4.7.3)
pub record IsShort (b : Body) : Type 0 where
  pub code : length b.code < 65536
  pub handlers : length b.handlers < 65536

abbrev pub HaveShortCodes : Program → Type 0
HaveShortCodes P = (m : ℕ) (b : Body) → body_of P m ≡ Some b → IsShort b

-- so they are where the program comes of resolved classes
abbrev pub ResolvedCodesAreShort : Type 0
ResolvedCodesAreShort = (cs : List ClassFile) → IsResolved cs → HaveShortCodes (resolved cs)

-- each node to which control comes in a method with code has a cost by itself
abbrev pub HaveOwnCosts : Program → Timing → Type 0
HaveOwnCosts P t = (m : ℕ) → IsSome (body_of P m) → (u : Node) → IsReached (IsEdge P m) u → (cost : ℕ) × IsOwnCost P t m u cost

-- so it is in typed programs, with the waits of a machine's memory
abbrev pub OwnCostsExist : Type 0
OwnCostsExist = (P : Program) (types : Typing) (t : Timing) → Typed P types → t.read ≤ 63 → t.write ≤ 63 → HaveShortCodes P → HaveOwnCosts P t

-- where no method that may run calls itself, by however many calls, each chain of calls comes to an end
abbrev pub CallsEndWithoutRecursion : Type 0
CallsEndWithoutRecursion = (P : Program) (root : ℕ) → Lawful P → IsSome (body_of P root) → HasNoRecursion P root → CallsEnd P root

-- A method has a family of numbers where there is no recursion, all graphs are reducible and each loop has a bound. Which nodes are reached, and which
-- methods can end, is asked finitely often, and no test here tells it: it is said that there can't be none.
abbrev pub NumbersExist : Type 0
NumbersExist =
    (P : Program) (types : Typing) (t : Timing) (bound_of : BoundOf) (root : ℕ) → Typed P types → Lawful P → HaveOwnCosts P t → IsSome (body_of P root)
    → HasNoRecursion P root → AreReducible P root → HaveLines P bound_of root
    → ¬ ¬ ((N : Numbers) × AreNumbers P t bound_of root N)
