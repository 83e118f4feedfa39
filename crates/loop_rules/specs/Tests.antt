-- The test by which a loop that counts is left: an int branch that compares a local variable with a limit (JVM Specification SE 8, 6.5.if_cond and
-- 6.5.if_icmp_cond).
use Rattle.std.specs.Prelude.{◌≡◌, ℕ, ℤ, Bool, not, [], ◌∷◌, Option, Some}
use Rattle.bytecode_model.specs.declared.Value.TheVariants.{Int}
use Rattle.bytecode_model.specs.Types.{IntType, Numbers}
use Rattle.bytecode_model.specs.Program.{Program}
use Rattle.bytecode_model.specs.Rows as rows
use Rattle.bytecode_model.specs.Rows.{Row}
use Rattle.loop_nest.specs.Digraph.{Digraph}
use Rattle.loop_nest.specs.Walks.{IsMember}
use Rattle.method_flow.specs.Nodes.{At, number_of, IsAtOffset}
use Rattle.code_lines.specs.Lines.{IsLine, IsNamed, IsNeverPut}

-- ---- the limit

-- static final ints by their numbers, with their constants (4.7.2)
abbrev pub Constants : Type 0
Constants = (field : ℕ) → Option ℤ

-- what the test compares with, by the row that pushes it: an int constant, or a static final int that no instruction writes
pub data IsLimit (P : Program) (constants : Constants) : Row → ℤ → Type 0 where
  constant : {c : ℤ} → IsLimit P constants (rows.Push (Int c)) c
  field : {f : ℕ} {c : ℤ} → constants f ≡ Some c → IsNeverPut P f → IsLimit P constants (rows.GetStatic f) c

-- lines from one place on, up to another, push an int, by some relation
abbrev pub Pushing : Type 1
Pushing = (from to : ℕ) → ℤ → Type 0

-- a limit is pushed by one line
abbrev pub PushesLimit : Program → Constants → (method : ℕ) → Pushing
PushesLimit P constants m from to c = (r : Row) × IsLine P m from to r × IsLimit P constants r c

-- ---- the branch

-- Whether the branch at the place p is taken, by the value of the local variable. The variable is pushed directly before the branch, which compares it with
-- 0, or directly before the lines that push the limit. Nothing names the branch or the first of those lines, so that control comes through all of them.
pub data IsTest (P : Program) (Limit : Pushing) (m : ℕ) (p next : ℕ) (local : ℕ) (offset : ℤ) : (ℤ → Bool) → Type 0 where
  with_zero : {load : ℕ} {test : ℤ → Bool} → IsLine P m load p (rows.Load (Numbers IntType) local) → IsLine P m p next (rows.Branch (IntType ∷ []) test offset)
      → ¬ IsNamed P m p
      → IsTest P Limit m p next local offset test
  with_limit : {load push : ℕ} {limit : ℤ} {test : ℤ → ℤ → Bool} → IsLine P m load push (rows.Load (Numbers IntType) local) → Limit push p limit
      → IsLine P m p next (rows.Branch (IntType ∷ IntType ∷ []) test offset) → ¬ IsNamed P m p → ¬ IsNamed P m push
      → IsTest P Limit m p next local offset (λ value. test limit value)

-- Where one successor of the branch is a member of the loop and the other is none: which values leave the loop. The first function says which take the branch.
pub data LeavesLoop (g : Digraph) (h p next : ℕ) (offset : ℤ) (taken : ℤ → Bool) : (ℤ → Bool) → Type 0 where
  where_taken : {q : ℕ} → IsAtOffset p offset q → ¬ IsMember g h (number_of (At q)) → IsMember g h (number_of (At next))
      → LeavesLoop g h p next offset taken taken
  where_not : {q : ℕ} → IsAtOffset p offset q → IsMember g h (number_of (At q)) → ¬ IsMember g h (number_of (At next))
      → LeavesLoop g h p next offset taken (λ value. not (taken value))
