-- What the rules say of an instruction at a place of a method: JVM Specification SE 8, 4.10.1.9.
use Rattle.std.specs.Prelude.{◌≡◌, ℕ, if◌then◌else◌, List, Option, Some, None, ℤ, pos, ◌+ℤ◌}
use Rattle.bytecode_model.specs.Lists.{natural}
use Rattle.bytecode_model.specs.Program.{Program, Method, Body}
use Rattle.bytecode_model.specs.Rows.{Row}
use Rattle.bytecode_typing.specs.Types as typing
use Rattle.bytecode_typing.specs.Rules as rules
use Rattle.bytecode_typing.specs.Checks as checks
use Rattle.verifier_types.specs.declared.frame.TypeFrame.{TypeFrame}
use Rattle.verifier_types.specs.declared.checked.Rule.{Rule}
use Rattle.verifier_types.specs.declared.checked.Rule.TheVariants.{Flow, Merge, Operand, Stack, Access, Init, Target, Handled}
use Rattle.verifier_types.specs.declared.checked.Checked.{Checked}
use Rattle.verifier_types.specs.declared.checked.Checked.TheVariants.{Fails, Leaves}
use Rattle.verifier_types.specs.Frame.{frame_seen}

abbrev pub rule_seen : Rule → rules.Rule
rule_seen Flow = rules.Flow
rule_seen Merge = rules.Merge
rule_seen Operand = rules.Operand
rule_seen Stack = rules.Stack
rule_seen Access = rules.Access
rule_seen Init = rules.Init
rule_seen Target = rules.Target
rule_seen Handled = rules.Handled

-- with the frame behind the instruction
abbrev pub checked_seen : Checked → typing.TypeFrame → rules.Checked
checked_seen (Fails r) f = rules.Fails (rule_seen r)
checked_seen (Leaves l) f = rules.Leaves (if l.falls then Some f else None) l.access l.init l.target

-- what stands around an instruction: the program, the method with its number and its body, the frames that its StackMapTable gives by place, and the
-- instruction's place
pub record Site : Type 0 where
  pub program : Program
  pub number : ℕ
  pub method : Method
  pub body : Body
  pub maps : ℕ → Option typing.TypeFrame
  pub place : ℕ

-- what the rules say of the row there, with this frame before it
abbrev pub check_at : Site → typing.TypeFrame → Row → rules.Checked
check_at s f r = checks.row_check s.program s.number s.method s.body s.maps s.place f r

-- the frame at the target of a branch over this offset
abbrev pub target_at : Site → typing.TypeFrame → ℤ → Option typing.TypeFrame
target_at s f offset = checks.frame_at s.program s.number s.method s.body s.maps s.place f (natural (pos s.place +ℤ offset))

-- the code's answer and the frame that it leaves are what the rules say of the row, with the frame that it was given, the lists of types of local
-- variables being the first ones before and the second ones after
abbrev pub ChecksOver : (before after : List (List typing.VarType)) → Site → Row → (old : TypeFrame) → Checked → (new : TypeFrame) → Type 0
ChecksOver before after s row old checked new = checked_seen checked (frame_seen after new) ≡ check_at s (frame_seen before old) row

-- the same where no list is added
abbrev pub ChecksIn : List (List typing.VarType) → Site → Row → (old : TypeFrame) → Checked → (new : TypeFrame) → Type 0
ChecksIn ls s row old checked new = ChecksOver ls ls s row old checked new

-- the same whatever the lists are
abbrev pub ChecksSite : Site → Row → (old : TypeFrame) → Checked → (new : TypeFrame) → Type 0
ChecksSite s row old checked new = (ls : List (List typing.VarType)) → ChecksIn ls s row old checked new
