-- The names that refusals give to items of class files, to reasons, to rules of the verifier and to what has limits.
use Rattle.std.specs.Prelude.{ℕ, List, codes}
use Rattle.opcodes.specs.Row.{row_of}
use Rattle.program_tables.specs.declared.refusal.Item.{Item}
use Rattle.program_tables.specs.declared.refusal.Item.TheVariants.{Opcode, LdcFloat, LdcClass, LdcMethod, LdcDouble, NewarrayFloat, NewarrayDouble}
use Rattle.program_tables.specs.declared.refusal.Item.TheVariants.{DescriptorFloat, DescriptorDouble, Native, InterfaceCode}
use Rattle.program_tables.specs.declared.refusal.Why.{Why}
use Rattle.program_tables.specs.declared.refusal.Why.TheVariants.{NoClass, NoField, NoMethod, NotAccessible, WrongKind, NotImplemented}
use Rattle.verifier_types.specs.declared.checked.Rule.{Rule}
use Rattle.verifier_types.specs.declared.checked.Rule.TheVariants as rules
use Rattle.bytecode_verifier.specs.declared.fault.MethodRule.{MethodRule}
use Rattle.bytecode_verifier.specs.declared.fault.MethodRule.TheVariants as methods
use Rattle.image_builder.specs.declared.fault.Counted.{Counted}
use Rattle.image_builder.specs.declared.fault.Counted.TheVariants.{Types, InterfaceMethods, Methods, Words}

-- an opcode has its mnemonic, behind wide too
abbrev pub item_name : Item → List ℕ
item_name (Opcode op) = (row_of op).mnemonic
item_name LdcFloat = codes "ldc float"
item_name LdcClass = codes "ldc class"
item_name LdcMethod = codes "ldc method"
item_name LdcDouble = codes "ldc2_w double"
item_name NewarrayFloat = codes "newarray float"
item_name NewarrayDouble = codes "newarray double"
item_name DescriptorFloat = codes "descriptor F"
item_name DescriptorDouble = codes "descriptor D"
item_name Native = codes "native"
item_name InterfaceCode = codes "interface code"

abbrev pub why_name : Why → List ℕ
why_name NoClass = codes "NoClass"
why_name NoField = codes "NoField"
why_name NoMethod = codes "NoMethod"
why_name NotAccessible = codes "NotAccessible"
why_name WrongKind = codes "WrongKind"
why_name NotImplemented = codes "NotImplemented"

-- the rules of the walk over the instructions of a method
abbrev pub walk_rule_name : Rule → List ℕ
walk_rule_name rules.Flow = codes "flow"
walk_rule_name rules.Merge = codes "merge"
walk_rule_name rules.Operand = codes "operand"
walk_rule_name rules.Stack = codes "stack"
walk_rule_name rules.Access = codes "access"
walk_rule_name rules.Init = codes "init"
walk_rule_name rules.Target = codes "target"
walk_rule_name rules.Handled = codes "handler"

abbrev pub rule_name : MethodRule → List ℕ
rule_name methods.Opcode = codes "opcode"
rule_name methods.Table = codes "table"
rule_name methods.Map = codes "map"
rule_name (methods.Walk rule) = walk_rule_name rule

-- what an image has at most so many of
abbrev pub limit_name : Counted → List ℕ
limit_name Types = codes "Types"
limit_name InterfaceMethods = codes "InterfaceMethods"
limit_name Methods = codes "Methods"
limit_name Words = codes "Words"
