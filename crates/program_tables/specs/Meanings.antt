-- What the code has in place of operands, handlers, declared types and methods.
use Rattle.std.specs.Prelude.{◌≡◌, ℕ, Bool, true, false, List, length, map, Option, Some, slice_get}
use Rattle.std.specs.Option.{option_map, IsSomeAnd}
use Rattle.class_pool.specs.declared.class.ClassFile.{ClassFile}
use Rattle.descriptors.specs.declared.descriptor.Element.{Element}
use Rattle.descriptors.specs.declared.descriptor.Element.TheVariants as elements
use Rattle.bytecode_model.specs.Types as model
use Rattle.bytecode_model.specs.Types.{IntType, LongType}
use Rattle.bytecode_model.specs.Program as definitions
use Rattle.bytecode_model.specs.Program.{NoOperand, AnInt, ALong, AString, AStatic, AField, AMethod, AType, Method}
use Rattle.program_tables.specs.declared.operand.Operand.{Operand}
use Rattle.program_tables.specs.declared.operand.Operand.TheVariants as operands
use Rattle.program_tables.specs.declared.operand.Handler.{Handler}
use Rattle.program_tables.specs.declared.operand.Declared.{Declared}
use Rattle.program_tables.specs.declared.operand.Declared.TheVariants as types
use Rattle.program_tables.specs.declared.operand.MethodShape.{MethodShape}
use Rattle.class_pool.specs.Grammar.{text_at}
use Rattle.program_tables.specs.Kinds.{field_declared}
use Rattle.program_tables.specs.Numbers.{methods_by_number}
use Rattle.program_tables.specs.Resolved.{resolved_methods}
use Rattle.program_tables.specs.Tables.{kind_seen}

abbrev pub operand_seen : Operand → definitions.Operand
operand_seen operands.Nothing = NoOperand
operand_seen (operands.Int n) = AnInt n
operand_seen (operands.Long n) = ALong n
operand_seen (operands.Text object) = AString object
operand_seen (operands.Static field) = AStatic field
operand_seen (operands.Field named owner index) = AField named owner index
operand_seen (operands.Method named method) = AMethod named method
operand_seen (operands.Type kind) = AType (kind_seen kind)

abbrev pub handler_seen : Handler → definitions.Handler
handler_seen h = record { start = h.start; end = h.end; target = h.target; caught = option_map kind_seen h.caught }

abbrev pub declared_seen : Declared → model.Declared
declared_seen types.Int = model.Numeric IntType
declared_seen types.Long = model.Numeric LongType
declared_seen (types.Reference kind) = model.Reference (kind_seen kind)

-- the method is this, apart from its code
pub record HasShape (s : MethodShape) (k : Method) : Type 0 where
  pub owner : k.owner ≡ s.owner
  pub has_this : k.has_this ≡ s.has_this
  pub is_init : k.is_init ≡ s.is_init
  pub parameters : k.parameters ≡ map declared_seen s.parameters
  pub result : k.result ≡ option_map declared_seen s.result

-- by number
pub record AreShapes (cs : List ClassFile) (shapes : List MethodShape) : Type 0 where
  pub long : length shapes ≡ length (methods_by_number cs)
  pub each : (n : ℕ) (s : MethodShape) → slice_get shapes n ≡ Some s → IsSomeAnd (slice_get (resolved_methods cs) n) (HasShape s)

abbrev pub types_seen : List (Option Declared) → List (Option model.Declared)
types_seen types = map (option_map declared_seen) types

-- what the fields of a class hold, in their order
abbrev pub field_types_in : List ClassFile → ClassFile → List (Option model.Declared)
field_types_in cs c = map (λ f. field_declared cs (text_at c.pool f.descriptor)) c.fields

abbrev pub is_of_class : Element → Bool
is_of_class (elements.Class name) = true
is_of_class element = false
