-- The row of an instruction by its family: JVM Specification SE 8, 6.5.
-- For contracts within this crate alone: no public contract's meaning rests on this file.
use Rattle.std.specs.Prelude.{◌≡◌, ℕ, pos, true, List, map, Option, None}
use Rattle.std.specs.Option.{option_map}
use Rattle.opcodes.specs.declared.instruction.Instr.{Instr}
use Rattle.bytecode_model.specs.declared.Value.TheVariants as values
use Rattle.bytecode_model.specs.Program.{Operand}
use Rattle.bytecode_model.specs.Rows as rows
use Rattle.bytecode_model.specs.Rows.{Row}
use Rattle.bytecode_model.specs.Table.{row_of, always, constant, long_constant, by_local, increment, by_offset, switch, lookup_switch, by_static, by_field}
use Rattle.bytecode_model.specs.Table.{by_method, by_type, by_class, by_code}
use Rattle.verifier_types.specs.Seen.{number_seen, moved_seen, width_seen, form_seen}
use Rattle.bytecode_verifier.specs.declared.family.Value.{Value}
use Rattle.bytecode_verifier.specs.declared.family.Value.TheVariants as value
use Rattle.bytecode_verifier.specs.declared.family.Array.{Array}
use Rattle.bytecode_verifier.specs.declared.family.Array.TheVariants as array
use Rattle.bytecode_verifier.specs.declared.family.Named.{Named}
use Rattle.bytecode_verifier.specs.declared.family.Named.TheVariants as named
use Rattle.bytecode_verifier.specs.declared.family.Field.{Field}
use Rattle.bytecode_verifier.specs.declared.family.Field.TheVariants as field
use Rattle.bytecode_verifier.specs.declared.family.Call.{Call}
use Rattle.bytecode_verifier.specs.declared.family.Call.TheVariants as call
use Rattle.bytecode_verifier.specs.declared.family.Leads.{Leads}
use Rattle.bytecode_verifier.specs.declared.family.Leads.TheVariants as leads
use Rattle.bytecode_verifier.specs.declared.family.Family.{Family}
use Rattle.bytecode_verifier.specs.declared.family.Family.TheVariants as family
use Rattle.bytecode_verifier.specs.Plain.{any_of, plain}

-- the row as far as the rules look at it, by the code, the instruction and what its pool entry means
abbrev pub value_row : Value → List ℕ → Instr → Operand → Option Row
value_row value.Nothing = always rows.Nothing
value_row value.PushNull = always (rows.Push values.Null)
value_row value.PushInt = always (rows.Push (values.Int (pos 0)))
value_row value.PushLong = always (rows.Push (values.Long (pos 0)))
value_row (value.Compute taken given) = always (rows.Compute (map number_seen taken.now) (number_seen given) (any_of (map number_seen taken.now) None))
value_row (value.Load sort) = by_local (rows.Load (moved_seen sort))
value_row (value.LoadAt sort index) = always (rows.Load (moved_seen sort) index)
value_row (value.Store sort) = by_local (rows.Store (moved_seen sort))
value_row (value.StoreAt sort index) = always (rows.Store (moved_seen sort) index)
value_row value.Increment = increment
value_row (value.Shuffle form upper lower) = always (rows.Shuffle (form_seen form) (width_seen upper) (width_seen lower))
value_row value.Write = always rows.Write

abbrev pub array_row : Array → List ℕ → Instr → Operand → Option Row
array_row array.New = by_code rows.NewNumbers
array_row array.Length = always rows.Length
array_row (array.LoadNumber number codes) = always (rows.LoadNumber (number_seen number) codes.now)
array_row (array.StoreNumber number codes) = always (rows.StoreNumber (number_seen number) codes.now (λ n. n))
array_row array.LoadReference = always rows.LoadReference
array_row array.StoreReference = always rows.StoreReference
array_row array.Monitor = always rows.Monitor

abbrev pub named_row : Named → List ℕ → Instr → Operand → Option Row
named_row named.Constant = constant
named_row named.LongConstant = long_constant
named_row named.New = by_class rows.New
named_row named.NewArray = by_type rows.NewReferences
named_row named.Cast = by_type rows.Cast
named_row named.Test = by_type rows.Test

abbrev pub field_row : Field → List ℕ → Instr → Operand → Option Row
field_row field.GetStatic = by_static rows.GetStatic
field_row field.PutStatic = by_static rows.PutStatic
field_row field.Get = by_field rows.GetField
field_row field.Put = by_field rows.PutField

abbrev pub call_row : Call → List ℕ → Instr → Operand → Option Row
call_row call.Static = by_method (λ named m. rows.CallStatic m)
call_row call.Special = by_method rows.CallSpecial
call_row call.Virtual = by_method rows.CallVirtual
call_row call.Interface = by_method rows.CallInterface

abbrev pub leads_row : Leads → List ℕ → Instr → Operand → Option Row
leads_row (leads.Branch taken) = by_offset (rows.Branch (map number_seen taken.now) (any_of (map number_seen taken.now) true))
leads_row leads.Same = by_offset (rows.BranchSame true)
leads_row leads.IsNull = by_offset (rows.BranchNull true)
leads_row leads.Jump = by_offset rows.Jump
leads_row leads.TableSwitch = switch
leads_row leads.LookupSwitch = lookup_switch
leads_row leads.Throw = always rows.Throw
leads_row (leads.Return given) = always (rows.Return (option_map moved_seen given))

abbrev pub family_row : Family → List ℕ → Instr → Operand → Option Row
family_row family.Unknown code i o = None
family_row (family.Value f) code i o = value_row f code i o
family_row (family.Array f) code i o = array_row f code i o
family_row (family.Named f) code i o = named_row f code i o
family_row (family.Field f) code i o = field_row f code i o
family_row (family.Call f) code i o = call_row f code i o
family_row (family.Leads f) code i o = leads_row f code i o

-- it has the row of each instruction with the opcode
unfoldable pub IsFamilyOf : (op : ℕ) → Family → Type 0
IsFamilyOf op f = (code : List ℕ) (i : Instr) (o : Operand) → i.op ≡ op → option_map plain (row_of code i o) ≡ option_map plain (family_row f code i o)
