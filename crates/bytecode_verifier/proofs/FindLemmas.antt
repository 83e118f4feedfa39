-- What the rules say of an instruction of a known family.
use Rattle.std.proofs.Common.{◌≡◌, ℕ, suc, Bool, true, false, List, Option, Some, None, sym, ap}
use Rattle.std.specs.Prelude.{if◌then◌else◌}
use Rattle.lists.specs.Lists.{onto}
use Rattle.lists.proofs.Lemmas.{none≢some, some_same}
use Rattle.bytecode_model.specs.Types.{Kind, OfReferences}
use Rattle.program_tables.specs.Kinds.{arrays_of}
use Rattle.bytecode_model.specs.Rows.{Row}
use Rattle.opcodes.specs.declared.instruction.Instr.{Instr}
use Rattle.bytecode_model.specs.Program.{Operand}
use Rattle.bytecode_typing.specs.Types.{TypeFrame}
use Rattle.verifier_types.specs.Site.{Site}
use Rattle.bytecode_verifier.specs.declared.family.Value.{Value}
use Rattle.bytecode_verifier.specs.declared.family.Array.{Array}
use Rattle.bytecode_verifier.specs.declared.family.Named.{Named}
use Rattle.bytecode_verifier.specs.declared.family.Field.{Field}
use Rattle.bytecode_verifier.specs.declared.family.Call.{Call}
use Rattle.bytecode_verifier.specs.declared.family.Leads.{Leads}
use Rattle.bytecode_verifier.specs.Family.{value_row, array_row, named_row, field_row, call_row, leads_row}
use Rattle.bytecode_verifier.specs.Plain.{check_found}

pub by_value : (s : Site) (f : TypeFrame) (code : List ℕ) (i : Instr) (o : Operand) (g h : Value) → g ≡ h → check_found s f (value_row h code i o) ≡ check_found s f (value_row g code i o)
by_value s f code i o g h e = ap (λ x. check_found s f (value_row x code i o)) (sym e)

pub by_array : (s : Site) (f : TypeFrame) (code : List ℕ) (i : Instr) (o : Operand) (g h : Array) → g ≡ h → check_found s f (array_row h code i o) ≡ check_found s f (array_row g code i o)
by_array s f code i o g h e = ap (λ x. check_found s f (array_row x code i o)) (sym e)

pub by_named : (s : Site) (f : TypeFrame) (code : List ℕ) (i : Instr) (o : Operand) (g h : Named) → g ≡ h → check_found s f (named_row h code i o) ≡ check_found s f (named_row g code i o)
by_named s f code i o g h e = ap (λ x. check_found s f (named_row x code i o)) (sym e)

pub by_field : (s : Site) (f : TypeFrame) (code : List ℕ) (i : Instr) (o : Operand) (g h : Field) → g ≡ h → check_found s f (field_row h code i o) ≡ check_found s f (field_row g code i o)
by_field s f code i o g h e = ap (λ x. check_found s f (field_row x code i o)) (sym e)

pub by_call : (s : Site) (f : TypeFrame) (code : List ℕ) (i : Instr) (o : Operand) (g h : Call) → g ≡ h → check_found s f (call_row h code i o) ≡ check_found s f (call_row g code i o)
by_call s f code i o g h e = ap (λ x. check_found s f (call_row x code i o)) (sym e)

pub by_leads : (s : Site) (f : TypeFrame) (code : List ℕ) (i : Instr) (o : Operand) (g h : Leads) → g ≡ h → check_found s f (leads_row h code i o) ≡ check_found s f (leads_row g code i o)
by_leads s f code i o g h e = ap (λ x. check_found s f (leads_row x code i o)) (sym e)

-- ---- the array type code of numbers

found_case : (b : Bool) (a k : ℕ) (r : ℕ → Row) → Some k ≡ (if b then Some a else None) → (if b then Some (r a) else None) ≡ Some (r k)
found_case true a k r e = ap (λ n. Some (r n)) (some_same a k (sym e))
found_case false a k r e = absurd (none≢some k (sym e))

pub code_found : (n : Option ℕ) (test : ℕ → Bool) (k : ℕ) (r : ℕ → Row) → Some k ≡ onto n (λ a. if test a then Some a else None) → onto n (λ a. if test a then Some (r a) else None) ≡ Some (r k)
code_found None test k r e = absurd (none≢some k (sym e))
code_found (Some a) test k r e = found_case (test a) a k r e

-- ---- arrays of one dimension more

pub one_more : (n m : ℕ) (k : Kind) → n ≡ suc m → arrays_of n k ≡ OfReferences (arrays_of m k)
one_more n m k e = ap (λ j. arrays_of j k) e
