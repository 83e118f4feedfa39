-- Which rows the families have: which make objects, and of which more is asked than the rules on operands and stack.
use Rattle.std.proofs.Common.{◌≡◌, ℕ, Bool, true, false, List, Option, Some, None, refl, sym}
use Rattle.std.specs.Prelude.{IfSome, if◌then◌else◌}
use Rattle.opcodes.specs.declared.instruction.Instr.{Instr}
use Rattle.bytecode_model.specs.Lists.{onto, natural}
use Rattle.bytecode_model.specs.Types.{Kind, OfClass, OfNumbers, OfReferences}
use Rattle.bytecode_model.specs.Program.{Program, Operand, AnInt, ALong, AString, AStatic, AField, AMethod, AType}
use Rattle.bytecode_model.specs.Rows as rows
use Rattle.bytecode_model.specs.Rows.{Row}
use Rattle.bytecode_model.specs.Table.{constant, long_constant, by_static, by_field, by_method, by_type, by_class}
use Rattle.bytecode_typing.specs.Checks.{class_made_by}
use Rattle.bytecode_typing.specs.Walk.{is_formed}
use Rattle.bytecode_verifier.specs.declared.family.Value.{Value}
use Rattle.bytecode_verifier.specs.declared.family.Value.TheVariants as value
use Rattle.bytecode_verifier.specs.declared.family.Array.{Array}
use Rattle.bytecode_verifier.specs.declared.family.Array.TheVariants as array
use Rattle.bytecode_verifier.specs.declared.family.Named.{Named}
use Rattle.bytecode_verifier.specs.declared.family.Named.TheVariants as named
use Rattle.bytecode_verifier.specs.declared.family.Field.{Field}
use Rattle.bytecode_verifier.specs.declared.family.Field.TheVariants as field
use Rattle.bytecode_verifier.specs.declared.family.Call.{Call}
use Rattle.bytecode_verifier.specs.declared.family.Call.TheVariants as call
use Rattle.bytecode_verifier.specs.declared.family.Leads.{Leads}
use Rattle.bytecode_verifier.specs.declared.family.Leads.TheVariants as leads
use Rattle.bytecode_verifier.specs.Family.{value_row, array_row, named_row, field_row, call_row, leads_row}

-- control goes on behind it, it makes no object of a class, and it keeps all of its instruction
abbrev is_ordinary : Row → Bool
is_ordinary (rows.Jump offset) = false
is_ordinary (rows.Switch default cases) = false
is_ordinary rows.Throw = false
is_ordinary (rows.Return given) = false
is_ordinary (rows.New class) = false
is_ordinary (rows.CallInterface named method) = false
is_ordinary r = true

abbrev pub IsOrdinary : Option Row → Type 0
IsOrdinary None = Unit {0}
IsOrdinary (Some r) = is_ordinary r ≡ true

pub makes_none : (o : Option Row) → IsOrdinary o → onto o class_made_by ≡ None
makes_none None h = refl
makes_none (Some (rows.New class)) h = cc
makes_none (Some r) h = refl

pub keeps_all : (P : Program) (code : List ℕ) (pc : ℕ) (i : Instr) (r : Row) → IsOrdinary (Some r) → is_formed P code pc i r ≡ true
keeps_all P code pc i (rows.Switch default cases) h = cc
keeps_all P code pc i (rows.CallInterface named method) h = cc
keeps_all P code pc i r h = refl

-- ---- the families

by_number : (n : Option ℕ) (r : ℕ → Row) → ((k : ℕ) → IsOrdinary (Some (r k))) → IsOrdinary (onto n (λ k. Some (r k)))
by_number None r h = tt
by_number (Some k) r h = h k

by_test : (b : Bool) (r : Row) → IsOrdinary (Some r) → IsOrdinary (if b then Some r else None)
by_test true r h = h
by_test false r h = tt

by_tested : (n : Option ℕ) (test : ℕ → Bool) (r : ℕ → Row) → ((k : ℕ) → IsOrdinary (Some (r k))) → IsOrdinary (onto n (λ k. if test k then Some (r k) else None))
by_tested None test r h = tt
by_tested (Some k) test r h = by_test (test k) (r k) (h k)

pub value_ordinary : (f : Value) (code : List ℕ) (i : Instr) (o : Operand) → IsOrdinary (value_row f code i o)
value_ordinary value.Nothing code i o = refl
value_ordinary value.PushNull code i o = refl
value_ordinary value.PushInt code i o = refl
value_ordinary value.PushLong code i o = refl
value_ordinary (value.Compute taken given) code i o = refl
value_ordinary (value.Load sort) code i o = by_number (natural i.first) _ (λ k. refl)
value_ordinary (value.LoadAt sort index) code i o = refl
value_ordinary (value.Store sort) code i o = by_number (natural i.first) _ (λ k. refl)
value_ordinary (value.StoreAt sort index) code i o = refl
value_ordinary value.Increment code i o = by_number (natural i.first) _ (λ k. refl)
value_ordinary (value.Shuffle form upper lower) code i o = refl
value_ordinary value.Write code i o = refl

pub array_ordinary : (f : Array) (code : List ℕ) (i : Instr) (o : Operand) → IsOrdinary (array_row f code i o)
array_ordinary array.New code i o = by_tested (natural i.first) _ rows.NewNumbers (λ k. refl)
array_ordinary array.Length code i o = refl
array_ordinary (array.LoadNumber number codes) code i o = refl
array_ordinary (array.StoreNumber number codes) code i o = refl
array_ordinary array.LoadReference code i o = refl
array_ordinary array.StoreReference code i o = refl
array_ordinary array.Monitor code i o = refl

of_constant : (code : List ℕ) (i : Instr) (o : Operand) → IsOrdinary (constant code i o)
of_constant code i (AnInt n) = refl
of_constant code i (AString p) = refl
of_constant code i o = tt

of_long : (code : List ℕ) (i : Instr) (o : Operand) → IsOrdinary (long_constant code i o)
of_long code i (ALong n) = refl
of_long code i o = tt

of_type : (r : Kind → Row) (code : List ℕ) (i : Instr) (o : Operand) → ((k : Kind) → IsOrdinary (Some (r k))) → IsOrdinary (by_type r code i o)
of_type r code i (AType k) h = h k
of_type r code i o h = tt

of_static : (r : ℕ → Row) (code : List ℕ) (i : Instr) (o : Operand) → ((k : ℕ) → IsOrdinary (Some (r k))) → IsOrdinary (by_static r code i o)
of_static r code i (AStatic k) h = h k
of_static r code i o h = tt

of_field : (r : ℕ → ℕ → ℕ → Row) (code : List ℕ) (i : Instr) (o : Operand) → ((n k j : ℕ) → IsOrdinary (Some (r n k j))) → IsOrdinary (by_field r code i o)
of_field r code i (AField n k j) h = h n k j
of_field r code i o h = tt

of_method : (r : ℕ → ℕ → Row) (code : List ℕ) (i : Instr) (o : Operand) → ((n k : ℕ) → IsOrdinary (Some (r n k))) → IsOrdinary (by_method r code i o)
of_method r code i (AMethod n k) h = h n k
of_method r code i o h = tt

pub constant_ordinary : (code : List ℕ) (i : Instr) (o : Operand) → IsOrdinary (named_row named.Constant code i o)
constant_ordinary code i o = of_constant code i o

pub long_ordinary : (code : List ℕ) (i : Instr) (o : Operand) → IsOrdinary (named_row named.LongConstant code i o)
long_ordinary code i o = of_long code i o

pub new_array_ordinary : (code : List ℕ) (i : Instr) (o : Operand) → IsOrdinary (named_row named.NewArray code i o)
new_array_ordinary code i o = of_type rows.NewReferences code i o (λ k. refl)

pub cast_ordinary : (code : List ℕ) (i : Instr) (o : Operand) → IsOrdinary (named_row named.Cast code i o)
cast_ordinary code i o = of_type rows.Cast code i o (λ k. refl)

pub test_ordinary : (code : List ℕ) (i : Instr) (o : Operand) → IsOrdinary (named_row named.Test code i o)
test_ordinary code i o = of_type rows.Test code i o (λ k. refl)

pub field_ordinary : (f : Field) (code : List ℕ) (i : Instr) (o : Operand) → IsOrdinary (field_row f code i o)
field_ordinary field.GetStatic code i o = of_static rows.GetStatic code i o (λ k. refl)
field_ordinary field.PutStatic code i o = of_static rows.PutStatic code i o (λ k. refl)
field_ordinary field.Get code i o = of_field rows.GetField code i o (λ n k j. refl)
field_ordinary field.Put code i o = of_field rows.PutField code i o (λ n k j. refl)

-- ---- those of which not all holds

pub call_makes_none : (f : Call) (code : List ℕ) (i : Instr) (o : Operand) → onto (call_row f code i o) class_made_by ≡ None
call_makes_none call.Static code i (AMethod n k) = refl
call_makes_none call.Static code i o = refl
call_makes_none call.Special code i (AMethod n k) = refl
call_makes_none call.Special code i o = refl
call_makes_none call.Virtual code i (AMethod n k) = refl
call_makes_none call.Virtual code i o = refl
call_makes_none call.Interface code i (AMethod n k) = refl
call_makes_none call.Interface code i o = refl

lookup_makes_none : (n : Option ℕ) (r : Row) → class_made_by r ≡ None → onto (onto n (λ k. Some r)) class_made_by ≡ None
lookup_makes_none None r h = refl
lookup_makes_none (Some k) r h = h

pub leads_make_none : (f : Leads) (code : List ℕ) (i : Instr) (o : Operand) → onto (leads_row f code i o) class_made_by ≡ None
leads_make_none (leads.Branch taken) code i o = refl
leads_make_none leads.Same code i o = refl
leads_make_none leads.IsNull code i o = refl
leads_make_none leads.Jump code i o = refl
leads_make_none leads.TableSwitch code i o = refl
leads_make_none leads.LookupSwitch code i o = lookup_makes_none (natural i.second) _ refl
leads_make_none leads.Throw code i o = refl
leads_make_none (leads.Return given) code i o = refl

-- ---- calls, and what constants and types of the pool are named for

pub call_ordinary : (f : Call) (code : List ℕ) (i : Instr) (o : Operand) → (f ≡ call.Interface → ⊥) → IsOrdinary (call_row f code i o)
call_ordinary call.Static code i o h = of_method (λ named m. rows.CallStatic m) code i o (λ n k. refl)
call_ordinary call.Special code i o h = of_method rows.CallSpecial code i o (λ n k. refl)
call_ordinary call.Virtual code i o h = of_method rows.CallVirtual code i o (λ n k. refl)
call_ordinary call.Interface code i o h = absurd (h refl)

new_formed : (P : Program) (code : List ℕ) (pc : ℕ) (i : Instr) (k : Kind) → IfSome (by_class rows.New code i (AType k)) (λ r. true ≡ is_formed P code pc i r)
new_formed P code pc i (OfClass c) = refl
new_formed P code pc i (OfNumbers a) = tt
new_formed P code pc i (OfReferences k) = tt

all_kept : (P : Program) (code : List ℕ) (pc : ℕ) (i : Instr) (o : Option Row) → IsOrdinary o → IfSome o (λ r. true ≡ is_formed P code pc i r)
all_kept P code pc i None h = tt
all_kept P code pc i (Some r) h = sym (keeps_all P code pc i r h)

pub named_formed : (P : Program) (code : List ℕ) (pc : ℕ) (f : Named) (i : Instr) (o : Operand) → IfSome (named_row f code i o) (λ r. true ≡ is_formed P code pc i r)
named_formed P code pc named.Constant i o = all_kept P code pc i (constant code i o) (of_constant code i o)
named_formed P code pc named.LongConstant i o = all_kept P code pc i (long_constant code i o) (of_long code i o)
named_formed P code pc named.New i (AType k) = new_formed P code pc i k
named_formed P code pc named.New i o = tt
named_formed P code pc named.NewArray i o = all_kept P code pc i (by_type rows.NewReferences code i o) (of_type rows.NewReferences code i o (λ k. refl))
named_formed P code pc named.Cast i o = all_kept P code pc i (by_type rows.Cast code i o) (of_type rows.Cast code i o (λ k. refl))
named_formed P code pc named.Test i o = all_kept P code pc i (by_type rows.Test code i o) (of_type rows.Test code i o (λ k. refl))

-- an interface's method
pub interface_formed : (P : Program) (code : List ℕ) (pc : ℕ) (i : Instr) (o : Operand) (x : Bool) → ((n m : ℕ) → o ≡ AMethod n m → x ≡ is_formed P code pc i (rows.CallInterface n m)) → IfSome (call_row call.Interface code i o) (λ r. x ≡ is_formed P code pc i r)
interface_formed P code pc i (AMethod n m) x h = h n m refl
interface_formed P code pc i o x h = tt
