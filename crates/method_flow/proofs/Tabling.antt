-- The row of each instruction says of control what the kind of its opcode says: a test over the table of instructions, and what follows of it for a row.
use Rattle.std.proofs.Common.{◌≡◌, ℕ, Bool, true, false, ◌==◌, ◌&&◌, List, [], ◌∷◌, ◌++◌, Option, Some, None, ℤ, pos, negsuc, refl, subst, eqb-true, IfSome, nat_lt}
use Rattle.std.specs.Prelude.{if◌then◌else◌}
use Rattle.opcodes.specs.declared.instruction.Instr.{Instr}
use Rattle.opcodes.specs.declared.table.Kind.TheVariants.{Plain, Branch, Jump, Switch, Return, Throw}
use Rattle.opcodes.specs.Row as opcodes
use Rattle.opcodes.specs.Target.{cases_of}
use Rattle.bytecode_model.specs.Lists.{onto, natural}
use Rattle.bytecode_model.specs.Types.{IntType, LongType, Kind, OfClass, OfNumbers, OfReferences, Numbers, References}
use Rattle.bytecode_model.specs.Program.{Operand, NoOperand, AnInt, ALong, AString, AStatic, AField, AMethod, AType}
use Rattle.bytecode_model.specs.Rows as rows
use Rattle.bytecode_model.specs.Rows.{Row}
use Rattle.bytecode_model.specs.Table.{Meaning, constant, long_constant, by_local, increment, lookup_switch, by_static, by_field, by_method, by_type, by_class, by_code, constants, loads, stores, stack, math, conversions, comparisons, control, references, extended, reserved, instructions, row_among, row_of}
use Rattle.lists.proofs.Lemmas.{none≢some}

-- what a row is where its opcode has this number
abbrev pub IsOf : (op : ℕ) → (code : List ℕ) → Instr → Row → Type 0
IsOf op code i (rows.Jump offset) = ((opcodes.row_of op).kind ≡ Jump) × (offset ≡ i.first) × ((op == 169) ≡ false)
IsOf op code i (rows.Branch taken test offset) = ((opcodes.row_of op).kind ≡ Branch) × (offset ≡ i.first)
IsOf op code i (rows.BranchSame wanted offset) = ((opcodes.row_of op).kind ≡ Branch) × (offset ≡ i.first)
IsOf op code i (rows.BranchNull wanted offset) = ((opcodes.row_of op).kind ≡ Branch) × (offset ≡ i.first)
IsOf op code i (rows.Switch default cases) = ((opcodes.row_of op).kind ≡ Switch) × (default ≡ i.first) × (cases ≡ cases_of code i)
IsOf op code i (rows.Return result) = (opcodes.row_of op).kind ≡ Return
IsOf op code i rows.Throw = (opcodes.row_of op).kind ≡ Throw
IsOf op code i (rows.CallVirtual named m) = op ≡ 182
IsOf op code i (rows.CallSpecial named m) = op ≡ 183
IsOf op code i (rows.CallStatic m) = op ≡ 184
IsOf op code i (rows.CallInterface named m) = op ≡ 185
IsOf op code i r = (opcodes.row_of op).kind ≡ Plain

-- ---- the test

abbrev AreOf : List Meaning → Type 0
AreOf [] = Unit {0}
AreOf (m ∷ ms) = ((code : List ℕ) (i : Instr) (o : Operand) → IfSome (m.row code i o) (IsOf m.opcode code i)) × AreOf ms

abbrev are_bytes : List Meaning → Bool
are_bytes [] = true
are_bytes (m ∷ ms) = nat_lt m.opcode 256 && are_bytes ms

-- the first of two facts, and the others
infixr 4 ◌&◌
◌&◌ : {A B : Type 0} → A → B → A × B
a & b = (a, b)

both_are : (ms ns : List Meaning) → AreOf ms → AreOf ns → AreOf (ms ++ ns)
both_are [] ns g h = h
both_are (m ∷ ms) ns (first, rest) h = (first, both_are ms ns rest h)

natural_is : (K : Row → Type 0) (z : ℤ) (g : ℕ → Option Row) → ((k : ℕ) → IfSome (g k) K) → IfSome (onto (natural z) g) K
natural_is K (pos n) g h = h n
natural_is K (negsuc n) g h = tt

module _ (op : ℕ) where
  -- a row that leads to the next instruction alone
  abbrev Always : (List ℕ → Instr → Operand → Option Row) → Type 0
  Always row = (code : List ℕ) (i : Instr) (o : Operand) → IfSome (row code i o) (IsOf op code i)

  abbrev IsPlain : Type 0
  IsPlain = (opcodes.row_of op).kind ≡ Plain

  constant_is : IsPlain → Always constant
  constant_is e code i NoOperand = tt
  constant_is e code i (AnInt n) = e
  constant_is e code i (ALong n) = tt
  constant_is e code i (AString p) = e
  constant_is e code i (AStatic f) = tt
  constant_is e code i (AField c d k) = tt
  constant_is e code i (AMethod c m) = tt
  constant_is e code i (AType k) = tt

  long_constant_is : IsPlain → Always long_constant
  long_constant_is e code i NoOperand = tt
  long_constant_is e code i (AnInt n) = tt
  long_constant_is e code i (ALong n) = e
  long_constant_is e code i (AString p) = tt
  long_constant_is e code i (AStatic f) = tt
  long_constant_is e code i (AField c d k) = tt
  long_constant_is e code i (AMethod c m) = tt
  long_constant_is e code i (AType k) = tt

  local_is : (r : ℕ → Row) → ((code : List ℕ) (i : Instr) (k : ℕ) → IsOf op code i (r k)) → Always (by_local r)
  local_is r h code i o = natural_is (IsOf op code i) i.first (λ k. Some (r k)) (λ k. h code i k)

  increment_is : IsPlain → Always increment
  increment_is e code i o = natural_is (IsOf op code i) i.first (λ k. Some (rows.Increment k i.second)) (λ k. e)

  lookup_switch_is : (opcodes.row_of op).kind ≡ Switch → Always lookup_switch
  lookup_switch_is e code i o = natural_is (IsOf op code i) i.second (λ pairs. Some (rows.Switch i.first (cases_of code i))) (λ k. (e, refl, refl))

  static_is : (r : ℕ → Row) → ((code : List ℕ) (i : Instr) (k : ℕ) → IsOf op code i (r k)) → Always (by_static r)
  static_is r h code i (AStatic f) = h code i f
  static_is r h code i NoOperand = tt
  static_is r h code i (AnInt n) = tt
  static_is r h code i (ALong n) = tt
  static_is r h code i (AString p) = tt
  static_is r h code i (AField c d k) = tt
  static_is r h code i (AMethod c m) = tt
  static_is r h code i (AType k) = tt

  field_is : (r : ℕ → ℕ → ℕ → Row) → ((code : List ℕ) (i : Instr) (named owner k : ℕ) → IsOf op code i (r named owner k)) → Always (by_field r)
  field_is r h code i (AField named owner k) = h code i named owner k
  field_is r h code i NoOperand = tt
  field_is r h code i (AnInt n) = tt
  field_is r h code i (ALong n) = tt
  field_is r h code i (AString p) = tt
  field_is r h code i (AStatic f) = tt
  field_is r h code i (AMethod c m) = tt
  field_is r h code i (AType k) = tt

  method_is : (r : ℕ → ℕ → Row) → ((code : List ℕ) (i : Instr) (named m : ℕ) → IsOf op code i (r named m)) → Always (by_method r)
  method_is r h code i (AMethod named m) = h code i named m
  method_is r h code i NoOperand = tt
  method_is r h code i (AnInt n) = tt
  method_is r h code i (ALong n) = tt
  method_is r h code i (AString p) = tt
  method_is r h code i (AStatic f) = tt
  method_is r h code i (AField c d k) = tt
  method_is r h code i (AType k) = tt

  type_is : (r : Kind → Row) → ((code : List ℕ) (i : Instr) (k : Kind) → IsOf op code i (r k)) → Always (by_type r)
  type_is r h code i (AType k) = h code i k
  type_is r h code i NoOperand = tt
  type_is r h code i (AnInt n) = tt
  type_is r h code i (ALong n) = tt
  type_is r h code i (AString p) = tt
  type_is r h code i (AStatic f) = tt
  type_is r h code i (AField c d k) = tt
  type_is r h code i (AMethod c m) = tt

  class_is : (r : ℕ → Row) → ((code : List ℕ) (i : Instr) (c : ℕ) → IsOf op code i (r c)) → Always (by_class r)
  class_is r h code i (AType (OfClass c)) = h code i c
  class_is r h code i (AType (OfNumbers c)) = tt
  class_is r h code i (AType (OfReferences k)) = tt
  class_is r h code i NoOperand = tt
  class_is r h code i (AnInt n) = tt
  class_is r h code i (ALong n) = tt
  class_is r h code i (AString p) = tt
  class_is r h code i (AStatic f) = tt
  class_is r h code i (AField c d k) = tt
  class_is r h code i (AMethod c m) = tt

  code_is : (r : ℕ → Row) → ((code : List ℕ) (i : Instr) (a : ℕ) → IsOf op code i (r a)) → Always (by_code r)
  code_is r h code i o = natural_is (IsOf op code i) i.first _ (λ a. by (r a) (h code i a) _)
    where
      by : (row : Row) → IsOf op code i row → (b : Bool) → IfSome (if b then Some row else None) (IsOf op code i)
      by row is true = is
      by row is false = tt

constants_are : AreOf constants
unfolding opcodes.row_of
constants_are =
    (λ code i o. refl)
    & (λ code i o. refl)
    & (λ code i o. refl)
    & (λ code i o. refl)
    & (λ code i o. refl)
    & (λ code i o. refl)
    & (λ code i o. refl)
    & (λ code i o. refl)
    & (λ code i o. refl)
    & (λ code i o. refl)
    & (λ code i o. refl)
    & (λ code i o. refl)
    & (λ code i o. refl)
    & constant_is 18 refl
    & constant_is 19 refl
    & long_constant_is 20 refl
    & tt

loads_are : AreOf loads
unfolding opcodes.row_of
loads_are =
    local_is 21 (rows.Load (Numbers IntType)) (λ code i k. refl)
    & local_is 22 (rows.Load (Numbers LongType)) (λ code i k. refl)
    & local_is 25 (rows.Load References) (λ code i k. refl)
    & (λ code i o. refl)
    & (λ code i o. refl)
    & (λ code i o. refl)
    & (λ code i o. refl)
    & (λ code i o. refl)
    & (λ code i o. refl)
    & (λ code i o. refl)
    & (λ code i o. refl)
    & (λ code i o. refl)
    & (λ code i o. refl)
    & (λ code i o. refl)
    & (λ code i o. refl)
    & (λ code i o. refl)
    & (λ code i o. refl)
    & (λ code i o. refl)
    & (λ code i o. refl)
    & (λ code i o. refl)
    & (λ code i o. refl)
    & tt

stores_are : AreOf stores
unfolding opcodes.row_of
stores_are =
    local_is 54 (rows.Store (Numbers IntType)) (λ code i k. refl)
    & local_is 55 (rows.Store (Numbers LongType)) (λ code i k. refl)
    & local_is 58 (rows.Store References) (λ code i k. refl)
    & (λ code i o. refl)
    & (λ code i o. refl)
    & (λ code i o. refl)
    & (λ code i o. refl)
    & (λ code i o. refl)
    & (λ code i o. refl)
    & (λ code i o. refl)
    & (λ code i o. refl)
    & (λ code i o. refl)
    & (λ code i o. refl)
    & (λ code i o. refl)
    & (λ code i o. refl)
    & (λ code i o. refl)
    & (λ code i o. refl)
    & (λ code i o. refl)
    & (λ code i o. refl)
    & (λ code i o. refl)
    & (λ code i o. refl)
    & tt

stack_are : AreOf stack
unfolding opcodes.row_of
stack_are =
    (λ code i o. refl)
    & (λ code i o. refl)
    & (λ code i o. refl)
    & (λ code i o. refl)
    & (λ code i o. refl)
    & (λ code i o. refl)
    & (λ code i o. refl)
    & (λ code i o. refl)
    & (λ code i o. refl)
    & tt

math_are : AreOf math
unfolding opcodes.row_of
math_are =
    (λ code i o. refl)
    & (λ code i o. refl)
    & (λ code i o. refl)
    & (λ code i o. refl)
    & (λ code i o. refl)
    & (λ code i o. refl)
    & (λ code i o. refl)
    & (λ code i o. refl)
    & (λ code i o. refl)
    & (λ code i o. refl)
    & (λ code i o. refl)
    & (λ code i o. refl)
    & (λ code i o. refl)
    & (λ code i o. refl)
    & (λ code i o. refl)
    & (λ code i o. refl)
    & (λ code i o. refl)
    & (λ code i o. refl)
    & (λ code i o. refl)
    & (λ code i o. refl)
    & (λ code i o. refl)
    & increment_is 132 refl
    & tt

conversions_are : AreOf conversions
unfolding opcodes.row_of
conversions_are =
    (λ code i o. refl)
    & (λ code i o. refl)
    & (λ code i o. refl)
    & (λ code i o. refl)
    & (λ code i o. refl)
    & tt

comparisons_are : AreOf comparisons
unfolding opcodes.row_of
comparisons_are =
    (λ code i o. refl)
    & (λ code i o. (refl, refl))
    & (λ code i o. (refl, refl))
    & (λ code i o. (refl, refl))
    & (λ code i o. (refl, refl))
    & (λ code i o. (refl, refl))
    & (λ code i o. (refl, refl))
    & (λ code i o. (refl, refl))
    & (λ code i o. (refl, refl))
    & (λ code i o. (refl, refl))
    & (λ code i o. (refl, refl))
    & (λ code i o. (refl, refl))
    & (λ code i o. (refl, refl))
    & (λ code i o. (refl, refl))
    & (λ code i o. (refl, refl))
    & tt

control_are : AreOf control
unfolding opcodes.row_of
control_are =
    (λ code i o. (refl, refl, refl))
    & (λ code i o. (refl, refl, refl))
    & lookup_switch_is 171 refl
    & (λ code i o. refl)
    & (λ code i o. refl)
    & (λ code i o. refl)
    & (λ code i o. refl)
    & tt

references_are : AreOf references
unfolding opcodes.row_of
references_are =
    static_is 178 rows.GetStatic (λ code i k. refl)
    & static_is 179 rows.PutStatic (λ code i k. refl)
    & field_is 180 rows.GetField (λ code i named owner k. refl)
    & field_is 181 rows.PutField (λ code i named owner k. refl)
    & method_is 182 rows.CallVirtual (λ code i named m. refl)
    & method_is 183 rows.CallSpecial (λ code i named m. refl)
    & method_is 184 (λ named m. rows.CallStatic m) (λ code i named m. refl)
    & method_is 185 rows.CallInterface (λ code i named m. refl)
    & class_is 187 rows.New (λ code i c. refl)
    & code_is 188 rows.NewNumbers (λ code i a. refl)
    & type_is 189 rows.NewReferences (λ code i k. refl)
    & (λ code i o. refl)
    & (λ code i o. refl)
    & type_is 192 rows.Cast (λ code i k. refl)
    & type_is 193 rows.Test (λ code i k. refl)
    & (λ code i o. refl)
    & (λ code i o. refl)
    & tt

extended_are : AreOf extended
unfolding opcodes.row_of
extended_are =
    (λ code i o. (refl, refl))
    & (λ code i o. (refl, refl))
    & (λ code i o. (refl, refl, refl))
    & tt

reserved_are : AreOf reserved
unfolding opcodes.row_of
reserved_are =
    (λ code i o. refl)
    & (λ code i o. refl)
    & tt

all_are : AreOf instructions
all_are =
    both_are constants (loads ++ stores ++ stack ++ math ++ conversions ++ comparisons ++ control ++ references ++ extended ++ reserved) constants_are
    (both_are loads (stores ++ stack ++ math ++ conversions ++ comparisons ++ control ++ references ++ extended ++ reserved) loads_are
    (both_are stores (stack ++ math ++ conversions ++ comparisons ++ control ++ references ++ extended ++ reserved) stores_are
    (both_are stack (math ++ conversions ++ comparisons ++ control ++ references ++ extended ++ reserved) stack_are
    (both_are math (conversions ++ comparisons ++ control ++ references ++ extended ++ reserved) math_are
    (both_are conversions (comparisons ++ control ++ references ++ extended ++ reserved) conversions_are
    (both_are comparisons (control ++ references ++ extended ++ reserved) comparisons_are
    (both_are control (references ++ extended ++ reserved) control_are
    (both_are references (extended ++ reserved) references_are
    (both_are extended reserved extended_are reserved_are)))))))))

-- ---- a row of the table

both_true : (a b : Bool) → (a && b) ≡ true → (a ≡ true) × (b ≡ true)
both_true true b e = (refl, e)
both_true false b e = absurd (cc)

among : (ms : List Meaning) → AreOf ms → are_bytes ms ≡ true → (code : List ℕ) (i : Instr) (o : Operand) (r : Row) → row_among ms code i o ≡ Some r → IsOf i.op code i r × (nat_lt i.op 256 ≡ true)
among [] are bytes code i o r e = absurd (none≢some r e)
among (m ∷ ms) (first, rest) bytes code i o r e =
    let split = both_true (nat_lt m.opcode 256) (are_bytes ms) bytes in
    by (m.opcode == i.op) refl split.0 e (among ms rest split.1 code i o r)
  where
    by : (b : Bool) → (m.opcode == i.op) ≡ b → nat_lt m.opcode 256 ≡ true → (if b then m.row code i o else row_among ms code i o) ≡ Some r
        → (row_among ms code i o ≡ Some r → IsOf i.op code i r × (nat_lt i.op 256 ≡ true)) → IsOf i.op code i r × (nat_lt i.op 256 ≡ true)
    by true same small has later =
        let e' = eqb-true m.opcode i.op same in
        let is : IsOf m.opcode code i r = subst (λ (z : Option Row). IfSome z (IsOf m.opcode code i)) has (first code i o) in
        (subst (λ (op : ℕ). IsOf op code i r) e' is, subst (λ (op : ℕ). nat_lt op 256 ≡ true) e' small)
    by false same small has later = later has

pub row_is : (code : List ℕ) (i : Instr) (o : Operand) (r : Row) → row_of code i o ≡ Some r → IsOf i.op code i r × (nat_lt i.op 256 ≡ true)
unfolding row_of
row_is code i o r e = among instructions all_are refl code i o r e
