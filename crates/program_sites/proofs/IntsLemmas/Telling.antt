-- Which instructions push ints, and read and write static fields: a test over the table of instructions, and what follows of it.
use Rattle.std.proofs.Common.{◌≡◌, ℕ, Bool, true, false, ◌==◌, List, [], ◌∷◌, ◌++◌, Option, Some, None, ℤ, pos, negsuc, refl, subst, eqb-true, IfSome}
use Rattle.std.specs.Prelude.{if◌then◌else◌, unsigned_abs, IsTrue, nat_lt}
use Rattle.opcodes.specs.declared.instruction.Instr.{Instr}
use Rattle.lists.proofs.Lemmas.{none≢some}
use Rattle.bytecode_model.specs.declared.Value.TheVariants.{Int, Long, Ref}
use Rattle.bytecode_model.specs.Lists.{onto, natural}
use Rattle.bytecode_model.specs.Types.{IntType, LongType, Kind, OfClass, OfNumbers, OfReferences, Numbers, References}
use Rattle.bytecode_model.specs.Program.{Operand, NoOperand, AnInt, ALong, AString, AStatic, AField, AMethod, AType}
use Rattle.bytecode_model.specs.Rows as rows
use Rattle.bytecode_model.specs.Rows.{Row}
use Rattle.bytecode_model.specs.Table.{Meaning, constant, long_constant, by_local, increment, lookup_switch, by_static, by_field, by_method, by_type, by_class, by_code, constants, loads, stores, stack, math, conversions, comparisons, control, references, extended, reserved, instructions, row_among, row_of}

-- only these instructions do
abbrev pub ComesOf : (op : ℕ) → Row → Type 0
ComesOf op (rows.Push (Int c)) = IsTrue (nat_lt op 20)
ComesOf op (rows.GetStatic f) = op ≡ 178
ComesOf op (rows.PutStatic f) = op ≡ 179
ComesOf op r = Unit {0}

abbrev Are : (op : ℕ) → (code : List ℕ) → Instr → Row → Type 0
Are op code i r = ComesOf op r

abbrev AreOf : List Meaning → Type 0
AreOf [] = Unit {0}
AreOf (m ∷ ms) = ((code : List ℕ) (i : Instr) (o : Operand) → IfSome (m.row code i o) (Are m.opcode code i)) × AreOf ms

-- the first of two facts, and the others
infixr 4 ◌&◌
◌&◌ : {A B : Type 0} → A → B → A × B
a & b = (a, b)

both_are : (ms ns : List Meaning) → AreOf ms → AreOf ns → AreOf (ms ++ ns)
both_are [] ns g h = h
both_are (m ∷ ms) ns (first, rest) h = (first, both_are ms ns rest h)

natural_is : (K : ℕ → Row → Type 0) (z : ℤ) (g : ℕ → Option Row) → ((k : ℕ) → IfSome (g k) (K k)) → IfSome (onto (natural z) g) (K (unsigned_abs z))
natural_is K (pos n) g h = h n
natural_is K (negsuc n) g h = tt

-- what holds of each row that comes of what the instruction names
module _ (K : List ℕ → Instr → Row → Type 0) where
  abbrev Always : (List ℕ → Instr → Operand → Option Row) → Type 0
  Always row = (code : List ℕ) (i : Instr) (o : Operand) → IfSome (row code i o) (K code i)

  abbrev Of : Row → Type 0
  Of r = (code : List ℕ) (i : Instr) → K code i r

  constant_is : ((c : ℤ) → Of (rows.Push (Int c))) → ((p : ℕ) → Of (rows.Push (Ref p))) → Always constant
  constant_is h g code i NoOperand = tt
  constant_is h g code i (AnInt n) = h n code i
  constant_is h g code i (ALong n) = tt
  constant_is h g code i (AString p) = g p code i
  constant_is h g code i (AStatic f) = tt
  constant_is h g code i (AField c d k) = tt
  constant_is h g code i (AMethod c m) = tt
  constant_is h g code i (AType k) = tt

  long_constant_is : ((c : ℤ) → Of (rows.Push (Long c))) → Always long_constant
  long_constant_is h code i NoOperand = tt
  long_constant_is h code i (AnInt n) = tt
  long_constant_is h code i (ALong n) = h n code i
  long_constant_is h code i (AString p) = tt
  long_constant_is h code i (AStatic f) = tt
  long_constant_is h code i (AField c d k) = tt
  long_constant_is h code i (AMethod c m) = tt
  long_constant_is h code i (AType k) = tt

  static_is : (r : ℕ → Row) → ((f : ℕ) → Of (r f)) → Always (by_static r)
  static_is r h code i NoOperand = tt
  static_is r h code i (AnInt n) = tt
  static_is r h code i (ALong n) = tt
  static_is r h code i (AString p) = tt
  static_is r h code i (AStatic f) = h f code i
  static_is r h code i (AField c d k) = tt
  static_is r h code i (AMethod c m) = tt
  static_is r h code i (AType k) = tt

  field_is : (r : ℕ → ℕ → ℕ → Row) → ((c d k : ℕ) → Of (r c d k)) → Always (by_field r)
  field_is r h code i NoOperand = tt
  field_is r h code i (AnInt n) = tt
  field_is r h code i (ALong n) = tt
  field_is r h code i (AString p) = tt
  field_is r h code i (AStatic f) = tt
  field_is r h code i (AField c d k) = h c d k code i
  field_is r h code i (AMethod c m) = tt
  field_is r h code i (AType k) = tt

  method_is : (r : ℕ → ℕ → Row) → ((c m : ℕ) → Of (r c m)) → Always (by_method r)
  method_is r h code i NoOperand = tt
  method_is r h code i (AnInt n) = tt
  method_is r h code i (ALong n) = tt
  method_is r h code i (AString p) = tt
  method_is r h code i (AStatic f) = tt
  method_is r h code i (AField c d k) = tt
  method_is r h code i (AMethod c m) = h c m code i
  method_is r h code i (AType k) = tt

  type_is : (r : Kind → Row) → ((k : Kind) → Of (r k)) → Always (by_type r)
  type_is r h code i NoOperand = tt
  type_is r h code i (AnInt n) = tt
  type_is r h code i (ALong n) = tt
  type_is r h code i (AString p) = tt
  type_is r h code i (AStatic f) = tt
  type_is r h code i (AField c d k) = tt
  type_is r h code i (AMethod c m) = tt
  type_is r h code i (AType k) = h k code i

  class_is : (r : ℕ → Row) → ((c : ℕ) → Of (r c)) → Always (by_class r)
  class_is r h code i NoOperand = tt
  class_is r h code i (AnInt n) = tt
  class_is r h code i (ALong n) = tt
  class_is r h code i (AString p) = tt
  class_is r h code i (AStatic f) = tt
  class_is r h code i (AField c d k) = tt
  class_is r h code i (AMethod c m) = tt
  class_is r h code i (AType (OfClass c)) = h c code i
  class_is r h code i (AType (OfNumbers c)) = tt
  class_is r h code i (AType (OfReferences k)) = tt

  code_is : (r : ℕ → Row) → ((a : ℕ) → Of (r a)) → Always (by_code r)
  code_is r h code i o = natural_is (λ n. K code i) i.first _ (λ a. by (r a) (h a code i) _)
    where
      by : (row : Row) → K code i row → (b : Bool) → IfSome (if b then Some row else None) (K code i)
      by row is true = is
      by row is false = tt

lookup_switch_is : (code : List ℕ) (i : Instr) (o : Operand) → IfSome (lookup_switch code i o) (Are 171 code i)
lookup_switch_is code i o = natural_is (λ n. Are 171 code i) i.second _ (λ pairs. tt)

local_is : (op : ℕ) (r : ℕ → Row) → ((k : ℕ) → ComesOf op (r k)) → (code : List ℕ) (i : Instr) (o : Operand) → IfSome (by_local r code i o) (Are op code i)
local_is op r h code i o = natural_is (λ n. Are op code i) i.first (λ k. Some (r k)) h

increment_is : (code : List ℕ) (i : Instr) (o : Operand) → IfSome (increment code i o) (Are 132 code i)
increment_is code i o = natural_is (λ n. Are 132 code i) i.first _ (λ k. tt)

constants_are : AreOf constants
constants_are =
    (λ code i o. tt)
    & (λ code i o. tt)
    & (λ code i o. refl)
    & (λ code i o. refl)
    & (λ code i o. refl)
    & (λ code i o. refl)
    & (λ code i o. refl)
    & (λ code i o. refl)
    & (λ code i o. refl)
    & (λ code i o. tt)
    & (λ code i o. tt)
    & (λ code i o. refl)
    & (λ code i o. refl)
    & constant_is (Are 18) (λ c code i. refl) (λ p code i. tt)
    & constant_is (Are 19) (λ c code i. refl) (λ p code i. tt)
    & long_constant_is (Are 20) (λ c code i. tt)
    & tt

loads_are : AreOf loads
loads_are =
    local_is 21 (rows.Load (Numbers IntType)) (λ k. tt)
    & local_is 22 (rows.Load (Numbers LongType)) (λ k. tt)
    & local_is 25 (rows.Load References) (λ k. tt)
    & (λ code i o. tt)
    & (λ code i o. tt)
    & (λ code i o. tt)
    & (λ code i o. tt)
    & (λ code i o. tt)
    & (λ code i o. tt)
    & (λ code i o. tt)
    & (λ code i o. tt)
    & (λ code i o. tt)
    & (λ code i o. tt)
    & (λ code i o. tt)
    & (λ code i o. tt)
    & (λ code i o. tt)
    & (λ code i o. tt)
    & (λ code i o. tt)
    & (λ code i o. tt)
    & (λ code i o. tt)
    & (λ code i o. tt)
    & tt

stores_are : AreOf stores
stores_are =
    local_is 54 (rows.Store (Numbers IntType)) (λ k. tt)
    & local_is 55 (rows.Store (Numbers LongType)) (λ k. tt)
    & local_is 58 (rows.Store References) (λ k. tt)
    & (λ code i o. tt)
    & (λ code i o. tt)
    & (λ code i o. tt)
    & (λ code i o. tt)
    & (λ code i o. tt)
    & (λ code i o. tt)
    & (λ code i o. tt)
    & (λ code i o. tt)
    & (λ code i o. tt)
    & (λ code i o. tt)
    & (λ code i o. tt)
    & (λ code i o. tt)
    & (λ code i o. tt)
    & (λ code i o. tt)
    & (λ code i o. tt)
    & (λ code i o. tt)
    & (λ code i o. tt)
    & (λ code i o. tt)
    & tt

stack_are : AreOf stack
stack_are =
    (λ code i o. tt)
    & (λ code i o. tt)
    & (λ code i o. tt)
    & (λ code i o. tt)
    & (λ code i o. tt)
    & (λ code i o. tt)
    & (λ code i o. tt)
    & (λ code i o. tt)
    & (λ code i o. tt)
    & tt

math_are : AreOf math
math_are =
    (λ code i o. tt)
    & (λ code i o. tt)
    & (λ code i o. tt)
    & (λ code i o. tt)
    & (λ code i o. tt)
    & (λ code i o. tt)
    & (λ code i o. tt)
    & (λ code i o. tt)
    & (λ code i o. tt)
    & (λ code i o. tt)
    & (λ code i o. tt)
    & (λ code i o. tt)
    & (λ code i o. tt)
    & (λ code i o. tt)
    & (λ code i o. tt)
    & (λ code i o. tt)
    & (λ code i o. tt)
    & (λ code i o. tt)
    & (λ code i o. tt)
    & (λ code i o. tt)
    & (λ code i o. tt)
    & increment_is
    & tt

conversions_are : AreOf conversions
conversions_are =
    (λ code i o. tt)
    & (λ code i o. tt)
    & (λ code i o. tt)
    & (λ code i o. tt)
    & (λ code i o. tt)
    & tt

comparisons_are : AreOf comparisons
comparisons_are =
    (λ code i o. tt)
    & (λ code i o. tt)
    & (λ code i o. tt)
    & (λ code i o. tt)
    & (λ code i o. tt)
    & (λ code i o. tt)
    & (λ code i o. tt)
    & (λ code i o. tt)
    & (λ code i o. tt)
    & (λ code i o. tt)
    & (λ code i o. tt)
    & (λ code i o. tt)
    & (λ code i o. tt)
    & (λ code i o. tt)
    & (λ code i o. tt)
    & tt

control_are : AreOf control
control_are =
    (λ code i o. tt)
    & (λ code i o. tt)
    & lookup_switch_is
    & (λ code i o. tt)
    & (λ code i o. tt)
    & (λ code i o. tt)
    & (λ code i o. tt)
    & tt

references_are : AreOf references
references_are =
    static_is (Are 178) rows.GetStatic (λ f code i. refl)
    & static_is (Are 179) rows.PutStatic (λ f code i. refl)
    & field_is (Are 180) rows.GetField (λ c d k code i. tt)
    & field_is (Are 181) rows.PutField (λ c d k code i. tt)
    & method_is (Are 182) rows.CallVirtual (λ c m code i. tt)
    & method_is (Are 183) rows.CallSpecial (λ c m code i. tt)
    & method_is (Are 184) (λ c m. rows.CallStatic m) (λ c m code i. tt)
    & method_is (Are 185) rows.CallInterface (λ c m code i. tt)
    & class_is (Are 187) rows.New (λ c code i. tt)
    & code_is (Are 188) rows.NewNumbers (λ a code i. tt)
    & type_is (Are 189) rows.NewReferences (λ k code i. tt)
    & (λ code i o. tt)
    & (λ code i o. tt)
    & type_is (Are 192) rows.Cast (λ k code i. tt)
    & type_is (Are 193) rows.Test (λ k code i. tt)
    & (λ code i o. tt)
    & (λ code i o. tt)
    & tt

extended_are : AreOf extended
extended_are =
    (λ code i o. tt)
    & (λ code i o. tt)
    & (λ code i o. tt)
    & tt

reserved_are : AreOf reserved
reserved_are =
    (λ code i o. tt)
    & (λ code i o. tt)
    & tt

all_are : AreOf instructions
all_are =
    both_are constants (loads ++ stores ++ stack ++ math ++ conversions ++ comparisons ++ control ++ references ++ extended ++ reserved) constants_are
    (both_are loads (stores ++ stack ++ math ++ conversions ++ comparisons ++ control ++ references ++ extended ++ reserved) loads_are
    (both_are stores (stack ++ math ++ conversions ++ comparisons ++ control ++ references ++ extended ++ reserved) stores_are
    (both_are stack (math ++ conversions ++ comparisons ++ control ++ references ++ extended ++ reserved) stack_are
    (both_are math (conversions ++ comparisons ++ control ++ references ++ extended ++ reserved) math_are
    (both_are conversions (comparisons ++ control ++ references ++ extended ++ reserved) conversions_are
    (both_are comparisons (control ++ references ++ extended ++ reserved) comparisons_are
    (both_are control (references ++ extended ++ reserved) control_are
    (both_are references (extended ++ reserved) references_are
    (both_are extended reserved extended_are reserved_are)))))))))

among : (ms : List Meaning) → AreOf ms → (code : List ℕ) (i : Instr) (o : Operand) (r : Row) → row_among ms code i o ≡ Some r → ComesOf i.op r
among [] are code i o r e = absurd (none≢some r e)
among (m ∷ ms) (first, rest) code i o r e = by (m.opcode == i.op) refl e (among ms rest code i o r)
  where
    by : (b : Bool) → (m.opcode == i.op) ≡ b → (if b then m.row code i o else row_among ms code i o) ≡ Some r → (row_among ms code i o ≡ Some r → ComesOf i.op r) → ComesOf i.op r
    by true same has later =
        let is : ComesOf m.opcode r = subst (λ (z : Option Row). IfSome z (Are m.opcode code i)) has (first code i o) in
        subst (λ (op : ℕ). ComesOf op r) (eqb-true m.opcode i.op same) is
    by false same has later = later has

pub comes_of : (code : List ℕ) (i : Instr) (o : Operand) (r : Row) → row_of code i o ≡ Some r → ComesOf i.op r
unfolding row_of
comes_of code i o r e = among instructions all_are code i o r e
