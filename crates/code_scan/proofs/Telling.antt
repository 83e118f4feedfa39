-- What is told of an instruction is so of its row: a test over the table of instructions, and what follows of it.
use Rattle.std.proofs.Common.{◌≡◌, ℕ, Bool, true, false, ◌==◌, ◌&&◌, ◌||◌, ◌⊎◌, inl, inr, List, [], ◌∷◌, ◌++◌, Option, Some, None, ◌-◌, nat_le, nat_lt, ℤ, pos, negsuc, ◌-ℤ◌, refl, sym, ap, ◌∙◌, subst, eqb-true, IfSome}
use Rattle.std.specs.Prelude.{if◌then◌else◌, unsigned_abs}
use Rattle.std.proofs.lemmas.Bool.{false≢true}
use Rattle.opcodes.specs.declared.instruction.Instr.{Instr}
use Rattle.opcodes.specs.declared.table.Kind.TheVariants.{Plain, Branch, Jump, Switch, Return, Throw, Invoke}
use Rattle.opcodes.specs.Row as opcodes
use Rattle.opcodes.specs.Target.{cases_of}
use Rattle.lists.proofs.Lemmas.{none≢some}
use Rattle.bytecode_model.specs.declared.Value.TheVariants.{Int, Long, Ref}
use Rattle.bytecode_model.specs.Lists.{onto, natural}
use Rattle.bytecode_model.specs.Types.{IntType, LongType, Kind, OfClass, OfNumbers, OfReferences, Numbers, References}
use Rattle.bytecode_model.specs.Program.{Operand, NoOperand, AnInt, ALong, AString, AStatic, AField, AMethod, AType}
use Rattle.bytecode_model.specs.Rows as rows
use Rattle.bytecode_model.specs.Rows.{Row}
use Rattle.bytecode_model.specs.Table.{Meaning, constant, long_constant, by_local, increment, lookup_switch, by_static, by_field, by_method, by_type, by_class, by_code, constants, loads, stores, stack, math, conversions, comparisons, control, references, extended, reserved, instructions, row_among, row_of}
use Rattle.code_scan.specs.declared.rows.Comparison.{Comparison}
use Rattle.code_scan.specs.declared.rows.IntRow.{IntRow}
use Rattle.code_scan.specs.declared.rows.IntRow.TheVariants.{Push, PushEntry, Load, Store, StoreLong, StoreReference, Increment, BranchZero, BranchInts, Other}
use Rattle.code_scan.specs.Rows.{Tells, IsOther}
use Rattle.code_scan.specs.Told.{pushed_by, loaded_by, int_stored_by, stored_by, comparison_of, branched_by, told_by}

-- what the opcode's kind says of a row, of an instruction with this opcode
abbrev pub IsOf : (op : ℕ) → (code : List ℕ) → Instr → Row → Type 0
IsOf op code i (rows.Jump offset) = ((opcodes.row_of op).kind ≡ Jump) × (offset ≡ i.first) × ((op == 169) ≡ false)
IsOf op code i (rows.Branch taken test offset) = ((opcodes.row_of op).kind ≡ Branch) × (offset ≡ i.first)
IsOf op code i (rows.BranchSame wanted offset) = ((opcodes.row_of op).kind ≡ Branch) × (offset ≡ i.first)
IsOf op code i (rows.BranchNull wanted offset) = ((opcodes.row_of op).kind ≡ Branch) × (offset ≡ i.first)
IsOf op code i (rows.Switch default cases) = ((opcodes.row_of op).kind ≡ Switch) × (default ≡ i.first) × (cases ≡ cases_of code i)
IsOf op code i (rows.Return result) = (opcodes.row_of op).kind ≡ Return
IsOf op code i rows.Throw = (opcodes.row_of op).kind ≡ Throw
IsOf op code i (rows.CallVirtual named m) = (opcodes.row_of op).kind ≡ Invoke
IsOf op code i (rows.CallSpecial named m) = (opcodes.row_of op).kind ≡ Invoke
IsOf op code i (rows.CallStatic m) = (opcodes.row_of op).kind ≡ Invoke
IsOf op code i (rows.CallInterface named m) = (opcodes.row_of op).kind ≡ Invoke
IsOf op code i r = (opcodes.row_of op).kind ≡ Plain

-- and what is told by the opcode and the operands
abbrev Are : (op : ℕ) → (code : List ℕ) → Instr → Row → Type 0
Are op code i r = Tells (told_by op i.first i.second) r × IsOf op code i r

abbrev AreOf : List Meaning → Type 0
AreOf [] = Unit {0}
AreOf (m ∷ ms) = ((code : List ℕ) (i : Instr) (o : Operand) → IfSome (m.row code i o) (Are m.opcode code i)) × AreOf ms

abbrev are_bytes : List Meaning → Bool
are_bytes [] = true
are_bytes (m ∷ ms) = nat_lt m.opcode 256 && are_bytes ms

-- the first of two facts, and the others
infixr 4 ◌&◌
◌&◌ : {A B : Type 0} → A → B → A × B
a & b = (a, b)

both_are : (ms ns : List Meaning) → AreOf ms → AreOf ns → AreOf (ms ++ ns)
both_are [] ns g h = h
both_are (m ∷ ms) ns (first, rest) h = (first, both_are ms ns rest h)

natural_is : (K : ℕ → Row → Type 0) (z : ℤ) (g : ℕ → Option Row) → ((k : ℕ) → IfSome (g k) (K k)) → IfSome (onto (natural z) g) (K (unsigned_abs z))
natural_is K (pos n) g h = h n
natural_is K (negsuc n) g h = tt

-- what holds of each row that comes of what the instruction names
module _ (K : List ℕ → Instr → Row → Type 0) where
  abbrev Always : (List ℕ → Instr → Operand → Option Row) → Type 0
  Always row = (code : List ℕ) (i : Instr) (o : Operand) → IfSome (row code i o) (K code i)

  abbrev Of : Row → Type 0
  Of r = (code : List ℕ) (i : Instr) → K code i r

  constant_is : ((c : ℤ) → Of (rows.Push (Int c))) → ((p : ℕ) → Of (rows.Push (Ref p))) → Always constant
  constant_is h g code i NoOperand = tt
  constant_is h g code i (AnInt n) = h n code i
  constant_is h g code i (ALong n) = tt
  constant_is h g code i (AString p) = g p code i
  constant_is h g code i (AStatic f) = tt
  constant_is h g code i (AField c d k) = tt
  constant_is h g code i (AMethod c m) = tt
  constant_is h g code i (AType k) = tt

  long_constant_is : ((c : ℤ) → Of (rows.Push (Long c))) → Always long_constant
  long_constant_is h code i NoOperand = tt
  long_constant_is h code i (AnInt n) = tt
  long_constant_is h code i (ALong n) = h n code i
  long_constant_is h code i (AString p) = tt
  long_constant_is h code i (AStatic f) = tt
  long_constant_is h code i (AField c d k) = tt
  long_constant_is h code i (AMethod c m) = tt
  long_constant_is h code i (AType k) = tt

  static_is : (r : ℕ → Row) → ((f : ℕ) → Of (r f)) → Always (by_static r)
  static_is r h code i NoOperand = tt
  static_is r h code i (AnInt n) = tt
  static_is r h code i (ALong n) = tt
  static_is r h code i (AString p) = tt
  static_is r h code i (AStatic f) = h f code i
  static_is r h code i (AField c d k) = tt
  static_is r h code i (AMethod c m) = tt
  static_is r h code i (AType k) = tt

  field_is : (r : ℕ → ℕ → ℕ → Row) → ((c d k : ℕ) → Of (r c d k)) → Always (by_field r)
  field_is r h code i NoOperand = tt
  field_is r h code i (AnInt n) = tt
  field_is r h code i (ALong n) = tt
  field_is r h code i (AString p) = tt
  field_is r h code i (AStatic f) = tt
  field_is r h code i (AField c d k) = h c d k code i
  field_is r h code i (AMethod c m) = tt
  field_is r h code i (AType k) = tt

  method_is : (r : ℕ → ℕ → Row) → ((c m : ℕ) → Of (r c m)) → Always (by_method r)
  method_is r h code i NoOperand = tt
  method_is r h code i (AnInt n) = tt
  method_is r h code i (ALong n) = tt
  method_is r h code i (AString p) = tt
  method_is r h code i (AStatic f) = tt
  method_is r h code i (AField c d k) = tt
  method_is r h code i (AMethod c m) = h c m code i
  method_is r h code i (AType k) = tt

  type_is : (r : Kind → Row) → ((k : Kind) → Of (r k)) → Always (by_type r)
  type_is r h code i NoOperand = tt
  type_is r h code i (AnInt n) = tt
  type_is r h code i (ALong n) = tt
  type_is r h code i (AString p) = tt
  type_is r h code i (AStatic f) = tt
  type_is r h code i (AField c d k) = tt
  type_is r h code i (AMethod c m) = tt
  type_is r h code i (AType k) = h k code i

  class_is : (r : ℕ → Row) → ((c : ℕ) → Of (r c)) → Always (by_class r)
  class_is r h code i NoOperand = tt
  class_is r h code i (AnInt n) = tt
  class_is r h code i (ALong n) = tt
  class_is r h code i (AString p) = tt
  class_is r h code i (AStatic f) = tt
  class_is r h code i (AField c d k) = tt
  class_is r h code i (AMethod c m) = tt
  class_is r h code i (AType (OfClass c)) = h c code i
  class_is r h code i (AType (OfNumbers c)) = tt
  class_is r h code i (AType (OfReferences k)) = tt

  code_is : (r : ℕ → Row) → ((a : ℕ) → Of (r a)) → Always (by_code r)
  code_is r h code i o = natural_is (λ n. K code i) i.first _ (λ a. by (r a) (h a code i) _)
    where
      by : (row : Row) → K code i row → (b : Bool) → IfSome (if b then Some row else None) (K code i)
      by row is true = is
      by row is false = tt

lookup_switch_is : (code : List ℕ) (i : Instr) (o : Operand) → IfSome (lookup_switch code i o) (Are 171 code i)
unfolding opcodes.row_of
lookup_switch_is code i o = natural_is (λ n. Are 171 code i) i.second (λ pairs. Some (rows.Switch i.first (cases_of code i))) (λ pairs. (tt, (refl, refl, refl)))

-- a local variable that the instruction names
local_is : (op : ℕ) (r : ℕ → Row) (K : ℕ → Row → Type 0) → ((k : ℕ) → K k (r k)) → ((i : Instr) (x : Row) → K (unsigned_abs i.first) x → Tells (told_by op i.first i.second) x)
    → ((code : List ℕ) (i : Instr) (k : ℕ) → IsOf op code i (r k)) → (code : List ℕ) (i : Instr) (o : Operand) → IfSome (by_local r code i o) (Are op code i)
local_is op r K h to of code i o = by (by_local r code i o) (natural_is (λ n x. K n x × IsOf op code i x) i.first (λ k. Some (r k)) (λ k. (h k, of code i k)))
  where
    by : (z : Option Row) → IfSome z (λ x. K (unsigned_abs i.first) x × IsOf op code i x) → IfSome z (Are op code i)
    by None h' = tt
    by (Some x) h' = (to i x h'.0, h'.1)

increment_is : (code : List ℕ) (i : Instr) (o : Operand) → IfSome (increment code i o) (Are 132 code i)
unfolding opcodes.row_of
increment_is code i o = natural_is (λ n x. Tells (Increment n i.second) x × IsOf 132 code i x) i.first (λ k. Some (rows.Increment k i.second)) (λ k. ((refl, refl), refl))

constants_are : AreOf constants
unfolding opcodes.row_of
constants_are =
    (λ code i o. (tt, refl))
    & (λ code i o. (tt, refl))
    & (λ code i o. (refl, refl))
    & (λ code i o. (refl, refl))
    & (λ code i o. (refl, refl))
    & (λ code i o. (refl, refl))
    & (λ code i o. (refl, refl))
    & (λ code i o. (refl, refl))
    & (λ code i o. (refl, refl))
    & (λ code i o. (tt, refl))
    & (λ code i o. (tt, refl))
    & (λ code i o. (refl, refl))
    & (λ code i o. (refl, refl))
    & constant_is (Are 18) (λ c code i. (tt, refl)) (λ p code i. (tt, refl))
    & constant_is (Are 19) (λ c code i. (tt, refl)) (λ p code i. (tt, refl))
    & long_constant_is (Are 20) (λ c code i. (tt, refl))
    & tt

loads_are : AreOf loads
unfolding opcodes.row_of
loads_are =
    local_is 21 (rows.Load (Numbers IntType)) (λ n. Tells (Load n)) (λ k. refl) (λ i x h. h) (λ code i k. refl)
    & local_is 22 (rows.Load (Numbers LongType)) (λ n. IsOther) (λ k. tt) (λ i x h. h) (λ code i k. refl)
    & local_is 25 (rows.Load References) (λ n. IsOther) (λ k. tt) (λ i x h. h) (λ code i k. refl)
    & (λ code i o. (refl, refl))
    & (λ code i o. (refl, refl))
    & (λ code i o. (refl, refl))
    & (λ code i o. (refl, refl))
    & (λ code i o. (tt, refl))
    & (λ code i o. (tt, refl))
    & (λ code i o. (tt, refl))
    & (λ code i o. (tt, refl))
    & (λ code i o. (tt, refl))
    & (λ code i o. (tt, refl))
    & (λ code i o. (tt, refl))
    & (λ code i o. (tt, refl))
    & (λ code i o. (tt, refl))
    & (λ code i o. (tt, refl))
    & (λ code i o. (tt, refl))
    & (λ code i o. (tt, refl))
    & (λ code i o. (tt, refl))
    & (λ code i o. (tt, refl))
    & tt

stores_are : AreOf stores
unfolding opcodes.row_of
stores_are =
    local_is 54 (rows.Store (Numbers IntType)) (λ n. Tells (Store n)) (λ k. refl) (λ i x h. h) (λ code i k. refl)
    & local_is 55 (rows.Store (Numbers LongType)) (λ n. Tells (StoreLong n)) (λ k. refl) (λ i x h. h) (λ code i k. refl)
    & local_is 58 (rows.Store References) (λ n. Tells (StoreReference n)) (λ k. refl) (λ i x h. h) (λ code i k. refl)
    & (λ code i o. (refl, refl))
    & (λ code i o. (refl, refl))
    & (λ code i o. (refl, refl))
    & (λ code i o. (refl, refl))
    & (λ code i o. (refl, refl))
    & (λ code i o. (refl, refl))
    & (λ code i o. (refl, refl))
    & (λ code i o. (refl, refl))
    & (λ code i o. (refl, refl))
    & (λ code i o. (refl, refl))
    & (λ code i o. (refl, refl))
    & (λ code i o. (refl, refl))
    & (λ code i o. (tt, refl))
    & (λ code i o. (tt, refl))
    & (λ code i o. (tt, refl))
    & (λ code i o. (tt, refl))
    & (λ code i o. (tt, refl))
    & (λ code i o. (tt, refl))
    & tt

stack_are : AreOf stack
unfolding opcodes.row_of
stack_are =
    (λ code i o. (tt, refl))
    & (λ code i o. (tt, refl))
    & (λ code i o. (tt, refl))
    & (λ code i o. (tt, refl))
    & (λ code i o. (tt, refl))
    & (λ code i o. (tt, refl))
    & (λ code i o. (tt, refl))
    & (λ code i o. (tt, refl))
    & (λ code i o. (tt, refl))
    & tt

math_are : AreOf math
unfolding opcodes.row_of
math_are =
    (λ code i o. (tt, refl))
    & (λ code i o. (tt, refl))
    & (λ code i o. (tt, refl))
    & (λ code i o. (tt, refl))
    & (λ code i o. (tt, refl))
    & (λ code i o. (tt, refl))
    & (λ code i o. (tt, refl))
    & (λ code i o. (tt, refl))
    & (λ code i o. (tt, refl))
    & (λ code i o. (tt, refl))
    & (λ code i o. (tt, refl))
    & (λ code i o. (tt, refl))
    & (λ code i o. (tt, refl))
    & (λ code i o. (tt, refl))
    & (λ code i o. (tt, refl))
    & (λ code i o. (tt, refl))
    & (λ code i o. (tt, refl))
    & (λ code i o. (tt, refl))
    & (λ code i o. (tt, refl))
    & (λ code i o. (tt, refl))
    & (λ code i o. (tt, refl))
    & increment_is
    & tt

conversions_are : AreOf conversions
unfolding opcodes.row_of
conversions_are =
    (λ code i o. (tt, refl))
    & (λ code i o. (tt, refl))
    & (λ code i o. (tt, refl))
    & (λ code i o. (tt, refl))
    & (λ code i o. (tt, refl))
    & tt

comparisons_are : AreOf comparisons
unfolding opcodes.row_of
comparisons_are =
    (λ code i o. (tt, refl))
    & (λ code i o. ((refl, refl), (refl, refl)))
    & (λ code i o. ((refl, refl), (refl, refl)))
    & (λ code i o. ((refl, refl), (refl, refl)))
    & (λ code i o. ((refl, refl), (refl, refl)))
    & (λ code i o. ((refl, refl), (refl, refl)))
    & (λ code i o. ((refl, refl), (refl, refl)))
    & (λ code i o. ((refl, refl), (refl, refl)))
    & (λ code i o. ((refl, refl), (refl, refl)))
    & (λ code i o. ((refl, refl), (refl, refl)))
    & (λ code i o. ((refl, refl), (refl, refl)))
    & (λ code i o. ((refl, refl), (refl, refl)))
    & (λ code i o. ((refl, refl), (refl, refl)))
    & (λ code i o. (tt, (refl, refl)))
    & (λ code i o. (tt, (refl, refl)))
    & tt

control_are : AreOf control
unfolding opcodes.row_of
control_are =
    (λ code i o. (tt, (refl, refl, refl)))
    & (λ code i o. (tt, (refl, refl, refl)))
    & lookup_switch_is
    & (λ code i o. (tt, refl))
    & (λ code i o. (tt, refl))
    & (λ code i o. (tt, refl))
    & (λ code i o. (tt, refl))
    & tt

references_are : AreOf references
unfolding opcodes.row_of
references_are =
    static_is (Are 178) rows.GetStatic (λ f code i. (tt, refl))
    & static_is (Are 179) rows.PutStatic (λ f code i. (tt, refl))
    & field_is (Are 180) rows.GetField (λ c d k code i. (tt, refl))
    & field_is (Are 181) rows.PutField (λ c d k code i. (tt, refl))
    & method_is (Are 182) rows.CallVirtual (λ c m code i. (tt, refl))
    & method_is (Are 183) rows.CallSpecial (λ c m code i. (tt, refl))
    & method_is (Are 184) (λ c m. rows.CallStatic m) (λ c m code i. (tt, refl))
    & method_is (Are 185) rows.CallInterface (λ c m code i. (tt, refl))
    & class_is (Are 187) rows.New (λ c code i. (tt, refl))
    & code_is (Are 188) rows.NewNumbers (λ a code i. (tt, refl))
    & type_is (Are 189) rows.NewReferences (λ k code i. (tt, refl))
    & (λ code i o. (tt, refl))
    & (λ code i o. (tt, refl))
    & type_is (Are 192) rows.Cast (λ k code i. (tt, refl))
    & type_is (Are 193) rows.Test (λ k code i. (tt, refl))
    & (λ code i o. (tt, refl))
    & (λ code i o. (tt, refl))
    & tt

extended_are : AreOf extended
unfolding opcodes.row_of
extended_are =
    (λ code i o. (tt, (refl, refl)))
    & (λ code i o. (tt, (refl, refl)))
    & (λ code i o. (tt, (refl, refl, refl)))
    & tt

reserved_are : AreOf reserved
unfolding opcodes.row_of
reserved_are =
    (λ code i o. (tt, refl))
    & (λ code i o. (tt, refl))
    & tt

all_are : AreOf instructions
all_are =
    both_are constants (loads ++ stores ++ stack ++ math ++ conversions ++ comparisons ++ control ++ references ++ extended ++ reserved) constants_are
    (both_are loads (stores ++ stack ++ math ++ conversions ++ comparisons ++ control ++ references ++ extended ++ reserved) loads_are
    (both_are stores (stack ++ math ++ conversions ++ comparisons ++ control ++ references ++ extended ++ reserved) stores_are
    (both_are stack (math ++ conversions ++ comparisons ++ control ++ references ++ extended ++ reserved) stack_are
    (both_are math (conversions ++ comparisons ++ control ++ references ++ extended ++ reserved) math_are
    (both_are conversions (comparisons ++ control ++ references ++ extended ++ reserved) conversions_are
    (both_are comparisons (control ++ references ++ extended ++ reserved) comparisons_are
    (both_are control (references ++ extended ++ reserved) control_are
    (both_are references (extended ++ reserved) references_are
    (both_are extended reserved extended_are reserved_are)))))))))

both_true : (a b : Bool) → (a && b) ≡ true → (a ≡ true) × (b ≡ true)
both_true true b e = (refl, e)
both_true false b e = absurd (false≢true e)

-- a row, by an opcode that is a byte
abbrev IsRow : (code : List ℕ) → Instr → Row → Type 0
IsRow code i r = Are i.op code i r × (nat_lt i.op 256 ≡ true)

among : (ms : List Meaning) → AreOf ms → are_bytes ms ≡ true → (code : List ℕ) (i : Instr) (o : Operand) (r : Row) → row_among ms code i o ≡ Some r → IsRow code i r
among [] are bytes code i o r e = absurd (none≢some r e)
among (m ∷ ms) (first, rest) bytes code i o r e =
    let split = both_true (nat_lt m.opcode 256) (are_bytes ms) bytes in
    by (m.opcode == i.op) refl split.0 e (among ms rest split.1 code i o r)
  where
    by : (b : Bool) → (m.opcode == i.op) ≡ b → nat_lt m.opcode 256 ≡ true → (if b then m.row code i o else row_among ms code i o) ≡ Some r → (row_among ms code i o ≡ Some r → IsRow code i r) → IsRow code i r
    by true same small has later =
        let is : Are m.opcode code i r = subst (λ (z : Option Row). IfSome z (Are m.opcode code i)) has (first code i o) in
        let e' = eqb-true m.opcode i.op same in
        (subst (λ (op : ℕ). Are op code i r) e' is, subst (λ (op : ℕ). nat_lt op 256 ≡ true) e' small)
    by false same small has later = later has

pub row_is : (code : List ℕ) (i : Instr) (o : Operand) (r : Row) → row_of code i o ≡ Some r → IsRow code i r
unfolding row_of
row_is code i o r e = among instructions all_are refl code i o r e

pub told_is : (code : List ℕ) (i : Instr) (o : Operand) (r : Row) → row_of code i o ≡ Some r → Tells (told_by i.op i.first i.second) r
told_is code i o r e = (row_is code i o r e).0.0

-- ---- a constant of the pool

-- the instruction's row is that of a constant, where its opcode is one of the two
of_opcode : (n : ℕ) → ((code : List ℕ) (i : Instr) (o : Operand) → row_of code (record i { op = n }) o ≡ constant code (record i { op = n }) o) → (code : List ℕ) (i : Instr) (o : Operand) → i.op ≡ n
    → row_of code i o ≡ constant code i o
of_opcode n is code i o e =
    let K : ℕ → Type 0 = λ x. row_of code (record i { op = x }) o ≡ constant code (record i { op = x }) o in
    subst K (sym e) (is code i o)

is_18 : (code : List ℕ) (i : Instr) (o : Operand) → row_of code (record i { op = 18 }) o ≡ constant code (record i { op = 18 }) o
unfolding row_of
is_18 code i o = refl

is_19 : (code : List ℕ) (i : Instr) (o : Operand) → row_of code (record i { op = 19 }) o ≡ constant code (record i { op = 19 }) o
unfolding row_of
is_19 code i o = refl

pushes_entry : IntRow → Bool
pushes_entry PushEntry = true
pushes_entry t = false

neither : (c : Bool) (x y : IntRow) → pushes_entry x ≡ false → pushes_entry y ≡ false → pushes_entry (if c then x else y) ≡ false
neither true x y a b = a
neither false x y a b = b

the_first : (c : Bool) (x y : IntRow) → pushes_entry y ≡ false → pushes_entry (if c then x else y) ≡ true → pushes_entry x ≡ true
the_first true x y none e = e
the_first false x y none e = absurd (false≢true (sym none ∙ e))

the_second : (c : Bool) (x y : IntRow) → pushes_entry x ≡ false → pushes_entry (if c then x else y) ≡ true → pushes_entry y ≡ true
the_second true x y none e = absurd (false≢true (sym none ∙ e))
the_second false x y none e = e

push_none : (n : ℤ) → pushes_entry (Push n) ≡ false
unfolding pushes_entry
push_none n = refl

loaded_tests : (p q r : Bool) (k l m : ℕ) (n : ℤ) → pushes_entry (if p then Load k else if q then Load l else if r then Increment m n else Other) ≡ false
unfolding pushes_entry
loaded_tests true q r k l m n = refl
loaded_tests false true r k l m n = refl
loaded_tests false false true k l m n = refl
loaded_tests false false false k l m n = refl

int_tests : (p q : Bool) (k l : ℕ) → pushes_entry (if p then Store k else if q then Store l else Other) ≡ false
unfolding pushes_entry
int_tests true q k l = refl
int_tests false true k l = refl
int_tests false false k l = refl

stored_tests : (p q r t : Bool) (k l m n : ℕ) (x : IntRow) → pushes_entry x ≡ false
    → pushes_entry (if p then StoreLong k else if q then StoreLong l else if r then StoreReference m else if t then StoreReference n else x) ≡ false
unfolding pushes_entry
stored_tests true q r t k l m n x none = refl
stored_tests false true r t k l m n x none = refl
stored_tests false false true t k l m n x none = refl
stored_tests false false false true k l m n x none = refl
stored_tests false false false false k l m n x none = none

branched_tests : (p q : Bool) (c d : Comparison) (o : ℤ) → pushes_entry (if p then BranchZero c o else if q then BranchInts d o else Other) ≡ false
unfolding pushes_entry
branched_tests true q c d o = refl
branched_tests false true c d o = refl
branched_tests false false c d o = refl

loaded_none : (op : ℕ) (a b : ℤ) → pushes_entry (loaded_by op a b) ≡ false
loaded_none op a b = loaded_tests (op == 21) (nat_le 26 op && nat_le op 29) (op == 132) (unsigned_abs a) (op - 26) (unsigned_abs a) b

stored_none : (op : ℕ) (a : ℤ) → pushes_entry (stored_by op a) ≡ false
stored_none op a =
    stored_tests (op == 55) (nat_le 63 op && nat_le op 66) (op == 58) (nat_le 75 op && nat_le op 78) (unsigned_abs a) (op - 63) (unsigned_abs a) (op - 75) (int_stored_by op a)
    (int_tests (op == 54) (nat_le 59 op && nat_le op 62) (unsigned_abs a) (op - 59))

branched_none : (op : ℕ) (a : ℤ) → pushes_entry (branched_by op a) ≡ false
branched_none op a = branched_tests (nat_le 153 op && nat_le op 158) (nat_le 159 op && nat_le op 164) (comparison_of (op - 153)) (comparison_of (op - 159)) a

one_of : (op : ℕ) (b c : Bool) → (op == 18) ≡ b → (op == 19) ≡ c → pushes_entry (if b || c then PushEntry else Other) ≡ true → (op ≡ 18) ⊎ (op ≡ 19)
unfolding pushes_entry
one_of op true c is_b is_c e = inl (eqb-true op 18 is_b)
one_of op false true is_b is_c e = inr (eqb-true op 19 is_c)
one_of op false false is_b is_c e = absurd (false≢true e)

pushed_one : (op : ℕ) (a : ℤ) → pushes_entry (pushed_by op a) ≡ true → (op ≡ 18) ⊎ (op ≡ 19)
pushed_one op a e =
    one_of op (op == 18) (op == 19) refl refl
    (the_second (op == 16 || op == 17) (Push a) (if op == 18 || op == 19 then PushEntry else Other) (push_none a)
    (the_second (nat_le 2 op && nat_le op 8) (Push (pos op -ℤ pos 3)) (if op == 16 || op == 17 then Push a else if op == 18 || op == 19 then PushEntry else Other) (push_none (pos op -ℤ pos 3)) e))

told_one : (op : ℕ) (a b : ℤ) → pushes_entry (told_by op a b) ≡ true → (op ≡ 18) ⊎ (op ≡ 19)
told_one op a b e =
    let last : IntRow = if nat_lt op 133 then loaded_by op a b else branched_by op a in
    let middle : IntRow = if nat_lt op 79 then stored_by op a else last in
    pushed_one op a (the_first (nat_lt op 21) (pushed_by op a) (if nat_lt op 54 then loaded_by op a b else middle)
    (neither (nat_lt op 54) (loaded_by op a b) middle (loaded_none op a b) (neither (nat_lt op 79) (stored_by op a) last (stored_none op a) (neither (nat_lt op 133) (loaded_by op a b) (branched_by op a) (loaded_none op a b) (branched_none op a)))) e)

pub entry_is : (code : List ℕ) (i : Instr) (o : Operand) → told_by i.op i.first i.second ≡ PushEntry → row_of code i o ≡ constant code i o
unfolding pushes_entry
entry_is code i o e =
    elim (told_one i.op i.first i.second (ap pushes_entry e)) [
      | inl is ↦ of_opcode 18 is_18 code i o is
      | inr is ↦ of_opcode 19 is_19 code i o is
    ]
