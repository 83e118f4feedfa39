-- What single instructions make and push.
use Rattle.std.proofs.Common.{◌≡◌, ◌≢◌, ℕ, ◌+◌, ◌==◌, ◌<◌, ◌≤◌, Bool, true, false, ℤ, pos, negsuc, List, [], ◌∷◌, ◌++◌, length, map, filter, sum_by, Option, Some, None, option_to_list, refl, sym, ap, ◌∙◌, subst, arith, eq-eqb, eqb-true}
use Rattle.std.specs.Prelude.{if◌then◌else◌, slice_get, reverse, IsSome}
use Rattle.std.specs.Option.{option_map_or}
use Rattle.std.specs.List.{filter_map, cons_option, flat_map, range_with_len}
use Rattle.std.proofs.lemmas.Bool.{false≢true}
use Rattle.std.proofs.lemmas.Option.{slice_get_past, slice_get_within}
use Rattle.std.proofs.lemmas.List.Sums.{sum_by-cons}
use Rattle.lists.proofs.Lemmas.{none≢some, some_same, some_is, onto_some}
use Rattle.opcodes.specs.declared.instruction.Instr.{Instr}
use Rattle.opcodes.specs.Instruction.{decoded}
use Rattle.opcodes.specs.Start.{IsStart}
use Rattle.class_pool.specs.declared.class.ClassFile.{ClassFile}
use Rattle.class_lookup.specs.Hierarchy.{superclass, superclasses, find_class}
use Rattle.class_lookup.specs.Laws.{AreSuperclasses}
use Rattle.class_lookup.specs.Lookup.{Place}
use Rattle.class_lookup.specs.Parts.{superclass_name}
use Rattle.program_tables.specs.declared.operand.Operand.{Operand as SeenOperand}
use Rattle.program_tables.specs.declared.operand.Operand.TheVariants as operands
use Rattle.program_tables.specs.Laws.{MethodsStandByNumber}
use Rattle.program_tables.specs.Meanings.{operand_seen}
use Rattle.program_tables.specs.Numbers.{instance_fields, own_instance_fields, is_instance_field, methods_by_number}
use Rattle.program_tables.specs.Resolved.{declared_at, resolved, resolved_method, resolved_methods}
use Rattle.bytecode_model.specs.declared.Value.TheVariants.{Int, Ref}
use Rattle.bytecode_model.specs.Lists.{onto}
use Rattle.bytecode_model.specs.Types.{Declared, Kind, OfClass, OfNumbers, OfReferences, default, zero_of, element_type, t_long, IntType, LongType}
use Rattle.bytecode_model.specs.Program.{Program, Method, Body, body_of, as_instr, instr_at, Operand, NoOperand, AnInt, ALong, AString, AStatic, AField, AMethod, AType}
use Rattle.bytecode_model.specs.Sizes.{value_words}
use Rattle.bytecode_model.specs.Rows as rows
use Rattle.bytecode_model.specs.Rows.{Row}
use Rattle.bytecode_model.specs.Table.{constant, by_class, by_code, by_type, row_of}
use Rattle.code_lines.specs.Lines.{IsLine}
use Rattle.code_lines.specs.Laws.{LinesAreRead}
use Rattle.code_scan.specs.declared.rows.IntRow.{IntRow}
use Rattle.code_scan.specs.declared.rows.IntRow.TheVariants.{Push, PushEntry, Load, Store, StoreLong, StoreReference, Increment, BranchZero, BranchInts, Other}
use Rattle.code_scan.specs.Rows.{Tells}
use Rattle.memory_rules.specs.Heap.{AnObject, AnArray, made_by}
use Rattle.program_sites.specs.declared.made.making.MadeWords.{MadeWords}
use Rattle.program_sites.specs.declared.made.making.MadeWords.TheVariants.{Object}
use Rattle.program_sites.specs.Made.Making.{words_at, words_of, made_seen, IsPushBy, int_of, pushed_or}
use Rattle.program_sites.proofs.MadeLemmas.Telling.{MakesBy, makes_by, new_row, numbers_row, references_row}

-- ---- lines

pub record IsReadIn (P : Program) (m p : ℕ) (r : Row) : Type 0 where
  pub instr : Instr
  pub is : instr_at P m p ≡ Some instr
  pub code : List ℕ
  pub row : row_of code instr (P.operand m p) ≡ Some r

pub read_in : LinesAreRead → (P : Program) (m p next : ℕ) (r : Row) → IsLine P m p next r → IsReadIn P m p r
read_in read P m p next r line =
    let b = some_is (body_of P m) (λ (z : Body). IsStart z.code p) line.start in
    let h = (read P m p next r b.0 b.1).0 line in
    record {
      instr = h.instr;
      is = ap (λ (o : Option Body). onto o (λ z. as_instr (decoded z.code p))) b.1 ∙ ap as_instr h.is;
      code = b.0.code;
      row = h.row;
    }

-- ---- fields

abbrev words_or : Option Declared → ℕ
words_or o = elim o [ None ↦ 0 | Some d ↦ value_words (default d) ]

sum_option : (o : Option Declared) (ds : List Declared) → words_or o + sum_by (λ d. value_words (default d)) ds ≡ sum_by (λ d. value_words (default d)) (cons_option o ds)
sum_option None ds = omega arith
sum_option (Some d) ds = sym (sum_by-cons (λ (e : Declared). value_words (default e)) d ds)

sum_fields : (cs : List ClassFile) (fs : List Place) → sum_by (words_at cs) fs ≡ sum_by (λ d. value_words (default d)) (filter_map (declared_at cs) fs)
sum_fields cs [] = refl
sum_fields cs (f ∷ fs) =
    sum_by-cons (words_at cs) f fs ∙ ap (λ (n : ℕ). words_or (declared_at cs f) + n) (sum_fields cs fs) ∙ sum_option (declared_at cs f) (filter_map (declared_at cs) fs)

pub object_is : (cs : List ClassFile) (c : ℕ) → Some (AnObject (words_of cs c)) ≡ made_by (resolved cs) (rows.New c)
object_is cs c = ap (λ (n : ℕ). Some (AnObject (1 + n))) (sum_fields cs (instance_fields cs c))

-- ---- rows

pub class_row : (code : List ℕ) (i : Instr) (o : Operand) (r : Row) → by_class rows.New code i o ≡ Some r → (c : ℕ) × (o ≡ AType (OfClass c)) × (r ≡ rows.New c)
class_row code i NoOperand r e = absurd (none≢some r e)
class_row code i (AnInt n) r e = absurd (none≢some r e)
class_row code i (ALong n) r e = absurd (none≢some r e)
class_row code i (AString p) r e = absurd (none≢some r e)
class_row code i (AStatic f) r e = absurd (none≢some r e)
class_row code i (AField c d k) r e = absurd (none≢some r e)
class_row code i (AMethod c m) r e = absurd (none≢some r e)
class_row code i (AType (OfClass c)) r e = (c, refl, sym (some_same (rows.New c) r e))
class_row code i (AType (OfNumbers c)) r e = absurd (none≢some r e)
class_row code i (AType (OfReferences k)) r e = absurd (none≢some r e)

pub type_row : (code : List ℕ) (i : Instr) (o : Operand) (r : Row) → by_type rows.NewReferences code i o ≡ Some r → (k : Kind) × (r ≡ rows.NewReferences k)
type_row code i NoOperand r e = absurd (none≢some r e)
type_row code i (AnInt n) r e = absurd (none≢some r e)
type_row code i (ALong n) r e = absurd (none≢some r e)
type_row code i (AString p) r e = absurd (none≢some r e)
type_row code i (AStatic f) r e = absurd (none≢some r e)
type_row code i (AField c d k) r e = absurd (none≢some r e)
type_row code i (AMethod c m) r e = absurd (none≢some r e)
type_row code i (AType k) r e = (k, sym (some_same (rows.NewReferences k) r e))

if_some : {A : Type 0} (b : Bool) (x y : A) → (if b then Some x else None) ≡ Some y → x ≡ y
if_some true x y e = some_same x y e
if_some false x y e = absurd (none≢some y e)

pub code_row : (code : List ℕ) (i : Instr) (o : Operand) (r : Row) → by_code rows.NewNumbers code i o ≡ Some r → (a : ℕ) × (i.first ≡ pos a) × (r ≡ rows.NewNumbers a)
code_row code i o r e = by i.first refl e
  where
    by : (z : ℤ) → i.first ≡ z → by_code rows.NewNumbers code (record i { first = z }) o ≡ Some r → (a : ℕ) × (i.first ≡ pos a) × (r ≡ rows.NewNumbers a)
    by (pos a) is e' = (a, is, sym (if_some _ (rows.NewNumbers a) r e'))
    by (negsuc n) is e' = absurd (none≢some r e')

-- the words of an element
pub element_is : (a : ℕ) → (element_words : ℕ) → ((a ≡ 11) → element_words ≡ 2) → ((a ≡ 11 → ⊥) → element_words ≡ 1) → element_words ≡ value_words (zero_of (element_type a))
element_is a words long other = by (a == t_long) refl
  where
    by : (b : Bool) → (a == t_long) ≡ b → words ≡ value_words (zero_of (if b then LongType else IntType))
    by true is = long (eqb-true a 11 is)
    by false is = other (λ e. false≢true (sym is ∙ eq-eqb a 11 e))

pub none_made : (P : Program) (op : ℕ) (r : Row) → MakesBy op r → op ≢ 187 → op ≢ 188 → op ≢ 189 → None ≡ made_by P r
none_made P op (rows.New c) is a b c' = absurd (a is)
none_made P op (rows.NewNumbers code) is a b c = absurd (b is)
none_made P op (rows.NewReferences k) is a b c = absurd (c is)
none_made P op r is a b c = refl

-- ---- ints that are pushed

pub push_row : (n : ℤ) (r : Row) → Tells (Push n) r → r ≡ rows.Push (Int n)
push_row n (rows.Push (Int c)) is = ap (λ (z : ℤ). rows.Push (Int z)) is
push_row n r is = absurd is

pub entry_row : (code : List ℕ) (i : Instr) (o : Operand) (c : ℤ) → constant code i o ≡ Some (rows.Push (Int c)) → o ≡ AnInt c
entry_row code i NoOperand c e = absurd (none≢some (rows.Push (Int c)) e)
entry_row code i (AnInt n) c e = let same = some_same (rows.Push (Int n)) (rows.Push (Int c)) e in let value : n ≡ c = cc in ap AnInt value
entry_row code i (ALong n) c e = absurd (none≢some (rows.Push (Int c)) e)
entry_row code i (AString p) c e = let same = some_same (rows.Push (Ref p)) (rows.Push (Int c)) e in let bad : ⊥ = cc in absurd bad
entry_row code i (AStatic f) c e = absurd (none≢some (rows.Push (Int c)) e)
entry_row code i (AField a d k) c e = absurd (none≢some (rows.Push (Int c)) e)
entry_row code i (AMethod a m) c e = absurd (none≢some (rows.Push (Int c)) e)
entry_row code i (AType k) c e = absurd (none≢some (rows.Push (Int c)) e)

-- ---- what is told of instructions

module _ (cs : List ClassFile) (code : List ℕ) (i : Instr) (o : Operand) (r : Row) (is : row_of code i o ≡ Some r) where
  pub new_is : i.op ≡ 187 → (made : Option MadeWords) → ((c : ℕ) → o ≡ AType (OfClass c) → made ≡ Some (Object (words_of cs c))) → made_seen made ≡ made_by (resolved cs) r
  new_is op made tells =
      let c = class_row code i o r (sym (new_row code i o op) ∙ is) in
      ap made_seen (tells c.0 c.1) ∙ object_is cs c.0 ∙ ap (made_by (resolved cs)) (sym c.2)

  pub numbers_are : i.op ≡ 188 → (words : ℕ) → (i.first ≡ pos 11 → words ≡ 2) → ((i.first ≡ pos 11 → ⊥) → words ≡ 1) → Some (AnArray words) ≡ made_by (resolved cs) r
  numbers_are op words long other =
      let a = code_row code i o r (sym (numbers_row code i o op) ∙ is) in
      let same = element_is a.0 words (λ e. long (a.1 ∙ ap pos e)) (λ out. other (λ e. out (let same : pos a.0 ≡ pos 11 = sym a.1 ∙ e in cc))) in
      ap (λ (w : ℕ). Some (AnArray w)) same ∙ ap (made_by (resolved cs)) (sym a.2)

  pub references_are : i.op ≡ 189 → Some (AnArray 1) ≡ made_by (resolved cs) r
  references_are op = let k = type_row code i o r (sym (references_row code i o op) ∙ is) in ap (made_by (resolved cs)) (sym k.1)

  pub others_make_none : i.op ≢ 187 → i.op ≢ 188 → i.op ≢ 189 → None ≡ made_by (resolved cs) r
  others_make_none a b c = none_made (resolved cs) i.op r (makes_by code i o r is) a b c

-- ---- what is pushed

by_entry : (code : List ℕ) (i : Instr) (o : SeenOperand) (r : Row) → constant code i (operand_seen o) ≡ Some r → IsPushBy r (int_of o)
by_entry code i (operands.Int n) r e = sym (some_same (rows.Push (Int n)) r e)
by_entry code i operands.Nothing r e = absurd (none≢some r e)
by_entry code i (operands.Long n) r e = absurd (none≢some r e)
by_entry code i (operands.Text p) r e = λ c is. let bad : rows.Push (Ref p) ≡ rows.Push (Int c) = some_same (rows.Push (Ref p)) r e ∙ is in cc
by_entry code i (operands.Static f) r e = absurd (none≢some r e)
by_entry code i (operands.Field a d k) r e = absurd (none≢some r e)
by_entry code i (operands.Method a m) r e = absurd (none≢some r e)
by_entry code i (operands.Type k) r e = absurd (none≢some r e)

pub pushed_is : (code : List ℕ) (i : Instr) (o : SeenOperand) (r : Row) (t : IntRow) → row_of code i (operand_seen o) ≡ Some r → Tells t r → (t ≡ PushEntry → row_of code i (operand_seen o) ≡ constant code i (operand_seen o))
    → IsPushBy r (pushed_or t (int_of o))
pushed_is code i o r (Push n) is tells entry = push_row n r tells
pushed_is code i o r PushEntry is tells entry = by_entry code i o r (sym (entry refl) ∙ is)
pushed_is code i o r (Load k) is tells entry = λ c e. subst (λ (s : Row). Tells (Load k) s) e tells
pushed_is code i o r (Store k) is tells entry = λ c e. subst (λ (s : Row). Tells (Store k) s) e tells
pushed_is code i o r (StoreLong k) is tells entry = λ c e. subst (λ (s : Row). Tells (StoreLong k) s) e tells
pushed_is code i o r (StoreReference k) is tells entry = λ c e. subst (λ (s : Row). Tells (StoreReference k) s) e tells
pushed_is code i o r (Increment k n) is tells entry = λ c e. subst (λ (s : Row). Tells (Increment k n) s) e tells
pushed_is code i o r (BranchZero d n) is tells entry = λ c e. subst (λ (s : Row). Tells (BranchZero d n) s) e tells
pushed_is code i o r (BranchInts d n) is tells entry = λ c e. subst (λ (s : Row). Tells (BranchInts d n) s) e tells
pushed_is code i o r Other is tells entry = λ c e. subst (λ (s : Row). Tells Other s) e tells

-- ---- a class that isn't there has no fields

pub no_class : (cs : List ClassFile) → AreSuperclasses cs → (c : ℕ) → length cs ≤ c → words_of cs c ≡ 1
no_class cs above c out =
    let none : slice_get cs c ≡ None = slice_get_past cs c out in
    let top : superclass cs c ≡ None = ap (λ (k : Option ClassFile). onto k (λ x. find_class cs (superclass_name x))) none in
    let way : superclasses cs c ≡ c ∷ [] = above.step c ∙ ap (λ (o : Option ℕ). c ∷ flat_map (superclasses cs) (option_to_list o)) top in
    let own : own_instance_fields cs c ≡ [] = ap (λ (o : Option ClassFile). filter (is_instance_field cs) (option_map_or (λ k. map (λ i. (c, i)) (range_with_len 0 (length k.fields))) o [])) none in
    let fields : instance_fields cs c ≡ [] = ap (λ (ks : List ℕ). flat_map (own_instance_fields cs) (reverse ks)) way ∙ ap (λ (fs : List Place). fs ++ []) own in
    ap (λ (fs : List Place). 1 + sum_by (words_at cs) fs) fields

-- ---- methods

-- a method with code has a number
pub has_number : MethodsStandByNumber → (cs : List ClassFile) (m : ℕ) → IsSome (body_of (resolved cs) m) → m < length (methods_by_number cs)
has_number stand cs m has =
    let b = there_is (body_of (resolved cs) m) has in
    let r = onto_some (slice_get (resolved_methods cs) m) (λ (x : Method). x.body) b.0 b.1 in
    let p = onto_some (slice_get (methods_by_number cs) m) (resolved_method cs) r.0 (sym (stand cs m) ∙ r.1) in
    slice_get_within (methods_by_number cs) m p.0 p.1
  where
    there_is : (o : Option Body) → IsSome o → (b : Body) × (o ≡ Some b)
    there_is None h = absurd (let bad : ⊥ = cc in bad)
    there_is (Some b) h = (b, refl)
