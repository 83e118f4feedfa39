-- aastore, from the step to where the machine stands for the next state.
use Rattle.std.proofs.Common.{◌≡◌, ℕ, ◌+◌, ◌-◌, ◌/◌, ◌%◌, ◌^◌, ◌<◌, ◌≤◌, Bool, true, false, bit_and, ℤ, pos, List, Some, length, if◌then◌else◌, refl, sym, ◌∙◌, ap, subst, arith}
use Rattle.std.specs.Prelude.{slice_get, slice_index}
use Rattle.std.proofs.lemmas.Nat.{and_mask}
use Rattle.std.proofs.Math.Nat.{mod-eq_of_lt}
use Rattle.lists.proofs.Lemmas.{onto_some, some_same}
use Rattle.opcodes.specs.Row as opcodes
use Rattle.micro_sketch.specs.Rows.{head_of, tail_of}
use Rattle.bytecode_model.specs.declared.Value.{Value}
use Rattle.bytecode_model.specs.declared.Value.TheVariants.{Int, Long, Ref, Null, Unset}
use Rattle.bytecode_model.specs.Lists.{onto}
use Rattle.bytecode_model.specs.Types.{Kind, OfReferences, References, IntType, is_moved, is_long}
use Rattle.bytecode_model.specs.State.{Object}
use Rattle.bytecode_model.specs.Program.{kind_of, is_of}
use Rattle.bytecode_model.specs.Rows.{StoreReference}
use Rattle.bytecode_model.specs.Table.{row_of}
use Rattle.bytecode_model.specs.Effects.{Effect, WritePart, ArrayIndexOutOfBoundsException, ArrayStoreException, NullPointerException, fault, on, only_if, on_number, on_object, on_element, component_of, is_instance}
use Rattle.bytecode_model.specs.Steps.{applied}
use Rattle.image_facts.specs.Words.{int_word}
use Rattle.image_facts.specs.Says.{SaysAll, SaysLinked, bit_of}
use Rattle.machine_stands.specs.Frames.{IsWordOf}
use Rattle.opcode_steps.proofs.HeapLemmas.ArrayRows.{kept_int, component_at, supertype_bit, store_null, store_outside, store_inside, store_nothing, store_something, store_other, store_same, aastore_null, aastore_outside, aastore_nothing, aastore_other, aastore_same}
use Rattle.opcode_steps.proofs.HeapLemmas.ArrayDefined.{on_defined, only_if_defined, on_top_defined, on_int_defined, on_object_defined, on_element_defined, IsOutside, IsArray, references, references_are}
use Rattle.opcode_steps.proofs.HeapLemmas.ArrayScenes.{Laws, Scene, Comes, limits, top, x, place, At, effect_of, raises_by, null_test, there_test}
use Rattle.opcode_steps.proofs.HeapLemmas.Elements.{outside, inside}
use Rattle.opcode_steps.proofs.HeapLemmas.Types.{type_at, component_read, supertype_read}
use Rattle.opcode_steps.proofs.HeapLemmas.Loads.{at_row}
use Rattle.opcode_steps.proofs.HeapLemmas.Stores.{Three, three, Put, put_by, word_stored}

-- ---- the value

one_word : (v : Value) → is_moved References v ≡ true → is_long v ≡ false
one_word (Ref q) h = refl
one_word Null h = refl
one_word (Int n) h = absurd (cc)
one_word (Long n) h = absurd (cc)
one_word Unset h = absurd (cc)

is_set : (v : Value) → is_moved References v ≡ true → v ≡ Unset → ⊥
is_set v h unset = let none : false ≡ true = ap (is_moved References) (sym unset) ∙ h in cc

-- ---- numbers

number_is : (u : ℕ) → u < 2 ^ 32 → (u + 1 + (2 ^ 32 - 1)) % 2 ^ 32 ≡ u
number_is u h = omega arith

two_on : (a size : ℕ) → a + 2 < size → size < 2 ^ 32 → (a + 2) % 2 ^ 32 ≡ a + 2
two_on a size h l = mod-eq_of_lt {n = a + 2} {m = 2 ^ 32} (omega (arith, h, l))

bit_place : (a u size : ℕ) → a + 5 + u / 32 < size → size < 2 ^ 32 → ((a + 5) % 2 ^ 32 + u / 2 ^ 5) % 2 ^ 32 ≡ a + 5 + u / 32
bit_place a u size h l = omega arith

-- ---- the test of the type

-- the numbers of types are small, since the records of types lie in the memory
few_types : (a u size : ℕ) → a + 5 + u / 32 < size → size ≤ 2 ^ 24 → u < 2 ^ 32
few_types a u size h l = omega arith

module _ (laws : Laws) (g : Scene 83) where
  says_linked : SaysLinked g.P g.pl
  says_linked = subst (λ (b : Bool). SaysAll b g.P g.pl) g.linked g.h.says.all

  -- the bit that the row tests says whether the value's type is the component's or below it
  pub bit_is : (p : ℕ) (o : Object) (k : Kind) (q : ℕ) (v : Object) (l : Kind) → slice_get g.s.objects p ≡ Some o → kind_of g.P o ≡ Some (OfReferences k) → slice_get g.s.objects q ≡ Some v → kind_of g.P v ≡ Some l
      → (array value : ℕ) → array ≡ place 83 g p → value ≡ place 83 g q → supertype_bit (x 83 g) (component_at (x 83 g) array) value ≡ bit_of (is_of g.P l k)
  bit_is p o k q v l object of there kind array value array_is value_is =
      let memory = g.m.port.words in
      let small = g.h.stands.sizes.small in
      let st = g.h.stands in
      let well = g.h.well_formed in
      let component = component_read laws.fixed g.P g.pl g.n g.size g.m g.s st well says_linked o.kind k of in
      let u = component.number in
      let super = supertype_read laws.fixed g.P g.pl g.n g.size g.m g.s st well says_linked v.kind l u k kind (type_at g.P k u component.is) in
      let array_type = (laws.objects g.P g.pl g.n g.size g.m g.s p o st well object).type in
      let value_type = (laws.objects g.P g.pl g.n g.size g.m g.s q v st well there).type in
      let from : slice_index memory array ≡ g.pl.type o.kind = ap (slice_index memory) array_is ∙ array_type.word_is in
      let to : slice_index memory value ≡ g.pl.type v.kind = ap (slice_index memory) value_is ∙ value_type.word_is in
      let few : u < 2 ^ 32 = few_types (g.pl.type v.kind) u g.size super.within st.sizes.most in
      let number : component_at (x 83 g) array ≡ u =
      ap (λ (a : ℕ). (slice_index memory ((a + 2) % 2 ^ 32) + (2 ^ 32 - 1)) % 2 ^ 32) from
      ∙ ap (λ (a : ℕ). (slice_index memory a + (2 ^ 32 - 1)) % 2 ^ 32) (two_on (g.pl.type o.kind) g.size component.within small)
      ∙ ap (λ (w : ℕ). (w + (2 ^ 32 - 1)) % 2 ^ 32) component.word_is ∙ number_is u few in
      ap (λ (c : ℕ). supertype_bit (x 83 g) c value) number
      ∙ ap (λ (a : ℕ). bit_and (slice_index memory (((a + 5) % 2 ^ 32 + u / 2 ^ 5) % 2 ^ 32) / 2 ^ (u % 32)) 1) to
      ∙ ap (λ (a : ℕ). bit_and (slice_index memory a / 2 ^ (u % 32)) 1) (bit_place (g.pl.type v.kind) u g.size super.within small)
      ∙ and_mask (slice_index memory (g.pl.type v.kind + 5 + u / 32) / 2 ^ (u % 32)) 1 ∙ super.bit

-- ---- the row

module _ (laws : Laws) (g : Scene 83) (at : At 83 g StoreReference) where
  abbrev puts : Value → ℕ → List Value → ℕ → Effect
  puts v p rest k = WritePart p k v ((top 83 g).pc + 1) (top 83 g).locals rest

  abbrev tested : Value → ℕ → List Value → ℕ → Bool → Effect
  tested v p rest k b = if b then puts v p rest k else fault ArrayStoreException

  abbrev by_element : Value → ℕ → List Value → Kind → ℕ → Value → Effect
  by_element v p rest k i old = on (is_instance g.P g.s.objects true k v) (tested v p rest i)

  abbrev by_kind : Value → ℤ → ℕ → Object → List Value → Kind → Effect
  by_kind v i p o rest k = on_element o i (by_element v p rest k)

  abbrev to_array : Value → ℤ → ℕ → Object → List Value → Effect
  to_array v i p o rest = on (component_of (kind_of g.P o)) (by_kind v i p o rest)

  abbrev by_index : Value → ℤ → List Value → Effect
  by_index v i rest = on_object g.s.objects rest (to_array v i)

  abbrev by_value : Value → List Value → Effect
  by_value v rest = only_if (is_moved References v) (on_number IntType rest (by_index v))

  null_comes : (v : Value) (i : ℤ) (rest : List Value) → Three 83 g v i Null rest → effect_of 83 g StoreReference ≡ fault NullPointerException → Comes 83 g
  null_comes v i rest w raises =
      raises_by laws 83 g StoreReference NullPointerException (λ y. tail_of y.under) store_null w.others aastore_null (null_test (head_of (x 83 g).under) true w.array_is refl) at raises w.tail_is w.few

  outside_comes : (v : Value) (i : ℤ) (p : ℕ) (o : Object) (rest : List Value) → Three 83 g v i (Ref p) rest → slice_get g.s.objects p ≡ Some o → IsArray g.P o false → IsOutside i (length o.parts)
      → effect_of 83 g StoreReference ≡ fault ArrayIndexOutOfBoundsException → Comes 83 g
  outside_comes v i p o rest w object kind out raises =
      raises_by laws 83 g StoreReference ArrayIndexOutOfBoundsException (λ y. tail_of y.under) store_outside w.others aastore_outside
      (outside laws 83 g p o object (head_of (x 83 g).under) w.array_is false kind i (x 83 g).next w.index_is w.fits out) at raises w.tail_is w.few

  -- an element that is there
  module _ (v : Value) (moved : is_moved References v ≡ true) (i : ℤ) (p : ℕ) (o : Object) (rest : List Value) (w : Three 83 g v i (Ref p) rest) (object : slice_get g.s.objects p ≡ Some o) (c : Kind)
      (of : component_of (kind_of g.P o) ≡ Some c) (k : ℕ) (old : Value) (is : i ≡ pos k) (part : slice_get o.parts k ≡ Some old) where
    kind : IsArray g.P o false
    kind = references g.P o c of

    index : (x 83 g).next ≡ k
    index = w.index_is ∙ ap int_word is

    here : store_inside (x 83 g) ≡ true
    here = inside laws 83 g p o object (head_of (x 83 g).under) w.array_is false kind k old part (x 83 g).next index

    null_stored : v ≡ Null → Put 83 g p o k v rest → Comes 83 g
    null_stored null u =
        let y = x 83 g in
        let zero : y.top ≡ 0 = subst (λ (q : Value). IsWordOf (place 83 g) q y.top) null w.word_is in
        word_stored laws 83 g StoreReference kept_int store_nothing p o k old v rest w.others aastore_nothing (null_test y.top (store_inside y) zero here) at object kind part index w.array_is (one_word v moved)
        (is_set v moved) w.word_is u w.stay w.tail_is

    module _ (q : ℕ) (ref : v ≡ Ref q) (object' : Object) (there : slice_get g.s.objects q ≡ Some object') (l : Kind) (kind' : kind_of g.P object' ≡ Some l) where
      value_is : (x 83 g).top ≡ place 83 g q
      value_is = subst (λ (r : Value). IsWordOf (place 83 g) r (x 83 g).top) ref w.word_is

      something : store_something (x 83 g) ≡ true
      something = let some = laws.not_null g.P g.pl g.s q g.h.says g.linked in let is = value_is in there_test (x 83 g).top (store_inside (x 83 g)) (omega (arith, some, is)) here

      bit : supertype_bit (x 83 g) (component_at (x 83 g) (head_of (x 83 g).under)) (x 83 g).top ≡ bit_of (is_of g.P l c)
      bit = bit_is laws g p o c q object' l object (references_are (kind_of g.P o) c of) there kind' (head_of (x 83 g).under) (x 83 g).top w.array_is value_is

      same_stored : is_of g.P l c ≡ true → Put 83 g p o k v rest → Comes 83 g
      same_stored below u =
          let y = x 83 g in
          let b = supertype_bit y (component_at y (head_of y.under)) y.top in
          let one : b ≡ 1 = bit ∙ ap bit_of below in
          let some : 0 < b = omega (arith, one) in
          word_stored laws 83 g StoreReference kept_int store_same p o k old v rest w.others aastore_same (there_test b (store_something y) some something) at object kind part index w.array_is (one_word v moved)
          (is_set v moved) w.word_is u w.stay w.tail_is

      other_raises : is_of g.P l c ≡ false → effect_of 83 g StoreReference ≡ fault ArrayStoreException → Comes 83 g
      other_raises other raises =
          let y = x 83 g in
          let b = supertype_bit y (component_at y (head_of y.under)) y.top in
          raises_by laws 83 g StoreReference ArrayStoreException (λ z. tail_of z.under) store_other w.others aastore_other (null_test b (store_something y) (bit ∙ ap bit_of other) something) at raises w.tail_is w.few

  abbrev Leads : Effect → Type 0
  Leads e = applied g.P (limits 83 g) g.answer g.s (top 83 g) g.h.stands.callers e ≡ Some g.s'

  -- what the test says
  by_test : (q : ℕ) (moved : is_moved References (Ref q) ≡ true) (i : ℤ) (p : ℕ) (o : Object) (rest : List Value) (w : Three 83 g (Ref q) i (Ref p) rest) (object : slice_get g.s.objects p ≡ Some o) (c : Kind)
      (of : component_of (kind_of g.P o) ≡ Some c) (k : ℕ) (old : Value) (is : i ≡ pos k) (part : slice_get o.parts k ≡ Some old) (object' : Object) (there : slice_get g.s.objects q ≡ Some object') (l : Kind)
      (kind' : kind_of g.P object' ≡ Some l) (b : Bool) → is_of g.P l c ≡ b → effect_of 83 g StoreReference ≡ tested (Ref q) p rest k b → Leads (tested (Ref q) p rest k b) → Comes 83 g
  by_test q moved i p o rest w object c of k old is part object' there l kind' true below goes leads =
      same_stored (Ref q) moved i p o rest w object c of k old is part q refl object' there l kind' below (put_by 83 g p o k (Ref q) rest leads)
  by_test q moved i p o rest w object c of k old is part object' there l kind' false other goes leads =
      other_raises (Ref q) moved i p o rest w object c of k old is part q refl object' there l kind' other goes

  inside_comes : (v : Value) (moved : is_moved References v ≡ true) (i : ℤ) (p : ℕ) (o : Object) (rest : List Value) (w : Three 83 g v i (Ref p) rest) (object : slice_get g.s.objects p ≡ Some o) (c : Kind)
      (of : component_of (kind_of g.P o) ≡ Some c) (k : ℕ) (old : Value) (is : i ≡ pos k) (part : slice_get o.parts k ≡ Some old) → effect_of 83 g StoreReference ≡ by_element v p rest c k old
      → Leads (by_element v p rest c k old) → Comes 83 g
  inside_comes Null moved i p o rest w object c of k old is part goes leads =
      null_stored Null moved i p o rest w object c of k old is part refl (put_by 83 g p o k Null rest leads)
  inside_comes (Ref q) moved i p o rest w object c of k old is part goes leads =
      let b = on_defined g.P (limits 83 g) g.answer g.s (top 83 g) g.h.stands.callers g.s' (is_instance g.P g.s.objects true c (Ref q)) (tested (Ref q) p rest k) leads in
      let there = onto_some (slice_get g.s.objects q) (λ u. onto (kind_of g.P u) (λ l. Some (is_of g.P l c))) b.0 b.1 in
      let l = onto_some (kind_of g.P there.0) (λ l. Some (is_of g.P l c)) b.0 there.2 in
      by_test q moved i p o rest w object c of k old is part there.0 there.1 l.0 l.1 b.0 (some_same (is_of g.P l.0 c) b.0 l.2) (goes ∙ b.2) b.3
  inside_comes (Int n) moved i p o rest w object c of k old is part goes leads = absurd (cc)
  inside_comes (Long n) moved i p o rest w object c of k old is part goes leads = absurd (cc)
  inside_comes Unset moved i p o rest w object c of k old is part goes leads = absurd (cc)

  pub store_comes : Comes 83 g
  store_comes =
      let f = top 83 g in
      let callers = g.h.stands.callers in
      let limit = limits 83 g in
      let v = on_top_defined g.P limit g.answer g.s f callers g.s' f.operands by_value at.step in
      let m = only_if_defined g.P limit g.answer g.s f callers g.s' (is_moved References v.0) (on_number IntType v.1 (by_index v.0)) v.4 in
      let i = on_int_defined g.P limit g.answer g.s f callers g.s' v.1 (by_index v.0) m.2 in
      let short = one_word v.0 m.0 in
      on_object_defined g.P limit g.answer g.s f callers g.s' g.s.objects i.1 (to_array v.0 i.0) (Comes 83 g) i.4
      (λ rest third raises. null_comes v.0 i.0 rest (three laws 83 g v.0 v.1 i.0 i.1 Null rest v.2 i.2 third short refl) (v.3 ∙ m.1 ∙ i.3 ∙ raises))
      (λ p o rest third object same leads.
      let w = three laws 83 g v.0 v.1 i.0 i.1 (Ref p) rest v.2 i.2 third short refl in
      let c = on_defined g.P limit g.answer g.s f callers g.s' (component_of (kind_of g.P o)) (by_kind v.0 i.0 p o rest) leads in
      let so_far = v.3 ∙ m.1 ∙ i.3 ∙ same ∙ c.2 in
      on_element_defined g.P limit g.answer g.s f callers g.s' o i.0 (by_element v.0 p rest c.0) (Comes 83 g) c.3
      (λ out raises. outside_comes v.0 i.0 p o rest w object (references g.P o c.0 c.1) out (so_far ∙ raises))
      (λ k old is part goes more. inside_comes v.0 m.0 i.0 p o rest w object c.0 c.1 k old is part (so_far ∙ goes) more))

pub aastore_comes : Laws → (g : Scene 83) → Comes 83 g
unfolding opcodes.row_of row_of
aastore_comes laws g = store_comes laws g (at_row laws 83 g StoreReference refl (λ code pc o. refl))
