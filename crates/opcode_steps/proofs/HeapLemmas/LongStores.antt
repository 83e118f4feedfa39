-- Stores of longs into elements, from the step to where the machine stands for the next state.
use Rattle.std.proofs.Common.{◌≡◌, ℕ, ◌+◌, ◌%◌, ◌^◌, ◌≤◌, ◌&&◌, Bool, true, false, nat_le, ℤ, pos, List, [], ◌∷◌, ◌++◌, Some, length, refl, sym, ◌∙◌, ap, subst, arith, length-append}
use Rattle.std.specs.Prelude.{slice_get, slice_set}
use Rattle.std.specs.Int.{w32, w64}
use Rattle.std.specs.Int.RustNames.{FitsSigned}
use Rattle.std.proofs.lemmas.List.{length-set, length-reverse}
use Rattle.std.proofs.lemmas.Bool.Decides.{nat_tests}
use Rattle.machine_stands.proofs.Defined.{long_is}
use Rattle.lists.specs.Members.{heads, tails}
use Rattle.opcodes.specs.Row as opcodes
use Rattle.micro_sketch.specs.Rows.{head_of, tail_of}
use Rattle.bytecode_model.specs.declared.Value.{Value}
use Rattle.bytecode_model.specs.declared.Value.TheVariants.{Int, Long, Ref, Null}
use Rattle.bytecode_model.specs.Numbers.{unchanged}
use Rattle.bytecode_model.specs.Types.{IntType, LongType, is_long, t_long}
use Rattle.bytecode_model.specs.State.{Object}
use Rattle.bytecode_model.specs.Program.{kind_of}
use Rattle.bytecode_model.specs.Rows as bytecode
use Rattle.bytecode_model.specs.Rows.{StoreNumber}
use Rattle.bytecode_model.specs.Table.{row_of}
use Rattle.bytecode_model.specs.Effects.{Effect, WritePart, ArrayIndexOutOfBoundsException, NullPointerException, fault, only_if, on_number, on_object, on_element, is_array_of, number}
use Rattle.bytecode_model.specs.WellFormed.{AreValues}
use Rattle.image_facts.specs.Words.{int_word, high_word, low_word}
use Rattle.image_facts.specs.Laws.{part_place}
use Rattle.machine_stands.specs.Frames.{IsWordOf, AreOperands}
use Rattle.opcode_steps.proofs.HeapLemmas.ArrayRows.{long_at, four_under, long_null, long_outside, long_inside, lastore_null, lastore_outside, lastore_inside}
use Rattle.opcode_steps.proofs.HeapLemmas.ArrayDefined.{only_if_defined, on_int_defined, on_long_defined, on_object_defined, on_element_defined, IsOutside, IsArray, numbers}
use Rattle.opcode_steps.proofs.HeapLemmas.Kept.{keeps_long}
use Rattle.opcode_steps.proofs.HeapLemmas.ArrayScenes.{Laws, Scene, Comes, limits, top, x, place, saved, operands, At, effect_of, operand_values, shows, writes_by, raises_by, one_on_top, long_on_top, words_are, null_test}
use Rattle.opcode_steps.proofs.HeapLemmas.Elements.{next_is, outside, inside, double_at}
use Rattle.opcode_steps.proofs.HeapLemmas.Loads.{at_row}
use Rattle.opcode_steps.proofs.HeapLemmas.Stores.{Put, put_by}

-- ---- the words of the value, of the index and of the array

record Four (g : Scene 80) (v i : ℤ) (r : Value) (rest : List Value) : Type 0 where
  low_is : (x 80 g).top ≡ low_word v
  high_is : (x 80 g).next ≡ high_word v
  fits : FitsSigned w32 i
  index_is : head_of (x 80 g).under ≡ int_word i
  array_is : IsWordOf (place 80 g) r (head_of (tail_of (x 80 g).under))
  others : List ℕ
  stay : AreOperands (place 80 g) rest others
  few : length others ≤ length (operands 80 g)
  tail_is : tail_of (tail_of (x 80 g).under) ≡ others ++ saved 80 g
  enough : nat_le 4 (length (x 80 g).under) ≡ true

at_least : (n : ℕ) → 4 ≤ n → nat_le 4 n ≡ true
at_least n h = grind (arith, nat_tests, h)

four : Laws → (g : Scene 80) (v : ℤ) (below : List Value) (i : ℤ) (under : List Value) (r : Value) (rest : List Value) → (top 80 g).operands ≡ Long v ∷ below → below ≡ Int i ∷ under → under ≡ r ∷ rest → is_long r ≡ false
    → Four g v i r rest
four laws g v below i under r rest ops second third one =
    let y = x 80 g in
    let a = long_on_top laws 80 g v below ops in
    let b = one_on_top laws 80 g (Int i) under below a.others a.stay second refl in
    let c = one_on_top laws 80 g r rest under b.others b.stay third one in
    let low = low_word v in
    let high = high_word v in
    let split : operands 80 g ≡ low ∷ high ∷ b.word ∷ c.word ∷ c.others = a.split ∙ ap (λ (ws : List ℕ). low ∷ high ∷ ws) b.split ∙ ap (λ (ws : List ℕ). low ∷ high ∷ b.word ∷ ws) c.split in
    let stack = words_are laws 80 g (low ∷ high ∷ b.word ∷ c.word ∷ c.others) split in
    let tail = tails y.top low (y.next ∷ y.under) (high ∷ b.word ∷ c.word ∷ c.others ++ saved 80 g) stack in
    let last = tails y.next high y.under (b.word ∷ c.word ∷ c.others ++ saved 80 g) tail in
    let many = ap (λ (ws : List ℕ). length ws) split in
    let values = (subst (λ (vs : List Value). AreValues (length g.s.objects) vs) ops (operand_values 80 g)).1 in
    let five = (shows laws 80 g).saved in
    let long = ap (λ (ws : List ℕ). length ws) last in
    let room : 4 ≤ length y.under = omega (arith, long, length-append c.others (saved 80 g), length-reverse g.h.stands.words.saved, five) in
    record {
      low_is = heads y.top low (y.next ∷ y.under) (high ∷ b.word ∷ c.word ∷ c.others ++ saved 80 g) stack;
      high_is = heads y.next high y.under (b.word ∷ c.word ∷ c.others ++ saved 80 g) tail;
      fits = (subst (λ (vs : List Value). AreValues (length g.s.objects) vs) second values).0;
      index_is = ap head_of last ∙ b.is;
      array_is = subst (λ (w : ℕ). IsWordOf (place 80 g) r w) (sym (ap (λ (ws : List ℕ). head_of (tail_of ws)) last)) c.is;
      others = c.others;
      stay = c.stay;
      few = omega (arith, many);
      tail_is = ap (λ (ws : List ℕ). tail_of (tail_of ws)) last;
      enough = at_least (length y.under) room;
    }

with_room : (a b : Bool) → a ≡ true → b ≡ true → (a && b) ≡ true
with_room a b h before = ap (λ (t : Bool). t && b) h ∙ before

-- ---- the row

abbrev r : bytecode.Row
r = StoreNumber LongType (t_long ∷ []) unchanged

module _ (laws : Laws) (g : Scene 80) (at : At 80 g r) where
  abbrev puts : ℤ → ℕ → List Value → ℕ → Value → Effect
  puts v p rest k old = WritePart p k (number LongType (unchanged v)) ((top 80 g).pc + 1) (top 80 g).locals rest

  abbrev to_array : ℤ → ℤ → ℕ → Object → List Value → Effect
  to_array v i p o rest = only_if (is_array_of (t_long ∷ []) (kind_of g.P o)) (on_element o i (puts v p rest))

  abbrev by_index : ℤ → ℤ → List Value → Effect
  by_index v i rest = on_object g.s.objects rest (to_array v i)

  abbrev by_value : ℤ → List Value → Effect
  by_value v rest = on_number IntType rest (by_index v)

  null_comes : (v i : ℤ) (rest : List Value) → Four g v i Null rest → effect_of 80 g r ≡ fault NullPointerException → Comes 80 g
  null_comes v i rest w raises =
      let array = head_of (tail_of (x 80 g).under) in
      raises_by laws 80 g r NullPointerException (λ y. tail_of (tail_of y.under)) (λ y. four_under y (long_null y)) w.others lastore_null
      (with_room _ (long_null (x 80 g)) w.enough (null_test array true w.array_is refl)) at raises w.tail_is w.few

  outside_comes : (v i : ℤ) (p : ℕ) (o : Object) (rest : List Value) → Four g v i (Ref p) rest → slice_get g.s.objects p ≡ Some o → IsArray g.P o true → IsOutside i (length o.parts)
      → effect_of 80 g r ≡ fault ArrayIndexOutOfBoundsException → Comes 80 g
  outside_comes v i p o rest w object kind out raises =
      let y = x 80 g in
      raises_by laws 80 g r ArrayIndexOutOfBoundsException (λ y. tail_of (tail_of y.under)) (λ y. four_under y (long_outside y)) w.others lastore_outside
      (with_room _ (long_outside y) w.enough (outside laws 80 g p o object (head_of (tail_of y.under)) w.array_is true kind i (head_of y.under) w.index_is w.fits out)) at raises w.tail_is w.few

  inside_comes : (v i : ℤ) (p : ℕ) (o : Object) (rest : List Value) → FitsSigned w64 v → Four g v i (Ref p) rest → slice_get g.s.objects p ≡ Some o → IsArray g.P o true → (k : ℕ) (old : Value) → i ≡ pos k
      → slice_get o.parts k ≡ Some old → Put 80 g p o k (Long v) rest → Comes 80 g
  inside_comes v i p o rest fits w object kind k old is part u =
      let y = x 80 g in
      let words = g.m.port.words in
      let array = head_of (tail_of y.under) in
      let index = head_of y.under in
      let index_is : index ≡ k = w.index_is ∙ ap int_word is in
      let a = part_place g.P g.pl g.s.objects p o k in
      let wide = laws.widths g.P (limits 80 g) g.s p o kind.kind k old g.h.well_formed object kind.kind_is kind.array part in
      let long = wide.width ∙ kind.longs in
      let was = long_is old long in
      let there = laws.long_parts g.P g.pl g.n g.size g.m g.s p o k was.0 g.h.stands g.h.well_formed object (part ∙ ap (λ q. Some q) was.1) in
      let lies = double_at laws 80 g p o object array w.array_is true kind k old part index index_is refl there.high.within in
      let b = long_at array index in
      let next = next_is b a g.size lies there.low.within g.h.stands.sizes.small in
      let memory = (laws.long_parts_written g.P g.pl g.n g.size g.m g.s p o k old v u.changed g.h.stands g.h.well_formed object part long u.put).high_first in
      writes_by laws 80 g r u.changed (λ z. tail_of (tail_of z.under))
      (λ z. slice_set (slice_set z.memory (long_at (head_of (tail_of z.under)) (head_of z.under)) z.next) ((long_at (head_of (tail_of z.under)) (head_of z.under) + 1) % 2 ^ 32) z.top)
      (λ z. four_under z (long_inside z)) rest w.others lastore_inside (with_room _ (long_inside y) w.enough (inside laws 80 g p o object array w.array_is true kind k old part index index_is)) at u.next
      (laws.places g.P g.pl g.s.objects u.changed p o k old (Long v) object part (sym long) u.put) w.stay w.tail_is
      (ap (λ (c : ℕ). slice_set (slice_set words b y.next) c y.top) next ∙ ap (λ (c : ℕ). slice_set (slice_set words c y.next) (a + 1) y.top) lies
      ∙ ap (λ (q : ℕ). slice_set (slice_set words a q) (a + 1) y.top) w.high_is ∙ ap (λ (q : ℕ). slice_set (slice_set words a (high_word v)) (a + 1) q) w.low_is ∙ memory)
      (length-set (slice_set words b y.next) ((b + 1) % 2 ^ 32) y.top ∙ length-set words b y.next)

  store_comes : Comes 80 g
  store_comes =
      let f = top 80 g in
      let callers = g.h.stands.callers in
      let limit = limits 80 g in
      let v = on_long_defined g.P limit g.answer g.s f callers g.s' f.operands by_value at.step in
      let i = on_int_defined g.P limit g.answer g.s f callers g.s' v.1 (by_index v.0) v.4 in
      let fits : FitsSigned w64 v.0 = (subst (λ (vs : List Value). AreValues (length g.s.objects) vs) v.2 (operand_values 80 g)).0 in
      on_object_defined g.P limit g.answer g.s f callers g.s' g.s.objects i.1 (to_array v.0 i.0) (Comes 80 g) i.4
      (λ rest third raises. null_comes v.0 i.0 rest (four laws g v.0 v.1 i.0 i.1 Null rest v.2 i.2 third refl) (v.3 ∙ i.3 ∙ raises))
      (λ p o rest third object same leads.
      let w = four laws g v.0 v.1 i.0 i.1 (Ref p) rest v.2 i.2 third refl in
      let b = only_if_defined g.P limit g.answer g.s f callers g.s' (is_array_of (t_long ∷ []) (kind_of g.P o)) (on_element o i.0 (puts v.0 p rest)) leads in
      let kind = numbers g.P o true (t_long ∷ []) b.0 (refl, tt) in
      on_element_defined g.P limit g.answer g.s f callers g.s' o i.0 (puts v.0 p rest) (Comes 80 g) b.2
      (λ out raises. outside_comes v.0 i.0 p o rest w object kind out (v.3 ∙ i.3 ∙ same ∙ b.1 ∙ raises))
      (λ k old is part goes more.
      let stays : number LongType (unchanged v.0) ≡ Long v.0 = ap (λ (z : ℤ). Long z) (keeps_long v.0 fits) in
      inside_comes v.0 i.0 p o rest fits w object kind k old is part (subst (λ (q : Value). Put 80 g p o k q rest) stays (put_by 80 g p o k (number LongType (unchanged v.0)) rest more))))

pub lastore_comes : Laws → (g : Scene 80) → Comes 80 g
unfolding opcodes.row_of row_of
lastore_comes laws g = store_comes laws g (at_row laws 80 g r refl (λ code pc o. refl))
