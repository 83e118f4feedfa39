-- putfield, from the step to where the machine stands for the next state.
use Rattle.std.proofs.Common.{◌≡◌, ℕ, ◌+◌, ◌%◌, ◌^◌, ◌<◌, ◌≤◌, ℤ, Bool, true, false, List, ◌∷◌, ◌++◌, Some, length, refl, sym, ◌∙◌, ap, subst, arith}
use Rattle.std.specs.Prelude.{slice_get, slice_set}
use Rattle.std.proofs.lemmas.Option.{none-some}
use Rattle.std.proofs.lemmas.List.{length-set}
use Rattle.machine_stands.proofs.Defined.{class_is, long_is, part_at}
use Rattle.lists.specs.Members.{heads, tails}
use Rattle.lists.proofs.Lemmas.{holds_at, onto_some, some_same}
use Rattle.opcodes.specs.Form.{one, UnsignedShort}
use Rattle.opcodes.specs.Row as opcodes
use Rattle.opcodes.specs.Reading.{plain_instr}
use Rattle.micro_sketch.specs.Rows.{head_of, tail_of}
use Rattle.bytecode_model.specs.declared.Value.{Value}
use Rattle.bytecode_model.specs.declared.Value.TheVariants.{Long, Ref, Null, Unset}
use Rattle.bytecode_model.specs.Types.{Declared, is_long, suits}
use Rattle.bytecode_model.specs.State.{Object, State}
use Rattle.bytecode_model.specs.Program.{Operand, NoOperand, AnInt, ALong, AString, AStatic, AField, AMethod, AType, kind_of}
use Rattle.bytecode_model.specs.Rows as bytecode
use Rattle.bytecode_model.specs.Rows.{PutField}
use Rattle.bytecode_model.specs.Table.{row_of}
use Rattle.bytecode_model.specs.Effects.{Effect, WritePart, NullPointerException, fault, on, only_if, on_object, has_class}
use Rattle.bytecode_model.specs.Steps.{applied, written, with_top}
use Rattle.image_facts.specs.Words.{is_long_type, high_word, low_word}
use Rattle.image_facts.specs.Says.{Means, MeansField, bit_of}
use Rattle.image_facts.specs.Laws.{part_place}
use Rattle.machine_stands.specs.Frames.{IsWordOf, AreOperands}
use Rattle.machine_stands.specs.Reading.{operands_of}
use Rattle.opcode_steps.specs.Heap.Writing.{SamePlaces}
use Rattle.opcode_steps.proofs.HeapLemmas.FieldRows.{first, second, field_at, is_word, is_double, puts_word, puts_double, puts_word_null, puts_double_null, putfield_word, putfield_double, putfield_word_null, putfield_double_null}
use Rattle.opcode_steps.proofs.HeapLemmas.FieldDefined.{on_defined, only_if_defined, on_top_defined, on_object_defined, suits_wide, suits_set, declared_wide}
use Rattle.opcode_steps.proofs.HeapLemmas.FieldScenes.{Laws, Scene, Comes, limits, top, code, x, place, saved, operands, At, effect_of, named, writes_by, null_by, has_entry, one_on_top, long_on_top, words_are, null_test, there_test, sum_is, next_is}

-- ---- the instruction

form_put : operands_of (opcodes.row_of 181).form ≡ Some (one UnsignedShort)
unfolding opcodes.row_of
form_put = refl

record NamesField (o : Operand) (r : bytecode.Row) : Type 0 where
  c : ℕ
  owner : ℕ
  k : ℕ
  is : o ≡ AField c owner k
  row_is : r ≡ PutField c owner k

names_put : (bytes : List ℕ) (pc : ℕ) (o : Operand) (r : bytecode.Row) → row_of bytes (plain_instr 181 bytes pc (one UnsignedShort)) o ≡ Some r → NamesField o r
unfolding row_of
names_put bytes pc NoOperand r h = absurd (none-some r h)
names_put bytes pc (AnInt n) r h = absurd (none-some r h)
names_put bytes pc (ALong n) r h = absurd (none-some r h)
names_put bytes pc (AString p) r h = absurd (none-some r h)
names_put bytes pc (AStatic k) r h = absurd (none-some r h)
names_put bytes pc (AMethod c t) r h = absurd (none-some r h)
names_put bytes pc (AType k) r h = absurd (none-some r h)
names_put bytes pc (AField c owner k) r h = record { c = c; owner = owner; k = k; is = refl; row_is = sym (some_same (PutField c owner k) r h) }

a_field_is_named : (c owner k : ℕ) (o : Operand) → o ≡ AField c owner k → o ≡ NoOperand → ⊥
a_field_is_named c owner k o e h = let clash : NoOperand ≡ AField c owner k = sym h ∙ e in cc

-- ---- what is taken

abbrev of_object : (g : Scene 181) → (owner k : ℕ) → Value → ℕ → Object → List Value → Effect
of_object g owner k v p o rest = only_if (has_class g.P (kind_of g.P o) owner) (WritePart p k v ((top 181 g).pc + 3) (top 181 g).locals rest)

record Puts (g : Scene 181) : Type 0 where
  c : ℕ
  owner : ℕ
  k : ℕ
  at : At 181 g (PutField c owner k)
  first_word : ℕ
  first_is : first (x 181 g) ≡ first_word
  means : MeansField g.P owner k first_word
  d : Declared
  declared : slice_get (g.P.fields owner) k ≡ Some d
  second_is : second (x 181 g) ≡ bit_of (is_long_type d)
  -- the value, which is of the field's type
  v : Value
  rest : List Value
  ops : (top 181 g).operands ≡ v ∷ rest
  width : is_long v ≡ is_long_type d
  set : v ≡ Unset → ⊥
  goes : effect_of 181 g (PutField c owner k) ≡ on_object g.s.objects rest (of_object g owner k v)
  leads : applied g.P (limits 181 g) g.answer g.s (top 181 g) g.h.stands.callers (on_object g.s.objects rest (of_object g owner k v)) ≡ Some g.s'

puts : Laws → (g : Scene 181) → Puts g
puts laws g =
    let f = top 181 g in
    let callers = g.h.stands.callers in
    let limit = limits 181 g in
    let read = laws.plain g.P g.pl g.n g.size g.m g.answer g.s g.s' g.h 181 (one UnsignedShort) g.mode g.opcode form_put in
    let is = names_put (code 181 g) f.pc (named 181 g) read.0 read.1.is_row in
    let at = subst (λ (r : bytecode.Row). At 181 g r) is.row_is read.1 in
    let e = has_entry laws 181 g (PutField is.c is.owner is.k) at (a_field_is_named is.c is.owner is.k (named 181 g) is.is) in
    let means = subst (λ (o : Operand). Means g.P g.pl 181 o e.first_word e.second_word) is.is e.means in
    let fields = g.P.fields is.owner in
    let v = on_top_defined g.P limit g.answer g.s f callers g.s' f.operands (λ v rest. on (slice_get fields is.k) (λ d. only_if (suits d v) (on_object g.s.objects rest (of_object g is.owner is.k v)))) at.step in
    let put = on_object g.s.objects v.1 (of_object g is.owner is.k v.0) in
    let d = on_defined g.P limit g.answer g.s f callers g.s' (slice_get fields is.k) (λ d. only_if (suits d v.0) put) v.4 in
    let w = only_if_defined g.P limit g.answer g.s f callers g.s' (suits d.0 v.0) put d.3 in
    record {
      c = is.c;
      owner = is.owner;
      k = is.k;
      at = at;
      first_word = e.first_word;
      first_is = e.first_is;
      means = means.0;
      d = d.0;
      declared = d.1;
      second_is = e.second_is ∙ holds_at (slice_get fields is.k) d.0 (λ t. e.second_word ≡ bit_of (is_long_type t)) d.1 means.1;
      v = v.0;
      rest = v.1;
      ops = v.2;
      width = suits_wide d.0 v.0 w.0;
      set = suits_set d.0 v.0 w.0;
      goes = v.3 ∙ d.2 ∙ w.1;
      leads = w.2;
    }

-- ---- the words of the value, and what is below

-- of one word, with the word below and the rest
record WordPut (g : Scene 181) (t : Puts g) (r : Value) (rest : List Value) : Type 0 where
  word : ℕ
  of_value : IsWordOf (place 181 g) t.v word
  below : ℕ
  of_below : IsWordOf (place 181 g) r below
  others : List ℕ
  stay : AreOperands (place 181 g) rest others
  few : length others ≤ length (operands 181 g)
  top_is : (x 181 g).top ≡ word
  next_is_below : (x 181 g).next ≡ below
  under_is : (x 181 g).under ≡ others ++ saved 181 g

word_put : Laws → (g : Scene 181) (t : Puts g) (r : Value) (rest : List Value) → is_long t.v ≡ false → is_long r ≡ false → t.rest ≡ r ∷ rest → WordPut g t r rest
word_put laws g t r rest short one is =
    let y = x 181 g in
    let w = one_on_top laws 181 g t.v t.rest t.ops short in
    let b = laws.one (place 181 g) r rest w.others one (subst (λ (vs : List Value). AreOperands (place 181 g) vs w.others) is w.stay) in
    let split : operands 181 g ≡ w.word ∷ b.word ∷ b.others = w.split ∙ ap (λ (ws : List ℕ). w.word ∷ ws) b.split in
    let stack = words_are laws 181 g (w.word ∷ b.word ∷ b.others) split in
    let tail = tails y.top w.word (y.next ∷ y.under) (b.word ∷ b.others ++ saved 181 g) stack in
    let many = ap (λ (ws : List ℕ). length ws) split in
    record {
      word = w.word;
      of_value = w.is;
      below = b.word;
      of_below = b.is;
      others = b.others;
      stay = b.stay;
      few = omega (arith, many);
      top_is = heads y.top w.word (y.next ∷ y.under) (b.word ∷ b.others ++ saved 181 g) stack;
      next_is_below = heads y.next b.word y.under (b.others ++ saved 181 g) tail;
      under_is = tails y.next b.word y.under (b.others ++ saved 181 g) tail;
    }

-- so of a long
record LongPut (g : Scene 181) (n : ℤ) (r : Value) (rest : List Value) : Type 0 where
  below : ℕ
  of_below : IsWordOf (place 181 g) r below
  others : List ℕ
  stay : AreOperands (place 181 g) rest others
  few : length others ≤ length (operands 181 g)
  top_is : (x 181 g).top ≡ low_word n
  next_is_high : (x 181 g).next ≡ high_word n
  head_is : head_of (x 181 g).under ≡ below
  tail_is : tail_of (x 181 g).under ≡ others ++ saved 181 g

long_put : Laws → (g : Scene 181) (t : Puts g) (n : ℤ) (r : Value) (rest : List Value) → t.v ≡ Long n → is_long r ≡ false → t.rest ≡ r ∷ rest → LongPut g n r rest
long_put laws g t n r rest long one is =
    let y = x 181 g in
    let w = long_on_top laws 181 g n t.rest (t.ops ∙ ap (λ (u : Value). u ∷ t.rest) long) in
    let b = laws.one (place 181 g) r rest w.others one (subst (λ (vs : List Value). AreOperands (place 181 g) vs w.others) is w.stay) in
    let low = low_word n in
    let high = high_word n in
    let split : operands 181 g ≡ low ∷ high ∷ b.word ∷ b.others = w.split ∙ ap (λ (ws : List ℕ). low ∷ high ∷ ws) b.split in
    let stack = words_are laws 181 g (low ∷ high ∷ b.word ∷ b.others) split in
    let tail = tails y.top low (y.next ∷ y.under) (high ∷ b.word ∷ b.others ++ saved 181 g) stack in
    let under = tails y.next high y.under (b.word ∷ b.others ++ saved 181 g) tail in
    let many = ap (λ (ws : List ℕ). length ws) split in
    record {
      below = b.word;
      of_below = b.is;
      others = b.others;
      stay = b.stay;
      few = omega (arith, many);
      top_is = heads y.top low (y.next ∷ y.under) (high ∷ b.word ∷ b.others ++ saved 181 g) stack;
      next_is_high = heads y.next high y.under (b.word ∷ b.others ++ saved 181 g) tail;
      head_is = ap head_of under;
      tail_is = ap tail_of under;
    }

-- ---- null

null_word : Laws → (g : Scene 181) (t : Puts g) (rest : List Value) → t.rest ≡ Null ∷ rest → effect_of 181 g (PutField t.c t.owner t.k) ≡ fault NullPointerException → is_long_type t.d ≡ false → Comes 181 g
null_word laws g t rest is raises short =
    let y = x 181 g in
    let w = word_put laws g t Null rest (t.width ∙ short) refl is in
    null_by laws 181 g (PutField t.c t.owner t.k) (λ z. z.under) puts_word_null w.others putfield_word_null
    (null_test y.next (is_word y) (w.next_is_below ∙ w.of_below) (null_test (second y) true (t.second_is ∙ ap bit_of short) refl)) t.at raises w.under_is w.few

null_long : Laws → (g : Scene 181) (t : Puts g) (rest : List Value) → t.rest ≡ Null ∷ rest → effect_of 181 g (PutField t.c t.owner t.k) ≡ fault NullPointerException → is_long_type t.d ≡ true → Comes 181 g
null_long laws g t rest is raises long =
    let y = x 181 g in
    let v = long_is t.v (t.width ∙ long) in
    let w = long_put laws g t v.0 Null rest v.1 refl is in
    let flag : second y ≡ 1 = t.second_is ∙ ap bit_of long in
    let some : 0 < second y = omega (arith, flag) in
    null_by laws 181 g (PutField t.c t.owner t.k) (λ z. tail_of z.under) puts_double_null w.others putfield_double_null
    (null_test (head_of y.under) (is_double y) (w.head_is ∙ w.of_below) (there_test (second y) true some refl)) t.at raises w.tail_is w.few

-- ---- an object

record Wrote (g : Scene 181) (t : Puts g) (p : ℕ) (o : Object) (rest : List Value) : Type 0 where
  object : slice_get g.s.objects p ≡ Some o
  old : Value
  part : slice_get o.parts t.k ≡ Some old
  old_width : is_long old ≡ is_long_type t.d
  changed : List Object
  put : written g.s.objects p t.k t.v ≡ Some changed
  next : g.s' ≡ with_top (record g.s { objects = changed }) g.h.stands.callers (record (top 181 g) { pc = (top 181 g).pc + 3; locals = (top 181 g).locals; operands = rest })
  place_is : part_place g.P g.pl g.s.objects p o t.k ≡ place 181 g p + first (x 181 g)
  stay : SamePlaces g.P g.pl g.s.objects changed
  some : 0 < place 181 g p

wrote : Laws → (g : Scene 181) (t : Puts g) (p : ℕ) (o : Object) (rest : List Value) → slice_get g.s.objects p ≡ Some o
    → applied g.P (limits 181 g) g.answer g.s (top 181 g) g.h.stands.callers (of_object g t.owner t.k t.v p o rest) ≡ Some g.s' → Wrote g t p o rest
wrote laws g t p o rest object leads =
    let f = top 181 g in
    let callers = g.h.stands.callers in
    let limit = limits 181 g in
    let well = g.h.well_formed in
    let gone_on : List Object → State = λ os. with_top (record g.s { objects = os }) callers (record f { pc = f.pc + 3; locals = f.locals; operands = rest }) in
    let b = only_if_defined g.P limit g.answer g.s f callers g.s' (has_class g.P (kind_of g.P o) t.owner) (WritePart p t.k t.v (f.pc + 3) f.locals rest) leads in
    let r = onto_some (written g.s.objects p t.k t.v) (λ os. Some (gone_on os)) g.s' b.2 in
    let c = class_is g.P (kind_of g.P o) t.owner b.0 in
    let old = part_at g.s.objects r.0 p t.k o t.v object r.1 in
    let declared = t.means.inherited c.0 c.2 ∙ t.declared in
    let old_width = (laws.field_widths g.P limit g.s p o c.0 t.k t.d old.0 well object c.1 declared old.1).width ∙ declared_wide t.d in
    record {
      object = object;
      old = old.0;
      part = old.1;
      old_width = old_width;
      changed = r.0;
      put = r.1;
      next = sym (some_same (gone_on r.0) g.s' r.2);
      place_is = laws.field_places g.P g.pl limit g.s p o c.0 t.k well object c.1 ∙ ap (λ (a : ℕ). place 181 g p + a) (sym (t.first_is ∙ t.means.place c.0 c.2));
      stay = laws.places g.P g.pl g.s.objects r.0 p o t.k old.0 t.v object old.1 (t.width ∙ sym old_width) r.1;
      some = laws.not_null g.P g.pl g.s p g.h.says g.linked;
    }

put_word : Laws → (g : Scene 181) (t : Puts g) (p : ℕ) (o : Object) (rest : List Value) → Wrote g t p o rest → t.rest ≡ Ref p ∷ rest → is_long_type t.d ≡ false → Comes 181 g
put_word laws g t p o rest u is short =
    let y = x 181 g in
    let a = part_place g.P g.pl g.s.objects p o t.k in
    let words = g.m.port.words in
    let w = word_put laws g t (Ref p) rest (t.width ∙ short) refl is in
    let there = laws.parts g.P g.pl g.n g.size g.m g.s p o t.k u.old g.h.stands g.h.well_formed u.object u.part (u.old_width ∙ short) in
    let object : y.next ≡ place 181 g p = w.next_is_below ∙ w.of_below in
    let some : 0 < y.next = let from = u.some in omega (arith, from, object) in
    let at : field_at y y.next ≡ a = ap (λ (b : ℕ). (first y + b) % 2 ^ 32) object ∙ sum_is (first y) (place 181 g p) a g.size u.place_is there.within g.h.stands.sizes.small in
    let memory = laws.parts_written g.P g.pl g.n g.size g.m g.s p o t.k u.old t.v w.word u.changed g.h.stands g.h.well_formed u.object u.part (u.old_width ∙ short) (t.width ∙ short) t.set w.of_value u.put in
    writes_by laws 181 g (PutField t.c t.owner t.k) g.s.statics u.changed (λ z. z.under) (λ z. slice_set z.memory (field_at z z.next) z.top) puts_word rest w.others putfield_word
    (there_test y.next (is_word y) some (null_test (second y) true (t.second_is ∙ ap bit_of short) refl)) t.at u.next u.stay w.stay w.under_is
    (ap (λ (b : ℕ). slice_set words b y.top) at ∙ ap (λ (v : ℕ). slice_set words a v) w.top_is ∙ memory) (length-set words (field_at y y.next) y.top)

put_long : Laws → (g : Scene 181) (t : Puts g) (p : ℕ) (o : Object) (rest : List Value) → Wrote g t p o rest → t.rest ≡ Ref p ∷ rest → is_long_type t.d ≡ true → Comes 181 g
put_long laws g t p o rest u is long =
    let y = x 181 g in
    let a = part_place g.P g.pl g.s.objects p o t.k in
    let words = g.m.port.words in
    let v = long_is t.v (t.width ∙ long) in
    let w = long_put laws g t v.0 (Ref p) rest v.1 refl is in
    let old = long_is u.old (u.old_width ∙ long) in
    let there = laws.long_parts g.P g.pl g.n g.size g.m g.s p o t.k old.0 g.h.stands g.h.well_formed u.object (u.part ∙ ap (λ q. Some q) old.1) in
    let under = head_of y.under in
    let object : under ≡ place 181 g p = w.head_is ∙ w.of_below in
    let some : 0 < under = let from = u.some in omega (arith, from, object) in
    let f = field_at y under in
    let at : f ≡ a = ap (λ (b : ℕ). (first y + b) % 2 ^ 32) object ∙ sum_is (first y) (place 181 g p) a g.size u.place_is there.high.within g.h.stands.sizes.small in
    let next = next_is f a g.size at there.low.within g.h.stands.sizes.small in
    let put = subst (λ (q : Value). written g.s.objects p t.k q ≡ Some u.changed) v.1 u.put in
    let memory = (laws.long_parts_written g.P g.pl g.n g.size g.m g.s p o t.k u.old v.0 u.changed g.h.stands g.h.well_formed u.object u.part (u.old_width ∙ long) put).low_first in
    let flag : second y ≡ 1 = t.second_is ∙ ap bit_of long in
    let double : 0 < second y = omega (arith, flag) in
    writes_by laws 181 g (PutField t.c t.owner t.k) g.s.statics u.changed (λ z. tail_of z.under)
    (λ z. slice_set (slice_set z.memory ((field_at z (head_of z.under) + 1) % 2 ^ 32) z.top) (field_at z (head_of z.under)) z.next) puts_double rest w.others putfield_double
    (there_test under (is_double y) some (there_test (second y) true double refl)) t.at u.next u.stay w.stay w.tail_is
    (ap (λ (b : ℕ). slice_set (slice_set words b y.top) f y.next) next ∙ ap (λ (b : ℕ). slice_set (slice_set words (a + 1) y.top) b y.next) at
    ∙ ap (λ (q : ℕ). slice_set (slice_set words (a + 1) q) a y.next) w.top_is ∙ ap (λ (q : ℕ). slice_set (slice_set words (a + 1) (low_word v.0)) a q) w.next_is_high ∙ memory)
    (length-set (slice_set words ((f + 1) % 2 ^ 32) y.top) f y.next ∙ length-set words ((f + 1) % 2 ^ 32) y.top)

-- ---- by the width of the field

null_by_width : Laws → (g : Scene 181) (t : Puts g) (rest : List Value) → t.rest ≡ Null ∷ rest → effect_of 181 g (PutField t.c t.owner t.k) ≡ fault NullPointerException → (b : Bool) → is_long_type t.d ≡ b → Comes 181 g
null_by_width laws g t rest is raises false wide = null_word laws g t rest is raises wide
null_by_width laws g t rest is raises true wide = null_long laws g t rest is raises wide

put_by_width : Laws → (g : Scene 181) (t : Puts g) (p : ℕ) (o : Object) (rest : List Value) → Wrote g t p o rest → t.rest ≡ Ref p ∷ rest → (b : Bool) → is_long_type t.d ≡ b → Comes 181 g
put_by_width laws g t p o rest u is false wide = put_word laws g t p o rest u is wide
put_by_width laws g t p o rest u is true wide = put_long laws g t p o rest u is wide

pub putfield_comes : Laws → (g : Scene 181) → Comes 181 g
putfield_comes laws g =
    let t = puts laws g in
    on_object_defined g.P (limits 181 g) g.answer g.s (top 181 g) g.h.stands.callers g.s' g.s.objects t.rest (of_object g t.owner t.k t.v) (Comes 181 g) t.leads
    (λ rest is raises. null_by_width laws g t rest is (t.goes ∙ raises) (is_long_type t.d) refl)
    (λ p o rest is object same leads. put_by_width laws g t p o rest (wrote laws g t p o rest object leads) is (is_long_type t.d) refl)
