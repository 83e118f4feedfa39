-- getfield, from the step to where the machine stands for the next state.
use Rattle.std.proofs.Common.{◌≡◌, ℕ, ◌+◌, ◌%◌, ◌^◌, ◌<◌, Bool, true, false, List, ◌∷◌, ◌++◌, Some, length, refl, sym, ◌∙◌, ap, subst, arith}
use Rattle.std.specs.Prelude.{slice_get, slice_index}
use Rattle.std.proofs.lemmas.Option.{none-some}
use Rattle.machine_stands.proofs.Defined.{class_is, long_is}
use Rattle.lists.specs.Members.{heads, tails}
use Rattle.lists.proofs.Lemmas.{some_is, some_same}
use Rattle.opcodes.specs.Form.{one, UnsignedShort}
use Rattle.opcodes.specs.Row as opcodes
use Rattle.opcodes.specs.Reading.{plain_instr}
use Rattle.bytecode_model.specs.declared.Value.{Value}
use Rattle.bytecode_model.specs.declared.Value.TheVariants.{Long, Ref, Null}
use Rattle.bytecode_model.specs.Types.{Declared, is_long}
use Rattle.bytecode_model.specs.State.{Object}
use Rattle.bytecode_model.specs.Program.{Operand, NoOperand, AnInt, ALong, AString, AStatic, AField, AMethod, AType, kind_of}
use Rattle.bytecode_model.specs.Rows as bytecode
use Rattle.bytecode_model.specs.Rows.{GetField}
use Rattle.bytecode_model.specs.Table.{row_of}
use Rattle.bytecode_model.specs.Effects.{Effect, Go, NullPointerException, fault, on, only_if, has_class}
use Rattle.bytecode_model.specs.Steps.{applied}
use Rattle.image_facts.specs.Words.{is_long_type, high_word, low_word}
use Rattle.image_facts.specs.Says.{Means, MeansField, bit_of}
use Rattle.image_facts.specs.Laws.{part_place}
use Rattle.machine_stands.specs.Frames.{IsWordOf, AreOperands}
use Rattle.machine_stands.specs.Reading.{operands_of}
use Rattle.opcode_steps.proofs.HeapLemmas.FieldRows.{first, second, field_at, gets_word, gets_double, gets_null, getfield_word, getfield_double, getfield_null}
use Rattle.opcode_steps.proofs.HeapLemmas.FieldDefined.{on_defined, only_if_defined, on_object_defined, declared_wide}
use Rattle.opcode_steps.proofs.HeapLemmas.FieldScenes.{Laws, Scene, Comes, limits, top, code, x, place, saved, At, effect_of, named, goes_by, null_by, has_entry, one_on_top, words_are, null_test, there_test, sum_is, next_is}

-- ---- the instruction

form_get : operands_of (opcodes.row_of 180).form ≡ Some (one UnsignedShort)
unfolding opcodes.row_of
form_get = refl

record NamesField (o : Operand) (r : bytecode.Row) : Type 0 where
  c : ℕ
  owner : ℕ
  k : ℕ
  is : o ≡ AField c owner k
  row_is : r ≡ GetField c owner k

names_get : (bytes : List ℕ) (pc : ℕ) (o : Operand) (r : bytecode.Row) → row_of bytes (plain_instr 180 bytes pc (one UnsignedShort)) o ≡ Some r → NamesField o r
unfolding row_of
names_get bytes pc NoOperand r h = absurd (none-some r h)
names_get bytes pc (AnInt n) r h = absurd (none-some r h)
names_get bytes pc (ALong n) r h = absurd (none-some r h)
names_get bytes pc (AString p) r h = absurd (none-some r h)
names_get bytes pc (AStatic k) r h = absurd (none-some r h)
names_get bytes pc (AMethod c t) r h = absurd (none-some r h)
names_get bytes pc (AType k) r h = absurd (none-some r h)
names_get bytes pc (AField c owner k) r h = record { c = c; owner = owner; k = k; is = refl; row_is = sym (some_same (GetField c owner k) r h) }

a_field_is_named : (c owner k : ℕ) (o : Operand) → o ≡ AField c owner k → o ≡ NoOperand → ⊥
a_field_is_named c owner k o e h = let clash : NoOperand ≡ AField c owner k = sym h ∙ e in cc

-- ---- what is read of the pool

record Gets (g : Scene 180) : Type 0 where
  c : ℕ
  owner : ℕ
  k : ℕ
  at : At 180 g (GetField c owner k)
  first_word : ℕ
  first_is : first (x 180 g) ≡ first_word
  means : MeansField g.P owner k first_word
  d : Declared
  declared : slice_get (g.P.fields owner) k ≡ Some d
  second_is : second (x 180 g) ≡ bit_of (is_long_type d)

gets : Laws → (g : Scene 180) → Gets g
gets laws g =
    let f = top 180 g in
    let read = laws.plain g.P g.pl g.n g.size g.m g.answer g.s g.s' g.h 180 (one UnsignedShort) g.mode g.opcode form_get in
    let is = names_get (code 180 g) f.pc (named 180 g) read.0 read.1.is_row in
    let at = subst (λ (r : bytecode.Row). At 180 g r) is.row_is read.1 in
    let e = has_entry laws 180 g (GetField is.c is.owner is.k) at (a_field_is_named is.c is.owner is.k (named 180 g) is.is) in
    let means = subst (λ (o : Operand). Means g.P g.pl 180 o e.first_word e.second_word) is.is e.means in
    let d = some_is (slice_get (g.P.fields is.owner) is.k) (λ d. e.second_word ≡ bit_of (is_long_type d)) means.1 in
    record { c = is.c; owner = is.owner; k = is.k; at = at; first_word = e.first_word; first_is = e.first_is; means = means.0; d = d.0; declared = d.1; second_is = e.second_is ∙ d.2 }

abbrev of_object : (g : Scene 180) → Gets g → ℕ → Object → List Value → Effect
of_object g t p o rest = only_if (has_class g.P (kind_of g.P o) t.owner) (on (slice_get o.parts t.k) (λ v. Go ((top 180 g).pc + 3) (top 180 g).locals (v ∷ rest)))

-- ---- null

get_null : Laws → (g : Scene 180) (t : Gets g) (rest : List Value) → (top 180 g).operands ≡ Null ∷ rest → effect_of 180 g (GetField t.c t.owner t.k) ≡ fault NullPointerException → Comes 180 g
get_null laws g t rest ops raises =
    let y = x 180 g in
    let w = one_on_top laws 180 g Null rest ops refl in
    let stack = words_are laws 180 g (w.word ∷ w.others) w.split in
    let zero : y.top ≡ 0 = heads y.top w.word (y.next ∷ y.under) (w.others ++ saved 180 g) stack ∙ w.is in
    let fewer = ap (λ (ws : List ℕ). length ws) w.split in
    null_by laws 180 g (GetField t.c t.owner t.k) (λ z. z.next ∷ z.under) gets_null w.others getfield_null (null_test y.top true zero refl) t.at raises
    (tails y.top w.word (y.next ∷ y.under) (w.others ++ saved 180 g) stack) (omega (arith, fewer))

-- ---- an object

record Got (g : Scene 180) (t : Gets g) (p : ℕ) (o : Object) (rest : List Value) : Type 0 where
  object : slice_get g.s.objects p ≡ Some o
  v : Value
  part : slice_get o.parts t.k ≡ Some v
  goes : effect_of 180 g (GetField t.c t.owner t.k) ≡ Go ((top 180 g).pc + 3) (top 180 g).locals (v ∷ rest)
  width : is_long v ≡ is_long_type t.d
  place_is : part_place g.P g.pl g.s.objects p o t.k ≡ place 180 g p + first (x 180 g)
  others : List ℕ
  stay : AreOperands (place 180 g) rest others
  top_is : (x 180 g).top ≡ place 180 g p
  below : (x 180 g).next ∷ (x 180 g).under ≡ others ++ saved 180 g

got : Laws → (g : Scene 180) (t : Gets g) (p : ℕ) (o : Object) (rest : List Value) → (top 180 g).operands ≡ Ref p ∷ rest → slice_get g.s.objects p ≡ Some o
    → effect_of 180 g (GetField t.c t.owner t.k) ≡ of_object g t p o rest → applied g.P (limits 180 g) g.answer g.s (top 180 g) g.h.stands.callers (of_object g t p o rest) ≡ Some g.s' → Got g t p o rest
got laws g t p o rest ops object is leads =
    let y = x 180 g in
    let f = top 180 g in
    let callers = g.h.stands.callers in
    let limit = limits 180 g in
    let well = g.h.well_formed in
    let b = only_if_defined g.P limit g.answer g.s f callers g.s' (has_class g.P (kind_of g.P o) t.owner) (on (slice_get o.parts t.k) (λ v. Go (f.pc + 3) f.locals (v ∷ rest))) leads in
    let v = on_defined g.P limit g.answer g.s f callers g.s' (slice_get o.parts t.k) (λ v. Go (f.pc + 3) f.locals (v ∷ rest)) b.2 in
    let c = class_is g.P (kind_of g.P o) t.owner b.0 in
    let declared = t.means.inherited c.0 c.2 ∙ t.declared in
    let w = one_on_top laws 180 g (Ref p) rest ops refl in
    let stack = words_are laws 180 g (w.word ∷ w.others) w.split in
    record {
      object = object;
      v = v.0;
      part = v.1;
      goes = is ∙ b.1 ∙ v.2;
      width = (laws.field_widths g.P limit g.s p o c.0 t.k t.d v.0 well object c.1 declared v.1).width ∙ declared_wide t.d;
      place_is = laws.field_places g.P g.pl limit g.s p o c.0 t.k well object c.1 ∙ ap (λ (a : ℕ). place 180 g p + a) (sym (t.first_is ∙ t.means.place c.0 c.2));
      others = w.others;
      stay = w.stay;
      top_is = heads y.top w.word (y.next ∷ y.under) (w.others ++ saved 180 g) stack ∙ w.is;
      below = tails y.top w.word (y.next ∷ y.under) (w.others ++ saved 180 g) stack;
    }

-- the object is there
there : Laws → (g : Scene 180) (t : Gets g) (p : ℕ) (o : Object) (rest : List Value) → Got g t p o rest → 0 < (x 180 g).top
there laws g t p o rest u = let some = laws.not_null g.P g.pl g.s p g.h.says g.linked in let is = u.top_is in omega (arith, some, is)

-- its field lies where the row says
field_is : (g : Scene 180) (t : Gets g) (p : ℕ) (o : Object) (rest : List Value) (u : Got g t p o rest) → part_place g.P g.pl g.s.objects p o t.k < g.size → field_at (x 180 g) (x 180 g).top ≡ part_place g.P g.pl g.s.objects p o t.k
field_is g t p o rest u within =
    ap (λ (a : ℕ). (first (x 180 g) + a) % 2 ^ 32) u.top_is ∙ sum_is (first (x 180 g)) (place 180 g p) (part_place g.P g.pl g.s.objects p o t.k) g.size u.place_is within g.h.stands.sizes.small

get_word : Laws → (g : Scene 180) (t : Gets g) (p : ℕ) (o : Object) (rest : List Value) → Got g t p o rest → is_long_type t.d ≡ false → Comes 180 g
get_word laws g t p o rest u short =
    let y = x 180 g in
    let one = u.width ∙ short in
    let word = slice_index y.memory (field_at y y.top) in
    let r = laws.parts g.P g.pl g.n g.size g.m g.s p o t.k u.v g.h.stands g.h.well_formed u.object u.part one in
    let is : IsWordOf (place 180 g) u.v word = subst (λ (a : ℕ). IsWordOf (place 180 g) u.v (slice_index g.m.port.words a)) (sym (field_is g t p o rest u r.within)) r.word_is in
    goes_by laws 180 g (GetField t.c t.owner t.k) (λ z. slice_index z.memory (field_at z z.top) ∷ z.next ∷ z.under) gets_word (u.v ∷ rest) (word ∷ u.others) getfield_word
    (null_test (second y) _ (t.second_is ∙ ap bit_of short) (there_test y.top true (there laws g t p o rest u) refl)) t.at u.goes (laws.pushed (place 180 g) u.v rest word u.others one is u.stay)
    (ap (λ (ws : List ℕ). word ∷ ws) u.below)

get_long : Laws → (g : Scene 180) (t : Gets g) (p : ℕ) (o : Object) (rest : List Value) → Got g t p o rest → is_long_type t.d ≡ true → Comes 180 g
get_long laws g t p o rest u long =
    let y = x 180 g in
    let v = long_is u.v (u.width ∙ long) in
    let a = part_place g.P g.pl g.s.objects p o t.k in
    let high = slice_index y.memory (field_at y y.top) in
    let low = slice_index y.memory ((field_at y y.top + 1) % 2 ^ 32) in
    let r = laws.long_parts g.P g.pl g.n g.size g.m g.s p o t.k v.0 g.h.stands g.h.well_formed u.object (u.part ∙ ap (λ w. Some w) v.1) in
    let at = field_is g t p o rest u r.high.within in
    let is_high : high ≡ high_word v.0 = ap (slice_index g.m.port.words) at ∙ r.high.word_is in
    let is_low : low ≡ low_word v.0 = ap (slice_index g.m.port.words) (next_is (field_at y y.top) a g.size at r.low.within g.h.stands.sizes.small) ∙ r.low.word_is in
    let flag : second y ≡ 1 = t.second_is ∙ ap bit_of long in
    let some : 0 < second y = omega (arith, flag) in
    goes_by laws 180 g (GetField t.c t.owner t.k) (λ z. slice_index z.memory ((field_at z z.top + 1) % 2 ^ 32) ∷ slice_index z.memory (field_at z z.top) ∷ z.next ∷ z.under) gets_double (Long v.0 ∷ rest)
    (low ∷ high ∷ u.others) getfield_double (there_test (second y) _ some (there_test y.top true (there laws g t p o rest u) refl)) t.at
    (u.goes ∙ ap (λ (w : Value). Go ((top 180 g).pc + 3) (top 180 g).locals (w ∷ rest)) v.1) (is_low, is_high, u.stay) (ap (λ (ws : List ℕ). low ∷ high ∷ ws) u.below)

get_by : Laws → (g : Scene 180) (t : Gets g) (p : ℕ) (o : Object) (rest : List Value) → Got g t p o rest → (b : Bool) → is_long_type t.d ≡ b → Comes 180 g
get_by laws g t p o rest u false is = get_word laws g t p o rest u is
get_by laws g t p o rest u true is = get_long laws g t p o rest u is

pub getfield_comes : Laws → (g : Scene 180) → Comes 180 g
getfield_comes laws g =
    let t = gets laws g in
    on_object_defined g.P (limits 180 g) g.answer g.s (top 180 g) g.h.stands.callers g.s' g.s.objects (top 180 g).operands (of_object g t) (Comes 180 g) t.at.step
    (λ rest ops raises. get_null laws g t rest ops raises)
    (λ p o rest ops object is leads. get_by laws g t p o rest (got laws g t p o rest ops object is leads) (is_long_type t.d) refl)
