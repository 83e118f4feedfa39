-- getstatic and putstatic, from the step to where the machine stands for the next state.
use Rattle.std.proofs.Common.{◌≡◌, ℕ, ◌+◌, ◌%◌, ◌^◌, ◌<◌, Bool, true, false, List, ◌∷◌, ◌++◌, Some, refl, sym, ◌∙◌, ap, subst, arith}
use Rattle.std.specs.Prelude.{slice_get, slice_index, slice_set}
use Rattle.std.proofs.lemmas.Option.{none-some}
use Rattle.std.proofs.lemmas.List.{length-set}
use Rattle.machine_stands.proofs.Defined.{item_at, long_is}
use Rattle.lists.specs.Members.{heads, tails}
use Rattle.lists.proofs.Lemmas.{holds_at, onto_some, some_is, some_same}
use Rattle.opcodes.specs.Form.{one, UnsignedShort}
use Rattle.opcodes.specs.Row as opcodes
use Rattle.opcodes.specs.Reading.{plain_instr}
use Rattle.micro_sketch.specs.Row.{words_of}
use Rattle.bytecode_model.specs.declared.Value.{Value}
use Rattle.bytecode_model.specs.declared.Value.TheVariants.{Long, Unset}
use Rattle.bytecode_model.specs.Lists.{replaced}
use Rattle.bytecode_model.specs.Types.{is_long, suits}
use Rattle.bytecode_model.specs.State.{State}
use Rattle.bytecode_model.specs.Program.{Operand, NoOperand, AnInt, ALong, AString, AStatic, AField, AMethod, AType}
use Rattle.bytecode_model.specs.Rows as bytecode
use Rattle.bytecode_model.specs.Rows.{GetStatic, PutStatic}
use Rattle.bytecode_model.specs.Table.{row_of}
use Rattle.bytecode_model.specs.Effects.{Go, WriteStatic, on, only_if}
use Rattle.bytecode_model.specs.Steps.{with_top}
use Rattle.image_facts.specs.Words.{is_long_type, high_word, low_word}
use Rattle.image_facts.specs.Places.{static_place}
use Rattle.image_facts.specs.Says.{Means, bit_of}
use Rattle.machine_stands.specs.Frames.{IsWordOf}
use Rattle.machine_stands.specs.Reading.{operands_of}
use Rattle.opcode_steps.specs.Heap.Writing.{SamePlaces}
use Rattle.opcode_steps.proofs.HeapLemmas.FieldRows.{first, second, is_word, is_double, getstatic_word, getstatic_double, putstatic_word, putstatic_double}
use Rattle.opcode_steps.proofs.HeapLemmas.FieldDefined.{on_defined, only_if_defined, on_top_defined, suits_wide, suits_set, declared_wide}
use Rattle.opcode_steps.proofs.HeapLemmas.FieldScenes.{Laws, Scene, Comes, limits, top, code, x, place, saved, operands, At, effect_of, named, shows, goes_by, writes_by, has_entry, one_on_top, long_on_top, words_are, null_test, there_test, next_is}

-- ---- the instructions

form_get : operands_of (opcodes.row_of 178).form ≡ Some (one UnsignedShort)
unfolding opcodes.row_of
form_get = refl

form_put : operands_of (opcodes.row_of 179).form ≡ Some (one UnsignedShort)
unfolding opcodes.row_of
form_put = refl

record NamesStatic (o : Operand) (r : bytecode.Row) (row : ℕ → bytecode.Row) : Type 0 where
  k : ℕ
  is : o ≡ AStatic k
  row_is : r ≡ row k

names_get : (bytes : List ℕ) (pc : ℕ) (o : Operand) (r : bytecode.Row) → row_of bytes (plain_instr 178 bytes pc (one UnsignedShort)) o ≡ Some r → NamesStatic o r GetStatic
unfolding row_of
names_get bytes pc NoOperand r h = absurd (none-some r h)
names_get bytes pc (AnInt n) r h = absurd (none-some r h)
names_get bytes pc (ALong n) r h = absurd (none-some r h)
names_get bytes pc (AString p) r h = absurd (none-some r h)
names_get bytes pc (AMethod c t) r h = absurd (none-some r h)
names_get bytes pc (AField c owner k) r h = absurd (none-some r h)
names_get bytes pc (AType k) r h = absurd (none-some r h)
names_get bytes pc (AStatic k) r h = record { k = k; is = refl; row_is = sym (some_same (GetStatic k) r h) }

names_put : (bytes : List ℕ) (pc : ℕ) (o : Operand) (r : bytecode.Row) → row_of bytes (plain_instr 179 bytes pc (one UnsignedShort)) o ≡ Some r → NamesStatic o r PutStatic
unfolding row_of
names_put bytes pc NoOperand r h = absurd (none-some r h)
names_put bytes pc (AnInt n) r h = absurd (none-some r h)
names_put bytes pc (ALong n) r h = absurd (none-some r h)
names_put bytes pc (AString p) r h = absurd (none-some r h)
names_put bytes pc (AMethod c t) r h = absurd (none-some r h)
names_put bytes pc (AField c owner k) r h = absurd (none-some r h)
names_put bytes pc (AType k) r h = absurd (none-some r h)
names_put bytes pc (AStatic k) r h = record { k = k; is = refl; row_is = sym (some_same (PutStatic k) r h) }

a_static_is_named : (k : ℕ) (o : Operand) → o ≡ AStatic k → o ≡ NoOperand → ⊥
a_static_is_named k o e h = let clash : NoOperand ≡ AStatic k = sym h ∙ e in cc

-- ---- getstatic

record Gets (g : Scene 178) : Type 0 where
  k : ℕ
  at : At 178 g (GetStatic k)
  v : Value
  has : slice_get g.s.statics k ≡ Some v
  goes : effect_of 178 g (GetStatic k) ≡ Go ((top 178 g).pc + 3) (top 178 g).locals (v ∷ (top 178 g).operands)
  first_is : first (x 178 g) ≡ static_place g.P g.pl k
  wide : Bool
  second_is : second (x 178 g) ≡ bit_of wide
  width : is_long v ≡ wide

gets : Laws → (g : Scene 178) → Gets g
gets laws g =
    let f = top 178 g in
    let read = laws.plain g.P g.pl g.n g.size g.m g.answer g.s g.s' g.h 178 (one UnsignedShort) g.mode g.opcode form_get in
    let is = names_get (code 178 g) f.pc (named 178 g) read.0 read.1.is_row in
    let at = subst (λ (r : bytecode.Row). At 178 g r) is.row_is read.1 in
    let e = has_entry laws 178 g (GetStatic is.k) at (a_static_is_named is.k (named 178 g) is.is) in
    let means = subst (λ (o : Operand). Means g.P g.pl 178 o e.first_word e.second_word) is.is e.means in
    let d = some_is (slice_get g.P.statics is.k) (λ d. e.second_word ≡ bit_of (is_long_type d)) means.1 in
    let v = on_defined g.P (limits 178 g) g.answer g.s f g.h.stands.callers g.s' (slice_get g.s.statics is.k) (λ v. Go (f.pc + 3) f.locals (v ∷ f.operands)) at.step in
    record {
      k = is.k;
      at = at;
      v = v.0;
      has = v.1;
      goes = v.2;
      first_is = e.first_is ∙ means.0;
      wide = is_long_type d.0;
      second_is = e.second_is ∙ d.2;
      width = (laws.static_widths g.P (limits 178 g) g.s is.k d.0 v.0 g.h.well_formed d.1 v.1).width ∙ declared_wide d.0;
    }

get_word : Laws → (g : Scene 178) (t : Gets g) → t.wide ≡ false → Comes 178 g
get_word laws g t short =
    let y = x 178 g in
    let word = slice_index y.memory (first y) in
    let one = t.width ∙ short in
    let r = laws.statics g.P g.pl g.n g.size g.m g.s t.k t.v g.h.stands g.h.well_formed t.has one in
    let is : IsWordOf (place 178 g) t.v word = subst (λ (a : ℕ). IsWordOf (place 178 g) t.v (slice_index g.m.port.words a)) (sym t.first_is) r.word_is in
    goes_by laws 178 g (GetStatic t.k) (λ z. slice_index z.memory (first z) ∷ words_of z) is_word (t.v ∷ (top 178 g).operands) (word ∷ operands 178 g) getstatic_word
    (null_test (second y) true (t.second_is ∙ ap bit_of short) refl) t.at t.goes (laws.pushed (place 178 g) t.v (top 178 g).operands word (operands 178 g) one is g.h.stands.are_frames.0.operands)
    (ap (λ (ws : List ℕ). word ∷ ws) (shows laws 178 g).words)

get_long : Laws → (g : Scene 178) (t : Gets g) → t.wide ≡ true → Comes 178 g
get_long laws g t long =
    let y = x 178 g in
    let high = slice_index y.memory (first y) in
    let low = slice_index y.memory ((first y + 1) % 2 ^ 32) in
    let v = long_is t.v (t.width ∙ long) in
    let r = laws.long_statics g.P g.pl g.n g.size g.m g.s t.k v.0 g.h.stands g.h.well_formed (t.has ∙ ap (λ u. Some u) v.1) in
    let is_high : high ≡ high_word v.0 = ap (slice_index g.m.port.words) t.first_is ∙ r.high.word_is in
    let is_low : low ≡ low_word v.0 = ap (slice_index g.m.port.words) (next_is (first y) (static_place g.P g.pl t.k) g.size t.first_is r.low.within g.h.stands.sizes.small) ∙ r.low.word_is in
    let flag : second y ≡ 1 = t.second_is ∙ ap bit_of long in
    let some : 0 < second y = omega (arith, flag) in
    goes_by laws 178 g (GetStatic t.k) (λ z. slice_index z.memory ((first z + 1) % 2 ^ 32) ∷ slice_index z.memory (first z) ∷ words_of z) is_double (Long v.0 ∷ (top 178 g).operands)
    (low ∷ high ∷ operands 178 g) getstatic_double (there_test (second y) true some refl) t.at (t.goes ∙ ap (λ (u : Value). Go ((top 178 g).pc + 3) (top 178 g).locals (u ∷ (top 178 g).operands)) v.1)
    (is_low, is_high, g.h.stands.are_frames.0.operands) (ap (λ (ws : List ℕ). low ∷ high ∷ ws) (shows laws 178 g).words)

pub getstatic_comes : Laws → (g : Scene 178) → Comes 178 g
getstatic_comes laws g = let t = gets laws g in by t t.wide refl
  where
    by : (t : Gets g) (b : Bool) → t.wide ≡ b → Comes 178 g
    by t false is = get_word laws g t is
    by t true is = get_long laws g t is

-- ---- putstatic

record Puts (g : Scene 179) : Type 0 where
  k : ℕ
  at : At 179 g (PutStatic k)
  v : Value
  rest : List Value
  ops : (top 179 g).operands ≡ v ∷ rest
  set : v ≡ Unset → ⊥
  old : Value
  had : slice_get g.s.statics k ≡ Some old
  changed : List Value
  put : replaced g.s.statics k v ≡ Some changed
  next : g.s' ≡ with_top (record g.s { statics = changed }) g.h.stands.callers (record (top 179 g) { pc = (top 179 g).pc + 3; locals = (top 179 g).locals; operands = rest })
  first_is : first (x 179 g) ≡ static_place g.P g.pl k
  wide : Bool
  second_is : second (x 179 g) ≡ bit_of wide
  width : is_long v ≡ wide
  old_width : is_long old ≡ wide

puts : Laws → (g : Scene 179) → Puts g
puts laws g =
    let f = top 179 g in
    let callers = g.h.stands.callers in
    let limit = limits 179 g in
    let read = laws.plain g.P g.pl g.n g.size g.m g.answer g.s g.s' g.h 179 (one UnsignedShort) g.mode g.opcode form_put in
    let is = names_put (code 179 g) f.pc (named 179 g) read.0 read.1.is_row in
    let k = is.k in
    let at = subst (λ (r : bytecode.Row). At 179 g r) is.row_is read.1 in
    let e = has_entry laws 179 g (PutStatic k) at (a_static_is_named k (named 179 g) is.is) in
    let means = subst (λ (o : Operand). Means g.P g.pl 179 o e.first_word e.second_word) is.is e.means in
    let v = on_top_defined g.P limit g.answer g.s f callers g.s' f.operands (λ v rest. on (slice_get g.P.statics k) (λ d. only_if (suits d v) (WriteStatic k v (f.pc + 3) f.locals rest))) at.step in
    let d = on_defined g.P limit g.answer g.s f callers g.s' (slice_get g.P.statics k) (λ d. only_if (suits d v.0) (WriteStatic k v.0 (f.pc + 3) f.locals v.1)) v.4 in
    let w = only_if_defined g.P limit g.answer g.s f callers g.s' (suits d.0 v.0) (WriteStatic k v.0 (f.pc + 3) f.locals v.1) d.3 in
    let gone_on : List Value → State = λ vs. with_top (record g.s { statics = vs }) callers (record f { pc = f.pc + 3; locals = f.locals; operands = v.1 }) in
    let r = onto_some (replaced g.s.statics k v.0) (λ vs. Some (gone_on vs)) g.s' w.2 in
    let old = item_at g.s.statics r.0 k v.0 r.1 in
    record {
      k = k;
      at = at;
      v = v.0;
      rest = v.1;
      ops = v.2;
      set = suits_set d.0 v.0 w.0;
      old = old.0;
      had = old.1;
      changed = r.0;
      put = r.1;
      next = sym (some_same (gone_on r.0) g.s' r.2);
      first_is = e.first_is ∙ means.0;
      wide = is_long_type d.0;
      second_is = e.second_is ∙ holds_at (slice_get g.P.statics k) d.0 (λ t. e.second_word ≡ bit_of (is_long_type t)) d.1 means.1;
      width = suits_wide d.0 v.0 w.0;
      old_width = (laws.static_widths g.P limit g.s k d.0 old.0 g.h.well_formed d.1 old.1).width ∙ declared_wide d.0;
    }

same_objects : (g : Scene 179) → SamePlaces g.P g.pl g.s.objects g.s.objects
same_objects g = record { places = refl; end = refl }

put_word : Laws → (g : Scene 179) (t : Puts g) → t.wide ≡ false → Comes 179 g
put_word laws g t short =
    let y = x 179 g in
    let w = one_on_top laws 179 g t.v t.rest t.ops (t.width ∙ short) in
    let stack = words_are laws 179 g (w.word ∷ w.others) w.split in
    let is : y.top ≡ w.word = heads y.top w.word (y.next ∷ y.under) (w.others ++ saved 179 g) stack in
    let memory = laws.statics_written g.P g.pl g.n g.size g.m g.s t.k t.old t.v w.word t.changed g.h.stands g.h.well_formed t.had (t.old_width ∙ short) (t.width ∙ short) t.set w.is t.put in
    writes_by laws 179 g (PutStatic t.k) t.changed g.s.objects (λ z. z.next ∷ z.under) (λ z. slice_set z.memory (first z) z.top) is_word t.rest w.others putstatic_word
    (null_test (second y) true (t.second_is ∙ ap bit_of short) refl) t.at t.next (same_objects g) w.stay (tails y.top w.word (y.next ∷ y.under) (w.others ++ saved 179 g) stack)
    (ap (λ (a : ℕ). slice_set g.m.port.words a y.top) t.first_is ∙ ap (λ (u : ℕ). slice_set g.m.port.words (static_place g.P g.pl t.k) u) is ∙ memory) (length-set g.m.port.words (first y) y.top)

put_long : Laws → (g : Scene 179) (t : Puts g) → t.wide ≡ true → Comes 179 g
put_long laws g t long =
    let y = x 179 g in
    let v = long_is t.v (t.width ∙ long) in
    let w = long_on_top laws 179 g v.0 t.rest (t.ops ∙ ap (λ (u : Value). u ∷ t.rest) v.1) in
    let low = low_word v.0 in
    let high = high_word v.0 in
    let stack = words_are laws 179 g (low ∷ high ∷ w.others) w.split in
    let below = tails y.top low (y.next ∷ y.under) (high ∷ w.others ++ saved 179 g) stack in
    let is_low : y.top ≡ low = heads y.top low (y.next ∷ y.under) (high ∷ w.others ++ saved 179 g) stack in
    let is_high : y.next ≡ high = heads y.next high y.under (w.others ++ saved 179 g) below in
    let old = long_is t.old (t.old_width ∙ long) in
    let there = laws.long_statics g.P g.pl g.n g.size g.m g.s t.k old.0 g.h.stands g.h.well_formed (t.had ∙ ap (λ u. Some u) old.1) in
    let at = static_place g.P g.pl t.k in
    let next = next_is (first y) at g.size t.first_is there.low.within g.h.stands.sizes.small in
    let put = subst (λ (u : Value). replaced g.s.statics t.k u ≡ Some t.changed) v.1 t.put in
    let memory = (laws.long_statics_written g.P g.pl g.n g.size g.m g.s t.k t.old v.0 t.changed g.h.stands g.h.well_formed t.had (t.old_width ∙ long) put).low_first in
    let flag : second y ≡ 1 = t.second_is ∙ ap bit_of long in
    let some : 0 < second y = omega (arith, flag) in
    let words = g.m.port.words in
    writes_by laws 179 g (PutStatic t.k) t.changed g.s.objects (λ z. z.under) (λ z. slice_set (slice_set z.memory ((first z + 1) % 2 ^ 32) z.top) (first z) z.next) is_double t.rest w.others putstatic_double
    (there_test (second y) true some refl) t.at t.next (same_objects g) w.stay (tails y.next high y.under (w.others ++ saved 179 g) below)
    (ap (λ (a : ℕ). slice_set (slice_set words a y.top) (first y) y.next) next ∙ ap (λ (a : ℕ). slice_set (slice_set words (at + 1) y.top) a y.next) t.first_is
    ∙ ap (λ (u : ℕ). slice_set (slice_set words (at + 1) u) at y.next) is_low ∙ ap (λ (u : ℕ). slice_set (slice_set words (at + 1) low) at u) is_high ∙ memory)
    (length-set (slice_set words ((first y + 1) % 2 ^ 32) y.top) (first y) y.next ∙ length-set words ((first y + 1) % 2 ^ 32) y.top)

pub putstatic_comes : Laws → (g : Scene 179) → Comes 179 g
putstatic_comes laws g = let t = puts laws g in by t t.wide refl
  where
    by : (t : Puts g) (b : Bool) → t.wide ≡ b → Comes 179 g
    by t false is = put_word laws g t is
    by t true is = put_long laws g t is
