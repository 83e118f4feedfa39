-- checkcast and instanceof, from the step to where the machine stands for the next state.
use Rattle.std.proofs.Common.{◌≡◌, ℕ, ◌+◌, ◌/◌, ◌%◌, ◌^◌, ◌<◌, ◌==◌, Bool, true, false, pos, List, [], ◌∷◌, Option, Some, None, if◌then◌else◌, refl, sym, ap, ◌∙◌, subst, arith}
use Rattle.std.specs.Prelude.{slice_get, slice_index, IsSomeAnd}
use Rattle.std.proofs.lemmas.Option.{none-some}
use Rattle.std.proofs.lemmas.Nat.{and_mask}
use Rattle.lists.proofs.Lemmas.{onto_some, some_same}
use Rattle.opcodes.specs.Form.{one, UnsignedShort}
use Rattle.opcodes.specs.Row as opcodes
use Rattle.opcodes.specs.Reading.{plain_instr}
use Rattle.micro_sketch.specs.Sketch.{Sketch}
use Rattle.micro_sketch.specs.Row.{unchanged, words_of}
use Rattle.micro_sketch.specs.Rows.{Makes}
use Rattle.micro_sketch.specs.Operand.{behind}
use Rattle.bytecode_model.specs.declared.Value.{Value}
use Rattle.bytecode_model.specs.declared.Value.TheVariants.{Int, Long, Ref, Null, Unset}
use Rattle.bytecode_model.specs.Lists.{onto}
use Rattle.bytecode_model.specs.Types.{Kind, is_long}
use Rattle.bytecode_model.specs.State.{Object, Frame, State}
use Rattle.bytecode_model.specs.Program.{Program, Limits, Operand, NoOperand, AnInt, ALong, AString, AStatic, AField, AMethod, AType, kind_of, type_number, is_of}
use Rattle.bytecode_model.specs.Rows.{Row, Cast, Test}
use Rattle.bytecode_model.specs.Table.{row_of}
use Rattle.bytecode_model.specs.Effects.{Effect, Go, on, on_top, is_instance, fault, ClassCastException}
use Rattle.bytecode_model.specs.Steps.{applied}
use Rattle.image_facts.specs.Words.{int_word}
use Rattle.image_facts.specs.Says.{Means, bit_of}
use Rattle.machine_stands.specs.StandsFor.{limits_of}
use Rattle.machine_stands.specs.Reading.{operands_of}
use Rattle.opcode_steps.proofs.ObjectLemmas.Raising.{MakesRaise}
use Rattle.opcode_steps.proofs.ObjectLemmas.TypeRows.{index, asked, bit_place, bit_of_top, supertype_bit, raising, answers, null_is_cast, object_is_cast, cast_raises, null_is_tested, object_is_tested}
use Rattle.opcode_steps.proofs.ObjectLemmas.Types.{type_at, type_number_read, supertype_read}
use Rattle.opcode_steps.proofs.ObjectLemmas.Objects.{type_read, objects_behind, not_zero}
use Rattle.opcode_steps.proofs.ObjectLemmas.Scenes.{StateLaws, Here, Line, Comes, line_of, code, instr, x, place, next, effect_of, says_linked, shows, at_entry, comes_on, comes_to_raise, topped, entry_read}

-- ---- the instruction

cast_form : operands_of (opcodes.row_of 192).form ≡ Some (one UnsignedShort)
unfolding opcodes.row_of
cast_form = refl

test_form : operands_of (opcodes.row_of 193).form ≡ Some (one UnsignedShort)
unfolding opcodes.row_of
test_form = refl

-- it names a type
abbrev NamesType : (Kind → Row) → Operand → Row → Type 0
NamesType row o r = (k : Kind) × (o ≡ AType k) × (r ≡ row k)

cast_names : (bytes : List ℕ) (pc : ℕ) (o : Operand) (r : Row) → row_of bytes (plain_instr 192 bytes pc (one UnsignedShort)) o ≡ Some r → NamesType Cast o r
unfolding row_of
cast_names bytes pc NoOperand r h = absurd (none-some r h)
cast_names bytes pc (AnInt n) r h = absurd (none-some r h)
cast_names bytes pc (ALong n) r h = absurd (none-some r h)
cast_names bytes pc (AString p) r h = absurd (none-some r h)
cast_names bytes pc (AStatic f) r h = absurd (none-some r h)
cast_names bytes pc (AField named owner k) r h = absurd (none-some r h)
cast_names bytes pc (AMethod named t) r h = absurd (none-some r h)
cast_names bytes pc (AType k) r h = (k, refl, sym (some_same (Cast k) r h))

test_names : (bytes : List ℕ) (pc : ℕ) (o : Operand) (r : Row) → row_of bytes (plain_instr 193 bytes pc (one UnsignedShort)) o ≡ Some r → NamesType Test o r
unfolding row_of
test_names bytes pc NoOperand r h = absurd (none-some r h)
test_names bytes pc (AnInt n) r h = absurd (none-some r h)
test_names bytes pc (ALong n) r h = absurd (none-some r h)
test_names bytes pc (AString p) r h = absurd (none-some r h)
test_names bytes pc (AStatic f) r h = absurd (none-some r h)
test_names bytes pc (AField named owner k) r h = absurd (none-some r h)
test_names bytes pc (AMethod named t) r h = absurd (none-some r h)
test_names bytes pc (AType k) r h = (k, refl, sym (some_same (Test k) r h))

pub a_type_is_named : (k : Kind) (o : Operand) → o ≡ AType k → o ≡ NoOperand → ⊥
a_type_is_named k o e h = let clash : NoOperand ≡ AType k = sym h ∙ e in cc

-- ---- what is asked of an object

is_bit : (bit : ℕ) (b : Bool) → bit ≡ bit_of b → (bit == 0) ≡ (if b then false else true)
is_bit bit true e = ap (λ (k : ℕ). k == 0) e
is_bit bit false e = ap (λ (k : ℕ). k == 0) e

pub is_there : {A : Type 0} (o : Option A) (Q : A → Type 0) → IsSomeAnd o Q → (y : A) × (o ≡ Some y) × Q y
is_there None Q h = absurd h
is_there (Some y) Q h = (y, refl, h)

-- what is asked is the number of the type that the instruction names
pub asked_is : (laws : StateLaws) {op : ℕ} (c : Here op (one UnsignedShort) 2) (k : Kind) → c.P.operand c.h.stands.top.method c.h.stands.top.pc ≡ AType k
    → (t : ℕ) × (type_number c.P k ≡ Some t) × (asked (x laws c) (index (x laws c)) ≡ t)
asked_is laws c k operand =
    let entry = entry_read laws c (omega arith) refl (a_type_is_named k (c.P.operand c.h.stands.top.method c.h.stands.top.pc) operand) in
    let means = subst (λ (o : Operand). Means c.P c.pl (instr laws c).op o entry.first entry.second) operand entry.means in
    let number = is_there (type_number c.P k) (λ (u : ℕ). entry.first ≡ c.pl.type u) means.0 in
    let type = type_number_read laws.words c.P c.pl c.n c.size c.m c.s c.h.stands c.h.well_formed (says_linked laws c) number.0 k (type_at c.P k number.0 number.1) in
    (number.0, number.1, ap (slice_index c.m.port.words) (entry.first_is ∙ number.2) ∙ type.1)

-- of a reference to an object it asks whether that is of the type
pub record Asked (laws : StateLaws) {op : ℕ} (c : Here op (one UnsignedShort) 2) (k l : Kind) : Type 0 where
  pub some : ((x laws c).top == 0) ≡ false
  pub bit : bit_of_top (x laws c) ≡ bit_of (is_of c.P l k)

bits_at : (type u size : ℕ) → type + 5 + u / 32 < size → size < 2 ^ 32 → bit_place type u ≡ type + 5 + u / 32
bits_at type u size h small = omega (arith, h, small)

pub object_asked : (laws : StateLaws) {op : ℕ} (c : Here op (one UnsignedShort) 2) (k l : Kind) (p : ℕ) (o : Object) → c.P.operand c.h.stands.top.method c.h.stands.top.pc ≡ AType k
    → slice_get c.s.objects p ≡ Some o → kind_of c.P o ≡ Some l → (x laws c).top ≡ place laws c p → Asked laws c k l
object_asked laws c k l p o operand there kind top =
    let says = says_linked laws c in
    let asks = asked_is laws c k operand in
    let t = asks.0 in
    let type = c.pl.type o.kind in
    let memory = c.m.port.words in
    let read = type_read laws.objects c.P c.pl c.n c.size c.m c.s p o c.h.stands c.h.well_formed there in
    let super = supertype_read laws.words c.P c.pl c.n c.size c.m c.s c.h.stands c.h.well_formed says o.kind l t k kind (type_at c.P k t asks.1) in
    let small = c.h.stands.sizes.small in
    let behind = objects_behind c.P c.pl says in
    let at : bit_place type t ≡ type + 5 + t / 32 = bits_at type t c.size super.within small in
    record {
      some = not_zero (x laws c).top (omega (arith, top, behind));
      bit = ap (λ (q : ℕ). supertype_bit memory (slice_index memory q) (asked (x laws c) (index (x laws c)))) top
          ∙ ap (λ (q : ℕ). supertype_bit memory q (asked (x laws c) (index (x laws c)))) read.1
          ∙ ap (λ (u : ℕ). supertype_bit memory type u) asks.2
          ∙ and_mask (slice_index memory (bit_place type t) / 2 ^ (t % 32)) 1
          ∙ ap (λ (q : ℕ). slice_index memory q / 2 ^ (t % 32) % 2) at
          ∙ super.bit;
    }

-- ---- what the row takes

-- the effect of a test of the topmost operand
abbrev tested : Program → List Object → (null : Bool) → Kind → (Bool → Value → List Value → Effect) → List Value → Effect
tested P objects null k go ops = on_top ops (λ v rest. on (is_instance P objects null k v) (λ b. go b v rest))

-- that is null, or refers to an object of a kind
data Tested (P : Program) (objects : List Object) (null : Bool) (k : Kind) (go : Bool → Value → List Value → Effect) (ops : List Value) : Type 0 where
  OfNull : (rest : List Value) → ops ≡ Null ∷ rest → tested P objects null k go ops ≡ go null Null rest → Tested P objects null k go ops
  OfObject : (p : ℕ) (rest : List Value) (o : Object) (l : Kind) → ops ≡ Ref p ∷ rest → slice_get objects p ≡ Some o → kind_of P o ≡ Some l → tested P objects null k go ops ≡ go (is_of P l k) (Ref p) rest
      → Tested P objects null k go ops

module _ (P : Program) (limits : Limits) (answer : Option ℕ) (s : State) (f : Frame) (callers : List Frame) (t : State) (null : Bool) (k : Kind) (go : Bool → Value → List Value → Effect) where
  of_reference : (p : ℕ) (rest : List Value) (b : Option Bool) → is_instance P s.objects null k (Ref p) ≡ b → applied P limits answer s f callers (on b (λ b. go b (Ref p) rest)) ≡ Some t
      → Tested P s.objects null k go (Ref p ∷ rest)
  of_reference p rest None is h = absurd (none-some t h)
  of_reference p rest (Some b) is h =
      let o = onto_some (slice_get s.objects p) (λ o. onto (kind_of P o) (λ l. Some (is_of P l k))) b is in
      let l = onto_some (kind_of P o.0) (λ l. Some (is_of P l k)) b o.2 in
      OfObject p rest o.0 l.0 refl o.1 l.1 (ap (λ (q : Option Bool). on q (λ b. go b (Ref p) rest)) (is ∙ sym l.2))

  test_cases : (ops : List Value) → applied P limits answer s f callers (tested P s.objects null k go ops) ≡ Some t → Tested P s.objects null k go ops
  test_cases [] h = absurd (none-some t h)
  test_cases (Int n ∷ rest) h = absurd (none-some t h)
  test_cases (Long n ∷ rest) h = absurd (none-some t h)
  test_cases (Unset ∷ rest) h = absurd (none-some t h)
  test_cases (Null ∷ rest) h = OfNull rest refl refl
  test_cases (Ref p ∷ rest) h = of_reference p rest (is_instance P s.objects null k (Ref p)) refl h

-- ---- checkcast

module _ (laws : StateLaws) (c : Here 192 (one UnsignedShort) 2) where
  abbrev cast_effect : Bool → Value → List Value → Effect
  cast_effect b v rest = if b then Go (next laws c) c.h.stands.top.locals (v ∷ rest) else fault ClassCastException

  -- all stays
  stays : (v : Value) (rest : List Value) → c.h.stands.top.operands ≡ v ∷ rest → effect_of laws c c.row ≡ Go (next laws c) c.h.stands.top.locals (v ∷ rest) → Makes (behind 2 (x laws c) (unchanged (x laws c))) (x laws c) → Comes c
  stays v rest ops does makes =
      comes_on laws c c.h.stands.top.operands c.h.stands.words.operands (words_of (x laws c)) (does ∙ ap (λ (vs : List Value). Go (next laws c) c.h.stands.top.locals vs) (sym ops)) makes (shows laws c).words
      c.h.stands.are_frames.0.operands

  cast_comes : (k : Kind) → c.P.operand c.h.stands.top.method c.h.stands.top.pc ≡ AType k → c.row ≡ Cast k → Tested c.P c.s.objects true k cast_effect c.h.stands.top.operands → Comes c
  cast_comes k operand row (OfNull rest ops does) =
      stays Null rest ops (ap (effect_of laws c) row ∙ does) (at_entry laws c (λ (y : Sketch). y.top ≡ 0 → Makes (behind 2 y (unchanged y)) y) (null_is_cast (x laws c)) (topped laws c Null rest refl ops).is)
  cast_comes k operand row (OfObject p rest o l ops there kind does) =
      by (is_of c.P l k) refl (object_asked laws c k l p o operand there kind (topped laws c (Ref p) rest refl ops).is) (ap (effect_of laws c) row ∙ does)
    where
      by : (b : Bool) → is_of c.P l k ≡ b → Asked laws c k l → effect_of laws c c.row ≡ cast_effect (is_of c.P l k) (Ref p) rest → Comes c
      by true is a does =
          stays (Ref p) rest ops (does ∙ ap (λ (b : Bool). cast_effect b (Ref p) rest) is)
          (at_entry laws c (λ (y : Sketch). ((y.top == 0) ≡ false) × ((bit_of_top y == 0) ≡ false) → Makes (behind 2 y (unchanged y)) y) (object_is_cast (x laws c))
          (a.some, ap (λ (w : ℕ). w == 0) (a.bit ∙ ap bit_of is)))
      by false is a does =
          comes_to_raise laws c ClassCastException 2 c.h.stands.words.operands (words_of (x laws c)) (does ∙ ap (λ (b : Bool). cast_effect b (Ref p) rest) is)
          (at_entry laws c (λ (y : Sketch). ((y.top == 0) ≡ false) × ((bit_of_top y == 0) ≡ true) → MakesRaise (raising (words_of y) 2 3 y) y) (cast_raises (x laws c))
          (a.some, ap (λ (w : ℕ). w == 0) (a.bit ∙ ap bit_of is)))
          (omega arith) (shows laws c).words (shows laws c).depth

  pub checkcast_comes : Comes c
  checkcast_comes =
      let named = cast_names (code laws c) c.h.stands.top.pc (c.P.operand c.h.stands.top.method c.h.stands.top.pc) c.row c.at.is_row in
      let limits = limits_of c.P c.pl c.n c.size in
      let step = subst (λ (r : Row). applied c.P limits c.answer c.s c.h.stands.top c.h.stands.callers (effect_of laws c r) ≡ Some c.t) named.2 c.at.step in
      cast_comes named.0 named.1 named.2 (test_cases c.P limits c.answer c.s c.h.stands.top c.h.stands.callers c.t true named.0 cast_effect c.h.stands.top.operands step)

pub checkcast : StateLaws → Line 192
checkcast laws = line_of laws 192 (one UnsignedShort) 2 cast_form refl (checkcast_comes laws)

-- ---- instanceof

module _ (laws : StateLaws) (c : Here 193 (one UnsignedShort) 2) where
  abbrev answer_of : Bool → Value
  answer_of b = Int (if b then pos 1 else pos 0)

  abbrev test_effect : Bool → Value → List Value → Effect
  test_effect b v rest = Go (next laws c) c.h.stands.top.locals (answer_of b ∷ rest)

  answer_word : (b : Bool) → bit_of b ≡ int_word (if b then pos 1 else pos 0)
  answer_word true = refl
  answer_word false = refl

  -- the answer is in place of the reference
  answered : (v : Value) (rest : List Value) (b : Bool) (word : ℕ) → is_long v ≡ false → c.h.stands.top.operands ≡ v ∷ rest → effect_of laws c c.row ≡ Go (next laws c) c.h.stands.top.locals (answer_of b ∷ rest) → word ≡ bit_of b
      → Makes (answers word (x laws c)) (x laws c) → Comes c
  answered v rest b word short ops does is makes =
      let top = topped laws c v rest short ops in
      comes_on laws c (answer_of b ∷ rest) (word ∷ top.others) (word ∷ (x laws c).next ∷ (x laws c).under) does makes (ap (λ (ws : List ℕ). word ∷ ws) top.below)
      (laws.pushed (place laws c) (answer_of b) rest word top.others refl (is ∙ answer_word b) top.stay)

  test_comes : (k : Kind) → c.P.operand c.h.stands.top.method c.h.stands.top.pc ≡ AType k → c.row ≡ Test k → Tested c.P c.s.objects false k test_effect c.h.stands.top.operands → Comes c
  test_comes k operand row (OfNull rest ops does) =
      answered Null rest false 0 refl ops (ap (effect_of laws c) row ∙ does) refl (at_entry laws c (λ (y : Sketch). y.top ≡ 0 → Makes (answers 0 y) y) (null_is_tested (x laws c)) (topped laws c Null rest refl ops).is)
  test_comes k operand row (OfObject p rest o l ops there kind does) =
      let a = object_asked laws c k l p o operand there kind (topped laws c (Ref p) rest refl ops).is in
      answered (Ref p) rest (is_of c.P l k) (bit_of_top (x laws c)) refl ops (ap (effect_of laws c) row ∙ does) a.bit
      (at_entry laws c (λ (y : Sketch). (y.top == 0) ≡ false → Makes (answers (bit_of_top y) y) y) (object_is_tested (x laws c)) a.some)

  pub instanceof_comes : Comes c
  instanceof_comes =
      let named = test_names (code laws c) c.h.stands.top.pc (c.P.operand c.h.stands.top.method c.h.stands.top.pc) c.row c.at.is_row in
      let limits = limits_of c.P c.pl c.n c.size in
      let step = subst (λ (r : Row). applied c.P limits c.answer c.s c.h.stands.top c.h.stands.callers (effect_of laws c r) ≡ Some c.t) named.2 c.at.step in
      test_comes named.0 named.1 named.2 (test_cases c.P limits c.answer c.s c.h.stands.top c.h.stands.callers c.t false named.0 test_effect c.h.stands.top.operands step)

pub instanceof : StateLaws → Line 193
instanceof laws = line_of laws 193 (one UnsignedShort) 2 test_form refl (instanceof_comes laws)
