-- Stores of ints into elements, from the step to where the machine stands for the next state.
use Rattle.std.proofs.Common.{◌≡◌, ℕ, ◌+◌, ◌≤◌, Bool, true, false, ℤ, pos, List, [], ◌∷◌, ◌++◌, Some, length, refl, sym, ◌∙◌, ap, subst, arith}
use Rattle.std.specs.Prelude.{slice_get, slice_set}
use Rattle.std.specs.Int.{w8, w16, w32, int_wrap}
use Rattle.std.specs.Int.RustNames.{FitsSigned}
use Rattle.std.proofs.lemmas.List.{length-set}
use Rattle.lists.specs.Members.{heads, tails}
use Rattle.lists.proofs.Lemmas.{onto_some, some_same}
use Rattle.opcodes.specs.Form.{one}
use Rattle.opcodes.specs.Row as opcodes
use Rattle.micro_sketch.specs.Sketch.{Sketch}
use Rattle.micro_sketch.specs.Rows.{head_of, tail_of}
use Rattle.bytecode_model.specs.declared.Value.{Value}
use Rattle.bytecode_model.specs.declared.Value.TheVariants.{Int, Ref, Null, Unset}
use Rattle.bytecode_model.specs.Numbers.{unchanged, narrowed, as_char}
use Rattle.bytecode_model.specs.Types.{IntType, is_long, t_boolean, t_char, t_byte, t_short, t_int}
use Rattle.bytecode_model.specs.State.{Object, State}
use Rattle.bytecode_model.specs.Program.{kind_of}
use Rattle.bytecode_model.specs.Rows as bytecode
use Rattle.bytecode_model.specs.Rows.{StoreNumber}
use Rattle.bytecode_model.specs.Table.{row_of}
use Rattle.bytecode_model.specs.Effects.{Effect, WritePart, ArrayIndexOutOfBoundsException, NullPointerException, fault, only_if, on_number, on_object, on_element, is_array_of, number}
use Rattle.bytecode_model.specs.Steps.{applied, written, with_top}
use Rattle.bytecode_model.specs.WellFormed.{AreValues}
use Rattle.image_facts.specs.Words.{int_word}
use Rattle.image_facts.specs.Laws.{part_place}
use Rattle.machine_stands.specs.Frames.{IsWordOf, AreOperands}
use Rattle.opcode_steps.proofs.HeapLemmas.ArrayRows.{Row, element_at, kept_int, kept_byte, kept_short, kept_char, store_null, store_outside, store_inside, stores_word, StoreRows, iastore, bastore, castore, sastore}
use Rattle.opcode_steps.proofs.HeapLemmas.ArrayDefined.{only_if_defined, on_int_defined, on_object_defined, on_element_defined, IsOutside, IsArray, HaveWidth, numbers}
use Rattle.opcode_steps.proofs.HeapLemmas.Kept.{Keeps, keeps_int, keeps_byte, keeps_short, keeps_char}
use Rattle.opcode_steps.proofs.HeapLemmas.ArrayScenes.{Laws, Scene, Comes, limits, top, code, x, place, saved, operands, At, effect_of, operand_values, writes_by, raises_by, one_on_top, words_are, null_test}
use Rattle.opcode_steps.proofs.HeapLemmas.Elements.{outside, inside, word_at}
use Rattle.opcode_steps.proofs.HeapLemmas.Loads.{at_row}

-- ---- the words of a value, of an index and of a reference

pub record Three (op : ℕ) (g : Scene op) (v : Value) (i : ℤ) (r : Value) (rest : List Value) : Type 0 where
  pub word_is : IsWordOf (place op g) v (x op g).top
  pub fits : FitsSigned w32 i
  pub index_is : (x op g).next ≡ int_word i
  pub array_is : IsWordOf (place op g) r (head_of (x op g).under)
  pub others : List ℕ
  pub stay : AreOperands (place op g) rest others
  pub few : length others ≤ length (operands op g)
  pub tail_is : tail_of (x op g).under ≡ others ++ saved op g

pub three : Laws → (op : ℕ) (g : Scene op) (v : Value) (below : List Value) (i : ℤ) (under : List Value) (r : Value) (rest : List Value) → (top op g).operands ≡ v ∷ below → below ≡ Int i ∷ under → under ≡ r ∷ rest
    → is_long v ≡ false → is_long r ≡ false → Three op g v i r rest
three laws op g v below i under r rest ops second third short one =
    let y = x op g in
    let a = one_on_top laws op g v below (top op g).operands (operands op g) g.h.stands.are_frames.0.operands ops short in
    let b = one_on_top laws op g (Int i) under below a.others a.stay second refl in
    let c = one_on_top laws op g r rest under b.others b.stay third one in
    let split : operands op g ≡ a.word ∷ b.word ∷ c.word ∷ c.others = a.split ∙ ap (λ (ws : List ℕ). a.word ∷ ws) b.split ∙ ap (λ (ws : List ℕ). a.word ∷ b.word ∷ ws) c.split in
    let stack = words_are laws op g (a.word ∷ b.word ∷ c.word ∷ c.others) split in
    let tail = tails y.top a.word (y.next ∷ y.under) (b.word ∷ c.word ∷ c.others ++ saved op g) stack in
    let last = tails y.next b.word y.under (c.word ∷ c.others ++ saved op g) tail in
    let many = ap (λ (ws : List ℕ). length ws) split in
    let values = (subst (λ (vs : List Value). AreValues (length g.s.objects) vs) ops (operand_values op g)).1 in
    record {
      word_is = subst (λ (w : ℕ). IsWordOf (place op g) v w) (sym (heads y.top a.word (y.next ∷ y.under) (b.word ∷ c.word ∷ c.others ++ saved op g) stack)) a.is;
      fits = (subst (λ (vs : List Value). AreValues (length g.s.objects) vs) second values).0;
      index_is = heads y.next b.word y.under (c.word ∷ c.others ++ saved op g) tail ∙ b.is;
      array_is = subst (λ (w : ℕ). IsWordOf (place op g) r w) (sym (ap head_of last)) c.is;
      others = c.others;
      stay = c.stay;
      few = omega (arith, many);
      tail_is = ap tail_of last;
    }

-- ---- an element is written by a value of one word

pub record Put (op : ℕ) (g : Scene op) (p : ℕ) (o : Object) (k : ℕ) (w : Value) (rest : List Value) : Type 0 where
  pub changed : List Object
  pub put : written g.s.objects p k w ≡ Some changed
  pub next : g.s' ≡ with_top (record g.s { objects = changed }) g.h.stands.callers (record (top op g) { pc = (top op g).pc + 1; locals = (top op g).locals; operands = rest })

pub put_by : (op : ℕ) (g : Scene op) (p : ℕ) (o : Object) (k : ℕ) (w : Value) (rest : List Value)
    → applied g.P (limits op g) g.answer g.s (top op g) g.h.stands.callers (WritePart p k w ((top op g).pc + 1) (top op g).locals rest) ≡ Some g.s' → Put op g p o k w rest
put_by op g p o k w rest leads =
    let f = top op g in
    let gone_on : List Object → State = λ os. with_top (record g.s { objects = os }) g.h.stands.callers (record f { pc = f.pc + 1; locals = f.locals; operands = rest }) in
    let r = onto_some (written g.s.objects p k w) (λ os. Some (gone_on os)) g.s' leads in
    record { changed = r.0; put = r.1; next = sym (some_same (gone_on r.0) g.s' r.2) }

pub word_stored : (laws : Laws) (op : ℕ) (g : Scene op) (r : bytecode.Row) (kept : ℕ → ℕ) (allowed : Sketch → Bool) (p : ℕ) (o : Object) (k : ℕ) (old w : Value) (rest : List Value) (others : List ℕ) → Row op allowed (stores_word kept)
    → allowed (x op g) ≡ true → At op g r → slice_get g.s.objects p ≡ Some o → IsArray g.P o false → slice_get o.parts k ≡ Some old → (x op g).next ≡ k → head_of (x op g).under ≡ place op g p
    → is_long w ≡ false → (w ≡ Unset → ⊥) → IsWordOf (place op g) w (kept (x op g).top) → Put op g p o k w rest → AreOperands (place op g) rest others → tail_of (x op g).under ≡ others ++ saved op g → Comes op g
word_stored laws op g r kept allowed p o k old w rest others row ok at object kind part index_is array_is new set is u stay tail_is =
    let y = x op g in
    let words = g.m.port.words in
    let a = part_place g.P g.pl g.s.objects p o k in
    let wide = laws.widths g.P (limits op g) g.s p o kind.kind k old g.h.well_formed object kind.kind_is kind.array part in
    let short = wide.width ∙ kind.longs in
    let there = laws.parts g.P g.pl g.n g.size g.m g.s p o k old g.h.stands g.h.well_formed object part short in
    let lies = word_at laws op g p o object (head_of y.under) array_is false kind k old part y.next index_is refl there.within in
    let memory = laws.parts_written g.P g.pl g.n g.size g.m g.s p o k old w (kept y.top) u.changed g.h.stands g.h.well_formed object part short new set is u.put in
    writes_by laws op g r u.changed (λ z. tail_of z.under) (λ z. slice_set z.memory (element_at (head_of z.under) z.next) (kept z.top)) allowed rest others row ok at u.next
    (laws.places g.P g.pl g.s.objects u.changed p o k old w object part (new ∙ sym short) u.put) stay tail_is
    (ap (λ (b : ℕ). slice_set words b (kept y.top)) lies ∙ memory) (length-set words (element_at (head_of y.under) y.next) (kept y.top))

-- ---- ints

module _ (laws : Laws) (op : ℕ) (g : Scene op) (codes : List ℕ) (each : HaveWidth false codes) (kept : ℕ → ℕ) (kept_of : ℤ → ℤ) (keeps : Keeps kept kept_of) (rows : StoreRows op kept)
    (at : At op g (StoreNumber IntType codes kept_of)) where
  abbrev r : bytecode.Row
  r = StoreNumber IntType codes kept_of

  abbrev puts : ℤ → ℕ → List Value → ℕ → Value → Effect
  puts v p rest k old = WritePart p k (number IntType (kept_of v)) ((top op g).pc + 1) (top op g).locals rest

  abbrev to_array : ℤ → ℤ → ℕ → Object → List Value → Effect
  to_array v i p o rest = only_if (is_array_of codes (kind_of g.P o)) (on_element o i (puts v p rest))

  abbrev by_index : ℤ → ℤ → List Value → Effect
  by_index v i rest = on_object g.s.objects rest (to_array v i)

  abbrev by_value : ℤ → List Value → Effect
  by_value v rest = on_number IntType rest (by_index v)

  null_comes : (v i : ℤ) (rest : List Value) → Three op g (Int v) i Null rest → effect_of op g r ≡ fault NullPointerException → Comes op g
  null_comes v i rest w raises = raises_by laws op g r NullPointerException (λ y. tail_of y.under) store_null w.others rows.null (null_test (head_of (x op g).under) true w.array_is refl) at raises w.tail_is w.few

  outside_comes : (v i : ℤ) (p : ℕ) (o : Object) (rest : List Value) → Three op g (Int v) i (Ref p) rest → slice_get g.s.objects p ≡ Some o → IsArray g.P o false → IsOutside i (length o.parts)
      → effect_of op g r ≡ fault ArrayIndexOutOfBoundsException → Comes op g
  outside_comes v i p o rest w object kind out raises =
      raises_by laws op g r ArrayIndexOutOfBoundsException (λ y. tail_of y.under) store_outside w.others rows.outside
      (outside laws op g p o object (head_of (x op g).under) w.array_is false kind i (x op g).next w.index_is w.fits out) at raises w.tail_is w.few

  inside_comes : (v i : ℤ) (p : ℕ) (o : Object) (rest : List Value) → FitsSigned w32 v → Three op g (Int v) i (Ref p) rest → slice_get g.s.objects p ≡ Some o → IsArray g.P o false → (k : ℕ) (old : Value) → i ≡ pos k
      → slice_get o.parts k ≡ Some old → Put op g p o k (number IntType (kept_of v)) rest → Comes op g
  inside_comes v i p o rest fits w object kind k old is part u =
      let y = x op g in
      let index = w.index_is ∙ ap int_word is in
      let word : kept y.top ≡ int_word (int_wrap w32 (kept_of v)) = ap kept w.word_is ∙ keeps v fits in
      word_stored laws op g r kept store_inside p o k old (number IntType (kept_of v)) rest w.others rows.inside
      (inside laws op g p o object (head_of y.under) w.array_is false kind k old part y.next index) at object kind part index w.array_is refl (λ unset. not_unset (int_wrap w32 (kept_of v)) unset) word u w.stay w.tail_is
    where
      not_unset : (z : ℤ) → Int z ≡ Unset → ⊥
      not_unset z e = cc

  pub store_comes : Comes op g
  store_comes =
      let f = top op g in
      let callers = g.h.stands.callers in
      let limit = limits op g in
      let v = on_int_defined g.P limit g.answer g.s f callers g.s' f.operands by_value at.step in
      let i = on_int_defined g.P limit g.answer g.s f callers g.s' v.1 (by_index v.0) v.4 in
      let fits : FitsSigned w32 v.0 = (subst (λ (vs : List Value). AreValues (length g.s.objects) vs) v.2 (operand_values op g)).0 in
      on_object_defined g.P limit g.answer g.s f callers g.s' g.s.objects i.1 (to_array v.0 i.0) (Comes op g) i.4
      (λ rest third raises. null_comes v.0 i.0 rest (three laws op g (Int v.0) v.1 i.0 i.1 Null rest v.2 i.2 third refl refl) (v.3 ∙ i.3 ∙ raises))
      (λ p o rest third object same leads.
      let w = three laws op g (Int v.0) v.1 i.0 i.1 (Ref p) rest v.2 i.2 third refl refl in
      let b = only_if_defined g.P limit g.answer g.s f callers g.s' (is_array_of codes (kind_of g.P o)) (on_element o i.0 (puts v.0 p rest)) leads in
      let kind = numbers g.P o false codes b.0 each in
      on_element_defined g.P limit g.answer g.s f callers g.s' o i.0 (puts v.0 p rest) (Comes op g) b.2
      (λ out raises. outside_comes v.0 i.0 p o rest w object kind out (v.3 ∙ i.3 ∙ same ∙ b.1 ∙ raises))
      (λ k old is part goes more. inside_comes v.0 i.0 p o rest fits w object kind k old is part (put_by op g p o k (number IntType (kept_of v.0)) rest more)))

-- ---- the rows

pub iastore_comes : Laws → (g : Scene 79) → Comes 79 g
unfolding opcodes.row_of row_of
iastore_comes laws g = store_comes laws 79 g (t_int ∷ []) (refl, tt) kept_int unchanged keeps_int iastore (at_row laws 79 g (StoreNumber IntType (t_int ∷ []) unchanged) refl (λ code pc o. refl))

pub bastore_comes : Laws → (g : Scene 84) → Comes 84 g
unfolding opcodes.row_of row_of
bastore_comes laws g =
    store_comes laws 84 g (t_byte ∷ t_boolean ∷ []) (refl, (refl, tt)) kept_byte (narrowed w8) keeps_byte bastore (at_row laws 84 g (StoreNumber IntType (t_byte ∷ t_boolean ∷ []) (narrowed w8)) refl (λ code pc o. refl))

pub castore_comes : Laws → (g : Scene 85) → Comes 85 g
unfolding opcodes.row_of row_of
castore_comes laws g = store_comes laws 85 g (t_char ∷ []) (refl, tt) kept_char as_char keeps_char castore (at_row laws 85 g (StoreNumber IntType (t_char ∷ []) as_char) refl (λ code pc o. refl))

pub sastore_comes : Laws → (g : Scene 86) → Comes 86 g
unfolding opcodes.row_of row_of
sastore_comes laws g = store_comes laws 86 g (t_short ∷ []) (refl, tt) kept_short (narrowed w16) keeps_short sastore (at_row laws 86 g (StoreNumber IntType (t_short ∷ []) (narrowed w16)) refl (λ code pc o. refl))
