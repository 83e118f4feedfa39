-- A `putfield` of a long, over the words of the memory.
use Rattle.std.proofs.Common.{◌≡◌, ℕ, ◌+◌, ◌*◌, ℤ, pos, Bool, true, false, List, [], ◌∷◌, Option, Some, None, map, length, refl, sym, ◌∙◌, ap, subst, arith}
use Rattle.std.specs.Prelude.{slice_get, slice_set, IsSomeAnd}
use Rattle.lists.proofs.Lemmas.{holds_at, onto_some, some_same}
use Rattle.opcodes.specs.declared.instruction.Instr.{Instr}
use Rattle.jop_core.specs.State as machine
use Rattle.bytecode_model.specs.declared.Value.{Value}
use Rattle.bytecode_model.specs.declared.Value.TheVariants.{Long, Ref}
use Rattle.bytecode_model.specs.declared.Ending.TheVariants.{Running}
use Rattle.bytecode_model.specs.Types.{OfClass, Numeric, LongType, is_long, default, suits}
use Rattle.bytecode_model.specs.Rows.{PutField}
use Rattle.bytecode_model.specs.State.{Object, Frame, State}
use Rattle.bytecode_model.specs.Program.{Program, Limits, Method, Operand, NoOperand, AField, body_of, kind_of, instr_at}
use Rattle.bytecode_model.specs.Sizes.{header_words}
use Rattle.bytecode_model.specs.Effects.{WritePart, on, only_if, on_top, on_object, effect, has_class}
use Rattle.bytecode_model.specs.Steps.{applied, row_at, written, with_top}
use Rattle.bytecode_model.specs.WellFormed.{IsFrame, AreFrames, AreAlike}
use Rattle.image_facts.specs.Within.{LieAt}
use Rattle.image_facts.specs.Words.{words_of, high_word, low_word, is_long_type}
use Rattle.image_facts.specs.Places.{Places, object_place, pool_of, words_with}
use Rattle.image_facts.specs.Says.{SaysAll, SaysLinked, SaysEntry, SaysOperand, MeansField, bit_of}
use Rattle.image_facts.specs.Laws.{part_place, ListsGoOn, FixedWordsLie, PartsDiffer, FieldsAreWide, PairsAreWritten}
use Rattle.machine_stands.specs.StandsFor.{StandsFor, memory_of, limits_of}
use Rattle.machine_stands.specs.Simulates.{IsStep}
use Rattle.machine_stands.specs.Memory.{PutsLong}
use Rattle.machine_stands.proofs.Memory.{lie_padded, differ_padded}
use Rattle.machine_stands.proofs.Defined.{step_is, on_defined, only_if_defined, class_is, object_at, part_at, alike_at, long_is, long_suits}

-- what holds of the words of an image
pub record ImageLaws : Type 0 where
  pub ahead : ListsGoOn
  pub fixed : FixedWordsLie
  pub differ : PartsDiffer
  pub widths : FieldsAreWide
  pub pairs : PairsAreWritten

-- ---- the words

-- where a long is written over a long of an object of a class, two words of the memory differ
pub long_put : ImageLaws → (P : Program) (pl : Places) (size : ℕ) (s : State) (p k first c owner : ℕ) (o : Object) (old n : ℤ) (changed : List Object) → AreAlike s.statics (map default P.statics)
    → slice_get s.objects p ≡ Some o → kind_of P o ≡ Some (OfClass c) → AreAlike o.parts (map default (P.fields c)) → P.extends c owner ≡ true → MeansField P owner k first
    → slice_get o.parts k ≡ Some (Long old) → written s.objects p k (Long n) ≡ Some changed
    → let place = object_place P pl s.objects p + first in
    slice_set (slice_set (memory_of P pl size s) (place + 1) (low_word n)) place (high_word n) ≡ memory_of P pl size (record s { objects = changed })
long_put laws P pl size s p k first c owner o old n changed statics at kind alike below means had h =
    let place = object_place P pl s.objects in
    let t : State = record s { objects = changed } in
    let d = differ_padded size (words_with P pl s.statics s.objects) (words_with P pl s.statics changed) (part_place P pl s.objects p o k) (words_of place (Long old)) (words_of place (Long n)) laws.ahead
    (laws.differ P pl s.statics s.objects changed p o k (Long old) (Long n) statics at had refl h) refl in
    let head : header_words (kind_of P o) ≡ 1 = ap header_words kind in
    let there : part_place P pl s.objects p o k ≡ place p + first = omega (arith, head, laws.widths o.parts (P.fields c) k alike, means.place c below) in
    subst (λ (a : ℕ). slice_set (slice_set (memory_of P pl size s) (a + 1) (low_word n)) a (high_word n) ≡ memory_of P pl size t) there
    (laws.pairs (memory_of P pl size s) (memory_of P pl size t) (part_place P pl s.objects p o k) (high_word old) (low_word old) (high_word n) (low_word n) d)

-- ---- the pool entry

entry_of : (P : Program) (pl : Places) (op place : ℕ) (o : Operand) (named owner k : ℕ) → o ≡ AField named owner k → SaysOperand P pl op place o → SaysEntry P pl op place (AField named owner k)
entry_of P pl op place o named owner k e h = subst (λ x. SaysOperand P pl op place x) e h

named_in : (P : Program) (pl : Places) (linked : Bool) (m pc named owner k : ℕ) → P.operand m pc ≡ AField named owner k → SaysAll linked P pl → SaysLinked P pl
named_in P pl true m pc named owner k e h = h
named_in P pl false m pc named owner k e h = absurd (names_nothing (sym (h m pc) ∙ e))
  where
    names_nothing : NoOperand ≡ AField named owner k → ⊥
    names_nothing e = cc

first_frame_is : (P : Program) (n : ℕ) (fs : List Frame) (f : Frame) (callers : List Frame) → fs ≡ f ∷ callers → AreFrames P n fs → IsSomeAnd (body_of P f.method) (IsFrame P n f)
first_frame_is P n fs f callers e h = (subst (λ x. AreFrames P n x) e h).0

pool_is : (P : Program) (pl : Places) (m : ℕ) (k : Method) → slice_get P.methods m ≡ Some k → pool_of P pl m ≡ pl.pool k.owner
pool_is P pl m k e = ap (λ o. elim o [ None ↦ 0 | Some k ↦ pl.pool k.owner ]) e

lie_where : (whole old : List ℕ) (there place first second flag : ℕ) → whole ≡ old → there ≡ place → second ≡ flag → LieAt old place (first ∷ second ∷ []) → LieAt whole there (first ∷ flag ∷ [])
lie_where whole old there place first second flag e h q l =
    subst (λ (x : ℕ). LieAt whole there (first ∷ x ∷ [])) q (subst (λ (a : ℕ). LieAt whole a (first ∷ second ∷ [])) (sym h) (subst (λ (ws : List ℕ). LieAt ws place (first ∷ second ∷ [])) (sym e) l))

put_where : (whole old new written : List ℕ) (place high low : ℕ) → whole ≡ old → new ≡ written → slice_set (slice_set old (place + 1) low) place high ≡ written → slice_set (slice_set whole (place + 1) low) place high ≡ new
put_where whole old new written place high low e h w = ap (λ (ws : List ℕ). slice_set (slice_set ws (place + 1) low) place high) e ∙ w ∙ sym h

-- ---- the step

same_top : (f g : Frame) (fs gs : List Frame) → f ∷ fs ≡ g ∷ gs → f ≡ g
same_top f g fs gs e = cc

body_of_top : (P : Program) (pl : Places) (words size : ℕ) (m : machine.MachineState) (s : State) (f : Frame) (callers : List Frame) (st : StandsFor P pl words size m s) → s.frames ≡ f ∷ callers → body_of P f.method ≡ Some st.body
body_of_top P pl words size m s f callers st e = subst (λ (u : Frame). body_of P u.method ≡ Some st.body) (same_top st.top f st.callers callers (sym st.frames ∙ e)) st.is_body

-- what the effect is, with these operands on top
put_effect : (P : Program) (limits : Limits) (s : State) (f : Frame) (next named owner k p : ℕ) (n : ℤ) (rest : List Value) → f.operands ≡ Long n ∷ Ref p ∷ rest
    → effect P limits s f next (PutField named owner k)
    ≡ on (slice_get (P.fields owner) k) (λ d. only_if (suits d (Long n)) (on (slice_get s.objects p) (λ o. only_if (has_class P (kind_of P o) owner) (WritePart p k (Long n) next f.locals rest))))
put_effect P limits s f next named owner k p n rest e =
    ap (λ ops. on_top ops (λ v rest. on (slice_get (P.fields owner) k) (λ d. only_if (suits d v) (on_object s.objects rest (λ p o rest2.
    only_if (has_class P (kind_of P o) owner) (WritePart p k v next f.locals rest2)))))) e

pub long_field_written : ImageLaws → (P : Program) (pl : Places) (words size : ℕ) (m : machine.MachineState) (answer : Option ℕ) (s s' : State) (f : Frame) (callers : List Frame) (i : Instr)
    (next index named owner k p : ℕ) (n : ℤ) (rest : List Value) → IsStep P pl words size m answer s s' → s.mode ≡ Running → s.frames ≡ f ∷ callers → instr_at P f.method f.pc ≡ Some i
    → i.first ≡ pos index → P.operand f.method f.pc ≡ AField named owner k → row_at P f ≡ Some (next, PutField named owner k) → f.operands ≡ Long n ∷ Ref p ∷ rest
    → PutsLong P pl size m s s' f callers next index p n rest
long_field_written laws P pl words size m answer s s' f callers i next index named owner k p n rest h mode frames instr number operand row ops =
    let limits = limits_of P pl words size in
    let well = h.well_formed in
    -- the step is defined
    let goes = sym (step_is P limits answer s f callers (next, PutField named owner k) mode frames row
    ∙ ap (λ e. applied P limits answer s f callers e) (put_effect P limits s f next named owner k p n rest ops)) ∙ h.step in
    let put = WritePart p k (Long n) next f.locals rest in
    let d = on_defined P limits answer s f callers s' (slice_get (P.fields owner) k)
    (λ d. only_if (suits d (Long n)) (on (slice_get s.objects p) (λ o. only_if (has_class P (kind_of P o) owner) put))) goes in
    let w = only_if_defined P limits answer s f callers s' (suits d.0 (Long n)) (on (slice_get s.objects p) (λ o. only_if (has_class P (kind_of P o) owner) put)) d.2 in
    let o = on_defined P limits answer s f callers s' (slice_get s.objects p) (λ o. only_if (has_class P (kind_of P o) owner) put) w.1 in
    let b = only_if_defined P limits answer s f callers s' (has_class P (kind_of P o.0) owner) put o.2 in
    let x = onto_some (written s.objects p k (Long n)) (λ os. Some (with_top (record s { objects = os }) callers (record f { pc = next; locals = f.locals; operands = rest }))) s' b.1 in
    let c = class_is P (kind_of P o.0) owner b.0 in
    let long : d.0 ≡ Numeric LongType = long_suits d.0 n w.0 in
    -- the entry
    let top_body = body_of_top P pl words size m s f callers h.stands frames in
    let body = first_frame_is P (length s.objects) s.frames f callers frames well.frames in
    let method = onto_some (slice_get P.methods f.method) (λ k. k.body) h.stands.body top_body in
    let start = (holds_at (body_of P f.method) h.stands.body (IsFrame P (length s.objects) f) top_body body).start in
    let linked = named_in P pl P.linked f.method f.pc named owner k operand h.says.all in
    let entry = entry_of P pl i.op (pl.pool method.0.owner + 2 * index) (P.operand f.method f.pc) named owner k operand
    (linked.operands f.method f.pc index method.0 h.stands.body i method.1 method.2 start instr number) in
    let flag : entry.second ≡ 1 = holds_at (slice_get (P.fields owner) k) d.0 (λ t. entry.second ≡ bit_of (is_long_type t)) d.1 entry.means.1 ∙ ap (λ t. bit_of (is_long_type t)) long in
    -- the object
    let shape = holds_at (kind_of P o.0) (OfClass c.0) _ c.1 (object_at P (length s.objects) s.objects p o.0 well.objects o.1).shape in
    let v = part_at s.objects x.0 p k o.0 (Long n) o.1 x.1 in
    let wide : is_long v.0 ≡ true = alike_at o.0.parts (P.fields c.0) k v.0 d.0 shape.0 v.1 (entry.means.0.inherited c.0 c.2 ∙ d.1) ∙ ap (λ t. is_long (default t)) long in
    let old = long_is v.0 wide in
    let had = v.1 ∙ ap (λ u. Some u) old.1 in
    -- the memory
    let fixed = lie_padded size (words_with P pl s.statics s.objects) (pl.pool method.0.owner + 2 * index) (entry.first ∷ entry.second ∷ []) laws.ahead
    (laws.fixed P pl s.statics s.objects (pl.pool method.0.owner + 2 * index) (entry.first ∷ entry.second ∷ []) well.statics entry.words) in
    let result = sym (some_same (with_top (record s { objects = x.0 }) callers (record f { pc = next; locals = f.locals; operands = rest })) s' x.2) in
    record {
      first = entry.first;
      entry = lie_where m.port.words (memory_of P pl size s) (pool_of P pl f.method + 2 * index) (pl.pool method.0.owner + 2 * index) entry.first entry.second 1 h.stands.memory
          (ap (λ (a : ℕ). a + 2 * index) (pool_is P pl f.method method.0 method.1)) flag fixed;
      objects = x.0;
      next_state = result;
      memory = put_where m.port.words (memory_of P pl size s) (memory_of P pl size s') (memory_of P pl size (record s { objects = x.0 })) (object_place P pl s.objects p + entry.first) (high_word n) (low_word n)
          h.stands.memory (ap (λ u. memory_of P pl size u) result)
          (long_put laws P pl size s p k entry.first c.0 owner o.0 old.0 n x.0 well.statics o.1 c.1 shape.0 c.2 entry.means.0 had x.1);
    }
