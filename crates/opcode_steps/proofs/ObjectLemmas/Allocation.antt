-- new, newarray and anewarray, from the step to where the machine stands for the next state.
use Rattle.std.proofs.Common.{◌≡◌, ℕ, ◌+◌, ◌%◌, ◌^◌, Bool, true, false, nat_lt, nat_le, List, ◌∷◌, ◌++◌, Option, Some, None, length, map, replicate, if◌then◌else◌, refl, sym, ap, ◌∙◌, subst, arith}
use Rattle.std.specs.Prelude.{slice_get, slice_index, slice_set}
use Rattle.std.specs.List.{sum_by, flat_map}
use Rattle.std.proofs.lemmas.List.{length-set}
use Rattle.std.proofs.lemmas.Option.{none-some}
use Rattle.std.proofs.Math.Nat.{mod-eq_of_lt}
use Rattle.lists.proofs.Lemmas.{holds_at, some_same}
use Rattle.machine_memory.specs.Timing.Port.{padded}
use Rattle.opcodes.specs.Form.{one, UnsignedShort}
use Rattle.opcodes.specs.Row as opcodes
use Rattle.opcodes.specs.Reading.{plain_instr}
use Rattle.micro_sketch.specs.Sketch.{Sketch}
use Rattle.micro_sketch.specs.Row.{words_of}
use Rattle.micro_sketch.specs.Rows.{Makes}
use Rattle.bytecode_model.specs.Types.{Kind, OfClass, OfNumbers, OfReferences, default}
use Rattle.bytecode_model.specs.State.{Object, Frame, State}
use Rattle.bytecode_model.specs.Program.{Program, Limits, Operand, NoOperand, AnInt, ALong, AString, AStatic, AField, AMethod, AType, kind_of, type_number}
use Rattle.bytecode_model.specs.Rows.{Row, New}
use Rattle.bytecode_model.specs.Sizes.{value_words, header_words, object_words, made_words}
use Rattle.bytecode_model.specs.Table.{row_of}
use Rattle.bytecode_model.specs.Effects.{Effect, Make, on, only_if, fault, allocate, OutOfMemoryError}
use Rattle.bytecode_model.specs.Steps.{applied}
use Rattle.image_facts.specs.Words.{length_words, words_of as value_image, declared_words}
use Rattle.image_facts.specs.Says.{Means, instance_words}
use Rattle.machine_stands.specs.StandsFor.{limits_of}
use Rattle.machine_stands.specs.Reading.{operands_of}
use Rattle.opcode_steps.proofs.ObjectLemmas.Raising.{MakesRaise}
use Rattle.opcode_steps.proofs.ObjectLemmas.TypeRows.{raising}
use Rattle.opcode_steps.proofs.ObjectLemmas.Types.{type_at, instance_read}
use Rattle.opcode_steps.proofs.ObjectLemmas.Scenes.{StateLaws, Here, Line, Comes, line_of, code, instr, x, place, next, effect_of, says_linked, shows, at_entry, comes_to_raise, entry_read}
use Rattle.opcode_steps.proofs.ObjectLemmas.TypeTests.{a_type_is_named}
use Rattle.opcode_steps.proofs.ObjectLemmas.Made.{AreZeros, defaults_are, default_zeros, one_written}
use Rattle.opcode_steps.proofs.ObjectLemmas.Making.{MakingLaws, at_most, more_than, end, heap_is, memory_end_is, whole, whole_ends, image, room, top_fits, makes_object}
use Rattle.opcode_steps.proofs.ObjectLemmas.MakingRows.{heap, memory_end, named_type, instance_end, instance_made, instance_fits, instance_fails}

-- ---- what follows where an effect gives a next state

pub on_defined : (P : Program) (limits : Limits) (answer : Option ℕ) (s : State) (f : Frame) (callers : List Frame) (t : State) {A : Type 0} (o : Option A) (go : A → Effect) → applied P limits answer s f callers (on o go) ≡ Some t
    → (y : A) × (o ≡ Some y) × (on o go ≡ go y)
on_defined P limits answer s f callers t None go h = absurd (none-some t h)
on_defined P limits answer s f callers t (Some y) go h = (y, refl, refl)

only_if_defined : (P : Program) (limits : Limits) (answer : Option ℕ) (s : State) (f : Frame) (callers : List Frame) (t : State) (b : Bool) (e : Effect) → applied P limits answer s f callers (only_if b e) ≡ Some t
    → (b ≡ true) × (only_if b e ≡ e)
only_if_defined P limits answer s f callers t true e h = (refl, refl)
only_if_defined P limits answer s f callers t false e h = absurd (none-some t h)

-- ---- new

new_form : operands_of (opcodes.row_of 187).form ≡ Some (one UnsignedShort)
unfolding opcodes.row_of
new_form = refl

new_names : (bytes : List ℕ) (pc : ℕ) (o : Operand) (r : Row) → row_of bytes (plain_instr 187 bytes pc (one UnsignedShort)) o ≡ Some r → (k : ℕ) × (o ≡ AType (OfClass k)) × (r ≡ New k)
unfolding row_of
new_names bytes pc NoOperand r h = absurd (none-some r h)
new_names bytes pc (AnInt n) r h = absurd (none-some r h)
new_names bytes pc (ALong n) r h = absurd (none-some r h)
new_names bytes pc (AString p) r h = absurd (none-some r h)
new_names bytes pc (AStatic f) r h = absurd (none-some r h)
new_names bytes pc (AField named owner k) r h = absurd (none-some r h)
new_names bytes pc (AMethod named t) r h = absurd (none-some r h)
new_names bytes pc (AType (OfNumbers a)) r h = absurd (none-some r h)
new_names bytes pc (AType (OfReferences k)) r h = absurd (none-some r h)
new_names bytes pc (AType (OfClass k)) r h = (k, refl, sym (some_same (New k) r h))

-- an instance of a class: how many words it has, and which
pub record IsInstance (P : Program) (type place : ℕ → ℕ) (q : Object) (count : ℕ) : Type 0 where
  pub words : object_words P q ≡ 1 + count
  pub image : type q.kind ∷ (length_words (kind_of P q) (length q.parts) ++ flat_map (value_image place) q.parts) ≡ type q.kind ∷ replicate count 0

instance_is : (P : Program) (type place : ℕ → ℕ) (q : Object) (class count : ℕ) → kind_of P q ≡ Some (OfClass class) → AreZeros place q.parts count → IsInstance P type place q count
instance_is P type place q class count kind zeros = record {
  words = ap (λ (k : Option Kind). header_words k + sum_by value_words q.parts) kind ∙ ap (λ (i : ℕ). 1 + i) zeros.sum;
  image = ap (λ (k : Option Kind). type q.kind ∷ (length_words k (length q.parts) ++ flat_map (value_image place) q.parts)) kind ∙ ap (λ (ws : List ℕ). type q.kind ∷ ws) zeros.words;
}

module _ (laws : StateLaws) (more : MakingLaws) (c : Here 187 (one UnsignedShort) 2) (class t : ℕ) where
  abbrev made_instance : Object
  made_instance = record { kind = t; parts = map default (c.P.fields class) }

  abbrev count : ℕ
  count = sum_by declared_words (c.P.fields class)

  abbrev limit : ℕ
  limit = (limits_of c.P c.pl c.n c.size).heap

  abbrev making : Bool → Effect
  making b = if b then Make made_instance (next laws c) c.h.stands.top.locals c.h.stands.top.operands else fault OutOfMemoryError

  abbrev has_room : Bool
  has_room = nat_le (made_words c.P c.s + object_words c.P made_instance) limit

  module _ (operand : c.P.operand c.h.stands.top.method c.h.stands.top.pc ≡ AType (OfClass class)) (concrete : c.P.is_concrete class ≡ true) (number : type_number c.P (OfClass class) ≡ Some t)
      (does : effect_of laws c c.row ≡ making has_room) where
    kind : slice_get c.P.types t ≡ Some (OfClass class)
    kind = type_at c.P (OfClass class) t number

    is : IsInstance c.P c.pl.type (place laws c) made_instance count
    is = instance_is c.P c.pl.type (place laws c) made_instance class count kind (default_zeros (place laws c) (c.P.fields class))

    type_is : named_type (x laws c) ≡ c.pl.type t
    type_is =
        let entry = entry_read laws c (omega arith) refl (a_type_is_named (OfClass class) (c.P.operand c.h.stands.top.method c.h.stands.top.pc) operand) in
        let means = subst (λ (o : Operand). Means c.P c.pl (instr laws c).op o entry.first entry.second) operand entry.means in
        entry.first_is ∙ holds_at (type_number c.P (OfClass class)) t (λ (u : ℕ). entry.first ≡ c.pl.type u) number means.0

    end_is : instance_end (x laws c) ≡ end laws more c + object_words c.P made_instance
    end_is =
        let read = instance_read laws.words c.P c.pl c.n c.size c.m c.s c.h.stands c.h.well_formed (says_linked laws c) t (OfClass class) kind in
        let first = read.0 in
        let small = c.h.stands.sizes.small in
        let most = c.h.stands.sizes.most in
        let within = (room laws more c 0).within in
        let words : instance_words c.P (OfClass class) ≡ 1 + count = ap (λ (b : Bool). if b then 0 else 1 + count) ((says_linked laws c).concrete class concrete) in
        let few = read.2 in
        let takes = is.words in
        ap (λ (k : ℕ). (slice_index c.m.port.words ((k + 1) % 2 ^ 32) + heap (x laws c)) % 2 ^ 32) type_is
        ∙ ap (λ (k : ℕ). (slice_index c.m.port.words k + heap (x laws c)) % 2 ^ 32) (mod-eq_of_lt {n = c.pl.type t + 1} {m = 2 ^ 32} (omega (arith, first, small)))
        ∙ ap (λ (k : ℕ). (k + heap (x laws c)) % 2 ^ 32) (read.1 ∙ words)
        ∙ ap (λ (k : ℕ). (1 + count + k) % 2 ^ 32) (heap_is laws more c)
        ∙ omega (arith, few, words, within, most, takes)

    fits : has_room ≡ true → Comes c
    fits roomy =
        let room_is = (room laws more c (object_words c.P made_instance)).fits roomy in
        let long = whole_ends laws more c in
        let takes = is.words in
        let far : nat_lt (memory_end (x laws c)) (instance_end (x laws c)) ≡ false =
        at_most (instance_end (x laws c)) (memory_end (x laws c)) (omega (arith, end_is, memory_end_is laws more c, room_is)) in
        let written : slice_set (x laws c).memory (heap (x laws c)) (named_type (x laws c)) ≡ padded (whole laws more c ++ image laws more c made_instance) c.size =
        ap (λ (ws : List ℕ). slice_set ws (heap (x laws c)) (named_type (x laws c))) c.h.stands.memory
        ∙ ap (λ (k : ℕ). slice_set (padded (whole laws more c) c.size) k (named_type (x laws c))) (heap_is laws more c ∙ sym long)
        ∙ ap (λ (k : ℕ). slice_set (padded (whole laws more c) c.size) (length (whole laws more c)) k) type_is
        ∙ one_written (whole laws more c) c.size (c.pl.type t) count (omega (arith, long, takes, room_is))
        ∙ ap (λ (ws : List ℕ). padded (whole laws more c ++ ws) c.size) (sym is.image) in
        makes_object laws more c made_instance c.h.stands.top.operands c.h.stands.words.operands (words_of (x laws c)) (slice_set (x laws c).memory (heap (x laws c)) (named_type (x laws c))) (instance_end (x laws c))
        (does ∙ ap making roomy) (defaults_are (length c.s.objects) (c.P.fields class)) c.h.stands.are_frames.0.operands (top_fits laws more c).operand_values (shows laws c).words end_is written
        (length-set (x laws c).memory (heap (x laws c)) (named_type (x laws c)))
        (at_entry laws c (λ (y : Sketch). nat_lt (memory_end y) (instance_end y) ≡ false → Makes (instance_made y) y) (instance_fits (x laws c)) far)

    fails : has_room ≡ false → Comes c
    fails full =
        let room_is = (room laws more c (object_words c.P made_instance)).fails full in
        let far : nat_lt (memory_end (x laws c)) (instance_end (x laws c)) ≡ true =
        more_than (instance_end (x laws c)) (memory_end (x laws c)) (omega (arith, end_is, memory_end_is laws more c, room_is)) in
        comes_to_raise laws c OutOfMemoryError 2 c.h.stands.words.operands (words_of (x laws c)) (does ∙ ap making full)
        (at_entry laws c (λ (y : Sketch). nat_lt (memory_end y) (instance_end y) ≡ true → MakesRaise (raising (words_of y) 2 7 y) y) (instance_fails (x laws c)) far) (omega arith) (shows laws c).words (shows laws c).depth

    instance_comes : Comes c
    instance_comes = by has_room refl
      where
        by : (b : Bool) → has_room ≡ b → Comes c
        by true e = fits e
        by false e = fails e

new_comes : (laws : StateLaws) → MakingLaws → (c : Here 187 (one UnsignedShort) 2) → Comes c
new_comes laws more c =
    let st = c.h.stands in
    let limits = limits_of c.P c.pl c.n c.size in
    let named = new_names (code laws c) st.top.pc (c.P.operand st.top.method st.top.pc) c.row c.at.is_row in
    let class = named.0 in
    let whole_effect = allocate c.P limits c.s (OfClass class) (map default (c.P.fields class)) (next laws c) st.top.locals st.top.operands in
    let step = subst (λ (r : Row). applied c.P limits c.answer c.s st.top st.callers (effect_of laws c r) ≡ Some c.t) named.2 c.at.step in
    let only = only_if_defined c.P limits c.answer c.s st.top st.callers c.t (c.P.is_concrete class) whole_effect step in
    let allocated : applied c.P limits c.answer c.s st.top st.callers whole_effect ≡ Some c.t = subst (λ (e : Effect). applied c.P limits c.answer c.s st.top st.callers e ≡ Some c.t) only.1 step in
    let type = on_defined c.P limits c.answer c.s st.top st.callers c.t (type_number c.P (OfClass class)) (λ t. making laws more c class t (has_room laws more c class t)) allocated in
    let is : effect_of laws c c.row ≡ whole_effect = subst (λ (r : Row). effect_of laws c r ≡ whole_effect) (sym named.2) only.1 in
    let made : effect_of laws c c.row ≡ making laws more c class type.0 (has_room laws more c class type.0) = subst (λ (e : Effect). effect_of laws c c.row ≡ e) type.2 is in
    instance_comes laws more c class type.0 named.1 only.0 type.1 made

pub new : StateLaws → MakingLaws → Line 187
new laws more = line_of laws 187 (one UnsignedShort) 2 new_form refl (new_comes laws more)
