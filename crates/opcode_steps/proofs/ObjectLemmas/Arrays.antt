-- newarray and anewarray, from the step to where the machine stands for the next state.
use Rattle.std.proofs.Common.{◌≡◌, ℕ, suc, ◌+◌, ◌-◌, ◌*◌, ◌%◌, ◌^◌, ◌<◌, ◌≤◌, ◌==◌, ◌&&◌, ◌||◌, Bool, true, false, nat_lt, nat_le, ℤ, pos, negsuc, List, [], ◌∷◌, ◌++◌, Option, Some, None, length, replicate, bit_xor, if◌then◌else◌, refl, sym, ap, ◌∙◌, subst, arith, eqb-true, eq-eqb}
use Rattle.std.specs.Prelude.{slice_index, slice_set}
use Rattle.std.specs.Int.Bits.{xor_self, xor_assoc, xor_zero_l, xor_zero_r}
use Rattle.std.specs.List.{sum_by, list_any, flat_map}
use Rattle.std.proofs.lemmas.Bool.Decides.{nat_tests}
use Rattle.std.proofs.lemmas.List.{length-set, length-replicate}
use Rattle.std.proofs.lemmas.Option.{none-some}
use Rattle.std.proofs.Math.Nat.{mod-eq_of_lt}
use Rattle.lists.proofs.Lemmas.{some_same}
use Rattle.machine_memory.specs.Timing.Port.{padded}
use Rattle.opcodes.specs.Bytes.{u1}
use Rattle.opcodes.specs.Form.{Operands, one, UnsignedByte, UnsignedShort}
use Rattle.opcodes.specs.Row as opcodes
use Rattle.opcodes.specs.Reading.{plain_instr}
use Rattle.jop_core.specs.Operations.{signed_lt}
use Rattle.micro_sketch.specs.Sketch.{Sketch, abyte, same_bool}
use Rattle.micro_sketch.specs.Rows.{Makes}
use Rattle.bytecode_model.specs.declared.Value.{Value}
use Rattle.bytecode_model.specs.declared.Value.TheVariants.{Int, Long, Ref, Null, Unset}
use Rattle.bytecode_model.specs.Types.{Kind, OfNumbers, OfReferences, IntType, LongType, zero_of, element_type, t_boolean, t_char, t_byte, t_short, t_int, t_long}
use Rattle.bytecode_model.specs.State.{Object, Frame, State}
use Rattle.bytecode_model.specs.Program.{Program, Limits, Operand, NoOperand, AnInt, ALong, AString, AStatic, AField, AMethod, AType, kind_of, type_number}
use Rattle.bytecode_model.specs.Rows.{Row, NewNumbers, NewReferences}
use Rattle.bytecode_model.specs.Sizes.{value_words, header_words, object_words, made_words}
use Rattle.bytecode_model.specs.Table.{row_of}
use Rattle.bytecode_model.specs.Effects.{Effect, Make, on_size, fault, allocate, NegativeArraySizeException, OutOfMemoryError}
use Rattle.bytecode_model.specs.Steps.{applied}
use Rattle.bytecode_model.specs.WellFormed.{AreValues}
use Rattle.image_facts.specs.Words.{length_words, words_of as value_image}
use Rattle.image_facts.specs.Says.{Means, header_words as first_words}
use Rattle.machine_stands.specs.StandsFor.{limits_of}
use Rattle.machine_stands.specs.Reading.{operands_of}
use Rattle.opcode_steps.proofs.ObjectLemmas.Raising.{MakesRaise}
use Rattle.opcode_steps.proofs.ObjectLemmas.TypeRows.{raising}
use Rattle.opcode_steps.proofs.ObjectLemmas.Types.{if_there, type_at}
use Rattle.opcode_steps.proofs.ObjectLemmas.Scenes.{StateLaws, Here, Line, Comes, line_of, code, instr, x, place, next, effect_of, says_linked, shows, at_entry, comes_to_raise, topped, Topped, entry_read}
use Rattle.opcode_steps.proofs.ObjectLemmas.TypeTests.{a_type_is_named}
use Rattle.opcode_steps.proofs.ObjectLemmas.Made.{AreZeros, zeros_are, nulls_are, int_zeros, long_zeros, null_zeros, two_written}
use Rattle.opcode_steps.proofs.ObjectLemmas.Making.{MakingLaws, at_most, more_than, end, heap_is, memory_end_is, whole, whole_ends, image, room, top_fits, makes_object}
use Rattle.opcode_steps.proofs.ObjectLemmas.MakingRows.{heap, memory_end, below, is_negative, is_over, ends_behind, array_end, array_memory, array_made, array_type, coded_type, type_code, is_coded_long, ArrayRows, reference_rows, number_rows, long_rows}
use Rattle.opcode_steps.proofs.ObjectLemmas.Allocation.{on_defined}

-- ---- lengths

not_negative : (k : ℕ) → k < 2 ^ 31 → signed_lt k 0 ≡ false
not_negative k h = let a : (0 + 2 ^ 31) % 2 ^ 32 ≤ (k + 2 ^ 31) % 2 ^ 32 = omega (arith, h) in grind (arith, nat_tests, a)

negative : (k : ℕ) → k < 2 ^ 31 → signed_lt (2 ^ 32 - suc k) 0 ≡ true
negative k h = let a : (2 ^ 32 - suc k + 2 ^ 31) % 2 ^ 32 < (0 + 2 ^ 31) % 2 ^ 32 = omega (arith, h) in grind (arith, nat_tests, a)

-- an array: its words, where so many zeros are its elements
pub record IsArray (P : Program) (type place : ℕ → ℕ) (q : Object) (size count : ℕ) : Type 0 where
  pub words : object_words P q ≡ 2 + count
  pub image : type q.kind ∷ (length_words (kind_of P q) (length q.parts) ++ flat_map (value_image place) q.parts) ≡ type q.kind ∷ size ∷ replicate count 0

array_is : (P : Program) (type place : ℕ → ℕ) (q : Object) (kind : Kind) (size count : ℕ) → header_words (Some kind) ≡ 2 → ((n : ℕ) → length_words (Some kind) n ≡ n ∷ []) → kind_of P q ≡ Some kind → length q.parts ≡ size
    → AreZeros place q.parts count → IsArray P type place q size count
array_is P type place q kind size count header lengths is long zeros = record {
  words = ap (λ (k : Option Kind). header_words k + sum_by value_words q.parts) is ∙ ap (λ (i : ℕ). i + sum_by value_words q.parts) header ∙ ap (λ (i : ℕ). 2 + i) zeros.sum;
  image = ap (λ (k : Option Kind). type q.kind ∷ (length_words k (length q.parts) ++ flat_map (value_image place) q.parts)) is
      ∙ ap (λ (ws : List ℕ). type q.kind ∷ (ws ++ flat_map (value_image place) q.parts)) (lengths (length q.parts))
      ∙ ap (λ (n : ℕ). type q.kind ∷ n ∷ flat_map (value_image place) q.parts) long
      ∙ ap (λ (ws : List ℕ). type q.kind ∷ size ∷ ws) zeros.words;
}

-- ---- at an opcode that makes an array

-- its elements, and what its type is
pub record Elements (P : Program) (objects : ℕ) (place : ℕ → ℕ) (shift size : ℕ) (parts : List Value) (count : ℕ) : Type 0 where
  pub values : AreValues objects parts
  pub long : length parts ≡ size
  pub zeros : AreZeros place parts count
  pub many : size ≤ count
  pub shifted : size ≤ 2 ^ 24 → (size * 2 ^ shift) % 2 ^ 32 ≡ count
  pub few : size ≤ 2 ^ 24 → count ≤ 2 ^ 25

module _ (laws : StateLaws) (more : MakingLaws) {op : ℕ} {o : Operands} {j : ℕ} (c : Here op o j) (shift : ℕ) (type : Sketch → ℕ) (condition : Sketch → Bool) (rows : ArrayRows op j shift type condition) (holds : condition (x laws c) ≡ true) where
  abbrev its_frame : (rest : List Value) → (w : ℤ) → Type 0
  its_frame rest w = c.h.stands.top.operands ≡ Int w ∷ rest

  length_on_top : (w : ℤ) (rest : List Value) → its_frame rest w → Topped laws c (Int w) rest
  length_on_top w rest ops = topped laws c (Int w) rest refl ops

  operands_fit : (w : ℤ) (rest : List Value) → its_frame rest w → AreValues (length c.s.objects) (Int w ∷ rest)
  operands_fit w rest ops = subst (λ (vs : List Value). AreValues (length c.s.objects) vs) ops (top_fits laws more c).operand_values

  pub negative_comes : (k : ℕ) (rest : List Value) → its_frame rest (negsuc k) → effect_of laws c c.row ≡ fault NegativeArraySizeException → Comes c
  negative_comes k rest ops does =
      let top = length_on_top (negsuc k) rest ops in
      let fit = (operands_fit (negsuc k) rest ops).0.sfits in
      let is : is_negative (x laws c) ≡ true = ap (λ (w : ℕ). signed_lt w 0) top.is ∙ negative k (omega (arith, fit)) in
      comes_to_raise laws c NegativeArraySizeException j top.others (below (x laws c)) does
      (at_entry laws c (λ (y : Sketch). condition y ≡ true → is_negative y ≡ true → MakesRaise (raising (below y) j 5 y) y) (rows.negative (x laws c)) holds is) (omega arith) top.below top.count

  module _ (kind : Kind) (t size count : ℕ) (parts rest : List Value) (header : header_words (Some kind) ≡ 2) (lengths : (n : ℕ) → length_words (Some kind) n ≡ n ∷ []) (number : type_number c.P kind ≡ Some t)
      (elements : Elements c.P (length c.s.objects) (place laws c) shift size parts count) (ops : its_frame rest (pos size)) (type_is : type (x laws c) ≡ c.pl.type t) where
    abbrev array : Object
    array = record { kind = t; parts = parts }

    abbrev making : Bool → Effect
    making b = if b then Make array (next laws c) c.h.stands.top.locals rest else fault OutOfMemoryError

    abbrev has_room : Bool
    has_room = nat_le (made_words c.P c.s + object_words c.P array) (limits_of c.P c.pl c.n c.size).heap

    is : IsArray c.P c.pl.type (place laws c) array size count
    is = array_is c.P c.pl.type (place laws c) array kind size count header lengths (type_at c.P kind t number) elements.long elements.zeros

    top : Topped laws c (Int (pos size)) rest
    top = length_on_top (pos size) rest ops

    fit : AreValues (length c.s.objects) (Int (pos size) ∷ rest)
    fit = operands_fit (pos size) rest ops

    length_is : (x laws c).top ≡ size
    length_is = top.is

    calm : is_negative (x laws c) ≡ false
    calm = let small = fit.0.sfits in ap (λ (w : ℕ). signed_lt w 0) length_is ∙ not_negative size (omega (arith, small))

    over_is : is_over (x laws c) ≡ nat_lt c.size size
    over_is = ap (λ (k : ℕ). nat_lt k (x laws c).top) (memory_end_is laws more c) ∙ ap (λ (k : ℕ). nat_lt c.size k) length_is

    end_is : size ≤ c.size → array_end shift (x laws c) ≡ end laws more c + object_words c.P array
    end_is short =
        let most = c.h.stands.sizes.most in
        let within = (room laws more c 0).within in
        let takes = is.words in
        let small : size ≤ 2 ^ 24 = omega (arith, short, most) in
        let shifted = elements.shifted small in
        let few = elements.few small in
        ap (λ (k : ℕ). ((heap (x laws c) + 2) % 2 ^ 32 + (k * 2 ^ shift) % 2 ^ 32) % 2 ^ 32) length_is
        ∙ ap (λ (k : ℕ). ((heap (x laws c) + 2) % 2 ^ 32 + k) % 2 ^ 32) shifted
        ∙ ap (λ (k : ℕ). ((k + 2) % 2 ^ 32 + count) % 2 ^ 32) (heap_is laws more c)
        ∙ omega (arith, few, within, most, takes)

    over : effect_of laws c c.row ≡ making has_room → c.size < size → Comes c
    over does h =
        let takes = is.words in
        let many = elements.many in
        let full : has_room ≡ false = by has_room refl in
        comes_to_raise laws c OutOfMemoryError j top.others (below (x laws c)) (does ∙ ap making full)
        (at_entry laws c (λ (y : Sketch). condition y ≡ true → is_negative y ≡ false → is_over y ≡ true → MakesRaise (raising (below y) j 7 y) y) (rows.over (x laws c)) holds calm (over_is ∙ more_than size c.size h)) (omega arith)
        top.below top.count
      where
        by : (b : Bool) → has_room ≡ b → has_room ≡ false
        by true e = let fits = (room laws more c (object_words c.P array)).fits e in absurd (omega (arith, fits, is.words, elements.many, h))
        by false e = e

    fails : effect_of laws c c.row ≡ making has_room → size ≤ c.size → has_room ≡ false → Comes c
    fails does short full =
        let room_is = (room laws more c (object_words c.P array)).fails full in
        let far : ends_behind shift (x laws c) ≡ true = more_than (array_end shift (x laws c)) (memory_end (x laws c)) (omega (arith, end_is short, memory_end_is laws more c, room_is)) in
        comes_to_raise laws c OutOfMemoryError j top.others (below (x laws c)) (does ∙ ap making full)
        (at_entry laws c (λ (y : Sketch). condition y ≡ true → is_negative y ≡ false → is_over y ≡ false → ends_behind shift y ≡ true → MakesRaise (raising (below y) j 7 y) y) (rows.fails (x laws c)) holds calm
        (over_is ∙ at_most size c.size short) far) (omega arith) top.below top.count

    written : has_room ≡ true → array_memory (type (x laws c)) (x laws c) ≡ padded (whole laws more c ++ image laws more c array) c.size
    written roomy =
        let room_is = (room laws more c (object_words c.P array)).fits roomy in
        let long = whole_ends laws more c in
        let takes = is.words in
        let small = c.h.stands.sizes.small in
        let from : heap (x laws c) ≡ length (whole laws more c) = heap_is laws more c ∙ sym long in
        let memory = padded (whole laws more c) c.size in
        let place = length (whole laws more c) in
        ap (λ (ws : List ℕ). slice_set (slice_set ws (heap (x laws c)) (type (x laws c))) ((heap (x laws c) + 1) % 2 ^ 32) (x laws c).top) c.h.stands.memory
        ∙ ap (λ (k : ℕ). slice_set (slice_set memory k (type (x laws c))) ((k + 1) % 2 ^ 32) (x laws c).top) from
        ∙ ap (λ (k : ℕ). slice_set (slice_set memory place k) ((place + 1) % 2 ^ 32) (x laws c).top) type_is
        ∙ ap (λ (k : ℕ). slice_set (slice_set memory place (c.pl.type t)) k (x laws c).top) (mod-eq_of_lt {n = place + 1} {m = 2 ^ 32} (omega (arith, long, takes, room_is, small)))
        ∙ ap (λ (k : ℕ). slice_set (slice_set memory place (c.pl.type t)) (place + 1) k) length_is
        ∙ two_written (whole laws more c) c.size (c.pl.type t) size count (omega (arith, long, takes, room_is))
        ∙ ap (λ (ws : List ℕ). padded (whole laws more c ++ ws) c.size) (sym is.image)

    fits : effect_of laws c c.row ≡ making has_room → size ≤ c.size → has_room ≡ true → Comes c
    fits does short roomy =
        let room_is = (room laws more c (object_words c.P array)).fits roomy in
        let far : ends_behind shift (x laws c) ≡ false = at_most (array_end shift (x laws c)) (memory_end (x laws c)) (omega (arith, end_is short, memory_end_is laws more c, room_is)) in
        let once = slice_set (x laws c).memory (heap (x laws c)) (type (x laws c)) in
        makes_object laws more c array rest top.others (below (x laws c)) (array_memory (type (x laws c)) (x laws c)) (array_end shift (x laws c)) (does ∙ ap making roomy) elements.values top.stay fit.1 top.below (end_is short)
        (written roomy) (length-set once ((heap (x laws c) + 1) % 2 ^ 32) (x laws c).top ∙ length-set (x laws c).memory (heap (x laws c)) (type (x laws c)))
        (at_entry laws c (λ (y : Sketch). condition y ≡ true → is_negative y ≡ false → is_over y ≡ false → ends_behind shift y ≡ false → Makes (array_made (type y) shift j y) y) (rows.makes_array (x laws c)) holds calm
        (over_is ∙ at_most size c.size short) far)

    pub array_comes : effect_of laws c c.row ≡ making has_room → Comes c
    array_comes does = by (nat_lt c.size size) refl has_room refl
      where
        lies_behind : nat_lt c.size size ≡ true → c.size < size
        lies_behind e = grind (arith, nat_tests, e)

        lies_within : nat_lt c.size size ≡ false → size ≤ c.size
        lies_within e = grind (arith, nat_tests, e)

        by : (a : Bool) → nat_lt c.size size ≡ a → (b : Bool) → has_room ≡ b → Comes c
        by true e b f = over does (lies_behind e)
        by false e true f = fits does (lies_within e) f
        by false e false f = fails does (lies_within e) f

-- ---- what the rows take

-- the length is on top: it is negative, or the array is of a type of the program
data Sized (P : Program) (ops : List Value) (go : ℕ → List Value → Effect) : Type 0 where
  Negative : (k : ℕ) (rest : List Value) → ops ≡ Int (negsuc k) ∷ rest → on_size ops go ≡ fault NegativeArraySizeException → Sized P ops go
  Natural : (size : ℕ) (rest : List Value) → ops ≡ Int (pos size) ∷ rest → on_size ops go ≡ go size rest → Sized P ops go

size_cases : (P : Program) (limits : Limits) (answer : Option ℕ) (s : State) (f : Frame) (callers : List Frame) (t : State) (ops : List Value) (go : ℕ → List Value → Effect) → applied P limits answer s f callers (on_size ops go) ≡ Some t → Sized P ops go
size_cases P limits answer s f callers t [] go h = absurd (none-some t h)
size_cases P limits answer s f callers t (Long n ∷ rest) go h = absurd (none-some t h)
size_cases P limits answer s f callers t (Ref p ∷ rest) go h = absurd (none-some t h)
size_cases P limits answer s f callers t (Null ∷ rest) go h = absurd (none-some t h)
size_cases P limits answer s f callers t (Unset ∷ rest) go h = absurd (none-some t h)
size_cases P limits answer s f callers t (Int (negsuc k) ∷ rest) go h = Negative k rest refl refl
size_cases P limits answer s f callers t (Int (pos size) ∷ rest) go h = Natural size rest refl refl

int_elements : (P : Program) (objects : ℕ) (place : ℕ → ℕ) (size : ℕ) → Elements P objects place 0 size (replicate size (Int (pos 0))) size
int_elements P objects place size = record {
  values = zeros_are objects IntType size;
  long = length-replicate {A = Value} size (Int (pos 0));
  zeros = int_zeros place size;
  many = omega arith;
  shifted = λ h. omega (arith, h);
  few = λ h. omega (arith, h);
}

null_elements : (P : Program) (objects : ℕ) (place : ℕ → ℕ) (size : ℕ) → Elements P objects place 0 size (replicate size Null) size
null_elements P objects place size = record {
  values = nulls_are objects size;
  long = length-replicate {A = Value} size Null;
  zeros = null_zeros place size;
  many = omega arith;
  shifted = λ h. omega (arith, h);
  few = λ h. omega (arith, h);
}

long_elements : (P : Program) (objects : ℕ) (place : ℕ → ℕ) (size : ℕ) → Elements P objects place 1 size (replicate size (Long (pos 0))) (size * 2)
long_elements P objects place size = record {
  values = zeros_are objects LongType size;
  long = length-replicate {A = Value} size (Long (pos 0));
  zeros = long_zeros place size;
  many = omega arith;
  shifted = λ h. omega (arith, h);
  few = λ h. omega (arith, h);
}

-- ---- anewarray

references_form : operands_of (opcodes.row_of 189).form ≡ Some (one UnsignedShort)
unfolding opcodes.row_of
references_form = refl

references_name : (bytes : List ℕ) (pc : ℕ) (o : Operand) (r : Row) → row_of bytes (plain_instr 189 bytes pc (one UnsignedShort)) o ≡ Some r → (k : Kind) × (o ≡ AType k) × (r ≡ NewReferences k)
unfolding row_of
references_name bytes pc NoOperand r h = absurd (none-some r h)
references_name bytes pc (AnInt n) r h = absurd (none-some r h)
references_name bytes pc (ALong n) r h = absurd (none-some r h)
references_name bytes pc (AString p) r h = absurd (none-some r h)
references_name bytes pc (AStatic f) r h = absurd (none-some r h)
references_name bytes pc (AField named owner k) r h = absurd (none-some r h)
references_name bytes pc (AMethod named t) r h = absurd (none-some r h)
references_name bytes pc (AType k) r h = (k, refl, sym (some_same (NewReferences k) r h))

module _ (laws : StateLaws) (more : MakingLaws) (c : Here 189 (one UnsignedShort) 2) where
  references_type : (k : Kind) (t : ℕ) → c.P.operand c.h.stands.top.method c.h.stands.top.pc ≡ AType k → type_number c.P (OfReferences k) ≡ Some t → array_type (x laws c) ≡ c.pl.type t
  references_type k t operand number =
      let entry = entry_read laws c (omega arith) refl (a_type_is_named k (c.P.operand c.h.stands.top.method c.h.stands.top.pc) operand) in
      let means = subst (λ (o : Operand). Means c.P c.pl (instr laws c).op o entry.first entry.second) operand entry.means in
      entry.second_is ∙ if_there (type_number c.P (OfReferences k)) t (λ (u : ℕ). entry.second ≡ c.pl.type u) number means.1

  abbrev references_go : Kind → ℕ → List Value → Effect
  references_go k size rest = allocate c.P (limits_of c.P c.pl c.n c.size) c.s (OfReferences k) (replicate size Null) (next laws c) c.h.stands.top.locals rest

  references_sized : (k : Kind) → c.P.operand c.h.stands.top.method c.h.stands.top.pc ≡ AType k → effect_of laws c c.row ≡ on_size c.h.stands.top.operands (references_go k) → Sized c.P c.h.stands.top.operands (references_go k) → Comes c
  references_sized k operand does (Negative n rest ops is) = negative_comes laws more c 0 array_type (λ y. true) reference_rows refl n rest ops (does ∙ is)
  references_sized k operand does (Natural size rest ops is) =
      let st = c.h.stands in
      let limits = limits_of c.P c.pl c.n c.size in
      let effect_is : effect_of laws c c.row ≡ references_go k size rest = does ∙ is in
      let step = subst (λ (e : Effect). applied c.P limits c.answer c.s st.top st.callers e ≡ Some c.t) effect_is c.at.step in
      let parts = replicate size Null in
      let type = on_defined c.P limits c.answer c.s st.top st.callers c.t (type_number c.P (OfReferences k)) (λ (t : ℕ). if nat_le (made_words c.P c.s + object_words c.P (record { kind = t; parts = parts })) limits.heap then Make (record { kind = t; parts = parts }) (next laws c) st.top.locals rest else fault OutOfMemoryError) step in
      array_comes laws more c 0 array_type (λ y. true) reference_rows refl (OfReferences k) type.0 size size parts rest refl (λ n. refl) type.1 (null_elements c.P (length c.s.objects) (place laws c) size) ops
      (references_type k type.0 operand type.1) (effect_is ∙ type.2)

  references_come : Comes c
  references_come =
      let st = c.h.stands in
      let limits = limits_of c.P c.pl c.n c.size in
      let named = references_name (code laws c) st.top.pc (c.P.operand st.top.method st.top.pc) c.row c.at.is_row in
      let step = subst (λ (r : Row). applied c.P limits c.answer c.s st.top st.callers (effect_of laws c r) ≡ Some c.t) named.2 c.at.step in
      references_sized named.0 named.1 (ap (effect_of laws c) named.2) (size_cases c.P limits c.answer c.s st.top st.callers c.t st.top.operands (references_go named.0) step)

pub anewarray : StateLaws → MakingLaws → Line 189
anewarray laws more = line_of laws 189 (one UnsignedShort) 2 references_form refl (references_come laws more)

-- ---- newarray

numbers_form : operands_of (opcodes.row_of 188).form ≡ Some (one UnsignedByte)
unfolding opcodes.row_of
numbers_form = refl

abbrev codes : List ℕ
codes = t_boolean ∷ t_char ∷ t_byte ∷ t_short ∷ t_int ∷ t_long ∷ []

coded : (a : ℕ) (r : Row) (b : Bool) → (if b then Some (NewNumbers a) else None) ≡ Some r → (b ≡ true) × (r ≡ NewNumbers a)
coded a r true h = (refl, sym (some_same (NewNumbers a) r h))
coded a r false h = absurd (none-some r h)

numbers_name : (bytes : List ℕ) (pc : ℕ) (o : Operand) (r : Row) → row_of bytes (plain_instr 188 bytes pc (one UnsignedByte)) o ≡ Some r → (list_any (λ (a : ℕ). a == u1 bytes (pc + 1)) codes ≡ true) × (r ≡ NewNumbers (u1 bytes (pc + 1)))
unfolding row_of
numbers_name bytes pc o r h = coded (u1 bytes (pc + 1)) r (list_any (λ (a : ℕ). a == u1 bytes (pc + 1)) codes) h

-- a code is from 4 to 11
code_within : (a : ℕ) → list_any (λ (k : ℕ). k == a) codes ≡ true → (4 ≤ a) × (a < 12)
code_within a h = by (t_boolean == a) refl (t_char == a) refl (t_byte == a) refl (t_short == a) refl (t_int == a) refl (t_long == a) refl h
  where
    is : (k : ℕ) → 4 ≤ k → k < 12 → (k == a) ≡ true → (4 ≤ a) × (a < 12)
    is k p q e = (omega (arith, eqb-true k a e, p), omega (arith, eqb-true k a e, q))

    by : (b : Bool) → (t_boolean == a) ≡ b → (d : Bool) → (t_char == a) ≡ d → (e : Bool) → (t_byte == a) ≡ e → (f : Bool) → (t_short == a) ≡ f → (g : Bool) → (t_int == a) ≡ g → (i : Bool) → (t_long == a) ≡ i
        → (t_boolean == a || (t_char == a || (t_byte == a || (t_short == a || (t_int == a || (t_long == a || false)))))) ≡ true → (4 ≤ a) × (a < 12)
    by true p d q e r f s g t i u h = is t_boolean (omega arith) (omega arith) p
    by false p true q e r f s g t i u h = is t_char (omega arith) (omega arith) q
    by false p false q true r f s g t i u h = is t_byte (omega arith) (omega arith) r
    by false p false q false r true s g t i u h = is t_short (omega arith) (omega arith) s
    by false p false q false r false s true t i u h = is t_int (omega arith) (omega arith) t
    by false p false q false r false s false t true u h = is t_long (omega arith) (omega arith) u
    by false p false q false r false s false t false u h = absurd (cc)

-- two words have no bit apart exactly where they are the same
xor_none : (a b : ℕ) → bit_xor a b ≡ 0 → a ≡ b
xor_none a b none = sym (xor_zero_r a) ∙ ap (bit_xor a) (sym (xor_self b)) ∙ sym (xor_assoc a b b) ∙ ap (λ i. bit_xor i b) none ∙ xor_zero_l b

same_test : (a b : ℕ) → (bit_xor a b == 0) ≡ (a == b)
same_test a b = by (bit_xor a b == 0) (a == b) refl refl
  where
    by : (p q : Bool) → (bit_xor a b == 0) ≡ p → (a == b) ≡ q → p ≡ q
    by true true e f = refl
    by true false e f = let same : (a == b) ≡ true = eq-eqb a b (xor_none a b (eqb-true (bit_xor a b) 0 e)) in let clash : true ≡ false = sym same ∙ f in cc
    by false true e f =
        let none : bit_xor a b ≡ 0 = ap (λ i. bit_xor i b) (eqb-true a b f) ∙ xor_self b in
        let zeros : (bit_xor a b == 0) ≡ true = eq-eqb (bit_xor a b) 0 none in
        let clash : true ≡ false = sym zeros ∙ e in
        cc
    by false false e f = refl

module _ (laws : StateLaws) (more : MakingLaws) (c : Here 188 (one UnsignedByte) 1) where
  abbrev its_code : ℕ
  its_code = u1 (code laws c) (c.h.stands.top.pc + 1)

  code_is : type_code (x laws c) ≡ its_code
  code_is =
      let within = c.at.within in
      let small : abyte (x laws c) < 2 ^ 8 = omega arith in
      let same : (0 * 2 ^ 8 + abyte (x laws c)) % 2 ^ 32 ≡ abyte (x laws c) = omega (arith, small) in
      same ∙ (shows laws c).bytes 0 (omega (arith, within))

  -- the list of the types of these arrays is named by a word of the image
  numbers_type : (t : ℕ) → list_any (λ (a : ℕ). a == its_code) codes ≡ true → type_number c.P (OfNumbers its_code) ≡ Some t → coded_type (x laws c) ≡ c.pl.type t
  numbers_type t among number =
      let says = says_linked laws c in
      let a = its_code in
      let within = code_within a among in
      let list = laws.words c.P c.pl c.n c.size c.m c.s 0 (first_words c.P c.pl) 5 c.h.stands c.h.well_formed says.header (omega arith) in
      let same : t_boolean + (a - 4) ≡ a = omega (arith, within.0) in
      let fixed = says.arrays (a - 4) t (omega (arith, within.1)) (ap (λ (k : ℕ). type_number c.P (OfNumbers k)) same ∙ number) in
      let read = laws.words c.P c.pl c.n c.size c.m c.s (c.pl.arrays + (a - 4)) (c.pl.type t ∷ []) 0 c.h.stands c.h.well_formed fixed (omega arith) in
      let small = c.h.stands.sizes.small in
      let at : ((c.pl.arrays + a) % 2 ^ 32 + (2 ^ 32 - 4)) % 2 ^ 32 ≡ c.pl.arrays + (a - 4) + 0 = omega (arith, within.0, within.1, read.0, small) in
      ap (λ (k : ℕ). slice_index c.m.port.words (((slice_index c.m.port.words 5 + k) % 2 ^ 32 + (2 ^ 32 - 4)) % 2 ^ 32)) code_is
      ∙ ap (λ (k : ℕ). slice_index c.m.port.words (((k + a) % 2 ^ 32 + (2 ^ 32 - 4)) % 2 ^ 32)) list.1
      ∙ ap (slice_index c.m.port.words) at ∙ read.1

  abbrev numbers_go : ℕ → List Value → Effect
  numbers_go size rest = allocate c.P (limits_of c.P c.pl c.n c.size) c.s (OfNumbers its_code) (replicate size (zero_of (element_type its_code))) (next laws c) c.h.stands.top.locals rest

  abbrev is_of_longs : Bool
  is_of_longs = its_code == t_long

  coded_long : (b : Bool) → is_of_longs ≡ b → is_coded_long b (x laws c) ≡ true
  coded_long b e = ap (λ (k : ℕ). same_bool b (bit_xor k 11 == 0) && true) code_is ∙ ap (λ (d : Bool). same_bool b d && true) (same_test its_code 11 ∙ e) ∙ itself b
    where
      itself : (b : Bool) → (same_bool b b && true) ≡ true
      itself true = refl
      itself false = refl

  numbers_sized : (b : Bool) → is_of_longs ≡ b → list_any (λ (a : ℕ). a == its_code) codes ≡ true → effect_of laws c c.row ≡ on_size c.h.stands.top.operands numbers_go → Sized c.P c.h.stands.top.operands numbers_go → Comes c
  numbers_sized true e among does (Negative n rest ops is) = negative_comes laws more c 1 coded_type (is_coded_long true) long_rows (coded_long true e) n rest ops (does ∙ is)
  numbers_sized false e among does (Negative n rest ops is) = negative_comes laws more c 0 coded_type (is_coded_long false) number_rows (coded_long false e) n rest ops (does ∙ is)
  numbers_sized b e among does (Natural size rest ops is) =
      let st = c.h.stands in
      let limits = limits_of c.P c.pl c.n c.size in
      let effect_is : effect_of laws c c.row ≡ numbers_go size rest = does ∙ is in
      let step = subst (λ (e : Effect). applied c.P limits c.answer c.s st.top st.callers e ≡ Some c.t) effect_is c.at.step in
      let parts = replicate size (zero_of (element_type its_code)) in
      let type = on_defined c.P limits c.answer c.s st.top st.callers c.t (type_number c.P (OfNumbers its_code)) (λ (t : ℕ). if nat_le (made_words c.P c.s + object_words c.P (record { kind = t; parts = parts })) limits.heap then Make (record { kind = t; parts = parts }) (next laws c) st.top.locals rest else fault OutOfMemoryError) step in
      by b e type.0 type.1 (effect_is ∙ type.2)
    where
      making : (t : ℕ) (parts : List Value) → Effect
      making t parts = if nat_le (made_words c.P c.s + object_words c.P (record { kind = t; parts = parts })) (limits_of c.P c.pl c.n c.size).heap then Make (record { kind = t; parts = parts }) (next laws c) c.h.stands.top.locals rest else fault OutOfMemoryError

      by : (b : Bool) → is_of_longs ≡ b → (t : ℕ) → type_number c.P (OfNumbers its_code) ≡ Some t → effect_of laws c c.row ≡ making t (replicate size (zero_of (element_type its_code))) → Comes c
      by true e t number does =
          array_comes laws more c 1 coded_type (is_coded_long true) long_rows (coded_long true e) (OfNumbers its_code) t size (size * 2) (replicate size (Long (pos 0))) rest refl (λ n. refl) number
          (long_elements c.P (length c.s.objects) (place laws c) size) ops (numbers_type t among number) (does ∙ ap (λ (d : Bool). making t (replicate size (zero_of (if d then LongType else IntType)))) e)
      by false e t number does =
          array_comes laws more c 0 coded_type (is_coded_long false) number_rows (coded_long false e) (OfNumbers its_code) t size size (replicate size (Int (pos 0))) rest refl (λ n. refl) number
          (int_elements c.P (length c.s.objects) (place laws c) size) ops (numbers_type t among number) (does ∙ ap (λ (d : Bool). making t (replicate size (zero_of (if d then LongType else IntType)))) e)

  numbers_come : Comes c
  numbers_come =
      let st = c.h.stands in
      let limits = limits_of c.P c.pl c.n c.size in
      let named = numbers_name (code laws c) st.top.pc (c.P.operand st.top.method st.top.pc) c.row c.at.is_row in
      let step = subst (λ (r : Row). applied c.P limits c.answer c.s st.top st.callers (effect_of laws c r) ≡ Some c.t) named.1 c.at.step in
      numbers_sized is_of_longs refl named.0 (ap (effect_of laws c) named.1) (size_cases c.P limits c.answer c.s st.top st.callers c.t st.top.operands numbers_go step)

pub newarray : StateLaws → MakingLaws → Line 188
newarray laws more = line_of laws 188 (one UnsignedByte) 1 numbers_form refl (numbers_come laws more)
