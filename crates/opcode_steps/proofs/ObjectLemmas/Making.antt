-- Objects that are made, from the step to where the machine stands for the next state.
use Rattle.std.proofs.Common.{◌≡◌, ℕ, ◌+◌, ◌-◌, ◌<◌, ◌≤◌, true, false, nat_lt, nat_le, List, [], ◌∷◌, ◌++◌, Some, length, drop, refl, sym, ap, ◌∙◌, subst, arith, append-nil}
use Rattle.std.specs.Prelude.{slice_set}
use Rattle.std.proofs.lemmas.Bool.Decides.{nat_tests}
use Rattle.std.proofs.lemmas.List.Sums.{sum_by-cons}
use Rattle.lists.proofs.Lemmas.{holds_at, some_same}
use Rattle.machine_memory.specs.Timing.Port.{padded}
use Rattle.opcodes.specs.Form.{Operands}
use Rattle.micro_sketch.specs.View.{env_of}
use Rattle.micro_sketch.specs.Rows.{Makes, RunsRow}
use Rattle.bytecode_model.specs.declared.Value.{Value}
use Rattle.bytecode_model.specs.declared.Value.TheVariants.{Ref}
use Rattle.bytecode_model.specs.State.{Object, Frame, State}
use Rattle.bytecode_model.specs.Program.{body_of}
use Rattle.bytecode_model.specs.Sizes.{object_words, made_words, frame_words, frames_words}
use Rattle.bytecode_model.specs.Effects as effects
use Rattle.bytecode_model.specs.Effects.{Make, on, fault, allocate, OutOfMemoryError}
use Rattle.bytecode_model.specs.Steps.{applied, with_top}
use Rattle.bytecode_model.specs.WellFormed as formed
use Rattle.bytecode_model.specs.WellFormed.{AreValues}
use Rattle.image_facts.specs.Words.{object_image}
use Rattle.image_facts.specs.Places.{object_place, end_of, image_words, pool_of, words_with}
use Rattle.image_facts.specs.Laws.{FirstObjectsStay, WordsEnd, ObjectsFollow}
use Rattle.machine_stands.specs.Frames.{AreOperands}
use Rattle.machine_stands.specs.StandsFor.{limits_of, memory_of}
use Rattle.machine_stands.specs.Comes.{params}
use Rattle.machine_stands.specs.Again.{GoesOn, registers_of}
use Rattle.opcode_steps.proofs.ObjectLemmas.Scenes.{StateLaws, Here, Comes, instr, x, place, next, effect_of, saved, shows, stands, registers, jpc_is}
use Rattle.opcode_steps.proofs.ObjectLemmas.Made.{places_stay, made_place, made_end, end_is}
use Rattle.opcode_steps.proofs.ObjectLemmas.Staying.{locals_stay, operands_stay, frames_stay}
use Rattle.opcode_steps.proofs.ObjectLemmas.MakingRows.{heap, memory_end, made}

pub record MakingLaws : Type 0 where
  pub stay : FirstObjectsStay
  pub ends : WordsEnd
  pub follow : ObjectsFollow

-- ---- whether an object fits

fits_then : (image made words size : ℕ) → image ≤ size → nat_le (made + words) (size - image) ≡ true → image + made + words ≤ size
fits_then image made words size h e = let le : made + words ≤ size - image = grind (arith, nat_tests, e) in omega (arith, h, le)

fails_then : (image made words size : ℕ) → image ≤ size → nat_le (made + words) (size - image) ≡ false → size < image + made + words
fails_then image made words size h e = let gt : size - image < made + words = grind (arith, nat_tests, e) in omega (arith, h, gt)

pub at_most : (a b : ℕ) → a ≤ b → nat_lt b a ≡ false
at_most a b h = grind (arith, nat_tests, h)

pub more_than : (a b : ℕ) → b < a → nat_lt b a ≡ true
more_than a b h = grind (arith, nat_tests, h)

module _ (laws : StateLaws) (more : MakingLaws) {op : ℕ} {o : Operands} {j : ℕ} (c : Here op o j) where
  abbrev pub objects : List Object
  objects = c.s.objects

  abbrev pub end : ℕ
  end = end_of c.P c.pl objects

  pub heap_is : heap (x laws c) ≡ end
  heap_is = registers laws c 2

  pub memory_end_is : memory_end (x laws c) ≡ c.size
  memory_end_is = registers laws c 3

  -- the words before the zeros, behind which an object is made
  abbrev pub whole : List ℕ
  whole = words_with c.P c.pl c.s.statics objects

  pub whole_ends : length whole ≡ end
  whole_ends = more.ends c.P c.pl c.s.statics objects c.h.well_formed.statics

  abbrev pub image : Object → List ℕ
  image q = object_image c.P c.pl.type (place laws c) q

  -- the test of the definition, as one of the heap's end
  pub record Room (words : ℕ) : Type 0 where
    pub fits : nat_le (made_words c.P c.s + words) (limits_of c.P c.pl c.n c.size).heap ≡ true → end + words ≤ c.size
    pub fails : nat_le (made_words c.P c.s + words) (limits_of c.P c.pl c.n c.size).heap ≡ false → c.size < end + words
    pub within : end ≤ c.size

  pub room : (words : ℕ) → Room words
  room words =
      let first = image_words c.P c.pl in
      let made = made_words c.P c.s in
      let is = end_is more.stay c.P c.pl c.n c.size c.s c.h.says c.h.well_formed in
      let have = c.h.stands.room.image in
      let sum = c.h.well_formed.heap_sum in
      record {
        fits = λ e. omega (arith, fits_then first made words c.size have e, is);
        fails = λ e. omega (arith, fails_then first made words c.size have e, is);
        within = omega (arith, is, have, sum);
      }

  -- ---- the next state

  abbrev pub next_frame : (ops : List Value) → Frame
  next_frame ops = record c.h.stands.top { pc = next laws c; operands = Ref (length objects) ∷ ops }

  abbrev pub next_state : Object → (ops : List Value) → State
  next_state q ops = with_top (record c.s { objects = objects ++ q ∷ [] }) c.h.stands.callers (next_frame ops)

  abbrev pub next_place : Object → ℕ → ℕ
  next_place q = object_place c.P c.pl (objects ++ q ∷ [])

  frames_fit : formed.AreFrames c.P (length objects) (c.h.stands.top ∷ c.h.stands.callers)
  frames_fit = subst (λ (fs : List Frame). formed.AreFrames c.P (length objects) fs) c.h.stands.frames c.h.well_formed.frames

  pub top_fits : formed.IsFrame c.P (length objects) c.h.stands.top c.h.stands.body
  top_fits = holds_at (body_of c.P c.h.stands.top.method) c.h.stands.body (formed.IsFrame c.P (length objects) c.h.stands.top) c.h.stands.is_body frames_fit.0

  same_words : (ops : List Value) → frames_words c.P c.s.frames ≡ frames_words c.P (next_frame ops ∷ c.h.stands.callers)
  same_words ops =
      ap (frames_words c.P) c.h.stands.frames ∙ sum_by-cons (frame_words c.P) c.h.stands.top c.h.stands.callers ∙ sym (sum_by-cons (frame_words c.P) (next_frame ops) c.h.stands.callers)

  -- the registers then
  low_is : (q : Object) (ops : List Value) → slice_set (drop 24 (x laws c).low) 2 (end + object_words c.P q) ≡ registers_of c.P c.pl c.n c.size (next_state q ops) (next_frame ops) (shows laws c).raised
  low_is q ops =
      let top = c.h.stands.top in
      let far = made_end c.P c.pl objects q in
      let sum = same_words ops in
      ap (λ (ws : List ℕ). slice_set ws 2 (end + object_words c.P q)) (shows laws c).low
      ∙ (λ i. pool_of c.P c.pl top.method ∷ c.pl.method top.method ∷ sym far i ∷ c.size ∷ sum i ∷ (c.n - 80) ∷ c.pl.raise_list ∷ (shows laws c).raised ∷ [])

  -- the memory then
  memory_is : (q : Object) (ops : List Value) → AreValues (length objects) q.parts → padded (whole ++ image q) c.size ≡ memory_of c.P c.pl c.size (next_state q ops)
  memory_is q ops values =
      ap (λ (ws : List ℕ). padded ws c.size) (sym (more.follow c.P c.pl c.s.statics objects q c.h.well_formed.static_values c.h.well_formed.objects values))

  -- a row that makes the object, and leaves these words below its place
  pub makes_object : (q : Object) (ops : List Value) (others ws memory : List ℕ) (last : ℕ) → effect_of laws c c.row ≡ Make q (next laws c) c.h.stands.top.locals ops → AreValues (length objects) q.parts
      → AreOperands (place laws c) ops others → AreValues (length objects) ops → ws ≡ others ++ saved laws c → last ≡ end + object_words c.P q → memory ≡ padded (whole ++ image q) c.size → length memory ≡ length c.m.port.words
      → Makes (made ws memory last j (x laws c)) (x laws c) → Comes c
  makes_object q ops others ws memory last does values are fit stack last_is memory_are many makes =
      let st = c.h.stands in
      let f = made ws memory last j (x laws c) in
      let p = params c.m 0 0 in
      let stay = places_stay c.P c.pl objects q in
      let there = place laws c in
      let after = next_place q in
      let applied_is : Some (next_state q ops) ≡ Some c.t =
      ap (λ (e : effects.Effect). applied c.P (limits_of c.P c.pl c.n c.size) c.answer c.s st.top st.callers e) (sym does) ∙ c.at.step in
      let is : c.t ≡ next_state q ops = sym (some_same (next_state q ops) c.t applied_is) in
      let goes_there : GoesOn c.P c.pl c.n c.size c.m c.s (next_state q ops) st f = record {
        top = next_frame ops;
        words = record { locals = st.words.locals; saved = st.words.saved; operands = heap (x laws c) ∷ others };
        raised = (shows laws c).raised;
        mode = refl;
        frames = refl;
        method = refl;
        saved = refl;
        locals = locals_stay (length objects) there after stay st.top.locals st.words.locals top_fits.local_values st.are_frames.0.locals;
        operands = (heap_is ∙ sym (made_place c.P c.pl objects q), operands_stay (length objects) there after stay ops others fit are);
        callers = frames_stay (length objects) there after stay c.P c.pl st.callers st.below frames_fit.1 st.are_frames.1;
        stack = ap (λ (us : List ℕ). heap (x laws c) ∷ us) stack;
        deep = (shows laws c).deep;
        low = ap (λ (k : ℕ). slice_set (drop 24 (x laws c).low) 2 k) last_is ∙ low_is q ops;
        memory = memory_are ∙ memory_is q ops values;
        as_many = many;
        jpc = jpc_is laws c;
      } in
      let goes = subst (λ (u : State). GoesOn c.P c.pl c.n c.size c.m c.s u st f) (sym is) goes_there in
      laws.comes c.P c.pl c.n c.size c.m c.answer c.s c.t c.h (instr laws c) [] f c.mode c.at.at (ap (λ (u : State). u.answers) is ∙ sym (append-nil c.s.answers)) refl
      (ap (λ (u : State). u.output) is ∙ sym (append-nil c.s.output)) goes
      (subst (λ (k : ℕ). RunsRow c.n p k f (x laws c) (env_of c.m)) (sym c.opcode) (laws.runs c.n p op f (x laws c) (env_of c.m) c.m (stands laws c) makes))
