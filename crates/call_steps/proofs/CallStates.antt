-- A call, from the step to where the machine stands for the next state.
use Rattle.std.proofs.Common.{◌≡◌, ℕ, ◌+◌, ◌-◌, ◌<◌, ◌≤◌, ◌==◌, Bool, true, false, List, [], ◌∷◌, ◌++◌, Option, Some, None, length, reverse, if◌then◌else◌, refl, sym, ap, ◌∙◌, subst, arith, length-append, append_assoc, add-zero}
use Rattle.std.proofs.lemmas.Bool.Decides.{nat_tests}
use Rattle.std.specs.Prelude.{slice_index, nat_le, IsSome, is_some}
use Rattle.std.specs.List.{sum_by}
use Rattle.std.proofs.lemmas.List.{length-reverse, reverse-append, reverse-reverse}
use Rattle.std.proofs.lemmas.List.Sums.{sum_by-append, sum_by-cons}
use Rattle.opcodes.specs.declared.instruction.Instr.{Instr}
use Rattle.jop_core.specs.State as machine
use Rattle.micro_sketch.specs.Sketch.{Sketch}
use Rattle.base.specs.Packed.{words_of_bytes}
use Rattle.method_cache.specs.Contents.{is_cached}
use Rattle.micro_sketch.specs.View.{env_of}
use Rattle.bytecode_model.specs.declared.Value.{Value}
use Rattle.bytecode_model.specs.declared.Ending.TheVariants.{Running}
use Rattle.bytecode_model.specs.Lists.{onto}
use Rattle.bytecode_model.specs.Rows.{Row}
use Rattle.bytecode_model.specs.State.{Object, Frame, State}
use Rattle.bytecode_model.specs.Program.{Program, Method, body_of, instr_at}
use Rattle.bytecode_model.specs.Sizes.{value_words, frame_words, frames_words, body_words}
use Rattle.bytecode_model.specs.Effects.{Call, fault_object, StackOverflowError}
use Rattle.bytecode_model.specs.Steps.{applied, taken_types, with_top, raising}
use Rattle.image_facts.specs.Places.{Places, object_place, end_of, pool_of}
use Rattle.image_facts.specs.Says as says
use Rattle.machine_stands.specs.Frames.{FrameWords, AreOperands, AreWordsOfFrames, Saves, stacked, sp_over, vp_over}
use Rattle.machine_stands.specs.StandsFor.{limits_of}
use Rattle.machine_stands.specs.Comes.{params, ComesTo}
use Rattle.micro_flow.specs.declared.CostParams.{CostParams}
use Rattle.machine_stands.specs.Simulates.{IsStep}
use Rattle.machine_stands.specs.Seen.{seen}
use Rattle.machine_stands.specs.Calling.{Passed}
use Rattle.machine_stands.specs.Switching.{SwitchesOn}
use Rattle.machine_stands.specs.Stopping.{SameRest, RaisesOn}
use Rattle.machine_stands.specs.Again.{registers_of}
use Rattle.machine_stands.specs.Reading.{IsAtRow}
use Rattle.machine_stands.specs.Shown.{Shows}
use Rattle.call_steps.specs.Method as record_at
use Rattle.call_steps.specs.Method.{with_method}
use Rattle.call_steps.specs.Entry.{sum_with, fits_at, CanEnter, enter, overflow_at, Enters}
use Rattle.call_steps.specs.Coming.{IsRead, RowEnters, CallsCome}
use Rattle.call_steps.proofs.Arguments.{Entered, entered, arguments_words, turned_words, arguments_fit, reversed}
use Rattle.call_steps.proofs.Scenes.{CallLaws, is_some_and, size_small, register, Counted, counted, frame_is, finds}

pub there : {A : Type 0} (o : Option A) (x : A) → o ≡ Some x → IsSome o
there o x h = ap is_some h

module _ (laws : CallLaws) (P : Program) (pl : Places) (n size : ℕ) (m : machine.MachineState) (answer : Option ℕ) (s s' : State) (h : IsStep P pl n size m answer s s') (i : Instr) (r : Row) (t : ℕ) (taken rest : List Value)
    (mode : s.mode ≡ Running) (linked : P.linked ≡ true) (at : IsAtRow P pl n size m answer s s' h.stands i r) (long : 0 < i.length) (operands : h.stands.top.operands ≡ taken ++ rest)
    (call : applied P (limits_of P pl n size) answer s h.stands.top h.stands.callers (Call t (reverse taken) rest) ≡ Some s') (rows : RowEnters P pl n size m s h.stands i taken t) where
  abbrev pub p : CostParams
  p = params m i.count 0

  abbrev pub x : Sketch
  x = seen p (None ∷ []) m h.stands.words h.stands.below

  abbrev pub place : ℕ → ℕ
  place = object_place P pl s.objects

  -- the place of the method, and that behind the instruction
  abbrev pub k : ℕ
  k = pl.method t

  abbrev pub behind : ℕ
  behind = h.stands.top.pc + i.length

  pub callee : Entered P (limits_of P pl n size) s h.stands.top h.stands.callers s' t (reverse taken) rest
  callee = entered P (limits_of P pl n size) answer s h.stands.top h.stands.callers s' t (reverse taken) rest call

  -- what the image says of it
  abbrev pub Callee : Type 0
  Callee = Entered P (limits_of P pl n size) s h.stands.top h.stands.callers s' t (reverse taken) rest

  abbrev pub body_is : (c : Callee) → body_of P t ≡ Some c.body
  body_is c = ap (λ o. onto o (λ (u : Method). u.body)) c.is_method ∙ c.is_body

  pub read_of : (c : Callee) → IsRead P pl x c.method c.body k
  read_of c = laws.methods P pl n size m s h.stands x t c.method c.body h.well_formed h.says linked c.is_method c.is_body refl refl

  pub shows : Shows P pl n size m s h.stands p x
  shows = laws.shows P pl n size m answer s s' h p (None ∷ []) mode refl refl

  pub registers : (j : ℕ) → slice_index x.low (24 + j) ≡ slice_index (registers_of P pl n size s h.stands.top shows.raised) j
  registers j = register P pl n size m s h.stands p x shows j

  -- ---- its arguments

  abbrev pub Given : Callee → Type 0
  Given c = Passed place rest h.stands.words.operands c.body.max_locals c.locals

  pub passed_of : (c : Callee) → Given c
  passed_of c =
      laws.passed place taken rest h.stands.words.operands c.body.max_locals c.locals (subst (λ (vs : List Value). AreOperands place vs h.stands.words.operands) operands h.stands.are_frames.0.operands) c.are_locals

  -- they are as many words as the method takes
  pub record Counts (c : Callee) (a : Given c) : Type 0 where
    pub values : length a.arguments ≡ sum_by value_words taken
    pub arguments : length a.arguments ≡ says.argument_words_of c.method
    pub most : length a.arguments ≤ c.body.max_locals
    pub others : length a.others ≤ h.stands.body.max_stack

  pub counts_of : (c : Callee) (a : Given c) → Counts c a
  counts_of c a =
      let all = laws.count place h.stands.top.operands h.stands.words.operands h.stands.are_frames.0.operands in
      let below = laws.count place rest a.others a.stay in
      let parts : sum_by value_words h.stands.top.operands ≡ sum_by value_words taken + sum_by value_words rest = ap (sum_by value_words) operands ∙ sum_by-append value_words taken rest in
      let words : length h.stands.words.operands ≡ length a.arguments + length a.others = ap length a.split ∙ length-append a.arguments a.others in
      let turned : sum_by value_words (reverse taken) ≡ sum_by value_words taken = ap (sum_by value_words) (sym (reversed taken)) ∙ turned_words taken [] ∙ add-zero (sum_by value_words taken) in
      let many : length a.arguments ≡ sum_by value_words taken = omega (arith, all, below, parts, words) in
      record {
        values = many;
        arguments = many ∙ sym turned ∙ arguments_words (taken_types c.method) (reverse taken) c.suit;
        most = omega (arith, many, turned, arguments_fit c.body.max_locals (reverse taken) c.locals c.are_locals);
        others = omega (arith, words, shows.depth);
      }

  pub counted_here : Counted P pl n size m s h.stands
  counted_here = counted laws.room P pl n size m s h.stands h.well_formed

  -- ---- whether its frame fits

  pub sum_is : (c : Callee) → sum_with x k ≡ body_words c.body + frames_words P s.frames
  sum_is c =
      let read = read_of c in
      ap (λ (j : ℕ). j + record_at.frame_words x.memory k) (registers 4) ∙ omega (arith, read.locals, read.stack)

  -- the words that are not taken, as they are on the stack
  abbrev pub not_taken : (c : Callee) → List ℕ
  not_taken c = (passed_of c).others ++ reverse h.stands.words.saved

  -- it can be done, with these words
  pub ready : (c : Callee) → CanEnter n x k (passed_of c).arguments (not_taken c)
  ready c =
      let a = passed_of c in
      let read = read_of c in
      let count = counts_of c a in
      let here = counted_here in
      let sizes = size_small n h.stands.sizes.is_size in
      let sum = sum_is c in
      let list = laws.list P pl n size m answer s s' h StackOverflowError linked in
      let deep : length x.deep ≡ length (stacked h.stands.below) + length h.stands.words.locals = ap length shows.deep ∙ length-append (stacked h.stands.below) h.stands.words.locals in
      let below : length (not_taken c) ≡ length a.others + 5 = omega (arith, length-append a.others (reverse h.stands.words.saved), length-reverse h.stands.words.saved, shows.saved) in
      let limit : slice_index x.low 29 ≡ n - 80 = registers 5 in
      record {
        method = read.is_method;
        split = shows.words ∙ ap (λ (ws : List ℕ). ws ++ reverse h.stands.words.saved) a.split ∙ append_assoc a.arguments a.others (reverse h.stands.words.saved);
        most = omega (arith, count.most, read.locals);
        room = λ fit. omega (arith, deep, below, read.locals, count.others, here.below, here.locals, shows.locals, here.sum, sizes, fits_means _ _ fit, sum, limit);
        size = omega (arith, sizes);
        sum = omega (arith, sum, here.most, sizes, read.few_locals, read.few_operands);
        raise_list = omega (arith, registers 6, list.0, h.stands.sizes.small);
      }
    where
      fits_means : (a b : ℕ) → nat_le a b ≡ true → a ≤ b
      fits_means a b h = grind (arith, nat_tests, h)

  -- so its row goes on
  pub goes_on : (c : Callee) → Enters n p m.opcode x (env_of m) k behind (passed_of c).arguments (not_taken c)
  goes_on c =
      let a = passed_of c in
      let count = counts_of c a in
      rows a.arguments a.others a.split count.values (count.arguments ∙ sym (read_of c).arguments) (there (body_of P t) c.body (body_is c)) (ready c)

  -- ---- the next state

  -- the frame with which the method begins, and the caller's
  abbrev pub new_frame : Callee → Frame
  new_frame c = record { method = t; pc = 0; locals = c.locals; operands = [] }

  abbrev pub caller : Callee → Frame
  caller c = record h.stands.top { operands = rest }

  all_words : (c : Callee) → frames_words P (new_frame c ∷ caller c ∷ h.stands.callers) ≡ body_words c.body + frames_words P s.frames
  all_words c =
      let here = counted_here in
      omega (arith, sum_by-cons (frame_words P) (new_frame c) (caller c ∷ h.stands.callers), sum_by-cons (frame_words P) (caller c) h.stands.callers, frame_is P (new_frame c) c.body (body_is c), frame_is P (caller c) h.stands.body h.stands.is_body, here.sum)

  abbrev test : Callee → Bool
  test c = nat_le (frames_words P (new_frame c ∷ caller c ∷ h.stands.callers)) (n - 80)

  fits_is : (c : Callee) → fits_at x k ≡ test c
  fits_is c = ap (λ (j : ℕ). nat_le j (slice_index x.low 29)) (sum_is c ∙ sym (all_words c)) ∙ ap (λ (j : ℕ). nat_le (frames_words P (new_frame c ∷ caller c ∷ h.stands.callers)) j) (registers 5)

  -- ---- where it fits

  -- the words of the caller's frame, and of the new one

  abbrev caller_words : Callee → FrameWords
  caller_words c = record { locals = h.stands.words.locals; saved = h.stands.words.saved; operands = (passed_of c).others }

  abbrev below_words : Callee → ℕ
  below_words c = length x.deep + length (not_taken c)

  abbrev saved_words : Callee → List ℕ
  saved_words c = (64 + below_words c - 3) ∷ behind ∷ x.vp ∷ slice_index x.low 24 ∷ slice_index x.low 25 ∷ []

  abbrev new_words : Callee → List ℕ → FrameWords
  new_words c more = record { locals = reverse (passed_of c).arguments ++ more; saved = saved_words c; operands = [] }

  stack_is : (c : Callee) → stacked (caller_words c ∷ h.stands.below) ≡ x.deep ++ reverse (not_taken c)
  stack_is c =
      let others = (passed_of c).others in
      let saved = h.stands.words.saved in
      sym (append_assoc (stacked h.stands.below) h.stands.words.locals (saved ++ reverse others))
      ∙ ap (λ (ws : List ℕ). ws ++ (saved ++ reverse others)) (sym shows.deep)
      ∙ ap (λ (ws : List ℕ). x.deep ++ ws) (sym (reverse-append others (reverse saved) ∙ ap (λ (ws : List ℕ). ws ++ reverse others) (reverse-reverse saved)))

  count_is : (c : Callee) → length (stacked (caller_words c ∷ h.stands.below)) ≡ below_words c
  count_is c = ap length (stack_is c) ∙ length-append x.deep (reverse (not_taken c)) ∙ ap (λ (k : ℕ). length x.deep + k) (length-reverse (not_taken c))

  saves : (c : Callee) → Saves P pl (caller c ∷ h.stands.callers) (caller_words c ∷ h.stands.below) (saved_words c)
  saves c =
      let top = h.stands.top in
      let sp : 64 + below_words c - 3 ≡ sp_over (caller_words c ∷ h.stands.below) = ap (λ (k : ℕ). 64 + k - 3) (sym (count_is c)) in
      is_some_and (instr_at P top.method top.pc) i
      (λ j. saved_words c ≡ sp_over (caller_words c ∷ h.stands.below) ∷ (top.pc + j.length) ∷ vp_over h.stands.below ∷ pool_of P pl top.method ∷ pl.method top.method ∷ []) at.at
      (λ z. sp z ∷ behind ∷ shows.vp z ∷ registers 0 z ∷ registers 1 z ∷ [])

  next_called : (c : Callee) → test c ≡ true → s' ≡ with_top s (caller c ∷ h.stands.callers) (new_frame c)
  next_called c fit =
      c.next ∙ ap (λ (b : Bool). if b then with_top s (caller c ∷ h.stands.callers) (new_frame c) else raising s (caller c) h.stands.callers (fault_object StackOverflowError)) fit

  other_count : (xs ys : List Frame) (f g k : Frame) → xs ≡ f ∷ ys → (length xs == length (g ∷ k ∷ ys)) ≡ false
  other_count xs ys f g k e = unequal (length xs) (length (g ∷ k ∷ ys)) (omega (arith, ap length e))
    where
      unequal : (a b : ℕ) → a < b → (a == b) ≡ false
      unequal a b h = grind (arith, nat_tests, h)

  low_is : (c : Callee) (more : List ℕ) → s' ≡ with_top s (caller c ∷ h.stands.callers) (new_frame c)
      → (enter x k behind (passed_of c).arguments (not_taken c) more).low ≡ registers_of P pl n size s' (new_frame c) shows.raised
  low_is c more next =
      let read = read_of c in
      let pool : record_at.pool x.memory k ≡ pool_of P pl t = read.pool_is ∙ sym (ap (λ o. elim o [ None ↦ 0 | Some u ↦ pl.pool u.owner ]) c.is_method) in
      let sum : sum_with x k ≡ frames_words P s'.frames = sum_is c ∙ sym (all_words c) ∙ ap (λ (u : State). frames_words P u.frames) (sym next) in
      let end : end_of P pl s.objects ≡ end_of P pl s'.objects = ap (λ (u : State). end_of P pl u.objects) (sym next) in
      ap (λ (ws : List ℕ). with_method (record_at.pool x.memory k) k (sum_with x k) ws) shows.low
      ∙ (λ i. pool i ∷ k ∷ end i ∷ size ∷ sum i ∷ (n - 80) ∷ pl.raise_list ∷ shows.raised ∷ [])

  same_rest : (c : Callee) → s' ≡ with_top s (caller c ∷ h.stands.callers) (new_frame c) → SameRest s s'
  same_rest c next = record {
    objects = ap (λ (u : State). u.objects) next;
    statics = ap (λ (u : State). u.statics) next;
    answers = ap (λ (u : State). u.answers) next;
    output = ap (λ (u : State). u.output) next;
  }

  switches : (c : Callee) (more : List ℕ) → length (passed_of c).arguments + length more ≡ c.body.max_locals → s' ≡ with_top s (caller c ∷ h.stands.callers) (new_frame c)
      → SwitchesOn P pl n size m s s' (enter x k behind (passed_of c).arguments (not_taken c) more)
  switches c more count next =
      let a = passed_of c in
      let read = read_of c in
      let code_words = words_of_bytes c.body.code in
      let frames = ap (λ (u : State). u.frames) next in
      let objects = ap (λ (u : State). u.objects) next in
      record {
        top = new_frame c;
        callers = caller c ∷ h.stands.callers;
        body = c.body;
        words = new_words c more;
        below = caller_words c ∷ h.stands.below;
        raised = shows.raised;
        mode = ap (λ (u : State). u.mode) next;
        frames = frames;
        other = ap (λ (fs : List Frame). length s.frames == length fs) frames ∙ other_count s.frames h.stands.callers h.stands.top (new_frame c) (caller c) h.stands.frames;
        is_body = body_is c;
        rest = same_rest c next;
        are_frames = subst (λ (os : List Object). AreWordsOfFrames P pl (object_place P pl os) (new_frame c ∷ caller c ∷ h.stands.callers) (new_words c more ∷ caller_words c ∷ h.stands.below)) (sym objects) (
          record { locals = a.become more count; saved = saves c; operands = tt },
          (record { locals = h.stands.are_frames.0.locals; saved = h.stands.are_frames.0.saved; operands = a.stay }, h.stands.are_frames.1),
        );
        stack = refl;
        deep = sym (append_assoc x.deep (reverse (not_taken c)) (reverse a.arguments ++ more)) ∙ ap (λ (ws : List ℕ). ws ++ (reverse a.arguments ++ more)) (sym (stack_is c));
        vp = ap (λ (i : ℕ). 64 + i) (sym (count_is c));
        low = low_is c more next;
        memory = refl;
        jpc = refl;
        method = refl;
        found = finds x m k code_words (enter x k behind a.arguments (not_taken c) more) refl refl refl read.code read.code_count (is_cached k m.cache) refl;
        answers = refl;
        output = refl;
      }

  comes_in : (c : Callee) → test c ≡ true → ComesTo P pl n size m s s'
  comes_in c fit =
      let a = passed_of c in
      let run = (goes_on c).fitting (fits_is c ∙ fit) in
      laws.switches P pl n size m answer s s' h i (enter x k behind a.arguments (not_taken c) run.more) mode at.at (switches c run.more (run.count ∙ (read_of c).locals) (next_called c fit)) run.runs

  -- ---- where it doesn't

  next_raised : (c : Callee) → test c ≡ false → s' ≡ raising s (caller c) h.stands.callers (fault_object StackOverflowError)
  next_raised c over =
      c.next ∙ ap (λ (b : Bool). if b then with_top s (caller c ∷ h.stands.callers) (new_frame c) else raising s (caller c) h.stands.callers (fault_object StackOverflowError)) over

  raises_on : (c : Callee) → s' ≡ raising s (caller c) h.stands.callers (fault_object StackOverflowError) → RaisesOn P pl n size m s s' h.stands i (fault_object StackOverflowError) (overflow_at x behind)
  raises_on c next =
      let list = laws.list P pl n size m answer s s' h StackOverflowError linked in
      record {
        mode = ap (λ (u : State). u.mode) next;
        frames = ap (λ (u : State). u.frames) next;
        rest = record { objects = ap (λ (u : State). u.objects) next; statics = ap (λ (u : State). u.statics) next; answers = ap (λ (u : State). u.answers) next; output = ap (λ (u : State). u.output) next };
        left = h.stands.words.operands;
        few = shows.depth;
        stack = shows.words;
        from = omega (arith, long);
        to = omega arith;
        object = ap (λ (k : ℕ). slice_index x.memory (k + 8)) (registers 6) ∙ list.1;
      }

  comes_to_raise : (c : Callee) → test c ≡ false → ComesTo P pl n size m s s'
  comes_to_raise c over =
      laws.raises P pl n size m answer s s' h i (fault_object StackOverflowError) (overflow_at x behind) mode at.at (raises_on c (next_raised c over)) ((goes_on c).overflowing (fits_is c ∙ over))

  pub call_comes : ComesTo P pl n size m s s'
  call_comes = let c = callee in by c (test c) refl
    where
      by : (c : Callee) (b : Bool) → test c ≡ b → ComesTo P pl n size m s s'
      by c true e = comes_in c e
      by c false e = comes_to_raise c e

pub calls_come : CallLaws → CallsCome
calls_come laws P pl n size m answer s s' h i r t taken rest mode linked at long operands call rows =
    call_comes laws P pl n size m answer s s' h i r t taken rest mode linked at long operands call rows
