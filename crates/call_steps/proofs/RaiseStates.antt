-- A step of the raise routine, from the step to where the machine stands for the next state.
use Rattle.std.proofs.Common.{◌≡◌, ◌⊎◌, ℕ, suc, ◌+◌, ◌-◌, ◌*◌, ◌%◌, ◌^◌, ◌<◌, ◌≤◌, Bool, true, false, if◌then◌else◌, List, [], ◌∷◌, ◌++◌, Option, Some, None, Result, Ok, Err, length, reverse, refl, sym, ap, ◌∙◌, subst, arith, append_assoc, length-append, ⊎_elim}
use Rattle.std.specs.Prelude.{slice_get, slice_index, IfSome}
use Rattle.std.proofs.lemmas.Option.{none-some}
use Rattle.std.proofs.lemmas.List.{get_or-drop, length-reverse, reverse-append, reverse-reverse}
use Rattle.std.proofs.lemmas.List.Sums.{sum_by-cons}
use Rattle.lists.proofs.Lemmas.{holds_at, onto_some, some_is, some_same}
use Rattle.base.specs.Packed.{words_of_bytes}
use Rattle.machine_memory.specs.Stack.Size.{IsSize}
use Rattle.method_cache.specs.Contents.{Cache, is_cached, loaded}
use Rattle.microcode.specs.declared.addresses.TheConstants.{HANDLER_FOUND, END}
use Rattle.micro_flow.specs.declared.CostParams.{CostParams}
use Rattle.micro_flow.specs.Walk.{turns_at}
use Rattle.opcodes.specs.declared.instruction.Instr.{Instr}
use Rattle.opcodes.specs.Instruction.{decoded}
use Rattle.opcodes.specs.Start.{AreStarts}
use Rattle.opcodes.specs.Target.{WholeIsWithin}
use Rattle.jop_core.specs.State as machine
use Rattle.jop_core.specs.Operations.{code_words}
use Rattle.micro_sketch.specs.Sketch.{Sketch, can_find, missed, found_words}
use Rattle.micro_sketch.specs.View.{env_of}
use Rattle.micro_sketch.specs.Rows.{Switch, Switches}
use Rattle.bytecode_model.specs.declared.Value.TheVariants.{Ref}
use Rattle.bytecode_model.specs.declared.Ending.{Ending}
use Rattle.bytecode_model.specs.declared.Ending.TheVariants.{Raising, Uncaught}
use Rattle.bytecode_model.specs.Lists.{onto}
use Rattle.bytecode_model.specs.Types.{Kind, OfClass, OfNumbers, OfReferences}
use Rattle.bytecode_model.specs.State.{Object, Frame, State}
use Rattle.bytecode_model.specs.Program.{Program, Method, Body, Handler, body_of, instr_at, kind_of, as_instr}
use Rattle.bytecode_model.specs.Sizes.{frame_words, frames_words, body_words}
use Rattle.bytecode_model.specs.Steps.{step, step_in, unwound, handler_for, class_of, with_top, raising}
use Rattle.bytecode_model.specs.WellFormed as formed
use Rattle.image_facts.specs.Places.{Places, object_place, end_of, pool_of}
use Rattle.image_facts.specs.Says.{SaysAll, SaysLinked, SaysMethod, IsCode}
use Rattle.machine_stands.specs.Frames.{FrameWords, AreWordsOfFrames, Saves, stacked, sp_over, vp_over}
use Rattle.machine_stands.specs.StandsFor.{IsAt, IsAtRaise, limits_of}
use Rattle.machine_stands.specs.Comes.{ComesTo}
use Rattle.machine_stands.specs.Simulates.{IsStep, Unwinds}
use Rattle.machine_stands.specs.Again.{registers_of}
use Rattle.machine_stands.specs.Switching.{FindsBy}
use Rattle.machine_stands.specs.Operands.{OperandsHaveWords}
use Rattle.machine_stands.specs.Counted.{FramesHaveRoom, FiveAreSaved}
use Rattle.machine_stands.specs.Unwinding.{IsSeenRaising, raise_params, seen_raise, RaisesAreSeen, HandlersCome, DropsCome, UncaughtCome}
use Rattle.call_steps.specs.Method as record_at
use Rattle.call_steps.specs.Method.{with_method, looked_up, as_it_stands}
use Rattle.call_steps.specs.Returns.{Saved, saved_words}
use Rattle.call_steps.specs.Coming.{IsRead, MethodsAreRead}
use Rattle.call_steps.specs.Raise.{IsRaising, method_of, type_of, HasTable, handler_of, HasFrame, HandlersRun, HasCaller, FramesDrop, LastStops, AreEntries, target_for}
use Rattle.call_steps.proofs.RaiseTables.{TableLaws, type_read, entries_of, HasType, has_type, Inside, handler_is, has_handlers}

pub record StateLaws : Type 0 where
  pub seen : RaisesAreSeen
  pub handlers_come : HandlersCome
  pub drops_come : DropsCome
  pub uncaught_come : UncaughtCome
  pub tables : TableLaws
  pub methods : MethodsAreRead
  pub starts : (code : List ℕ) → AreStarts code
  pub within : (code : List ℕ) (pc : ℕ) → WholeIsWithin code pc
  pub saved : FiveAreSaved
  pub room : FramesHaveRoom
  pub count : OperandsHaveWords
  pub handlers_run : HandlersRun
  pub frames_drop : FramesDrop
  pub last_stops : LastStops

-- ---- options and lists

-- an instruction is a whole one
whole_is : {E : Type 0} (r : Result Instr E) (i : Instr) → as_instr r ≡ Some i → r ≡ Ok i
whole_is (Ok j) i h = ap (λ (k : Instr). Ok k) (some_same j i h)
whole_is (Err e) i h = absurd (none-some i h)

decodes : (P : Program) (method pc : ℕ) (b : Body) (i : Instr) → body_of P method ≡ Some b → instr_at P method pc ≡ Some i → decoded b.code pc ≡ Ok i
decodes P method pc b i body at = whole_is (decoded b.code pc) i (sym (ap (λ o. onto o (λ (u : Body). as_instr (decoded u.code pc))) body) ∙ at)

size_small : (n : ℕ) → IsSize n → (256 ≤ n) × (n ≤ 1024)
size_small n h = ⊎_elim (λ (e : n ≡ 256). (omega (arith, e), omega (arith, e))) (λ other. ⊎_elim (λ (e : n ≡ 512). (omega (arith, e), omega (arith, e))) (λ (e : n ≡ 1024). (omega (arith, e), omega (arith, e))) other) h

-- five words by name
five : (ws : List ℕ) → length ws ≡ 5 → (d : Saved) × (ws ≡ d.sp ∷ d.jpc ∷ d.vp ∷ d.pool ∷ d.method ∷ [])
five [] h = absurd (omega (arith, h))
five (a ∷ []) h = absurd (omega (arith, h))
five (a ∷ b ∷ []) h = absurd (omega (arith, h))
five (a ∷ b ∷ c ∷ []) h = absurd (omega (arith, h))
five (a ∷ b ∷ c ∷ d ∷ []) h = absurd (omega (arith, h))
five (a ∷ b ∷ c ∷ d ∷ e ∷ []) h = (record { sp = a; jpc = b; vp = c; pool = d; method = e }, refl)
five (a ∷ b ∷ c ∷ d ∷ e ∷ f ∷ ws) h = absurd (omega (arith, h))

-- the words of frames, where those of the top one are taken apart
stack_parts : (w : FrameWords) (ws : List FrameWords) → stacked (w ∷ ws) ≡ (stacked ws ++ w.locals) ++ reverse (w.operands ++ reverse w.saved)
stack_parts w ws =
    sym (append_assoc (stacked ws) w.locals (w.saved ++ reverse w.operands))
    ∙ ap (λ (xs : List ℕ). (stacked ws ++ w.locals) ++ xs) (sym (reverse-append w.operands (reverse w.saved) ∙ ap (λ (xs : List ℕ). xs ++ reverse w.operands) (reverse-reverse w.saved)))

is_class : (k : Kind) (c : ℕ) → class_of k ≡ Some c → k ≡ OfClass c
is_class (OfClass d) c h = ap (λ (i : ℕ). OfClass i) (some_same d c h)
is_class (OfNumbers a) c h = absurd (none-some c h)
is_class (OfReferences k) c h = absurd (none-some c h)

-- a look-up, as the machine of the state does it
finds : (x : Sketch) (m : machine.MachineState) (place : ℕ) (words : List ℕ) (f : Switch) → x.cache ≡ m.cache → x.hits ≡ m.hits → x.misses ≡ m.misses → found_words x place ≡ words → code_words x.memory place ≡ length words
    → (hit : Bool) → is_cached place m.cache ≡ hit → FindsBy hit place words m (looked_up x place f)
finds x m place words f cache hits misses found count true is =
    let there : is_cached place x.cache ≡ true = ap (λ (c : Cache). is_cached place c) cache ∙ is in
    let none : missed place x.cache ≡ 0 = ap (λ (b : Bool). if b then 0 else 1) there in (
      ap (λ (b : Bool). if b then x.cache else loaded place (found_words x place) x.cache) there ∙ cache,
      ap (λ (b : Bool). if b then (x.hits + 1) % 2 ^ 64 else x.hits) there ∙ ap (λ (k : ℕ). (k + 1) % 2 ^ 64) hits,
      ap (λ (b : Bool). if b then x.misses else (x.misses + 1) % 2 ^ 64) there ∙ misses,
      none,
      ap (λ (k : ℕ). k * code_words x.memory place) none ∙ no_times (code_words x.memory place),
    )
  where
    no_times : (k : ℕ) → 0 * k ≡ 0
    no_times k = omega arith
finds x m place words f cache hits misses found count false is =
    let not_there : is_cached place x.cache ≡ false = ap (λ (c : Cache). is_cached place c) cache ∙ is in
    let one : missed place x.cache ≡ 1 = ap (λ (b : Bool). if b then 0 else 1) not_there in (
      ap (λ (b : Bool). if b then x.cache else loaded place (found_words x place) x.cache) not_there ∙ ap (λ (ws : List ℕ). loaded place ws x.cache) found ∙ ap (λ (c : Cache). loaded place words c) cache,
      ap (λ (b : Bool). if b then (x.hits + 1) % 2 ^ 64 else x.hits) not_there ∙ hits,
      ap (λ (b : Bool). if b then x.misses else (x.misses + 1) % 2 ^ 64) not_there ∙ ap (λ (k : ℕ). (k + 1) % 2 ^ 64) misses,
      one,
      ap (λ (k : ℕ). k * code_words x.memory place) one ∙ once (code_words x.memory place) ∙ count,
    )
  where
    once : (k : ℕ) → 1 * k ≡ k
    once k = omega arith

-- as many turns as the method has entries, and one for the frame
turns_found : (p : CostParams) → turns_at p (HANDLER_FOUND - 1) ≡ p.entries
turns_found p = refl

turns_end : (p : CostParams) → turns_at p (END - 1) ≡ 1
turns_end p = refl

module _ (laws : StateLaws) (P : Program) (pl : Places) (n size : ℕ) (m : machine.MachineState) (answer : Option ℕ) (s s' : State) (object : ℕ) (h : IsStep P pl n size m answer s s') (mode : s.mode ≡ Raising object) (linked : P.linked ≡ true) where
  abbrev pub top : Frame
  top = h.stands.top

  abbrev pub body : Body
  body = h.stands.body

  abbrev pub x : Sketch
  x = seen_raise P pl n size m s h.stands

  abbrev pub place : ℕ → ℕ
  place = object_place P pl s.objects

  abbrev pub k : ℕ
  k = pl.method top.method

  pub says_linked : SaysLinked P pl
  says_linked = subst (λ b. SaysAll b P pl) linked h.says.all

  pub sees : IsSeenRaising P pl n size m s h.stands object (raise_params m body) x
  sees = laws.seen P pl n size m answer s s' object h mode

  registers : (j : ℕ) → slice_index x.low (24 + j) ≡ slice_index (registers_of P pl n size s top (place object)) j
  registers j = sym (get_or-drop 24 x.low j 0) ∙ ap (λ (ws : List ℕ). slice_index ws j) sees.low

  method_is : method_of x ≡ k
  method_is = registers 1

  -- ---- the frames

  frames_formed : formed.AreFrames P (length s.objects) (top ∷ h.stands.callers)
  frames_formed = subst (λ (fs : List Frame). formed.AreFrames P (length s.objects) fs) h.stands.frames h.well_formed.frames

  frame_formed : formed.IsFrame P (length s.objects) top body
  frame_formed = holds_at (body_of P top.method) body (formed.IsFrame P (length s.objects) top) h.stands.is_body frames_formed.0

  frame_is : (f : Frame) (b : Body) → body_of P f.method ≡ Some b → frame_words P f ≡ body_words b
  frame_is f b e = ap (λ o. elim o [ None ↦ 0 | Some u ↦ body_words u ]) e

  sum_is : frames_words P s.frames ≡ body_words body + frames_words P h.stands.callers
  sum_is = ap (frames_words P) h.stands.frames ∙ sum_by-cons (frame_words P) top h.stands.callers ∙ ap (λ (j : ℕ). j + frames_words P h.stands.callers) (frame_is top body h.stands.is_body)

  -- the method, and what is read of it
  pub record Owned : Type 0 where
    method : Method
    is_method : slice_get P.methods top.method ≡ Some method
    is_body : method.body ≡ Some body
    read : IsRead P pl x method body k
    said : SaysMethod P pl top.method method body
    code : IsCode body.code

  owned : Owned
  owned =
      let j = onto_some (slice_get P.methods top.method) (λ (u : Method). u.body) body h.stands.is_body in
      record {
        method = j.0;
        is_method = j.1;
        is_body = j.2;
        read = laws.methods P pl n size m s h.stands x top.method j.0 body h.well_formed h.says linked j.1 j.2 refl refl;
        said = says_linked.methods top.method j.0 body j.1 j.2;
        code = subst (λ o. IfSome o (λ (u : Body). IsCode u.code)) h.stands.is_body (h.says.codes top.method);
      }

  -- ---- the object

  pub record Raised : Type 0 where
    o : Object
    there : slice_get s.objects object ≡ Some o
    kind : Kind
    is_kind : kind_of P o ≡ Some kind
    goes : unwound s object kind top h.stands.callers (handler_for P kind top.pc body.handlers) ≡ Some s'

  raised : Raised
  raised =
      let limits = limits_of P pl n size in
      let in_kind : Body → Object → Kind → Option State = λ b o j. unwound s object j top h.stands.callers (handler_for P j top.pc b.handlers) in
      let in_object : Body → Option State = λ b. onto (slice_get s.objects object) (λ o. onto (kind_of P o) (λ j. in_kind b o j)) in
      let steps : step P limits answer s ≡ onto (body_of P top.method) in_object =
      ap (λ (md : Ending). step_in P limits answer s s.frames md) mode ∙ ap (λ (fs : List Frame). step_in P limits answer s fs (Raising object)) h.stands.frames in
      let here : in_object body ≡ Some s' = sym (steps ∙ ap (λ b. onto b in_object) h.stands.is_body) ∙ h.step in
      let o = onto_some (slice_get s.objects object) (λ o. onto (kind_of P o) (λ j. in_kind body o j)) s' here in
      let j = onto_some (kind_of P o.0) (λ j. in_kind body o.0 j) s' o.2 in
      record { o = o.0; there = o.1; kind = j.0; is_kind = j.1; goes = j.2 }

  type_is : (r : Raised) → type_of x ≡ pl.type r.o.kind
  type_is r = ap (λ (i : ℕ). slice_index x.memory i) (registers 7) ∙ type_read laws.tables P pl n size m s object r.o h.stands h.well_formed r.there

  typed : (r : Raised) → HasType P m.port.words (pl.type r.o.kind) r.kind
  typed r = has_type laws.tables P pl n size m s r.o.kind r.kind h.stands h.well_formed says_linked r.is_kind

  -- ---- where it stands

  at_raise : IsAtRaise P pl m s top object
  at_raise = subst (λ (md : Ending). IsAt P pl m s top body md) mode h.stands.at

  inside : Inside body.code top.pc x.jpc
  inside =
      let i = some_is (instr_at P top.method top.pc) (λ i. (top.pc < m.jpc) × (m.jpc ≤ top.pc + i.length)) at_raise.jpc in
      record { instr = i.0; start = frame_formed.start; whole = decodes P top.method top.pc body i.0 h.stands.is_body i.1; from = i.2.0; to = i.2.1 }

  -- ---- its exception table

  table_of : (r : Raised) → HasTable x
  table_of r =
      let own = owned in
      let hs = has_handlers laws.tables P pl n size m s top.method own.method body (pl.type r.o.kind) r.kind h.stands h.well_formed own.said (typed r) own.code.some in
      let i = inside in
      let ends = (laws.within body.code top.pc i.instr i.whole).ends in
      let short = own.code.short in
      let to = i.to in
      let many : length (entries_of P body.handlers) ≡ length body.handlers = counted body.handlers in
      record {
        entries = entries_of P body.handlers;
        count = ap (λ (j : ℕ). slice_index x.memory (j + 3)) method_is ∙ hs.count ∙ sym many;
        are = subst (λ (t : ℕ). AreEntries x.memory t (method_of x + 4) (entries_of P body.handlers)) (sym (type_is r))
            (subst (λ (j : ℕ). AreEntries x.memory (pl.type r.o.kind) (j + 4) (entries_of P body.handlers)) (sym method_is) hs.are);
        small = omega (arith, method_is, many, hs.small);
        jpc = omega (arith, to, ends, short);
        turns = omega (arith, many, turns_found (raise_params m body));
      }
    where
      counted : (hs : List Handler) → length (entries_of P hs) ≡ length hs
      counted [] = refl
      counted (u ∷ hs) = ap (λ (j : ℕ). suc j) (counted hs)

  handler_found : (r : Raised) → handler_of x (table_of r) ≡ handler_for P r.kind top.pc body.handlers
  unfolding table_of
  handler_found r =
      ap (λ (t : ℕ). target_for x.memory t x.jpc (entries_of P body.handlers)) (type_is r) ∙ handler_is P body.code m.port.words (pl.type r.o.kind) r.kind top.pc x.jpc body.handlers (typed r) inside owned.said.entries

  is_raising : IsRaising n x (env_of m)
  is_raising = record {
    shape = sees.shape;
    mpc = sees.mpc;
    going = refl;
    running = sees.running;
    fine = refl;
    free = refl;
    idle = sees.starts.idle;
    loads = refl;
    loaded = refl;
    silent = refl;
    above = omega (arith, sees.above);
  }

  -- ---- its frame

  abbrev frame_of : (d : Saved) → h.stands.words.saved ≡ d.sp ∷ d.jpc ∷ d.vp ∷ d.pool ∷ d.method ∷ [] → HasFrame n x
  frame_of d is = record {
    below = stacked h.stands.below;
    locals = h.stands.words.locals;
    left = reverse h.stands.left;
    saved = d;
    deep = sees.deep;
    stack = sees.words ∙ ap (λ (ws : List ℕ). reverse h.stands.left ++ reverse ws) is;
    vp = h.stands.vp;
    locals_count = locals_are;
    place = place_small;
    found = found_is;
  }
    where
      locals_are : length h.stands.words.locals ≡ record_at.max_locals x.memory (method_of x)
      locals_are = sees.locals ∙ sym (ap (λ (j : ℕ). record_at.max_locals x.memory j) method_is ∙ owned.read.locals)

      place_small : x.vp + length h.stands.words.locals + 4 < 2 ^ 32
      place_small =
          let total = sees.shape.total in
          omega (arith, h.stands.vp, total, size_small n h.stands.sizes.is_size, ap (λ (ws : List ℕ). length ws) sees.deep, length-append (stacked h.stands.below) h.stands.words.locals)

      found_is : can_find x (method_of x) ≡ true
      found_is = ap (λ (j : ℕ). can_find x j) method_is ∙ owned.read.is_method.found

  -- ---- a handler is entered

  abbrev handled_at : (method : ℕ) → Saved → (target : ℕ) → Switch
  handled_at j d target = looked_up x j (record (as_it_stands x) { words = slice_index x.low 31 ∷ saved_words d; jpc = target })

  comes_to_handler : (r : Raised) (target : ℕ) → handler_for P r.kind top.pc body.handlers ≡ Some target → ComesTo P pl n size m s s'
  comes_to_handler r target is =
      let d = five h.stands.words.saved sees.saved in
      let frame = frame_of d.0 d.1 in
      let next : s' ≡ with_top s h.stands.callers (record top { pc = target; operands = Ref object ∷ [] }) =
      sym (some_same (with_top s h.stands.callers (record top { pc = target; operands = Ref object ∷ [] })) s' (sym (ap (λ o. unwound s object r.kind top h.stands.callers o) is) ∙ r.goes)) in
      let frames = ap (λ (u : State). u.frames) next in
      let well = subst (λ (fs : List Frame). formed.AreFrames P (length s'.objects) fs) frames h.next_well_formed.frames in
      let there = holds_at (body_of P top.method) body (formed.IsFrame P (length s'.objects) (record top { pc = target; operands = Ref object ∷ [] })) h.stands.is_body well.0 in
      let within = (laws.starts body.code).within_code target there.start in
      let code = owned.code.short in
      let run = laws.handlers_run n x (env_of m) target is_raising (table_of r) frame (handler_found r ∙ is) (omega (arith, within, code)) in
      let f = handled_at k d.0 target in
      let read = owned.read in
      let switches : Switches f x run.after = subst (λ (j : ℕ). Switches (handled_at j d.0 target) x run.after) method_is run.switches in
      laws.handlers_come P pl n size m answer s s' object target h f run.after mode run.reaches run.done switches (record {
        mode = ap (λ (u : State). u.mode) next;
        frames = frames;
        rest = record { objects = ap (λ (u : State). u.objects) next; statics = ap (λ (u : State). u.statics) next; answers = ap (λ (u : State). u.answers) next; output = ap (λ (u : State). u.output) next };
        stack = ap (λ (w : ℕ). w ∷ saved_words d.0) (registers 7) ∙ ap (λ (ws : List ℕ). place object ∷ reverse ws) (sym d.1);
        deep = refl;
        vp = refl;
        low = refl;
        memory = refl;
        jpc = refl;
        method = refl;
        found = finds x m k (words_of_bytes body.code) (handled_at k d.0 target) refl refl refl read.code read.code_count (is_cached k m.cache) refl;
        answers = refl;
        output = refl;
      })

  -- ---- the frame is dropped

  -- the caller, its words, and the place where it goes on
  pub record Caller (c : Frame) (cs : List Frame) (w : FrameWords) (ws : List FrameWords) : Type 0 where
    body_c : Body
    is_body : body_of P c.method ≡ Some body_c
    called : Instr
    is_called : instr_at P c.method c.pc ≡ Some called
    some : 1 ≤ called.length
    small : c.pc + called.length < 2 ^ 16
    few : length w.operands ≤ body_c.max_stack
    saved : h.stands.words.saved ≡ sp_over (w ∷ ws) ∷ (c.pc + called.length) ∷ vp_over ws ∷ pool_of P pl c.method ∷ pl.method c.method ∷ []
    five_saved : length w.saved ≡ 5
    deep : length (stacked (w ∷ ws)) ≤ 1024

  caller_of : (c : Frame) (cs : List Frame) (w : FrameWords) (ws : List FrameWords) → h.stands.callers ≡ c ∷ cs → h.stands.below ≡ w ∷ ws → Caller c cs w ws
  caller_of c cs w ws callers belows =
      let are = subst (λ (gs : List Frame). AreWordsOfFrames P pl place gs (w ∷ ws)) callers (subst (λ (vs : List FrameWords). AreWordsOfFrames P pl place h.stands.callers vs) belows h.stands.are_frames.1) in
      let saves = subst (λ (gs : List Frame). Saves P pl gs (w ∷ ws) h.stands.words.saved) callers (subst (λ (vs : List FrameWords). Saves P pl h.stands.callers vs h.stands.words.saved) belows h.stands.are_frames.0.saved) in
      let well = subst (λ (gs : List Frame). formed.AreFrames P (length s.objects) gs) callers frames_formed.1 in
      let b = some_is (body_of P c.method) (formed.IsFrame P (length s.objects) c) well.0 in
      let i = some_is (instr_at P c.method c.pc) (λ (i : Instr). h.stands.words.saved ≡ sp_over (w ∷ ws) ∷ (c.pc + i.length) ∷ vp_over ws ∷ pool_of P pl c.method ∷ pl.method c.method ∷ []) saves in
      let within = laws.within b.0.code c.pc i.0 (decodes P c.method c.pc b.0 i.0 b.1 i.1) in
      let ends = within.ends in
      let code = subst (λ o. IfSome o (λ (u : Body). IsCode u.code)) b.1 (h.says.codes c.method) in
      let words = laws.count place c.operands w.operands are.0.operands in
      let depth = b.2.depth in
      let room = laws.room P pl place (length s.objects) (c ∷ cs) (w ∷ ws) are well in
      let callers_sum : frames_words P h.stands.callers ≡ frames_words P (c ∷ cs) = ap (frames_words P) callers in
      record {
        body_c = b.0;
        is_body = b.1;
        called = i.0;
        is_called = i.1;
        some = omega (arith, within.not_empty);
        small = omega (arith, ends, code.short);
        few = omega (arith, words, depth);
        saved = i.2;
        five_saved = laws.saved P pl cs ws w.saved are.0.saved;
        deep = omega (arith, room, callers_sum, sum_is, h.well_formed.frame_sum, size_small n h.stands.sizes.is_size);
      }

  comes_to_caller : (r : Raised) (c : Frame) (cs : List Frame) (w : FrameWords) (ws : List FrameWords) → h.stands.callers ≡ c ∷ cs → h.stands.below ≡ w ∷ ws → handler_for P r.kind top.pc body.handlers ≡ None → ComesTo P pl n size m s s'
  comes_to_caller r c cs w ws callers belows none =
      let q = caller_of c cs w ws callers belows in
      let d : Saved = record { sp = sp_over (w ∷ ws); jpc = c.pc + q.called.length; vp = vp_over ws; pool = pool_of P pl c.method; method = pl.method c.method } in
      let frame = frame_of d q.saved in
      let lower = stacked ws ++ w.locals in
      let words = w.operands ++ reverse w.saved in
      let next : s' ≡ raising s c cs object =
      sym (some_same (raising s c cs object) s' (sym (ap (λ o. unwound s object r.kind top h.stands.callers o) none ∙ ap (λ (gs : List Frame). unwound s object r.kind top gs None) callers) ∙ r.goes)) in
      let parts : stacked h.stands.below ≡ lower ++ reverse words = ap stacked belows ∙ stack_parts w ws in
      let long = ap (λ (zs : List ℕ). length zs) (stack_parts w ws) ∙ length-append lower (reverse words) in
      let many = length-append w.operands (reverse w.saved) in
      let turned = length-reverse words in
      let saved_long = length-reverse w.saved in
      let five_saved = q.five_saved in
      let lower_long = length-append (stacked ws) w.locals in
      let vp : x.vp ≡ 64 + length (stacked (w ∷ ws)) = h.stands.vp ∙ ap vp_over belows in
      let sum : slice_index x.low 28 ≡ frames_words P s.frames = registers 4 in
      let own = owned in
      let frame_is_read : record_at.frame_words x.memory (method_of x) ≡ body_words body = ap (λ (j : ℕ). record_at.frame_words x.memory j) method_is ∙ omega (arith, own.read.locals, own.read.stack) in
      let sizes = size_small n h.stands.sizes.is_size in
      let most = h.well_formed.frame_sum in
      let caller : HasCaller n x frame = record {
        lower = lower;
        words = words;
        is = parts;
        some = omega (arith, many, saved_long, five_saved);
        saved_sp = omega (arith, vp, long, turned, many, saved_long, five_saved);
        saved_jpc = q.small;
        from = omega arith;
        to = omega (arith, lower_long);
        sum = omega (arith, frame_is_read, sum, sum_is);
        sums = omega (arith, sum, most, sizes);
        turn = omega (arith, turns_end (raise_params m body));
      } in
      let run = laws.frames_drop n x (env_of m) is_raising (table_of r) frame caller (handler_found r ∙ none) in
      let y = run.after in
      let left_words = slice_index x.low 28 - record_at.frame_words x.memory (method_of x) in
      let callers_sum : frames_words P h.stands.callers ≡ frame_words P c + frames_words P cs = ap (frames_words P) callers ∙ sum_by-cons (frame_words P) c cs in
      let still : left_words ≡ frames_words P s'.frames =
      omega (arith, sum, frame_is_read, sum_is, callers_sum, sum_by-cons (frame_words P) (record c { operands = [] }) cs) ∙ ap (λ (u : State). frames_words P u.frames) (sym next) in
      let end : end_of P pl s.objects ≡ end_of P pl s'.objects = ap (λ (u : State). end_of P pl u.objects) (sym next) in
      laws.drops_come P pl n size m answer s s' object h y mode run.reaches run.done (record {
        caller = c;
        others = cs;
        words = w;
        below = ws;
        callers = callers;
        belows = belows;
        body = q.body_c;
        is_body = q.is_body;
        called = q.called;
        is_called = q.is_called;
        some = q.some;
        few = q.few;
        mode = ap (λ (u : State). u.mode) next;
        frames = ap (λ (u : State). u.frames) next;
        rest = record { objects = ap (λ (u : State). u.objects) next; statics = ap (λ (u : State). u.statics) next; answers = ap (λ (u : State). u.answers) next; output = ap (λ (u : State). u.output) next };
        mpc = run.drops.mpc;
        running = run.drops.running;
        stack = run.drops.words;
        deep = run.drops.deep;
        vp = run.drops.vp;
        low = run.drops.low ∙ ap (λ (zs : List ℕ). with_method d.pool d.method left_words zs) sees.low
            ∙ (λ i. d.pool ∷ d.method ∷ end i ∷ size ∷ still i ∷ (n - 80) ∷ pl.raise_list ∷ place object ∷ []);
        memory = run.drops.memory;
        jpc = run.drops.jpc;
        answers = run.drops.answers;
        output = run.drops.output;
        cache = run.drops.cache;
        hits = run.drops.hits;
        misses = run.drops.misses;
        loads = run.drops.loads;
        loaded = run.drops.loaded;
      })

  -- ---- boot's frame stays

  comes_to_end : (r : Raised) → h.stands.callers ≡ [] → h.stands.below ≡ [] → handler_for P r.kind top.pc body.handlers ≡ None → ComesTo P pl n size m s s'
  comes_to_end r callers belows none =
      let ends : ℕ → State = λ c. record s { frames = top ∷ []; mode = Uncaught c } in
      let c = onto_some (class_of r.kind) (λ c. Some (ends c)) s' (sym (ap (λ o. unwound s object r.kind top h.stands.callers o) none ∙ ap (λ (gs : List Frame). unwound s object r.kind top gs None) callers) ∙ r.goes) in
      let next : s' ≡ ends c.0 = sym (some_same (ends c.0) s' c.2) in
      let vp : x.vp ≡ 64 = h.stands.vp ∙ ap vp_over belows in
      let run = laws.last_stops n x (env_of m) is_raising (table_of r) vp (handler_found r ∙ none) in
      laws.uncaught_come P pl n size m answer s s' object c.0 r.o h run.after mode run.reaches run.done run.halts (ap (λ (u : State). u.mode) next)
      (ap (λ (u : State). u.frames) next ∙ sym (h.stands.frames ∙ ap (λ (gs : List Frame). top ∷ gs) callers))
      (record { objects = ap (λ (u : State). u.objects) next; statics = ap (λ (u : State). u.statics) next; answers = ap (λ (u : State). u.answers) next; output = ap (λ (u : State). u.output) next })
      r.there (r.is_kind ∙ ap (λ (j : Kind). Some j) (is_class r.kind c.0 c.1))

  -- ---- all of it

  by_callers : (r : Raised) → handler_for P r.kind top.pc body.handlers ≡ None → (cs : List Frame) (ws : List FrameWords) → h.stands.callers ≡ cs → h.stands.below ≡ ws → ComesTo P pl n size m s s'
  by_callers r none [] [] callers belows = comes_to_end r callers belows none
  by_callers r none [] (w ∷ ws) callers belows =
      absurd (subst (λ (gs : List Frame). AreWordsOfFrames P pl place gs (w ∷ ws)) callers (subst (λ (vs : List FrameWords). AreWordsOfFrames P pl place h.stands.callers vs) belows h.stands.are_frames.1))
  by_callers r none (c ∷ cs) [] callers belows =
      absurd (subst (λ (gs : List Frame). AreWordsOfFrames P pl place gs []) callers (subst (λ (vs : List FrameWords). AreWordsOfFrames P pl place h.stands.callers vs) belows h.stands.are_frames.1))
  by_callers r none (c ∷ cs) (w ∷ ws) callers belows = comes_to_caller r c cs w ws callers belows none

  pub step_comes : ComesTo P pl n size m s s'
  step_comes = let r = raised in by r (handler_for P r.kind top.pc body.handlers) refl
    where
      by : (r : Raised) (o : Option ℕ) → handler_for P r.kind top.pc body.handlers ≡ o → ComesTo P pl n size m s s'
      by r (Some target) e = comes_to_handler r target e
      by r None e = by_callers r e h.stands.callers h.stands.below refl refl

pub unwinds : StateLaws → Unwinds
unwinds laws P pl n size m answer s s' object h mode linked = step_comes laws P pl n size m answer s s' object h mode linked
