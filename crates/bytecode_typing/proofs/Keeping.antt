-- A state that fits and hasn't ended has a next state, which fits.
use Rattle.std.proofs.Common.{zero, suc, ◌≡◌, ℕ, ◌+◌, ◌≤◌, Bool, true, false, List, [], ◌∷◌, ◌++◌, Option, Some, None, refl, sym, ap, ◌∙◌, subst, length, arith}
use Rattle.std.specs.Prelude.{◌&&◌, nat_le, IfSome, slice_get, if◌then◌else◌}
use Rattle.std.specs.Option.{IsSomeAnd}
use Rattle.std.proofs.lemmas.Bool.{leb-true}
use Rattle.std.proofs.lemmas.List.Sums.{sum_by-cons}
use Rattle.opcodes.specs.declared.instruction.Instr.{Instr}
use Rattle.bytecode_model.specs.declared.Value.{Value}
use Rattle.bytecode_model.specs.declared.Value.TheVariants.{Ref}
use Rattle.bytecode_model.specs.declared.Ending.{Ending}
use Rattle.bytecode_model.specs.declared.Ending.TheVariants.{Running, Raising, Ended, Uncaught}
use Rattle.bytecode_model.specs.Lists.{onto, replaced}
use Rattle.bytecode_model.specs.Types.{Kind, OfClass, OfNumbers, OfReferences, Declared}
use Rattle.bytecode_model.specs.State.{Object, Frame, State}
use Rattle.bytecode_model.specs.Program.{Program, Limits, Method, Body, Handler, body_of, instr_at, kind_of, is_of, throwable_class}
use Rattle.bytecode_model.specs.Rows.{Row}
use Rattle.bytecode_model.specs.Sizes.{value_words, object_words, made_words, header_words, frame_words, frames_words}
use Rattle.bytecode_model.specs.Table.{row_of}
use Rattle.bytecode_model.specs.Effects.{Effect, Stuck, Go, Make, WritePart, WriteStatic, Take, Give, Call, Leave, Raise, StackOverflowError, fault_object, effect}
use Rattle.bytecode_model.specs.Steps.{first_frame, with_top, raising, with_result, resumed, left, written, applied, row_in, handler_for, class_of, unwound, step_in, step, run_from}
use Rattle.bytecode_model.specs.WellFormed.{AreSpaced, IsInput, first_method}
use Rattle.bytecode_typing.specs.Tests.{Holds, AllTwo}
use Rattle.bytecode_typing.specs.Types.{VarType, ReferenceTo, TypeFrame, result_types}
use Rattle.bytecode_typing.specs.Assignable.{flows_to}
use Rattle.bytecode_typing.specs.Walk.{caught_kind, is_throwable, covers, is_handled, handlers_hold}
use Rattle.bytecode_typing.specs.Typed.{Typing, Typed, IsTypedAt}
use Rattle.bytecode_typing.specs.Fits.{may_be, kind_in, Has, HasItem, HasDeclared, HasResult, ObjectFits, BeginWith, numbers_of, IsThrowable, FrameFits, TopFits, Waits, CallersFit, FramesFit, Fits, IsGoing as Going}
use Rattle.bytecode_typing.specs.Lawful.{Lawful}
use Rattle.bytecode_typing.proofs.Relations.{both_left, both_right, some_in, some_is, some_at, at_some, there_at, onto_is, onto_some, onto_back, weaken_two, replaced_two}
use Rattle.bytecode_typing.proofs.Hierarchy.{is_may_be}
use Rattle.bytecode_typing.proofs.Values.{grow, grow_declared, from_declared}
use Rattle.bytecode_typing.proofs.Parts.{kind_at, object_at, numbers_append, begin_append, begin_put, numbers_put, put_all, put_there, written_is, put_made, append_made, grow_objects, replaced_length, replaced_sum}
use Rattle.bytecode_typing.proofs.Pairs.{IsGoing, EffectFits, arrive}
use Rattle.bytecode_typing.proofs.EachRow.{row_fits}

first_same : (f g : Frame) (fs : List Frame) → f.method ≡ g.method → first_method (f ∷ fs) ≡ first_method (g ∷ fs)
first_same f g [] e = ap Some e
first_same f g (h ∷ fs) e = refl

abbrev first_of_row : ℕ → Option (ℕ × Row) → ℕ
first_of_row n None = n
first_of_row n (Some x) = x.0

-- the instruction of a row
pub row_instr : (P : Program) (n pc next : ℕ) (row : Row) → row_in P n pc ≡ Some (next, row) → (i : Instr) × (instr_at P n pc ≡ Some i) × (next ≡ pc + i.length)
row_instr P n pc next row e =
    let (b, eb, e2) = onto_back (body_of P n) _ (next, row) e in
    let (i, ei, e3) = onto_back (instr_at P n pc) _ (next, row) e2 in
    let (r, er, e4) = onto_back (row_of b.code i (P.operand n pc)) _ (next, row) e3 in
    (i, ei, sym (ap (first_of_row next) e4))

module _ (P : Program) (types : Typing) where
  pub top_of : (m : Method) (b : Body) (f : Frame) (ks : List ℕ) (pc : ℕ) (ls ops : List Value) → slice_get P.methods f.method ≡ Some m → m.body ≡ Some b → IsGoing P types f.method m b ks pc ls ops → TopFits P types ks (record f { pc = pc; locals = ls; operands = ops })
  top_of m b f ks pc ls ops em eb g = record {
    fits = record {
      method = m;
      at_method = em;
      body = b;
      at_body = eb;
      frame = g.frame;
      at_place = g.at_place;
      count = g.count;
      spaced = g.spaced;
      locals = g.locals;
    };
    operands = g.operands;
  }

  -- without operands
  abbrev bare_frame : (ks : List ℕ) (f : Frame) (ops : List Value) → FrameFits P types ks f → FrameFits P types ks (record f { operands = ops })
  bare_frame ks f ops h = record {
    method = h.method;
    at_method = h.at_method;
    body = h.body;
    at_body = h.at_body;
    frame = h.frame;
    at_place = h.at_place;
    count = h.count;
    spaced = h.spaced;
    locals = h.locals;
  }

  -- ---- with more objects

  abbrev grow_frame : (ks more : List ℕ) (f : Frame) → FrameFits P types ks f → FrameFits P types (ks ++ more) f
  grow_frame ks more f h = record {
    method = h.method;
    at_method = h.at_method;
    body = h.body;
    at_body = h.at_body;
    frame = h.frame;
    at_place = h.at_place;
    count = h.count;
    spaced = h.spaced;
    locals = weaken_two (Has P f.method h.method ks) (Has P f.method h.method (ks ++ more)) (λ u v g. grow P f.method h.method ks more u v g) h.frame.locals f.locals h.locals;
  }

  grow_waits : (ks more : List ℕ) (callee : ℕ) (f : Frame) → Waits P types ks callee f → Waits P types (ks ++ more) callee f
  grow_waits ks more callee f w = record {
    fits = grow_frame ks more f w.fits;
    next = w.next;
    row = w.row;
    at_invoke = w.at_invoke;
    may_call = w.may_call;
    after = w.after;
    rest = w.rest;
    flows = w.flows;
    locals = weaken_two (Has P f.method w.fits.method ks) (Has P f.method w.fits.method (ks ++ more)) (λ u v g. grow P f.method w.fits.method ks more u v g) w.after.locals f.locals w.locals;
    stack = w.stack;
    operands = weaken_two (HasItem P f.method w.fits.method ks) (HasItem P f.method w.fits.method (ks ++ more)) (λ u v g. (grow P f.method w.fits.method ks more u v g.0, g.1)) w.rest f.operands w.operands;
  }

  grow_callers : (ks more : List ℕ) (callee : ℕ) (fs : List Frame) → CallersFit P types ks callee fs → CallersFit P types (ks ++ more) callee fs
  grow_callers ks more callee [] h = tt
  grow_callers ks more callee (f ∷ fs) h = (grow_waits ks more callee f h.0, grow_callers ks more f.method fs h.1)

  -- what a method gives lies on what was left below its arguments
  results : (n : ℕ) (m : Method) (ks : List ℕ) (d : Option Declared) (r : Option Value) (rest : List VarType) (ops : List Value) → HasResult P ks d r → AllTwo (HasItem P n m ks) rest ops → AllTwo (HasItem P n m ks) (result_types d ++ rest) (with_result r ops)
  results n m ks None None rest ops h k = k
  results n m ks None (Some v) rest ops h k = absurd h
  results n m ks (Some d) None rest ops h k = absurd h
  results n m ks (Some d) (Some v) rest ops h k = (from_declared P n m ks d v h, k)

-- one state
module _ (P : Program) (types : Typing) (law : Lawful P) (typed : Typed P types) (limits : Limits) (s : State)
    (fit : (p : ℕ) → IfSome (slice_get s.objects p) (ObjectFits P (numbers_of s.objects))) (start : BeginWith P.first_objects s.objects) (statics : AllTwo (HasDeclared P (numbers_of s.objects)) P.statics s.statics) (heap : made_words P s ≤ limits.heap) where
  abbrev ks : List ℕ
  ks = numbers_of s.objects

  abbrev Fitting : State → Type 0
  Fitting u = Fits P types limits u

  -- the same objects and statics, with other frames
  going : (f : Frame) (callers : List Frame) (answers : List (Option ℕ)) (output : List ℕ) → TopFits P types ks f → CallersFit P types ks f.method callers → first_method (f ∷ callers) ≡ Some P.boot → frames_words P (f ∷ callers) ≤ limits.frames → Fitting (record s { frames = f ∷ callers; answers = answers; output = output; mode = Running })
  going f callers answers output h hc e l = record {
    frames = (h, hc);
    boot = e;
    objects = fit;
    first = start;
    statics = statics;
    frame_sum = l;
    heap_sum = heap;
  }

  raise_fits : (f : Frame) (callers : List Frame) (p : ℕ) → FrameFits P types ks f → CallersFit P types ks f.method callers → first_method (f ∷ callers) ≡ Some P.boot → frames_words P (f ∷ callers) ≤ limits.frames → IsThrowable P ks p → Fitting (raising s f callers p)
  raise_fits f callers p h hc e l x = record {
    frames = ((bare_frame P types ks f [] h, refl, x), hc);
    boot = first_same (record f { operands = [] }) f callers refl ∙ e;
    objects = fit;
    first = start;
    statics = statics;
    frame_sum = l;
    heap_sum = heap;
  }

  tail_sum : (f : Frame) (fs : List Frame) → frames_words P (f ∷ fs) ≤ limits.frames → frames_words P fs ≤ limits.frames
  tail_sum f fs l = let e = sum_by-cons (frame_words P) f fs in omega (arith, e, l)

  -- ---- leaving a method

  resumed_fits : (f : Frame) (m : Method) (r : Option Value) (c : Frame) (callers : List Frame) → slice_get P.methods f.method ≡ Some m → CallersFit P types ks f.method (c ∷ callers) → first_method (c ∷ callers) ≡ Some P.boot → frames_words P (f ∷ c ∷ callers) ≤ limits.frames → HasResult P ks m.result r → IsSomeAnd (onto (resumed P c r) (λ d. Some (with_top s callers d))) Fitting
  resumed_fits f m r c callers em hc e l hr =
      let w = hc.0 in
      let (i, ei, en) = row_instr P c.method c.pc w.next w.row w.at_invoke in
      let d : Frame = record c { pc = c.pc + i.length; operands = with_result r c.operands } in
      let es = at_some (slice_get P.methods f.method) m _ em w.stack in
      let ops : AllTwo (HasItem P c.method w.fits.method ks) w.after.stack (with_result r c.operands) = subst (λ ts. AllTwo (HasItem P c.method w.fits.method ks) ts (with_result r c.operands)) (sym es) (results P types c.method w.fits.method ks m.result r w.rest c.operands hr w.operands) in
      let g = arrive P types law c.method w.fits.method w.fits.body ks (c.pc + i.length) w.after c.locals (with_result r c.operands) (subst (λ (n : ℕ). Holds (flows_to P w.after (types c.method n))) en w.flows) w.fits.count w.fits.spaced w.locals ops in
      onto_some (resumed P c r) d (λ d. Some (with_top s callers d)) Fitting (onto_is (instr_at P c.method c.pc) i (λ i. Some (record c { pc = c.pc + i.length; operands = with_result r c.operands })) (Some d) ei refl)
      (going d callers s.answers s.output (top_of P types w.fits.method w.fits.body c ks (c.pc + i.length) c.locals (with_result r c.operands) w.fits.at_method w.fits.at_body g) hc.1 (first_same d c callers refl ∙ e) (tail_sum f (c ∷ callers) l))

  some_same : (x y : ℕ) → Some x ≡ Some y → x ≡ y
  some_same x y e = cc

  left_fits : (f : Frame) (m : Method) (r : Option Value) (callers : List Frame) → slice_get P.methods f.method ≡ Some m → TopFits P types ks f → CallersFit P types ks f.method callers → first_method (f ∷ callers) ≡ Some P.boot → frames_words P (f ∷ callers) ≤ limits.frames → HasResult P ks m.result r → IsSomeAnd (left P s f r callers) Fitting
  left_fits f m None [] em h hc e l hr = record {
    frames = (h, tt);
    boot = e;
    objects = fit;
    first = start;
    statics = statics;
    frame_sum = l;
    heap_sum = heap;
  }
  left_fits f m (Some v) [] em h hc e l hr =
      let is : f.method ≡ P.boot = some_same f.method P.boot e in
      let b = at_some (slice_get P.methods P.boot) m _ (ap (λ (n : ℕ). slice_get P.methods n) (sym is) ∙ em) law.boot in
      absurd (subst (λ (d : Option Declared). HasResult P ks d (Some v)) b.1 hr)
  left_fits f m None (c ∷ callers) em h hc e l hr = resumed_fits f m None c callers em hc e l hr
  left_fits f m (Some v) (c ∷ callers) em h hc e l hr = resumed_fits f m (Some v) c callers em hc e l hr

  -- ---- an effect

  room_fits : (f g : Frame) (callers : List Frame) (c : ℕ) (x : Bool) → nat_le (frames_words P (g ∷ f ∷ callers)) limits.frames ≡ x → g.method ≡ c → TopFits P types ks g → Waits P types ks c f → CallersFit P types ks f.method callers → first_method (f ∷ callers) ≡ Some P.boot → frames_words P (f ∷ callers) ≤ limits.frames → IsThrowable P ks (fault_object StackOverflowError)
      → Fitting (if x then with_top s (f ∷ callers) g else raising s f callers (fault_object StackOverflowError))
  room_fits f g callers c true e is h w hc eb l over =
      going g (f ∷ callers) s.answers s.output h (subst (λ (c : ℕ). Waits P types ks c f) (sym is) w, hc) eb (leb-true (frames_words P (g ∷ f ∷ callers)) limits.frames e)
  room_fits f g callers c false e is h w hc eb l over = raise_fits f callers (fault_object StackOverflowError) w.fits hc eb l over

  module _ (answer : Option ℕ) (is_answer : IsInput answer) (f : Frame) (m : Method) (b : Body) (callers : List Frame) (em : slice_get P.methods f.method ≡ Some m) (eb : m.body ≡ Some b) (top : TopFits P types ks f) (hc : CallersFit P types ks f.method callers) (boot : first_method (f ∷ callers) ≡ Some P.boot) (room : frames_words P (f ∷ callers) ≤ limits.frames) where
    gone : (answers : List (Option ℕ)) (output : List ℕ) (pc : ℕ) (ls ops : List Value) → IsGoing P types f.method m b ks pc ls ops → Fitting (record s { frames = record f { pc = pc; locals = ls; operands = ops } ∷ callers; answers = answers; output = output; mode = Running })
    gone answers output pc ls ops g =
        going (record f { pc = pc; locals = ls; operands = ops }) callers answers output (top_of P types m b f ks pc ls ops em eb g) hc (first_same (record f { pc = pc; locals = ls; operands = ops }) f callers refl ∙ boot) room

    made_fits : (o : Object) (pc : ℕ) (ls ops : List Value) → EffectFits P types limits s m b f (Make o pc ls ops) → Fitting (with_top (record s { objects = s.objects ++ o ∷ [] }) callers (record f { pc = pc; locals = ls; operands = Ref (length s.objects) ∷ ops }))
    made_fits o pc ls ops h =
        let more : numbers_of (s.objects ++ o ∷ []) ≡ ks ++ o.kind ∷ [] = numbers_append P s.objects (o ∷ []) in
        let d : Frame = record f { pc = pc; locals = ls; operands = Ref (length s.objects) ∷ ops } in
        record {
          frames = subst (λ js. FramesFit P types js Running (d ∷ callers)) (sym more) (top_of P types m b f (ks ++ o.kind ∷ []) pc ls (Ref (length s.objects) ∷ ops) em eb h.2, grow_callers P types ks (o.kind ∷ []) f.method callers hc);
          boot = first_same d f callers refl ∙ boot;
          objects = subst (λ js. (p : ℕ) → IfSome (slice_get (s.objects ++ o ∷ []) p) (ObjectFits P js)) (sym more) (grow_objects P s.objects o ks (o.kind ∷ []) fit h.0);
          first = begin_append P P.first_objects s.objects (o ∷ []) start;
          statics = subst (λ js. AllTwo (HasDeclared P js) P.statics s.statics) (sym more) (weaken_two (HasDeclared P ks) (HasDeclared P (ks ++ o.kind ∷ [])) (λ d v g. grow_declared P ks (o.kind ∷ []) d v g) P.statics s.statics statics);
          frame_sum = room;
          heap_sum = subst (λ (n : ℕ). n ≤ limits.heap) (sym (append_made P P.first_objects s.objects o start)) h.1;
        }

    part_fits : (p k : ℕ) (v : Value) (pc : ℕ) (ls ops : List Value) → EffectFits P types limits s m b f (WritePart p k v pc ls ops) → IsSomeAnd (applied P limits answer s f callers (WritePart p k v pc ls ops)) Fitting
    part_fits p k v pc ls ops h =
        let w = h.0 in
        let (zs, ez) = put_there P s.objects p w.object (record w.object { parts = w.parts }) w.at_object in
        let same = numbers_put P s.objects zs p w.object w.parts w.at_object ez in
        let d : Frame = record f { pc = pc; locals = ls; operands = ops } in
        let words : object_words P w.object ≡ object_words P (record w.object { parts = w.parts }) =
        ap (λ (n : ℕ). header_words (kind_of P w.object) + n) (sym (replaced_sum value_words w.object.parts w.parts k w.old v w.at_part w.put w.words)) in
        onto_some (written s.objects p k v) zs _ Fitting (written_is P s.objects p k v w.object w.parts zs w.at_object w.put ez)
        (record {
          frames = subst (λ js. FramesFit P types js Running (d ∷ callers)) (sym same) (top_of P types m b f ks pc ls ops em eb h.1, hc);
          boot = first_same d f callers refl ∙ boot;
          objects = subst (λ js. (q : ℕ) → IfSome (slice_get zs q) (ObjectFits P js)) (sym same) (put_all P (ObjectFits P ks) s.objects zs p (record w.object { parts = w.parts }) fit w.fits ez);
          first = begin_put P P.first_objects s.objects zs p w.object w.parts w.at_object (replaced_length w.object.parts w.parts k v w.put) ez start;
          statics = subst (λ js. AllTwo (HasDeclared P js) P.statics s.statics) (sym same) statics;
          frame_sum = room;
          heap_sum = subst (λ (n : ℕ). n ≤ limits.heap) (sym (put_made P (length P.first_objects) s.objects zs p w.object (record w.object { parts = w.parts }) w.at_object words ez)) heap;
        })

    static_fits : (k : ℕ) (v : Value) (pc : ℕ) (ls ops : List Value) → EffectFits P types limits s m b f (WriteStatic k v pc ls ops) → IsSomeAnd (applied P limits answer s f callers (WriteStatic k v pc ls ops)) Fitting
    static_fits k v pc ls ops h =
        let (d, ed, hv) = some_is (slice_get P.statics k) _ h.0 in
        let (zs, ez, hz, l) = replaced_two (HasDeclared P ks) P.statics s.statics k d v statics ed hv in
        let g : Frame = record f { pc = pc; locals = ls; operands = ops } in
        onto_some (replaced s.statics k v) zs _ Fitting ez
        (record {
          frames = (top_of P types m b f ks pc ls ops em eb h.1, hc);
          boot = first_same g f callers refl ∙ boot;
          objects = fit;
          first = start;
          statics = hz;
          frame_sum = room;
          heap_sum = heap;
        })

    applied_fits : (e : Effect) → EffectFits P types limits s m b f e → IsSomeAnd (applied P limits answer s f callers e) Fitting
    applied_fits Stuck h = absurd h
    applied_fits (Go pc ls ops) h = gone s.answers s.output pc ls ops h
    applied_fits (Make o pc ls ops) h = made_fits o pc ls ops h
    applied_fits (WritePart p k v pc ls ops) h = part_fits p k v pc ls ops h
    applied_fits (WriteStatic k v pc ls ops) h = static_fits k v pc ls ops h
    applied_fits (Take pc ls ops) h = gone (s.answers ++ answer ∷ []) s.output pc ls _ (h answer is_answer)
    applied_fits (Give byte pc ls ops) h = gone s.answers (s.output ++ byte ∷ []) pc ls ops h
    applied_fits (Call c args ops) h =
        let g = h.0 in
        let d : Frame = record f { operands = ops } in
        onto_some (first_frame P c args) g.frame _ Fitting g.is_first
        (room_fits d g.frame callers c (nat_le (frames_words P (g.frame ∷ d ∷ callers)) limits.frames) refl g.is_of_method g.fits h.1 hc (first_same d f callers refl ∙ boot) room h.2)
    applied_fits (Leave r) h = left_fits f m r callers em top hc boot room h
    applied_fits (Raise p) h = raise_fits f callers p top.fits hc boot room h

  -- ---- raising

  -- the first handler that covers the place and catches the object takes it
  handler_fits : (n p pc : ℕ) (m : Method) (b : Body) (kind : Kind) (t : TypeFrame) (ls : List Value) (hs : List Handler) → IsSomeAnd (kind_in P ks p) (λ k. k ≡ kind) → Holds (is_of P kind (OfClass throwable_class)) → length ls ≡ b.max_locals → AreSpaced ls → AllTwo (Has P n m ks) t.locals ls → Holds (handlers_hold P (types n) pc t hs) → IfSome (handler_for P kind pc hs) (λ target. IsGoing P types n m b ks target ls (Ref p ∷ []))
  handler_fits n p pc m b kind t ls [] hk ht count spaced hl h = tt
  handler_fits n p pc m b kind t ls (x ∷ hs) hk ht count spaced hl h =
      here (covers pc x) (elim x.caught [ None ↦ true | Some l ↦ is_of P kind l ]) (both_left (if covers pc x then is_handled P (types n) t x else true) _ h) (caught x.caught) (handler_fits n p pc m b kind t ls hs hk ht count spaced hl (both_right (if covers pc x then is_handled P (types n) t x else true) _ h))
    where
      caught : (c : Option Kind) → Holds (elim c as (λ _. Bool) [ None ↦ true | Some l ↦ is_of P kind l ]) → HasItem P n m ks (ReferenceTo (caught_kind c)) (Ref p)
      caught None g = (some_in (kind_in P ks p) _ _ hk (λ k e. subst (λ k. Holds (may_be P k (OfClass throwable_class))) (sym e) (is_may_be P kind (OfClass throwable_class) ht)), refl)
      caught (Some l) g = (some_in (kind_in P ks p) _ _ hk (λ k e. subst (λ k. Holds (may_be P k l)) (sym e) (is_may_be P kind l g)), refl)

      here : (a c : Bool) → Holds (if a then is_handled P (types n) t x else true) → (Holds c → HasItem P n m ks (ReferenceTo (caught_kind x.caught)) (Ref p)) → IfSome (handler_for P kind pc hs) (λ target. IsGoing P types n m b ks target ls (Ref p ∷ []))
          → IfSome (if a && c then Some x.target else handler_for P kind pc hs) (λ target. IsGoing P types n m b ks target ls (Ref p ∷ []))
      here true true fl g r = arrive P types law n m b ks x.target (record t { stack = ReferenceTo (caught_kind x.caught) ∷ [] }) ls (Ref p ∷ []) (both_right (is_throwable P x.caught) _ fl) count spaced hl (g tt, tt)
      here true false fl g r = r
      here false c fl g r = r

  class_known : (kind : Kind) → Holds (is_of P kind (OfClass throwable_class)) → (c : ℕ) × (class_of kind ≡ Some c)
  class_known (OfClass c) h = (c, refl)
  class_known (OfNumbers a) h = absurd h
  class_known (OfReferences k) h = absurd h

  unwound_fits : (p : ℕ) (kind : Kind) (f : Frame) (m : Method) (b : Body) (callers : List Frame) (o : Option ℕ) → slice_get P.methods f.method ≡ Some m → m.body ≡ Some b → FrameFits P types ks f → f.operands ≡ [] → IsThrowable P ks p → Holds (is_of P kind (OfClass throwable_class)) → CallersFit P types ks f.method callers → first_method (f ∷ callers) ≡ Some P.boot → frames_words P (f ∷ callers) ≤ limits.frames
      → IfSome o (λ target. IsGoing P types f.method m b ks target f.locals (Ref p ∷ [])) → IsSomeAnd (unwound s p kind f callers o) Fitting
  unwound_fits p kind f m b callers (Some target) em eb h ho ht hk hc e l g =
      let d : Frame = record f { pc = target; operands = Ref p ∷ [] } in
      going d callers s.answers s.output (top_of P types m b f ks target f.locals (Ref p ∷ []) em eb g) hc (first_same d f callers refl ∙ e) l
  unwound_fits p kind f m b (c ∷ callers) None em eb h ho ht hk hc e l g = raise_fits c callers p hc.0.fits hc.1 e (tail_sum f (c ∷ callers) l) ht
  unwound_fits p kind f m b [] None em eb h ho ht hk hc e l g =
      let (c, ec) = class_known kind hk in
      onto_some (class_of kind) c (λ c. Some (record s { frames = f ∷ []; mode = Uncaught c })) Fitting ec
      (record {
        frames = ((h, ho), tt);
        boot = e;
        objects = fit;
        first = start;
        statics = statics;
        frame_sum = l;
        heap_sum = heap;
      })

  -- ---- the step

  body_is : (n : ℕ) (m : Method) (b : Body) → slice_get P.methods n ≡ Some m → m.body ≡ Some b → body_of P n ≡ Some b
  body_is n m b em eb = onto_is (slice_get P.methods n) m (λ k. k.body) (Some b) em eb

  typed_at : (n pc : ℕ) (m : Method) (b : Body) (t : TypeFrame) → slice_get P.methods n ≡ Some m → m.body ≡ Some b → types n pc ≡ Some t → IsTypedAt P n m b (types n) pc t
  typed_at n pc m b t em eb et = there_at (types n pc) t _ et ((typed.methods n m b em eb).places pc)

  step_fits : (answer : Option ℕ) → IsInput answer → (mode : Ending) (frames : List Frame) → Going mode → FramesFit P types ks mode frames → first_method frames ≡ Some P.boot → frames_words P frames ≤ limits.frames → IsSomeAnd (step_in P limits answer s frames mode) Fitting
  step_fits answer ia Running (f ∷ callers) g h e l =
      let top = h.0 in
      let fr = top.fits in
      let at = typed_at f.method f.pc fr.method fr.body fr.frame fr.at_method fr.at_body fr.at_place in
      let (x, ex, c) = some_is (row_in P f.method f.pc) _ at.row in
      let resolved = there_at (row_in P f.method f.pc) x _ ex (law.rows f.method fr.method fr.body fr.at_method fr.at_body f.pc at.start) in
      let quiet = λ (z : P.linked ≡ false). at_some (row_in P f.method f.pc) x _ ex (there_at (types f.method f.pc) fr.frame _ fr.at_place (typed.quiet z f.method f.pc)) in
      onto_some (row_in P f.method f.pc) x (λ x. applied P limits answer s f callers (effect P limits s f x.0 x.1)) Fitting ex
      (applied_fits answer ia f fr.method fr.body callers fr.at_method fr.at_body top h.1 e l (effect P limits s f x.0 x.1)
      (row_fits P types law typed limits s fr.method fr.body f fr.frame fr.at_method fr.at_body fr.at_place fr.count fr.spaced fr.locals top.operands x.0 fit start statics P.linked x.1 refl quiet ex resolved c))
  step_fits answer ia (Raising p) (f ∷ callers) g h e l =
      let fr = h.0.0 in
      let at = typed_at f.method f.pc fr.method fr.body fr.frame fr.at_method fr.at_body fr.at_place in
      let (o, eo, ho) = object_at P s.objects p _ h.0.2 in
      let (kind, ek, hk) = some_is (kind_of P o) _ ho in
      onto_some (body_of P f.method) fr.body _ Fitting (body_is f.method fr.method fr.body fr.at_method fr.at_body)
      (onto_some (slice_get s.objects p) o _ Fitting eo
      (onto_some (kind_of P o) kind _ Fitting ek
      (unwound_fits p kind f fr.method fr.body callers (handler_for P kind f.pc fr.body.handlers) fr.at_method fr.at_body fr h.0.1 h.0.2 hk h.1 e l
      (handler_fits f.method p f.pc fr.method fr.body kind fr.frame f.locals fr.body.handlers (kind_at P s.objects p o (λ k. k ≡ kind) eo (some_at (kind_of P o) kind (λ k. k ≡ kind) ek refl)) hk fr.count fr.spaced fr.locals at.handlers))))
  step_fits answer ia mode [] g h e l = absurd h
  step_fits answer ia Ended (f ∷ fs) g h e l = absurd g
  step_fits answer ia (Uncaught c) (f ∷ fs) g h e l = absurd g

pub keeps : (P : Program) (types : Typing) (limits : Limits) → Lawful P → Typed P types → (s : State) → Going s.mode → Fits P types limits s → (answer : Option ℕ) → IsInput answer → IsSomeAnd (step P limits answer s) (Fits P types limits)
keeps P types limits law typed s g h answer ia = step_fits P types law typed limits s h.objects h.first h.statics h.heap_sum answer ia s.mode s.frames g h.frames h.boot h.frame_sum

-- ---- runs

going_on : (P : Program) (types : Typing) (limits : Limits) → Lawful P → Typed P types → (t : State) → Fits P types limits t → (answer : Option ℕ) → IsInput answer → (o : Option State) → step P limits answer t ≡ o → IfSome o (Fits P types limits)
going_on P types limits law typed t h answer ia o e = by_mode t.mode refl
  where
    is_there : (o : Option State) → IsSomeAnd o (Fits P types limits) → IfSome o (Fits P types limits)
    is_there None g = absurd g
    is_there (Some u) g = g

    none : (frames : List Frame) → step_in P limits answer t frames Ended ≡ None
    none [] = refl
    none (f ∷ fs) = refl

    caught : (c : ℕ) (frames : List Frame) → step_in P limits answer t frames (Uncaught c) ≡ None
    caught c [] = refl
    caught c (f ∷ fs) = refl

    go : Going t.mode → IfSome o (Fits P types limits)
    go g = subst (λ o. IfSome o (Fits P types limits)) e (is_there (step P limits answer t) (keeps P types limits law typed t g h answer ia))

    by_mode : (mode : Ending) → t.mode ≡ mode → IfSome o (Fits P types limits)
    by_mode Running em = go (subst Going (sym em) tt)
    by_mode (Raising p) em = go (subst Going (sym em) tt)
    by_mode Ended em = let n : o ≡ None = sym e ∙ ap (λ (mode : Ending). step_in P limits answer t t.frames mode) em ∙ none t.frames in subst (λ o. IfSome o (Fits P types limits)) (sym n) tt
    by_mode (Uncaught c) em = let n : o ≡ None = sym e ∙ ap (λ (mode : Ending). step_in P limits answer t t.frames mode) em ∙ caught c t.frames in subst (λ o. IfSome o (Fits P types limits)) (sym n) tt

pub runs_fit : (P : Program) (types : Typing) (limits : Limits) → Lawful P → Typed P types → (input : ℕ → Option ℕ) → ((k : ℕ) → IsInput (input k)) → (s : State) → Fits P types limits s → (n : ℕ) → Fits P types limits (run_from P limits input s n)
unfolding run_from
runs_fit P types limits law typed input answers s h zero = h
runs_fit P types limits law typed input answers s h (suc n) =
    let t = run_from P limits input s n in
    let g = runs_fit P types limits law typed input answers s h n in
    pick t g (step P limits (input (length t.answers)) t) (going_on P types limits law typed t g (input (length t.answers)) (answers (length t.answers)) (step P limits (input (length t.answers)) t) refl)
  where
    pick : (t : State) → Fits P types limits t → (o : Option State) → IfSome o (Fits P types limits) → Fits P types limits (elim o as (λ _. State) [ None ↦ t | Some u ↦ u ])
    pick t g None k = g
    pick t g (Some u) k = k
