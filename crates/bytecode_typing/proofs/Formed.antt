-- A state that fits is well formed.
use Rattle.std.proofs.Common.{◌≡◌, ℕ, zero, suc, ◌+◌, ◌≤◌, Bool, true, List, [], ◌∷◌, ◌++◌, Option, Some, None, refl, sym, ap, ◌∙◌, subst, length, map, take, replicate, arith}
use Rattle.std.specs.Prelude.{◌&&◌, IfSome, slice_get, sum_by, if◌then◌else◌}
use Rattle.std.specs.Option.{IsSomeAnd}
use Rattle.std.proofs.lemmas.List.Sums.{sum_by-cons, sum_by-append}
use Rattle.bytecode_model.specs.declared.Value.{Value}
use Rattle.bytecode_model.specs.declared.Value.TheVariants.{Null, Unset}
use Rattle.bytecode_model.specs.declared.Ending.{Ending}
use Rattle.bytecode_model.specs.declared.Ending.TheVariants.{Running, Raising, Ended, Uncaught}
use Rattle.bytecode_model.specs.Types.{NumberType, IntType, LongType, Kind, OfClass, OfNumbers, OfReferences, Declared, Numeric, Reference, is_long, zero_of, default, element_type}
use Rattle.bytecode_model.specs.State.{Object, Frame, State}
use Rattle.bytecode_model.specs.Program.{Program, Limits, Method, Body, body_of, kind_of}
use Rattle.bytecode_model.specs.Rows.{Row, CallStatic, CallSpecial, CallVirtual, CallInterface}
use Rattle.bytecode_model.specs.Sizes.{value_words}
use Rattle.bytecode_model.specs.Steps.{row_in}
use Rattle.bytecode_model.specs.WellFormed.{AreValues, AreAlike, first_parts, IsLength, IsObject, AreObjects, IsFrame, AreFrames, is_call, AreCallers, callers_of, ModeFits, shape_of, IsWellFormed}
use Rattle.bytecode_typing.specs.Tests.{Holds, AllTwo, all_two}
use Rattle.bytecode_typing.specs.Types.{VarType, TypeFrame, is_long_type, type_words, stack_words, type_of, result_types}
use Rattle.bytecode_typing.specs.Assignable.{is_assignable, is_assignable_item, keeps_flag, flows_to}
use Rattle.bytecode_typing.specs.Typed.{Typing, Typed, IsTypedAt}
use Rattle.bytecode_typing.specs.Fits.{Has, HasItem, HasDeclared, HasEach, PartsFit, ObjectFits, BeginWith, numbers_of, FrameFits, TopFits, MayHaveCalled, Waits, CallersFit, FramesFit, Fits}
use Rattle.bytecode_typing.proofs.Relations.{both_left, both_right, some_in, some_at, there_at, onto_is}
use Rattle.bytecode_typing.proofs.Hierarchy.{kind_below}
use Rattle.bytecode_typing.proofs.Values.{bool_same, declared_value, declared_long, declared_set, has_value}
use Rattle.bytecode_typing.proofs.Parts.{numbers_length}

-- ---- values, fields and elements

pub default_long : (d : Declared) → is_long (default d) ≡ is_long_type (type_of d)
default_long (Numeric IntType) = refl
default_long (Numeric LongType) = refl
default_long (Reference k) = refl

module _ (P : Program) (ks : List ℕ) where
  not_unset : (d : Declared) (v : Value) → HasDeclared P ks d v → v ≡ Unset → ⊥
  not_unset d v h e = declared_set P ks d (subst (λ v. HasDeclared P ks d v) e h)

  alike_one : (d : Declared) (v : Value) → HasDeclared P ks d v → is_long v ≡ is_long (default d)
  alike_one d v h = declared_long P ks d v h ∙ sym (default_long d)

  fields_alike : (ds : List Declared) (vs : List Value) → AllTwo (HasDeclared P ks) ds vs → AreAlike vs (map default ds)
  fields_alike [] [] h = tt
  fields_alike [] (v ∷ vs) h = absurd h
  fields_alike (d ∷ ds) [] h = absurd h
  fields_alike (d ∷ ds) (v ∷ vs) h = (alike_one d v h.0, not_unset d v h.0, fields_alike ds vs h.1)

  each_alike : (d : Declared) (z : Value) (vs : List Value) → is_long z ≡ is_long_type (type_of d) → HasEach P ks d vs → AreAlike vs (replicate (length vs) z)
  each_alike d z [] e h = tt
  each_alike d z (v ∷ vs) e h = (declared_long P ks d v h.0 ∙ sym e, not_unset d v h.0, each_alike d z vs e h.1)

  field_values : (ds : List Declared) (vs : List Value) → AllTwo (HasDeclared P ks) ds vs → AreValues (length ks) vs
  field_values [] [] h = tt
  field_values [] (v ∷ vs) h = absurd h
  field_values (d ∷ ds) [] h = absurd h
  field_values (d ∷ ds) (v ∷ vs) h = (declared_value P ks d v h.0, field_values ds vs h.1)

  each_values : (d : Declared) (vs : List Value) → HasEach P ks d vs → AreValues (length ks) vs
  each_values d [] h = tt
  each_values d (v ∷ vs) h = (declared_value P ks d v h.0, each_values d vs h.1)

  zero_long : (t : NumberType) → is_long (zero_of t) ≡ is_long_type (type_of (Numeric t))
  zero_long IntType = refl
  zero_long LongType = refl

  parts_values : (k : Kind) (vs : List Value) → PartsFit P ks k vs → AreValues (length ks) vs
  parts_values (OfClass c) vs h = field_values (P.fields c) vs h.1
  parts_values (OfNumbers a) vs h = each_values (Numeric (element_type a)) vs h.1
  parts_values (OfReferences k) vs h = each_values (Reference k) vs h.1

  parts_shape : (k : Kind) (vs : List Value) → PartsFit P ks k vs → AreAlike vs (first_parts P k (length vs)) × IsLength k (length vs)
  parts_shape (OfClass c) vs h = (fields_alike (P.fields c) vs h.1, tt)
  parts_shape (OfNumbers a) vs h = (each_alike (Numeric (element_type a)) (zero_of (element_type a)) vs (zero_long (element_type a)) h.1, h.0)
  parts_shape (OfReferences k) vs h = (each_alike (Reference k) Null vs refl h.1, h.0)

  object_formed : (o : Object) → ObjectFits P ks o → IsObject P (length ks) o
  object_formed o h = record {
    values = values (kind_of P o) h;
    shape = some_in (kind_of P o) _ _ h (λ k g. parts_shape k o.parts g);
  }
    where
      values : (q : Option Kind) → IsSomeAnd q (λ k. PartsFit P ks k o.parts) → AreValues (length ks) o.parts
      values None g = absurd g
      values (Some k) g = parts_values k o.parts g

  objects_formed : (os : List Object) → ((p : ℕ) → IfSome (slice_get os p) (ObjectFits P ks)) → AreObjects P (length ks) os
  objects_formed [] h = tt
  objects_formed (o ∷ os) h = (object_formed o (h zero), objects_formed os (λ p. h (suc p)))

  -- ---- frames

  local_values : (n : ℕ) (m : Method) (ts : List VarType) (vs : List Value) → AllTwo (Has P n m ks) ts vs → AreValues (length ks) vs
  local_values n m [] [] h = tt
  local_values n m [] (v ∷ vs) h = absurd h
  local_values n m (t ∷ ts) [] h = absurd h
  local_values n m (t ∷ ts) (v ∷ vs) h = (has_value P n m ks t v h.0, local_values n m ts vs h.1)

  item_values : (n : ℕ) (m : Method) (ts : List VarType) (vs : List Value) → AllTwo (HasItem P n m ks) ts vs → AreValues (length ks) vs
  item_values n m [] [] h = tt
  item_values n m [] (v ∷ vs) h = absurd h
  item_values n m (t ∷ ts) [] h = absurd h
  item_values n m (t ∷ ts) (v ∷ vs) h = (has_value P n m ks t v h.0.0, item_values n m ts vs h.1)

  word_same : (t : VarType) (v : Value) → is_long v ≡ is_long_type t → value_words v ≡ type_words t
  word_same t v e = ap (λ (b : Bool). if b then 2 else 1) e

  -- operands take as many words as their types
  words_same : (n : ℕ) (m : Method) (ts : List VarType) (vs : List Value) → AllTwo (HasItem P n m ks) ts vs → sum_by value_words vs ≡ stack_words ts
  words_same n m [] [] h = refl
  words_same n m [] (v ∷ vs) h = absurd h
  words_same n m (t ∷ ts) [] h = absurd h
  words_same n m (t ∷ ts) (v ∷ vs) h =
      sum_by-cons value_words v vs ∙ ap (λ (a : ℕ). a + sum_by value_words vs) (word_same t v h.0.1) ∙ ap (λ (a : ℕ). type_words t + a) (words_same n m ts vs h.1) ∙ sym (sum_by-cons type_words t ts)

-- a stack takes as many words as one to which it is assignable
assigned_words : (P : Program) (ts us : List VarType) → Holds (all_two (is_assignable_item P) ts us) → stack_words ts ≡ stack_words us
assigned_words P [] [] h = refl
assigned_words P [] (u ∷ us) h = absurd h
assigned_words P (t ∷ ts) [] h = absurd h
assigned_words P (t ∷ ts) (u ∷ us) h =
    sum_by-cons type_words t ts
    ∙ ap (λ (a : ℕ). a + stack_words ts) (ap (λ (b : Bool). if b then 2 else 1) (bool_same (is_long_type t) (is_long_type u) (both_right (is_assignable P t u) _ (both_left (is_assignable_item P t u) _ h))))
    ∙ ap (λ (a : ℕ). type_words u + a) (assigned_words P ts us (both_right (is_assignable_item P t u) _ h)) ∙ sym (sum_by-cons type_words u us)

pub shapes_begin : (xs os : List Object) → BeginWith xs os → map shape_of (take (length xs) os) ≡ map shape_of xs
shapes_begin [] [] h = refl
shapes_begin [] (o ∷ os) h = refl
shapes_begin (x ∷ xs) [] h = absurd h
shapes_begin (x ∷ xs) (o ∷ os) h = both o.kind x.kind (length o.parts) (length x.parts) h.0 h.1 (shapes_begin xs os h.2)
  where
    both : (a b c d : ℕ) → a ≡ b → c ≡ d → map shape_of (take (length xs) os) ≡ map shape_of xs → ((a, c) ∷ map shape_of (take (length xs) os)) ≡ ((b, d) ∷ map shape_of xs)
    both a b c d e f g = cc

module _ (P : Program) (types : Typing) (typed : Typed P types) (ks : List ℕ) where
  typed_at : (n pc : ℕ) (m : Method) (b : Body) (t : TypeFrame) → slice_get P.methods n ≡ Some m → m.body ≡ Some b → types n pc ≡ Some t → IsTypedAt P n m b (types n) pc t
  typed_at n pc m b t em eb et = there_at (types n pc) t _ et ((typed.methods n m b em eb).places pc)

  -- a frame whose operands take no more words than the typing allows
  frame_formed : (f : Frame) (h : FrameFits P types ks f) → AreValues (length ks) f.operands → sum_by value_words f.operands ≤ h.body.max_stack → IsSomeAnd (body_of P f.method) (IsFrame P (length ks) f)
  frame_formed f h ops depth =
      some_at (body_of P f.method) h.body _ (onto_is (slice_get P.methods f.method) h.method (λ k. k.body) (Some h.body) h.at_method h.at_body)
      (record {
        locals = h.count;
        spaced = h.spaced;
        local_values = local_values P ks f.method h.method h.frame.locals f.locals h.locals;
        operand_values = ops;
        depth = depth;
        start = (typed_at f.method f.pc h.method h.body h.frame h.at_method h.at_body h.at_place).start;
      })

  top_formed : (f : Frame) → TopFits P types ks f → IsSomeAnd (body_of P f.method) (IsFrame P (length ks) f)
  top_formed f h =
      let fr = h.fits in
      let room = (typed_at f.method f.pc fr.method fr.body fr.frame fr.at_method fr.at_body fr.at_place).room in
      frame_formed f fr (item_values P ks f.method fr.method fr.frame.stack f.operands h.operands) (subst (λ (a : ℕ). a ≤ fr.body.max_stack) (sym (words_same P ks f.method fr.method fr.frame.stack f.operands h.operands)) room)

  empty_formed : (f : Frame) → FrameFits P types ks f → f.operands ≡ [] → IsSomeAnd (body_of P f.method) (IsFrame P (length ks) f)
  empty_formed f h e = frame_formed f h (subst (AreValues (length ks)) (sym e) tt) (subst (λ (vs : List Value). sum_by value_words vs ≤ h.body.max_stack) (sym e) (omega arith))

  -- what is left below the arguments is no deeper than the stack behind the invoke
  caller_depth : (o : Option TypeFrame) (n pc : ℕ) (m : Method) (b : Body) (g : TypeFrame) → slice_get P.methods n ≡ Some m → m.body ≡ Some b → types n pc ≡ o → Holds (flows_to P g o) → stack_words g.stack ≤ b.max_stack
  caller_depth None n pc m b g em eb e h = absurd h
  caller_depth (Some t) n pc m b g em eb e h =
      let items = both_right (all_two (is_assignable P) g.locals t.locals) _ (both_left (all_two (is_assignable P) g.locals t.locals && all_two (is_assignable_item P) g.stack t.stack) (keeps_flag g.flag t.flag) h) in
      subst (λ (a : ℕ). a ≤ b.max_stack) (sym (assigned_words P g.stack t.stack items)) (typed_at n pc m b t em eb e).room

  rest_depth : (n : ℕ) (o : Option Method) (st rest : List VarType) → IsSomeAnd o (λ k. st ≡ result_types k.result ++ rest) → stack_words st ≤ n → stack_words rest ≤ n
  rest_depth n None st rest h l = absurd h
  rest_depth n (Some k) st rest h l =
      let e = ap stack_words h in let a = sum_by-append type_words (result_types k.result) rest in omega (arith, e, a, l)

  caller_formed : (callee : ℕ) (f : Frame) → Waits P types ks callee f → IsSomeAnd (body_of P f.method) (IsFrame P (length ks) f)
  caller_formed callee f w =
      let fr = w.fits in
      let depth = rest_depth fr.body.max_stack (slice_get P.methods callee) w.after.stack w.rest w.stack (caller_depth (types f.method w.next) f.method w.next fr.method fr.body w.after fr.at_method fr.at_body refl w.flows) in
      frame_formed f fr (item_values P ks f.method fr.method w.rest f.operands w.operands) (subst (λ (a : ℕ). a ≤ fr.body.max_stack) (sym (words_same P ks f.method fr.method w.rest f.operands w.operands)) depth)

  callers_formed : (callee : ℕ) (fs : List Frame) → CallersFit P types ks callee fs → AreFrames P (length ks) fs
  callers_formed callee [] h = tt
  callers_formed callee (f ∷ fs) h = (caller_formed callee f h.0, callers_formed f.method fs h.1)

  calls : (row : Row) (callee : ℕ) → MayHaveCalled P row callee → is_call row ≡ true
  calls (CallStatic c) callee h = refl
  calls (CallSpecial named c) callee h = refl
  calls (CallVirtual named c) callee h = refl
  calls (CallInterface named c) callee h = refl
  calls row callee h = absurd h

  callers_call : (callee : ℕ) (fs : List Frame) → CallersFit P types ks callee fs → AreCallers P fs
  callers_call callee [] h = tt
  callers_call callee (f ∷ fs) h = (some_at (row_in P f.method f.pc) (h.0.next, h.0.row) _ h.0.at_invoke (calls h.0.row callee h.0.may_call), callers_call f.method fs h.1)

  frames_formed : (mode : Ending) (fs : List Frame) → FramesFit P types ks mode fs → AreFrames P (length ks) fs
  frames_formed mode [] h = absurd h
  frames_formed Running (f ∷ fs) h = (top_formed f h.0, callers_formed f.method fs h.1)
  frames_formed Ended (f ∷ fs) h = (top_formed f h.0, callers_formed f.method fs h.1)
  frames_formed (Raising p) (f ∷ fs) h = (empty_formed f h.0.0 h.0.1, callers_formed f.method fs h.1)
  frames_formed (Uncaught c) (f ∷ fs) h = (empty_formed f h.0.0 h.0.1, callers_formed f.method fs h.1)

  waiting : (mode : Ending) (fs : List Frame) → FramesFit P types ks mode fs → AreCallers P (callers_of fs)
  waiting mode [] h = absurd h
  waiting mode (f ∷ fs) h = callers_call f.method fs h.1

  mode_formed : (mode : Ending) (fs : List Frame) → FramesFit P types ks mode fs → ModeFits (length ks) fs mode
  mode_formed mode [] h = absurd h
  mode_formed Running (f ∷ fs) h = tt
  mode_formed Ended (f ∷ fs) h = tt
  mode_formed (Raising p) (f ∷ fs) h = (kind_below P ks p _ h.0.2, h.0.1)
  mode_formed (Uncaught c) (f ∷ fs) h = h.0.1

pub formed : (P : Program) (types : Typing) (limits : Limits) → Typed P types → (s : State) → Fits P types limits s → IsWellFormed P limits s
formed P types limits typed s h =
    let ks = numbers_of s.objects in
    let same : length ks ≡ length s.objects = numbers_length P s.objects in
    record {
      first = shapes_begin P.first_objects s.objects h.first;
      objects = subst (λ (n : ℕ). AreObjects P n s.objects) same (objects_formed P ks s.objects h.objects);
      statics = fields_alike P ks P.statics s.statics h.statics;
      static_values = subst (λ (n : ℕ). AreValues n s.statics) same (field_values P ks P.statics s.statics h.statics);
      frames = subst (λ (n : ℕ). AreFrames P n s.frames) same (frames_formed P types typed ks s.mode s.frames h.frames);
      callers = waiting P types typed ks s.mode s.frames h.frames;
      boot = h.boot;
      mode = subst (λ (n : ℕ). ModeFits n s.frames s.mode) same (mode_formed P types typed ks s.mode s.frames h.frames);
      frame_sum = h.frame_sum;
      heap_sum = h.heap_sum;
    }
