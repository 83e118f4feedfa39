-- What a step does to the top frame's visits, and what it writes.
use Rattle.std.proofs.Common.{◌≡◌, ℕ, ◌+◌, Bool, true, false, List, [], ◌∷◌, ◌++◌, length, Option, Some, None, slice_get, refl, sym, ap, ◌∙◌, subst, IsSomeAnd}
use Rattle.std.specs.Prelude.{if◌then◌else◌, nat_le}
use Rattle.opcodes.specs.Start.{IsStart}
use Rattle.bytecode_model.specs.declared.Value.{Value}
use Rattle.bytecode_model.specs.declared.Value.TheVariants.{Ref}
use Rattle.bytecode_model.specs.declared.Ending.{Ending}
use Rattle.bytecode_model.specs.declared.Ending.TheVariants.{Running, Raising, Ended, Uncaught}
use Rattle.bytecode_model.specs.Lists.{onto, replaced}
use Rattle.bytecode_model.specs.Types.{Kind, is_long}
use Rattle.bytecode_model.specs.Sizes.{frames_words}
use Rattle.bytecode_model.specs.State.{Object, Frame, State}
use Rattle.bytecode_model.specs.Program.{Program, Limits, body_of, instr_at, kind_of}
use Rattle.bytecode_model.specs.Rows as rows
use Rattle.bytecode_model.specs.Rows.{Row}
use Rattle.bytecode_model.specs.Effects.{Effect, Stuck, Go, Make, WritePart, WriteStatic, Take, Give, Call, Leave, Raise, StackOverflowError, fault_object, effect}
use Rattle.bytecode_model.specs.Steps.{first_frame, with_top, raising, called, with_result, resumed, left, written, answered, applied, row_in, row_at, handler_for, class_of, unwound, step_in}
use Rattle.bytecode_model.specs.WellFormed.{AreSpaced}
use Rattle.lists.proofs.Lemmas.{none≢some, onto_some, some_same}
use Rattle.method_flow.specs.Nodes.{Node, At, RaiseAt}
use Rattle.method_flow.specs.Shapes.{node_of, IsGoingOn}
use Rattle.code_lines.specs.Lines.{IsLine, Writes}
use Rattle.loop_rules.specs.Further.Known.{Known}
use Rattle.method_runs.specs.Standing.{last_node}
use Rattle.counted_laws.specs.Visits.{Visit, visit_of, HoldsValue, DidRow}
use Rattle.counted_laws.specs.Paths.{HoldKnown}
use Rattle.counted_laws.proofs.Lengths.{Written, was_written}
use Rattle.counted_laws.proofs.Doing.{KeepsValues, MadeBy, WrittenBy, Tame, tame, Comes, does}

-- what is known of two visits but for the edge between them and for lengths
pub record Facts (P : Program) (known : Known) (m : ℕ) (a b : Visit) : Type 0 where
  pub does : (p next : ℕ) (r : Row) → a.node ≡ At p → row_in P m p ≡ Some (next, r) → DidRow P known r p next a b
  pub keeps : (k : ℕ) (v : Value) → is_long v ≡ false → HoldsValue a.locals k v → ((p : ℕ) → a.node ≡ At p → Writes P m p k → ⊥) → HoldsValue b.locals k v

-- the frame f, over these callers, was the top one, where there were these objects, and t is the next state
pub data Did (P : Program) (known : Known) (objects : List Object) (mode : Ending) (f : Frame) (callers : List Frame) (t : State) : Type 0 where
  within : (top : Frame) → t.frames ≡ top ∷ callers → IsGoingOn t.mode → Facts P known f.method (visit_of (node_of mode f) objects f) (visit_of (node_of t.mode top) t.objects top) → Did P known objects mode f callers t
  made : (top waiting : Frame) → t.frames ≡ top ∷ waiting ∷ callers → IsGoingOn t.mode → waiting.locals ≡ f.locals → Did P known objects mode f callers t
  gone : (caller : Frame) (others : List Frame) (top : Frame) → callers ≡ caller ∷ others → t.frames ≡ top ∷ others → IsGoingOn t.mode → top.locals ≡ caller.locals → Did P known objects mode f callers t
  over : t.frames ≡ f ∷ [] → (IsGoingOn t.mode → ⊥) → last_node t.mode f ≡ last_node mode f → t.objects ≡ objects → Did P known objects mode f callers t

-- which objects it made, and what it wrote of objects and static fields
pub data Wrote (P : Program) (mode : Ending) (s : State) (f : Frame) (t : State) : Type 0 where
  nothing : t.objects ≡ s.objects → t.statics ≡ s.statics → Wrote P mode s f t
  one : (o : Object) → MadeBy P o → t.objects ≡ s.objects ++ o ∷ [] → t.statics ≡ s.statics → Wrote P mode s f t
  part : (next : ℕ) (r : Row) (p k : ℕ) (v : Value) → mode ≡ Running → IsLine P f.method f.pc next r → WrittenBy P s f r p k v → Written s.objects p k v t.objects → t.statics ≡ s.statics → Wrote P mode s f t
  static : (next k : ℕ) (v : Value) (rest : List Value) → mode ≡ Running → IsLine P f.method f.pc next (rows.PutStatic k) → f.operands ≡ v ∷ rest → replaced s.statics k v ≡ Some t.statics → t.objects ≡ s.objects
      → Wrote P mode s f t

place_of : Node → ℕ
place_of (At p) = p
place_of (RaiseAt p) = p

pub at_same : (p q : ℕ) → At p ≡ At q → p ≡ q
unfolding place_of
at_same p q e = ap place_of e

pub at_or_raise : (p q : ℕ) → RaiseAt p ≡ At q → ⊥
at_or_raise p q e = absurd (cc)

-- a step, and what it wrote
abbrev pub Result : Program → Known → Ending → State → Frame → List Frame → State → Type 0
Result P known mode s f callers t = Did P known s.objects mode f callers t × Wrote P mode s f t

module _ (P : Program) (limits : Limits) (known : Known) (answer : Option ℕ) (s t : State) (f : Frame) (callers : List Frame) (hold : HoldKnown P known s)
    (start : IsSomeAnd (body_of P f.method) (λ b. IsStart b.code f.pc)) where
  abbrev Done : Ending → Type 0
  Done mode = Result P known mode s f callers t

  -- a state is the next one
  to : (mode : Ending) (u : State) → ◌≡◌ {A = Option State} (Some u) (Some t) → Result P known mode s f callers u → Done mode
  to mode u e h = subst (λ (x : State). Result P known mode s f callers x) (some_same u t e) h

  module _ (next : ℕ) (r : Row) (row : row_at P f ≡ Some (next, r)) (spaced : AreSpaced f.locals) where
    line : IsLine P f.method f.pc next r
    line = record { start = start; is = row }

    -- the facts, by the row
    facts : (b : Visit) → DidRow P known r f.pc next (visit_of (At f.pc) s.objects f) b → KeepsValues r f.locals b.locals → Facts P known f.method (visit_of (At f.pc) s.objects f) b
    facts b doing keeping = record {
      does = λ p after q at is.
          let place : f.pc ≡ p = at_same f.pc p at in
          let here : row_in P f.method f.pc ≡ Some (after, q) = subst (λ (x : ℕ). row_in P f.method x ≡ Some (after, q)) (sym place) is in
          let pair : (next, r) ≡ (after, q) = some_same (next, r) (after, q) (sym row ∙ here) in
          let D : ℕ × Row → Type 0 = λ x. DidRow P known x.1 f.pc x.0 (visit_of (At f.pc) s.objects f) b in
          subst (λ (x : ℕ). DidRow P known q x after (visit_of (At f.pc) s.objects f) b) place (subst D pair doing);
      keeps = λ k v short holds none. keeping k v short holds (λ c. none f.pc refl (next, r, line, c));
    }

    abbrev e : Effect
    e = effect P limits s f next r

    abbrev Behind : Visit → Type 0
    Behind b = Comes s.objects f.pc e b

    abbrev doing : (b : Visit) → Behind b → DidRow P known r f.pc next (visit_of (At f.pc) s.objects f) b
    doing b c = does P limits known s f next hold b r c

    -- within the method
    goes : (u : State) (top : Frame) → ◌≡◌ {A = Option State} (Some u) (Some t) → u.frames ≡ top ∷ callers → u.mode ≡ Running → Wrote P Running s f u → Behind (visit_of (At top.pc) u.objects top) → KeepsValues r f.locals top.locals
        → Done Running
    goes u top same frames mode wrote behind keeping =
        let F : Ending → Type 0 = λ x. Facts P known f.method (visit_of (At f.pc) s.objects f) (visit_of (node_of x top) u.objects top) in
        to Running u same (within top frames (subst IsGoingOn (sym mode) tt) (subst F (sym mode) (facts (visit_of (At top.pc) u.objects top) (doing (visit_of (At top.pc) u.objects top) behind) keeping)), wrote)

    raises : (u : State) (top : Frame) (p : ℕ) → ◌≡◌ {A = Option State} (Some u) (Some t) → u.frames ≡ top ∷ callers → u.mode ≡ Raising p → Wrote P Running s f u → Behind (visit_of (RaiseAt top.pc) u.objects top) → top.locals ≡ f.locals
        → Done Running
    raises u top p same frames mode wrote behind locals =
        let F : Ending → Type 0 = λ x. Facts P known f.method (visit_of (At f.pc) s.objects f) (visit_of (node_of x top) u.objects top) in
        let keeping : KeepsValues r f.locals top.locals = λ k v short holds none. subst (λ (ls : List Value). HoldsValue ls k v) (sym locals) holds in
        to Running u same (within top frames (subst IsGoingOn (sym mode) tt) (subst F (sym mode) (facts (visit_of (RaiseAt top.pc) u.objects top) (doing (visit_of (RaiseAt top.pc) u.objects top) behind) keeping)), wrote)

    -- back to a caller
    back : (result : Option Value) (c : Frame) (others : List Frame) → callers ≡ c ∷ others → onto (resumed P c result) (λ d. Some (with_top s others d)) ≡ Some t → Done Running
    back result c others are h =
        let x = onto_some (resumed P c result) (λ d. Some (with_top s others d)) t h in
        let i = onto_some (instr_at P c.method c.pc) (λ i. Some (record c { pc = c.pc + i.length; operands = with_result result c.operands })) x.0 x.1 in
        let d : Frame = record c { pc = c.pc + i.0.length; operands = with_result result c.operands } in
        let same : d ≡ x.0 = some_same d x.0 i.2 in
        to Running (with_top s others x.0) x.2 (gone c others x.0 are refl tt (ap (λ (y : Frame). y.locals) (sym same)), nothing refl refl)

    leaves : (result : Option Value) (cs : List Frame) → callers ≡ cs → left P s f result cs ≡ Some t → Done Running
    leaves None [] are h = to Running (record s { frames = f ∷ []; mode = Ended }) h (over refl (λ x. x) refl refl, nothing refl refl)
    leaves (Some v) [] are h = absurd (none≢some t h)
    leaves None (c ∷ others) are h = back None c others are h
    leaves (Some v) (c ∷ others) are h = back (Some v) c others are h

    enters : (g w : Frame) (b : Bool) → w.locals ≡ f.locals → Behind (visit_of (RaiseAt w.pc) s.objects (record w { operands = [] }))
        → ◌≡◌ {A = Option State} (Some (if b then with_top s (w ∷ callers) g else raising s w callers (fault_object StackOverflowError))) (Some t) → Done Running
    enters g w true locals behind h = to Running (with_top s (w ∷ callers) g) h (made g w refl tt locals, nothing refl refl)
    enters g w false locals behind h =
        raises (raising s w callers (fault_object StackOverflowError)) (record w { operands = [] }) (fault_object StackOverflowError) h refl refl (nothing refl refl) behind locals

    -- a static field is written
    puts : (k : ℕ) (v : Value) (vs : List Value) (top : Frame) → replaced s.statics k v ≡ Some vs → r ≡ rows.PutStatic k → (rest : List Value) × (f.operands ≡ v ∷ rest) → Wrote P Running s f (with_top (record s { statics = vs }) callers top)
    puts k v vs top is put under = static next k v under.0 refl (subst (λ (q : Row). IsLine P f.method f.pc next q) put line) under.1 is refl

    by_effect : (x : Effect) → e ≡ x → Tame P s f r x → applied P limits answer s f callers x ≡ Some t → Done Running
    by_effect Stuck is keeping h = absurd (none≢some t h)
    by_effect (Go pc ls ops) is keeping h =
        let top : Frame = record f { pc = pc; locals = ls; operands = ops } in
        goes (with_top s callers top) top h refl refl (nothing refl refl) (subst (λ (x : Effect). Comes s.objects f.pc x (visit_of (At pc) s.objects top)) (sym is) refl) keeping
    by_effect (Make o pc ls ops) is keeping h =
        let top : Frame = record f { pc = pc; locals = ls; operands = Ref (length s.objects) ∷ ops } in
        goes (with_top (record s { objects = s.objects ++ o ∷ [] }) callers top) top h refl refl (one o keeping.1 refl refl)
        (subst (λ (x : Effect). Comes s.objects f.pc x (visit_of (At pc) (s.objects ++ o ∷ []) top)) (sym is) refl) keeping.0
    by_effect (WritePart p k v pc ls ops) is keeping h =
        let x = onto_some (written s.objects p k v) (λ os. Some (with_top (record s { objects = os }) callers (record f { pc = pc; locals = ls; operands = ops }))) t h in
        let top : Frame = record f { pc = pc; locals = ls; operands = ops } in
        goes (with_top (record s { objects = x.0 }) callers top) top x.2 refl refl (part next r p k v refl line keeping.1 (was_written s.objects p k v x.0 x.1) refl)
        (subst (λ (y : Effect). Comes s.objects f.pc y (visit_of (At pc) x.0 top)) (sym is) refl) keeping.0
    by_effect (WriteStatic k v pc ls ops) is keeping h =
        let x = onto_some (replaced s.statics k v) (λ vs. Some (with_top (record s { statics = vs }) callers (record f { pc = pc; locals = ls; operands = ops }))) t h in
        let top : Frame = record f { pc = pc; locals = ls; operands = ops } in
        goes (with_top (record s { statics = x.0 }) callers top) top x.2 refl refl (puts k v x.0 top x.1 keeping.1 keeping.2)
        (subst (λ (y : Effect). Comes s.objects f.pc y (visit_of (At pc) s.objects top)) (sym is) tt) keeping.0
    by_effect (Take pc ls ops) is keeping h =
        let top : Frame = record f { pc = pc; locals = ls; operands = answered answer ∷ ops } in
        goes (with_top (record s { answers = s.answers ++ answer ∷ [] }) callers top) top h refl refl (nothing refl refl) (subst (λ (x : Effect). Comes s.objects f.pc x (visit_of (At pc) s.objects top)) (sym is) tt) keeping
    by_effect (Give byte pc ls ops) is keeping h =
        let top : Frame = record f { pc = pc; locals = ls; operands = ops } in
        goes (with_top (record s { output = s.output ++ byte ∷ [] }) callers top) top h refl refl (nothing refl refl) (subst (λ (x : Effect). Comes s.objects f.pc x (visit_of (At pc) s.objects top)) (sym is) tt) keeping
    by_effect (Call m args ops) is keeping h =
        let w : Frame = record f { operands = ops } in
        let x = onto_some (first_frame P m args) (λ g. Some (called P limits s w callers g)) t h in
        enters x.0 w (nat_le (frames_words P (x.0 ∷ w ∷ callers)) limits.frames) refl (subst (λ (y : Effect). Comes s.objects f.pc y (visit_of (RaiseAt f.pc) s.objects (record w { operands = [] }))) (sym is) tt) x.2
    by_effect (Leave result) is keeping h = leaves result callers refl h
    by_effect (Raise p) is keeping h =
        let top : Frame = record f { operands = [] } in
        raises (raising s f callers p) top p h refl refl (nothing refl refl) (subst (λ (x : Effect). Comes s.objects f.pc x (visit_of (RaiseAt f.pc) s.objects top)) (sym is) refl) refl

  -- a handler is entered, or the frame is dropped
  by_handler : (p : ℕ) (k : Kind) (cs : List Frame) (o : Option ℕ) → callers ≡ cs → unwound s p k f cs o ≡ Some t → Done (Raising p)
  by_handler p k cs (Some target) are h =
      let top : Frame = record f { pc = target; operands = Ref p ∷ [] } in
      to (Raising p) (with_top s cs top) h (
        within top (ap (λ (x : List Frame). top ∷ x) (sym are)) tt (record {
          does = λ q after r at is. absurd (at_or_raise f.pc q at);
          keeps = λ i v short holds none. holds;
        }),
        nothing refl refl,
      )
  by_handler p k (c ∷ others) None are h = to (Raising p) (raising s c others p) h (gone c others (record c { operands = [] }) are refl tt refl, nothing refl refl)
  by_handler p k [] None are h =
      let x = onto_some (class_of k) (λ c. Some (record s { frames = f ∷ []; mode = Uncaught c })) t h in
      to (Raising p) (record s { frames = f ∷ []; mode = Uncaught x.0 }) x.2 (over refl (λ y. y) refl refl, nothing refl refl)

  pub did : AreSpaced f.locals → (mode : Ending) → step_in P limits answer s (f ∷ callers) mode ≡ Some t → Done mode
  did spaced Running h =
      let x = onto_some (row_at P f) (λ x. applied P limits answer s f callers (effect P limits s f x.0 x.1)) t h in
      by_effect x.0.0 x.0.1 x.1 spaced (effect P limits s f x.0.0 x.0.1) refl (tame P limits s f x.0.0 spaced x.0.1) x.2
  did spaced (Raising p) h =
      let body = onto_some (body_of P f.method) _ t h in
      let object = onto_some (slice_get s.objects p) _ t body.2 in
      let kind = onto_some (kind_of P object.0) _ t object.2 in
      by_handler p kind.0 callers (handler_for P kind.0 f.pc body.0.handlers) refl kind.2
  did spaced Ended h = absurd (none≢some t h)
  did spaced (Uncaught c) h = absurd (none≢some t h)
