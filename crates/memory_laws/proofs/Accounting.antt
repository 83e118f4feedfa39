-- The words of objects that are made along a run from boot.
use Rattle.std.proofs.Common.{◌≡◌, ◌⊎◌, ℕ, zero, suc, ◌+◌, ◌<◌, ◌≤◌, Bool, true, false, List, [], ◌∷◌, ◌++◌, length, drop, Option, Some, None, refl, sym, ap, ◌∙◌, subst, inl, inr, arith, sum_by, leb-false}
use Rattle.std.specs.Prelude.{if◌then◌else◌, nat_le, IsSome}
use Rattle.lists.proofs.Lemmas.{some_is, some_same, none≢some, holds_at}
use Rattle.lists.specs.Members.{heads}
use Rattle.bytecode_model.specs.declared.Value.{Value}
use Rattle.bytecode_model.specs.declared.Value.TheVariants.{Ref}
use Rattle.bytecode_model.specs.declared.Ending.{Ending}
use Rattle.bytecode_model.specs.declared.Ending.TheVariants.{Running, Raising, Ended, Uncaught}
use Rattle.bytecode_model.specs.Lists.{onto}
use Rattle.bytecode_model.specs.State.{Object, Frame, State}
use Rattle.bytecode_model.specs.Program.{Program, Limits}
use Rattle.bytecode_model.specs.Sizes.{object_words, made_words}
use Rattle.bytecode_model.specs.Rows as rows
use Rattle.bytecode_model.specs.Rows.{Row}
use Rattle.bytecode_model.specs.Effects.{Effect, Stuck, Go, Make, WritePart, WriteStatic, Take, Give, Call, Leave, Raise, fault, fault_object, effect, OutOfMemoryError}
use Rattle.bytecode_model.specs.Steps.{step, step_in, run_from, row_at, row_in, applied, with_top, raising}
use Rattle.bytecode_model.specs.WellFormed.{is_call}
use Rattle.bytecode_typing.specs.Typed.{Typing, Typed}
use Rattle.bytecode_typing.specs.Fits.{IsGoing, Fits}
use Rattle.bytecode_typing.specs.Laws.{FittingStatesAreWellFormed, TypedProgramsKeep}
use Rattle.loop_nest.specs.Digraph.{Digraph}
use Rattle.method_flow.specs.Nodes.{Node, At, RaiseAt, number_of, IsEdge, IsReturn}
use Rattle.method_flow.specs.Calls.{IsStartOf}
use Rattle.method_flow.specs.Keeping.{BoundOf}
use Rattle.method_flow.specs.Kinds.{RowsAreOfTheirKinds}
use Rattle.method_flow.specs.Shapes.{node_of, IsGoingOn, Moves, Enters, Returns, Drops}
use Rattle.method_runs.specs.TypedGraphs.Laws.{MethodGraphsExist}
use Rattle.method_runs.specs.Runs.{Walks, walks_from, boot_walks, with_nodes}
use Rattle.method_runs.specs.Steps.{WalksStep, Stepped, Stayed}
use Rattle.method_runs.specs.Steps.WalksStep.{moves, enters, returns, drops, ends}
use Rattle.method_runs.specs.Laws.{HasWalks, RunsHaveWalks, BootWalksStand, WalksAreOfGraphs}
use Rattle.method_runs.proofs.Leading.{behind_call}
use Rattle.code_lines.specs.Lines.{IsLine}
use Rattle.code_lines.specs.Laws.{LinesAreOne, LinesAreApart, OneStandsBefore}
use Rattle.memory_rules.specs.Heap.{Made, made_by, IsOn, OfMethod, OfNode, MayMake, IsHeapNeed}
use Rattle.memory_rules.specs.Heap.MayMake.{nothing, runs}
use Rattle.memory_rules.specs.Given.{HaveLengths}
use Rattle.memory_laws.specs.Promises.{RunsFromBoot, StandsAtMaking, FramesKeep, KeptSoFar}
use Rattle.memory_laws.proofs.Booting.{next_is, walks_first, run_first, goes_on, boots}
use Rattle.memory_laws.proofs.Calling.{MayRun, CalledFrom, AreCalled, called_at, start_at, walks_at}
use Rattle.memory_laws.proofs.Growing.{IsAsked, MakesNone, Makes, makes_is, Grows, grows}
use Rattle.memory_laws.proofs.Growing.Makes.{none as makes_none, asks as makes_asked}
use Rattle.memory_laws.proofs.Growing.Grows.{same as grows_none, more as grows_more}
use Rattle.memory_laws.proofs.Making.{MakingWalk, MadeBelow, HaveMade, method_walk, method_makes, within_boot, graph_there, boot_makes}
use Rattle.memory_laws.proofs.Making.MakingWalk.{starts, goes}
use Rattle.memory_laws.proofs.Asking.{HasPushed, HoldsPushed, none_first, still_pushed, covered}

-- ---- rows

calls_make_none : (P : Program) (r : Row) (made : Made) → made_by P r ≡ Some made → is_call r ≡ true → ⊥
calls_make_none P (rows.New c) made e call = cc call
calls_make_none P (rows.NewNumbers code) made e call = cc call
calls_make_none P (rows.NewReferences k) made e call = cc call
calls_make_none P r made e call = none≢some made e

returns_make_none : (P : Program) (r : Row) (made : Made) → made_by P r ≡ Some made → IsReturn r → ⊥
returns_make_none P (rows.Return result) made e is = none≢some made e
returns_make_none P r made e is = is

-- ---- one step

module _ (kinds : RowsAreOfTheirKinds) (exist : MethodGraphsExist) (graphs : WalksAreOfGraphs) (P : Program) (types : Typing) (typed : Typed P types) (bounds lengths : BoundOf) (s t : State) (f : Frame) (callers : List Frame)
    (start : IsStartOf P f.method f.pc) (called : CalledFrom P f.method callers) (grown : Grows P s t f)
    (covers : (words next : ℕ) (r : Row) (made : Made) → s.mode ≡ Running → row_at P f ≡ Some (next, r) → made_by P r ≡ Some made → IsAsked made f.operands words
    → ¬ ¬ ((x : ℕ) × MayMake P bounds lengths (OfNode f.method (At f.pc)) x × (words ≤ x))) where
  -- the frames of the next state have made so many words
  abbrev Later : Walks → Type 0
  Later vs = (w : ℕ) × (made_words P t ≤ w) × HaveMade P bounds lengths t.mode t.frames vs w

  abbrev Walked : Frame → Node → List ℕ → ℕ → Type 0
  Walked g u us v = MakingWalk P bounds lengths g.method u us v

  -- what the top frame's node makes
  node_makes : ¬ ¬ ((x : ℕ) × MayMake P bounds lengths (OfNode f.method (node_of s.mode f)) x × (made_words P t ≤ made_words P s + x))
  node_makes = by grown
    where
      by : Grows P s t f → ¬ ¬ ((x : ℕ) × MayMake P bounds lengths (OfNode f.method (node_of s.mode f)) x × (made_words P t ≤ made_words P s + x))
      by (grows_none le) = λ none. none (0, nothing, omega (arith, le))
      by (grows_more next words r made running row is asked le) = λ none. covers words next r made running row is asked (λ x.
          let there = subst (λ (m : Ending). MayMake P bounds lengths (OfNode f.method (node_of m f)) x.0) (sym running) x.1 in
          none (x.0, there, let few = x.2 in omega (arith, le, few)))

  -- no words are made by a step that isn't within the method
  unless : ((made : Made) (next : ℕ) (r : Row) → s.mode ≡ Running → row_at P f ≡ Some (next, r) → made_by P r ≡ Some made → ⊥) → made_words P t ≤ made_words P s
  unless not = by grown
    where
      by : Grows P s t f → made_words P t ≤ made_words P s
      by (grows_none le) = le
      by (grows_more next words r made running row is asked le) = absurd (not made next r running row is)

  module _ (w : ℕ) (made_is : made_words P s ≤ w) where
    by_moves : (us : List ℕ) (ws : Walks) → HaveMade P bounds lengths s.mode (f ∷ callers) (Some us ∷ ws) w → (h : Moves P s.mode f callers t) → ¬ ¬ Later (Some (us ++ number_of (node_of t.mode h.top) ∷ []) ∷ ws)
    by_moves us ws (v, rest, sum, walk, below) h = λ none. node_makes (λ x.
        let u = node_of t.mode h.top in
        let there : Walked f u (us ++ number_of u ∷ []) (v + x.0) = goes walk h.edge x.1 in
        let moved : Walked h.top u (us ++ number_of u ∷ []) (v + x.0) = subst (λ (m : ℕ). MakingWalk P bounds lengths m u (us ++ number_of u ∷ []) (v + x.0)) (sym h.same) there in
        let total : w + x.0 ≡ v + x.0 + rest = omega (arith, sum) in
        let few = x.2 in
        none (w + x.0, omega (arith, few, made_is), subst (λ (fs : List Frame). HaveMade P bounds lengths t.mode fs (Some (us ++ number_of u ∷ []) ∷ ws) (w + x.0)) (sym h.frames) (v + x.0, rest, total, moved, below)))

    by_enters : (us : List ℕ) (ws : Walks) → HaveMade P bounds lengths s.mode (f ∷ callers) (Some us ∷ ws) w → (h : Enters P s.mode f callers t) → Later (Some (0 ∷ []) ∷ Some us ∷ ws)
    by_enters us ws (v, rest, sum, walk, below) h =
        let first : node_of t.mode h.top ≡ At 0 = ap (λ (m : Ending). node_of m h.top) h.still ∙ ap At h.first in
        let begun : Walked h.top (node_of t.mode h.top) (0 ∷ []) 0 = subst (λ (u : Node). Walked h.top u (0 ∷ []) 0) (sym first) starts in
        let at : Walked f (At f.pc) us v = subst (λ (m : Ending). Walked f (node_of m f) us v) h.running walk in
        let by_method : MakingWalk P bounds lengths h.waiting.method (At f.pc) us v = subst (λ (m : ℕ). MakingWalk P bounds lengths m (At f.pc) us v) (sym h.same) at in
        let waits : Walked h.waiting (At h.waiting.pc) us v = subst (λ (p : ℕ). Walked h.waiting (At p) us v) (sym h.place) by_method in
        let total : w ≡ 0 + w = omega arith in
        let not_more = unless (λ made next r running row is. calls_make_none P r made is (holds_at (row_in P f.method f.pc) (next, r) (λ (x : ℕ × Row). is_call x.1 ≡ true) row h.call)) in
        (w, omega (arith, not_more, made_is), subst (λ (fs : List Frame). HaveMade P bounds lengths t.mode fs (Some (0 ∷ []) ∷ Some us ∷ ws) w) (sym h.frames) (0, w, total, begun, (v, rest, sum, waits, below)))

    -- back in a caller
    back : (us : List ℕ) (x : Option (List ℕ)) (ws : Walks) → HaveMade P bounds lengths s.mode (f ∷ callers) (Some us ∷ x ∷ ws) w → FramesKeep P bounds (f ∷ callers) (Some us ∷ x ∷ ws)
        → (caller : Frame) (others : List Frame) (top : Frame) (u : Node) → callers ≡ caller ∷ others → t.frames ≡ top ∷ others → top.method ≡ caller.method → node_of t.mode top ≡ u → (MayRun P caller.method caller.pc f.method → IsEdge P caller.method (At caller.pc) u)
        → made_words P t ≤ made_words P s → ¬ ¬ Later (with_nodes (number_of u ∷ []) x ∷ ws)
    back us x ws (v, rest, sum, walk, below) keep caller others top u are frames same node edge not_more = λ none.
        graph_there exist P types typed f.method f.pc start (λ g.
        let total : MayMake P bounds lengths (OfMethod f.method) (v + 0) = method_makes P bounds lengths f.method graphs g.0 g.1 keep.0 walk nothing in
        by x (subst (λ (cs : List Frame). MadeBelow P bounds lengths cs (x ∷ ws) rest) are below) total none)
      where
        may : MayRun P caller.method caller.pc f.method
        may = (subst (CalledFrom P f.method) are called).0

        by : (y : Option (List ℕ)) → MadeBelow P bounds lengths (caller ∷ others) (y ∷ ws) rest → MayMake P bounds lengths (OfMethod f.method) (v + 0) → ¬ Later (with_nodes (number_of u ∷ []) y ∷ ws) → ⊥
        by None there total none = there
        by (Some ns) (a, b, sum', walk', below') total none =
            let longer : Walked caller u (ns ++ number_of u ∷ []) (a + (v + 0)) = goes walk' (edge may) (runs may.target total) in
            let here : Walked top u (ns ++ number_of u ∷ []) (a + (v + 0)) = subst (λ (m : ℕ). MakingWalk P bounds lengths m u (ns ++ number_of u ∷ []) (a + (v + 0))) (sym same) longer in
            let there : Walked top (node_of t.mode top) (ns ++ number_of u ∷ []) (a + (v + 0)) = subst (λ (x : Node). Walked top x (ns ++ number_of u ∷ []) (a + (v + 0))) (sym node) here in
            let all : w ≡ a + (v + 0) + b = omega (arith, sum, sum') in
            none (w, omega (arith, not_more, made_is), subst (λ (fs : List Frame). HaveMade P bounds lengths t.mode fs (Some (ns ++ number_of u ∷ []) ∷ ws) w) (sym frames) (a + (v + 0), b, all, there, below'))

    by_returns : (us : List ℕ) (x : Option (List ℕ)) (ws : Walks) → HaveMade P bounds lengths s.mode (f ∷ callers) (Some us ∷ x ∷ ws) w → FramesKeep P bounds (f ∷ callers) (Some us ∷ x ∷ ws) → (h : Returns P s.mode f callers t)
        → ¬ ¬ Later (with_nodes (number_of (At h.top.pc) ∷ []) x ∷ ws)
    by_returns us x ws have keep h =
        back us x ws have keep h.caller h.others h.top (At h.top.pc) h.callers_are h.frames h.same (ap (λ (m : Ending). node_of m h.top) h.still)
        (λ may. behind_call kinds P h.caller.method h.caller.pc h.top.pc may.call h.place)
        (unless (λ made next r running row is. returns_make_none P r made is (holds_at (row_in P f.method f.pc) (next, r) (λ (x : ℕ × Row). IsReturn x.1) row h.exit)))

    by_drops : (us : List ℕ) (x : Option (List ℕ)) (ws : Walks) → HaveMade P bounds lengths s.mode (f ∷ callers) (Some us ∷ x ∷ ws) w → FramesKeep P bounds (f ∷ callers) (Some us ∷ x ∷ ws) → (h : Drops P s.mode f callers t)
        → ¬ ¬ Later (with_nodes (number_of (RaiseAt h.top.pc) ∷ []) x ∷ ws)
    by_drops us x ws have keep h =
        back us x ws have keep h.caller h.others h.top (RaiseAt h.top.pc) h.callers_are h.frames h.same (ap (λ (m : Ending). node_of m h.top) h.still)
        (λ may. (h.place, may.may_raise))
        (unless (λ made next r running row is. let e : Running ≡ Raising h.object = sym running ∙ h.raising in cc e))

    pub later : (ws vs : Walks) → IsGoing t.mode → HaveMade P bounds lengths s.mode (f ∷ callers) ws w → FramesKeep P bounds (f ∷ callers) ws → WalksStep P s.mode f callers t ws vs → ¬ ¬ Later vs
    later ws vs going have keep (moves {w = None} {ws = rest} h) = absurd have
    later ws vs going have keep (moves {w = Some us} {ws = rest} h) = by_moves us rest have h
    later [] vs going have keep (enters h) = absurd have
    later (None ∷ rest) vs going have keep (enters h) = absurd have
    later (Some us ∷ rest) vs going have keep (enters h) = λ none. none (by_enters us rest have h)
    later ws vs going have keep (returns {v = None} {w} {ws = rest} h) = absurd have
    later ws vs going have keep (returns {v = Some us} {w} {ws = rest} h) = by_returns us w rest have keep h
    later ws vs going have keep (drops {v = None} {w} {ws = rest} h) = absurd have
    later ws vs going have keep (drops {v = Some us} {w} {ws = rest} h) = by_drops us w rest have keep h
    later ws vs going have keep (ends none frames ended) = absurd (ended (on_too t.mode going))
      where
        on_too : (m : Ending) → IsGoing m → IsGoingOn m
        on_too Running g = tt
        on_too (Raising p) g = tt
        on_too Ended g = absurd g
        on_too (Uncaught c) g = absurd g

-- ---- along a run

none_left : (xs : List Object) → drop (length xs) xs ≡ []
none_left [] = refl
none_left (x ∷ xs) = none_left xs

there_is : {X : Type 0} (o : Option X) → IsSome o → (x : X) × (o ≡ Some x)
there_is None h = absurd (cc h)
there_is (Some x) h = (x, refl)

module _ (fitting : FittingStatesAreWellFormed) (keep : TypedProgramsKeep) (have_walks : RunsHaveWalks) (stand : BootWalksStand) (kinds : RowsAreOfTheirKinds) (exist : MethodGraphsExist) (graphs : WalksAreOfGraphs)
    (one : LinesAreOne) (apart : LinesAreApart) (before : OneStandsBefore)
    (P : Program) (types : Typing) (limits : Limits) (bounds lengths : BoundOf) (input : ℕ → Option ℕ) (boot : State) (run_is : RunsFromBoot P types input boot) (fits : Fits P types limits boot) (lengths_given : HaveLengths P lengths) where
  abbrev run : ℕ → State
  run n = run_from P limits input boot n

  abbrev so_far : ℕ → Walks
  so_far n = walks_from P limits input boot boot_walks n

  abbrev at : (n : ℕ) → HasWalks P types limits input boot boot_walks n
  at n = walks_at fitting have_walks stand P types limits input boot run_is fits n

  called_from : (n : ℕ) (f : Frame) (callers : List Frame) → (run n).frames ≡ f ∷ callers → CalledFrom P f.method callers
  called_from n f callers is = subst (AreCalled P) is (called_at fitting have_walks stand P types limits input boot run_is fits n)

  starts_at : (n : ℕ) (f : Frame) (callers : List Frame) → (run n).frames ≡ f ∷ callers → IsStartOf P f.method f.pc
  starts_at n f callers is = start_at fitting have_walks stand P types limits input boot run_is fits n f callers is

  pushed_at : (n : ℕ) → HoldsPushed P (run n)
  pushed_at zero f callers c frames running pushed =
      let b = boots P boot run_is.begins in
      let same : f ≡ b.frame = heads f b.frame callers [] (sym frames ∙ (ap (λ (x : State). x.frames) (run_first P limits input boot) ∙ b.frames)) in
      absurd (none_first one apart before P f.method f.pc c (ap (λ (x : Frame). x.pc) same ∙ b.first.place) pushed)
  pushed_at (suc n) f callers c frames running pushed = by (at n).next
    where
      by : Stepped P limits (run n) (run (suc n)) (so_far n) (so_far (suc n)) ⊎ Stayed (run n) (run (suc n)) (so_far n) (so_far (suc n)) → HasPushed f c
      by (inl x) =
          let next : step_in P limits x.answer (run n) (x.frame ∷ x.callers) (run n).mode ≡ Some (run (suc n)) = ap (λ (fs : List Frame). step_in P limits x.answer (run n) fs (run n).mode) (sym x.frames) ∙ x.is_next in
          still_pushed one apart before P limits x.answer (run n) (run (suc n)) x.frame x.callers (starts_at n x.frame x.callers x.frames) (called_from n x.frame x.callers x.frames) next x.walks f callers c frames running pushed
      by (inr x) = absurd (x.ended (subst IsGoing (sym (ap (λ (u : State). u.mode) (sym x.same) ∙ running)) tt))

  module _ (last : ℕ) (kept : KeptSoFar P limits bounds lengths input boot last) where
    -- what a state asks for is within what its top frame's node may make
    covers_at : (n : ℕ) → n ≤ last → (f : Frame) (callers : List Frame) (us : List ℕ) (v : ℕ) → (run n).frames ≡ f ∷ callers → MakingWalk P bounds lengths f.method (node_of (run n).mode f) us v
        → (words next : ℕ) (r : Row) (made : Made) → (run n).mode ≡ Running → row_at P f ≡ Some (next, r) → made_by P r ≡ Some made → IsAsked made f.operands words
        → ¬ ¬ ((x : ℕ) × MayMake P bounds lengths (OfNode f.method (At f.pc)) x × (words ≤ x))
    covers_at n le f callers us v frames walk words next r made running row is asked =
        let start = starts_at n f callers frames in
        let line : IsLine P f.method f.pc next r = record { start = start; is = row } in
        let here : MakingWalk P bounds lengths f.method (At f.pc) us v = subst (λ (m : Ending). MakingWalk P bounds lengths f.method (node_of m f) us v) running walk in
        let on : ¬ ¬ ((g : Digraph) × IsOn P f.method g f.pc) = λ none. graph_there exist P types run_is.typed f.method f.pc start (λ g.
        none (g.0, record { graph = g.1; reached = (us, (graphs P f.method (At f.pc) us (method_walk P bounds lengths f.method here)).1 g.0 g.1) })) in
        covered P bounds lengths lengths_given f next r line (within_boot P f.method callers (called_from n f callers frames)) on (λ c pushed. pushed_at n f callers c frames running pushed)
        (λ element k size rest is' ops given alone. kept.arrays n le f callers next element k r size rest frames running row is' ops given alone) made words is asked

    abbrev Claim : ℕ → Type 0
    Claim n = (w : ℕ) × (made_words P (run n) ≤ w) × HaveMade P bounds lengths (run n).mode (run n).frames (so_far n) w

    first_claim : Claim zero
    first_claim =
        let b = boots P boot run_is.begins in
        let f = b.frame in
        let walk : MakingWalk P bounds lengths f.method (At f.pc) (0 ∷ []) 0 = subst (λ (p : ℕ). MakingWalk P bounds lengths f.method (At p) (0 ∷ []) 0) (sym b.first.place) starts in
        let none : made_words P boot ≡ 0 = ap (λ (os : List Object). sum_by (object_words P) (drop (length P.first_objects) os)) b.objects ∙ ap (sum_by (object_words P)) (none_left P.first_objects) in
        let have : HaveMade P bounds lengths Running (f ∷ []) boot_walks 0 = (0, 0, refl, walk, refl) in
        let by_mode : HaveMade P bounds lengths boot.mode (f ∷ []) boot_walks 0 = subst (λ (m : Ending). HaveMade P bounds lengths m (f ∷ []) boot_walks 0) (sym b.running) have in
        let by_frames : HaveMade P bounds lengths boot.mode boot.frames boot_walks 0 = subst (λ (fs : List Frame). HaveMade P bounds lengths boot.mode fs boot_walks 0) (sym b.frames) by_mode in
        let at_boot : (w : ℕ) × (made_words P boot ≤ w) × HaveMade P bounds lengths boot.mode boot.frames boot_walks w = (0, omega (arith, none), by_frames) in
        let at_walks : (w : ℕ) × (made_words P boot ≤ w) × HaveMade P bounds lengths boot.mode boot.frames (so_far zero) w =
        subst (λ (ws : Walks). (w : ℕ) × (made_words P boot ≤ w) × HaveMade P bounds lengths boot.mode boot.frames ws w) (sym (walks_first P limits input boot boot_walks)) at_boot in
        subst (λ (u : State). (w : ℕ) × (made_words P u ≤ w) × HaveMade P bounds lengths u.mode u.frames (so_far zero) w) (sym (run_first P limits input boot)) at_walks

    -- the step by the answer that the input gives
    answered : (n : ℕ) → IsGoing (run n).mode → step P limits (input (length (run n).answers)) (run n) ≡ Some (run (suc n))
    answered n going =
        let a = run n in
        let found = some_is (step P limits (input (length a.answers)) a) (Fits P types limits) (keep P types limits run_is.lawful run_is.typed a going (at n).fits (input (length a.answers)) (run_is.gives (length a.answers))) in
        found.1 ∙ ap (λ (u : State). Some u) (sym (next_is P limits input boot n found.0 found.1))

    abbrev Going : ℕ → Type 0
    Going n = IsGoing (run n).mode

    next_claim : (n : ℕ) → suc n ≤ last → Going n → Going (suc n) → Claim n → (x : Stepped P limits (run n) (run (suc n)) (so_far n) (so_far (suc n))) → ¬ ¬ Claim (suc n)
    next_claim n le going on (w, made, have) x =
        let f = x.frame in
        let callers = x.callers in
        let here = subst (λ (fs : List Frame). HaveMade P bounds lengths (run n).mode fs (so_far n) w) x.frames have in
        let grown : Grows P (run n) (run (suc n)) f =
        grows keep P types limits.frames limits.heap run_is.lawful run_is.typed (input (length (run n).answers)) (run_is.gives (length (run n).answers)) (run n) (run (suc n)) (at n).fits f callers x.frames (answered n going) in
        let within : n ≤ last = omega (arith, le) in
        let loops = subst (λ (fs : List Frame). FramesKeep P bounds fs (so_far n)) x.frames (kept.loops n within) in
        later kinds exist graphs P types run_is.typed bounds lengths (run n) (run (suc n)) f callers (starts_at n f callers x.frames) (called_from n f callers x.frames) grown
        (λ words next r m running row is asked. let p = top_walk n f callers (so_far n) w here in covers_at n within f callers p.0 p.1 x.frames p.2 words next r m running row is asked)
        w made (so_far n) (so_far (suc n)) on here loops x.walks
      where
        top_walk : (k : ℕ) (f : Frame) (callers : List Frame) (ws : Walks) (a : ℕ) → HaveMade P bounds lengths (run k).mode (f ∷ callers) ws a → (us : List ℕ) × (v : ℕ) × MakingWalk P bounds lengths f.method (node_of (run k).mode f) us v
        top_walk k f callers [] a have = absurd have
        top_walk k f callers (None ∷ ws) a have = absurd have
        top_walk k f callers (Some us ∷ ws) a (v, rest, sum, walk, below) = (us, v, walk)

    pub claims : (n : ℕ) → n ≤ last → Going n → ¬ ¬ Claim n
    claims zero le going = λ none. none first_claim
    claims (suc n) le on = by (claims n (omega (arith, le))) (at n).next
      where
        by : (Going n → ¬ ¬ Claim n) → Stepped P limits (run n) (run (suc n)) (so_far n) (so_far (suc n)) ⊎ Stayed (run n) (run (suc n)) (so_far n) (so_far (suc n)) → ¬ ¬ Claim (suc n)
        by before' (inl x) = λ none.
            let going : Going n = goes_on P limits x.answer (run n) (run (suc n)) (run n).frames (run n).mode x.is_next in
            before' going (λ c. next_claim n le going on c x none)
        by before' (inr x) = absurd (x.ended (subst (λ (u : State). IsGoing u.mode) x.same on))

    -- ---- an object is asked for

    module _ (stands : StandsAtMaking P (run last)) (need : ℕ) (is_need : IsHeapNeed P bounds lengths P.boot need) (room : need ≤ limits.heap) where
      abbrev f : Frame
      f = stands.frame

      -- all that was made, with what is asked for, is within the need
      too_many : (made : Made) (words : ℕ) → made_by P stands.row ≡ Some made → IsAsked made f.operands words → limits.heap < made_words P (run last) + words → ⊥
      too_many made words is asked above =
          let going : Going last = subst IsGoing (sym stands.running) tt in
          claims last (omega arith) going (λ c.
          let have = subst (λ (fs : List Frame). HaveMade P bounds lengths (run last).mode fs (so_far last) c.0) stands.frames c.2 in
          let loops = subst (λ (fs : List Frame). FramesKeep P bounds fs (so_far last)) stands.frames (kept.loops last (omega arith)) in
          by (so_far last) c.0 c.1 have loops)
        where
          by : (ws : Walks) (w : ℕ) → made_words P (run last) ≤ w → HaveMade P bounds lengths (run last).mode (f ∷ stands.callers) ws w → FramesKeep P bounds (f ∷ stands.callers) ws → ⊥
          by [] w le have loops = have
          by (None ∷ ws) w le have loops = have
          by (Some us ∷ ws) w le (v, rest, sum, walk, below) loops =
              let called = called_from last f stands.callers stands.frames in
              let here : MakingWalk P bounds lengths f.method (At f.pc) us v = subst (λ (m : Ending). MakingWalk P bounds lengths f.method (node_of m f) us v) stands.running walk in
              covers_at last (omega arith) f stands.callers us v stands.frames walk words stands.next stands.row made stands.running stands.is is asked (λ x.
              graph_there exist P types run_is.typed f.method f.pc (starts_at last f stands.callers stands.frames) (λ g.
              boot_makes exist graphs P types run_is.typed bounds lengths f.method (v + x.0) stands.callers ws rest called below loops.1 (method_makes P bounds lengths f.method graphs g.0 g.1 loops.0 here x.1) (λ all.
              let most : rest + (v + x.0) ≤ need = is_need.greatest (rest + (v + x.0)) all in
              let few = x.2 in
              omega (arith, most, few, above, room, sum, le))))

      by_effect : (answer : Option ℕ) (e : Effect) → MakesNone e → applied P limits answer (run last) f stands.callers e ≡ Some (run (suc last)) → (run (suc last)).mode ≡ Raising (fault_object OutOfMemoryError) → ⊥
      by_effect answer Stuck k h raised = none≢some (run (suc last)) h
      by_effect answer (Go pc ls ops) k h raised = k
      by_effect answer (Make o pc ls ops) k h raised = k
      by_effect answer (WritePart p i v pc ls ops) k h raised = k
      by_effect answer (WriteStatic i v pc ls ops) k h raised = k
      by_effect answer (Take pc ls ops) k h raised = k
      by_effect answer (Give byte pc ls ops) k h raised = k
      by_effect answer (Call m args ops) k h raised = k
      by_effect answer (Leave result) k h raised = k
      by_effect answer (Raise p) k h raised =
          let mode : Raising p ≡ Raising (fault_object OutOfMemoryError) = ap (λ (x : State). x.mode) (some_same (raising (run last) f stands.callers p) (run (suc last)) h) ∙ raised in
          let same : p ≡ 7 = cc in
          k same

      by_room : (answer : Option ℕ) (made : Made) → made_by P stands.row ≡ Some made → (o : Object) (rest : List Value) → IsAsked made f.operands (object_words P o) → (b : Bool) → nat_le (made_words P (run last) + object_words P o) limits.heap ≡ b
          → applied P limits answer (run last) f stands.callers (if b then Make o stands.next f.locals rest else fault OutOfMemoryError) ≡ Some (run (suc last)) → (run (suc last)).mode ≡ Raising (fault_object OutOfMemoryError) → ⊥
      by_room answer made is o rest asked true fit h raised =
          let u : State = with_top (record (run last) { objects = (run last).objects ++ o ∷ [] }) stands.callers (record f { pc = stands.next; locals = f.locals; operands = Ref (length (run last).objects) ∷ rest }) in
          let mode : Running ≡ Raising (fault_object OutOfMemoryError) = ap (λ (x : State). x.mode) (some_same u (run (suc last)) h) ∙ raised in
          cc mode
      by_room answer made is o rest asked false fit h raised = too_many made (object_words P o) is asked (leb-false (made_words P (run last) + object_words P o) limits.heap fit)

      pub never : (run (suc last)).mode ≡ Raising (fault_object OutOfMemoryError) → ⊥
      never raised = by (at last).next
        where
          by : Stepped P limits (run last) (run (suc last)) (so_far last) (so_far (suc last)) ⊎ Stayed (run last) (run (suc last)) (so_far last) (so_far (suc last)) → ⊥
          by (inr x) = x.ended (subst IsGoing (sym stands.running) tt)
          by (inl x) =
              let made = there_is (made_by P stands.row) stands.has in
              let s = run last in
              let h : applied P limits x.answer (run last) f stands.callers (effect P limits (run last) f stands.next stands.row) ≡ Some (run (suc last)) =
              sym (ap (λ (fs : List Frame). step_in P limits x.answer (run last) fs (run last).mode) stands.frames
              ∙ (ap (λ (m : Ending). step_in P limits x.answer (run last) (f ∷ stands.callers) m) stands.running
              ∙ ap (λ (o : Option (ℕ × Row)). onto o (λ y. applied P limits x.answer (run last) f stands.callers (effect P limits (run last) f y.0 y.1))) stands.is)) ∙ x.is_next in
              by_makes x.answer made.0 made.1 h (makes_is P limits (run last) f stands.next stands.row made.0 made.1)
            where
              by_makes : (answer : Option ℕ) (made : Made) → made_by P stands.row ≡ Some made → applied P limits answer (run last) f stands.callers (effect P limits (run last) f stands.next stands.row) ≡ Some (run (suc last))
                  → Makes P limits (run last) f stands.next made (effect P limits (run last) f stands.next stands.row) → ⊥
              by_makes answer made is h (makes_none k) = by_effect answer (effect P limits (run last) f stands.next stands.row) k h raised
              by_makes answer made is h (makes_asked o rest e asked) =
                  by_room answer made is o rest asked (nat_le (made_words P (run last) + object_words P o) limits.heap) refl (ap (λ (y : Effect). applied P limits answer (run last) f stands.callers y) (sym e) ∙ h) raised
