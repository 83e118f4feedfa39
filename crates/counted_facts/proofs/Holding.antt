-- Activations that begin in a run from the boot state keep the facts that are read off the code.
use Rattle.std.proofs.Common.{◌≡◌, ℕ, ◌*◌, ◌≤◌, List, [], ◌∷◌, ◌++◌, length, Contains, Some, refl, sym, ap, ◌∙◌, subst, inl, inr, arith}
use Rattle.std.proofs.lemmas.Bool.{cases_lt}
use Rattle.std.proofs.lemmas.List.Elements.{Contains-append_right}
use Rattle.lists.proofs.Lemmas.{some_same}
use Rattle.lists.specs.Members.{at_head, cons_cases, nil_contains}
use Rattle.bytecode_model.specs.declared.Ending.{Ending}
use Rattle.bytecode_model.specs.State.{Frame, State}
use Rattle.bytecode_model.specs.Program.{Program}
use Rattle.bytecode_typing.specs.Typed.{Typing}
use Rattle.bytecode_typing.specs.Fits.{FramesFit, numbers_of}
use Rattle.bytecode_typing.specs.Laws.{FittingStatesAreWellFormed}
use Rattle.loop_nest.specs.Digraph.{Digraph}
use Rattle.method_flow.specs.Nodes.{Node, At, number_of, IsReached}
use Rattle.method_flow.specs.Graphs.{IsGraphOf, IsLiveGraph}
use Rattle.method_flow.specs.Kinds.{RowsAreOfTheirKinds}
use Rattle.method_runs.specs.Runs.{Walks, nodes_now, unknown_walks, walks_after}
use Rattle.method_runs.specs.Standing.{last_node}
use Rattle.method_runs.specs.Laws.{StepsFollowWalks, UnknownWalksStand}
use Rattle.loop_rules.specs.Further.Known.{Known}
use Rattle.counted_laws.specs.Visits.{Visit, Path, lengths_of}
use Rattle.counted_laws.specs.Paths.{HoldConstants, HoldArrays, HasPath, HavePaths, IsOfRun, RunsHoldKnown}
use Rattle.counted_laws.specs.Paths.IsOfRun.{next}
use Rattle.counted_laws.proofs.Following.{unknown_paths}
use Rattle.activations.specs.Setting.{Setting, IsSetting, limits}
use Rattle.activations.specs.Activations.{Stage, Follows, StaysAbove, IsActivation, depth}
use Rattle.activations.specs.Keeping.{Keeps, walk_of, stages_of, LiesAmong}
use Rattle.activations.specs.Trees.{ActivationsAreTrees, ActivationsAreWalks}
use Rattle.activation_laws.proofs.CountedLemmas.Staying.{Here, step_on, still_hold, stay_on, entered}
use Rattle.loop_nest.specs.Walks.{Walk}
use Rattle.loop_nest.specs.Walks.Walk.{stay, along}
use Rattle.method_flow.specs.Live.{IsLiveEdge, LiveWalk}
use Rattle.method_flow.specs.Live.LiveWalk.{stops, along as walks_on}
use Rattle.method_flow.specs.Nodes.IsReached.{first as first_node, later}
use Rattle.loop_rules.specs.Counted.{EachCycleIsALoop}
use Rattle.priced_sections.specs.Visits.{visits_of, IsSegment, KeepsPer}
use Rattle.flow_facts.specs.declared.facts.Scope.{Scope}
use Rattle.flow_facts.specs.declared.facts.Scope.TheVariants.{Own, Per, In}
use Rattle.flow_facts.specs.Facts.{CountFact, Facts}
use Rattle.fact_rules.specs.Keeping.{KeepsIn, WalkKeepsFacts}
use Rattle.fact_keeping.specs.Keeping.{KeepsFacts}
use Rattle.activation_laws.specs.Counted.Further.{FurtherActivationsKeep}
use Rattle.counted_facts.specs.Laws.{StayingPathsKeep, LiveEntriesAreEntries}
use Rattle.counted_facts.specs.Found.{IsFoundFact, WalkKeepsFactsBut, KeepsFactsBut, FoundFactsKeep, FoundFactsNeedNoPromise}

some_frame : (P : Program) (types : Typing) (ks : List ℕ) (mode : Ending) (fs : List Frame) → FramesFit P types ks mode fs → (f : Frame) × (callers : List Frame) × (fs ≡ f ∷ callers)
some_frame P types ks mode [] h = absurd h
some_frame P types ks mode (f ∷ fs) h = (f, fs, refl)

own_is_per : (p : ℕ) → ◌≡◌ {A = Scope} Own (Per p) → ⊥
own_is_per p e = absurd (cc)

-- the visits of a frame that is on top
top_path : (P : Program) (known : Known) (ls : List ℕ) (mode : Ending) (f : Frame) (fs : List Frame) (ns : List ℕ) (ws : Walks) → HavePaths P known ls mode (f ∷ fs) (Some ns ∷ ws) → HasPath P known f (last_node mode f) f.operands ls (Some ns)
top_path P known ls mode f fs ns ws h = h.0

-- where fields hold the arrays that are known of them in each state of some kind, and steps lead to such states
module _ (follow : StepsFollowWalks) (kinds : RowsAreOfTheirKinds) (fitting : FittingStatesAreWellFormed) (unknown : UnknownWalksStand) (trees : ActivationsAreTrees)
    (g : Setting) (is : IsSetting g) (known : Known) (Good : State → Type 0) (on_good : (a b : Stage) → Follows g a b → Good a.state → Good b.state) (arrays : (s : State) → Good s → HoldArrays g.program known s) where
  -- fields hold what is known of them
  record Holding (s : State) : Type 0 where
    constants : HoldConstants g.program known.constants s
    good : Good s

  -- the visits of an activation's own frame
  record OwnPath (m : ℕ) (ns : List ℕ) : Type 0 where
    first : Visit
    end : Visit
    begins : first.node ≡ At 0
    path : Path g.program known m first end ns

  own_path : (m : ℕ) (a b : Stage) (h : IsActivation g m a b) → Holding a.state → OwnPath m (walk_of h)
  own_path m a b h hold =
      let P = g.program in
      let t = trees g m a b h is in
      let fits = h.begins.stands.fits in
      let ws = unknown_walks a.state in
      let before : Here P known a.state ws = record {
        standing = unknown P g.types (limits g) a.state fits;
        visits = record {
          have = unknown_paths P g.types known (lengths_of a.state.objects) (numbers_of a.state.objects) a.state.mode a.state.frames fits.frames;
          hold = record { constants = hold.constants; arrays = arrays a.state hold.good };
        };
      } in
      let after = step_on follow kinds fitting g is known Good on_good arrays a h.first h.begins t.frame t.callers t.frames ws hold.good before in
      let ns = nodes_now h.first.state.mode h.first.state.frames in
      let long = ap (λ (fs : List Frame). length fs) t.frames in
      let deeper = ap (λ (fs : List Frame). length fs) t.enters.frames in
      let made : walks_after a.state h.first.state ws ≡ Some ns ∷ ws = entered (length a.state.frames) (length h.first.state.frames) ns ws (omega arith) in
      let l = stay_on follow kinds fitting g is known Good on_good arrays t.stay (Some ns) ws (on_good a h.first h.begins hold.good) (subst (λ (vs : Walks). Here P known h.first.state vs) made after) in
      let frames = l.top.frames in
      let f = l.top.frame in
      let ls = lengths_of l.last.state.objects in
      let have = subst (λ (fs : List Frame). HavePaths P known ls l.last.state.mode fs (Some (ns ++ l.rest) ∷ ws)) frames l.here.visits.have in
      let path = top_path P known ls l.last.state.mode f (t.enters.waiting ∷ t.callers) (ns ++ l.rest) ws have in
      let end : Visit = record { node = last_node l.last.state.mode f; locals = f.locals; operands = f.operands; lengths = ls } in
      let of_method = subst (λ (k : ℕ). Path P known k path.0 end (ns ++ l.rest)) l.top.method path.2 in
      record { first = path.0; end = end; begins = path.1; path = subst (λ (us : List ℕ). Path P known m path.0 end us) (sym l.nodes_are) of_method }

  -- ---- the activations within it

  holds_next : (a b : Stage) → Follows g a b → Holding a.state → Holding b.state
  holds_next a b follows hold =
      let f = some_frame g.program g.types (numbers_of a.state.objects) a.state.mode a.state.frames follows.stands.fits.frames in
      record { constants = still_hold follow kinds fitting g is known Good on_good arrays a b follows f.0 f.1 f.2 hold.constants hold.good; good = on_good a b follows hold.good }

  all_hold : (n : ℕ) (a : Stage) (cs : List Stage) (b : Stage) → StaysAbove g n a cs b → Holding a.state → (x : Stage) → Contains (a ∷ cs) x → Holding x.state
  all_hold n a [] b stays hold x has =
      elim (cons_cases a x [] has) [
        | inl same ↦ subst (λ (y : Stage). Holding y.state) same hold
        | inr there ↦ absurd (nil_contains x there)
      ]
  all_hold n a (c ∷ cs) b stays hold x has =
      elim (cons_cases a x (c ∷ cs) has) [
        | inl same ↦ subst (λ (y : Stage). Holding y.state) same hold
        | inr there ↦ all_hold n c cs b stays.2 (holds_next a c stays.1 hold) x there
      ]

  begins_among : {m n : ℕ} {a b c d : Stage} (h : IsActivation g m a b) (h' : IsActivation g n c d) → LiesAmong h' (stages_of h) → Contains (stages_of h) c
  begins_among {m} {n} {a} {b} {c} {d} h h' lies =
      subst (λ (xs : List Stage). Contains xs c) (sym lies.split) (Contains-append_right lies.before (c ∷ (stages_of h' ++ d ∷ lies.after)) c (at_head c (stages_of h' ++ d ∷ lies.after)))

  -- where visits keep the facts that are found
  module _ (walks : ActivationsAreWalks) (facts : Facts) (Found : CountFact → Type 0)
      (keep : (f : CountFact) (p : ℕ) (first end : Visit) (ns : List ℕ) (d : Digraph) → Found f → f.scope ≡ Per p → IsLiveGraph g.program f.method d → LiveWalk g.program f.method (At 0) ns → first.node ≡ At 0 → Path g.program known f.method first end ns → KeepsPer d (2 * p) f.nodes f.most ns)
      (per : (f : CountFact) → Found f → (p : ℕ) × (f.scope ≡ Per p)) where
    is_setting : IsSetting g
    is_setting = is

    -- an activation's walk keeps all
    own_keeps : (m : ℕ) (a b : Stage) (h : IsActivation g m a b) → Holding a.state → WalkKeepsFactsBut g.program Found facts m (walk_of h) → WalkKeepsFacts g.program facts m (walk_of h)
    own_keeps m a b h hold others d is_live f has of_method = by f.scope refl
      where
        asked : (Found f → ⊥) → (s : Scope) → f.scope ≡ s → KeepsIn d s f.nodes f.most (walk_of h)
        asked never s is = subst (λ (z : Scope). KeepsIn d z f.nodes f.most (walk_of h)) is (others d is_live f has of_method never)

        found : (p : ℕ) → f.scope ≡ Per p → Found f → KeepsPer d (2 * p) f.nodes f.most (walk_of h)
        found p is c =
            let o = own_path m a b h hold in
            let live = subst (λ (k : ℕ). IsLiveGraph g.program k d) (sym of_method) is_live in
            let path = subst (λ (k : ℕ). Path g.program known k o.first o.end (walk_of h)) (sym of_method) o.path in
            let walk = subst (λ (k : ℕ). LiveWalk g.program k (At 0) (walk_of h)) (sym of_method) (walks g m a b h is_setting).0 in
            keep f p o.first o.end (walk_of h) d c is live walk o.begins path

        by : (s : Scope) → f.scope ≡ s → KeepsIn d s f.nodes f.most (walk_of h)
        by Own is = asked (λ c. let p = per f c in own_is_per p.0 (sym is ∙ p.1)) Own is
        by (In root) is = tt
        by (Per p) is = λ seg segment. elim (cases_lt f.most (visits_of f.nodes seg)) [
          | inr within ↦ within
          | inl over ↦ absurd (let le = asked (λ c. let le = found p is c seg segment in omega arith) (Per p) is seg segment in omega arith)
        ]

    keeps : (m : ℕ) (a b : Stage) (h : IsActivation g m a b) → Holding a.state → KeepsFactsBut Found facts h → KeepsFacts facts h
    keeps m a b h hold others = record {
      own = own_keeps m a b h hold others.own;
      inner = λ n c d h' lies.
          let at_first = holds_next a h.first h.begins hold in
          own_keeps n c d h' (all_hold (depth a) h.first h.between b h.stays at_first c (begins_among h h' lies)) (others.inner n c d h' lies);
      calls = others.calls;
      within = others.within;
    }

-- a walk that a run can take is one of the live graph
in_live : (P : Program) (m : ℕ) (d : Digraph) → IsLiveGraph P m d → {u : Node} {us : List ℕ} → LiveWalk P m u us → IsReached (IsLiveEdge P m) u → (last : ℕ) × Walk d (number_of u) last us
in_live P m d is (stops {u} exit) come = (number_of u, stay)
in_live P m d is (walks_on {u} {v} edge more) come =
    let r = in_live P m d is more (later come edge) in
    (r.0, along ((is.edges (number_of u) (number_of v)).1 (record { source = u; target = v; reached = come; edge = edge; numbered = (refl, refl) })) r.1)

per_same : (p q : ℕ) → Per p ≡ Per q → p ≡ q
per_same p q e = cc

-- visits keep a fact that is found, in the live graph, too
found_keeps : StayingPathsKeep → LiveEntriesAreEntries → (P : Program) (known : Known) (f : CountFact) (p : ℕ) (first end : Visit) (ns : List ℕ) (d : Digraph) → IsFoundFact P known f → f.scope ≡ Per p
    → IsLiveGraph P f.method d → LiveWalk P f.method (At 0) ns → first.node ≡ At 0 → Path P known f.method first end ns → KeepsPer d (2 * p) f.nodes f.most ns
found_keeps staying live P known f p first end ns d found is is_live walk begins path =
    let w = in_live P f.method d is_live walk first_node in
    let nodes = number_of (At found.place) ∷ [] in
    let whole = staying P known f.method found.graph found.header found.n found.place first end ns found.is_graph found.cycles found.stays begins path in
    let same : found.header ≡ p = per_same found.header p (sym found.scope ∙ is) in
    let kept = live P f.method found.graph d (2 * found.header) found.n w.0 nodes ns found.is_graph is_live found.cycles w.1 whole in
    λ seg segment.
    let there = subst (λ (q : ℕ). IsSegment d (2 * q) ns seg) (sym same) segment in
    let le : visits_of nodes seg ≤ found.n = kept seg there in
    let equal : visits_of f.nodes seg ≡ visits_of nodes seg = ap (λ (xs : List ℕ). visits_of xs seg) found.nodes in
    let within = found.within in
    omega arith

pub found_facts_keep : StepsFollowWalks → RowsAreOfTheirKinds → FittingStatesAreWellFormed → UnknownWalksStand → ActivationsAreTrees → ActivationsAreWalks → RunsHoldKnown → StayingPathsKeep → LiveEntriesAreEntries → FoundFactsKeep
found_facts_keep follow kinds fitting unknown trees walks runs staying live g known facts m a b h is run others =
    let hold = λ (s : State) (good : IsOfRun g.program (limits g) run.boot s). runs g.program g.types (limits g) known run.boot s is.lawful is.typed run.fits run.begins run.arrays run.hold good in
    keeps follow kinds fitting unknown trees g is known (λ s. IsOfRun g.program (limits g) run.boot s) (λ x y follows good. next follows.answer good follows.byte follows.is_next) (λ s good. (hold s good).arrays)
    walks facts (IsFoundFact g.program known) (λ f p first end ns d found scope is_live walk begins path. found_keeps staying live g.program known f p first end ns d found scope is_live walk begins path)
    (λ f found. (found.header, found.scope))
    m a b h (record { constants = (hold a.state run.run).constants; good = run.run }) others

pub found_facts_need_no_promise : FurtherActivationsKeep → FoundFactsKeep → FoundFactsNeedNoPromise
found_facts_need_no_promise loops facts_keep P t known bound_of facts m bound bounds g a b is program timing run h others but =
    bounds g a b is program timing h (loops g known bound_of m a b h is run others) (facts_keep g known facts m a b h is run but)
