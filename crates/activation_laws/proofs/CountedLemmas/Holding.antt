-- Activations keep the bounds of loops that count to them.
use Rattle.std.proofs.Common.{◌≡◌, ℕ, ◌*◌, ◌≤◌, List, [], ◌∷◌, ◌++◌, length, Contains, Some, refl, sym, ap, ◌∙◌, subst, inl, inr, arith}
use Rattle.std.proofs.lemmas.Bool.{cases_lt}
use Rattle.std.proofs.lemmas.List.Elements.{Contains-append_right}
use Rattle.lists.proofs.Lemmas.{some_same}
use Rattle.lists.specs.Members.{at_head, cons_cases, nil_contains}
use Rattle.bytecode_model.specs.declared.Ending.{Ending}
use Rattle.bytecode_model.specs.State.{Frame, State}
use Rattle.bytecode_model.specs.Program.{Program}
use Rattle.bytecode_typing.specs.Typed.{Typing}
use Rattle.bytecode_typing.specs.Fits.{FramesFit, numbers_of}
use Rattle.bytecode_typing.specs.Laws.{FittingStatesAreWellFormed}
use Rattle.loop_nest.specs.Digraph.{Digraph}
use Rattle.loop_nest.specs.Walks.{KeepsBound, back_edges_to}
use Rattle.method_flow.specs.Nodes.{At, number_of}
use Rattle.method_flow.specs.Graphs.{IsGraphOf, IsLiveGraph}
use Rattle.method_flow.specs.Kinds.{RowsAreOfTheirKinds}
use Rattle.method_flow.specs.Keeping.{BoundOf, WalkKeeps}
use Rattle.loop_rules.specs.Counted.{CountsTo, EachCycleIsALoop}
use Rattle.method_runs.specs.Runs.{Walks, nodes_now, unknown_walks, walks_after}
use Rattle.method_runs.specs.Standing.{last_node}
use Rattle.method_runs.specs.Laws.{StepsFollowWalks, UnknownWalksStand}
use Rattle.loop_rules.specs.Further.Known.{Known}
use Rattle.counted_laws.specs.Visits.{Visit, Path, lengths_of}
use Rattle.loop_rules.specs.Further.Found.{only_constants}
use Rattle.counted_laws.specs.Paths.{HoldConstants, HoldArrays, HasPath, HavePaths, IsOfRun, RunsHoldKnown}
use Rattle.counted_laws.specs.Paths.IsOfRun.{next}
use Rattle.counted_laws.specs.Counting.{CountsFurther, CountedPathsKeep, FurtherPathsKeep}
use Rattle.counted_laws.proofs.Fields.{no_arrays}
use Rattle.counted_laws.proofs.Following.{unknown_paths}
use Rattle.activations.specs.Setting.{Setting, IsSetting, limits}
use Rattle.activations.specs.Activations.{Stage, Follows, StaysAbove, IsActivation, depth}
use Rattle.activations.specs.Keeping.{Keeps, walk_of, stages_of, LiesAmong}
use Rattle.activations.specs.Trees.{ActivationsAreTrees}
use Rattle.activation_laws.specs.Counted.Laws.{CountedActivationsKeep, LiveGraphsKeep}
use Rattle.activation_laws.specs.Counted.Further.{FurtherActivationsKeep}
use Rattle.activation_laws.specs.Counted.Others.{CountsInGraph, IsWithinBound, CountsWithin, CountsFurtherWithin, WalkKeepsBut, KeepsBut}
use Rattle.activation_laws.proofs.CountedLemmas.Staying.{Here, step_on, still_hold, stay_on, entered}

some_frame : (P : Program) (types : Typing) (ks : List ℕ) (mode : Ending) (fs : List Frame) → FramesFit P types ks mode fs → (f : Frame) × (callers : List Frame) × (fs ≡ f ∷ callers)
some_frame P types ks mode [] h = absurd h
some_frame P types ks mode (f ∷ fs) h = (f, fs, refl)

-- the visits of a frame that is on top
top_path : (P : Program) (known : Known) (ls : List ℕ) (mode : Ending) (f : Frame) (fs : List Frame) (ns : List ℕ) (ws : Walks) → HavePaths P known ls mode (f ∷ fs) (Some ns ∷ ws) → HasPath P known f (last_node mode f) f.operands ls (Some ns)
top_path P known ls mode f fs ns ws h = h.0

-- where fields hold the arrays that are known of them in each state of some kind, and steps lead to such states
module _ (follow : StepsFollowWalks) (kinds : RowsAreOfTheirKinds) (fitting : FittingStatesAreWellFormed) (unknown : UnknownWalksStand) (trees : ActivationsAreTrees)
    (g : Setting) (is : IsSetting g) (known : Known) (Good : State → Type 0) (on_good : (a b : Stage) → Follows g a b → Good a.state → Good b.state) (arrays : (s : State) → Good s → HoldArrays g.program known s) where
  -- fields hold what is known of them
  record Holding (s : State) : Type 0 where
    constants : HoldConstants g.program known.constants s
    good : Good s

  -- the visits of an activation's own frame
  record OwnPath (m : ℕ) (ns : List ℕ) : Type 0 where
    first : Visit
    end : Visit
    begins : first.node ≡ At 0
    path : Path g.program known m first end ns

  own_path : (m : ℕ) (a b : Stage) (h : IsActivation g m a b) → Holding a.state → OwnPath m (walk_of h)
  own_path m a b h hold =
      let P = g.program in
      let t = trees g m a b h is in
      let fits = h.begins.stands.fits in
      let ws = unknown_walks a.state in
      let before : Here P known a.state ws = record {
        standing = unknown P g.types (limits g) a.state fits;
        visits = record {
          have = unknown_paths P g.types known (lengths_of a.state.objects) (numbers_of a.state.objects) a.state.mode a.state.frames fits.frames;
          hold = record { constants = hold.constants; arrays = arrays a.state hold.good };
        };
      } in
      let after = step_on follow kinds fitting g is known Good on_good arrays a h.first h.begins t.frame t.callers t.frames ws hold.good before in
      let ns = nodes_now h.first.state.mode h.first.state.frames in
      let long = ap (λ (fs : List Frame). length fs) t.frames in
      let deeper = ap (λ (fs : List Frame). length fs) t.enters.frames in
      let made : walks_after a.state h.first.state ws ≡ Some ns ∷ ws = entered (length a.state.frames) (length h.first.state.frames) ns ws (omega arith) in
      let l = stay_on follow kinds fitting g is known Good on_good arrays t.stay (Some ns) ws (on_good a h.first h.begins hold.good) (subst (λ (vs : Walks). Here P known h.first.state vs) made after) in
      let frames = l.top.frames in
      let f = l.top.frame in
      let ls = lengths_of l.last.state.objects in
      let have = subst (λ (fs : List Frame). HavePaths P known ls l.last.state.mode fs (Some (ns ++ l.rest) ∷ ws)) frames l.here.visits.have in
      let path = top_path P known ls l.last.state.mode f (t.enters.waiting ∷ t.callers) (ns ++ l.rest) ws have in
      let end : Visit = record { node = last_node l.last.state.mode f; locals = f.locals; operands = f.operands; lengths = ls } in
      let of_method = subst (λ (k : ℕ). Path P known k path.0 end (ns ++ l.rest)) l.top.method path.2 in
      record { first = path.0; end = end; begins = path.1; path = subst (λ (us : List ℕ). Path P known m path.0 end us) (sym l.nodes_are) of_method }

  -- ---- the activations within it

  holds_next : (a b : Stage) → Follows g a b → Holding a.state → Holding b.state
  holds_next a b follows hold =
      let f = some_frame g.program g.types (numbers_of a.state.objects) a.state.mode a.state.frames follows.stands.fits.frames in
      record { constants = still_hold follow kinds fitting g is known Good on_good arrays a b follows f.0 f.1 f.2 hold.constants hold.good; good = on_good a b follows hold.good }

  all_hold : (n : ℕ) (a : Stage) (cs : List Stage) (b : Stage) → StaysAbove g n a cs b → Holding a.state → (x : Stage) → Contains (a ∷ cs) x → Holding x.state
  all_hold n a [] b stays hold x has =
      elim (cons_cases a x [] has) [
        | inl same ↦ subst (λ (y : Stage). Holding y.state) same hold
        | inr there ↦ absurd (nil_contains x there)
      ]
  all_hold n a (c ∷ cs) b stays hold x has =
      elim (cons_cases a x (c ∷ cs) has) [
        | inl same ↦ subst (λ (y : Stage). Holding y.state) same hold
        | inr there ↦ all_hold n c cs b stays.2 (holds_next a c stays.1 hold) x there
      ]

  begins_among : {m n : ℕ} {a b c d : Stage} (h : IsActivation g m a b) (h' : IsActivation g n c d) → LiesAmong h' (stages_of h) → Contains (stages_of h) c
  begins_among {m} {n} {a} {b} {c} {d} h h' lies =
      subst (λ (xs : List Stage). Contains xs c) (sym lies.split) (Contains-append_right lies.before (c ∷ (stages_of h' ++ d ∷ lies.after)) c (at_head c (stages_of h' ++ d ∷ lies.after)))

  -- where visits keep the bounds of loops that count to them
  module _ (bound_of : BoundOf) (Counted : (m p : ℕ) → Type 0)
      (count : (m p bound : ℕ) (first end : Visit) (ns : List ℕ) (d : Digraph) → bound_of m p ≡ Some bound → Counted m p → IsLiveGraph g.program m d → first.node ≡ At 0 → Path g.program known m first end ns → KeepsBound d (2 * p) bound ns) where
    -- an activation's walk does
    own_keeps : (m : ℕ) (a b : Stage) (h : IsActivation g m a b) → Holding a.state → WalkKeepsBut g.program Counted bound_of m (walk_of h) → WalkKeeps g.program bound_of m (walk_of h)
    own_keeps m a b h hold others d is_live p bound given before in_loop after split all =
        elim (cases_lt bound (back_edges_to (2 * p) in_loop)) [
          | inr within ↦ within
          | inl over ↦ absurd (let le = others d is_live p bound given (λ c. let le = counts c in omega arith) before in_loop after split all in omega arith)
        ]
      where
        counts : Counted m p → back_edges_to (2 * p) in_loop ≤ bound
        counts c =
            let o = own_path m a b h hold in
            count m p bound o.first o.end (walk_of h) d given c is_live o.begins o.path before in_loop after split all

    keeps : (m : ℕ) (a b : Stage) (h : IsActivation g m a b) → Holding a.state → KeepsBut Counted bound_of h → Keeps bound_of h
    keeps m a b h hold others = record {
      own = own_keeps m a b h hold others.own;
      inner = λ n c d h' lies.
          let at_first = holds_next a h.first h.begins hold in
          own_keeps n c d h' (all_hold (depth a) h.first h.between b h.stays at_first c (begins_among h h' lies)) (others.inner n c d h' lies);
    }

-- a loop that counts to its bound or to less keeps it
within_keeps : (P : Program) (live : LiveGraphsKeep) (bound_of : BoundOf) (Counts : ℕ → Digraph → ℕ → ℕ → Type 0) (m p bound : ℕ) (ns : List ℕ) (d : Digraph) → bound_of m p ≡ Some bound → IsLiveGraph P m d
    → ((whole : Digraph) (n : ℕ) → IsGraphOf P m whole → EachCycleIsALoop whole → Counts m whole p n → KeepsBound whole (number_of (At p)) n ns)
    → (c : IsWithinBound (CountsInGraph P Counts) bound_of m p) → KeepsBound d (2 * p) bound ns
within_keeps P live bound_of Counts m p bound ns d given is_live keep c before in_loop after split all =
    let whole = c.counts.graph in
    let keeps_whole = keep whole c.n c.counts.is_graph c.counts.cycles c.counts.counts in
    let in_live = live P m whole d (number_of (At p)) c.n ns c.counts.is_graph is_live c.counts.cycles keeps_whole in
    let le : back_edges_to (2 * p) in_loop ≤ c.n = in_live before in_loop after split all in
    let same = some_same c.bound bound (sym c.given ∙ given) in
    let within = c.within in
    omega arith

pub counted_activations_keep : StepsFollowWalks → RowsAreOfTheirKinds → FittingStatesAreWellFormed → UnknownWalksStand → CountedPathsKeep → LiveGraphsKeep → ActivationsAreTrees → CountedActivationsKeep
counted_activations_keep follow kinds fitting unknown counted live trees g constants bound_of m a b h is hold others =
    let known = only_constants constants in
    keeps follow kinds fitting unknown trees g is known (λ s. Unit {0}) (λ x y follows good. tt) (λ s good. no_arrays g.program constants s) bound_of (CountsWithin g.program constants bound_of)
    (λ n p bound first end ns d given c is_live begins path. within_keeps g.program live bound_of (CountsTo g.program constants) n p bound ns d given is_live
    (λ whole k of cycles counts. counted g.program constants n whole p k first end ns of cycles counts begins path) c)
    m a b h (record { constants = hold; good = tt }) others

pub further_activations_keep : StepsFollowWalks → RowsAreOfTheirKinds → FittingStatesAreWellFormed → UnknownWalksStand → FurtherPathsKeep → RunsHoldKnown → LiveGraphsKeep → ActivationsAreTrees → FurtherActivationsKeep
further_activations_keep follow kinds fitting unknown further runs live trees g known bound_of m a b h is run others =
    let hold = λ (s : State) (good : IsOfRun g.program (limits g) run.boot s). runs g.program g.types (limits g) known run.boot s is.lawful is.typed run.fits run.begins run.arrays run.hold good in
    keeps follow kinds fitting unknown trees g is known (λ s. IsOfRun g.program (limits g) run.boot s) (λ x y follows good. next follows.answer good follows.byte follows.is_next) (λ s good. (hold s good).arrays) bound_of
    (CountsFurtherWithin g.program known bound_of)
    (λ n p bound first end ns d given c is_live begins path. within_keeps g.program live bound_of (CountsFurther g.program known) n p bound ns d given is_live
    (λ whole k of cycles counts. further g.program known n whole p k first end ns of cycles counts begins path) c)
    m a b h (record { constants = (hold a.state run.run).constants; good = run.run }) others
