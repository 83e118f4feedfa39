-- The visits of frames along runs, and what fields hold.
use Rattle.std.proofs.Common.{◌≡◌, ◌⊎◌, ℕ, zero, suc, ◌+◌, true, List, [], ◌∷◌, ◌++◌, length, map, Option, Some, None, refl, sym, ap, ◌∙◌, subst, inl, inr, IsSomeAnd, arith}
use Rattle.lists.proofs.Lemmas.{none≢some, onto_some, some_is, some_in, holds_at}
use Rattle.lists.specs.Members.{heads, tails}
use Rattle.opcodes.specs.declared.instruction.Instr.{Instr}
use Rattle.opcodes.specs.declared.table.Kind.{Kind}
use Rattle.opcodes.specs.declared.table.Kind.TheVariants.{Invoke}
use Rattle.opcodes.specs.Row as opcodes
use Rattle.opcodes.specs.Target as operands
use Rattle.opcodes.specs.Start.{IsStart}
use Rattle.bytecode_model.specs.declared.Value.{Value}
use Rattle.bytecode_model.specs.declared.Ending.{Ending}
use Rattle.bytecode_model.specs.declared.Ending.TheVariants.{Running, Raising, Ended, Uncaught}
use Rattle.bytecode_model.specs.State.{Object, Frame, State}
use Rattle.bytecode_model.specs.Program.{Program, Limits, Body, body_of, instr_at}
use Rattle.bytecode_model.specs.Rows.{Row}
use Rattle.bytecode_model.specs.Steps.{run_from, row_in, step, step_in}
use Rattle.bytecode_model.specs.WellFormed.{IsFrame, AreFrames, AreSpaced, is_call}
use Rattle.bytecode_typing.specs.Typed.{Typing, Typed}
use Rattle.bytecode_typing.specs.Lawful.{Lawful}
use Rattle.bytecode_typing.specs.Fits.{IsGoing, Fits, FramesFit, numbers_of}
use Rattle.bytecode_typing.specs.Laws.{FittingStatesAreWellFormed}
use Rattle.method_flow.specs.Nodes.{Node, At, RaiseAt, number_of, LeadsTo, IsEdge, MayRaise}
use Rattle.method_flow.specs.Calls.{IsCall, IsTarget}
use Rattle.method_flow.specs.Kinds.{LeadsByKind, RowsAreOfTheirKinds}
use Rattle.method_flow.specs.Shapes.{node_of, IsGoingOn, Moves, Enters, Returns, Drops}
use Rattle.loop_rules.specs.Tests.{Constants}
use Rattle.loop_rules.specs.Further.Known.{Known}
use Rattle.method_runs.specs.Runs.{Walks, with_nodes, walks_from, unknown_walks}
use Rattle.method_runs.specs.Standing.{last_node, made_of, IsBelow, Waiting, Standing}
use Rattle.method_runs.specs.Steps.{WalksStep, Stepped, Stayed}
use Rattle.method_runs.specs.Steps.WalksStep.{moves, enters, returns, drops, ends}
use Rattle.method_runs.specs.Laws.{GivesBytes, HasWalks, RunsHaveWalks, UnknownWalksStand}
use Rattle.counted_laws.specs.Visits.{Visit, visit_of, lengths_of, Grows, HoldsValue, Passes, Path}
use Rattle.counted_laws.specs.Visits.Path.{here, more}
use Rattle.loop_rules.specs.Further.Found.{only_constants}
use Rattle.counted_laws.specs.Paths.{HoldConstants, HoldArrays, HoldKnown, HasPath, WaitingPaths, HavePaths, RunsHavePaths}
use Rattle.counted_laws.proofs.Lengths.{then_grows}
use Rattle.counted_laws.proofs.Doing.{call_does}
use Rattle.counted_laws.proofs.Stepping.{Facts, Did, Wrote, Result, at_same, at_or_raise, did}
use Rattle.counted_laws.proofs.Stepping.Did.{within, made, gone, over}
use Rattle.counted_laws.proofs.Fields.{constants_stay, grown, no_arrays}

-- ---- behind an invoke

behind_call : RowsAreOfTheirKinds → (P : Program) (m p q : ℕ) → IsCall P m p → IsSomeAnd (instr_at P m p) (λ i. q ≡ p + i.length) → IsEdge P m (At p) (At q)
behind_call kinds P m p q call place =
    let row = some_is (row_in P m p) (λ (x : ℕ × Row). is_call x.1 ≡ true) call in
    let next = row.0.0 in
    let r = row.0.1 in
    let body = onto_some (body_of P m) _ row.0 row.1 in
    let instr = onto_some (instr_at P m p) _ row.0 body.2 in
    let is = kinds P m p next body.0 instr.0 r body.1 instr.1 row.1 in
    let at : q ≡ p + instr.0.length = holds_at (instr_at P m p) instr.0 (λ (i : Instr). q ≡ p + i.length) instr.1 place in
    let invoke : (opcodes.row_of instr.0.op).kind ≡ Invoke = is.1.calls.0 row.2 in
    let by_kind : LeadsByKind (opcodes.row_of instr.0.op).kind (operands.targets_of body.0.code p instr.0) next q =
    subst (λ (k : Kind). LeadsByKind k (operands.targets_of body.0.code p instr.0) next q) (sym invoke) (at ∙ sym is.0) in
    some_in (row_in P m p) row.0 (λ (x : ℕ × Row). LeadsTo p x.0 x.1 q) row.1 ((is.1.leads q).1 by_kind)

-- ---- nodes

last_is : (mode : Ending) (f : Frame) → IsGoing mode → last_node mode f ≡ node_of mode f
last_is Running f going = refl
last_is (Raising p) f going = refl
last_is Ended f going = absurd going
last_is (Uncaught c) f going = absurd going

last_of : (mode : Ending) (f : Frame) → IsGoingOn mode → last_node mode f ≡ node_of mode f
last_of Running f going = refl
last_of (Raising p) f going = refl
last_of Ended f going = absurd going
last_of (Uncaught c) f going = absurd going

module _ (P : Program) where
  abbrev Starts : Frame → Type 0
  Starts f = IsSomeAnd (body_of P f.method) (λ b. IsStart b.code f.pc)

  start_at : (f : Frame) → Starts f → (p : ℕ) → At f.pc ≡ At p → IsSomeAnd (body_of P f.method) (λ b. IsStart b.code p)
  start_at f start p e = subst (λ (x : ℕ). IsSomeAnd (body_of P f.method) (λ b. IsStart b.code x)) (at_same f.pc p e) start

  start_node : (mode : Ending) (f : Frame) → Starts f → (p : ℕ) → node_of mode f ≡ At p → IsSomeAnd (body_of P f.method) (λ b. IsStart b.code p)
  start_node Running f start p e = start_at f start p e
  start_node (Raising q) f start p e = absurd (at_or_raise f.pc p e)
  start_node Ended f start p e = start_at f start p e
  start_node (Uncaught c) f start p e = start_at f start p e

  called : (f c : Frame) (v w : Option (List ℕ)) → IsBelow P (made_of f v) c w → (ns : List ℕ) → w ≡ Some ns → IsCall P c.method c.pc × MayRaise P c.method c.pc × IsTarget P c.method c.pc f.method
  called f c None w below ns is = absurd (none≢some ns (sym below ∙ is))
  called f c (Some xs) w below ns is = below

module _ (kinds : RowsAreOfTheirKinds) (P : Program) (known : Known) (mode : Ending) (os : List Object) (t : State) (f : Frame) (callers : List Frame) (grows : Grows (lengths_of os) (lengths_of t.objects)) where
  abbrev before : List ℕ
  before = lengths_of os

  abbrev now : List ℕ
  now = lengths_of t.objects

  -- a path goes on to the next visit
  led : (g top : Frame) (u v : Node) (ops : List Value) (ls : List ℕ) (w : Option (List ℕ)) → top.method ≡ g.method → HasPath P known g u ops ls w
      → ((ns : List ℕ) → w ≡ Some ns → Passes P known g.method (record { node = u; locals = g.locals; operands = ops; lengths = ls }) (visit_of v t.objects top))
      → HasPath P known top v top.operands now (with_nodes (number_of v ∷ []) w)
  led g top u v ops ls None same h passes = tt
  led g top u v ops ls (Some ns) same h passes =
      subst (λ (m : ℕ). (a : Visit) × (a.node ≡ At 0) × Path P known m a (visit_of v t.objects top) (ns ++ number_of v ∷ [])) (sym same) (h.0, h.1, more h.2 (passes ns refl))

  abbrev longer : {X : Type 0} {xs ys : List X} → xs ≡ ys → length xs ≡ length ys
  longer {X} e = ap (λ (zs : List X). length zs) e

  -- frames that wait go on waiting
  still_wait : (fs : List Frame) (ws : Walks) → WaitingPaths P known before fs ws → WaitingPaths P known now fs ws
  still_wait [] [] h = tt
  still_wait [] (w ∷ ws) h = absurd h
  still_wait (g ∷ fs) [] h = absurd h
  still_wait (g ∷ fs) (w ∷ ws) h = ((h.0.0, h.0.1, then_grows h.0.1 before now h.0.2 grows, h.0.3), still_wait fs ws h.1)

  by_moves : (w : Option (List ℕ)) (ws : Walks) → IsGoing mode → Starts P f → HasPath P known f (last_node mode f) f.operands before w → WaitingPaths P known before callers ws → (h : Moves P mode f callers t)
      → Did P known os mode f callers t
      → HavePaths P known now t.mode t.frames (with_nodes (number_of (node_of t.mode h.top) ∷ []) w ∷ ws)
  by_moves w ws going start path waiting h (within top frames on facts) =
      let same : top ≡ h.top = heads top h.top callers callers (sym frames ∙ h.frames) in
      let v = node_of t.mode h.top in
      let facts' : Facts P known f.method (visit_of (node_of mode f) os f) (visit_of v t.objects h.top) =
      subst (λ (x : Frame). Facts P known f.method (visit_of (node_of mode f) os f) (visit_of (node_of t.mode x) t.objects x)) same facts in
      let from : HasPath P known f (node_of mode f) f.operands before w = subst (λ (u : Node). HasPath P known f u f.operands before w) (last_is mode f going) path in
      let to : HasPath P known h.top v h.top.operands now (with_nodes (number_of v ∷ []) w) =
      led f h.top (node_of mode f) v f.operands before w h.same from (λ ns is. record { edge = h.edge; start = start_node P mode f start; does = facts'.does; keeps = facts'.keeps; grows = grows }) in
      let to' : HasPath P known h.top (last_node t.mode h.top) h.top.operands now (with_nodes (number_of v ∷ []) w) =
      subst (λ (u : Node). HasPath P known h.top u h.top.operands now (with_nodes (number_of v ∷ []) w)) (sym (last_of t.mode h.top h.going)) to in
      subst (λ (fs : List Frame). HavePaths P known now t.mode fs (with_nodes (number_of v ∷ []) w ∷ ws)) (sym h.frames) (to', still_wait callers ws waiting)
  by_moves w ws going start path waiting h (made top below frames on locals) = absurd (let e = longer (sym h.frames ∙ frames) in omega arith)
  by_moves w ws going start path waiting h (gone c others top are frames on locals) = absurd (let e = longer (sym h.frames ∙ frames) in let k = longer are in omega arith)
  by_moves w ws going start path waiting h (over frames ended last objects) = absurd (ended h.going)

  by_enters : (w : Option (List ℕ)) (ws : Walks) → HasPath P known f (last_node mode f) f.operands before w → WaitingPaths P known before callers ws → (h : Enters P mode f callers t) → Did P known os mode f callers t
      → HavePaths P known now t.mode t.frames (Some (0 ∷ []) ∷ w ∷ ws)
  by_enters w ws path waiting h (made top below frames on locals) =
      let rest : h.waiting ∷ callers ≡ below ∷ callers = tails h.top top (h.waiting ∷ callers) (below ∷ callers) (sym h.frames ∙ frames) in
      let same : h.waiting ≡ below = heads h.waiting below callers callers rest in
      let locals' : h.waiting.locals ≡ f.locals = ap (λ (x : Frame). x.locals) same ∙ locals in
      let first : last_node t.mode h.top ≡ At 0 = ap (λ (x : Ending). last_node x h.top) h.still ∙ ap At h.first in
      let a : Visit = visit_of (last_node t.mode h.top) t.objects h.top in
      let begun : HasPath P known h.top (last_node t.mode h.top) h.top.operands now (Some (0 ∷ [])) =
      (a, first, subst (λ (k : ℕ). Path P known h.top.method a a (k ∷ [])) (ap number_of first) here) in
      let at : HasPath P known f (At f.pc) f.operands before w = subst (λ (x : Ending). HasPath P known f (last_node x f) f.operands before w) h.running path in
      let waits : HasPath P known h.waiting (At h.waiting.pc) f.operands before w = moved w at locals' in
      subst (λ (fs : List Frame). HavePaths P known now t.mode fs (Some (0 ∷ []) ∷ w ∷ ws)) (sym h.frames) (begun, ((f.operands, before, grows, waits), still_wait callers ws waiting))
    where
      moved : (x : Option (List ℕ)) → HasPath P known f (At f.pc) f.operands before x → h.waiting.locals ≡ f.locals → HasPath P known h.waiting (At h.waiting.pc) f.operands before x
      moved None p e = tt
      moved (Some ns) p e =
          let by_method = subst (λ (m : ℕ). (a : Visit) × (a.node ≡ At 0) × Path P known m a (record { node = At f.pc; locals = f.locals; operands = f.operands; lengths = before }) ns) (sym h.same) p in
          let by_place = subst (λ (q : ℕ). (a : Visit) × (a.node ≡ At 0) × Path P known h.waiting.method a (record { node = At q; locals = f.locals; operands = f.operands; lengths = before }) ns) (sym h.place) by_method in
          subst (λ (ls : List Value). (a : Visit) × (a.node ≡ At 0) × Path P known h.waiting.method a (record { node = At h.waiting.pc; locals = ls; operands = f.operands; lengths = before }) ns) (sym e) by_place
  by_enters w ws path waiting h (within top frames on facts) = absurd (let e = longer (sym h.frames ∙ frames) in omega arith)
  by_enters w ws path waiting h (gone c others top are frames on locals) = absurd (let e = longer (sym h.frames ∙ frames) in let k = longer are in omega arith)
  by_enters w ws path waiting h (over frames ended last objects) = absurd (let e = longer (sym h.frames ∙ frames) in omega arith)

  -- what a caller did at its invoke
  passed_call : (c top : Frame) (v : Node) (ops : List Value) (ls : List ℕ) → Grows ls now → Starts P c → IsCall P c.method c.pc → IsEdge P c.method (At c.pc) v → top.locals ≡ c.locals
      → Passes P known c.method (record { node = At c.pc; locals = c.locals; operands = ops; lengths = ls }) (visit_of v t.objects top)
  passed_call c top v ops ls grown start call edge locals = record {
    edge = edge;
    start = start_at P c start;
    does = λ p next r at is.
        let place : c.pc ≡ p = at_same c.pc p at in
        let here' : row_in P c.method c.pc ≡ Some (next, r) = subst (λ (x : ℕ). row_in P c.method x ≡ Some (next, r)) (sym place) is in
        let called' : is_call r ≡ true = holds_at (row_in P c.method c.pc) (next, r) (λ (x : ℕ × Row). is_call x.1 ≡ true) here' call in
        call_does P known r p next (record { node = At c.pc; locals = c.locals; operands = ops; lengths = ls }) (visit_of v t.objects top) called';
    keeps = λ k v short holds none. subst (λ (xs : List Value). HoldsValue xs k v) (sym locals) holds;
    grows = grown;
  }

  -- back in a caller
  back_in : (v : Option (List ℕ)) (w : Option (List ℕ)) (ws : Walks) (caller : Frame) (others : List Frame) (top : Frame) (u : Node) → callers ≡ caller ∷ others → t.frames ≡ top ∷ others → IsGoingOn t.mode → node_of t.mode top ≡ u
      → top.method ≡ caller.method → ((c : Frame) (cs : List Frame) → callers ≡ c ∷ cs → Starts P c) → Waiting P (made_of f v) callers (w ∷ ws) → WaitingPaths P known before callers (w ∷ ws)
      → (IsCall P caller.method caller.pc → MayRaise P caller.method caller.pc → IsEdge P caller.method (At caller.pc) u) → top.locals ≡ caller.locals
      → HavePaths P known now t.mode t.frames (with_nodes (number_of u ∷ []) w ∷ ws)
  back_in v w ws caller others top u are frames on node same starts stand waiting edge locals =
      let stand' = subst (λ (cs : List Frame). Waiting P (made_of f v) cs (w ∷ ws)) are stand in
      let waiting' = subst (λ (cs : List Frame). WaitingPaths P known before cs (w ∷ ws)) are waiting in
      let facts = called P f caller v w stand'.1 in
      let start = starts caller others are in
      let since : Grows waiting'.0.1 now = then_grows waiting'.0.1 before now waiting'.0.2 grows in
      let to : HasPath P known top u top.operands now (with_nodes (number_of u ∷ []) w) =
      led caller top (At caller.pc) u waiting'.0.0 waiting'.0.1 w same waiting'.0.3 (λ ns is. passed_call caller top u waiting'.0.0 waiting'.0.1 since start (facts ns is).0 (edge (facts ns is).0 (facts ns is).1) locals) in
      let last : last_node t.mode top ≡ u = last_of t.mode top on ∙ node in
      subst (λ (fs : List Frame). HavePaths P known now t.mode fs (with_nodes (number_of u ∷ []) w ∷ ws)) (sym frames)
      (subst (λ (x : Node). HasPath P known top x top.operands now (with_nodes (number_of u ∷ []) w)) (sym last) to, still_wait others ws waiting'.1)

  -- the locals of a frame that is gone on in
  same_gone : (caller : Frame) (others : List Frame) (top : Frame) → callers ≡ caller ∷ others → t.frames ≡ top ∷ others → IsGoingOn t.mode → Did P known os mode f callers t → top.locals ≡ caller.locals
  same_gone caller others top are frames on (gone c cs g are' frames' on' locals) =
      let one : c ≡ caller = heads c caller cs others (sym are' ∙ are) in
      let two : g ≡ top = heads g top cs others (sym frames' ∙ frames) in
      sym (ap (λ (x : Frame). x.locals) two) ∙ (locals ∙ ap (λ (x : Frame). x.locals) one)
  same_gone caller others top are frames on (within g frames' on' facts) = absurd (let e = longer (sym frames ∙ frames') in let k = longer are in omega arith)
  same_gone caller others top are frames on (made g below frames' on' locals) = absurd (let e = longer (sym frames ∙ frames') in let k = longer are in omega arith)
  same_gone caller others top are frames on (over frames' ended last objects) = absurd (ended on)

  by_returns : (v w : Option (List ℕ)) (ws : Walks) → ((c : Frame) (cs : List Frame) → callers ≡ c ∷ cs → Starts P c) → Waiting P (made_of f v) callers (w ∷ ws) → WaitingPaths P known before callers (w ∷ ws) → (h : Returns P mode f callers t)
      → Did P known os mode f callers t → HavePaths P known now t.mode t.frames (with_nodes (number_of (At h.top.pc) ∷ []) w ∷ ws)
  by_returns v w ws starts stand waiting h d =
      let on : IsGoingOn t.mode = subst IsGoingOn (sym h.still) tt in
      back_in v w ws h.caller h.others h.top (At h.top.pc) h.callers_are h.frames on (ap (λ (x : Ending). node_of x h.top) h.still) h.same starts stand waiting
      (λ call may. behind_call kinds P h.caller.method h.caller.pc h.top.pc call h.place) (same_gone h.caller h.others h.top h.callers_are h.frames on d)

  by_drops : (v w : Option (List ℕ)) (ws : Walks) → ((c : Frame) (cs : List Frame) → callers ≡ c ∷ cs → Starts P c) → Waiting P (made_of f v) callers (w ∷ ws) → WaitingPaths P known before callers (w ∷ ws) → (h : Drops P mode f callers t)
      → Did P known os mode f callers t → HavePaths P known now t.mode t.frames (with_nodes (number_of (RaiseAt h.top.pc) ∷ []) w ∷ ws)
  by_drops v w ws starts stand waiting h d =
      let on : IsGoingOn t.mode = subst IsGoingOn (sym h.still) tt in
      back_in v w ws h.caller h.others h.top (RaiseAt h.top.pc) h.callers_are h.frames on (ap (λ (x : Ending). node_of x h.top) h.still) h.same starts stand waiting
      (λ call may. (h.place, may)) (same_gone h.caller h.others h.top h.callers_are h.frames on d)

  by_ends : (w : Option (List ℕ)) (ws : Walks) → HasPath P known f (last_node mode f) f.operands before w → WaitingPaths P known before callers ws → callers ≡ [] → (IsGoingOn t.mode → ⊥)
      → Did P known os mode f callers t → HavePaths P known now t.mode t.frames (w ∷ ws)
  by_ends w ws path waiting none ended (over frames ended' last objects) =
      subst (λ (fs : List Frame). HavePaths P known now t.mode fs (w ∷ ws)) (sym frames) (
        subst (λ (u : Node). HasPath P known f u f.operands now w) (sym last) (subst (λ (xs : List Object). HasPath P known f (last_node mode f) f.operands (lengths_of xs) w) (sym objects) path),
        subst (λ (cs : List Frame). WaitingPaths P known now cs ws) none (still_wait callers ws waiting),
      )
  by_ends w ws path waiting none ended (within top frames on facts) = absurd (ended on)
  by_ends w ws path waiting none ended (made top below frames on locals) = absurd (ended on)
  by_ends w ws path waiting none ended (gone c others top are frames on locals) = absurd (ended on)

  pub paths_follow : IsGoing mode → Starts P f → ((c : Frame) (cs : List Frame) → callers ≡ c ∷ cs → Starts P c) → (ws vs : Walks) → Standing P mode (f ∷ callers) ws → HavePaths P known before mode (f ∷ callers) ws → WalksStep P mode f callers t ws vs
      → Did P known os mode f callers t → HavePaths P known now t.mode t.frames vs
  paths_follow going start starts ws vs stand have (moves {w} {ws = rest} h) d = by_moves w rest going start have.0 have.1 h d
  paths_follow going start starts [] vs stand have (enters h) d = absurd have
  paths_follow going start starts (w ∷ rest) vs stand have (enters h) d = by_enters w rest have.0 have.1 h d
  paths_follow going start starts ws vs stand have (returns {v} {w} {ws = rest} h) d = by_returns v w rest starts stand.1 have.1 h d
  paths_follow going start starts ws vs stand have (drops {v} {w} {ws = rest} h) d = by_drops v w rest starts stand.1 have.1 h d
  paths_follow going start starts [] vs stand have (ends none frames ended) d = absurd have
  paths_follow going start starts (w ∷ rest) vs stand have (ends none frames ended) d = by_ends w rest have.0 have.1 none ended d

-- ---- along a run

goes_on : (P : Program) (limits : Limits) (answer : Option ℕ) (s t : State) (fs : List Frame) (mode : Ending) → step_in P limits answer s fs mode ≡ Some t → IsGoing mode
goes_on P limits answer s t fs Running e = tt
goes_on P limits answer s t fs (Raising p) e = tt
goes_on P limits answer s t [] Ended e = absurd (none≢some t e)
goes_on P limits answer s t (f ∷ fs) Ended e = absurd (none≢some t e)
goes_on P limits answer s t [] (Uncaught c) e = absurd (none≢some t e)
goes_on P limits answer s t (f ∷ fs) (Uncaught c) e = absurd (none≢some t e)

walks_first : (P : Program) (limits : Limits) (input : ℕ → Option ℕ) (s : State) (ws : Walks) → walks_from P limits input s ws zero ≡ ws
unfolding walks_from
walks_first P limits input s ws = refl

run_first : (P : Program) (limits : Limits) (input : ℕ → Option ℕ) (s : State) → run_from P limits input s zero ≡ s
unfolding run_from
run_first P limits input s = refl

-- what is so at each number of steps: the frames have their visits, and the fields hold what is known of them
pub record Here (P : Program) (known : Known) (s : State) (ws : Walks) : Type 0 where
  pub have : HavePaths P known (lengths_of s.objects) s.mode s.frames ws
  pub hold : HoldKnown P known s

module _ (fitting : FittingStatesAreWellFormed) (kinds : RowsAreOfTheirKinds) (P : Program) (types : Typing) (limits : Limits) (known : Known) (lawful : Lawful P) (typed : Typed P types) where
  start_of : (objects : ℕ) (f : Frame) (fs : List Frame) → AreFrames P objects (f ∷ fs) → IsSomeAnd (body_of P f.method) (λ b. IsStart b.code f.pc)
  start_of objects f fs are = let b = some_is (body_of P f.method) (IsFrame P objects f) are.0 in some_in (body_of P f.method) b.0 (λ (x : Body). IsStart x.code f.pc) b.1 b.2.start

  spaced_of : (objects : ℕ) (f : Frame) (fs : List Frame) → AreFrames P objects (f ∷ fs) → AreSpaced f.locals
  spaced_of objects f fs are = (some_is (body_of P f.method) (IsFrame P objects f) are.0).2.spaced

  -- over a step of the top frame f
  module _ (answer : Option ℕ) (a b : State) (f : Frame) (callers : List Frame) (frames : a.frames ≡ f ∷ callers) (fits : Fits P types limits a) (is_next : step P limits answer a ≡ Some b) where
    are_frames : AreFrames P (length a.objects) (f ∷ callers)
    are_frames = subst (λ (fs : List Frame). AreFrames P (length a.objects) fs) frames (fitting P types limits typed a fits).frames

    next : step_in P limits answer a (f ∷ callers) a.mode ≡ Some b
    next = ap (λ (fs : List Frame). step_in P limits answer a fs a.mode) (sym frames) ∙ is_next

    pub going : IsGoing a.mode
    going = goes_on P limits answer a b (f ∷ callers) a.mode next

    pub done : HoldKnown P known a → Result P known a.mode a f callers b
    done hold = did P limits known answer a b f callers hold (start_of (length a.objects) f callers are_frames) (spaced_of (length a.objects) f callers are_frames) a.mode next

    pub step_on : (ws vs : Walks) → Standing P a.mode a.frames ws → WalksStep P a.mode f callers b ws vs → (h : Here P known a ws) → HoldArrays P known b → Here P known b vs
    step_on ws vs standing walks h arrays =
        let d = done h.hold in
        let starts : (c : Frame) (cs : List Frame) → callers ≡ c ∷ cs → IsSomeAnd (body_of P c.method) (λ y. IsStart y.code c.pc) =
        λ c cs is. start_of (length a.objects) c cs (subst (λ (fs : List Frame). AreFrames P (length a.objects) fs) is are_frames.1) in
        let stand = subst (λ (fs : List Frame). Standing P a.mode fs ws) frames standing in
        let have = subst (λ (fs : List Frame). HavePaths P known (lengths_of a.objects) a.mode fs ws) frames h.have in
        record {
          have = paths_follow kinds P known a.mode a.objects b f callers (grown P a.mode a f b d.1) going (start_of (length a.objects) f callers are_frames) starts ws vs stand have walks d.0;
          hold = record { constants = constants_stay P known.constants a.mode a f b d.1 h.hold.constants; arrays = arrays };
        }

module _ (fitting : FittingStatesAreWellFormed) (kinds : RowsAreOfTheirKinds) (have_walks : RunsHaveWalks) (P : Program) (types : Typing) (limits : Limits) (known : Known) (input : ℕ → Option ℕ) (s : State) (first_walks : Walks)
    (lawful : Lawful P) (typed : Typed P types) (gives : GivesBytes input) (fits : Fits P types limits s) (stand : Standing P s.mode s.frames first_walks) (begins : Here P known s first_walks) where
  abbrev run : ℕ → State
  run n = run_from P limits input s n

  abbrev so_far : ℕ → Walks
  so_far n = walks_from P limits input s first_walks n

  abbrev Now : ℕ → Type 0
  Now n = Here P known (run n) (so_far n)

  -- the fields go on holding their arrays
  abbrev Stay : Type 0
  Stay = (n : ℕ) (f : Frame) (callers : List Frame) → (run n).frames ≡ f ∷ callers → Now n → Wrote P (run n).mode (run n) f (run (suc n)) → HoldArrays P known (run (suc n))

  walks_at : (n : ℕ) → HasWalks P types limits input s first_walks n
  walks_at n = have_walks P types limits input s first_walks lawful typed gives fits stand n

  module _ (stay : Stay) where
    stepped : (n : ℕ) → Now n → Stepped P limits (run n) (run (suc n)) (so_far n) (so_far (suc n)) → Now (suc n)
    stepped n h x =
        let w = walks_at n in
        let d = done fitting kinds P types limits known lawful typed x.answer (run n) (run (suc n)) x.frame x.callers x.frames w.fits x.is_next h.hold in
        step_on fitting kinds P types limits known lawful typed x.answer (run n) (run (suc n)) x.frame x.callers x.frames w.fits x.is_next (so_far n) (so_far (suc n)) w.standing x.walks h
        (stay n x.frame x.callers x.frames h d.1)

    stayed : (n : ℕ) → Now n → Stayed (run n) (run (suc n)) (so_far n) (so_far (suc n)) → Now (suc n)
    stayed n h x = subst (λ (vs : Walks). Here P known (run (suc n)) vs) (sym x.same_walks) (subst (λ (u : State). Here P known u (so_far n)) (sym x.same) h)

    at_first : Now zero
    at_first =
        subst (λ (vs : Walks). Here P known (run zero) vs) (sym (walks_first P limits input s first_walks))
        (subst (λ (u : State). Here P known u first_walks) (sym (run_first P limits input s)) begins)

    pub holds : (n : ℕ) → Now n
    holds zero = at_first
    holds (suc n) = by (holds n) (walks_at n).next
      where
        by : Now n → Stepped P limits (run n) (run (suc n)) (so_far n) (so_far (suc n)) ⊎ Stayed (run n) (run (suc n)) (so_far n) (so_far (suc n)) → Now (suc n)
        by h (inl x) = stepped n h x
        by h (inr x) = stayed n h x

-- ---- where nothing is known of the frames of the first state

all_unknown : (P : Program) (known : Known) (ls : List ℕ) (fs : List Frame) → WaitingPaths P known ls fs (map (λ (f : Frame). None) fs)
all_unknown P known ls [] = tt
all_unknown P known ls (f ∷ fs) = (([], [], (λ p n is. absurd (none≢some n is)), tt), all_unknown P known ls fs)

pub unknown_paths : (P : Program) (types : Typing) (known : Known) (ls ks : List ℕ) (mode : Ending) (fs : List Frame) → FramesFit P types ks mode fs → HavePaths P known ls mode fs (map (λ (f : Frame). None) fs)
unknown_paths P types known ls ks mode [] h = absurd h
unknown_paths P types known ls ks mode (f ∷ fs) h = (tt, all_unknown P known ls fs)

pub only_ints : (P : Program) (constants : Constants) (s : State) → HoldConstants P constants s → HoldKnown P (only_constants constants) s
only_ints P constants s hold = record { constants = hold; arrays = no_arrays P constants s }

pub constants_hold : FittingStatesAreWellFormed → RowsAreOfTheirKinds → RunsHaveWalks → UnknownWalksStand → (P : Program) (types : Typing) (limits : Limits) (constants : Constants) (input : ℕ → Option ℕ) (s : State) (n : ℕ) → Lawful P → Typed P types
    → GivesBytes input → Fits P types limits s → HoldConstants P constants s → Here P (only_constants constants) (run_from P limits input s n) (walks_from P limits input s (unknown_walks s) n)
constants_hold fitting kinds have_walks unknown P types limits constants input s n lawful typed gives fits hold =
    holds fitting kinds have_walks P types limits (only_constants constants) input s (unknown_walks s) lawful typed gives fits (unknown P types limits s fits)
    (record { have = unknown_paths P types (only_constants constants) (lengths_of s.objects) (numbers_of s.objects) s.mode s.frames fits.frames; hold = only_ints P constants s hold })
    (λ k f callers frames now wrote. no_arrays P constants (run_from P limits input s (suc k))) n

pub runs_have_paths : FittingStatesAreWellFormed → RowsAreOfTheirKinds → RunsHaveWalks → UnknownWalksStand → RunsHavePaths
runs_have_paths fitting kinds have_walks unknown P types limits constants input s n lawful typed gives fits hold =
    (constants_hold fitting kinds have_walks unknown P types limits constants input s n lawful typed gives fits hold).have
