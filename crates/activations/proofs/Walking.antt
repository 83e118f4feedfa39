-- The nodes of a stay are a walk that a run can take to an exit.
use Rattle.std.proofs.Common.{◌≡◌, ◌⊎◌, ℕ, List, [], ◌∷◌, sym, ◌∙◌, subst, inl, inr}
use Rattle.bytecode_model.specs.declared.Ending.{Ending}
use Rattle.bytecode_model.specs.State.{Frame, State}
use Rattle.lists.specs.Members.{heads}
use Rattle.method_flow.specs.Nodes.{At, number_of, MayRaise, IsExit}
use Rattle.method_flow.specs.Calls.{IsCall, IsTarget}
use Rattle.method_flow.specs.Live.{CanEnd, IsLiveEdge, LiveWalk}
use Rattle.method_flow.specs.Live.LiveWalk.{stops as stops_at, along as walks_on}
use Rattle.method_flow.specs.Shapes.{node_of, Returns, Drops}
use Rattle.method_flow.specs.Walks.{MovesAreLive, ReturnsAreExits, DropsAreExits, CallersReturn, CallersRaise, EndingIsAWalk}
use Rattle.activations.specs.Setting.{Setting}
use Rattle.activations.specs.Activations.{Stage}
use Rattle.activations.specs.Stays.{IsTop, Stay}
use Rattle.activations.specs.Stays.Stay.{leaves, goes, calls}
use Rattle.activations.proofs.Staying.{back_of, left_of}

-- the step with which a stay ends
pub record LastStep (g : Setting) (callers : List Frame) (m : ℕ) (c : Stage) : Type 0 where
  pub mode : Ending
  pub frame : Frame
  pub method : frame.method ≡ m
  pub left : Returns g.program mode frame callers c.state ⊎ Drops g.program mode frame callers c.state

last_of : {g : Setting} {callers : List Frame} {m : ℕ} {a b : Stage} {cs : List Stage} {us : List ℕ} → Stay g callers m a b cs us → LastStep g callers m b
last_of (leaves {callers} {m} {a} top follows h) = record { mode = a.state.mode; frame = top.frame; method = top.method; left = h }
last_of (goes top follows h more) = last_of more
last_of (calls top follows h child more) = last_of more

-- a fact of a method and a place, at the same ones
carried : (K : ℕ → ℕ → Type 0) (m p n q : ℕ) → m ≡ n → p ≡ q → K m p → K n q
carried K m p n q same place h = subst (λ (x : ℕ). K n x) place (subst (λ (x : ℕ). K x p) same h)

module _ (moves_live : MovesAreLive) (returns_exit : ReturnsAreExits) (drops_exit : DropsAreExits) (callers_return : CallersReturn) (callers_raise : CallersRaise) (ending : EndingIsAWalk) (g : Setting) where
  -- the walk from the node of the top frame
  abbrev WalksFrom : (callers : List Frame) (m : ℕ) (a : Stage) (us : List ℕ) → Type 0
  WalksFrom callers m a us = (f : Frame) → a.state.frames ≡ f ∷ callers → LiveWalk g.program m (node_of a.state.mode f) us

  by_node : (callers : List Frame) (m : ℕ) (a : Stage) (u : ℕ) (us : List ℕ) (top : IsTop callers m a u)
      → LiveWalk g.program m (node_of a.state.mode top.frame) (number_of (node_of a.state.mode top.frame) ∷ us) → WalksFrom callers m a (u ∷ us)
  by_node callers m a u us top w f frames =
      let e : top.frame ≡ f = heads top.frame f callers callers (sym top.frames ∙ frames) in
      let Q : Frame → Type 0 = λ x. LiveWalk g.program m (node_of a.state.mode x) (u ∷ us) in
      subst Q e (subst (λ (x : ℕ). LiveWalk g.program m (node_of a.state.mode top.frame) (x ∷ us)) (sym top.node) w)

  exit_of : (mode : Ending) (f : Frame) (callers : List Frame) (t : State) → Returns g.program mode f callers t ⊎ Drops g.program mode f callers t → IsExit g.program f.method (node_of mode f)
  exit_of mode f callers t (inl h) = returns_exit g.program mode f callers t h
  exit_of mode f callers t (inr h) = drops_exit g.program mode f callers t h

  -- where a called frame is left, its caller goes along an edge that a run can take
  came_back : (waiting : Frame) (callers : List Frame) (m' : ℕ) (c : Stage) → IsCall g.program waiting.method waiting.pc → MayRaise g.program waiting.method waiting.pc
      → IsTarget g.program waiting.method waiting.pc m' → CanEnd g.program m' → LastStep g (waiting ∷ callers) m' c → (f : Frame) → c.state.frames ≡ f ∷ callers
      → IsLiveEdge g.program waiting.method (At waiting.pc) (node_of c.state.mode f)
  came_back waiting callers m' c call may target ended last f frames = by last.left
    where
      -- at the caller that is told
      moved : (caller : Frame) (others : List Frame) (top : Frame) → waiting ∷ callers ≡ caller ∷ others → c.state.frames ≡ top ∷ others
          → IsLiveEdge g.program caller.method (At caller.pc) (node_of c.state.mode top) → IsLiveEdge g.program waiting.method (At waiting.pc) (node_of c.state.mode f)
      moved caller others top are is live =
          let head : caller ≡ waiting = sym (heads waiting caller callers others are) in
          let same : top ≡ f = heads top f others callers (sym is ∙ frames) in
          let Q : Frame → Type 0 = λ x. IsLiveEdge g.program x.method (At x.pc) (node_of c.state.mode f) in
          subst Q head (subst (λ (x : Frame). IsLiveEdge g.program caller.method (At caller.pc) (node_of c.state.mode x)) same live)

      at_caller : (K : ℕ → ℕ → Type 0) (caller : Frame) (others : List Frame) → waiting ∷ callers ≡ caller ∷ others → K waiting.method waiting.pc → K caller.method caller.pc
      at_caller K caller others are h = subst (λ (x : Frame). K x.method x.pc) (heads waiting caller callers others are) h

      by : Returns g.program last.mode last.frame (waiting ∷ callers) c.state ⊎ Drops g.program last.mode last.frame (waiting ∷ callers) c.state
          → IsLiveEdge g.program waiting.method (At waiting.pc) (node_of c.state.mode f)
      by (inl h) =
          let target' : IsTarget g.program waiting.method waiting.pc last.frame.method = subst (λ (x : ℕ). IsTarget g.program waiting.method waiting.pc x) (sym last.method) target in
          let ended' : CanEnd g.program last.frame.method = subst (CanEnd g.program) (sym last.method) ended in
          let live = callers_return g.program last.mode last.frame (waiting ∷ callers) c.state h (at_caller (IsCall g.program) h.caller h.others h.callers_are call)
          (at_caller (λ m p. IsTarget g.program m p last.frame.method) h.caller h.others h.callers_are target') ended' in
          moved h.caller h.others h.top h.callers_are h.frames live
      by (inr h) =
          let live = callers_raise g.program last.mode last.frame (waiting ∷ callers) c.state h (at_caller (MayRaise g.program) h.caller h.others h.callers_are may) in
          moved h.caller h.others h.top h.callers_are h.frames live

  pub walks : {callers : List Frame} {m : ℕ} {a b : Stage} {cs : List Stage} {us : List ℕ} → Stay g callers m a b cs us → WalksFrom callers m a us
  walks (leaves {callers} {m} {a} {b} {u} top follows h) =
      by_node callers m a u [] top (stops_at (subst (λ (x : ℕ). IsExit g.program x (node_of a.state.mode top.frame)) top.method (exit_of a.state.mode top.frame callers b.state h)))
  walks (goes {callers} {m} {a} {b} {c} {u} {cs} {us} top follows h more) =
      let live = subst (λ (x : ℕ). IsLiveEdge g.program x (node_of a.state.mode top.frame) (node_of b.state.mode h.top)) top.method (moves_live g.program a.state.mode top.frame callers b.state h) in
      by_node callers m a u us top (walks_on live (walks more h.top h.frames))
  walks (calls {callers} {m} {a} {b} {c} {d} {u} {bs} {cs} {us} {vs} top follows h child more) =
      let inner = walks child h.top h.frames in
      let from_first : LiveWalk g.program h.top.method (At 0) vs = subst (λ (x : ℕ). LiveWalk g.program h.top.method (At x) vs) h.first (subst (λ (x : Ending). LiveWalk g.program h.top.method (node_of x h.top) vs) h.still inner) in
      let ended = (ending g.program h.top.method).1 (vs, from_first) in
      let back = back_of h.waiting callers c (left_of child) in
      let call = carried (IsCall g.program) top.frame.method top.frame.pc h.waiting.method h.waiting.pc (sym h.same) (sym h.place) h.call in
      let may = carried (MayRaise g.program) top.frame.method top.frame.pc h.waiting.method h.waiting.pc (sym h.same) (sym h.place) h.may_raise in
      let target = carried (λ m p. IsTarget g.program m p h.top.method) top.frame.method top.frame.pc h.waiting.method h.waiting.pc (sym h.same) (sym h.place) h.target in
      let live = came_back h.waiting callers h.top.method c call may target ended (last_of child) back.top back.frames in
      let at_top : IsLiveEdge g.program m (At top.frame.pc) (node_of c.state.mode back.top) =
      carried (λ x p. IsLiveEdge g.program x (At p) (node_of c.state.mode back.top)) h.waiting.method h.waiting.pc m top.frame.pc (h.same ∙ top.method) h.place live in
      let w = walks_on at_top (walks more back.top back.frames) in
      by_node callers m a u us top (subst (λ (x : Ending). LiveWalk g.program m (node_of x top.frame) (number_of (node_of x top.frame) ∷ us)) (sym h.running) w)
