-- Walks follow steps.
use Rattle.std.proofs.Common.{◌≡◌, ℕ, suc, ◌*◌, Bool, true, false, List, [], ◌∷◌, ◌++◌, length, drop, Option, Some, None, refl, sym, ap, ◌∙◌, subst, inl, inr, arith}
use Rattle.std.specs.Prelude.{if◌then◌else◌, nat_lt}
use Rattle.std.proofs.lemmas.Bool.{lt-ltb, le-ltb}
use Rattle.std.proofs.lemmas.List.{append-nil}
use Rattle.lists.proofs.Lemmas.{none≢some}
use Rattle.bytecode_model.specs.declared.Ending.{Ending}
use Rattle.bytecode_model.specs.declared.Ending.TheVariants.{Running, Raising, Ended, Uncaught}
use Rattle.bytecode_model.specs.State.{Frame, State}
use Rattle.bytecode_model.specs.Program.{Program, Limits}
use Rattle.bytecode_model.specs.Steps.{step, step_in}
use Rattle.bytecode_typing.specs.Typed.{Typing, Typed}
use Rattle.bytecode_typing.specs.Lawful.{Lawful}
use Rattle.bytecode_typing.specs.Fits.{IsGoing, Fits}
use Rattle.bytecode_typing.specs.Laws.{FittingStatesAreWellFormed}
use Rattle.method_flow.specs.Nodes.{Node, At, RaiseAt, number_of, IsEdge, MayRaise}
use Rattle.method_flow.specs.Calls.{IsCall, IsTarget}
use Rattle.method_flow.specs.Kinds.{RowsAreOfTheirKinds}
use Rattle.method_flow.specs.Shapes.{node_of, IsGoingOn, Moves, Enters, Returns, Drops, FramesStep, StepsHaveShapes}
use Rattle.method_flow.specs.Shapes.FramesStep.{moves as is_move, enters as is_entry, returns as is_return, drops as is_drop, stops as is_stop}
use Rattle.method_runs.specs.Runs.{nodes_now, Walks, with_nodes, on_top, followed, walks_after}
use Rattle.method_runs.specs.Standing.{MethodWalk, last_node, WalksTo, made_of, IsBelow, Waiting, Standing}
use Rattle.method_runs.specs.Standing.MethodWalk.{starts, goes}
use Rattle.method_runs.specs.Steps.{WalksStep}
use Rattle.method_runs.specs.Steps.WalksStep.{moves, enters, returns, drops, ends}
use Rattle.method_runs.specs.Laws.{StepsFollowWalks}
use Rattle.method_runs.proofs.Shaping.{goes_on, shape_of}
use Rattle.method_runs.proofs.Leading.{behind_call}
use Rattle.method_runs.proofs.Ending.{GoesOrEnds, ends_or_goes}

-- ---- by the numbers of frames

abbrev by_tests : (a b : Bool) → (nodes : List ℕ) → Walks → Walks
by_tests a b nodes ws = if a then Some nodes ∷ ws else if b then on_top nodes (drop 1 ws) else on_top nodes ws

pub same_depth : (n : ℕ) (nodes : List ℕ) (ws : Walks) → followed n n nodes ws ≡ on_top nodes ws
same_depth n nodes ws =
    let less : nat_lt n n ≡ false = le-ltb n n (omega arith) in
    ap (λ (a : Bool). by_tests a (nat_lt n n) nodes ws) less ∙ ap (λ (b : Bool). by_tests false b nodes ws) less

deeper : (n : ℕ) (nodes : List ℕ) (ws : Walks) → followed n (suc n) nodes ws ≡ Some nodes ∷ ws
deeper n nodes ws = ap (λ (a : Bool). by_tests a (nat_lt (suc n) n) nodes ws) (lt-ltb n (suc n) (omega arith))

less_deep : (n : ℕ) (nodes : List ℕ) (ws : Walks) → followed (suc n) n nodes ws ≡ on_top nodes (drop 1 ws)
less_deep n nodes ws =
    let not_more : nat_lt (suc n) n ≡ false = le-ltb (suc n) n (omega arith) in
    let less : nat_lt n (suc n) ≡ true = lt-ltb n (suc n) (omega arith) in
    ap (λ (a : Bool). by_tests a (nat_lt n (suc n)) nodes ws) not_more ∙ ap (λ (b : Bool). by_tests false b nodes ws) less

-- ---- nodes

now : (mode : Ending) (f : Frame) (fs : List Frame) → IsGoingOn mode → nodes_now mode (f ∷ fs) ≡ number_of (node_of mode f) ∷ []
now Running f fs going = refl
now (Raising p) f fs going = refl
now Ended f fs going = absurd going
now (Uncaught c) f fs going = absurd going

none_now : (mode : Ending) (fs : List Frame) → (IsGoingOn mode → ⊥) → nodes_now mode fs ≡ []
none_now Running fs ended = absurd (ended tt)
none_now (Raising p) fs ended = absurd (ended tt)
none_now Ended [] ended = refl
none_now Ended (f ∷ fs) ended = refl
none_now (Uncaught c) [] ended = refl
none_now (Uncaught c) (f ∷ fs) ended = refl

last_is : (mode : Ending) (f : Frame) → IsGoing mode → last_node mode f ≡ node_of mode f
last_is Running f going = refl
last_is (Raising p) f going = refl
last_is Ended f going = absurd going
last_is (Uncaught c) f going = absurd going

last_of : (mode : Ending) (f : Frame) → IsGoingOn mode → last_node mode f ≡ node_of mode f
last_of Running f going = refl
last_of (Raising p) f going = refl
last_of Ended f going = absurd going
last_of (Uncaught c) f going = absurd going

pub no_nodes : (w : Option (List ℕ)) → with_nodes [] w ≡ w
no_nodes None = refl
no_nodes (Some ns) = ap (λ (xs : List ℕ). Some xs) (append-nil ns)

-- ---- walks

-- a fact of a method and a place, at the same ones
carried : (K : ℕ → ℕ → Type 0) (m p n q : ℕ) → m ≡ n → p ≡ q → K m p → K n q
carried K m p n q same place h = subst (λ (x : ℕ). K n x) place (subst (λ (x : ℕ). K x p) same h)

module _ (P : Program) where
  -- a known walk goes on along an edge
  led : (f top : Frame) (u v : Node) (w : Option (List ℕ)) → top.method ≡ f.method → WalksTo P f u w → ((ns : List ℕ) → w ≡ Some ns → IsEdge P f.method u v) → WalksTo P top v (with_nodes (number_of v ∷ []) w)
  led f top u v None same h edge = tt
  led f top u v (Some ns) same h edge = subst (λ (m : ℕ). MethodWalk P m v (ns ++ number_of v ∷ [])) (sym same) (goes h (edge ns refl))

  same_lead : (f g : Frame) (u : Node) (w : Option (List ℕ)) → g.method ≡ f.method → WalksTo P f u w → WalksTo P g u w
  same_lead f g u None same h = tt
  same_lead f g u (Some ns) same h = subst (λ (m : ℕ). MethodWalk P m u ns) (sym same) h

  made_same : (f g : Frame) (more : List ℕ) (w : Option (List ℕ)) → g.method ≡ f.method → made_of g (with_nodes more w) ≡ made_of f w
  made_same f g more None same = refl
  made_same f g more (Some ns) same = ap (λ (m : ℕ). Some m) same

  still_made : (f g : Frame) (w : Option (List ℕ)) → g.method ≡ f.method → made_of g w ≡ made_of f w
  still_made f g None same = refl
  still_made f g (Some ns) same = ap (λ (m : ℕ). Some m) same

  -- what is known of a frame below one whose walk is known
  called : (f c : Frame) (v w : Option (List ℕ)) → IsBelow P (made_of f v) c w → (ns : List ℕ) → w ≡ Some ns → IsCall P c.method c.pc × MayRaise P c.method c.pc × IsTarget P c.method c.pc f.method
  called f c None w below ns is = absurd (none≢some ns (sym below ∙ is))
  called f c (Some xs) w below ns is = below

module _ (shapes : StepsHaveShapes) (fitting : FittingStatesAreWellFormed) (kinds : RowsAreOfTheirKinds) (P : Program) (limits : Limits) (answer : Option ℕ) (s t : State) (f : Frame) (callers : List Frame)
    (frames : s.frames ≡ f ∷ callers) where
  abbrev Follows : Walks → Type 0
  Follows ws = WalksStep P s.mode f callers t ws (walks_after s t ws) × Standing P t.mode t.frames (walks_after s t ws)

  both : (ws vs : Walks) → walks_after s t ws ≡ vs → WalksStep P s.mode f callers t ws vs → Standing P t.mode t.frames vs → Follows ws
  both ws vs same a b = (subst (WalksStep P s.mode f callers t ws) (sym same) a, subst (Standing P t.mode t.frames) (sym same) b)

  -- by the frames of the next state
  after : (new : List Frame) (ws : Walks) → t.frames ≡ new → walks_after s t ws ≡ followed (suc (length callers)) (length new) (nodes_now t.mode new) ws
  after new ws is =
      ap (λ (fs : List Frame). followed (length fs) (length t.frames) (nodes_now t.mode t.frames) ws) frames
      ∙ ap (λ (fs : List Frame). followed (suc (length callers)) (length fs) (nodes_now t.mode fs) ws) is

  by_moves : (w : Option (List ℕ)) (ws : Walks) → IsGoing s.mode → WalksTo P f (last_node s.mode f) w → Waiting P (made_of f w) callers ws → Moves P s.mode f callers t → Follows (w ∷ ws)
  by_moves w ws going lead waiting h =
      let n = length callers in
      let u = node_of t.mode h.top in
      let e : walks_after s t (w ∷ ws) ≡ with_nodes (number_of u ∷ []) w ∷ ws =
      after (h.top ∷ callers) (w ∷ ws) h.frames ∙ (ap (λ (nodes : List ℕ). followed (suc n) (suc n) nodes (w ∷ ws)) (now t.mode h.top callers h.going) ∙ same_depth (suc n) (number_of u ∷ []) (w ∷ ws)) in
      let from : WalksTo P f (node_of s.mode f) w = subst (λ (x : Node). WalksTo P f x w) (last_is s.mode f going) lead in
      let to : WalksTo P h.top (last_node t.mode h.top) (with_nodes (number_of u ∷ []) w) =
      subst (λ (x : Node). WalksTo P h.top x (with_nodes (number_of u ∷ []) w)) (sym (last_of t.mode h.top h.going)) (led P f h.top (node_of s.mode f) u w h.same from (λ ns is. h.edge)) in
      let below : Waiting P (made_of h.top (with_nodes (number_of u ∷ []) w)) callers ws = subst (λ (a : Option ℕ). Waiting P a callers ws) (sym (made_same P f h.top (number_of u ∷ []) w h.same)) waiting in
      both (w ∷ ws) (with_nodes (number_of u ∷ []) w ∷ ws) e (moves h)
      (subst (λ (fs : List Frame). Standing P t.mode fs (with_nodes (number_of u ∷ []) w ∷ ws)) (sym h.frames) (to, below))

  by_enters : (w : Option (List ℕ)) (ws : Walks) → WalksTo P f (last_node s.mode f) w → Waiting P (made_of f w) callers ws → Enters P s.mode f callers t → Follows (w ∷ ws)
  by_enters w ws lead waiting h =
      let n = length callers in
      let new = h.top ∷ h.waiting ∷ callers in
      let first : nodes_now t.mode new ≡ 0 ∷ [] = ap (λ (x : Ending). nodes_now x new) h.still ∙ ap (λ (p : ℕ). (2 * p) ∷ []) h.first in
      let e : walks_after s t (w ∷ ws) ≡ Some (0 ∷ []) ∷ w ∷ ws =
      after new (w ∷ ws) h.frames ∙ (ap (λ (nodes : List ℕ). followed (suc n) (suc (suc n)) nodes (w ∷ ws)) first ∙ deeper (suc n) (0 ∷ []) (w ∷ ws)) in
      let at : WalksTo P f (At f.pc) w = subst (λ (x : Ending). WalksTo P f (last_node x f) w) h.running lead in
      let waits : WalksTo P h.waiting (At h.waiting.pc) w = subst (λ (p : ℕ). WalksTo P h.waiting (At p) w) (sym h.place) (same_lead P f h.waiting (At f.pc) w h.same at) in
      let below : Waiting P (made_of h.waiting w) callers ws = subst (λ (a : Option ℕ). Waiting P a callers ws) (sym (still_made P f h.waiting w h.same)) waiting in
      let facts : IsBelow P (Some h.top.method) h.waiting w = (
        carried (IsCall P) f.method f.pc h.waiting.method h.waiting.pc (sym h.same) (sym h.place) h.call,
        carried (MayRaise P) f.method f.pc h.waiting.method h.waiting.pc (sym h.same) (sym h.place) h.may_raise,
        carried (λ m p. IsTarget P m p h.top.method) f.method f.pc h.waiting.method h.waiting.pc (sym h.same) (sym h.place) h.target,
      ) in
      let entered : MethodWalk P h.top.method (At h.top.pc) (0 ∷ []) = subst (λ (p : ℕ). MethodWalk P h.top.method (At p) (0 ∷ [])) (sym h.first) starts in
      let entered' : MethodWalk P h.top.method (last_node t.mode h.top) (0 ∷ []) = subst (λ (x : Ending). MethodWalk P h.top.method (last_node x h.top) (0 ∷ [])) (sym h.still) entered in
      both (w ∷ ws) (Some (0 ∷ []) ∷ w ∷ ws) e (enters h)
      (subst (λ (fs : List Frame). Standing P t.mode fs (Some (0 ∷ []) ∷ w ∷ ws)) (sym h.frames) (entered', (waits, facts, below)))

  -- the top frame is left, and its caller goes on at a node
  left_to : (v : Option (List ℕ)) (ws : Walks) (caller : Frame) (others : List Frame) (top : Frame) (u : Node) → callers ≡ caller ∷ others → t.frames ≡ top ∷ others → IsGoingOn t.mode → node_of t.mode top ≡ u → top.method ≡ caller.method
      → (IsCall P caller.method caller.pc → MayRaise P caller.method caller.pc → IsEdge P caller.method (At caller.pc) u)
      → ((w : Option (List ℕ)) (rest : Walks) → WalksStep P s.mode f callers t (v ∷ w ∷ rest) (with_nodes (number_of u ∷ []) w ∷ rest)) → Waiting P (made_of f v) callers ws → Follows (v ∷ ws)
  left_to v ws caller others top u are is going node same edge told waiting = by ws (subst (λ (cs : List Frame). Waiting P (made_of f v) cs ws) are waiting)
    where
      by : (xs : Walks) → Waiting P (made_of f v) (caller ∷ others) xs → Follows (v ∷ xs)
      by [] h = absurd h
      by (w ∷ rest) h =
          let n = length others in
          let more = number_of u ∷ [] in
          let deep : suc (length callers) ≡ suc (suc n) = ap (λ (cs : List Frame). suc (length cs)) are in
          let nodes : nodes_now t.mode (top ∷ others) ≡ more = now t.mode top others going ∙ ap (λ (x : Node). number_of x ∷ []) node in
          let e : walks_after s t (v ∷ w ∷ rest) ≡ with_nodes more w ∷ rest =
          after (top ∷ others) (v ∷ w ∷ rest) is
          ∙ (ap (λ (k : ℕ). followed k (suc n) (nodes_now t.mode (top ∷ others)) (v ∷ w ∷ rest)) deep
          ∙ (ap (λ (xs : List ℕ). followed (suc (suc n)) (suc n) xs (v ∷ w ∷ rest)) nodes ∙ less_deep (suc n) more (v ∷ w ∷ rest))) in
          let facts = called P f caller v w h.1 in
          let to : WalksTo P top u (with_nodes more w) = led P caller top (At caller.pc) u w same h.0 (λ ns is'. edge (facts ns is').0 (facts ns is').1) in
          let last : last_node t.mode top ≡ u = last_of t.mode top going ∙ node in
          let below : Waiting P (made_of top (with_nodes more w)) others rest = subst (λ (a : Option ℕ). Waiting P a others rest) (sym (made_same P caller top more w same)) h.2 in
          both (v ∷ w ∷ rest) (with_nodes more w ∷ rest) e (told w rest)
          (subst (λ (fs : List Frame). Standing P t.mode fs (with_nodes more w ∷ rest)) (sym is) (subst (λ (x : Node). WalksTo P top x (with_nodes more w)) (sym last) to, below))

  by_returns : (v : Option (List ℕ)) (ws : Walks) → Waiting P (made_of f v) callers ws → Returns P s.mode f callers t → Follows (v ∷ ws)
  by_returns v ws waiting h =
      left_to v ws h.caller h.others h.top (At h.top.pc) h.callers_are h.frames (subst IsGoingOn (sym h.still) tt) (ap (λ (x : Ending). node_of x h.top) h.still) h.same
      (λ call may. behind_call kinds P h.caller.method h.caller.pc h.top.pc call h.place) (λ w rest. returns h) waiting

  by_drops : (v : Option (List ℕ)) (ws : Walks) → Waiting P (made_of f v) callers ws → Drops P s.mode f callers t → Follows (v ∷ ws)
  by_drops v ws waiting h =
      left_to v ws h.caller h.others h.top (RaiseAt h.top.pc) h.callers_are h.frames (subst IsGoingOn (sym h.still) tt) (ap (λ (x : Ending). node_of x h.top) h.still) h.same
      (λ call may. (h.place, may)) (λ w rest. drops h) waiting

  by_stops : (w : Option (List ℕ)) (ws : Walks) → WalksTo P f (last_node s.mode f) w → Waiting P (made_of f w) callers ws → callers ≡ [] → (IsGoingOn t.mode → ⊥) → GoesOrEnds s.mode f t → Follows (w ∷ ws)
  by_stops w ws lead waiting none ended (inl going) = absurd (ended going)
  by_stops w ws lead waiting none ended (inr same) =
      let deep : suc (length callers) ≡ suc 0 = ap (λ (cs : List Frame). suc (length cs)) none in
      let e : walks_after s t (w ∷ ws) ≡ w ∷ ws =
      after (f ∷ []) (w ∷ ws) same.0
      ∙ (ap (λ (k : ℕ). followed k (suc 0) (nodes_now t.mode (f ∷ [])) (w ∷ ws)) deep
      ∙ (ap (λ (xs : List ℕ). followed (suc 0) (suc 0) xs (w ∷ ws)) (none_now t.mode (f ∷ []) ended) ∙ (same_depth (suc 0) [] (w ∷ ws) ∙ ap (λ (x : Option (List ℕ)). x ∷ ws) (no_nodes w)))) in
      let lead' : WalksTo P f (last_node t.mode f) w = subst (λ (x : Node). WalksTo P f x w) (sym same.1) lead in
      both (w ∷ ws) (w ∷ ws) e (ends none same.0 ended)
      (subst (λ (fs : List Frame). Standing P t.mode fs (w ∷ ws)) (sym same.0) (lead', subst (λ (cs : List Frame). Waiting P (made_of f w) cs ws) none waiting))

  pub follows : (types : Typing) → Lawful P → Typed P types → Fits P types limits s → step P limits answer s ≡ Some t → (ws : Walks) → Standing P s.mode (f ∷ callers) ws → Follows ws
  follows types lawful typed fits next [] stand = absurd stand
  follows types lawful typed fits next (w ∷ ws) stand =
      by (shape_of shapes fitting P types limits answer s t f callers lawful typed fits frames next)
    where
      going : IsGoing s.mode
      going = goes_on P limits answer s t s.frames s.mode next

      by : FramesStep P s.mode f callers t → Follows (w ∷ ws)
      by (is_move h) = by_moves w ws going stand.0 stand.1 h
      by (is_entry h) = by_enters w ws stand.0 stand.1 h
      by (is_return h) = by_returns w ws stand.1 h
      by (is_drop h) = by_drops w ws stand.1 h
      by (is_stop none ended) =
          by_stops w ws stand.0 stand.1 none ended (ends_or_goes P limits answer s t f callers s.mode (ap (λ (fs : List Frame). step_in P limits answer s fs s.mode) (sym frames) ∙ next))

pub steps_follow_walks : StepsHaveShapes → FittingStatesAreWellFormed → RowsAreOfTheirKinds → StepsFollowWalks
steps_follow_walks shapes fitting kinds P types limits answer s t f callers ws lawful typed fits frames next stand =
    follows shapes fitting kinds P limits answer s t f callers frames types lawful typed fits next ws (subst (λ (fs : List Frame). Standing P s.mode fs ws) frames stand)
