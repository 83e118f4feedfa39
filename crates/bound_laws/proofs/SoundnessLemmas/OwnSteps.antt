-- What the steps of an activation look up, by the node at which its own frame was the top one last.
use Rattle.std.proofs.Common.{◌≡◌, ◌⊎◌, ℕ, suc, ◌*◌, ◌<◌, ◌≤◌, Bool, true, ◌==◌, List, [], ◌∷◌, ◌++◌, length, All, Contains, refl, sym, ap, ◌∙◌, subst, inl, inr, append_assoc, arith}
use Rattle.std.specs.Prelude.{if◌then◌else◌}
use Rattle.std.proofs.lemmas.Bool.{eq-eqb, ne_eqb}
use Rattle.std.proofs.lemmas.List.Elements.{All-nil, All-cons, All-weaker}
use Rattle.lists.specs.Members.{heads, at_head}
use Rattle.bytecode_model.specs.declared.Ending.{Ending}
use Rattle.bytecode_model.specs.State.{Frame}
use Rattle.bytecode_model.specs.Program.{Program}
use Rattle.bytecode_typing.specs.Fits.{IsGoing}
use Rattle.method_flow.specs.Nodes.{number_of}
use Rattle.method_flow.specs.Calls.{IsCall, IsStartOf, IsTarget}
use Rattle.method_flow.specs.Shapes.{node_of, Moves, Enters, Returns, Drops}
use Rattle.method_flow.specs.Regions.{IsWithin, IsWithinNodes}
use Rattle.method_flow.specs.Regions.IsWithin.{itself, calls as runs}
use Rattle.method_flow.specs.Regions.IsWithinNodes.{calls as is_called}
use Rattle.activations.specs.Setting.{Setting}
use Rattle.activations.specs.Activations.{Stage, Follows, depth}
use Rattle.activations.specs.Steps.{looked_up}
use Rattle.activations.specs.Stays.{IsTop, Stay}
use Rattle.activations.specs.Stays.Stay.{leaves, goes, calls}
use Rattle.activations.specs.Keeping.{node_of_top, node_at}
use Rattle.bound_laws.proofs.SoundnessLemmas.Looking.{enters_looks, returns_looks, drops_looks, MoveKind, move_kind}
use Rattle.bound_laws.proofs.SoundnessLemmas.Looking.MoveKind.{plain, raising, handling}

-- ---- the boundary with which a step begins

pub record IsTold (g : Setting) (a : Stage) : Type 0 where
  pub going : IsGoing a.state.mode
  pub start : (f : Frame) (callers : List Frame) → a.state.frames ≡ f ∷ callers → IsStartOf g.program f.method f.pc

abbrev pub AreTold : Setting → Type 0
AreTold g = (a b : Stage) → Follows g a b → IsTold g a

-- ---- depths, and the node at which a frame is the top one

top_depth : {callers : List Frame} {m : ℕ} {a : Stage} {u : ℕ} → IsTop callers m a u → depth a ≡ suc (length callers)
top_depth top = ap (λ (fs : List Frame). length fs) top.frames

none_at : (n : ℕ) (a : Stage) → n < depth a → node_at n a ≡ []
none_at n a less = ap (λ (x : Bool). if x then node_of_top a.state.mode a.state.frames else []) (ne_eqb (depth a) n (λ e. let bad : ⊥ = omega arith in bad))

pub top_at : {callers : List Frame} {m : ℕ} {a : Stage} {u : ℕ} → IsTop callers m a u → node_at (suc (length callers)) a ≡ u ∷ []
top_at {callers} {m} {a} {u} top =
    let e : (depth a == suc (length callers)) ≡ true = eq-eqb (depth a) (suc (length callers)) (top_depth top) in
    let node : node_of_top a.state.mode a.state.frames ≡ u ∷ [] = ap (node_of_top a.state.mode) top.frames ∙ ap (λ (x : ℕ). x ∷ []) (sym top.node) in
    ap (λ (x : Bool). if x then node_of_top a.state.mode a.state.frames else []) e ∙ node

-- a stay begins with its frame on top
begun : {g : Setting} {callers : List Frame} {m : ℕ} {a b : Stage} {cs : List Stage} {us : List ℕ} → Stay g callers m a b cs us → depth a ≡ suc (length callers)
begun (leaves top follows h) = top_depth top
begun (goes top follows h more) = top_depth top
begun (calls top follows h child more) = top_depth top

-- ---- look-ups

-- the place of one of these methods, and of the method itself
abbrev pub IsPlaceOf : Setting → (ℕ → Type 0) → (place : ℕ) → Type 0
IsPlaceOf g K k = (x : ℕ) × K x × (k ≡ g.places.method x)

abbrev pub IsOwnPlace : Setting → (m place : ℕ) → Type 0
IsOwnPlace g m k = k ≡ g.places.method m

-- the place of the frame to which control goes back
pub record IsBack (g : Setting) (callers : List Frame) (place : ℕ) : Type 0 where
  pub frame : Frame
  pub others : List Frame
  pub are : callers ≡ frame ∷ others
  pub is : place ≡ g.places.method frame.method

-- Steps from a boundary on over further ones, of an activation of m whose frame is the top one where there are n frames; it was so last at this node. A step to such a
-- boundary looks up m alone, and each other one what may run while control is at the node.
pub data OwnSteps (g : Setting) (m n : ℕ) : (node : ℕ) → (a : Stage) → (further : List Stage) → Type 0 where
  none : {u : ℕ} {a : Stage} → OwnSteps g m n u a []
  back : {u v : ℕ} {a b : Stage} {bs : List Stage} → node_at n b ≡ v ∷ [] → All (IsOwnPlace g m) (looked_up g a b) → OwnSteps g m n v b bs → OwnSteps g m n u a (b ∷ bs)
  above : {u : ℕ} {a b : Stage} {bs : List Stage} → node_at n b ≡ [] → All (IsPlaceOf g (IsWithinNodes g.program m (u ∷ []))) (looked_up g a b) → OwnSteps g m n u b bs
      → OwnSteps g m n u a (b ∷ bs)

module _ (g : Setting) (told : AreTold g) where
  abbrev P : Program
  P = g.program

  abbrev key : ℕ → ℕ
  key m = g.places.method m

  one_place : (K : ℕ → Type 0) (k : ℕ) (ls : List ℕ) → ls ≡ k ∷ [] → K k → All K ls
  one_place K k ls e h = subst (λ (z : List ℕ). All K z) (sym e) (All-cons K k [] h (All-nil K))

  no_place : (K : ℕ → Type 0) (ls : List ℕ) → ls ≡ [] → All K ls
  no_place K ls e = subst (λ (z : List ℕ). All K z) (sym e) (All-nil K)

  -- a step within the method looks up the method itself, or none
  moves_look : {callers : List Frame} {m : ℕ} {a b : Stage} {u : ℕ} (top : IsTop callers m a u) → Follows g a b → Moves P a.state.mode top.frame callers b.state → All (IsOwnPlace g m) (looked_up g a b)
  moves_look {callers} {m} {a} {b} {u} top follows h = by (move_kind g a b top.frame callers top.frames h (told a b follows).going)
    where
      by : MoveKind g a b top.frame callers top.frames → All (IsOwnPlace g m) (looked_up g a b)
      by (plain was is e) = no_place (IsOwnPlace g m) (looked_up g a b) e
      by (raising p was is e) = no_place (IsOwnPlace g m) (looked_up g a b) e
      by (handling p was is e) = one_place (IsOwnPlace g m) (key top.frame.method) (looked_up g a b) e (ap key top.method)

  -- the step with which a frame is left looks up that of its caller, or none
  leaves_look : {callers : List Frame} {m : ℕ} {a : Stage} {u : ℕ} (top : IsTop callers m a u) (b : Stage) → Returns P a.state.mode top.frame callers b.state ⊎ Drops P a.state.mode top.frame callers b.state
      → All (IsBack g callers) (looked_up g a b)
  leaves_look {callers} {m} {a} {u} top b h = elim h [
    | inl ret ↦
        one_place (IsBack g callers) (key ret.caller.method) (looked_up g a b) (returns_looks g a b top.frame callers top.frames ret)
        (record { frame = ret.caller; others = ret.others; are = ret.callers_are; is = refl })
    | inr drop ↦ no_place (IsBack g callers) (looked_up g a b) (drops_looks g a b top.frame callers top.frames drop)
  ]

  module _ {callers : List Frame} {m : ℕ} {a b : Stage} {u : ℕ} (top : IsTop callers m a u) (follows : Follows g a b) (h : Enters P a.state.mode top.frame callers b.state) where
    abbrev p : ℕ
    p = top.frame.pc

    starts : IsStartOf P m p
    starts = subst (λ (z : ℕ). IsStartOf P z p) top.method ((told a b follows).start top.frame callers top.frames)

    invokes : IsCall P m p
    invokes = subst (λ (z : ℕ). IsCall P z p) top.method h.call

    targets : IsTarget P m p h.top.method
    targets = subst (λ (z : ℕ). IsTarget P z p h.top.method) top.method h.target

    -- what may run while the called method does, may while its caller does, and while control is at the invoke
    called_within : (x : ℕ) → IsWithin P h.top.method x → IsWithin P m x
    called_within x within = runs p starts invokes targets within

    called_at : (x : ℕ) → IsWithin P h.top.method x → IsWithinNodes P m (u ∷ []) x
    called_at x within =
        let is : u ≡ 2 * p = top.node ∙ ap (λ (z : Ending). number_of (node_of z top.frame)) h.running in
        let Q : ℕ → Type 0 = λ z. Contains (u ∷ []) z in
        is_called p h.top.method (subst Q is (at_head u [])) starts invokes targets within

    -- the caller of the new frame is the frame that made it
    back_to_own : (k : ℕ) → IsBack g (h.waiting ∷ callers) k → IsOwnPlace g m k
    back_to_own k x = x.is ∙ (ap (λ (z : Frame). key z.method) (sym (heads h.waiting x.frame callers x.others x.are)) ∙ ap key (h.same ∙ top.method))

  -- ---- a frame above

  -- Where control is at node u of a frame of m, what may run meanwhile is among what may run while control is there. So all steps of a stay of a frame above it look up such
  -- methods; the step by which it is left, and those behind, are told.
  module _ (m n u : ℕ) where
    pub above_steps : {callers : List Frame} {x : ℕ} {a b : Stage} {cs : List Stage} {us : List ℕ} → Stay g callers x a b cs us → n ≤ length callers
        → ((y : ℕ) → IsWithin P x y → IsWithinNodes P m (u ∷ []) y) → (rest : List Stage) → ((z : Stage) → All (IsBack g callers) (looked_up g z b) → OwnSteps g m n u z (b ∷ rest))
        → OwnSteps g m n u a (cs ++ b ∷ rest)
    above_steps (leaves {callers} {m = x} {a} {b} top follows h) high within rest end = end a (leaves_look top b h)
    above_steps (goes {m = x} {a} {b} top follows h more) high within rest end =
        let e = begun more in
        let K : ℕ → Type 0 = IsPlaceOf g (IsWithinNodes P m (u ∷ [])) in
        let looks : All K (looked_up g a b) = All-weaker (IsOwnPlace g x) K (λ k own. (x, within x itself, own)) (looked_up g a b) (moves_look top follows h) in
        above (none_at n b (omega arith)) looks (above_steps more high within rest end)
    above_steps (calls {callers} {m = x} {a} {b} {c} {d} {bs} {cs} top follows h child more) high within rest end =
        let K : ℕ → Type 0 = IsPlaceOf g (IsWithinNodes P m (u ∷ [])) in
        let inner : (y : ℕ) → IsWithin P h.top.method y → IsWithinNodes P m (u ∷ []) y = λ y w. within y (called_within top follows h y w) in
        let enter = begun child in
        let leave = begun more in
        let behind : OwnSteps g m n u c (cs ++ d ∷ rest) = above_steps more high within rest end in
        let ending : (z : Stage) → All (IsBack g (h.waiting ∷ callers)) (looked_up g z c) → OwnSteps g m n u z (c ∷ (cs ++ d ∷ rest)) =
        λ z looks. above (none_at n c (omega arith))
        (All-weaker (IsBack g (h.waiting ∷ callers)) K (λ k was. (x, within x itself, back_to_own top follows h k was)) (looked_up g z c) looks) behind
        in
        let all : OwnSteps g m n u b (bs ++ c ∷ (cs ++ d ∷ rest)) = above_steps child (omega arith) inner (cs ++ d ∷ rest) ending in
        let Q : List Stage → Type 0 = λ zs. OwnSteps g m n u b zs in
        above (none_at n b (omega arith)) (one_place K (key h.top.method) (looked_up g a b) (enters_looks g a b top.frame callers top.frames h) (h.top.method, inner h.top.method itself, refl))
        (subst Q (sym (append_assoc bs (c ∷ cs) (d ∷ rest))) all)

  -- ---- the frame itself

  pub record Begun (callers : List Frame) (m : ℕ) (a : Stage) (further : List Stage) : Type 0 where
    pub node : ℕ
    pub top : IsTop callers m a node
    pub steps : OwnSteps g m (suc (length callers)) node a further

  pub own_steps : {callers : List Frame} {m : ℕ} {a b : Stage} {cs : List Stage} {us : List ℕ} → Stay g callers m a b cs us → Begun callers m a cs
  own_steps (leaves {u} top follows h) = record { node = u; top = top; steps = none }
  own_steps (goes {u} top follows h more) =
      let x = own_steps more in
      record { node = u; top = top; steps = back (top_at x.top) (moves_look top follows h) x.steps }
  own_steps (calls {callers} {m} {a} {b} {c} {u} {bs} {cs} top follows h child more) =
      let n = suc (length callers) in
      let K : ℕ → Type 0 = IsPlaceOf g (IsWithinNodes P m (u ∷ [])) in
      let x = own_steps more in
      let enter = begun child in
      let ending : (z : Stage) → All (IsBack g (h.waiting ∷ callers)) (looked_up g z c) → OwnSteps g m n u z (c ∷ cs) =
      λ z looks. back (top_at x.top) (All-weaker (IsBack g (h.waiting ∷ callers)) (IsOwnPlace g m) (back_to_own top follows h) (looked_up g z c) looks) x.steps
      in
      let all : OwnSteps g m n u b (bs ++ c ∷ cs) = above_steps m n u child (omega arith) (called_at top follows h) cs ending in
      let looks : All K (looked_up g a b) =
      one_place K (key h.top.method) (looked_up g a b) (enters_looks g a b top.frame callers top.frames h) (h.top.method, called_at top follows h h.top.method itself, refl)
      in
      record { node = u; top = top; steps = above (none_at n b (omega arith)) looks all }
