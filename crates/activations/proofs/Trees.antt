-- An activation is a tree of stays.
use Rattle.std.proofs.Common.{◌≡◌, ℕ, suc, List, [], ◌∷◌, length, sym, ap, ◌∙◌, subst, arith}
use Rattle.std.specs.List.{flat_map}
use Rattle.bytecode_model.specs.declared.Ending.{Ending}
use Rattle.bytecode_model.specs.declared.Ending.TheVariants.{Running, Raising, Ended, Uncaught}
use Rattle.bytecode_model.specs.State.{Frame}
use Rattle.bytecode_typing.specs.Fits.{IsGoing}
use Rattle.bytecode_typing.specs.Laws.{FittingStatesAreWellFormed}
use Rattle.lists.proofs.Lemmas.{some_same}
use Rattle.machine_stands.specs.Comes.{top_method}
use Rattle.method_flow.specs.Nodes.{At}
use Rattle.method_flow.specs.Live.{LiveWalk}
use Rattle.method_flow.specs.Shapes.{node_of, IsGoingOn, FramesStep, StepsHaveShapes}
use Rattle.method_flow.specs.Shapes.FramesStep.{moves, enters, returns, drops, stops}
use Rattle.method_flow.specs.Walks.{EndingIsAWalk}
use Rattle.activations.specs.Setting.{Setting, limits}
use Rattle.activations.specs.Activations.{Stage, Follows, depth, StaysAbove, IsActivation}
use Rattle.activations.specs.Stays.{Stay}
use Rattle.activations.specs.Keeping.{node_at, walk_of}
use Rattle.activations.specs.Trees.{Tree, ActivationsAreTrees, StaysAreWalks, ActivationsAreWalks}
use Rattle.activations.proofs.Following.{goes_on, shape_of}
use Rattle.activations.proofs.Staying.{HasShapes, depth_is, all_of}
use Rattle.activations.proofs.Nodes.{nodes_of}

-- a run that stays above has a next step
module _ (g : Setting) (going : (a b : Stage) → Follows g a b → IsGoingOn a.state.mode) where
  going_in : (n : ℕ) (a : Stage) (cs : List Stage) (b : Stage) → StaysAbove g n a cs b → IsGoingOn a.state.mode
  going_in n a [] b path = going a b path
  going_in n a (c ∷ cs) b path = going a c path.1

  pub tree_of : HasShapes g → (m : ℕ) (a b : Stage) (h : IsActivation g m a b) → (f : Frame) (callers : List Frame) → a.state.frames ≡ f ∷ callers → Tree g m a b h
  tree_of shapes m a b h f callers frames = by (shapes a h.first f callers h.begins frames)
    where
      d : depth a ≡ suc (length callers)
      d = depth_is a (f ∷ callers) frames

      by : FramesStep g.program a.state.mode f callers h.first.state → Tree g m a b h
      by (moves s) = let e = depth_is h.first (s.top ∷ callers) s.frames in let less = h.deeper in let i = d in absurd (omega arith)
      by (returns s) =
          let e = depth_is h.first (s.top ∷ s.others) s.frames in
          let l = ap (λ (xs : List Frame). length xs) s.callers_are in
          let less = h.deeper in
          let i = d in
          absurd (omega arith)
      by (drops s) =
          let e = depth_is h.first (s.top ∷ s.others) s.frames in
          let l = ap (λ (xs : List Frame). length xs) s.callers_are in
          let less = h.deeper in
          let i = d in
          absurd (omega arith)
      by (stops none halted) = absurd (halted (going_in (depth a) h.first h.between b h.stays))
      by (enters s) =
          let method : s.top.method ≡ m = some_same s.top.method m (sym (ap top_method s.frames) ∙ h.of_method) in
          let found = all_of g shapes (depth a) (omega (arith, d)) b h.ends h.first h.between s.top (s.waiting ∷ callers) s.frames d h.stays in
          let walk : found.0 ≡ walk_of h = sym (nodes_of found.1) ∙ ap (λ (n : ℕ). flat_map (node_at (suc n)) (h.first ∷ h.between)) (sym d) in
          let at_method = subst (λ (x : ℕ). Stay g (s.waiting ∷ callers) x h.first b h.between found.0) method found.1 in
          record {
            frame = f;
            callers = callers;
            frames = frames;
            enters = s;
            method = method;
            stay = subst (λ (us : List ℕ). Stay g (s.waiting ∷ callers) m h.first b h.between us) walk at_method;
          }

pub activations_are_walks : ActivationsAreTrees → StaysAreWalks → EndingIsAWalk → ActivationsAreWalks
activations_are_walks trees stays ending g m a b h is =
    let tree = trees g m a b h is in
    let s = tree.enters in
    let w = stays g (s.waiting ∷ tree.callers) m h.first b h.between (walk_of h) tree.stay s.top s.frames in
    let at_first : LiveWalk g.program m (At 0) (walk_of h) =
    subst (λ (x : ℕ). LiveWalk g.program m (At x) (walk_of h)) s.first (subst (λ (x : Ending). LiveWalk g.program m (node_of x s.top) (walk_of h)) s.still w) in
    (at_first, (ending g.program m).1 (walk_of h, at_first))

-- a state that goes on
going_on : (mode : Ending) → IsGoing mode → IsGoingOn mode
going_on Running h = tt
going_on (Raising p) h = tt
going_on Ended h = absurd h
going_on (Uncaught c) h = absurd h

pub activations_are_trees : StepsHaveShapes → FittingStatesAreWellFormed → ActivationsAreTrees
activations_are_trees shapes fitting g m a b h is =
    let stands = h.begins.stands.stands in
    let going : (x y : Stage) → Follows g x y → IsGoingOn x.state.mode =
    λ x y follows. going_on x.state.mode (goes_on g.program (limits g) follows.answer x.state y.state x.state.frames x.state.mode follows.is_next) in
    tree_of g going (λ x y f callers follows frames. shape_of shapes fitting g x y is follows f callers frames) m a b h stands.top stands.callers stands.frames
