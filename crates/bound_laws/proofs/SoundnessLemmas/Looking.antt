-- Which method each kind of step looks up.
use Rattle.std.proofs.Common.{◌≡◌, ℕ, Bool, List, [], ◌∷◌, length, Option, None, refl, ap, ◌∙◌, subst, arith}
use Rattle.std.specs.Prelude.{if◌then◌else◌}
use Rattle.std.proofs.lemmas.Bool.{eq-eqb, ne_eqb}
use Rattle.bytecode_model.specs.declared.Ending.{Ending}
use Rattle.bytecode_model.specs.declared.Ending.TheVariants.{Running, Raising, Ended, Uncaught}
use Rattle.bytecode_model.specs.State.{Frame, State}
use Rattle.bytecode_typing.specs.Fits.{IsGoing}
use Rattle.machine_stands.specs.Comes.{top_method, found_between, found_by}
use Rattle.method_flow.specs.Nodes.{RaiseAt, IsEdge}
use Rattle.method_flow.specs.Shapes.{node_of, IsGoingOn, Moves, Enters, Returns, Drops}
use Rattle.activations.specs.Setting.{Setting}
use Rattle.activations.specs.Activations.{Stage}
use Rattle.activations.specs.Steps.{place_of, looked_up}

found_is : (s s' : State) (fs gs : List Frame) (mode mode' : Ending) → s.frames ≡ fs → s'.frames ≡ gs → s.mode ≡ mode → s'.mode ≡ mode' → found_by s s' ≡ found_between fs gs mode mode'
found_is s s' fs gs mode mode' a b c d =
    ap (λ (x : List Frame). found_between x s'.frames s.mode s'.mode) a ∙ (ap (λ (x : List Frame). found_between fs x s.mode s'.mode) b ∙ (ap (λ (x : Ending). found_between fs gs x s'.mode) c ∙ ap (λ (x : Ending). found_between fs gs mode x) d))

same_depth : (fs gs : List Frame) → length fs ≡ length gs → found_between fs gs Running Running ≡ None
same_depth fs gs e = ap (λ (b : Bool). if b then None else top_method gs) (eq-eqb (length fs) (length gs) e)

other_depth : (fs gs : List Frame) → (length fs ≡ length gs → ⊥) → found_between fs gs Running Running ≡ top_method gs
other_depth fs gs e = ap (λ (b : Bool). if b then None else top_method gs) (ne_eqb (length fs) (length gs) e)

module _ (g : Setting) (a b : Stage) (f : Frame) (callers : List Frame) (frames : a.state.frames ≡ f ∷ callers) where
  looks_as : (gs : List Frame) (mode mode' : Ending) → b.state.frames ≡ gs → a.state.mode ≡ mode → b.state.mode ≡ mode' → looked_up g a b ≡ place_of g.places (found_between (f ∷ callers) gs mode mode')
  looks_as gs mode mode' gs_are was is = ap (λ (o : Option ℕ). place_of g.places o) (found_is a.state b.state (f ∷ callers) gs mode mode' frames gs_are was is)

  pub enters_looks : (h : Enters g.program a.state.mode f callers b.state) → looked_up g a b ≡ g.places.method h.top.method ∷ []
  enters_looks h =
      let gs = h.top ∷ h.waiting ∷ callers in
      looks_as gs Running Running h.frames h.running h.still ∙ ap (λ (o : Option ℕ). place_of g.places o) (other_depth (f ∷ callers) gs (λ e. let bad : ⊥ = omega arith in bad))

  pub returns_looks : (h : Returns g.program a.state.mode f callers b.state) → looked_up g a b ≡ g.places.method h.caller.method ∷ []
  returns_looks h =
      let gs = h.top ∷ h.others in
      let l = ap (λ (x : List Frame). length x) h.callers_are in
      let top = ap (λ (o : Option ℕ). place_of g.places o) (other_depth (f ∷ callers) gs (λ e. let bad : ⊥ = omega arith in bad)) in
      looks_as gs Running Running h.frames h.running h.still ∙ (top ∙ ap (λ (x : ℕ). g.places.method x ∷ []) h.same)

  -- the drop of a frame looks up nothing: its caller is looked up where one of the caller's handlers is entered, by the caller's own raise step
  pub drops_looks : (h : Drops g.program a.state.mode f callers b.state) → looked_up g a b ≡ []
  drops_looks h = looks_as (h.top ∷ h.others) (Raising h.object) (Raising h.object) h.frames h.raising h.still

  -- A step within the method looks up nothing, or the method itself where a handler is entered. An instruction that raises by itself looks up nothing.
  pub data MoveKind : Type 0 where
    plain : a.state.mode ≡ Running → b.state.mode ≡ Running → looked_up g a b ≡ [] → MoveKind
    raising : (p : ℕ) → a.state.mode ≡ Running → b.state.mode ≡ Raising p → looked_up g a b ≡ [] → MoveKind
    handling : (p : ℕ) → a.state.mode ≡ Raising p → b.state.mode ≡ Running → looked_up g a b ≡ g.places.method f.method ∷ [] → MoveKind

  pub move_kind : (h : Moves g.program a.state.mode f callers b.state) → IsGoing a.state.mode → MoveKind
  move_kind h alive = by a.state.mode refl b.state.mode refl
    where
      by : (mode : Ending) → a.state.mode ≡ mode → (mode' : Ending) → b.state.mode ≡ mode' → MoveKind
      by Running was Running is =
          plain was is (looks_as (h.top ∷ callers) Running Running h.frames was is ∙ ap (λ (o : Option ℕ). place_of g.places o) (same_depth (f ∷ callers) (h.top ∷ callers) refl))
      by Running was (Raising p) is = raising p was is (looks_as (h.top ∷ callers) Running (Raising p) h.frames was is)
      by (Raising p) was Running is = handling p was is (looks_as (h.top ∷ callers) (Raising p) Running h.frames was is ∙ ap (λ (x : ℕ). g.places.method x ∷ []) h.same)
      by (Raising p) was (Raising q) is =
          let from : IsEdge g.program f.method (RaiseAt f.pc) (node_of b.state.mode h.top) = subst (λ (x : Ending). IsEdge g.program f.method (node_of x f) (node_of b.state.mode h.top)) was h.edge in
          let bad : IsEdge g.program f.method (RaiseAt f.pc) (RaiseAt h.top.pc) = subst (λ (x : Ending). IsEdge g.program f.method (RaiseAt f.pc) (node_of x h.top)) is from in
          absurd bad
      by mode was Ended is = absurd (subst IsGoingOn is h.going)
      by mode was (Uncaught c) is = absurd (subst IsGoingOn is h.going)
      by Ended was mode' is = absurd (subst IsGoing was alive)
      by (Uncaught c) was mode' is = absurd (subst IsGoing was alive)
