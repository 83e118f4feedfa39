-- Sections whose values bound what walks of their methods cost, whatever conditions show it; and what is asked of all walks within a stay.
use Rattle.std.proofs.Common.{◌≡◌, ℕ, ◌*◌, ◌≤◌, ◌==◌, Bool, true, false, List, [], ◌∷◌, ◌++◌, Option, Some, None, MatchOption, refl, sym, ap, ◌∙◌, subst, eqb-true}
use Rattle.std.specs.Prelude.{if◌then◌else◌, ◌&&◌}
use Rattle.std.specs.Option.{option_or}
use Rattle.lists.specs.Tests.{and_left, and_right, not_true}
use Rattle.loop_nest.specs.Digraph.{Digraph}
use Rattle.section_check.specs.Bounded.{cost_of}
use Rattle.section_check.specs.Section.{CertifiedLoop}
use Rattle.section_check.specs.Placing.{IsEntryAt, AreWellPlaced}
use Rattle.section_check.specs.Laws.{loops_of}
use Rattle.certificates.specs.declared.cert.CertSection.{CertSection}
use Rattle.certificates.specs.Certificate.{is_inside}
use Rattle.bytecode_model.specs.State.{Frame}
use Rattle.bytecode_model.specs.Program.{Program}
use Rattle.method_flow.specs.Nodes.{Node, At}
use Rattle.method_flow.specs.Live.{CanEnd, IsLiveEdge, LiveWalk}
use Rattle.method_flow.specs.Graphs.{IsLiveGraph}
use Rattle.method_flow.specs.Keeping.{BoundOf, WalkKeeps}
use Rattle.method_flow.specs.declared.timing.Timing.{Timing}
use Rattle.bound_rules.specs.Told.{Valued, section_value, is_same, value_in}
use Rattle.bound_rules.specs.Sections.{IsSectionEdge, IsSectionNode, SectionView, IsLacking, section_bounds, MeetsSection}
use Rattle.bound_rules.specs.Met.{AreMet}
use Rattle.bound_rules.specs.Met.AreMet.{nothing as none_met, one_more as one_more_met}
use Rattle.bound_rules.specs.Laws.{HeadersHaveBounds, NoValueNoEnd, LiveEdgesStay, SectionsBoundWalks}
use Rattle.cert_checker.proofs.Valuing.{said_by, value_in-push}
use Rattle.activations.specs.Setting.{Setting}
use Rattle.activations.specs.Activations.{Stage}
use Rattle.activations.specs.Stays.{Stay}
use Rattle.activations.specs.Stays.Stay.{leaves, goes, calls}
use Rattle.activations.specs.Children.{ChildrenKeep}

-- ---- what is asked of walks

-- it holds of the walks of all frames that are made in a stay, by their methods
abbrev pub ChildrenKeepBy : (Keep : ℕ → List ℕ → Type 0) {g : Setting} {callers : List Frame} {m : ℕ} {a b : Stage} {between : List Stage} {nodes : List ℕ} → Stay g callers m a b between nodes → Type 0
ChildrenKeepBy Keep (leaves top follows left) = Unit {0}
ChildrenKeepBy Keep (goes top follows moves more) = ChildrenKeepBy Keep more
ChildrenKeepBy Keep (calls {vs = vs} top follows enters child more) = Keep enters.top.method vs × ChildrenKeepBy Keep child × ChildrenKeepBy Keep more

-- the walk keeps the bounds of loops
abbrev pub Bounded : Program → BoundOf → (method : ℕ) → List ℕ → Type 0
Bounded P bound_of m ns = WalkKeeps P bound_of m ns

-- such as that they keep the bounds of loops
pub bounds_are_kept : {g : Setting} (bound_of : BoundOf) {callers : List Frame} {m : ℕ} {a b : Stage} {between : List Stage} {nodes : List ℕ} (stay : Stay g callers m a b between nodes) → ChildrenKeep bound_of stay
    → ChildrenKeepBy (Bounded g.program bound_of) stay
bounds_are_kept bound_of (leaves top follows left) keep = keep
bounds_are_kept bound_of (goes top follows moves more) keep = bounds_are_kept bound_of more keep
bounds_are_kept bound_of (calls top follows enters child more) keep = (keep.0, bounds_are_kept bound_of child keep.1, bounds_are_kept bound_of more keep.2)

-- ---- sections

-- The section's value bounds what each walk of its method costs that a run can take and that keeps what is asked of walks; where it has no value, the method can't end. Its loops are
-- placed as those of a certificate are, each edge that a run can take from a node of its graph is one of that graph, and no target is absent.
pub record IsSupported (P : Program) (t : Timing) (bound_of : BoundOf) (Keep : ℕ → List ℕ → Type 0) (earlier : List Valued) (s : CertSection) (value : Option ℕ) : Type 0 where
  pub view : SectionView P t earlier s
  pub present : (x : ℕ) → ¬ IsLacking P s.method view.told x
  pub placed : AreWellPlaced view.graph s.section (section_bounds bound_of s) view.fees
  pub headers : (i : ℕ) (l : CertifiedLoop) → IsEntryAt s.section.loops i l → (p : ℕ) × (l.header ≡ 2 * p)
  pub edges : (u v : Node) → IsSectionNode P s.method view.told u → IsLiveEdge P s.method u v → IsSectionEdge P s.method view.told u v
  pub ends : value ≡ None → ¬ CanEnd P s.method
  pub bounds : (g : Digraph) → IsLiveGraph P s.method g → (ns : List ℕ) → LiveWalk P s.method (At 0) ns → Keep s.method ns
      → MatchOption value ⊥ (λ most. cost_of view.costs (loops_of s.section (section_bounds bound_of s) view.fees) ns ≤ most)

-- the values of sections each of which is supported by those before it
pub data AreSupported (P : Program) (t : Timing) (bound_of : BoundOf) (Keep : ℕ → List ℕ → Type 0) : List Valued → Type 0 where
  nothing : AreSupported P t bound_of Keep []
  one_more : {earlier : List Valued} → AreSupported P t bound_of Keep earlier → (s : CertSection) (value : Option ℕ) → IsSupported P t bound_of Keep earlier s value
      → AreSupported P t bound_of Keep (earlier ++ section_value s value ∷ [])

-- such a section of the method, inside or of another kind, that has this value
pub record IsSupportedBy (P : Program) (t : Timing) (bound_of : BoundOf) (Keep : ℕ → List ℕ → Type 0) (inside : Bool) (m : ℕ) (value : Option ℕ) : Type 0 where
  pub earlier : List Valued
  pub supported : AreSupported P t bound_of Keep earlier
  pub section : CertSection
  pub meets : IsSupported P t bound_of Keep earlier section value
  pub method : section.method ≡ m
  pub kind : is_inside section.kind ≡ inside

-- ---- by a value

same_is : (a b : Bool) → is_same a b ≡ true → b ≡ a
same_is true b e = e
same_is false b e = not_true b e

-- one value says this of the method
said : (inside : Bool) (m : ℕ) (w : Valued) (x : Option ℕ) → said_by inside m w ≡ Some x → (w.method ≡ m) × (w.inside ≡ inside) × (w.value ≡ x)
said inside m w x e = by (is_same inside w.inside && w.method == m) refl e
  where
    by : (b : Bool) → (is_same inside w.inside && w.method == m) ≡ b → ◌≡◌ {A = Option (Option ℕ)} (if b then Some w.value else None) (Some x) → (w.method ≡ m) × (w.inside ≡ inside) × (w.value ≡ x)
    by true is e' = (eqb-true w.method m (and_right (is_same inside w.inside) (w.method == m) is), same_is inside w.inside (and_left (is_same inside w.inside) (w.method == m) is), cc)
    by false is e' = absurd (cc)

module _ {P : Program} {t : Timing} {bound_of : BoundOf} {Keep : ℕ → List ℕ → Type 0} where
  -- a value among theirs is that of one of them
  pub section_of : {earlier : List Valued} → AreSupported P t bound_of Keep earlier → (inside : Bool) (m : ℕ) (value : Option ℕ) → value_in inside m earlier ≡ Some value
      → IsSupportedBy P t bound_of Keep inside m value
  section_of nothing inside m value e = absurd (cc)
  section_of (one_more {earlier} before s x meets) inside m value e =
      by (value_in inside m earlier) refl (sym (value_in-push inside m earlier (section_value s x)) ∙ e) (section_of before inside m value)
    where
      by : (o : Option (Option ℕ)) → value_in inside m earlier ≡ o → option_or (value_in inside m earlier) (said_by inside m (section_value s x)) ≡ Some value
          → (value_in inside m earlier ≡ Some value → IsSupportedBy P t bound_of Keep inside m value) → IsSupportedBy P t bound_of Keep inside m value
      by (Some y) is e' there = there (is ∙ (ap (λ (o : Option (Option ℕ)). option_or o (said_by inside m (section_value s x))) (sym is) ∙ e'))
      by None is e' there =
          let its = said inside m (section_value s x) value (ap (λ (o : Option (Option ℕ)). option_or o (said_by inside m (section_value s x))) (sym is) ∙ e') in
          record {
            earlier = earlier;
            supported = before;
            section = s;
            meets = subst (λ (o : Option ℕ). IsSupported P t bound_of Keep earlier s o) its.2 meets;
            method = its.0;
            kind = its.1;
          }

-- ---- sections that meet the conditions of certificates

module _ (headers : HeadersHaveBounds) (no_end : NoValueNoEnd) (edges : LiveEdgesStay) (bounded : SectionsBoundWalks) (P : Program) (t : Timing) (bound_of : BoundOf) where
  supports : (earlier : List Valued) → AreMet P t bound_of earlier → (s : CertSection) (value : Option ℕ) → MeetsSection P t bound_of earlier s value → IsSupported P t bound_of (Bounded P bound_of) earlier s value
  supports earlier met s value h = record {
    view = h.view;
    present = h.present;
    placed = h.accepted.placed;
    headers = λ i l at. let r = headers P t bound_of earlier s value h i l at in (r.0, r.1);
    edges = λ u v reached e. edges P t bound_of earlier s value met h u v reached e;
    ends = λ none. no_end P t bound_of earlier s met (subst (λ (o : Option ℕ). MeetsSection P t bound_of earlier s o) none h);
    bounds = λ g live ns walk keeps. bounded P t bound_of earlier s value met h g live ns walk keeps;
  }

  -- are supported, where bounds of loops are asked of walks
  pub conditions_support : {earlier : List Valued} → AreMet P t bound_of earlier → AreSupported P t bound_of (Bounded P bound_of) earlier
  conditions_support none_met = nothing
  conditions_support (one_more_met {earlier} met s value h) = one_more (conditions_support met) s value (supports earlier met s value h)
