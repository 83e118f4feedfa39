-- Supported sections bound activations; and so does a certificate that meets its conditions.
use Rattle.std.proofs.Common.{ℕ, ◌+◌, ◌≤◌, List, [], ◌∷◌, Option, Some, None, IsSome, MatchOption, refl, sym, subst, arith}
use Rattle.micro_flow.specs.Costs.{IsGreatestInvoke}
use Rattle.bytecode_model.specs.State.{Frame}
use Rattle.bytecode_model.specs.Program.{Program, body_of}
use Rattle.method_flow.specs.Nodes.{At}
use Rattle.method_flow.specs.Keeping.{BoundOf}
use Rattle.method_flow.specs.Recursion.{MayCall}
use Rattle.method_flow.specs.Regions.{load}
use Rattle.method_flow.specs.declared.timing.Timing.{Timing}
use Rattle.method_flow.specs.Costs.{params, IsOwnCost, IsPrintedOf, InvokesKeepTheGreatest}
use Rattle.bound_rules.specs.Told.{Valued, SaysFull}
use Rattle.bound_rules.specs.Conditions.{MeetsConditions}
use Rattle.bound_rules.specs.Met.AreMet.{nothing}
use Rattle.bound_rules.specs.Laws.{AllAreMet, HeadersHaveBounds, NoValueNoEnd, LiveEdgesStay, SectionsBoundWalks}
use Rattle.activations.specs.Setting.{Setting, IsSetting}
use Rattle.activations.specs.Activations.{Stage, IsActivation, cycles_of}
use Rattle.activations.specs.Timing.{HasTiming}
use Rattle.activations.specs.Stays.{Stay}
use Rattle.activations.specs.Keeping.{Keeps}
use Rattle.activations.specs.Trees.{ActivationsAreTrees, ActivationsAreWalks, StaysKeep}
use Rattle.bound_laws.specs.Soundness.Laws.{CertificatesAreSound}
use Rattle.bound_laws.proofs.SoundnessLemmas.Supported.{ChildrenKeepBy, bounds_are_kept, AreSupported, Bounded, conditions_support}
use Rattle.bound_laws.proofs.SoundnessLemmas.Known.{Known}
use Rattle.bound_laws.proofs.SoundnessLemmas.Sections.{full_some}
use Rattle.bound_laws.proofs.SoundnessLemmas.Accounting.{bounded_clock}

-- ---- supported sections

-- each stay of the activation's own frame, and all stays within it, keep what is asked of walks
abbrev pub KeepsBy : {g : Setting} {m : ℕ} {a b : Stage} (Keep : ℕ → List ℕ → Type 0) → IsActivation g m a b → Type 0
KeepsBy {g} {m} {a} {b} Keep h = (callers : List Frame) (nodes : List ℕ) (stay : Stay g callers m h.first b h.between nodes) → Keep m nodes × ChildrenKeepBy Keep stay

-- With the dearest invoke before its number with all loads, and behind that the load of each method that may call it, the method's activation takes at most so many cycles; where there is
-- no number, there is no activation.
abbrev pub IsBoundBy : {g : Setting} {m : ℕ} {a b : Stage} → Timing → IsActivation g m a b → (full : Option ℕ) → Type 0
IsBoundBy {g} {m} {a} {b} t h full =
    MatchOption full ⊥ (λ n. (invoke back : ℕ) → IsGreatestInvoke (params t 0 0) invoke → ((x : ℕ) → MayCall g.program x m → IsSome (body_of g.program x) → load g.program t.read x ≤ back)
    → cycles_of a b ≤ invoke + n + back)

module _ (trees : ActivationsAreTrees) (walks : ActivationsAreWalks) (invokes : InvokesKeepTheGreatest) (known : (g : Setting) → IsSetting g → Known g) where
  module _ (g : Setting) (t : Timing) (bound_of : BoundOf) (Keep : ℕ → List ℕ → Type 0) (setting : IsSetting g) (read : t.read ≤ 63) (write : t.write ≤ 63) (m : ℕ) (a b : Stage) (timing : HasTiming t a.machine) (h : IsActivation g m a b)
      (keeps : KeepsBy Keep h) (values : List Valued) (supported : AreSupported g.program t bound_of Keep values) where
    -- a root that never ends has no activation that ends
    never : SaysFull g.program t values m (Some None) → ⊥
    never says = full_some g (known g setting) t bound_of Keep values supported m (Some None) says (walks g m a b h setting).1 refl

    numbered : (full : ℕ) → SaysFull g.program t values m (Some (Some full)) → IsBoundBy t h (Some full)
    numbered full says invoke back is_invoke loads =
        let tree = trees g m a b h setting in
        let its = keeps (tree.enters.waiting ∷ tree.callers) _ tree.stay in
        let dearest = invokes g.program t tree.frame.method tree.frame.pc invoke (record { r = read; w = write; pairs = omega arith; entries = omega arith }) tree.enters.call is_invoke in
        let covers : (micro : ℕ) → ((own : ℕ) → IsOwnCost g.program t tree.frame.method (At tree.frame.pc) own → micro ≤ own) → micro ≤ invoke =
        λ micro few. let less = few dearest.0 dearest.1 in let more = dearest.2 in omega arith
        in
        let clock = bounded_clock g (known g setting) t bound_of Keep tree.frames h.begins tree.enters tree.method tree.stay timing its.0 its.1 values supported full says invoke covers back loads in
        omega arith

    pub supported_bound : (full : Option ℕ) → SaysFull g.program t values m (Some full) → IsBoundBy t h full
    supported_bound None says = never says
    supported_bound (Some full) says = numbered full says

  -- ---- certificates

  printed_bound : {g : Setting} {m : ℕ} {a b : Stage} (t : Timing) (h : IsActivation g m a b) (full printed : Option ℕ) → IsBoundBy t h full → IsPrintedOf g.program t full printed
      → MatchOption printed ⊥ (λ most. cycles_of a b ≤ most)
  printed_bound t h None printed bound line = absurd bound
  printed_bound {g} {m} {a} {b} t h (Some full) printed bound line =
      let Q : Option ℕ → Type 0 = λ o. MatchOption o ⊥ (λ most. cycles_of a b ≤ most) in
      subst Q (sym line.is) (bound line.invoke line.greatest_load line.is_invoke (λ x may coded. line.is_load.greatest x coded))

  module _ (keep : StaysKeep) (all_met : AllAreMet) (headers : HeadersHaveBounds) (no_end : NoValueNoEnd) (edges : LiveEdgesStay) (bounded : SectionsBoundWalks) where
    keeps_by : (g : Setting) (bound_of : BoundOf) (m : ℕ) (a b : Stage) (h : IsActivation g m a b) → Keeps bound_of h → KeepsBy (Bounded g.program bound_of) h
    keeps_by g bound_of m a b h keeps callers nodes stay = let its = keep g m a b h bound_of keeps callers nodes stay in (its.0, bounds_are_kept bound_of stay its.1)

    pub certificates_are_sound : CertificatesAreSound
    certificates_are_sound P t bound_of c read write meets g a b setting is_P timing h keeps =
        let its : MeetsConditions g.program t bound_of c = subst (λ (x : Program). MeetsConditions x t bound_of c) (sym is_P) meets in
        let met = all_met g.program t bound_of [] c.sections its.values nothing its.sections in
        let supported = conditions_support headers no_end edges bounded g.program t bound_of met in
        let bound =
        supported_bound g t bound_of (Bounded g.program bound_of) setting read write c.root a b timing h (keeps_by g bound_of c.root a b h keeps) its.values supported its.full its.says
        in
        printed_bound t h its.full c.bound bound its.right.printed
