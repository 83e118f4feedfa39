-- A certificate with prices that meets its conditions bounds activations.
use Rattle.std.proofs.Common.{ℕ, ◌+◌, ◌≤◌, List, [], ◌∷◌, Option, Some, None, MatchOption, refl, sym, subst, arith}
use Rattle.micro_flow.specs.Costs.{IsGreatestInvoke}
use Rattle.bytecode_model.specs.State.{Frame}
use Rattle.bytecode_model.specs.Program.{Program}
use Rattle.method_flow.specs.Nodes.{At}
use Rattle.method_flow.specs.Keeping.{BoundOf}
use Rattle.method_flow.specs.Recursion.{MayCall}
use Rattle.method_flow.specs.Regions.{load}
use Rattle.method_flow.specs.declared.timing.Timing.{Timing}
use Rattle.method_flow.specs.Costs.{params, IsOwnCost, InvokesKeepTheGreatest}
use Rattle.bound_rules.specs.Told.{Valued, SaysFull}
use Rattle.activations.specs.Setting.{Setting, IsSetting}
use Rattle.activations.specs.Activations.{Stage, IsActivation, cycles_of}
use Rattle.activations.specs.Timing.{HasTiming}
use Rattle.activations.specs.Stays.{Stay}
use Rattle.activations.specs.Stays.Stay.{leaves, goes, calls}
use Rattle.activations.specs.Keeping.{stages_of, Keeps}
use Rattle.activations.specs.Trees.{ActivationsAreTrees, ActivationsAreWalks}
use Rattle.bound_laws.proofs.SoundnessLemmas.Supported.{ChildrenKeepBy, IsSupported}
use Rattle.bound_laws.proofs.SoundnessLemmas.Known.{Known}
use Rattle.bound_laws.proofs.SoundnessLemmas.Sections.{full_some}
use Rattle.flow_facts.specs.Facts.{no_facts}
use Rattle.priced_sections.specs.Prices.{credit_of}
use Rattle.fact_rules.specs.Pricing.{PricedSection, Pricing, pricing_of, root_facts, root_due}
use Rattle.fact_rules.specs.Sections.{MeetsPriced, AreMetPriced}
use Rattle.fact_rules.specs.Sections.AreMetPriced.{nothing as none_met, one_more as one_more_met}
use Rattle.fact_rules.specs.Conditions.{IsCallersLoad, IsPricedLine, MeetsPrices, sections_of}
use Rattle.fact_rules.specs.Conditions.IsCallersLoad.{none, greatest}
use Rattle.fact_rules.specs.Laws.{AllAreMetPriced, PricedHeadersHaveBounds, NoPricedValueNoEnd, PricedLiveEdgesStay, PricedSectionsBoundWalks}
use Rattle.fact_keeping.specs.Keeping.{KeepsFacts}
use Rattle.fact_keeping.specs.Laws.{StaysKeepBoth, NoFactsAreAsked}
use Rattle.fact_keeping.specs.Children.{ChildrenKeepBy as AllKeepBy, WalkKeepsBoth}
use Rattle.fact_sound.specs.Laws.{PricesAreSound, WithoutFactsPricesAreSound}
use Rattle.fact_sound.proofs.Backed.{Never, Asked, AreBacked, IsBacked, are_supported}
use Rattle.fact_sound.proofs.Backed.AreBacked.{nothing, one_more}
use Rattle.fact_sound.proofs.Accounting.{bounded_clock}
use Rattle.fact_sound.proofs.RootVisits.{counted, is_counted, root_pays}

-- ---- sections that meet the conditions of certificates with prices

-- walks keep the bounds of loops and the facts, and visits give back the prices in the root
abbrev asked_of : Program → BoundOf → Pricing → Asked
asked_of P bound_of q = record { keep = WalkKeepsBoth P bound_of q.facts; credit = λ m u. credit_of (root_facts q m) u }

module _ (headers : PricedHeadersHaveBounds) (no_end : NoPricedValueNoEnd) (edges : PricedLiveEdgesStay) (bounded : PricedSectionsBoundWalks) (P : Program) (t : Timing) (bound_of : BoundOf) (q : Pricing) where
  module _ (earlier : List Valued) (met : AreMetPriced P t bound_of q earlier) (s : PricedSection) (value : Option ℕ) (h : MeetsPriced P t bound_of q earlier s value) where
    abbrev supports : IsSupported P t bound_of Never earlier s.plain value
    supports = record {
      view = h.view;
      present = h.present;
      placed = h.paid.nodes.placed;
      headers = λ i l at. let r = headers P t bound_of q earlier s value h i l at in (r.0, r.1);
      edges = λ u v reached e. edges P t bound_of q earlier s value met h u v reached e;
      ends = λ none_is. no_end P t bound_of q earlier s met (subst (λ (o : Option ℕ). MeetsPriced P t bound_of q earlier s o) none_is h);
      bounds = λ g live ns walk never. absurd never;
    }

    backs : IsBacked P t bound_of (asked_of P bound_of q) earlier s.plain value
    backs = (supports, λ g live ns walk keeps. bounded P t bound_of q earlier s value met h g live ns walk keeps.0 keeps.1)

  prices_back : {earlier : List Valued} → AreMetPriced P t bound_of q earlier → AreBacked P t bound_of (asked_of P bound_of q) earlier
  prices_back none_met = nothing
  prices_back (one_more_met {earlier} met s value h) = one_more (prices_back met) s.plain value (backs earlier met s value h)

-- ---- walks

children_keep : (Keep : ℕ → List ℕ → Type 0) {g : Setting} {callers : List Frame} {m : ℕ} {a b : Stage} {between : List Stage} {nodes : List ℕ} (stay : Stay g callers m a b between nodes) → AllKeepBy Keep stay
    → ChildrenKeepBy Keep stay
children_keep Keep (leaves top follows left) keep = keep
children_keep Keep (goes top follows moves more) keep = children_keep Keep more keep
children_keep Keep (calls top follows enters child more) keep = (keep.0, children_keep Keep child keep.1, children_keep Keep more keep.2)

-- ---- the last line

-- With the dearest invoke before the number with all loads, what is due, and behind them the load of each method that may call it, the method's activation takes at most so many cycles;
-- where there is no number, there is no activation.
abbrev IsBoundWith : {g : Setting} {m : ℕ} {a b : Stage} → Timing → IsActivation g m a b → (due : ℕ) → (full : Option ℕ) → Type 0
IsBoundWith {g} {m} {a} {b} t h due full =
    MatchOption full ⊥ (λ n. (invoke back : ℕ) → IsGreatestInvoke (params t 0 0) invoke → ((x : ℕ) → MayCall g.program x m → load g.program t.read x ≤ back) → cycles_of a b ≤ invoke + (n + due) + back)

-- the load of the method to which control comes back, which may call the root
callers_load : (P : Program) (r root most : ℕ) → IsCallersLoad P r root most → (x : ℕ) → MayCall P x root → load P r x ≤ most
callers_load P r root most (none zero nobody) x may = absurd (nobody x may)
callers_load P r root most (greatest m calls_it is each) x may = each x may

printed_bound : {g : Setting} {m : ℕ} {a b : Stage} (t : Timing) (h : IsActivation g m a b) (due : ℕ) (full printed : Option ℕ) → IsBoundWith t h due full → IsPricedLine g.program t m due full printed
    → MatchOption printed ⊥ (λ most. cycles_of a b ≤ most)
printed_bound t h due None printed bound line = absurd bound
printed_bound {g} {m} {a} {b} t h due (Some full) printed bound line =
    let Q : Option ℕ → Type 0 = λ o. MatchOption o ⊥ (λ most. cycles_of a b ≤ most) in
    subst Q (sym line.is) (bound line.invoke line.back line.is_invoke (callers_load g.program t.read m line.back line.is_back))

-- ---- certificates with prices

module _ (trees : ActivationsAreTrees) (walks : ActivationsAreWalks) (invokes : InvokesKeepTheGreatest) (known : (g : Setting) → IsSetting g → Known g)
    (keep : StaysKeepBoth) (all_met : AllAreMetPriced) (headers : PricedHeadersHaveBounds) (no_end : NoPricedValueNoEnd) (edges : PricedLiveEdgesStay) (bounded : PricedSectionsBoundWalks) where
  module _ (g : Setting) (t : Timing) (bound_of : BoundOf) (q : Pricing) (setting : IsSetting g) (read : t.read ≤ 63) (write : t.write ≤ 63) (a b : Stage) (timing : HasTiming t a.machine) (h : IsActivation g q.root a b)
      (keeps : Keeps bound_of h) (keeps_facts : KeepsFacts q.facts h) (values : List Valued) (backed : AreBacked g.program t bound_of (asked_of g.program bound_of q) values) where
    -- a root that never ends has no activation that ends
    never : SaysFull g.program t values q.root (Some None) → ⊥
    never says =
        let supported = are_supported g.program t bound_of (asked_of g.program bound_of q) backed in
        full_some g (known g setting) t bound_of Never values supported q.root (Some None) says (walks g q.root a b h setting).1 refl

    numbered : (full : ℕ) → SaysFull g.program t values q.root (Some (Some full)) → IsBoundWith t h (root_due q) (Some full)
    numbered full says invoke back is_invoke loads =
        let tree = trees g q.root a b h setting in
        let its = keep g q.root a b h bound_of q.facts keeps keeps_facts (tree.enters.waiting ∷ tree.callers) _ tree.stay in
        let children = children_keep (WalkKeepsBoth g.program bound_of q.facts) tree.stay its.1 in
        let dearest = invokes g.program t tree.frame.method tree.frame.pc invoke (record { r = read; w = write; pairs = omega arith; entries = omega arith }) tree.enters.call is_invoke in
        let covers : (micro : ℕ) → ((own : ℕ) → IsOwnCost g.program t tree.frame.method (At tree.frame.pc) own → micro ≤ own) → micro ≤ invoke =
        λ micro few. let less = few dearest.0 dearest.1 in let more = dearest.2 in omega arith
        in
        let clock =
        bounded_clock g (known g setting) t bound_of (asked_of g.program bound_of q) (counted q) (is_counted q) tree.frames h.begins tree.enters tree.method tree.stay timing its.0 children values backed full says invoke covers
        back (λ x may coded. loads x may)
        in
        let due = root_pays q (stages_of h) keeps_facts.within in
        omega arith

    pub backed_bound : (full : Option ℕ) → SaysFull g.program t values q.root (Some full) → IsBoundWith t h (root_due q) full
    backed_bound None says = never says
    backed_bound (Some full) says = numbered full says

  pub prices_are_sound : PricesAreSound
  prices_are_sound P t bound_of facts c read write meets g a b setting is_P timing h keeps keeps_facts =
      let its : MeetsPrices g.program t bound_of facts c = subst (λ (x : Program). MeetsPrices x t bound_of facts c) (sym is_P) meets in
      let q = pricing_of facts c in
      let met = all_met g.program t bound_of q [] (sections_of c) its.values none_met its.sections in
      let backed = prices_back headers no_end edges bounded g.program t bound_of q met in
      let bound = backed_bound g t bound_of q setting read write a b timing h keeps keeps_facts its.values backed its.full its.says in
      printed_bound t h (root_due q) its.full c.plain.bound bound its.right.line

-- ---- no facts

pub without_facts_prices_are_sound : PricesAreSound → NoFactsAreAsked → WithoutFactsPricesAreSound
without_facts_prices_are_sound sound none_asked P t bound_of c read write meets = none_asked P t bound_of c.plain.root c.plain.bound (sound P t bound_of no_facts c read write meets)
