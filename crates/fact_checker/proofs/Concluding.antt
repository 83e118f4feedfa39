-- What is found of the prices, of the sections and of the root is what the rules say of the certificate.
use Rattle.std.proofs.Common.{◌≡◌, ℕ, suc, ◌+◌, ◌<◌, ◌≤◌, List, [], ◌∷◌, ◌++◌, length, get_or, take, drop, drop-cons, sym, ap, ◌∙◌, subst}
use Rattle.std.proofs.lemmas.List.{take_more, take_all, take-append-drop}
use Rattle.bound_texts.specs.Loops.Bounds.{LoopBound}
use Rattle.node_costs.specs.Costs.{bounds_of}
use Rattle.bytecode_model.specs.Program.{Program}
use Rattle.method_flow.specs.Flow.{Flow, IsFlowOf}
use Rattle.method_flow.specs.Keeping.{BoundOf}
use Rattle.method_flow.specs.declared.timing.Timing.{Timing}
use Rattle.bound_rules.specs.declared.faults.CheckFault.{CheckFault}
use Rattle.bound_rules.specs.declared.faults.CheckFault.TheVariants.{Missing, Member, Edge, Exit, Region, NoMemory}
use Rattle.bound_rules.specs.Told.{Valued, section_value}
use Rattle.cert_checker.specs.Setting.{CheckSetting, SectionValues}
use Rattle.cert_checker.specs.Section.{bounds_in}
use Rattle.flow_facts.specs.Facts.{Facts}
use Rattle.priced_cert.specs.Certificate.{PricedCertificate}
use Rattle.fact_rules.specs.declared.faults.PricedFault.{PricedFault}
use Rattle.fact_rules.specs.declared.faults.PricedFault.TheVariants as priced
use Rattle.fact_rules.specs.Pricing.{PricedSection, Pricing, pricing_of, placed_prices}
use Rattle.fact_rules.specs.Sections.{MeetAllPriced}
use Rattle.fact_rules.specs.Conditions.{AreOfFacts, MeetsPrices, sections_of}
use Rattle.fact_rules.specs.Refused.{PricedSectionFails, PricedFailsLast, IsRefusedWithPrices, IsRefusedWithPricesOrMemory}
use Rattle.fact_rules.specs.Refused.AreSectionsRefused.{in_section, at_end}
use Rattle.fact_rules.specs.Laws.{OneMoreMeetsPriced}
use Rattle.fact_checker.specs.Answer.{MeetWithPrices}
use Rattle.fact_checker.specs.Missing.{IsMissingOrMemory}
use Rattle.fact_checker.specs.Section.{FailsAmongPriced, AddsPriced, AllMeetPriced, SomeFailPriced, PricedFailsFor, IsPricedLast, PricedLastFails, PricedLastMeets}

-- for each program of the table it is refused so
abbrev pub RefuseWithPrices : Flow → BoundOf → Timing → Facts → PricedCertificate → PricedFault → Type 0
RefuseWithPrices f bound_of t facts c fault = (P : Program) → IsFlowOf P f → IsRefusedWithPricesOrMemory P t bound_of facts c fault

-- ---- prices

pub missing_refuses : (f : Flow) (bound_of : BoundOf) (t : Timing) (facts : Facts) (c : PricedCertificate) (fault : PricedFault) → IsMissingOrMemory facts c fault
    → RefuseWithPrices f bound_of t facts c fault
missing_refuses f bound_of t facts c (priced.Price m u) first = λ P of. first
missing_refuses f bound_of t facts c (priced.Check (Missing x)) first = absurd first
missing_refuses f bound_of t facts c (priced.Check (Member m u)) first = absurd first
missing_refuses f bound_of t facts c (priced.Check (Edge m u v)) first = absurd first
missing_refuses f bound_of t facts c (priced.Check (Exit m u)) first = absurd first
missing_refuses f bound_of t facts c (priced.Check (Region m)) first = absurd first
missing_refuses f bound_of t facts c (priced.Check NoMemory) first = λ P of. tt

-- ---- the sections one behind the other

module _ (set : CheckSetting) (q : Pricing) (ss : List PricedSection) where
  -- with one more that meets its conditions
  pub sections_more : OneMoreMeetsPriced → (i : ℕ) (s : PricedSection) (old new : SectionValues) → i < length ss → s ≡ get_or ss i s → AllMeetPriced set q (take i ss) old.valued
      → AddsPriced set q s old new → AllMeetPriced set q (take (i + 1) ss) new.valued
  sections_more one i s old new below is meet adds =
      λ P of.
      let V : List Valued → Type 0 = λ vs. MeetAllPriced P set.timing (bounds_in set) q [] (take (i + 1) ss) vs in
      let Z : List PricedSection → Type 0 = λ zs. MeetAllPriced P set.timing (bounds_in set) q [] zs (old.valued ++ section_value s.plain adds.value ∷ []) in
      let taken = take_more ss i s below ∙ ap (λ (x : PricedSection). take i ss ++ x ∷ []) (sym is) in
      subst V (sym (ap (λ (v : SectionValues). v.valued) adds.added))
      (subst Z (sym taken) (one P set.timing (bounds_in set) q [] (take i ss) old.valued s adds.value (meet P of) (adds.meets P of)))

  -- with one more that fails
  among : (i : ℕ) (s : PricedSection) (valued : List Valued) (fault : CheckFault) → i < length ss → s ≡ get_or ss i s → AllMeetPriced set q (take i ss) valued
      → ((P : Program) → IsFlowOf P set.flow → PricedSectionFails P set.timing (bounds_in set) q valued s fault) → (P : Program) → IsFlowOf P set.flow
      → FailsAmongPriced P set.timing (bounds_in set) q ss fault
  among i s valued fault below is meet fails =
      λ P of. record {
        before = take i ss;
        after = drop (suc i) ss;
        section = s;
        earlier = valued;
        split = sym (take-append-drop i ss) ∙ ap (λ (zs : List PricedSection). take i ss ++ zs) (drop-cons ss i s below ∙ ap (λ (x : PricedSection). x ∷ drop (suc i) ss) (sym is));
        meet = meet P of;
        fails = fails P of;
      }

  pub section_fails : (i : ℕ) (s : PricedSection) (valued : List Valued) (fault : CheckFault) → i < length ss → s ≡ get_or ss i s → AllMeetPriced set q (take i ss) valued
      → PricedFailsFor set q valued s fault → SomeFailPriced set q ss fault
  section_fails i s valued (Missing m) below is meet fails = among i s valued (Missing m) below is meet fails
  section_fails i s valued (Member m u) below is meet fails = among i s valued (Member m u) below is meet fails
  section_fails i s valued (Edge m u v) below is meet fails = among i s valued (Edge m u v) below is meet fails
  section_fails i s valued (Exit m u) below is meet fails = among i s valued (Exit m u) below is meet fails
  section_fails i s valued (Region m) below is meet fails = among i s valued (Region m) below is meet fails
  section_fails i s valued NoMemory below is meet fails = tt

  pub all_sections : (i : ℕ) (valued : List Valued) → length ss ≤ i → AllMeetPriced set q (take i ss) valued → AllMeetPriced set q ss valued
  all_sections i valued past meet = subst (λ (zs : List PricedSection). AllMeetPriced set q zs valued) (take_all i ss past) meet

-- ---- the certificate

module _ (P : Program) (t : Timing) (bound_of : BoundOf) (facts : Facts) (c : PricedCertificate) (are : AreOfFacts (placed_prices (pricing_of facts c) (sections_of c))) where
  abbrev q : Pricing
  q = pricing_of facts c

  abbrev ss : List PricedSection
  ss = sections_of c

  meets_prices : (values : List Valued) → MeetAllPriced P t bound_of q [] ss values → IsPricedLast P t values q c.plain.bound → MeetsPrices P t bound_of facts c
  meets_prices values sections last = record {
    facts_are = are;
    values = values;
    sections = sections;
    coded = last.coded;
    full = last.full;
    says = last.says;
    right = last.right;
  }

  -- a section that fails, behind sections that meet their conditions
  section_refused : (fault : CheckFault) → FailsAmongPriced P t bound_of q ss fault → IsRefusedWithPrices P t bound_of facts c (priced.Check fault)
  section_refused fault x = (are, in_section x.before x.after x.section x.earlier x.split x.meet x.fails)

  last_refused : (fault : CheckFault) (values : List Valued) → MeetAllPriced P t bound_of q [] ss values → PricedFailsLast P t values q c.plain.bound fault
      → IsRefusedWithPricesOrMemory P t bound_of facts c (priced.Check fault)
  last_refused (Missing m) values meet fails = (are, at_end values meet fails)
  last_refused (Member m u) values meet fails = absurd fails
  last_refused (Edge m u v) values meet fails = absurd fails
  last_refused (Exit m u) values meet fails = absurd fails
  last_refused (Region m) values meet fails = (are, at_end values meet fails)
  last_refused NoMemory values meet fails = tt

sections_refused : (set : CheckSetting) (facts : Facts) (c : PricedCertificate) (fault : CheckFault) → AreOfFacts (placed_prices (pricing_of facts c) (sections_of c))
    → SomeFailPriced set (pricing_of facts c) (sections_of c) fault → (P : Program) → IsFlowOf P set.flow
    → IsRefusedWithPricesOrMemory P set.timing (bounds_in set) facts c (priced.Check fault)
sections_refused set facts c (Missing m) are fails = λ P of. section_refused P set.timing (bounds_in set) facts c are (Missing m) (fails P of)
sections_refused set facts c (Member m u) are fails = λ P of. section_refused P set.timing (bounds_in set) facts c are (Member m u) (fails P of)
sections_refused set facts c (Edge m u v) are fails = λ P of. section_refused P set.timing (bounds_in set) facts c are (Edge m u v) (fails P of)
sections_refused set facts c (Exit m u) are fails = λ P of. section_refused P set.timing (bounds_in set) facts c are (Exit m u) (fails P of)
sections_refused set facts c (Region m) are fails = λ P of. section_refused P set.timing (bounds_in set) facts c are (Region m) (fails P of)
sections_refused set facts c NoMemory are fails = λ P of. tt

-- ---- by the parts of what is known

at_parts : (set : CheckSetting) (f : Flow) (b : List LoopBound) (t : Timing) (Q : Flow → BoundOf → Timing → Type 0) → set.flow ≡ f → set.bounds ≡ b → set.timing ≡ t → Q set.flow (bounds_in set) set.timing → Q f (bounds_of f b) t
at_parts set f b t Q same_flow same_bounds same_timing h =
    let B : List LoopBound → Type 0 = λ x. Q set.flow (bounds_of set.flow x) set.timing in
    let T : Timing → Type 0 = λ x. Q set.flow (bounds_of set.flow b) x in
    let F : Flow → Type 0 = λ x. Q x (bounds_of x b) t in
    subst F same_flow (subst T same_timing (subst B same_bounds h))

module _ (set : CheckSetting) (f : Flow) (b : List LoopBound) (t : Timing) (facts : Facts) (c : PricedCertificate) (parts : (set.flow ≡ f) × (set.bounds ≡ b) × (set.timing ≡ t))
    (are : AreOfFacts (placed_prices (pricing_of facts c) (sections_of c))) where
  pub sections_refuse : (fault : CheckFault) → SomeFailPriced set (pricing_of facts c) (sections_of c) fault → RefuseWithPrices f (bounds_of f b) t facts c (priced.Check fault)
  sections_refuse fault fails =
      at_parts set f b t (λ f B t. RefuseWithPrices f B t facts c (priced.Check fault)) parts.0 parts.1 parts.2 (sections_refused set facts c fault are fails)

  module _ (valued : List Valued) (meet : AllMeetPriced set (pricing_of facts c) (sections_of c) valued) where
    pub last_refuses : (fault : CheckFault) → PricedLastFails set valued (pricing_of facts c) c.plain.bound fault → RefuseWithPrices f (bounds_of f b) t facts c (priced.Check fault)
    last_refuses fault fails =
        at_parts set f b t (λ f B t. RefuseWithPrices f B t facts c (priced.Check fault)) parts.0 parts.1 parts.2
        (λ P of. last_refused P set.timing (bounds_in set) facts c are fault valued (meet P of) (fails P of))

    pub all_meet : PricedLastMeets set valued (pricing_of facts c) c.plain.bound → MeetWithPrices f (bounds_of f b) t facts c
    all_meet last =
        at_parts set f b t (λ f B t. MeetWithPrices f B t facts c) parts.0 parts.1 parts.2
        (λ P of. meets_prices P set.timing (bounds_in set) facts c are valued (meet P of) (last P of))
