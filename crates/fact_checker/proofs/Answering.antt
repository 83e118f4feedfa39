-- The answer to a section with prices by the answer to its potentials, the nodes beside them, and what is prepared.
use Rattle.std.proofs.Common.{◌≡◌, ℕ, ◌+◌, ◌<◌, Bool, List, length, Option, Some, None, IsSome, Result, Ok, Err, IfOk, IfErr, refl, sym, subst, inl, inr}
use Rattle.std.proofs.lemmas.Bool.{both_ways, false_from_ne_true}
use Rattle.section_check.specs.Least.{IsLeast, lesser_of}
use Rattle.section_check.specs.declared.section.SectionFault.{SectionFault}
use Rattle.section_check.specs.declared.section.SectionFault.TheVariants as faults
use Rattle.section_check.proofs.LeastLemmas.{least_either}
use Rattle.bytecode_model.specs.Program.{Program, body_of}
use Rattle.method_flow.specs.Flow.{IsFlowOf}
use Rattle.method_flow.specs.Keeping.{BoundOf}
use Rattle.method_flow.specs.declared.timing.Timing.{Timing}
use Rattle.flow_graph.specs.Reach.{flag_at}
use Rattle.bound_rules.specs.declared.faults.CheckFault.{CheckFault}
use Rattle.bound_rules.specs.Told.{Valued}
use Rattle.bound_rules.specs.Sections.{AreEntryLoads, IsLacking, IsNoNode, SectionView, section_bounds}
use Rattle.bound_rules.specs.Refused.{FailsAtTarget}
use Rattle.cert_checker.specs.Setting.{CheckSetting}
use Rattle.cert_checker.specs.Prepared.{IsPrepared, IsUnflagged}
use Rattle.cert_checker.specs.Answer.{joined}
use Rattle.cert_checker.specs.Section.{IsWrongBeside, bounds_in}
use Rattle.cert_checker.specs.declared.prepared.Prepared.{Prepared}
use Rattle.priced_sections.specs.Prices.{PricedFact, credit_of}
use Rattle.priced_sections.specs.Answers.{IsOutOfPlace, IsPaidAnswer}
use Rattle.fact_rules.specs.Pricing.{PricedSection, Pricing, own_facts, root_facts, credit}
use Rattle.fact_rules.specs.Sections.{MeetsPriced}
use Rattle.fact_rules.specs.Refused.{IsWrongIn}
use Rattle.fact_rules.proofs.Viewed.{none_out}
use Rattle.fact_checker.specs.Section.{PricedAnswersFor, PricedFailsOrMemory, PricedPreparedMeets, PricedPreparedFails}

-- ---- one section, in one program

module _ (P : Program) (t : Timing) (bound_of : BoundOf) (q : Pricing) (earlier : List Valued) (s : PricedSection) (p : Prepared) (fees : List (Option ℕ))
    (coded : IsSome (body_of P s.plain.method)) (h : IsPrepared P t earlier s.plain p) (are : AreEntryLoads P t s.plain fees) where
  -- what a section is checked with, by what is prepared and its fees
  abbrev view : SectionView P t earlier s.plain
  view = record {
    coded = coded;
    told = h.told;
    are_told = h.by.are_told;
    graph = p.graph;
    is_graph = h.by.graph;
    costs = p.costs.items;
    are_costs = h.by.costs;
    fees = fees;
    are_fees = are;
  }

  abbrev own : List PricedFact
  own = own_facts q.facts s

  abbrev bounds : List ℕ
  bounds = section_bounds bound_of s.plain

  abbrev IsOut : ℕ → Type 0
  IsOut u = IsOutOfPlace p.graph s.plain.section bounds fees own u

  abbrev IsBeside : ℕ → Type 0
  IsBeside u = IsWrongBeside bound_of s.plain p.nodes.items u

  abbrev Answers : Result (Option ℕ) SectionFault → Type 0
  Answers answer = IsPaidAnswer p.graph p.costs.items (credit q s) s.plain.section bounds fees own answer

  no_node : (u : ℕ) → IsUnflagged s.plain.section p.nodes.items u → IsNoNode P s.plain h.told u
  no_node u un = record {
    said = un.0;
    none = λ n reached same. both_ways (flag_at p.nodes.items u) un.1 ((h.by.nodes u).1 (n, reached, same));
  }

  unflagged : (u : ℕ) → IsNoNode P s.plain h.told u → IsUnflagged s.plain.section p.nodes.items u
  unflagged u none = (none.said, false_from_ne_true (flag_at p.nodes.items u) (λ yes. let node = (h.by.nodes u).0 yes in none.none node.0 node.1 node.2))

  -- the least wrong node is the lesser of the least that is out of place and the least beside
  wrong_least : (beside out : Option ℕ) → IsLeast IsBeside beside → IsLeast IsOut out → IsLeast (IsWrongIn bound_of own s view) (lesser_of beside out)
  wrong_least beside out hb ho =
      least_either IsBeside IsOut (IsWrongIn bound_of own s view) beside out
      (λ u w. elim w [ inl un ↦ inr (inl (no_node u un)) | inr lacks ↦ inr (inr lacks) ])
      (λ u m. inl m)
      (λ u w. elim w [ inl m ↦ inr m | inr rest ↦ elim rest [ inl none ↦ inl (inl (unflagged u none)) | inr lacks ↦ inl (inr lacks) ] ])
      hb ho

  present_from : p.absent ≡ None → IsLeast (IsLacking P s.plain.method h.told) None
  present_from absent = subst (IsLeast (IsLacking P s.plain.method h.told)) absent h.by.absent

  -- where no node is wrong and the potentials are accepted, the section meets its conditions
  pub joined_meets : (wrong : Option ℕ) (answer : Result (Option ℕ) SectionFault) → p.absent ≡ None → IsLeast IsBeside wrong → Answers answer
      → IfOk (joined s.plain.method wrong answer) (MeetsPriced P t bound_of q earlier s)
  joined_meets None (Ok value) absent hb a =
      let none = wrong_least None None hb (none_out p.graph s.plain.section bounds fees own a.0.nodes) in
      record {
        view = view;
        present = present_from absent;
        nodes = λ u no. none u (inr (inl no));
        bounded = λ u lacks. none u (inr (inr lacks));
        paid = a.0;
        is = a.1;
      }
  joined_meets None (Err (faults.Member u)) absent hb a = tt
  joined_meets None (Err (faults.Edge u v)) absent hb a = tt
  joined_meets None (Err (faults.Exit u)) absent hb a = tt
  joined_meets (Some w) (Ok value) absent hb a = tt
  joined_meets (Some w) (Err (faults.Member u)) absent hb a = tt
  joined_meets (Some w) (Err (faults.Edge u v)) absent hb a = tt
  joined_meets (Some w) (Err (faults.Exit u)) absent hb a = tt

  -- else it fails as is answered
  pub joined_fails : (wrong : Option ℕ) (answer : Result (Option ℕ) SectionFault) → p.absent ≡ None → IsLeast IsBeside wrong → Answers answer
      → IfErr (joined s.plain.method wrong answer) (PricedFailsOrMemory P t bound_of q earlier s)
  joined_fails None (Ok value) absent hb a = tt
  joined_fails None (Err (faults.Member u)) absent hb a =
      (refl, record { view = view; present = present_from absent; least = wrong_least None (Some u) hb (a.wrong, a.first) })
  joined_fails None (Err (faults.Edge u v)) absent hb a =
      (refl, record { view = view; present = present_from absent; placed = wrong_least None None hb (none_out p.graph s.plain.section bounds fees own a.0); first = a.1 })
  joined_fails None (Err (faults.Exit u)) absent hb a =
      (refl, record { view = view; present = present_from absent; placed = wrong_least None None hb (none_out p.graph s.plain.section bounds fees own a.0); edges = a.1; first = a.2 })
  joined_fails (Some w) (Ok value) absent hb a =
      (refl, record { view = view; present = present_from absent; least = wrong_least (Some w) None hb (none_out p.graph s.plain.section bounds fees own a.0.nodes) })
  joined_fails (Some w) (Err (faults.Member u)) absent hb a =
      (refl, record { view = view; present = present_from absent; least = wrong_least (Some w) (Some u) hb (a.wrong, a.first) })
  joined_fails (Some w) (Err (faults.Edge u v)) absent hb a =
      (refl, record { view = view; present = present_from absent; least = wrong_least (Some w) None hb (none_out p.graph s.plain.section bounds fees own a.0) })
  joined_fails (Some w) (Err (faults.Exit u)) absent hb a =
      (refl, record { view = view; present = present_from absent; least = wrong_least (Some w) None hb (none_out p.graph s.plain.section bounds fees own a.0) })

-- ---- for each program of the table

met_for : (set : CheckSetting) (q : Pricing) (s : PricedSection) (p : Prepared) (r : Result (Option ℕ) CheckFault)
    → ((P : Program) (earlier : List Valued) → IsFlowOf P set.flow → IsPrepared P set.timing earlier s.plain p → IfOk r (MeetsPriced P set.timing (bounds_in set) q earlier s))
    → IfOk r (PricedPreparedMeets set q s p)
met_for set q s p (Ok value) h = h
met_for set q s p (Err fault) h = tt

fails_for : (set : CheckSetting) (q : Pricing) (s : PricedSection) (p : Prepared) (r : Result (Option ℕ) CheckFault)
    → ((P : Program) (earlier : List Valued) → IsFlowOf P set.flow → IsPrepared P set.timing earlier s.plain p → IfErr r (PricedFailsOrMemory P set.timing (bounds_in set) q earlier s))
    → IfErr r (PricedPreparedFails set q s p)
fails_for set q s p (Ok value) h = tt
fails_for set q s p (Err fault) h = h

module _ (set : CheckSetting) (q : Pricing) (s : PricedSection) (p : Prepared) (answer : Result (Option ℕ) SectionFault) (below : s.plain.method < length set.flow.methods)
    (answers : (P : Program) → IsFlowOf P set.flow → PricedAnswersFor P set q s p answer) where
  -- x is the least absent method that an invoke among the nodes may run
  pub missing_fails : (x : ℕ) → p.absent ≡ Some x → (P : Program) (earlier : List Valued) → IsFlowOf P set.flow → IsPrepared P set.timing earlier s.plain p
      → FailsAtTarget P set.timing earlier s.plain x
  missing_fails x is P earlier of h =
      let a = answers P of in
      record {
        view = view P set.timing (bounds_in set) q earlier s p a.fees ((of.coded s.plain.method).1 below) h a.are_fees;
        least = subst (IsLeast (IsLacking P s.plain.method h.told)) is h.by.absent;
      }

  module _ (wrong : Option ℕ) (flags : List Bool) (same : flags ≡ p.nodes.items) (none : p.absent ≡ None) (beside : IsLeast (IsWrongBeside (bounds_in set) s.plain flags) wrong) where
    least : IsLeast (IsWrongBeside (bounds_in set) s.plain p.nodes.items) wrong
    least = subst (λ (fs : List Bool). IsLeast (IsWrongBeside (bounds_in set) s.plain fs) wrong) same beside

    pub prepared_meets : (r : Result (Option ℕ) CheckFault) → r ≡ joined s.plain.method wrong answer → IfOk r (PricedPreparedMeets set q s p)
    prepared_meets r is =
        let R : Result (Option ℕ) CheckFault → Type 0 = λ x. IfOk x (PricedPreparedMeets set q s p) in
        subst R (sym is)
        (met_for set q s p (joined s.plain.method wrong answer) (λ P earlier of h. let a = answers P of in
        joined_meets P set.timing (bounds_in set) q earlier s p a.fees ((of.coded s.plain.method).1 below) h a.are_fees wrong answer none least a.answers))

    pub prepared_fails : (r : Result (Option ℕ) CheckFault) → r ≡ joined s.plain.method wrong answer → IfErr r (PricedPreparedFails set q s p)
    prepared_fails r is =
        let R : Result (Option ℕ) CheckFault → Type 0 = λ x. IfErr x (PricedPreparedFails set q s p) in
        subst R (sym is)
        (fails_for set q s p (joined s.plain.method wrong answer) (λ P earlier of h. let a = answers P of in
        joined_fails P set.timing (bounds_in set) q earlier s p a.fees ((of.coded s.plain.method).1 below) h a.are_fees wrong answer none least a.answers))

-- the answer to the potentials, by the lists that are at hand
pub answers_for : {E : Type 0} (set : CheckSetting) (q : Pricing) (s : PricedSection) (p : Prepared) (costs bounds : List ℕ) (fees loads : List (Option ℕ)) (fs os : List PricedFact)
    (r : Result (Result (Option ℕ) SectionFault) E) → costs ≡ p.costs.items → bounds ≡ section_bounds (bounds_in set) s.plain → loads ≡ fees → fs ≡ own_facts q.facts s
    → os ≡ root_facts q s.plain.method → ((P : Program) → IsFlowOf P set.flow → AreEntryLoads P set.timing s.plain fees)
    → IfOk r (IsPaidAnswer p.graph costs (λ u. credit_of fs u + credit_of os u) s.plain.section bounds loads fs)
    → IfOk r (λ answer. (P : Program) → IsFlowOf P set.flow → PricedAnswersFor P set q s p answer)
answers_for set q s p costs bounds fees loads fs os (Err e) same_costs same_bounds same_loads same_facts same_others are h = tt
answers_for set q s p costs bounds fees loads fs os (Ok answer) same_costs same_bounds same_loads same_facts same_others are h =
    let S = s.plain.section in
    let B = section_bounds (bounds_in set) s.plain in
    let C : List ℕ → Type 0 = λ xs. IsPaidAnswer p.graph xs (λ u. credit_of fs u + credit_of os u) S bounds loads fs answer in
    let D : List ℕ → Type 0 = λ xs. IsPaidAnswer p.graph p.costs.items (λ u. credit_of fs u + credit_of os u) S xs loads fs answer in
    let L : List (Option ℕ) → Type 0 = λ xs. IsPaidAnswer p.graph p.costs.items (λ u. credit_of fs u + credit_of os u) S B xs fs answer in
    let F : List PricedFact → Type 0 = λ xs. IsPaidAnswer p.graph p.costs.items (λ u. credit_of xs u + credit_of os u) S B fees xs answer in
    let O : List PricedFact → Type 0 = λ xs. IsPaidAnswer p.graph p.costs.items (λ u. credit_of (own_facts q.facts s) u + credit_of xs u) S B fees (own_facts q.facts s) answer in
    let all = subst O same_others (subst F same_facts (subst L same_loads (subst D same_bounds (subst C same_costs h)))) in
    λ P of. record { fees = fees; are_fees = are P of; answers = all }
