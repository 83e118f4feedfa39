-- The answer to a section by the answer to its potentials, the nodes beside them, and what is prepared.
use Rattle.std.proofs.Common.{◌≡◌, ℕ, ◌<◌, Bool, true, false, List, length, Option, Some, None, IsSome, Result, Ok, Err, IfOk, IfErr, refl, sym, subst, inl, inr}
use Rattle.std.proofs.lemmas.Bool.{both_ways}
use Rattle.section_check.specs.Least.{IsLeast, lesser_of}
use Rattle.section_check.specs.Placing.{IsMisplaced}
use Rattle.section_check.specs.Conditions.{IsSectionAnswer}
use Rattle.section_check.specs.declared.section.SectionFault.{SectionFault}
use Rattle.section_check.specs.declared.section.SectionFault.TheVariants as faults
use Rattle.certificates.specs.declared.cert.CertSection.{CertSection}
use Rattle.bytecode_model.specs.Program.{Program, body_of}
use Rattle.method_flow.specs.Keeping.{BoundOf}
use Rattle.method_flow.specs.declared.timing.Timing.{Timing}
use Rattle.flow_graph.specs.Reach.{flag_at}
use Rattle.bound_rules.specs.Told.{Valued}
use Rattle.bound_rules.specs.Sections.{AreEntryLoads, IsLacking, IsNoNode, MeetsSection, SectionView, section_bounds}
use Rattle.bound_rules.specs.Refused.{IsWrong}
use Rattle.cert_checker.specs.Prepared.{IsPrepared, IsUnflagged}
use Rattle.cert_checker.specs.Answer.{FailsOrMemory, joined}
use Rattle.method_flow.specs.Flow.{IsFlowOf}
use Rattle.bound_rules.specs.declared.faults.CheckFault.{CheckFault}
use Rattle.bound_rules.specs.Refused.{FailsAtTarget}
use Rattle.cert_checker.specs.Setting.{CheckSetting}
use Rattle.cert_checker.specs.Section.{AnswersFor, IsWrongBeside, PreparedMeets, PreparedFails, bounds_in}
use Rattle.cert_checker.specs.declared.prepared.Prepared.{Prepared}
use Rattle.section_check.proofs.LeastLemmas.{least_either}

bool_false : (b : Bool) → (b ≡ true → ⊥) → b ≡ false
bool_false true not = elim (not refl) [ ]
bool_false false not = refl

-- what a section is checked with, by what is prepared and its fees
abbrev pub view_of : (P : Program) (t : Timing) (earlier : List Valued) (s : CertSection) (p : Prepared) (fees : List (Option ℕ)) → IsSome (body_of P s.method) → IsPrepared P t earlier s p → AreEntryLoads P t s fees
    → SectionView P t earlier s
view_of P t earlier s p fees coded h are = record {
  coded = coded;
  told = h.told;
  are_told = h.by.are_told;
  graph = p.graph;
  is_graph = h.by.graph;
  costs = p.costs.items;
  are_costs = h.by.costs;
  fees = fees;
  are_fees = are;
}

no_node : (P : Program) (t : Timing) (earlier : List Valued) (s : CertSection) (p : Prepared) → (h : IsPrepared P t earlier s p) → (u : ℕ) → IsUnflagged s.section p.nodes.items u → IsNoNode P s h.told u
no_node P t earlier s p h u un = record {
  said = un.0;
  none =
      λ n reached same.
      both_ways (flag_at p.nodes.items u) un.1 ((h.by.nodes u).1 (n, reached, same));
}

unflagged : (P : Program) (t : Timing) (earlier : List Valued) (s : CertSection) (p : Prepared) → (h : IsPrepared P t earlier s p) → (u : ℕ) → IsNoNode P s h.told u → IsUnflagged s.section p.nodes.items u
unflagged P t earlier s p h u nn =
    (nn.said, bool_false (flag_at p.nodes.items u) (λ yes. let node = (h.by.nodes u).0 yes in nn.none node.0 node.1 node.2))

-- the least wrong node is the lesser of the least that is misplaced and the least beside
wrong_least : (P : Program) (t : Timing) (bound_of : BoundOf) (earlier : List Valued) (s : CertSection) (p : Prepared) (fees : List (Option ℕ)) (coded : IsSome (body_of P s.method)) (h : IsPrepared P t earlier s p)
    (are : AreEntryLoads P t s fees) (beside misplaced : Option ℕ) → IsLeast (IsWrongBeside bound_of s p.nodes.items) beside → IsLeast (IsMisplaced p.graph s.section (section_bounds bound_of s) fees) misplaced
    → IsLeast (IsWrong bound_of (view_of P t earlier s p fees coded h are)) (lesser_of beside misplaced)
wrong_least P t bound_of earlier s p fees coded h are beside misplaced hb hm =
    least_either (IsWrongBeside bound_of s p.nodes.items) (IsMisplaced p.graph s.section (section_bounds bound_of s) fees) (IsWrong bound_of (view_of P t earlier s p fees coded h are)) beside misplaced
    (λ u w. elim w [ inl un ↦ inr (inl (no_node P t earlier s p h u un)) | inr lacks ↦ inr (inr lacks) ])
    (λ u m. inl m)
    (λ u w. elim w [ inl m ↦ inr m | inr rest ↦ elim rest [ inl nn ↦ inl (inl (unflagged P t earlier s p h u nn)) | inr lacks ↦ inl (inr lacks) ] ])
    hb hm

-- where nn node is wrong and the potentials are accepted, the section meets its conditions
pub joined_meets : (P : Program) (t : Timing) (bound_of : BoundOf) (earlier : List Valued) (s : CertSection) (p : Prepared) (fees : List (Option ℕ)) (coded : IsSome (body_of P s.method)) (h : IsPrepared P t earlier s p)
    (are : AreEntryLoads P t s fees) (wrong : Option ℕ) (answer : Result (Option ℕ) SectionFault) → p.absent ≡ None → IsLeast (IsWrongBeside bound_of s p.nodes.items) wrong
    → IsSectionAnswer p.graph p.costs.items s.section (section_bounds bound_of s) fees answer → IfOk (joined s.method wrong answer) (MeetsSection P t bound_of earlier s)
joined_meets P t bound_of earlier s p fees coded h are None (Ok value) absent hb a =
    let none = wrong_least P t bound_of earlier s p fees coded h are None None hb a.0.placed in
    record {
      view = view_of P t earlier s p fees coded h are;
      present = subst (IsLeast (IsLacking P s.method h.told)) absent h.by.absent;
      nodes = λ u no. none u (inr (inl no));
      bounded = λ u lacks. none u (inr (inr lacks));
      accepted = a.0;
      is = a.1;
    }
joined_meets P t bound_of earlier s p fees coded h are None (Err (faults.Member u)) absent hb a = tt
joined_meets P t bound_of earlier s p fees coded h are None (Err (faults.Edge u v)) absent hb a = tt
joined_meets P t bound_of earlier s p fees coded h are None (Err (faults.Exit u)) absent hb a = tt
joined_meets P t bound_of earlier s p fees coded h are (Some w) (Ok value) absent hb a = tt
joined_meets P t bound_of earlier s p fees coded h are (Some w) (Err (faults.Member u)) absent hb a = tt
joined_meets P t bound_of earlier s p fees coded h are (Some w) (Err (faults.Edge u v)) absent hb a = tt
joined_meets P t bound_of earlier s p fees coded h are (Some w) (Err (faults.Exit u)) absent hb a = tt

-- else it fails as is answered
pub joined_fails : (P : Program) (t : Timing) (bound_of : BoundOf) (earlier : List Valued) (s : CertSection) (p : Prepared) (fees : List (Option ℕ)) (coded : IsSome (body_of P s.method)) (h : IsPrepared P t earlier s p)
    (are : AreEntryLoads P t s fees) (wrong : Option ℕ) (answer : Result (Option ℕ) SectionFault) → p.absent ≡ None → IsLeast (IsWrongBeside bound_of s p.nodes.items) wrong
    → IsSectionAnswer p.graph p.costs.items s.section (section_bounds bound_of s) fees answer → IfErr (joined s.method wrong answer) (FailsOrMemory P t bound_of earlier s)
joined_fails P t bound_of earlier s p fees coded h are None (Ok value) absent hb a = tt
joined_fails P t bound_of earlier s p fees coded h are None (Err (faults.Member u)) absent hb a =
    (refl, record { view = view_of P t earlier s p fees coded h are; present = subst (IsLeast (IsLacking P s.method h.told)) absent h.by.absent; least = wrong_least P t bound_of earlier s p fees coded h are None (Some u) hb (a.misplaced, a.first) })
joined_fails P t bound_of earlier s p fees coded h are None (Err (faults.Edge u v)) absent hb a =
    (refl, record { view = view_of P t earlier s p fees coded h are; present = subst (IsLeast (IsLacking P s.method h.told)) absent h.by.absent; placed = wrong_least P t bound_of earlier s p fees coded h are None None hb a.0; first = a.1 })
joined_fails P t bound_of earlier s p fees coded h are None (Err (faults.Exit u)) absent hb a =
    (refl, record { view = view_of P t earlier s p fees coded h are; present = subst (IsLeast (IsLacking P s.method h.told)) absent h.by.absent; placed = wrong_least P t bound_of earlier s p fees coded h are None None hb a.0; edges = a.1; first = a.2 })
joined_fails P t bound_of earlier s p fees coded h are (Some w) (Ok value) absent hb a =
    (refl, record { view = view_of P t earlier s p fees coded h are; present = subst (IsLeast (IsLacking P s.method h.told)) absent h.by.absent; least = wrong_least P t bound_of earlier s p fees coded h are (Some w) None hb a.0.placed })
joined_fails P t bound_of earlier s p fees coded h are (Some w) (Err (faults.Member u)) absent hb a =
    (refl, record { view = view_of P t earlier s p fees coded h are; present = subst (IsLeast (IsLacking P s.method h.told)) absent h.by.absent; least = wrong_least P t bound_of earlier s p fees coded h are (Some w) (Some u) hb (a.misplaced, a.first) })
joined_fails P t bound_of earlier s p fees coded h are (Some w) (Err (faults.Edge u v)) absent hb a =
    (refl, record { view = view_of P t earlier s p fees coded h are; present = subst (IsLeast (IsLacking P s.method h.told)) absent h.by.absent; least = wrong_least P t bound_of earlier s p fees coded h are (Some w) None hb a.0 })
joined_fails P t bound_of earlier s p fees coded h are (Some w) (Err (faults.Exit u)) absent hb a =
    (refl, record { view = view_of P t earlier s p fees coded h are; present = subst (IsLeast (IsLacking P s.method h.told)) absent h.by.absent; least = wrong_least P t bound_of earlier s p fees coded h are (Some w) None hb a.0 })

-- ---- for each program of the table

met_for : (set : CheckSetting) (s : CertSection) (p : Prepared) (r : Result (Option ℕ) CheckFault)
    → ((P : Program) (earlier : List Valued) → IsFlowOf P set.flow → IsPrepared P set.timing earlier s p → IfOk r (MeetsSection P set.timing (bounds_in set) earlier s)) → IfOk r (PreparedMeets set s p)
met_for set s p (Ok value) h = h
met_for set s p (Err fault) h = tt

fails_for : (set : CheckSetting) (s : CertSection) (p : Prepared) (r : Result (Option ℕ) CheckFault)
    → ((P : Program) (earlier : List Valued) → IsFlowOf P set.flow → IsPrepared P set.timing earlier s p → IfErr r (FailsOrMemory P set.timing (bounds_in set) earlier s)) → IfErr r (PreparedFails set s p)
fails_for set s p (Ok value) h = tt
fails_for set s p (Err fault) h = h

module _ (set : CheckSetting) (s : CertSection) (p : Prepared) (answer : Result (Option ℕ) SectionFault) (below : s.method < length set.flow.methods) (answers : (P : Program) → IsFlowOf P set.flow → AnswersFor P set s p answer) where
  -- x is the least absent method that an invoke among the nodes may run
  pub missing_fails : (x : ℕ) → p.absent ≡ Some x → (P : Program) (earlier : List Valued) → IsFlowOf P set.flow → IsPrepared P set.timing earlier s p → FailsAtTarget P set.timing earlier s x
  missing_fails x is P earlier of h =
      let a = answers P of in
      record { view = view_of P set.timing earlier s p a.fees ((of.coded s.method).1 below) h a.are_fees; least = subst (IsLeast (IsLacking P s.method h.told)) is h.by.absent }

  module _ (wrong : Option ℕ) (flags : List Bool) (same : flags ≡ p.nodes.items) (none : p.absent ≡ None) (beside : IsLeast (IsWrongBeside (bounds_in set) s flags) wrong) where
    least : IsLeast (IsWrongBeside (bounds_in set) s p.nodes.items) wrong
    least = let L : List Bool → Type 0 = λ fs. IsLeast (IsWrongBeside (bounds_in set) s fs) wrong in subst L same beside

    pub prepared_meets : (r : Result (Option ℕ) CheckFault) → r ≡ joined s.method wrong answer → IfOk r (PreparedMeets set s p)
    prepared_meets r is =
        let R : Result (Option ℕ) CheckFault → Type 0 = λ x. IfOk x (PreparedMeets set s p) in
        subst R (sym is)
        (met_for set s p (joined s.method wrong answer) (λ P earlier of h. let a = answers P of in
        joined_meets P set.timing (bounds_in set) earlier s p a.fees ((of.coded s.method).1 below) h a.are_fees wrong answer none least a.answers))

    pub prepared_fails : (r : Result (Option ℕ) CheckFault) → r ≡ joined s.method wrong answer → IfErr r (PreparedFails set s p)
    prepared_fails r is =
        let R : Result (Option ℕ) CheckFault → Type 0 = λ x. IfErr x (PreparedFails set s p) in
        subst R (sym is)
        (fails_for set s p (joined s.method wrong answer) (λ P earlier of h. let a = answers P of in
        joined_fails P set.timing (bounds_in set) earlier s p a.fees ((of.coded s.method).1 below) h a.are_fees wrong answer none least a.answers))

-- the answer to the potentials, by the lists that are at hand
pub answers_for : {E : Type 0} (set : CheckSetting) (s : CertSection) (p : Prepared) (costs bounds : List ℕ) (fees loads : List (Option ℕ)) (r : Result (Result (Option ℕ) SectionFault) E) → costs ≡ p.costs.items
    → bounds ≡ section_bounds (bounds_in set) s → loads ≡ fees → ((P : Program) → IsFlowOf P set.flow → AreEntryLoads P set.timing s fees) → IfOk r (IsSectionAnswer p.graph costs s.section bounds loads)
    → IfOk r (λ answer. (P : Program) → IsFlowOf P set.flow → AnswersFor P set s p answer)
answers_for set s p costs bounds fees loads (Err e) same_costs same_bounds same_fees are h = tt
answers_for set s p costs bounds fees loads (Ok answer) same_costs same_bounds same_fees are h =
    let C : List ℕ → Type 0 = λ xs. IsSectionAnswer p.graph xs s.section bounds loads answer in
    let B : List ℕ → Type 0 = λ xs. IsSectionAnswer p.graph p.costs.items s.section xs loads answer in
    let F : List (Option ℕ) → Type 0 = λ xs. IsSectionAnswer p.graph p.costs.items s.section (section_bounds (bounds_in set) s) xs answer in
    λ P of. record { fees = fees; are_fees = are P of; answers = subst F same_fees (subst B same_bounds (subst C same_costs h)) }
