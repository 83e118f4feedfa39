-- What is found of the sections and of the root is what the rules say of the certificate.
use Rattle.std.proofs.Common.{◌≡◌, ℕ, suc, ◌+◌, ◌<◌, ◌≤◌, List, [], ◌∷◌, ◌++◌, length, get_or, take, drop, drop-cons, Option, Some, None, refl, sym, ap, ◌∙◌, subst, arith}
use Rattle.std.specs.Prelude.{is_some}
use Rattle.std.proofs.lemmas.List.{take_more, take_all, take-append-drop}
use Rattle.bound_texts.specs.Loops.Bounds.{LoopBound}
use Rattle.node_costs.specs.Costs.{bounds_of}
use Rattle.certificates.specs.declared.cert.CertSection.{CertSection}
use Rattle.certificates.specs.Certificate.{Certificate}
use Rattle.bytecode_model.specs.Program.{Program, body_of}
use Rattle.method_flow.specs.Flow.{Flow, IsFlowOf}
use Rattle.method_flow.specs.Keeping.{BoundOf}
use Rattle.method_flow.specs.declared.timing.Timing.{Timing}
use Rattle.bound_rules.specs.declared.faults.CheckFault.{CheckFault}
use Rattle.bound_rules.specs.declared.faults.CheckFault.TheVariants.{Missing, Member, Edge, Exit, Region, NoMemory}
use Rattle.bound_rules.specs.Told.{Valued, section_value}
use Rattle.bound_rules.specs.Conditions.{MeetAll, MeetsConditions}
use Rattle.bound_rules.specs.Refused.{SectionFails, FailsLast, IsCertRefused, IsRefusedOrMemory}
use Rattle.bound_rules.specs.Refused.IsCertRefused.{in_section, at_end}
use Rattle.bound_rules.specs.Laws.{OneMoreMeets}
use Rattle.cert_checker.specs.Setting.{CheckSetting, SectionValues}
use Rattle.cert_checker.specs.Answer.{FailsAmong, Meets, Refuses}
use Rattle.cert_checker.specs.Section.{IsRightLast, AddsSection, AllMeetFor, SomeFailFor, FailsFor, LastFailsFor, LastMeetsFor, bounds_in}

-- ---- code

-- a method past the table has no code
pub no_code : (P : Program) (f : Flow) → IsFlowOf P f → (m : ℕ) → length f.methods ≤ m → body_of P m ≡ None
no_code P f of m past = by (body_of P m) refl
  where
    by : (o : Option _) → body_of P m ≡ o → body_of P m ≡ None
    by None e = e
    by (Some b) e = let below = (of.coded m).0 (ap is_some e) in absurd (omega arith)

-- ---- the certificate

pub meets_conditions : (P : Program) (t : Timing) (bound_of : BoundOf) (c : Certificate) (values : List Valued) → MeetAll P t bound_of [] c.sections values → IsRightLast P t values c → MeetsConditions P t bound_of c
meets_conditions P t bound_of c values sections last = record { values = values; sections = sections; coded = last.coded; full = last.full; says = last.says; right = last.right }

-- a section that fails, behind sections that meet their conditions
section_refused : (P : Program) (t : Timing) (bound_of : BoundOf) (c : Certificate) (fault : CheckFault) (ss : List CertSection) → ss ≡ c.sections → FailsAmong P t bound_of ss fault → IsCertRefused P t bound_of c fault
section_refused P t bound_of c fault ss same x = in_section x.before x.after x.section x.earlier (sym same ∙ x.split) x.meet x.fails

pub sections_refused : (P : Program) (set : CheckSetting) (c : Certificate) (fault : CheckFault) (ss : List CertSection) → IsFlowOf P set.flow → ss ≡ c.sections → SomeFailFor set ss fault → IsRefusedOrMemory P set.timing (bounds_in set) c fault
sections_refused P set c (Missing m) ss of same fails = section_refused P set.timing (bounds_in set) c (Missing m) ss same (fails P of)
sections_refused P set c (Member m u) ss of same fails = section_refused P set.timing (bounds_in set) c (Member m u) ss same (fails P of)
sections_refused P set c (Edge m u v) ss of same fails = section_refused P set.timing (bounds_in set) c (Edge m u v) ss same (fails P of)
sections_refused P set c (Exit m u) ss of same fails = section_refused P set.timing (bounds_in set) c (Exit m u) ss same (fails P of)
sections_refused P set c (Region m) ss of same fails = section_refused P set.timing (bounds_in set) c (Region m) ss same (fails P of)
sections_refused P set c NoMemory ss of same fails = tt

-- the root, or the last line
pub last_refused : (P : Program) (t : Timing) (bound_of : BoundOf) (c : Certificate) (fault : CheckFault) (values : List Valued) → MeetAll P t bound_of [] c.sections values → FailsLast P t values c fault
    → IsRefusedOrMemory P t bound_of c fault
last_refused P t bound_of c (Missing m) values meet fails = at_end values meet fails
last_refused P t bound_of c (Member m u) values meet fails = absurd fails
last_refused P t bound_of c (Edge m u v) values meet fails = absurd fails
last_refused P t bound_of c (Exit m u) values meet fails = absurd fails
last_refused P t bound_of c (Region m) values meet fails = at_end values meet fails
last_refused P t bound_of c NoMemory values meet fails = tt

-- ---- the sections one behind the other

-- with one more that meets its conditions
pub sections_more : OneMoreMeets → (set : CheckSetting) (ss : List CertSection) (i : ℕ) (s : CertSection) (old new : SectionValues) → i < length ss → s ≡ get_or ss i s → AllMeetFor set (take i ss) old.valued
    → AddsSection set s old new → AllMeetFor set (take (i + 1) ss) new.valued
sections_more one set ss i s old new below is meet adds =
    λ P of.
    let V : List Valued → Type 0 = λ vs. MeetAll P set.timing (bounds_in set) [] (take (i + 1) ss) vs in
    let Z : List CertSection → Type 0 = λ zs. MeetAll P set.timing (bounds_in set) [] zs (old.valued ++ section_value s adds.value ∷ []) in
    let taken = take_more ss i s below ∙ ap (λ (x : CertSection). take i ss ++ x ∷ []) (sym is) in
    subst V (sym (ap (λ (v : SectionValues). v.valued) adds.added)) (subst Z (sym taken) (one P set.timing (bounds_in set) [] (take i ss) old.valued s adds.value (meet P of) (adds.meets P of)))

-- with one more that fails
among : (set : CheckSetting) (ss : List CertSection) (i : ℕ) (s : CertSection) (valued : List Valued) (fault : CheckFault) → i < length ss → s ≡ get_or ss i s → AllMeetFor set (take i ss) valued
    → ((P : Program) → IsFlowOf P set.flow → SectionFails P set.timing (bounds_in set) valued s fault) → (P : Program) → IsFlowOf P set.flow → FailsAmong P set.timing (bounds_in set) ss fault
among set ss i s valued fault below is meet fails =
    λ P of. record {
      before = take i ss;
      after = drop (suc i) ss;
      section = s;
      earlier = valued;
      split = sym (take-append-drop i ss) ∙ ap (λ (zs : List CertSection). take i ss ++ zs) (drop-cons ss i s below ∙ ap (λ (x : CertSection). x ∷ drop (suc i) ss) (sym is));
      meet = meet P of;
      fails = fails P of;
    }

pub section_fails : (set : CheckSetting) (ss : List CertSection) (i : ℕ) (s : CertSection) (valued : List Valued) (fault : CheckFault) → i < length ss → s ≡ get_or ss i s → AllMeetFor set (take i ss) valued
    → FailsFor set valued s fault → SomeFailFor set ss fault
section_fails set ss i s valued (Missing m) below is meet fails = among set ss i s valued (Missing m) below is meet fails
section_fails set ss i s valued (Member m u) below is meet fails = among set ss i s valued (Member m u) below is meet fails
section_fails set ss i s valued (Edge m u v) below is meet fails = among set ss i s valued (Edge m u v) below is meet fails
section_fails set ss i s valued (Exit m u) below is meet fails = among set ss i s valued (Exit m u) below is meet fails
section_fails set ss i s valued (Region m) below is meet fails = among set ss i s valued (Region m) below is meet fails
section_fails set ss i s valued NoMemory below is meet fails = tt

pub all_sections : (set : CheckSetting) (ss : List CertSection) (i : ℕ) (valued : List Valued) → length ss ≤ i → AllMeetFor set (take i ss) valued → AllMeetFor set ss valued
all_sections set ss i valued past meet = let Z : List CertSection → Type 0 = λ zs. AllMeetFor set zs valued in subst Z (take_all i ss past) meet

-- ---- by the parts of what is known

at_parts : (set : CheckSetting) (f : Flow) (b : List LoopBound) (t : Timing) (Q : Flow → BoundOf → Timing → Type 0) → set.flow ≡ f → set.bounds ≡ b → set.timing ≡ t → Q set.flow (bounds_in set) set.timing → Q f (bounds_of f b) t
at_parts set f b t Q same_flow same_bounds same_timing h =
    let B : List LoopBound → Type 0 = λ x. Q set.flow (bounds_of set.flow x) set.timing in
    let T : Timing → Type 0 = λ x. Q set.flow (bounds_of set.flow b) x in
    let F : Flow → Type 0 = λ x. Q x (bounds_of x b) t in
    subst F same_flow (subst T same_timing (subst B same_bounds h))

module _ (set : CheckSetting) (f : Flow) (b : List LoopBound) (t : Timing) (c : Certificate) (parts : (set.flow ≡ f) × (set.bounds ≡ b) × (set.timing ≡ t)) where
  pub sections_refuse : (fault : CheckFault) (ss : List CertSection) → ss ≡ c.sections → SomeFailFor set ss fault → Refuses f (bounds_of f b) t c fault
  sections_refuse fault ss same fails =
      at_parts set f b t (λ f B t. Refuses f B t c fault) parts.0 parts.1 parts.2
      (λ P of. sections_refused P set c fault ss of same fails)

  module _ (ss : List CertSection) (same : ss ≡ c.sections) (valued : List Valued) (meet : AllMeetFor set ss valued) where
    sections_meet : AllMeetFor set c.sections valued
    sections_meet = let Z : List CertSection → Type 0 = λ zs. AllMeetFor set zs valued in subst Z same meet

    pub last_refuses : (fault : CheckFault) → LastFailsFor set valued c fault → Refuses f (bounds_of f b) t c fault
    last_refuses fault fails =
        at_parts set f b t (λ f B t. Refuses f B t c fault) parts.0 parts.1 parts.2
        (λ P of. last_refused P set.timing (bounds_in set) c fault valued (sections_meet P of) (fails P of))

    pub all_meet : LastMeetsFor set valued c → Meets f (bounds_of f b) t c
    all_meet last = at_parts set f b t (λ f B t. Meets f B t c) parts.0 parts.1 parts.2 (λ P of. meets_conditions P set.timing (bounds_in set) c valued (sections_meet P of) (last P of))
