-- A certificate has one fault at most, and none where it meets the conditions.
use Rattle.std.proofs.Common.{◌≡◌, ℕ, ◌<◌, ◌⊎◌, true, false, List, [], ◌∷◌, ◌++◌, Contains, Option, Some, None, slice_index, sym, ap, ap₂, ◌∙◌, subst, inl, inr, IsSome, arith}
use Rattle.std.proofs.lemmas.Bool.{cases_lt}
use Rattle.lists.specs.Members.{heads, tails}
use Rattle.loop_nest.specs.Digraph.{Edge, IsBefore}
use Rattle.section_check.specs.Section.{potential}
use Rattle.section_check.specs.Placing.{IsMisplaced}
use Rattle.section_check.specs.Placing.IsMisplaced.{lists_no_node, holds_no_node, heads_faulty, enters_aside, holds_entry, exceeds_limit}
use Rattle.section_check.specs.Conditions.{DescendsFrom, CoversCost, EdgeHolds, ExitHolds, EdgesHold, value_of}
use Rattle.section_check.specs.Section.{headed_by}
use Rattle.section_check.specs.Least.{IsLeast}
use Rattle.certificates.specs.declared.cert.CertSection.{CertSection}
use Rattle.certificates.specs.Certificate.{Certificate}
use Rattle.bytecode_model.specs.Program.{Program, body_of}
use Rattle.method_flow.specs.Keeping.{BoundOf}
use Rattle.method_flow.specs.declared.timing.Timing.{Timing}
use Rattle.bound_rules.specs.declared.faults.CheckFault.{CheckFault}
use Rattle.bound_rules.specs.declared.faults.CheckFault.TheVariants as faults
use Rattle.bound_rules.specs.Told.{Valued, section_value}
use Rattle.bound_rules.specs.Sections.{SectionView, IsLacking, MeetsSection, section_bounds, section_loops}
use Rattle.bound_rules.specs.Conditions.{MeetAll, IsRight, MeetsConditions}
use Rattle.bound_rules.specs.Refused.{IsWrong, NoneLacks, NoneIsWrong, FailsAtTarget, FailsAtNode, FailsAtEdge, FailsAtExit, SectionFails, FailsLast}
use Rattle.bound_rules.specs.Refused.IsCertRefused.{in_section, at_end}
use Rattle.bound_rules.specs.Laws.{FaultsAreOne, RefusedIsNotMet}
use Rattle.bound_rules.proofs.Views.{same_full, same_fees, edges_too, exits_too, same_size, same_cost, node_too, lacks_too}

-- ---- what is least

compared : (u v : ℕ) → (u < v) ⊎ ((v < u) ⊎ (u ≡ v))
compared u v =
    elim (cases_lt u v) [
      | inl less ↦ inl less
      | inr not_less ↦ elim (cases_lt v u) [ inl more ↦ inr (inl more) | inr not_more ↦ inr (inr (omega arith)) ]
    ]

ordered : (u v x y : ℕ) → IsBefore (u, v) (x, y) ⊎ (IsBefore (x, y) (u, v) ⊎ ((u ≡ x) × (v ≡ y)))
ordered u v x y =
    elim (compared u x) [
      | inl less ↦ inl (inl less)
      | inr other ↦
          elim other [
            | inl more ↦ inr (inl (inl more))
            | inr same ↦
                elim (compared v y) [
                  | inl less ↦ inl (inr (same, less))
                  | inr other' ↦ elim other' [ inl more ↦ inr (inl (inr (sym same, more))) | inr same' ↦ inr (inr (same, same')) ]
                ]
          ]
    ]

-- the least number with a property, and with one that implies it and is implied
one_least : (K L : ℕ → Type 0) → ((u : ℕ) → K u → L u) → ((u : ℕ) → L u → K u) → (u v : ℕ) → IsLeast K (Some u) → IsLeast L (Some v) → u ≡ v
one_least K L to from u v a b =
    elim (compared u v) [
      | inl less ↦ absurd (b.1 u less (to u a.0))
      | inr other ↦ elim other [ inl more ↦ absurd (a.1 v more (from v b.0)) | inr same ↦ same ]
    ]

-- ---- a section

module _ (P : Program) (t : Timing) (bound_of : BoundOf) (earlier : List Valued) (s : CertSection) where
  misplaced_too : (h k : SectionView P t earlier s) (u : ℕ) → IsMisplaced h.graph s.section (section_bounds bound_of s) h.fees u → IsMisplaced k.graph s.section (section_bounds bound_of s) k.fees u
  misplaced_too h k u m = subst (λ (fees : List (Option ℕ)). IsMisplaced k.graph s.section (section_bounds bound_of s) fees u) (same_fees P t earlier s h k) (by m)
    where
      by : IsMisplaced h.graph s.section (section_bounds bound_of s) h.fees u → IsMisplaced k.graph s.section (section_bounds bound_of s) h.fees u
      by (lists_no_node listed past) = lists_no_node listed (let same = same_size P t earlier s h k in omega arith)
      by (holds_no_node held past) = holds_no_node held (let same = same_size P t earlier s h k in omega arith)
      by (heads_faulty heads) = heads_faulty heads
      by (enters_aside v e enters) = enters_aside v (edges_too P t earlier s h k u v e) enters
      by (holds_entry zero' holds) = holds_entry zero' holds
      by (exceeds_limit zero' exceeds) = exceeds_limit zero' exceeds

  wrong_too : (h k : SectionView P t earlier s) (u : ℕ) → IsWrong bound_of h u → IsWrong bound_of k u
  wrong_too h k u (inl m) = inl (misplaced_too h k u m)
  wrong_too h k u (inr (inl no_node)) = inr (inl (record { said = no_node.said; none = λ n node. no_node.none n (node_too P t earlier s k h node) }))
  wrong_too h k u (inr (inr lacks)) = inr (inr lacks)

  -- an edge's condition holds in each view
  edge_holds_too : (h k : SectionView P t earlier s) (u v : ℕ) → Edge h.graph u v → EdgeHolds h.costs s.section (section_loops bound_of s h.fees) u v → EdgeHolds k.costs s.section (section_loops bound_of s k.fees) u v
  edge_holds_too h k u v e holds =
      let r = (h.is_graph.edges u v).0 e in
      let at = same_cost P t earlier s h k r.source r.reached in
      let cost : slice_index h.costs u ≡ slice_index k.costs u = ap (λ (n : ℕ). slice_index h.costs n) r.numbered.0 ∙ (at ∙ sym (ap (λ (n : ℕ). slice_index k.costs n) r.numbered.0)) in
      let K : ℕ → Type 0 = λ c. DescendsFrom (headed_by v (section_loops bound_of s h.fees)) c u (potential s.section.nodes u) (potential s.section.nodes v) in
      let L : List (Option ℕ) → Type 0 = λ fees. DescendsFrom (headed_by v (section_loops bound_of s fees)) (slice_index k.costs u) u (potential s.section.nodes u) (potential s.section.nodes v) in
      subst L (same_fees P t earlier s h k) (subst K cost holds)

  exit_holds_too : (h k : SectionView P t earlier s) (u : ℕ) → Contains h.graph.exits u → ExitHolds h.costs s.section u → ExitHolds k.costs s.section u
  exit_holds_too h k u e holds =
      let r = (h.is_graph.exits u).0 e in
      let at = same_cost P t earlier s h k r.node r.reached in
      let cost : slice_index h.costs u ≡ slice_index k.costs u = ap (λ (n : ℕ). slice_index h.costs n) r.numbered ∙ (at ∙ sym (ap (λ (n : ℕ). slice_index k.costs n) r.numbered)) in
      subst (λ (c : ℕ). CoversCost c (potential s.section.nodes u)) cost holds

  -- ---- one fault after another

  one_target : (x y : ℕ) → FailsAtTarget P t earlier s x → FailsAtTarget P t earlier s y → x ≡ y
  one_target x y a b = one_least (IsLacking P s.method a.view.told) (IsLacking P s.method b.view.told) (lacks_too P t earlier s a.view b.view) (lacks_too P t earlier s b.view a.view) x y a.least b.least

  one_node : (u v : ℕ) → FailsAtNode P t bound_of earlier s u → FailsAtNode P t bound_of earlier s v → u ≡ v
  one_node u v a b = one_least (IsWrong bound_of a.view) (IsWrong bound_of b.view) (wrong_too a.view b.view) (wrong_too b.view a.view) u v a.least b.least

  one_edge : (u v x y : ℕ) → FailsAtEdge P t bound_of earlier s u v → FailsAtEdge P t bound_of earlier s x y → (u ≡ x) × (v ≡ y)
  one_edge u v x y a b =
      let here = edges_too P t earlier s a.view b.view u v a.first.edge in
      let there = edges_too P t earlier s b.view a.view x y b.first.edge in
      elim (ordered u v x y) [
        | inl before ↦ absurd (a.first.fails (edge_holds_too b.view a.view u v here (b.first.first u v here before)))
        | inr other ↦ elim other [ inl behind ↦ absurd (b.first.fails (edge_holds_too a.view b.view x y there (a.first.first x y there behind))) | inr same ↦ same ]
      ]

  one_exit : (u v : ℕ) → FailsAtExit P t bound_of earlier s u → FailsAtExit P t bound_of earlier s v → u ≡ v
  one_exit u v a b =
      let here = exits_too P t earlier s a.view b.view u a.first.exit in
      let there = exits_too P t earlier s b.view a.view v b.first.exit in
      elim (compared u v) [
        | inl less ↦ absurd (a.first.fails (exit_holds_too b.view a.view u here (b.first.first u here less)))
        | inr other ↦ elim other [ inl more ↦ absurd (b.first.fails (exit_holds_too a.view b.view v there (a.first.first v there more))) | inr same ↦ same ]
      ]

  -- ---- what fails at one place holds at another

  -- what a fault at a target says against a view in which none is absent
  target_apart : (x : ℕ) → FailsAtTarget P t earlier s x → (k : SectionView P t earlier s) → NoneLacks k → ⊥
  target_apart x a k present = present x (lacks_too P t earlier s a.view k x a.least.0)

  node_apart : (u : ℕ) → FailsAtNode P t bound_of earlier s u → (k : SectionView P t earlier s) → NoneIsWrong bound_of k → ⊥
  node_apart u a k placed = placed u (wrong_too a.view k u a.least.0)

  edge_apart : (u v : ℕ) → FailsAtEdge P t bound_of earlier s u v → (k : SectionView P t earlier s) → EdgesHold k.graph k.costs s.section (section_loops bound_of s k.fees) → ⊥
  edge_apart u v a k hold = let there = edges_too P t earlier s a.view k u v a.first.edge in a.first.fails (edge_holds_too k a.view u v there (hold u v there))

  no_body : {X : Type 0} (o : Option X) → o ≡ None → IsSome o → ⊥
  no_body None is some = let bad : false ≡ true = some in cc
  no_body (Some x) is some = cc

  uncoded : body_of P s.method ≡ None → (k : SectionView P t earlier s) → ⊥
  uncoded none k = no_body (body_of P s.method) none k.coded

  -- ---- a section has one fault

  one_fault : (a b : CheckFault) → SectionFails P t bound_of earlier s a → SectionFails P t bound_of earlier s b → a ≡ b
  one_fault (faults.Missing x) (faults.Missing y) (inl a) (inl b) = ap (λ (z : ℕ). faults.Missing z) (a.0 ∙ sym b.0)
  one_fault (faults.Missing x) (faults.Missing y) (inl a) (inr b) = absurd (uncoded a.1 b.view)
  one_fault (faults.Missing x) (faults.Missing y) (inr a) (inl b) = absurd (uncoded b.1 a.view)
  one_fault (faults.Missing x) (faults.Missing y) (inr a) (inr b) = ap (λ (z : ℕ). faults.Missing z) (one_target x y a b)
  one_fault (faults.Missing x) (faults.Member m u) (inl a) b = absurd (uncoded a.1 b.1.view)
  one_fault (faults.Missing x) (faults.Member m u) (inr a) b = absurd (target_apart x a b.1.view b.1.present)
  one_fault (faults.Missing x) (faults.Edge m u v) (inl a) b = absurd (uncoded a.1 b.1.view)
  one_fault (faults.Missing x) (faults.Edge m u v) (inr a) b = absurd (target_apart x a b.1.view b.1.present)
  one_fault (faults.Missing x) (faults.Exit m u) (inl a) b = absurd (uncoded a.1 b.1.view)
  one_fault (faults.Missing x) (faults.Exit m u) (inr a) b = absurd (target_apart x a b.1.view b.1.present)
  one_fault (faults.Member m u) (faults.Missing x) a (inl b) = absurd (uncoded b.1 a.1.view)
  one_fault (faults.Member m u) (faults.Missing x) a (inr b) = absurd (target_apart x b a.1.view a.1.present)
  one_fault (faults.Member m u) (faults.Member n v) a b = ap₂ (λ (z w : ℕ). faults.Member z w) (a.0 ∙ sym b.0) (one_node u v a.1 b.1)
  one_fault (faults.Member m u) (faults.Edge n x y) a b = absurd (node_apart u a.1 b.1.view b.1.placed)
  one_fault (faults.Member m u) (faults.Exit n v) a b = absurd (node_apart u a.1 b.1.view b.1.placed)
  one_fault (faults.Edge m u v) (faults.Missing x) a (inl b) = absurd (uncoded b.1 a.1.view)
  one_fault (faults.Edge m u v) (faults.Missing x) a (inr b) = absurd (target_apart x b a.1.view a.1.present)
  one_fault (faults.Edge m u v) (faults.Member n x) a b = absurd (node_apart x b.1 a.1.view a.1.placed)
  one_fault (faults.Edge m u v) (faults.Edge n x y) a b = let same = one_edge u v x y a.1 b.1 in cc (a.0, b.0, same.0, same.1)
  one_fault (faults.Edge m u v) (faults.Exit n x) a b = absurd (edge_apart u v a.1 b.1.view b.1.edges)
  one_fault (faults.Exit m u) (faults.Missing x) a (inl b) = absurd (uncoded b.1 a.1.view)
  one_fault (faults.Exit m u) (faults.Missing x) a (inr b) = absurd (target_apart x b a.1.view a.1.present)
  one_fault (faults.Exit m u) (faults.Member n v) a b = absurd (node_apart v b.1 a.1.view a.1.placed)
  one_fault (faults.Exit m u) (faults.Edge n x y) a b = absurd (edge_apart x y b.1 a.1.view a.1.edges)
  one_fault (faults.Exit m u) (faults.Exit n v) a b = ap₂ (λ (z w : ℕ). faults.Exit z w) (a.0 ∙ sym b.0) (one_exit u v a.1 b.1)
  one_fault (faults.Region m) b x y = absurd x
  one_fault faults.NoMemory b x y = absurd x
  one_fault a (faults.Region m) x y = absurd y
  one_fault a faults.NoMemory x y = absurd y

  -- ---- one that meets its conditions has none, and has one value

  meets_none : (value : Option ℕ) → (h : MeetsSection P t bound_of earlier s value) → (fault : CheckFault) → SectionFails P t bound_of earlier s fault → ⊥
  meets_none value h (faults.Missing x) (inl a) = uncoded a.1 h.view
  meets_none value h (faults.Missing x) (inr a) = target_apart x a h.view h.present
  meets_none value h (faults.Member m u) a = node_apart u a.1 h.view (λ v wrong. none_wrong v wrong)
    where
      none_wrong : (v : ℕ) → IsWrong bound_of h.view v → ⊥
      none_wrong v (inl misplaced) = h.accepted.placed v misplaced
      none_wrong v (inr (inl no_node)) = h.nodes v no_node
      none_wrong v (inr (inr lacks)) = h.bounded v lacks
  meets_none value h (faults.Edge m u v) a = edge_apart u v a.1 h.view h.accepted.edges
  meets_none value h (faults.Exit m u) a =
      let there = exits_too P t earlier s a.1.view h.view u a.1.first.exit in a.1.first.fails (exit_holds_too h.view a.1.view u there (h.accepted.exits u there))
  meets_none value h (faults.Region m) a = a
  meets_none value h faults.NoMemory a = a

  one_value : (v w : Option ℕ) → MeetsSection P t bound_of earlier s v → MeetsSection P t bound_of earlier s w → v ≡ w
  one_value v w a b = a.is ∙ (ap (λ (fees : List (Option ℕ)). value_of s.section (section_loops bound_of s fees)) (same_fees P t earlier s a.view b.view) ∙ sym b.is)

-- ---- all sections

module _ (P : Program) (t : Timing) (bound_of : BoundOf) where
  moved_earlier : (earlier : List Valued) (s : CertSection) (v w : Option ℕ) (ss : List CertSection) (values : List Valued) → v ≡ w
      → MeetAll P t bound_of (earlier ++ section_value s v ∷ []) ss values → MeetAll P t bound_of (earlier ++ section_value s w ∷ []) ss values
  moved_earlier earlier s v w ss values same all = subst (λ (x : Option ℕ). MeetAll P t bound_of (earlier ++ section_value s x ∷ []) ss values) same all

  same_values : (earlier : List Valued) (ss : List CertSection) (a b : List Valued) → MeetAll P t bound_of earlier ss a → MeetAll P t bound_of earlier ss b → a ≡ b
  same_values earlier [] a b is is' = is ∙ sym is'
  same_values earlier (s ∷ ss) a b (v, meets, more) (w, meets', more') =
      same_values (earlier ++ section_value s w ∷ []) ss a b (moved_earlier earlier s v w ss a (one_value P t bound_of earlier s v w meets meets') more) more'

  fails_there : (s s' : CertSection) (e e' : List Valued) (fault : CheckFault) → s ≡ s' → e ≡ e' → SectionFails P t bound_of e s fault → SectionFails P t bound_of e' s' fault
  fails_there s s' e e' fault same same' fails = subst (λ (x : CertSection). SectionFails P t bound_of e' x fault) same (subst (λ (x : List Valued). SectionFails P t bound_of x s fault) same' fails)

  -- sections that all meet their conditions have none that fails
  none_fails : (earlier : List Valued) (ss before after : List CertSection) (s : CertSection) (values e : List Valued) (fault : CheckFault) → ss ≡ before ++ s ∷ after → MeetAll P t bound_of earlier ss values
      → MeetAll P t bound_of earlier before e → SectionFails P t bound_of e s fault → ⊥
  none_fails earlier [] [] after s values e fault split all upto fails = cc
  none_fails earlier [] (x ∷ before) after s values e fault split all upto fails = cc
  none_fails earlier (z ∷ ss) [] after s values e fault split (v, meets, more) upto fails =
      meets_none P t bound_of earlier z v meets fault (fails_there s z e earlier fault (sym (heads z s ss after split)) upto fails)
  none_fails earlier (z ∷ ss) (x ∷ before) after s values e fault split (v, meets, more) (w, meets', more') fails =
      let same : z ≡ x = heads z x ss (before ++ s ∷ after) split in
      let meets'' : MeetsSection P t bound_of earlier z w = subst (λ (y : CertSection). MeetsSection P t bound_of earlier y w) (sym same) meets' in
      let more'' : MeetAll P t bound_of (earlier ++ section_value z w ∷ []) before e = subst (λ (y : CertSection). MeetAll P t bound_of (earlier ++ section_value y w ∷ []) before e) (sym same) more' in
      none_fails (earlier ++ section_value z w ∷ []) ss before after s values e fault (tails z x ss (before ++ s ∷ after) split)
      (moved_earlier earlier z v w ss values (one_value P t bound_of earlier z v w meets meets'') more) more'' fails

  -- the first that fails is one
  one_first : (earlier : List Valued) (before before' after after' : List CertSection) (s s' : CertSection) (e e' : List Valued) (a b : CheckFault) → before ++ s ∷ after ≡ before' ++ s' ∷ after'
      → MeetAll P t bound_of earlier before e → MeetAll P t bound_of earlier before' e' → SectionFails P t bound_of e s a → SectionFails P t bound_of e' s' b → a ≡ b
  one_first earlier [] [] after after' s s' e e' a b split is is' fails fails' =
      one_fault P t bound_of e' s' a b (fails_there s s' e e' a (heads s s' after after' split) (is ∙ sym is') fails) fails'
  one_first earlier [] (x ∷ before') after after' s s' e e' a b split is (v, meets, more) fails fails' =
      absurd (meets_none P t bound_of earlier x v meets a (fails_there s x e earlier a (heads s x after (before' ++ s' ∷ after') split) is fails))
  one_first earlier (x ∷ before) [] after after' s s' e e' a b split (v, meets, more) is fails fails' =
      absurd (meets_none P t bound_of earlier x v meets b (fails_there s' x e' earlier b (sym (heads x s' (before ++ s ∷ after) after' split)) is fails'))
  one_first earlier (x ∷ before) (y ∷ before') after after' s s' e e' a b split (v, meets, more) (w, meets', more') fails fails' =
      let same : x ≡ y = heads x y (before ++ s ∷ after) (before' ++ s' ∷ after') split in
      let meets'' : MeetsSection P t bound_of earlier x w = subst (λ (z : CertSection). MeetsSection P t bound_of earlier z w) (sym same) meets' in
      let more'' : MeetAll P t bound_of (earlier ++ section_value x w ∷ []) before' e' = subst (λ (z : CertSection). MeetAll P t bound_of (earlier ++ section_value z w ∷ []) before' e') (sym same) more' in
      one_first (earlier ++ section_value x w ∷ []) before before' after after' s s' e e' a b (tails x y (before ++ s ∷ after) (before' ++ s' ∷ after') split)
      (moved_earlier earlier x v w before e (one_value P t bound_of earlier x v w meets meets'') more) more'' fails fails'

  -- ---- the root

  no_code : {X : Type 0} (o : Option X) → o ≡ None → IsSome o → ⊥
  no_code None is some = let bad : false ≡ true = some in cc
  no_code (Some x) is some = cc

  one_last : (values : List Valued) (c : Certificate) (a b : CheckFault) → FailsLast P t values c a → FailsLast P t values c b → a ≡ b
  one_last values c (faults.Missing x) (faults.Missing y) a b = ap (λ (z : ℕ). faults.Missing z) (a.0 ∙ sym b.0)
  one_last values c (faults.Missing x) (faults.Region y) (is, inl none) b = absurd (no_code (body_of P c.root) none b.1.coded)
  one_last values c (faults.Missing x) (faults.Region y) (is, inr absent) b = absurd (let bad = same_full P t values c.root None (Some b.1.full) absent.1 b.1.says in cc)
  one_last values c (faults.Region x) (faults.Missing y) a (is, inl none) = absurd (no_code (body_of P c.root) none a.1.coded)
  one_last values c (faults.Region x) (faults.Missing y) a (is, inr absent) = absurd (let bad = same_full P t values c.root None (Some a.1.full) absent.1 a.1.says in cc)
  one_last values c (faults.Region x) (faults.Region y) a b = ap (λ (z : ℕ). faults.Region z) (a.0 ∙ sym b.0)
  one_last values c (faults.Member m u) b x y = absurd x
  one_last values c (faults.Edge m u v) b x y = absurd x
  one_last values c (faults.Exit m u) b x y = absurd x
  one_last values c faults.NoMemory b x y = absurd x
  one_last values c a (faults.Member m u) x y = absurd y
  one_last values c a (faults.Edge m u v) x y = absurd y
  one_last values c a (faults.Exit m u) x y = absurd y
  one_last values c a faults.NoMemory x y = absurd y

  right_last : (c : Certificate) (fault : CheckFault) (values : List Valued) → (h : MeetsConditions P t bound_of c) → values ≡ h.values → FailsLast P t values c fault → ⊥
  right_last c fault values h same fails = by fault (subst (λ (vs : List Valued). FailsLast P t vs c fault) same fails)
    where
      by : (f : CheckFault) → FailsLast P t h.values c f → ⊥
      by (faults.Missing m) (is, inl none) = no_code (body_of P c.root) none h.coded
      by (faults.Missing m) (is, inr absent) = let bad = same_full P t h.values c.root None (Some h.full) absent.1 h.says in cc
      by (faults.Region m) (is, wrong) =
          let same' : Some wrong.full ≡ Some h.full = same_full P t h.values c.root (Some wrong.full) (Some h.full) wrong.says h.says in
          let same'' : wrong.full ≡ h.full = cc in
          wrong.wrong (subst (λ (o : Option ℕ). IsRight P t o c.bound) (sym same'') h.right)
      by f fails' = fails'

pub faults_are_one : FaultsAreOne
faults_are_one P t bound_of c a b (in_section before after s e split upto fails) (in_section before' after' s' e' split' upto' fails') =
    one_first P t bound_of [] before before' after after' s s' e e' a b (sym split ∙ split') upto upto' fails fails'
faults_are_one P t bound_of c a b (in_section before after s e split upto fails) (at_end values all last) = absurd (none_fails P t bound_of [] c.sections before after s values e a split all upto fails)
faults_are_one P t bound_of c a b (at_end values all last) (in_section before after s e split upto fails) = absurd (none_fails P t bound_of [] c.sections before after s values e b split all upto fails)
faults_are_one P t bound_of c a b (at_end values all last) (at_end values' all' last') =
    one_last P t bound_of values' c a b (subst (λ (vs : List Valued). FailsLast P t vs c a) (same_values P t bound_of [] c.sections values values' all all') last) last'

pub refused_is_not_met : RefusedIsNotMet
refused_is_not_met P t bound_of c fault (in_section before after s e split upto fails) h = none_fails P t bound_of [] c.sections before after s h.values e fault split h.sections upto fails
refused_is_not_met P t bound_of c fault (at_end values all last) h = right_last P t bound_of c fault values h (same_values P t bound_of [] c.sections values h.values all h.sections) last
