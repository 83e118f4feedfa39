-- A certificate with prices has one fault at most, and none where it meets the conditions.
use Rattle.std.proofs.Common.{◌≡◌, ℕ, List, [], ◌∷◌, ◌++◌, Option, Some, None, sym, ap, ap₂, ◌∙◌, subst, inl, inr}
use Rattle.lists.specs.Members.{heads, tails}
use Rattle.bytecode_model.specs.Program.{Program, body_of}
use Rattle.method_flow.specs.Keeping.{BoundOf}
use Rattle.method_flow.specs.declared.timing.Timing.{Timing}
use Rattle.bound_rules.specs.declared.faults.CheckFault.{CheckFault}
use Rattle.bound_rules.specs.declared.faults.CheckFault.TheVariants as faults
use Rattle.bound_rules.specs.Told.{Valued, section_value}
use Rattle.bound_rules.specs.Sections.{SectionView, section_bounds}
use Rattle.bound_rules.specs.Refused.{NoneLacks, FailsAtTarget}
use Rattle.bound_rules.proofs.Views.{same_full, same_fees, edges_too, exits_too, lacks_too}
use Rattle.priced_sections.specs.Paid.{paying, paid_value, EdgesPay}
use Rattle.fact_rules.specs.declared.faults.PricedFault.TheVariants as priced
use Rattle.flow_facts.specs.Facts.{Facts}
use Rattle.priced_cert.specs.Certificate.{PricedCertificate}
use Rattle.fact_rules.specs.Pricing.{PricedSection, Pricing, pricing_of, placed_prices, own_facts, credit, root_due}
use Rattle.fact_rules.specs.Sections.{MeetsPriced, MeetAllPriced}
use Rattle.fact_rules.specs.Conditions.{IsPricedRight, MeetsPrices, sections_of}
use Rattle.fact_rules.specs.Refused.{IsWrongIn, FailsInPlace, FailsAlongEdge, PricedSectionFails, PricedFailsLast, AreSectionsRefused}
use Rattle.fact_rules.specs.Refused.AreSectionsRefused.{in_section, at_end}
use Rattle.fact_rules.specs.Laws.{PricedFaultsAreOne, PricedRefusedIsNotMet}
use Rattle.fact_rules.proofs.Pricing.{none_is_some, of_facts_apart, one_without_fact}
use Rattle.fact_rules.proofs.Viewed.{none_out, wrong_too, edge_pays_too, exit_pays_too, one_target, one_node, one_edge, one_exit}

-- ---- a section

module _ (P : Program) (t : Timing) (bound_of : BoundOf) (q : Pricing) (earlier : List Valued) (s : PricedSection) where
  target_apart : (x : ℕ) → FailsAtTarget P t earlier s.plain x → (k : SectionView P t earlier s.plain) → NoneLacks k → ⊥
  target_apart x a k present = present x (lacks_too P t earlier s.plain a.view k x a.least.0)

  node_apart : (u : ℕ) → FailsInPlace P t bound_of q earlier s u → (k : SectionView P t earlier s.plain) → ((x : ℕ) → IsWrongIn bound_of (own_facts q.facts s) s k x → ⊥) → ⊥
  node_apart u a k placed = placed u (wrong_too P t bound_of q earlier s a.view k u a.least.0)

  edge_apart : (u v : ℕ) → FailsAlongEdge P t bound_of q earlier s u v → (k : SectionView P t earlier s.plain)
      → EdgesPay k.graph k.costs (credit q s) s.plain.section (paying s.plain.section (section_bounds bound_of s.plain) k.fees (own_facts q.facts s)) → ⊥
  edge_apart u v a k pay = let there = edges_too P t earlier s.plain a.view k u v a.first.edge in a.first.fails (edge_pays_too P t bound_of q earlier s k a.view u v there (pay u v there))

  uncoded : body_of P s.plain.method ≡ None → (k : SectionView P t earlier s.plain) → ⊥
  uncoded none k = none_is_some (body_of P s.plain.method) none k.coded

  one_fault : (a b : CheckFault) → PricedSectionFails P t bound_of q earlier s a → PricedSectionFails P t bound_of q earlier s b → a ≡ b
  one_fault (faults.Missing x) (faults.Missing y) (inl a) (inl b) = ap (λ (z : ℕ). faults.Missing z) (a.0 ∙ sym b.0)
  one_fault (faults.Missing x) (faults.Missing y) (inl a) (inr b) = absurd (uncoded a.1 b.view)
  one_fault (faults.Missing x) (faults.Missing y) (inr a) (inl b) = absurd (uncoded b.1 a.view)
  one_fault (faults.Missing x) (faults.Missing y) (inr a) (inr b) = ap (λ (z : ℕ). faults.Missing z) (one_target P t bound_of q earlier s x y a b)
  one_fault (faults.Missing x) (faults.Member m u) (inl a) b = absurd (uncoded a.1 b.1.view)
  one_fault (faults.Missing x) (faults.Member m u) (inr a) b = absurd (target_apart x a b.1.view b.1.present)
  one_fault (faults.Missing x) (faults.Edge m u v) (inl a) b = absurd (uncoded a.1 b.1.view)
  one_fault (faults.Missing x) (faults.Edge m u v) (inr a) b = absurd (target_apart x a b.1.view b.1.present)
  one_fault (faults.Missing x) (faults.Exit m u) (inl a) b = absurd (uncoded a.1 b.1.view)
  one_fault (faults.Missing x) (faults.Exit m u) (inr a) b = absurd (target_apart x a b.1.view b.1.present)
  one_fault (faults.Member m u) (faults.Missing x) a (inl b) = absurd (uncoded b.1 a.1.view)
  one_fault (faults.Member m u) (faults.Missing x) a (inr b) = absurd (target_apart x b a.1.view a.1.present)
  one_fault (faults.Member m u) (faults.Member n v) a b = ap₂ (λ (z w : ℕ). faults.Member z w) (a.0 ∙ sym b.0) (one_node P t bound_of q earlier s u v a.1 b.1)
  one_fault (faults.Member m u) (faults.Edge n x y) a b = absurd (node_apart u a.1 b.1.view b.1.placed)
  one_fault (faults.Member m u) (faults.Exit n v) a b = absurd (node_apart u a.1 b.1.view b.1.placed)
  one_fault (faults.Edge m u v) (faults.Missing x) a (inl b) = absurd (uncoded b.1 a.1.view)
  one_fault (faults.Edge m u v) (faults.Missing x) a (inr b) = absurd (target_apart x b a.1.view a.1.present)
  one_fault (faults.Edge m u v) (faults.Member n x) a b = absurd (node_apart x b.1 a.1.view a.1.placed)
  one_fault (faults.Edge m u v) (faults.Edge n x y) a b = let same = one_edge P t bound_of q earlier s u v x y a.1 b.1 in cc (a.0, b.0, same.0, same.1)
  one_fault (faults.Edge m u v) (faults.Exit n x) a b = absurd (edge_apart u v a.1 b.1.view b.1.edges)
  one_fault (faults.Exit m u) (faults.Missing x) a (inl b) = absurd (uncoded b.1 a.1.view)
  one_fault (faults.Exit m u) (faults.Missing x) a (inr b) = absurd (target_apart x b a.1.view a.1.present)
  one_fault (faults.Exit m u) (faults.Member n v) a b = absurd (node_apart v b.1 a.1.view a.1.placed)
  one_fault (faults.Exit m u) (faults.Edge n x y) a b = absurd (edge_apart x y b.1 a.1.view a.1.edges)
  one_fault (faults.Exit m u) (faults.Exit n v) a b = ap₂ (λ (z w : ℕ). faults.Exit z w) (a.0 ∙ sym b.0) (one_exit P t bound_of q earlier s u v a.1 b.1)
  one_fault (faults.Region m) b x y = absurd x
  one_fault faults.NoMemory b x y = absurd x
  one_fault a (faults.Region m) x y = absurd y
  one_fault a faults.NoMemory x y = absurd y

  -- ---- one that meets its conditions has none, and has one value

  meets_none : (value : Option ℕ) → (h : MeetsPriced P t bound_of q earlier s value) → (fault : CheckFault) → PricedSectionFails P t bound_of q earlier s fault → ⊥
  meets_none value h (faults.Missing x) (inl a) = uncoded a.1 h.view
  meets_none value h (faults.Missing x) (inr a) = target_apart x a h.view h.present
  meets_none value h (faults.Member m u) a = node_apart u a.1 h.view (λ v wrong. none_wrong v wrong)
    where
      none_wrong : (v : ℕ) → IsWrongIn bound_of (own_facts q.facts s) s h.view v → ⊥
      none_wrong v (inl out) = none_out h.view.graph s.plain.section (section_bounds bound_of s.plain) h.view.fees (own_facts q.facts s) h.paid.nodes v out
      none_wrong v (inr (inl no_node)) = h.nodes v no_node
      none_wrong v (inr (inr lacks)) = h.bounded v lacks
  meets_none value h (faults.Edge m u v) a = edge_apart u v a.1 h.view h.paid.edges
  meets_none value h (faults.Exit m u) a =
      let there = exits_too P t earlier s.plain a.1.view h.view u a.1.first.exit in
      a.1.first.fails (exit_pays_too P t bound_of q earlier s h.view a.1.view u there (h.paid.exits u there))
  meets_none value h (faults.Region m) a = a
  meets_none value h faults.NoMemory a = a

  one_value : (v w : Option ℕ) → MeetsPriced P t bound_of q earlier s v → MeetsPriced P t bound_of q earlier s w → v ≡ w
  one_value v w a b =
      a.is
      ∙ (ap (λ (fees : List (Option ℕ)). paid_value s.plain.section (paying s.plain.section (section_bounds bound_of s.plain) fees (own_facts q.facts s)) (own_facts q.facts s))
      (same_fees P t earlier s.plain a.view b.view)
      ∙ sym b.is)

-- ---- all sections

module _ (P : Program) (t : Timing) (bound_of : BoundOf) (q : Pricing) where
  moved_earlier : (earlier : List Valued) (s : PricedSection) (v w : Option ℕ) (ss : List PricedSection) (values : List Valued) → v ≡ w
      → MeetAllPriced P t bound_of q (earlier ++ section_value s.plain v ∷ []) ss values → MeetAllPriced P t bound_of q (earlier ++ section_value s.plain w ∷ []) ss values
  moved_earlier earlier s v w ss values same all = subst (λ (x : Option ℕ). MeetAllPriced P t bound_of q (earlier ++ section_value s.plain x ∷ []) ss values) same all

  same_values : (earlier : List Valued) (ss : List PricedSection) (a b : List Valued) → MeetAllPriced P t bound_of q earlier ss a → MeetAllPriced P t bound_of q earlier ss b → a ≡ b
  same_values earlier [] a b is is' = is ∙ sym is'
  same_values earlier (s ∷ ss) a b (v, meets, more) (w, meets', more') =
      same_values (earlier ++ section_value s.plain w ∷ []) ss a b (moved_earlier earlier s v w ss a (one_value P t bound_of q earlier s v w meets meets') more) more'

  fails_there : (s s' : PricedSection) (e e' : List Valued) (fault : CheckFault) → s ≡ s' → e ≡ e' → PricedSectionFails P t bound_of q e s fault → PricedSectionFails P t bound_of q e' s' fault
  fails_there s s' e e' fault same same' fails =
      subst (λ (x : PricedSection). PricedSectionFails P t bound_of q e' x fault) same (subst (λ (x : List Valued). PricedSectionFails P t bound_of q x s fault) same' fails)

  -- sections that all meet their conditions have none that fails
  none_fails : (earlier : List Valued) (ss before after : List PricedSection) (s : PricedSection) (values e : List Valued) (fault : CheckFault) → ss ≡ before ++ s ∷ after
      → MeetAllPriced P t bound_of q earlier ss values
      → MeetAllPriced P t bound_of q earlier before e → PricedSectionFails P t bound_of q e s fault → ⊥
  none_fails earlier [] [] after s values e fault split all upto fails = cc
  none_fails earlier [] (x ∷ before) after s values e fault split all upto fails = cc
  none_fails earlier (z ∷ ss) [] after s values e fault split (v, meets, more) upto fails =
      meets_none P t bound_of q earlier z v meets fault (fails_there s z e earlier fault (sym (heads z s ss after split)) upto fails)
  none_fails earlier (z ∷ ss) (x ∷ before) after s values e fault split (v, meets, more) (w, meets', more') fails =
      let same : z ≡ x = heads z x ss (before ++ s ∷ after) split in
      let meets'' : MeetsPriced P t bound_of q earlier z w = subst (λ (y : PricedSection). MeetsPriced P t bound_of q earlier y w) (sym same) meets' in
      let more'' : MeetAllPriced P t bound_of q (earlier ++ section_value z.plain w ∷ []) before e = subst (λ (y : PricedSection). MeetAllPriced P t bound_of q (earlier ++ section_value y.plain w ∷ []) before e) (sym same) more' in
      none_fails (earlier ++ section_value z.plain w ∷ []) ss before after s values e fault (tails z x ss (before ++ s ∷ after) split)
      (moved_earlier earlier z v w ss values (one_value P t bound_of q earlier z v w meets meets'') more) more'' fails

  -- the first that fails is one
  one_first : (earlier : List Valued) (before before' after after' : List PricedSection) (s s' : PricedSection) (e e' : List Valued) (a b : CheckFault) → before ++ s ∷ after ≡ before' ++ s' ∷ after'
      → MeetAllPriced P t bound_of q earlier before e → MeetAllPriced P t bound_of q earlier before' e' → PricedSectionFails P t bound_of q e s a → PricedSectionFails P t bound_of q e' s' b → a ≡ b
  one_first earlier [] [] after after' s s' e e' a b split is is' fails fails' =
      one_fault P t bound_of q e' s' a b (fails_there s s' e e' a (heads s s' after after' split) (is ∙ sym is') fails) fails'
  one_first earlier [] (x ∷ before') after after' s s' e e' a b split is (v, meets, more) fails fails' =
      absurd (meets_none P t bound_of q earlier x v meets a (fails_there s x e earlier a (heads s x after (before' ++ s' ∷ after') split) is fails))
  one_first earlier (x ∷ before) [] after after' s s' e e' a b split (v, meets, more) is fails fails' =
      absurd (meets_none P t bound_of q earlier x v meets b (fails_there s' x e' earlier b (sym (heads x s' (before ++ s ∷ after) after' split)) is fails'))
  one_first earlier (x ∷ before) (y ∷ before') after after' s s' e e' a b split (v, meets, more) (w, meets', more') fails fails' =
      let same : x ≡ y = heads x y (before ++ s ∷ after) (before' ++ s' ∷ after') split in
      let meets'' : MeetsPriced P t bound_of q earlier x w = subst (λ (z : PricedSection). MeetsPriced P t bound_of q earlier z w) (sym same) meets' in
      let more'' : MeetAllPriced P t bound_of q (earlier ++ section_value x.plain w ∷ []) before' e' = subst (λ (z : PricedSection). MeetAllPriced P t bound_of q (earlier ++ section_value z.plain w ∷ []) before' e') (sym same) more' in
      one_first (earlier ++ section_value x.plain w ∷ []) before before' after after' s s' e e' a b (tails x y (before ++ s ∷ after) (before' ++ s' ∷ after') split)
      (moved_earlier earlier x v w before e (one_value P t bound_of q earlier x v w meets meets'') more) more'' fails fails'

  -- ---- the root

  one_last : (values : List Valued) (bound : Option ℕ) (a b : CheckFault) → PricedFailsLast P t values q bound a → PricedFailsLast P t values q bound b → a ≡ b
  one_last values bound (faults.Missing x) (faults.Missing y) a b = ap (λ (z : ℕ). faults.Missing z) (a.0 ∙ sym b.0)
  one_last values bound (faults.Missing x) (faults.Region y) (is, inl none) b = absurd (none_is_some (body_of P q.root) none b.1.coded)
  one_last values bound (faults.Missing x) (faults.Region y) (is, inr absent) b = absurd (let bad = same_full P t values q.root None (Some b.1.full) absent.1 b.1.says in cc)
  one_last values bound (faults.Region x) (faults.Missing y) a (is, inl none) = absurd (none_is_some (body_of P q.root) none a.1.coded)
  one_last values bound (faults.Region x) (faults.Missing y) a (is, inr absent) = absurd (let bad = same_full P t values q.root None (Some a.1.full) absent.1 a.1.says in cc)
  one_last values bound (faults.Region x) (faults.Region y) a b = ap (λ (z : ℕ). faults.Region z) (a.0 ∙ sym b.0)
  one_last values bound (faults.Member m u) b x y = absurd x
  one_last values bound (faults.Edge m u v) b x y = absurd x
  one_last values bound (faults.Exit m u) b x y = absurd x
  one_last values bound faults.NoMemory b x y = absurd x
  one_last values bound a (faults.Member m u) x y = absurd y
  one_last values bound a (faults.Edge m u v) x y = absurd y
  one_last values bound a (faults.Exit m u) x y = absurd y
  one_last values bound a faults.NoMemory x y = absurd y

  one_refusal : (ss : List PricedSection) (bound : Option ℕ) (a b : CheckFault) → AreSectionsRefused P t bound_of q ss bound a → AreSectionsRefused P t bound_of q ss bound b → a ≡ b
  one_refusal ss bound a b (in_section before after s e split upto fails) (in_section before' after' s' e' split' upto' fails') =
      one_first [] before before' after after' s s' e e' a b (sym split ∙ split') upto upto' fails fails'
  one_refusal ss bound a b (in_section before after s e split upto fails) (at_end values all last) = absurd (none_fails [] ss before after s values e a split all upto fails)
  one_refusal ss bound a b (at_end values all last) (in_section before after s e split upto fails) = absurd (none_fails [] ss before after s values e b split all upto fails)
  one_refusal ss bound a b (at_end values all last) (at_end values' all' last') =
      one_last values' bound a b (subst (λ (vs : List Valued). PricedFailsLast P t vs q bound a) (same_values [] ss values values' all all') last) last'

pub priced_faults_are_one : PricedFaultsAreOne
priced_faults_are_one P t bound_of facts c (priced.Price m u) (priced.Price n v) a b =
    let same = one_without_fact (placed_prices (pricing_of facts c) (sections_of c)) m u n v a b in
    ap₂ (λ (z w : ℕ). priced.Price z w) same.0 same.1
priced_faults_are_one P t bound_of facts c (priced.Price m u) (priced.Check f) a b = absurd (of_facts_apart (placed_prices (pricing_of facts c) (sections_of c)) m u a b.0)
priced_faults_are_one P t bound_of facts c (priced.Check f) (priced.Price m u) a b = absurd (of_facts_apart (placed_prices (pricing_of facts c) (sections_of c)) m u b a.0)
priced_faults_are_one P t bound_of facts c (priced.Check f) (priced.Check k) a b =
    ap (λ (z : CheckFault). priced.Check z) (one_refusal P t bound_of (pricing_of facts c) (sections_of c) c.plain.bound f k a.1 b.1)

-- ---- what meets the conditions

module _ (P : Program) (t : Timing) (bound_of : BoundOf) (facts : Facts) (c : PricedCertificate) (h : MeetsPrices P t bound_of facts c) where
  right_last : (values : List Valued) (fault : CheckFault) → values ≡ h.values → PricedFailsLast P t values (pricing_of facts c) c.plain.bound fault → ⊥
  right_last values fault same fails = by fault (subst (λ (vs : List Valued). PricedFailsLast P t vs (pricing_of facts c) c.plain.bound fault) same fails)
    where
      by : (f : CheckFault) → PricedFailsLast P t h.values (pricing_of facts c) c.plain.bound f → ⊥
      by (faults.Missing m) (is, inl none) = none_is_some (body_of P c.plain.root) none h.coded
      by (faults.Missing m) (is, inr absent) = let bad = same_full P t h.values c.plain.root None (Some h.full) absent.1 h.says in cc
      by (faults.Region m) (is, wrong) =
          let same' : Some wrong.full ≡ Some h.full = same_full P t h.values c.plain.root (Some wrong.full) (Some h.full) wrong.says h.says in
          let same'' : wrong.full ≡ h.full = cc in
          wrong.wrong (subst (λ (o : Option ℕ). IsPricedRight P t c.plain.root (root_due (pricing_of facts c)) o c.plain.bound) (sym same'') h.right)
      by f fails' = fails'

  not_refused : (fault : CheckFault) → AreSectionsRefused P t bound_of (pricing_of facts c) (sections_of c) c.plain.bound fault → ⊥
  not_refused fault (in_section before after s e split upto fails) = none_fails P t bound_of (pricing_of facts c) [] (sections_of c) before after s h.values e fault split h.sections upto fails
  not_refused fault (at_end values all last) = right_last values fault (same_values P t bound_of (pricing_of facts c) [] (sections_of c) values h.values all h.sections) last

pub priced_refused_is_not_met : PricedRefusedIsNotMet
priced_refused_is_not_met P t bound_of facts c (priced.Price m u) a h = of_facts_apart (placed_prices (pricing_of facts c) (sections_of c)) m u a h.facts_are
priced_refused_is_not_met P t bound_of facts c (priced.Check f) a h = not_refused P t bound_of facts c h f a.1
