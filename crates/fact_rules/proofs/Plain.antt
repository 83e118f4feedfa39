-- A certificate without prices that meets its conditions meets those on one with prices.
use Rattle.std.proofs.Common.{◌≡◌, ℕ, ℤ, List, [], ◌∷◌, ◌++◌, map, Contains, Option, Some, None, refl, sym, subst}
use Rattle.std.specs.Prelude.{◌+ℤ◌, pos, option_map}
use Rattle.lists.specs.Members.{at_head, in_tail, nil_contains}
use Rattle.section_check.specs.Section.{entry_fee, potential, with_fee}
use Rattle.priced_cert.specs.declared.prices.Price.{Price}
use Rattle.certificates.specs.declared.cert.CertSection.{CertSection}
use Rattle.bytecode_model.specs.Program.{Program}
use Rattle.method_flow.specs.Keeping.{BoundOf}
use Rattle.method_flow.specs.declared.timing.Timing.{Timing}
use Rattle.bound_rules.specs.Told.{Valued, section_value}
use Rattle.bound_rules.specs.Sections.{section_bounds, MeetsSection}
use Rattle.bound_rules.specs.Conditions.{MeetAll}
use Rattle.bound_rules.specs.Met.{AreMet}
use Rattle.bound_rules.specs.Met.AreMet.{nothing, one_more}
use Rattle.bound_rules.specs.Laws.{NoValueNoEnd}
use Rattle.flow_facts.specs.Facts.{Facts}
use Rattle.priced_sections.specs.Paid.{paying, paid_value, at_least_zero}
use Rattle.priced_sections.specs.Laws.{PlainIsPaid, PlainValueIsPaid}
use Rattle.fact_rules.specs.Pricing.{PricedSection, with_prices, Pricing, PlacedPrice, placed_prices}
use Rattle.fact_rules.specs.Sections.{MeetsPriced, MeetAllPriced}
use Rattle.fact_rules.specs.Conditions.{AreOfFacts}
use Rattle.fact_rules.specs.Laws.{AreClosedIfEndless, PlainIsPriced}

-- a section without prices
abbrev bare : CertSection → PricedSection
bare s = record { plain = s; prices = [] }

abbrev none_each : List CertSection → List (List Price)
none_each ss = map (λ s. []) ss

-- where node 0 isn't listed there is no value
no_value : (fees due : ℕ) (o : Option ℤ) → o ≡ None → None ≡ option_map (λ z. at_least_zero (z +ℤ pos due)) (with_fee o fees)
no_value fees due None e = refl
no_value fees due (Some z) e = absurd (cc)

module _ (conditions : PlainIsPaid) (values : PlainValueIsPaid) (P : Program) (t : Timing) (bound_of : BoundOf) (facts : Facts) (root : ℕ) where
  abbrev pub nothing_in_root : Pricing
  nothing_in_root = record { facts = facts; root = root; root_prices = [] }

  value_is : (earlier : List Valued) (s : CertSection) (value : Option ℕ) → (h : MeetsSection P t bound_of earlier s value) → (value ≡ None → potential s.section.nodes 0 ≡ None)
      → value ≡ paid_value s.section (paying s.section (section_bounds bound_of s) h.view.fees []) []
  value_is earlier s None h empty = no_value (entry_fee (paying s.section (section_bounds bound_of s) h.view.fees []) 0) 0 (potential s.section.nodes 0) (empty refl)
  value_is earlier s (Some n) h empty = sym (values s.section (section_bounds bound_of s) h.view.fees n (sym h.is))

  meets : (earlier : List Valued) (s : CertSection) (value : Option ℕ) → MeetsSection P t bound_of earlier s value → (value ≡ None → potential s.section.nodes 0 ≡ None)
      → MeetsPriced P t bound_of nothing_in_root earlier (bare s) value
  meets earlier s value h empty = record {
    view = h.view;
    present = h.present;
    nodes = h.nodes;
    bounded = h.bounded;
    paid = (conditions h.view.graph h.view.costs (λ u. 0) s.section (section_bounds bound_of s) h.view.fees (λ u. refl)).1 h.accepted;
    is = value_is earlier s value h empty;
  }

  meet_all : NoValueNoEnd → (earlier : List Valued) (ss : List CertSection) (vs : List Valued) → AreMet P t bound_of earlier → AreClosedIfEndless P ss
      → MeetAll P t bound_of earlier ss vs → MeetAllPriced P t bound_of nothing_in_root earlier (with_prices ss (none_each ss)) vs
  meet_all no_end earlier [] vs met closed all = all
  meet_all no_end earlier (s ∷ ss) vs met closed (value, one, more) = (
    value,
    meets earlier s value one
        (λ none. closed s (at_head s ss) (no_end P t bound_of earlier s met (subst (λ (o : Option ℕ). MeetsSection P t bound_of earlier s o) none one))),
    meet_all no_end (earlier ++ section_value s value ∷ []) ss vs (one_more met s value one) (λ x has. closed x (in_tail s x ss has)) more,
  )

  no_price : (ss : List CertSection) → placed_prices nothing_in_root (with_prices ss (none_each ss)) ≡ []
  no_price [] = refl
  no_price (s ∷ ss) = no_price ss

  of_facts : (ss : List CertSection) → AreOfFacts (placed_prices nothing_in_root (with_prices ss (none_each ss)))
  of_facts ss x has = absurd (nil_contains x (subst (λ (xs : List PlacedPrice). Contains xs x) (no_price ss) has))

pub plain_is_priced : PlainIsPaid → PlainValueIsPaid → NoValueNoEnd → PlainIsPriced
plain_is_priced conditions values no_end P t bound_of facts c bound closed h right = record {
  facts_are = of_facts conditions values P t bound_of facts c.root c.sections;
  values = h.values;
  sections = meet_all conditions values P t bound_of facts c.root no_end [] c.sections h.values nothing closed h.sections;
  coded = h.coded;
  full = h.full;
  says = h.says;
  right = right;
}
