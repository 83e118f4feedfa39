-- Sections with prices that have no value, and methods that can't end.
use Rattle.std.proofs.Common.{ℕ, List, Option, None, sym, ◌∙◌}
use Rattle.bytecode_model.specs.Program.{Program}
use Rattle.method_flow.specs.Keeping.{BoundOf}
use Rattle.method_flow.specs.declared.timing.Timing.{Timing}
use Rattle.bound_rules.specs.Told.{Valued}
use Rattle.bound_rules.specs.Sections.{section_bounds}
use Rattle.bound_rules.proofs.Examined.{IsExamined, AreExamined, no_end, live_edge}
use Rattle.bound_rules.proofs.Examined.AreExamined.{nothing, one_more}
use Rattle.priced_sections.specs.Laws.{NoValueNoEnd}
use Rattle.fact_rules.specs.Pricing.{PricedSection, Pricing, own_facts, credit}
use Rattle.fact_rules.specs.Sections.{MeetsPriced, AreMetPriced}
use Rattle.fact_rules.specs.Sections.AreMetPriced.{nothing as none_met, one_more as one_more_met}
use Rattle.fact_rules.specs.Laws.{NoPricedValueNoEnd, PricedLiveEdgesStay}

module _ (law : NoValueNoEnd) (P : Program) (t : Timing) (bound_of : BoundOf) (q : Pricing) where
  examined : (earlier : List Valued) (s : PricedSection) (value : Option ℕ) → MeetsPriced P t bound_of q earlier s value → IsExamined P t earlier s.plain value
  examined earlier s value h = record {
    view = h.view;
    no_exit = λ none. law h.view.graph h.view.costs (credit q s) s.plain.section (section_bounds bound_of s.plain) h.view.fees (own_facts q.facts s) h.paid (sym h.is ∙ none);
  }

  are_examined : {earlier : List Valued} → AreMetPriced P t bound_of q earlier → AreExamined P t earlier
  are_examined none_met = nothing
  are_examined (one_more_met {earlier} met s value h) = one_more (are_examined met) s.plain value (examined earlier s value h)

pub no_priced_value_no_end : NoValueNoEnd → NoPricedValueNoEnd
no_priced_value_no_end law P t bound_of q earlier s met h = no_end P t earlier s.plain (are_examined law P t bound_of q met) (examined law P t bound_of q earlier s None h)

pub priced_live_edges_stay : NoValueNoEnd → PricedLiveEdgesStay
priced_live_edges_stay law P t bound_of q earlier s value met h u v reached live = live_edge P t earlier s.plain (are_examined law P t bound_of q met) h.view u v reached live
