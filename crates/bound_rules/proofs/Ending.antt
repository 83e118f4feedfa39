-- Accepted sections without a value, and methods that can't end.
use Rattle.std.proofs.Common.{ℕ, List, Option, None, sym, ◌∙◌}
use Rattle.section_check.specs.Laws.{NoValueNoExit}
use Rattle.certificates.specs.declared.cert.CertSection.{CertSection}
use Rattle.bytecode_model.specs.Program.{Program}
use Rattle.method_flow.specs.Keeping.{BoundOf}
use Rattle.method_flow.specs.declared.timing.Timing.{Timing}
use Rattle.bound_rules.specs.Told.{Valued}
use Rattle.bound_rules.specs.Sections.{section_bounds, MeetsSection}
use Rattle.bound_rules.specs.Met.{AreMet}
use Rattle.bound_rules.specs.Met.AreMet.{nothing as none_met, one_more as one_more_met}
use Rattle.bound_rules.specs.Laws.{NoValueNoEnd, LiveEdgesStay}
use Rattle.bound_rules.proofs.Examined.{IsExamined, AreExamined, no_end, live_edge}
use Rattle.bound_rules.proofs.Examined.AreExamined.{nothing, one_more}

module _ (law : NoValueNoExit) (P : Program) (t : Timing) (bound_of : BoundOf) where
  examined : (earlier : List Valued) (s : CertSection) (value : Option ℕ) → MeetsSection P t bound_of earlier s value → IsExamined P t earlier s value
  examined earlier s value h = record {
    view = h.view;
    no_exit = λ none. law h.view.graph h.view.costs s.section (section_bounds bound_of s) h.view.fees h.accepted (sym h.is ∙ none);
  }

  are_examined : {earlier : List Valued} → AreMet P t bound_of earlier → AreExamined P t earlier
  are_examined none_met = nothing
  are_examined (one_more_met {earlier} met s value h) = one_more (are_examined met) s value (examined earlier s value h)

pub no_value_no_end : NoValueNoExit → NoValueNoEnd
no_value_no_end law P t bound_of earlier s met h = no_end P t earlier s (are_examined law P t bound_of met) (examined law P t bound_of earlier s None h)

pub live_edges_stay : NoValueNoExit → LiveEdgesStay
live_edges_stay law P t bound_of earlier s value met h u v reached live = live_edge P t earlier s (are_examined law P t bound_of met) h.view u v reached live
