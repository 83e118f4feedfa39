-- A certificate with prices that was checked.
use Rattle.std.specs.Prelude.{List}
use Rattle.bound_texts.specs.Loops.Bounds.{LoopBound}
use Rattle.bytecode_model.specs.Program.{Program}
use Rattle.method_flow.specs.Flow.{Flow, IsFlowOf}
use Rattle.method_flow.specs.Keeping.{BoundOf}
use Rattle.method_flow.specs.declared.timing.Timing.{Timing}
use Rattle.flow_facts.specs.Facts.{Facts}
use Rattle.priced_cert.specs.Certificate.{PricedCertificate}
use Rattle.fact_rules.specs.Conditions.{MeetsPrices}

-- the certificate, with the program's table, the bounds of its loops, the timing of the machine and the facts that are given
pub record AcceptedPrices : Type 0 where
  pub flow : Flow
  pub bounds : List LoopBound
  pub timing : Timing
  pub facts : Facts
  pub certificate : PricedCertificate

-- for each program of the table the certificate meets the conditions
abbrev pub MeetWithPrices : Flow → BoundOf → Timing → Facts → PricedCertificate → Type 0
MeetWithPrices f bound_of t facts c = (P : Program) → IsFlowOf P f → MeetsPrices P t bound_of facts c
