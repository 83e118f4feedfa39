use Rattle.jop_cli.proofs.FactsKept.{checked_fact_bounds_are_kept, written_fact_bounds_are_kept}
use Rattle.jop_cli.proofs.laws.fact_bounds_are_kept.Goals as goal

pub returns-clause-checked : goal.returns-clause-checked
returns-clause-checked c = checked_fact_bounds_are_kept

pub returns-clause-written : goal.returns-clause-written
returns-clause-written c = written_fact_bounds_are_kept
