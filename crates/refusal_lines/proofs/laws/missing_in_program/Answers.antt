use Rattle.refusal_lines.proofs.LawLemmas.{missing_in_program}
use Rattle.refusal_lines.proofs.laws.missing_in_program.Goals as goal

pub returns : goal.returns
returns c = missing_in_program c.core_is_named.ensures c.boot_says_plan.ensures
