use Rattle.priced_sections.proofs.Answering.{paid_answers_are_one}
use Rattle.priced_sections.proofs.laws.paid_answers_are_one.Goals as goal

pub returns : goal.returns
returns c = paid_answers_are_one
