use Rattle.section_check.proofs.Answering.{answers_are_one}
use Rattle.section_check.proofs.laws.answers_are_one.Goals as goal

pub returns : goal.returns
returns c = answers_are_one
