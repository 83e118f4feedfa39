use Rattle.jop.proofs.Many.{many_ask_nothing}
use Rattle.jop.proofs.help.question_of.Goals as goal

pub returns-in_default-2 : goal.returns-in_default-2
returns-in_default-2 c = many_ask_nothing c.args.words.now c.in_default.len_at_least
