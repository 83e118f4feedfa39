use Rattle.jop_cli.proofs.Calling.{few_words, many_words}
use Rattle.jop_cli.proofs.host.run_words.Goals as goal

pub returns-then-words : goal.returns-then-words
returns-then-words g c = many_words c.args.words.now _ _ _ c.if-words.true

pub returns : goal.returns
returns g c = few_words c.args.words.now _ _ _ _ _ c.if-words.false c.run_over.ensures
