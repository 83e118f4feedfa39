use Rattle.number_sets.proofs.BitsLemmas.Bits.{set_some, set_none}
use Rattle.number_sets.proofs.bits.rows.Row.has.Goals as goal

pub returns-in-Some : goal.returns-in-Some
returns-in-Some c = set_some c.args.self.words.now c.args.column c.in-Some.word.now (c.in-Some.ensures.lookup.3.1 0)

pub returns-in-None : goal.returns-in-None
returns-in-None c = set_none c.args.self.words.now c.args.column c.in-None.ensures.lookup.3
