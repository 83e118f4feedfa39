use Rattle.compact_walks.proofs.Parts.{parts_are_sound}
use Rattle.compact_walks.proofs.laws.parts_are_sound.Goals as goal

pub returns : goal.returns
returns c = parts_are_sound c.parts_are_reducible.ensures.reducible c.parts_are_reducible.ensures.headers
