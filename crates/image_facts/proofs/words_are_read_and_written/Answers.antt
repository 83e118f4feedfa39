use Rattle.image_facts.proofs.Pieces.{word_written, pair_written}
use Rattle.image_facts.proofs.words_are_read_and_written.Goals as goal

pub returns-clause-written : goal.returns-clause-written
returns-clause-written c = word_written

pub returns-clause-pairs : goal.returns-clause-pairs
returns-clause-pairs c = pair_written
