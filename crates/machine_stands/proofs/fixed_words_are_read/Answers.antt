use Rattle.machine_stands.proofs.Fixed.{fixed_read, raise_list_read, pool_read}
use Rattle.machine_stands.proofs.fixed_words_are_read.Goals as goal

pub returns-clause-words : goal.returns-clause-words
returns-clause-words c = fixed_read (record { read = c.words_are_read_and_written.ensures.words; ahead = c.words_lie.ensures.ahead; fixed = c.image_words_lie.ensures.fixed })

pub returns-clause-raise_list : goal.returns-clause-raise_list
returns-clause-raise_list c = raise_list_read (record { read = c.words_are_read_and_written.ensures.words; ahead = c.words_lie.ensures.ahead; fixed = c.image_words_lie.ensures.fixed }) c.first_objects_stay.ensures

pub returns-clause-pools : goal.returns-clause-pools
returns-clause-pools c = pool_read (record { read = c.words_are_read_and_written.ensures.words; ahead = c.words_lie.ensures.ahead; fixed = c.image_words_lie.ensures.fixed })
