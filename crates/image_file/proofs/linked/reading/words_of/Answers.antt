use Rattle.image_file.proofs.Sequences.{words_taken}
use Rattle.image_file.proofs.linked.reading.words_of.Goals as goal

pub returns : goal.returns
returns c = words_taken c.loop-word.words.items c.args.bytes.now c.loop-word.rest.now c.loop-word.invariant c.in_default.ensures
