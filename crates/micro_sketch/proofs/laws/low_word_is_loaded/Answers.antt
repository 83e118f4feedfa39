use Rattle.micro_sketch.proofs.LowLoads.{low_loads}
use Rattle.micro_sketch.proofs.laws.low_word_is_loaded.Goals as goal

pub returns : goal.returns
returns c = low_loads
