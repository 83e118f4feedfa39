use Rattle.micro_sketch.proofs.StackLoads.{stack_loads}
use Rattle.micro_sketch.proofs.laws.stack_word_is_loaded.Goals as goal

pub returns : goal.returns
returns c = stack_loads
