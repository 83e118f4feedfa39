use Rattle.bytecode_typing.proofs.Walking.{typing_walks, walks_typing, failure_walks, walks_failure}
use Rattle.bytecode_typing.proofs.the_walk_finds_a_typing.Goals as goal

pub returns : goal.returns
returns c = λ P n m b maps. (
  λ fs. (walks_typing P n m b maps fs, typing_walks P n m b maps fs),
  λ pc r. (walks_failure P n m b maps pc r, failure_walks P n m b maps pc r),
)
