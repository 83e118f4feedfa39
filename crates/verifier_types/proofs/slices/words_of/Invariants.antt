use Rattle.std.proofs.Common.{◌≡◌, take}
use Rattle.bytecode_typing.specs.Types.{stack_words}
use Rattle.verifier_types.specs.Seen.{types_seen}
use Rattle.verifier_types.proofs.slices.words_of.Given as goal

abbrev pub invariant-loop-item : goal.invariant-loop-item
invariant-loop-item l = l.words ≡ stack_words (types_seen (take l.item-index l.items))
