use Rattle.std.proofs.Common.{arith, get_or, ◌∙◌}
use Rattle.verifier_types.specs.Seen.{type_seen}
use Rattle.verifier_types.specs.declared.types.VarType.TheVariants.{Top}
use Rattle.verifier_types.proofs.OperandLemmas.{one_or_two, words_more, words_bound, words_all}
use Rattle.verifier_types.proofs.slices.words_of.Goals as goal

pub overflow_add-words : goal.overflow_add-words
overflow_add-words c = omega (arith, c.words-words.ensures, words_bound c.args.items.now c.loop-item.item-index c.loop-item.auto.item-index-end, one_or_two (type_seen (get_or c.args.items.now c.loop-item.item-index Top)))

pub loop-item-preserved : goal.loop-item-preserved
loop-item-preserved c = omega (arith, words_more c.args.items.now c.loop-item.item-index Top c.loop-item-test.true)

pub returns : goal.returns
returns c = c.loop-item.invariant ∙ words_all c.args.items.now c.loop-item.item-index (omega arith)
