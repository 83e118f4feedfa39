use Rattle.std.proofs.Common.{sym, ◌∙◌}
use Rattle.verifier_types.specs.declared.types.VarType.TheVariants.{Top}
use Rattle.verifier_types.proofs.OperandLemmas.{holds_found, holds_passed, holds_reverse, none_left}
use Rattle.verifier_types.proofs.slices.holds_made.Goals as goal

pub returns-then-is_made : goal.returns-then-is_made
returns-then-is_made c =
    sym (holds_reverse c.args.place c.args.items.now
    ∙ (sym c.loop-item.invariant ∙ holds_found c.args.place c.args.items.now c.loop-item.item-index Top c.loop-item-test.true (sym c.is_made.ensures ∙ c.if-is_made.true)))

pub loop-item-preserved : goal.loop-item-preserved
loop-item-preserved c =
    holds_passed c.args.place c.args.items.now c.loop-item.item-index Top c.loop-item-test.true (sym c.is_made.ensures ∙ c.if-is_made.false) ∙ c.loop-item.invariant

pub returns : goal.returns
returns c = sym (holds_reverse c.args.place c.args.items.now ∙ (sym c.loop-item.invariant ∙ none_left c.args.place c.args.items.now c.loop-item.item-index c.loop-item-test.false))
