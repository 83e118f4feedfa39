use Rattle.std.proofs.Common.{◌∙◌, arith}
use Rattle.class_making.specs.Plans.{method_mentions}
use Rattle.class_making.proofs.MentionLemmas.{each_next}
use Rattle.class_making.proofs.mentions.mention_methods.Goals as goal

pub loop-method-preserved : goal.loop-method-preserved
loop-method-preserved c =
    each_next method_mentions c.loop-method.maker c.mention_method.new.maker c.args.methods.now c.loop-method.method-index c.method-item.result (omega arith) c.method-item.is c.in_ok-mention_method.ensures
    ∙ c.loop-method.invariant
