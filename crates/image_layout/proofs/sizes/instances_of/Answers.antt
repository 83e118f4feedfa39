use Rattle.std.proofs.Common.{◌≡◌, length, ◌∙◌, arith}
use Rattle.image_builder.proofs.ListLemmas.{all_none, all_more}
use Rattle.image_layout.proofs.SizeLemmas.{HasFields}
use Rattle.image_layout.proofs.sizes.instances_of.Goals as goal

pub loop-class-init : goal.loop-class-init
loop-class-init c = all_none (HasFields c.args.program.now) c.new-runs.result.items c.new-runs.ensures.items

pub loop-class-preserved : goal.loop-class-preserved
loop-class-preserved c =
    all_more (HasFields c.args.program.now) c.loop-class.class c.loop-class.runs.items c.push.new.self.items c.in_ok-instance_of.field-0 c.loop-class.invariant c.in_ok-push.ensures.items c.in_ok-instance_of.ensures

pub returns : goal.returns
returns c =
    let test = c.loop-class-test.false in
    let end = c.loop-class.auto.class-end in
    let count = c.class_count-class-end.ensures in
    let all : c.loop-class.class ≡ length c.args.program.now = omega (arith, test, end, count) in
    record { count = c.loop-class.invariant.count ∙ all; each = c.loop-class.invariant.each }
