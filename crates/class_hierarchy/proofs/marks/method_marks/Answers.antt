use Rattle.std.proofs.Common.{◌≤◌, length, arith}
use Rattle.class_hierarchy.proofs.Marking.{class_more, classes_all}
use Rattle.class_hierarchy.proofs.marks.method_marks.Goals as goal

pub loop-class-preserved : goal.loop-class-preserved
loop-class-preserved c =
    let cs = c.args.classes.now in
    let wide = c.loop-class.invariant.0 in
    let same = c.in_ok-mark_members.ensures.more.wide in (
      omega (arith, wide, same),
      class_more (λ k. k.methods) cs c.loop-class.class c.class.result.now c.as_slice-methods.result.now c.loop-class.marks c.mark_members.new.marks c.class.ensures c.as_slice-methods.ensures
          c.in_ok-mark_members.ensures.more c.in_ok-mark_members.ensures.marked c.loop-class.invariant.1,
    )

pub returns : goal.returns
returns c =
    let cs = c.args.classes.now in
    let count = c.class_count-class-end.ensures in
    let past = c.loop-class-test.false in
    let all : length cs ≤ c.loop-class.class = omega (arith, count, past) in
    classes_all (λ k. k.methods) cs c.loop-class.class c.loop-class.marks all c.loop-class.invariant.1
