use Rattle.std.proofs.Common.{List, true, false, sym, ap, ◌∙◌, arith}
use Rattle.class_pool.specs.declared.class.ClassFile.{ClassFile}
use Rattle.program_tables.specs.Numbers.{is_coded}
use Rattle.image_layout.proofs.LimitLemmas.{coded_all, coded_more}
use Rattle.image_layout.proofs.limits.coded_methods.Goals as goal
use Rattle.image_layout.proofs.limits.coded_methods.Goals.{then-is_coded, else-is_coded}

pub loop-method-preserved : goal.loop-method-preserved
loop-method-preserved c =
    let cs = c.args.program.now in
    let i = c.loop-method.method in
    let p = c.method-place.result in
    let old = c.loop-method.coded in
    let test = c.is_coded.ensures ∙ ap (λ (ks : List ClassFile). is_coded ks p) (c.classes.ensures ∙ c.hierarchy.ensures) in
    let small = c.loop-method.invariant.small in
    elim c.if-is_coded.branch [
      | then-is_coded w ↦
          let is = w.coded-is in
          record {
            count = coded_more cs i p old c.if-is_coded.coded true c.method-place.ensures c.loop-method.invariant.count (sym test ∙ w.if-is_coded.true) is;
            small = omega (arith, is, small);
          }
      | else-is_coded w ↦
          let is = w.coded-is in
          record {
            count = coded_more cs i p old c.if-is_coded.coded false c.method-place.ensures c.loop-method.invariant.count (sym test ∙ w.if-is_coded.false) is;
            small = omega (arith, is, small);
          }
    ]

pub returns : goal.returns
returns c =
    let cs = c.args.program.now in
    let test = c.loop-method-test.false in
    let end = c.loop-method.auto.method-end in
    let count = c.method_count-method-end.ensures in
    c.loop-method.invariant.count ∙ coded_all cs c.loop-method.method (omega (arith, test, end, count))
