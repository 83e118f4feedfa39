use Rattle.std.proofs.Common.{◌<◌, List, get_or, length, refl, sym, ◌∙◌, subst, arith}
use Rattle.std.proofs.lemmas.List.{length-set}
use Rattle.std.proofs.lemmas.List.Elements.{Contains-get_or}
use Rattle.memory_bound.specs.Setting.{bounds_in, lengths_in}
use Rattle.memory_bound.specs.declared.found.Found.{Found}
use Rattle.memory_bound.specs.Found.{AreFound, IsMemoryFoundOf, found_at, unknown}
use Rattle.memory_bound.specs.Examined.{TellsReducible}
use Rattle.memory_bound.proofs.Ordered.{all_taken, each_written}
use Rattle.memory_bound.proofs.Examined.{found_more}
use Rattle.memory_bound.proofs.examining.examine_all.Goals as goal

pub loop-m-preserved : goal.loop-m-preserved
loop-m-preserved c =
    let order = c.args.order.now in
    let i = c.loop-m.m-index in
    let m = get_or order i 0 in
    let table = c.loop-m.table.items in
    let x = c.in_ok-found.found in
    let lt = c.loop-m-test.true in
    let below : get_or order i 0 < length table = omega (arith, c.requires i 0 lt, c.loop-m.invariant.long) in
    let b = bounds_in c.args.task.now in
    let l = lengths_in c.args.task.now in
    record {
      long = length-set table m x ∙ c.loop-m.invariant.long;
      reducible = λ P flow.
          each_written (λ y f. TellsReducible P y f) order table unknown x i lt below (c.loop-m.invariant.reducible P flow) (c.in_ok-found.ensures.reducible P flow);
      found = λ P flow sites first left.
          found_more P b l order table i m x first lt refl below (c.loop-m.invariant.found P flow sites first left)
          (λ known. c.in_ok-found.ensures.found P flow sites (left m (Contains-get_or order i 0 lt)) (subst (λ (t : List Found). AreFound P b l t m) (sym c.deref.ensures.value) known));
    }

pub returns-clause-reducible : goal.returns-clause-reducible
returns-clause-reducible c = λ P flow.
    all_taken (λ x. TellsReducible P x (found_at c.loop-m.table.items x)) c.args.order.now c.loop-m.m-index c.loop-m-test.false (c.loop-m.invariant.reducible P flow)

pub returns-clause-found : goal.returns-clause-found
returns-clause-found c = λ P flow sites first left.
    let b = bounds_in c.args.task.now in
    let l = lengths_in c.args.task.now in
    all_taken (λ x. IsMemoryFoundOf P b l x (found_at c.loop-m.table.items x)) c.args.order.now c.loop-m.m-index c.loop-m-test.false (c.loop-m.invariant.found P flow sites first left)
