use Rattle.std.proofs.Common.{◌≡◌, Bool, None, get_or, subst}
use Rattle.std.specs.Prelude.{MatchBool}
use Rattle.memory_bound.specs.Found.{found_at}
use Rattle.memory_bound.specs.Needs.{IsSmall}
use Rattle.memory_bound.proofs.Ordered.{all_taken, one_further}
use Rattle.memory_bound.proofs.Answering.{size_here}
use Rattle.memory_bound.proofs.causes.first_too_large.Goals as goal

pub returns-then-not-are_few-clause-cause : goal.returns-then-not-are_few-clause-cause
returns-then-not-are_few-clause-cause c =
    let ms = c.args.methods.now in
    let i = c.loop-m.m-index in
    let table = c.args.table.now in
    let heap = (found_at table (get_or ms i 0)).heap in
    let none = subst (λ (b : Bool). MatchBool b (IsSmall heap) (heap ≡ None)) c.if-not-are_few.true c.are_few.ensures in
    size_here ms i c.requires.rising c.loop-m-test.true table c.requires.bounds c.requires.lengths c.loop-m.invariant none

pub loop-m-preserved : goal.loop-m-preserved
loop-m-preserved c =
    let ms = c.args.methods.now in
    let i = c.loop-m.m-index in
    let table = c.args.table.now in
    let heap = (found_at table (get_or ms i 0)).heap in
    let small = subst (λ (b : Bool). MatchBool b (IsSmall heap) (heap ≡ None)) c.if-not-are_few.false c.are_few.ensures in
    one_further (λ x. IsSmall (found_at table x).heap) ms i c.loop-m-test.true c.loop-m.invariant small

pub returns-clause-ok : goal.returns-clause-ok
returns-clause-ok c = all_taken (λ x. IsSmall (found_at c.args.table.now x).heap) c.args.methods.now c.loop-m.m-index c.loop-m-test.false c.loop-m.invariant
