use Rattle.std.proofs.Common.{◌+◌, ◌<◌, ◌≤◌, ℕ, List, get_or, length, All, sym, subst, arith}
use Rattle.std.specs.Prelude.{slice_index}
use Rattle.std.proofs.lemmas.List.{length-set}
use Rattle.std.proofs.lemmas.List.Elements.{All-set, All-weaker}
use Rattle.std.proofs.lemmas.Option.{slice_get-get_or}
use Rattle.memory_rules.specs.Stack.{IsStackNeedOf}
use Rattle.memory_bound.proofs.Ordered.{one_written, all_taken}
use Rattle.memory_bound.proofs.stacks.stacks.Goals as goal

pub loop-m-preserved : goal.loop-m-preserved
loop-m-preserved c =
    let order = c.args.order.now in
    let i = c.loop-m.m-index in
    let m = get_or order i 0 in
    let table = c.loop-m.stacks.items in
    let most = c.loop-m.most in
    let words = c.stack_of.result in
    let before = c.loop-m.invariant in
    let lt : i < length order = c.loop-m-test.true in
    let long = length-set table m words in
    let below : m < length table = let in_table = c.requires.known i 0 lt in omega (arith, before.0) in
    let small : All (λ n. n ≤ most + 4294967296) table = All-weaker (λ (n : ℕ). n ≤ most) (λ (n : ℕ). n ≤ most + 4294967296) (λ n le. omega arith) table before.2 in (
      omega (arith, long, before.0),
      omega (arith, before.1),
      All-set (λ (n : ℕ). n ≤ most + 4294967296) table m words (omega (arith, c.stack_of.ensures.most)) small,
      λ P flow sites first.
          let done = before.3 P flow sites first in
          one_written (IsStackNeedOf P) order table 0 words i first.methods.distinct lt below done
          (c.stack_of.ensures.need P flow sites (λ t may.
          subst (λ (xs : List ℕ). IsStackNeedOf P t (slice_index xs t)) (sym c.deref.ensures.value) (done t (first.first i m t (slice_get-get_or order i 0 lt) may)))),
    )

pub returns-clause-need : goal.returns-clause-need
returns-clause-need c = λ P flow sites first.
    all_taken (λ x. IsStackNeedOf P x (slice_index c.loop-m.stacks.items x)) c.args.order.now c.loop-m.m-index c.loop-m-test.false (c.loop-m.invariant.3 P flow sites first)
