use Rattle.std.proofs.Common.{◌<◌, ◌≤◌, length, inl, inr, sym, ◌∙◌, subst, ℕ, ◌^◌, arith}
use Rattle.std.specs.Prelude.{◌⊎◌}
use Rattle.std.proofs.lemmas.Bool.{cases_lt}
use Rattle.bound_report.proofs.Rowing.{products_more, products_all}
use Rattle.bound_report.proofs.parts.entry_loads.Goals as goal

pub loop-i-preserved : goal.loop-i-preserved
loop-i-preserved c = λ small.
    let entered = c.args.entered.now in
    let fees = c.args.fees.now in
    let i = c.loop-i.i in
    let lt = c.loop-i-test.true in
    let most = c.min-i-end.ensures in
    let first : i < length entered = omega arith in
    let second : i < length fees = omega arith in
    let more = products_more entered fees i first second in
    let part = c.product.ensures (omega arith) in
    let before = c.loop-i.invariant (omega arith) in
    c.sum-cycles.ensures (omega arith) ∙ omega arith

pub returns : goal.returns
returns c = λ small.
    let entered = c.args.entered.now in
    let fees = c.args.fees.now in
    let i = c.loop-i.i in
    let past = c.loop-i-test.false in
    let most = c.min-i-end.ensures in
    let ends : length entered ≤ i ⊎ length fees ≤ i = elim (cases_lt i (length entered)) [ inl less ↦ inr (omega arith) | inr more ↦ inl more ] in
    let all = products_all entered fees i ends in
    let F : ℕ → Type 0 = λ n. n < 2 ^ 128 in
    c.loop-i.invariant (subst F (sym all) small) ∙ all
