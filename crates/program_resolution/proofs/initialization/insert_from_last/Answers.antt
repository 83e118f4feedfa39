use Rattle.std.proofs.Common.{◌≡◌, ◌-◌, ◌<◌, ℕ, suc, length, drop, reverse, ap, ◌∙◌, arith}
use Rattle.std.specs.Prelude.{nat_eq}
use Rattle.program_tables.specs.Lists.{with_items}
use Rattle.program_resolution.proofs.OrderLemmas.{one_inserted}
use Rattle.program_resolution.proofs.initialization.insert_from_last.Goals as goal

pub loop-i-preserved : goal.loop-i-preserved
loop-i-preserved c =
    let chain = c.args.chain.now in
    let n : c.loop-i.i ≡ suc (c.loop-i.i - 1) = omega arith in
    let lt : c.loop-i.i - 1 < length chain = omega (arith, c.loop-i.invariant.0) in (
      omega (arith, c.loop-i.invariant.0),
      one_inserted chain c.args.order.now c.loop-i.order c.insert.new.self (c.loop-i.i - 1) lt (c.loop-i.invariant.1 ∙ ap (λ (k : ℕ). with_items nat_eq c.args.order.now (reverse (drop k chain))) n) c.in_ok-insert.ensures,
    )
