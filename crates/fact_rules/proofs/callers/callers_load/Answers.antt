use Rattle.std.proofs.Common.{◌≡◌, ℕ, ◌+◌, max, sym, subst, inl, inr, arith}
use Rattle.fact_rules.proofs.Calling.{IsCallersBelow, callers_start, callers_same, callers_more, callers_all}
use Rattle.fact_rules.proofs.callers.callers_load.Goals as goal

pub loop-m-init : goal.loop-m-init
loop-m-init c = record { is = λ P of. callers_start P c.args.read c.args.root; small = omega arith }

pub loop-m-preserved : goal.loop-m-preserved
loop-m-preserved c =
    let most = c.max-greatest.ensures in
    let top : c.max-greatest.result ≡ max c.load_where_calling.result c.loop-m.greatest = omega arith in
    let next = c.load_where_calling.ensures.small in
    let so_far = c.loop-m.invariant.small in
    record {
      is =
          λ P of.
          elim (c.load_where_calling.ensures.load P of) [
            | inl calls ↦
                callers_more P c.args.read c.args.root c.loop-m.m c.loop-m.greatest c.load_where_calling.result c.max-greatest.result (c.loop-m.invariant.is P of) calls.0 calls.1 top
            | inr other ↦
                let zero' = other.1 in
                let same : c.max-greatest.result ≡ c.loop-m.greatest = omega arith in
                let Q : ℕ → Type 0 = λ n. IsCallersBelow P c.args.read c.args.root (c.loop-m.m + 1) n in
                subst Q (sym same) (callers_same P c.args.read c.args.root c.loop-m.m c.loop-m.greatest (c.loop-m.invariant.is P of) other.0)
          ];
      small = omega arith;
    }

pub returns-clause-greatest : goal.returns-clause-greatest
returns-clause-greatest c =
    let past = c.loop-m-test.false in
    let end = c.loop-m.auto.m-end in
    let count = c.method_count-m-end.ensures.count in
    λ P of. callers_all P c.args.read c.args.root c.args.f.now c.loop-m.m c.loop-m.greatest of (omega arith) (c.loop-m.invariant.is P of)
