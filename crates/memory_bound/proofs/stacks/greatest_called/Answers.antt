use Rattle.std.proofs.Common.{ℕ, ◌+◌, List, Contains, take, sym, subst}
use Rattle.std.specs.Prelude.{slice_index}
use Rattle.method_flow.specs.declared.flow.Call.{Call}
use Rattle.memory_bound.specs.Stacks.{IsGreatestAmong, IsCalled}
use Rattle.memory_bound.proofs.Deepest.{call_more}
use Rattle.memory_bound.proofs.stacks.greatest_called.Goals as goal

pub loop-call-preserved : goal.loop-call-preserved
loop-call-preserved c =
    let f = c.args.f.now in
    let calls = c.args.calls.now in
    let stacks = c.args.stacks.now in
    let i = c.loop-call.call-index in
    let none : Call = record { place = 0; targets = 0 } in
    let n = c.greatest_at.result in
    let here = subst (λ (ts : List ℕ). IsGreatestAmong (Contains ts) (slice_index stacks) n) c.targets.ensures.targets c.greatest_at.ensures in
    subst (λ (v : ℕ). IsGreatestAmong (IsCalled f (take (i + 1) calls)) (slice_index stacks) v) (sym c.max-greatest.ensures)
    (call_more f calls stacks i c.loop-call.greatest n none c.loop-call-test.true c.loop-call.invariant here)
