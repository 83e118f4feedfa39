use Rattle.std.proofs.Common.{ℕ, ◌+◌, List, take, get_or, Contains, sym, subst, inl, inr}
use Rattle.std.proofs.lemmas.Bool.{both_ways}
use Rattle.method_flow.specs.Flow.{targets_of_call}
use Rattle.method_flow.specs.declared.flow.Call.{Call}
use Rattle.call_regions.specs.Tables.{IsTargetOf}
use Rattle.call_regions.proofs.Growing.{finds_part, finds_then}
use Rattle.call_regions.proofs.Lists.{from_take, take_has, take_keeps, take_cases}
use Rattle.call_regions.proofs.search.add_targets.Goals as goal

pub loop-call-preserved : goal.loop-call-preserved
loop-call-preserved c =
    let f = c.args.f.now in
    let calls = c.args.calls.now in
    let i = c.loop-call.call-index in
    let lt = c.loop-call-test.true in
    let none : Call = record { place = 0; targets = 0 } in
    let ts = c.targets.result.now in
    let are = c.targets.ensures.targets in
    let H : ℕ → List ℕ → Type 0 = λ x q. Contains q x in
    finds_then f c.args.cache.block_words c.args.cache.blocks (IsTargetOf f (take i calls)) (Contains ts) (IsTargetOf f (take (i + 1) calls)) c.args.s.now c.loop-call.s c.add_all.new.s
    c.loop-call.invariant (c.fits.ensures.0 c.if-not-fits.false) c.in_ok-add_all.ensures
    (λ x t. record { call = t.call; among = take_keeps calls i t.call lt t.among; lists = t.lists })
    (λ x has. record { call = get_or calls i none; among = take_has calls i none lt; lists = subst (H x) are has })
    (λ x t.
    elim (take_cases calls i none t.call lt t.among) [
      | inl there ↦ inl (record { call = t.call; among = there; lists = t.lists })
      | inr same ↦ let P : Call → Type 0 = λ k. Contains (targets_of_call f k) x in inr (subst (H x) (sym are) (subst P (sym same) t.lists))
    ])

pub returns-then-not-fits : goal.returns-then-not-fits
returns-then-not-fits c =
    let f = c.args.f.now in
    let calls = c.args.calls.now in
    let i = c.loop-call.call-index in
    finds_part f c.args.cache.block_words c.args.cache.blocks (IsTargetOf f (take i calls)) (IsTargetOf f calls) c.args.s.now c.loop-call.s c.loop-call.invariant
    (λ x t. record { call = t.call; among = from_take i calls t.call t.among; lists = t.lists })
    (λ fits. both_ways c.fits.result c.if-not-fits.true (c.fits.ensures.1 fits))
