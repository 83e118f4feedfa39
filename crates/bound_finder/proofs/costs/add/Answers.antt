use Rattle.std.proofs.Common.{◌≡◌, ◌+◌, ◌*◌, ◌<◌, ◌≤◌, ℕ, length, get_or, Some, false, sym, ap, ◌∙◌, subst, arith}
use Rattle.std.specs.Prelude.{slice_get}
use Rattle.std.proofs.lemmas.Option.{slice_get-get_or}
use Rattle.method_flow.specs.declared.flow.Call.{Call}
use Rattle.compact_walks.specs.Limited.{cycles_limit, limited}
use Rattle.bound_finder.specs.declared.telling.Told.{Told}
use Rattle.bound_finder.proofs.Added.{added_none, added_more, added_all, not_yet, small_more}
use Rattle.bound_finder.proofs.costs.add.Goals as goal

pub loop-i-init : goal.loop-i-init
loop-i-init c = added_none c.args.costs.now c.args.calls.now c.args.told.now c.args.without_loads.now

pub limited_sum-requires : goal.limited_sum-requires
limited_sum-requires c =
    let calls = c.args.calls.now in
    let told = c.args.told.now in
    let without = c.args.without_loads.now in
    let own = c.args.costs.now in
    let i = c.loop-i.i in
    let call : Call = get_or calls i (record { place = 0; targets = 0 }) in
    let said : Told = get_or told i (record { goes_on = false; inside = 0; full = 0 }) in
    let lt = c.loop-i-test.true in
    let long = c.requires.long in
    let call_is : slice_get calls i ≡ Some call = slice_get-get_or calls i (record { place = 0; targets = 0 }) lt in
    let said_is : slice_get told i ≡ Some said = slice_get-get_or told i (record { goes_on = false; inside = 0; full = 0 }) (omega arith) in
    let within : 2 * call.place < length own = c.requires.inside i (record { place = 0; targets = 0 }) lt in
    let was = not_yet own calls told without i c.loop-i.costs call c.requires.rising call_is c.loop-i.invariant in
    record {
      a = subst (λ (n : ℕ). n ≤ cycles_limit) (sym was) (c.requires.costs (2 * call.place) 0 within);
      b = subst (λ (n : ℕ). n ≤ cycles_limit) (sym c.added.ensures) (small_more said (get_or without (2 * call.place) false) (c.requires.small i (record { goes_on = false; inside = 0; full = 0 }) (omega arith)));
    }

pub loop-i-preserved : goal.loop-i-preserved
loop-i-preserved c =
    let calls = c.args.calls.now in
    let told = c.args.told.now in
    let without = c.args.without_loads.now in
    let own = c.args.costs.now in
    let i = c.loop-i.i in
    let call : Call = get_or calls i (record { place = 0; targets = 0 }) in
    let said : Told = get_or told i (record { goes_on = false; inside = 0; full = 0 }) in
    let lt = c.loop-i-test.true in
    let long = c.requires.long in
    let call_is : slice_get calls i ≡ Some call = slice_get-get_or calls i (record { place = 0; targets = 0 }) lt in
    let said_is : slice_get told i ≡ Some said = slice_get-get_or told i (record { goes_on = false; inside = 0; full = 0 }) (omega arith) in
    let within : 2 * call.place < length own = c.requires.inside i (record { place = 0; targets = 0 }) lt in
    let same = c.loop-i.invariant.long in
    added_more own calls told without i c.loop-i.costs call said c.limited_sum.result c.requires.rising call_is said_is (omega arith)
    (c.limited_sum.ensures.sum ∙ ap (λ (n : ℕ). limited (get_or c.loop-i.costs (2 * call.place) 0 + n)) c.added.ensures) c.loop-i.invariant

pub returns : goal.returns
returns c = added_all c.args.costs.now c.args.calls.now c.args.told.now c.args.without_loads.now c.loop-i.i c.loop-i.costs c.loop-i-test.false c.loop-i.invariant
