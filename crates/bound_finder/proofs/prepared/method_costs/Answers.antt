use Rattle.std.proofs.Common.{◌≡◌, ◌*◌, ◌<◌, ◌^◌, ℕ, List, length, All, sym, ap, ◌∙◌, subst, arith}
use Rattle.std.specs.List.Sorted.{IsStrictlyIncreasing}
use Rattle.std.proofs.lemmas.Result.{IfOk-weaker}
use Rattle.method_flow.specs.declared.flow.Call.{Call}
use Rattle.method_flow.specs.Flow.{places_of}
use Rattle.bound_finder.proofs.Coding.{places_within, numbers_within}
use Rattle.bound_finder.proofs.Preparing.{count_is, method_costs_are}
use Rattle.bound_finder.proofs.prepared.method_costs.Goals as goal

pub costs-requires : goal.costs-requires
costs-requires c =
    let set = c.args.task.now in
    let k = c.method-method.result.now in
    let calls = c.calls.result.now in
    let own = c.deref.result.now in
    let is = c.method-method.ensures in
    let g = c.requires.shape k is in
    let long : length own ≡ 2 * length k.code = ap length c.deref.ensures.value ∙ c.in_ok-own.ensures.long in
    let P : List Call → Type 0 = λ cs. IsStrictlyIncreasing (places_of cs) in
    let S : List ℕ → Type 0 = λ us. All (λ (u : ℕ). u < 2 ^ 61) us in
    let small : All (λ (u : ℕ). u < 2 ^ 61) own = subst S (sym c.deref.ensures.value) c.in_ok-own.ensures.small in
    record {
      shape = (g.0, g.3);
      flags = c.requires.flags;
      own = long ∙ sym (g.3.size ∙ g.2);
      long = c.requires.told.long ∙ count_is set c.args.m k is ∙ ap length (sym c.calls.ensures.calls);
      rising = subst P (sym c.calls.ensures.calls) c.calls.ensures.whole.rising;
      inside = numbers_within k calls (length own) long (places_within k calls c.calls.ensures.whole (c.starts_follow_one_another.ensures k.code) c.calls.ensures.calls);
      costs = λ i d lt. (let h = small i d lt in omega arith);
      small = c.requires.told.small;
    }

pub returns : goal.returns
returns c =
    let set = c.args.task.now in
    let k = c.method-method.result.now in
    let own = c.deref.result.now in
    let is = c.method-method.ensures in
    let g = c.requires.shape k is in
    let long : length own ≡ 2 * length k.code = ap length c.deref.ensures.value ∙ c.in_ok-own.ensures.long in
    record {
      long = IfOk-weaker c.costs.result _ _ (λ v are. are.2.long ∙ long ∙ sym (g.3.size ∙ g.2)) c.costs.ensures;
      costs =
          IfOk-weaker c.costs.result _ _
          (λ v are. method_costs_are set c.args.m c.args.s.now c.args.fits c.args.flags.now c.args.told.now k c.timing.result c.in_ok-own.own.items own c.calls.result.now v.items is c.timing.ensures.timing c.calls.ensures.calls c.deref.ensures.value
          c.in_ok-own.ensures.costs c.in_ok-own.ensures.small are)
          c.costs.ensures;
    }
