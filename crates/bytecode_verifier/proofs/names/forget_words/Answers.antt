use Rattle.std.proofs.Common.{◌≡◌, ◌+◌, ◌-◌, ℕ, take, sym, subst, arith}
use Rattle.bytecode_typing.specs.Types.{Top}
use Rattle.verifier_types.specs.Locals.{filled}
use Rattle.bytecode_verifier.specs.Listed.{IsListed}
use Rattle.bytecode_verifier.proofs.ListedLemmas.{lists_again, lists_after, lists_with, listed_changed, forget_filled, taken_all}
use Rattle.bytecode_verifier.proofs.names.forget_words.Goals as goal

pub loop-index-init : goal.loop-index-init
loop-index-init c =
    let t = c.args.lists.now in (
      omega arith,
      lists_again t,
      λ words fits long below. (below, λ l. subst (λ ws. IsListed t c.args.list (filled t.max_locals ws)) (sym (taken_all c.args.end words long)) l),
    )

pub loop-index-preserved : goal.loop-index-preserved
loop-index-preserved c =
    let some = c.loop-index-test.true in
    let i = c.loop-index.index - 1 in
    let next : i + 1 ≡ c.loop-index.index = omega (arith, some) in
    let inv = c.loop-index.invariant in
    let n = c.args.lists.now.max_locals in
    let old = c.loop-index.lists in
    let new = c.push_with.new.self in (
      (let below = inv.0 in omega (arith, below)),
      lists_after _ old new inv.1 (lists_with old new _ c.in_ok-now.ensures.list),
      λ words fits long below.
          let r = inv.2 words fits long below in (
            (let least = r.0 in omega (arith, least, some)),
            λ first.
                let here : IsListed old c.loop-index.now (filled n (take (i + 1) words)) = subst (λ (m : ℕ). IsListed old c.loop-index.now (filled n (take m words))) (sym next) (r.1 first) in
                subst (λ ws. IsListed new c.in_ok-now.now ws) (forget_filled n words i (let most = inv.0 in omega (arith, most, some, long)) fits)
                (listed_changed old new c.loop-index.now c.in_ok-now.now i Top (filled n (take (i + 1) words)) c.in_ok-now.ensures.list c.in_ok-now.ensures.number here),
          ),
    )

pub returns-clause-lists : goal.returns-clause-lists
returns-clause-lists c = c.loop-index.invariant.1

pub returns-clause-list : goal.returns-clause-list
returns-clause-list c = λ words fits long below l.
    let r = c.loop-index.invariant.2 words fits long below in
    let end = c.loop-index-test.false in
    let least = r.0 in
    let same : c.loop-index.index ≡ c.args.from = omega (arith, end, least) in
    subst (λ (m : ℕ). IsListed c.loop-index.lists c.loop-index.now (filled c.args.lists.now.max_locals (take m words))) same (r.1 l)
