use Rattle.std.proofs.Common.{◌≡◌, ℕ, ◌+◌, ◌-◌, pos, get_or, ap, inl, inr, arith}
use Rattle.std.proofs.lemmas.Bool.{cases_lt}
use Rattle.section_check.proofs.Rising.{listed_at}
use Rattle.fact_bound.proofs.grammar.nodes_rise.Goals as goal

pub loop-i-preserved : goal.loop-i-preserved
loop-i-preserved c = λ k lt.
    let ps = c.args.nodes.now in
    let i = c.loop-i.i in
    elim (cases_lt (k + 1) i) [
      | inl early ↦ c.loop-i.invariant k early
      | inr late ↦
          let below = c.loop-i-test.true in
          let first = c.loop-i.auto.i in
          let before : k ≡ i - 1 = omega arith in
          let next : k + 1 ≡ i = omega arith in
          let a = ap (λ (j : ℕ). (get_or ps j (0, pos 0)).0) before in
          let b = ap (λ (j : ℕ). (get_or ps j (0, pos 0)).0) next in
          let rises = c.if-nodes-i.false in
          omega (arith, listed_at ps k (omega arith), listed_at ps (k + 1) (omega arith))
    ]
