use Rattle.std.proofs.Common.{◌≡◌, ℕ, ◌+◌, ◌-◌, pos, get_or, ap, inl, inr, arith}
use Rattle.std.proofs.lemmas.Bool.{cases_lt, false≢true}
use Rattle.section_check.proofs.Rising.{listed_at, listed_long}
use Rattle.section_check.proofs.form.nodes_rise.Goals as goal

pub returns-then-nodes-i : goal.returns-then-nodes-i
returns-then-nodes-i c = (
  λ t. absurd (false≢true t),
  λ rise.
      let ps = c.args.nodes.now in
      let i = c.loop-i.i in
      let below = c.loop-i-test.true in
      let first = c.loop-i.auto.i in
      let long = listed_long ps in
      let up = rise (i - 1) (omega arith) in
      let next : i - 1 + 1 ≡ i = omega arith in
      let here = ap (λ (j : ℕ). (get_or ps j (0, pos 0)).0) next in
      let falls = c.if-nodes-i.true in
      absurd (omega (arith, listed_at ps (i - 1) (omega arith), listed_at ps (i - 1 + 1) (omega arith))),
)

pub loop-i-preserved : goal.loop-i-preserved
loop-i-preserved c = λ k lt.
    let ps = c.args.nodes.now in
    let i = c.loop-i.i in
    elim (cases_lt (k + 1) i) [
      | inl early ↦ c.loop-i.invariant k early
      | inr late ↦
          let below = c.loop-i-test.true in
          let first = c.loop-i.auto.i in
          let before : k ≡ i - 1 = omega arith in
          let next : k + 1 ≡ i = omega arith in
          let a = ap (λ (j : ℕ). (get_or ps j (0, pos 0)).0) before in
          let b = ap (λ (j : ℕ). (get_or ps j (0, pos 0)).0) next in
          let rises = c.if-nodes-i.false in
          omega (arith, listed_at ps k (omega arith), listed_at ps (k + 1) (omega arith))
    ]
