use Rattle.std.proofs.Common.{◌≡◌, ℕ, get_or, subst, inl, inr, arith}
use Rattle.std.proofs.lemmas.Bool.{both_ways, cases_lt}
use Rattle.loop_acts.specs.Writing.{WritesAt}
use Rattle.loop_finder.proofs.setting.first_write.Goals as goal

pub loop-place-preserved : goal.loop-place-preserved
loop-place-preserved c j below w =
    elim (cases_lt j c.loop-place.place-index) [
      | inl less ↦ c.loop-place.invariant j less w
      | inr ge ↦
          let same : j ≡ c.loop-place.place-index = omega arith in
          both_ways c.writes_at.result c.if-writes_at.false (c.writes_at.ensures.1 (subst (λ (i : ℕ). WritesAt c.args.acts.now c.args.local (get_or c.args.places.now i 0)) same w))
    ]

pub returns : goal.returns
returns c i below =
    let done = c.loop-place-test.false in
    c.loop-place.invariant i (omega arith)
