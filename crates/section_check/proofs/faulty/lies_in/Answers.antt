use Rattle.std.proofs.Common.{ℕ, Contains, refl, ◌∙◌, subst, arith, below_more}
use Rattle.std.proofs.lemmas.List.{get_or_default}
use Rattle.section_check.proofs.faulty.lies_in.Goals as goal

pub loop-u-preserved : goal.loop-u-preserved
loop-u-preserved c = below_more _ _ c.loop-u.invariant (c.has.ensures.0 c.if-not-has.false)

pub returns : goal.returns
returns c =
    let a = c.args.a.now in
    let P : ℕ → Type 0 = λ x. Contains c.args.b.now x in
    let end = c.loop-u-test.false in
    (λ t x has. let below = has.1 in subst P (get_or_default a has.0 0 x has.1 ∙ has.2) (c.loop-u.invariant has.0 (omega arith)), λ w. refl)
