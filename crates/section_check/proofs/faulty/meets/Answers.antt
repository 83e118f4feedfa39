use Rattle.std.proofs.Common.{ℕ, Contains, sym, ◌∙◌, subst, arith, below_more}
use Rattle.std.proofs.lemmas.Bool.{false≢true}
use Rattle.std.proofs.lemmas.List.{get_or_default}
use Rattle.section_check.proofs.faulty.meets.Goals as goal

pub loop-u-preserved : goal.loop-u-preserved
loop-u-preserved c = below_more _ _ c.loop-u.invariant (λ has. false≢true (sym c.if-has.false ∙ c.has.ensures.1 has))

pub returns : goal.returns
returns c =
    let a = c.args.a.now in
    let P : ℕ → Type 0 = λ x. Contains c.args.b.now x in
    let end = c.loop-u-test.false in (
      λ t. absurd (false≢true t),
      λ m. let below = m.1.1 in absurd (c.loop-u.invariant m.1.0 (omega arith) (subst P (sym (get_or_default a m.1.0 0 m.0 m.1.1 ∙ m.1.2)) m.2)),
    )
