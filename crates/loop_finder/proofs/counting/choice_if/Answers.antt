use Rattle.std.proofs.Common.{◌≡◌, ℕ, ◌*◌, sym, ap, ◌∙◌}
use Rattle.loop_marks.specs.Reach.{flag_at}
use Rattle.loop_finder.proofs.Known.{choice_of, no_choice_inner}
use Rattle.loop_finder.proofs.counting.choice_if.Goals as goal

pub returns-then-is_inner-clause-choice : goal.returns-then-is_inner-clause-choice
returns-then-is_inner-clause-choice c marks before =
    let k = c.args.marks.now in
    let inner : c.is_inner.result ≡ flag_at k.inner (2 * c.args.place) = c.is_inner.ensures ∙ ap (λ (n : ℕ). flag_at k.inner (2 * n)) c.from.ensures in
    no_choice_inner c.args.body.now k.header c.args.place ((marks.inner (2 * c.args.place)).0 (sym inner ∙ c.if-is_inner.true))

pub returns-clause-choice : goal.returns-clause-choice
returns-clause-choice c marks before = choice_of c.args.body.now c.args.marks.now.header c.args.place c.choice_at.result (c.choice_at.ensures.choice marks before)
