use Rattle.std.proofs.Common.{sym, ◌∙◌, arith}
use Rattle.known_ints.proofs.Following.{inside}
use Rattle.known_ints.proofs.lines.before_within.Goals as goal

pub returns-else-last-places-clause-line : goal.returns-else-last-places-clause-line
returns-else-last-places-clause-line c P known m of =
    let before = sym c.before-2.ensures ∙ c.in_ok-last.was in
    let below = inside P known m c.args.code.now of c.starts_follow_one_another.ensures c.places-places.ensures.nodes c.args.place c.in_ok-last.last before in
    absurd (omega (arith, c.places-places.ensures.places, c.if-last-places.false))
