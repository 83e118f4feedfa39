use Rattle.std.proofs.Common.{sym, ◌∙◌}
use Rattle.source_places.proofs.TablesLemmas.NearLemmas.{past_stays, first_found, nearer_found, nearer_stays}
use Rattle.source_places.proofs.tables.starts.nearer.Goals as goal

pub returns-then-place-next : goal.returns-then-place-next
returns-then-place-next c es h = past_stays c.args.place es c.args.next c.args.before c.if-place-next.true h

pub returns-in-None : goal.returns-in-None
returns-in-None c es h = first_found c.args.place es c.args.next c.if-place-next.false (sym c.in-None.is ∙ h)

pub returns-then-next-found : goal.returns-then-next-found
returns-then-next-found c es h = nearer_stays c.args.place es c.args.next c.in-Some.found c.if-next-found.true (sym c.in-Some.is ∙ h)

pub returns-else-next-found : goal.returns-else-next-found
returns-else-next-found c es h = nearer_found c.args.place es c.args.next c.in-Some.found c.if-place-next.false c.if-next-found.false (sym c.in-Some.is ∙ h)
