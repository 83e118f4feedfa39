use Rattle.std.proofs.Common.{sym, subst}
use Rattle.bound_finder.specs.declared.found.Found.{Found}
use Rattle.bound_finder.specs.Found.{IsFoundOf}
use Rattle.bound_finder.proofs.Examining.{found_of}
use Rattle.bound_finder.proofs.found.examine.Goals as goal

pub returns-in-Ok-walk-clause-found : goal.returns-in-Ok-walk-clause-found
returns-in-Ok-walk-clause-found c =
    let task = c.args.task.now in
    let table = c.args.table.now in
    let coded = c.form_of.ensures.coded in
    let p = c.in_ok-p in
    let walked = c.in-Ok-walk in
    subst (λ (f : Found). IsFoundOf task table c.args.m f) (sym c.found_by.ensures)
    (found_of c.known_is.ensures c.found_shows.ensures c.found_in_text.ensures task table c.args.m coded.0 p.p c.in-Ok.fit walked.walked c.form_of.ensures.setting coded.1 coded.2 c.ranges.m.fits c.size_of.ensures c.requires.limited
    p.ensures.shape p.ensures.same p.ensures.bounds p.ensures.prepared c.in-Ok.ensures.fit walked.ensures.walked walked.ensures.small)
