use Rattle.std.proofs.Common.{ℕ, List, length, Option, sym, ap, ◌∙◌, subst}
use Rattle.bound_finder.specs.Known.{ForEach}
use Rattle.bound_finder.specs.Prepared.{AreCandidates}
use Rattle.bound_finder.proofs.Charging.{outermost_charges, charged_apart}
use Rattle.bound_finder.proofs.charges.charges_of.Goals as goal

pub returns-clause-charges : goal.returns-clause-charges
returns-clause-charges c =
    let task = c.args.task.now in
    let s = c.args.s.now in
    let value = c.deref.ensures.value in
    let each = subst (λ (cs : List (Option ℕ)). ForEach task (λ P. AreCandidates P task.timing c.args.m s cs)) (sym value) c.in_ok-candidates.ensures.each in
    outermost_charges c.outermost_are_apart.ensures.others task c.args.m c.requires.shape.0 s c.requires.shape.1 c.args.fits c.deref.result.now c.outermost_charges.result c.if-fits.false (ap length value ∙ c.in_ok-candidates.ensures.long) each
    c.outermost_charges.ensures.flags c.outermost_charges.ensures.loads

pub returns-clause-apart : goal.returns-clause-apart
returns-clause-apart c = charged_apart c.outermost_are_apart.ensures.apart c.requires.shape.0 c.args.s.now c.requires.shape.1 c.deref.result.now c.outermost_charges.result c.outermost_charges.ensures.flags
