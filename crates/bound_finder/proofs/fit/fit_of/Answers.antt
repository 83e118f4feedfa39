use Rattle.std.proofs.Common.{sym, subst}
use Rattle.call_regions.specs.declared.answers.Region.{Region}
use Rattle.call_regions.specs.Regions.{IsRegionAnswer}
use Rattle.method_flow.specs.Flow.{IsFlowOf}
use Rattle.method_flow.specs.Regions.{IsWithin}
use Rattle.bound_finder.proofs.Fitting.{fits_of_region, no_fit}
use Rattle.bound_finder.proofs.fit.fit_of.Goals as goal

pub returns-in-Fits-clause-fit : goal.returns-in-Fits-clause-fit
returns-in-Fits-clause-fit c = λ P flow.
    let u = c.timing-t.result in
    let Q : Region → Type 0 = λ r. IsRegionAnswer P u.blocks u.block_words (IsWithin P c.args.m) r in
    let region = c.in_ok-methods.ensures.region P (subst (IsFlowOf P) (sym c.flow.ensures) flow) in
    fits_of_region P c.args.task.now.timing u c.args.m c.timing-t.ensures.timing c.in-Fits.methods c.as_slice.result.now c.loads.result c.as_slice.ensures
    (c.loads.ensures.of_program P (subst (IsFlowOf P) (sym c.flow-in-Fits.ensures) flow)) (subst Q c.in-Fits.is region)

pub returns-in-Exceeds-clause-fit : goal.returns-in-Exceeds-clause-fit
returns-in-Exceeds-clause-fit c = λ P flow.
    let u = c.timing-t.result in
    let Q : Region → Type 0 = λ r. IsRegionAnswer P u.blocks u.block_words (IsWithin P c.args.m) r in
    let region = c.in_ok-methods.ensures.region P (subst (IsFlowOf P) (sym c.flow.ensures) flow) in
    no_fit P c.args.task.now.timing u c.args.m c.timing-t.ensures.timing c.load.result (c.load.ensures.of_program P c.args.m (flow.methods c.args.m c.method.result.now c.method.ensures)) (subst Q c.in-Exceeds.is region)
