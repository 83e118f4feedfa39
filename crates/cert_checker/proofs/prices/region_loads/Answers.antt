use Rattle.std.proofs.Common.{sym, subst}
use Rattle.call_regions.specs.declared.answers.Region.{Region}
use Rattle.call_regions.specs.Regions.{IsRegionAnswer}
use Rattle.method_flow.specs.Flow.{IsFlowOf}
use Rattle.method_flow.specs.Regions.{IsWithinNodes}
use Rattle.cert_checker.proofs.Regions.{fee_of_region, no_fee}
use Rattle.cert_checker.proofs.prices.region_loads.Goals as goal

pub returns-in-Fits : goal.returns-in-Fits
returns-in-Fits c = λ P flow.
    let u = c.timing-t.result in
    let Q : Region → Type 0 = λ r. IsRegionAnswer P u.blocks u.block_words (IsWithinNodes P c.args.m c.args.members.now) r in
    let region = c.in_ok-methods.ensures.region P (subst (IsFlowOf P) (sym c.flow.ensures.flow) flow) in
    fee_of_region P c.args.task.now.timing u c.args.m c.args.members.now c.in-Fits.methods c.as_slice.result.now c.loads.result c.timing-t.ensures.timing c.as_slice.ensures
    (c.loads.ensures.of_program P (subst (IsFlowOf P) (sym c.flow-in-Fits.ensures.flow) flow)) (subst Q c.in-Fits.is region)

pub returns-in-Exceeds : goal.returns-in-Exceeds
returns-in-Exceeds c = λ P flow.
    let u = c.timing-t.result in
    let Q : Region → Type 0 = λ r. IsRegionAnswer P u.blocks u.block_words (IsWithinNodes P c.args.m c.args.members.now) r in
    let region = c.in_ok-methods.ensures.region P (subst (IsFlowOf P) (sym c.flow.ensures.flow) flow) in
    no_fee P c.args.task.now.timing u c.args.m c.args.members.now c.timing-t.ensures.timing (subst Q c.in-Exceeds.is region)
