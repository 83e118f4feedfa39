use Rattle.std.proofs.Common.{subst}
use Rattle.call_regions.specs.declared.answers.Region.{Region}
use Rattle.call_regions.specs.Regions.{IsRegionAnswer}
use Rattle.method_flow.specs.Regions.{IsWithin}
use Rattle.cert_checker.proofs.Regions.{fit_of_region, no_fit}
use Rattle.cert_checker.proofs.task.fit_of.Goals as goal

pub returns-in-Fits : goal.returns-in-Fits
returns-in-Fits c = λ P flow.
    let t = c.args.t in
    let Q : Region → Type 0 = λ r. IsRegionAnswer P t.blocks t.block_words (IsWithin P c.args.m) r in
    fit_of_region P t c.args.m c.in-Fits.methods c.as_slice.result.now c.loads.result c.as_slice.ensures (c.loads.ensures.of_program P flow) (subst Q c.in-Fits.is (c.in_ok-methods.ensures.region P flow))

pub returns-in-Exceeds : goal.returns-in-Exceeds
returns-in-Exceeds c = λ P flow.
    let t = c.args.t in
    let Q : Region → Type 0 = λ r. IsRegionAnswer P t.blocks t.block_words (IsWithin P c.args.m) r in
    no_fit P t c.args.m (subst Q c.in-Exceeds.is (c.in_ok-methods.ensures.region P flow))
