use Rattle.std.proofs.Common.{refl, sym, subst}
use Rattle.call_regions.specs.declared.answers.Region.{Region}
use Rattle.call_regions.specs.Regions.{IsRegionAnswer}
use Rattle.method_flow.specs.Flow.{IsFlowOf}
use Rattle.method_flow.specs.Regions.{IsWithinNodes}
use Rattle.bound_finder.specs.Prepared.IsCandidate.{no_call}
use Rattle.bound_finder.proofs.CallNodes.{is_among, not_among}
use Rattle.bound_finder.proofs.Fitting.{joined_region, no_region}
use Rattle.bound_finder.proofs.charges.candidate.Goals as goal

pub returns-then-not-has_call : goal.returns-then-not-has_call
returns-then-not-has_call c = λ P flow.
    no_call
    (not_among c.starts_follow_one_another.ensures c.rows_are_of_their_kinds.ensures c.args.task.now c.args.m c.args.call_nodes.now c.args.members.now c.requires.method c.requires.calls P flow c.if-not-has_call.ensures)
    refl

pub returns-in-Fits : goal.returns-in-Fits
returns-in-Fits c = λ P flow.
    let u = c.timing-t.result in
    let members = c.args.members.now in
    let Q : Region → Type 0 = λ r. IsRegionAnswer P u.blocks u.block_words (IsWithinNodes P c.args.m members) r in
    let region = c.in_ok-methods.ensures.region P (subst (IsFlowOf P) (sym c.flow.ensures) flow) in
    let call =
    is_among c.starts_follow_one_another.ensures c.rows_are_of_their_kinds.ensures c.args.task.now c.args.m c.args.call_nodes.now members c.requires.method c.requires.calls P flow c.if-not-has_call.ensures in
    joined_region P c.args.task.now.timing u c.args.m c.timing-t.ensures.timing members c.in-Fits.methods c.as_slice.result.now c.loads.result c.as_slice.ensures
    (c.loads.ensures.of_program P (subst (IsFlowOf P) (sym c.flow-in-Fits.ensures) flow)) call (subst Q c.in-Fits.is region)

pub returns-in-Exceeds : goal.returns-in-Exceeds
returns-in-Exceeds c = λ P flow.
    let u = c.timing-t.result in
    let members = c.args.members.now in
    let Q : Region → Type 0 = λ r. IsRegionAnswer P u.blocks u.block_words (IsWithinNodes P c.args.m members) r in
    let region = c.in_ok-methods.ensures.region P (subst (IsFlowOf P) (sym c.flow.ensures) flow) in
    no_region P c.args.task.now.timing u c.args.m c.timing-t.ensures.timing members (subst Q c.in-Exceeds.is region)
