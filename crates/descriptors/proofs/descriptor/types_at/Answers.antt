use Rattle.std.proofs.Common.{◌≡◌, None, rules, length}
use Rattle.std.proofs.lemmas.Result.{err_from_is_err_and}
use Rattle.descriptors.specs.Parsing.{behind, types_in}
use Rattle.descriptors.proofs.TypeLemmas.{types_end, types_go_on, types_stop, types_none}
use Rattle.descriptors.proofs.descriptor.types_at.Goals as goal

pub returns-in-Some : goal.returns-in-Some
returns-in-Some c = types_end c.loop.types.items (length c.args.units.now) c.loop.counter c.loop.rest.now c.in-Some.after.now (types_in (length c.args.units.now) c.args.units.now) c.loop-test.true c.in-Some.ensures c.loop.invariant

pub returns-in_err-found : goal.returns-in_err-found
returns-in_err-found c =
    let p = err_from_is_err_and c.from_residual.result c.from_residual.ensures.1 in
    let shut : None ≡ behind 41 c.loop.rest.now = search rules in
    rw (p.1, p.2) (types_stop c.in_err-found.field-0.0 c.loop.types.items (length c.args.units.now) c.loop.counter c.loop.rest.now (types_in (length c.args.units.now) c.args.units.now) c.loop-test.true shut c.in_err-found.ensures c.loop.invariant)

pub loop-preserved : goal.loop-preserved
loop-preserved c =
    let shut : None ≡ behind 41 c.loop.rest.now = search rules in
    rw c.in_ok-push.ensures.items (types_go_on c.loop.types.items (length c.args.units.now) c.loop.counter c.loop.rest.now c.in_ok-found.found c.in_ok-found.after.now (types_in (length c.args.units.now) c.args.units.now) c.loop-test.true shut c.in_ok-found.ensures c.loop.invariant)

pub returns : goal.returns
returns c = types_none c.loop.types.items (length c.args.units.now) c.loop.counter c.loop.rest.now (types_in (length c.args.units.now) c.args.units.now) c.loop-test.false c.loop.invariant
