use Rattle.std.proofs.Common.{◌≡◌, [], ◌∷◌, ◌++◌, map, ap, ◌∙◌}
use Rattle.std.proofs.lemmas.List.{map-append}
use Rattle.std.proofs.lemmas.Result.{err_from_is_err_and}
use Rattle.class_file.specs.InsideReading.{many_in}
use Rattle.frame_types.specs.Table.{type_in}
use Rattle.frame_types.specs.Steps.{named}
use Rattle.frame_types.proofs.ManyLemmas.{goes_on, stops, is_done}
use Rattle.frame_types.proofs.read.many_types.Goals as goal

pub returns-in_err-found : goal.returns-in_err-found
returns-in_err-found c =
    let p = err_from_is_err_and c.from_residual.result c.from_residual.ensures.1 in
    rw (p.1, p.2) (stops (type_in c.args.pool.now) c.in_err-found.field-0.0 (map (named c.args.pool.now) c.loop.types.items) c.args.count c.loop.counter c.loop.rest.now (many_in (type_in c.args.pool.now) c.args.count c.args.bytes.now) c.loop-test.true c.in_err-found.ensures c.loop.invariant)

pub loop-preserved : goal.loop-preserved
loop-preserved c =
    let pool = c.args.pool.now in
    let put : map (named pool) c.push.new.self.items ≡ map (named pool) c.loop.types.items ++ named pool c.in_ok-found.found ∷ [] = ap (map (named pool)) c.in_ok-push.ensures.items ∙ map-append (named pool) c.loop.types.items (c.in_ok-found.found ∷ []) in
    rw put (goes_on (type_in c.args.pool.now) (map (named c.args.pool.now) c.loop.types.items) c.args.count c.loop.counter c.loop.rest.now (named c.args.pool.now c.in_ok-found.found) c.in_ok-found.after.now (many_in (type_in c.args.pool.now) c.args.count c.args.bytes.now) c.loop-test.true c.in_ok-found.ensures c.loop.invariant)

pub returns : goal.returns
returns c = is_done (type_in c.args.pool.now) (map (named c.args.pool.now) c.loop.types.items) c.args.count c.loop.counter c.loop.rest.now (many_in (type_in c.args.pool.now) c.args.count c.args.bytes.now) c.loop-test.false c.loop.invariant
