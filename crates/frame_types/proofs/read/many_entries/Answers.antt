use Rattle.std.proofs.Common.{◌≡◌, [], ◌∷◌, ◌++◌, map, ap, ◌∙◌}
use Rattle.std.proofs.lemmas.List.{map-append}
use Rattle.std.proofs.lemmas.Result.{err_from_is_err_and}
use Rattle.class_file.specs.InsideReading.{many_in}
use Rattle.frame_types.specs.Table.{map_entry_in}
use Rattle.frame_types.specs.Extents.{entry_named}
use Rattle.frame_types.proofs.ManyLemmas.{goes_on, stops, is_done}
use Rattle.frame_types.proofs.read.many_entries.Goals as goal

pub returns-in_err-entry : goal.returns-in_err-entry
returns-in_err-entry c =
    let p = err_from_is_err_and c.from_residual.result c.from_residual.ensures.1 in
    rw (p.1, p.2) (stops (map_entry_in c.args.pool.now) c.in_err-entry.field-0.0 (map (entry_named c.args.pool.now) c.loop.entries.items) c.args.count c.loop.counter c.loop.rest.now (many_in (map_entry_in c.args.pool.now) c.args.count c.args.bytes.now) c.loop-test.true c.in_err-entry.ensures c.loop.invariant)

pub loop-preserved : goal.loop-preserved
loop-preserved c =
    let pool = c.args.pool.now in
    let put : map (entry_named pool) c.push.new.self.items ≡ map (entry_named pool) c.loop.entries.items ++ entry_named pool c.in_ok-entry.entry ∷ [] = ap (map (entry_named pool)) c.in_ok-push.ensures.items ∙ map-append (entry_named pool) c.loop.entries.items (c.in_ok-entry.entry ∷ []) in
    rw put (goes_on (map_entry_in c.args.pool.now) (map (entry_named c.args.pool.now) c.loop.entries.items) c.args.count c.loop.counter c.loop.rest.now (entry_named c.args.pool.now c.in_ok-entry.entry) c.in_ok-entry.after.now (many_in (map_entry_in c.args.pool.now) c.args.count c.args.bytes.now) c.loop-test.true c.in_ok-entry.ensures c.loop.invariant)

pub returns : goal.returns
returns c = is_done (map_entry_in c.args.pool.now) (map (entry_named c.args.pool.now) c.loop.entries.items) c.args.count c.loop.counter c.loop.rest.now (many_in (map_entry_in c.args.pool.now) c.args.count c.args.bytes.now) c.loop-test.false c.loop.invariant
