use Rattle.std.proofs.Common.{rules, ◌≡◌, Option, Some, None, map}
use Rattle.std.specs.Prelude.{nat_le, if◌then◌else◌, List}
use Rattle.frame_types.specs.declared.extents.Extent.{Extent}
use Rattle.frame_types.specs.Types.{stack_words}
use Rattle.frame_types.specs.Extents.{entry_named, whole_extent, extents_behind, first_words, first_extents, AreLocals}
use Rattle.frame_types.proofs.StepLemmas.{none_if, some_if, first_fits, no_room, steps_are, begun_room}
use Rattle.frame_types.proofs.mapping.steps_with.Goals as goal

pub returns-in_default : goal.returns-in_default
returns-in_default c = λ f m begins.
    let k = c.args.code.now in
    let es = map (entry_named f.pool) c.args.entries.items in
    let ls = begins.0 in
    let none : Option (List Extent) = None in
    let first = c.args.first.now in
    let is : none ≡ (if nat_le (first_words first) k.max_locals then Some (first_extents (whole_extent k.max_locals) first) else None) = search rules in
    let room = begun_room f m k es first ls none begins.2 is in
    no_room f m k es ls begins.1 (none_if (nat_le (stack_words ls) k.max_locals) (extents_behind (whole_extent k.max_locals) ls) room)

pub returns : goal.returns
returns c = λ f m begins.
    let k = c.args.code.now in
    let es = map (entry_named f.pool) c.args.entries.items in
    let ls = begins.0 in
    let extents = c.in-Some.extents.items in
    let first = c.args.first.now in
    let is : Some extents ≡ (if nat_le (first_words first) k.max_locals then Some (first_extents (whole_extent k.max_locals) first) else None) = search rules in
    let room = some_if (nat_le (stack_words ls) k.max_locals) (extents_behind (whole_extent k.max_locals) ls) extents (begun_room f m k es first ls (Some extents) begins.2 is) in
    let are : AreLocals k ls extents = record { extents = room.1; fit = first_fits f m k es ls begins.1 room.0 } in
    steps_are f m k es ls c.steps_from.result begins.1 room.0 (c.steps_from.ensures f.pool ls are)
