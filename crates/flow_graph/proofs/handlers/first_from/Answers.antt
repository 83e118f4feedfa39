use Rattle.std.proofs.Common.{Ok, Err}
use Rattle.std.proofs.lemmas.List.Sorted.{searched}
use Rattle.lists.specs.Members.{rising_all}
use Rattle.flow_graph.proofs.Catching.{found_first, next_first}
use Rattle.flow_graph.proofs.handlers.first_from.Goals as goal

pub returns-in-Ok : goal.returns-in-Ok
returns-in-Ok c =
    let xs = c.args.places.now in
    let f = searched xs c.args.from (Ok c.in-Ok.found) c.in-Ok.ensures.position (rising_all xs c.requires) in
    found_first xs c.args.from c.in-Ok.found c.requires f.0 f.1

pub returns-in-Err : goal.returns-in-Err
returns-in-Err c =
    let xs = c.args.places.now in
    let f = searched xs c.args.from (Err c.in-Err.next) c.in-Err.ensures.position (rising_all xs c.requires) in
    next_first xs c.args.from c.in-Err.next f.0 f.1 f.2
