use Rattle.std.proofs.Common.{◌≡◌, length, map, take}
use Rattle.class_hierarchy.specs.Selecting.{selected_at, AreKnown}
use Rattle.class_hierarchy.proofs.receivers.tabled_each.Given as goal

abbrev pub invariant-loop-receiver : goal.invariant-loop-receiver
invariant-loop-receiver l =
    AreKnown (selected_at l.resolved.classes.now l.resolved.of_interface l.resolved.method.place) (length l.resolved.classes.now) l.table.items
    × (l.places.items ≡ map (λ c. (selected_at l.resolved.classes.now l.resolved.of_interface l.resolved.method.place c).place) (take l.receiver-index l.receivers))
