use Rattle.std.proofs.Common.{◌≡◌, map, take}
use Rattle.class_hierarchy.specs.Selecting.{selected_at}
use Rattle.class_hierarchy.proofs.receivers.decided_each.Given as goal

abbrev pub invariant-loop-receiver : goal.invariant-loop-receiver
invariant-loop-receiver l = l.places.items ≡ map (λ c. (selected_at l.resolved.classes.now l.resolved.of_interface l.resolved.method.place c).place) (take l.receiver-index l.receivers)
