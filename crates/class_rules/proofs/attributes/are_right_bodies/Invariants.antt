use Rattle.std.proofs.Common.{◌≡◌, true, take}
use Rattle.std.specs.List.{list_all}
use Rattle.class_rules.specs.Tests.{is_right_body}
use Rattle.class_rules.proofs.attributes.are_right_bodies.Given as goal

abbrev pub invariant-loop-a : goal.invariant-loop-a
invariant-loop-a l = list_all (λ a. is_right_body l.pool a.body) (take l.a-index l.attributes) ≡ true
