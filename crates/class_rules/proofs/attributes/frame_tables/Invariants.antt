use Rattle.std.proofs.Common.{◌≡◌, take}
use Rattle.std.specs.Prelude.{count_by}
use Rattle.class_rules.specs.Tests.{is_frame_table}
use Rattle.class_rules.proofs.attributes.frame_tables.Given as goal

abbrev pub invariant-loop-a : goal.invariant-loop-a
invariant-loop-a l = l.count ≡ count_by (is_frame_table l.pool) (take l.a-index l.attributes)
