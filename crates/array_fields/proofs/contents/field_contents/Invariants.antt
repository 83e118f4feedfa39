use Rattle.std.proofs.Common.{take}
use Rattle.array_fields.specs.Puts.{AreContents, field_target}
use Rattle.array_fields.proofs.contents.field_contents.Given as goal

abbrev pub invariant-loop-put : goal.invariant-loop-put
invariant-loop-put l = AreContents (field_target l.flags) l.count (take l.put-index l.puts) l.contents.items
