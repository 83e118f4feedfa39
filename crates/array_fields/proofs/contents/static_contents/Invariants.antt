use Rattle.std.proofs.Common.{take}
use Rattle.array_fields.specs.Puts.{AreContents, static_target}
use Rattle.array_fields.proofs.contents.static_contents.Given as goal

abbrev pub invariant-loop-put : goal.invariant-loop-put
invariant-loop-put l = AreContents static_target l.count (take l.put-index l.puts) l.contents.items
