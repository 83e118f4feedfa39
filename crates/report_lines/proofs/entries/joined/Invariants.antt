use Rattle.std.proofs.Common.{◌≡◌, map, take}
use Rattle.std.specs.List.{IsDistinct}
use Rattle.report_lines.specs.Entries.{key_of, same_key}
use Rattle.report_lines.specs.Joining.{AreJoined}
use Rattle.report_lines.specs.Told.{source_told}
use Rattle.report_lines.proofs.entries.joined.Given as goal

abbrev pub invariant-loop-row : goal.invariant-loop-row
invariant-loop-row l = record {
  keys : l.keys.keys ≡ map (key_of (source_told l.methods)) l.entries.items;
  distinct : IsDistinct same_key l.keys.keys;
  joined : AreJoined (source_told l.methods) (take l.row-index l.rows) l.entries.items;
}
