use Rattle.std.proofs.Common.{◌≡◌, take}
use Rattle.std.specs.List.{flat_map}
use Rattle.source_places.specs.Tables.Lines.{nearest, starts_by}
use Rattle.source_places.proofs.tables.lines.line_at.Given as goal

abbrev pub invariant-loop-name : goal.invariant-loop-name
invariant-loop-name l = l.found ≡ nearest l.place (flat_map (starts_by l.pool) (take l.name-index l.code.attributes))
