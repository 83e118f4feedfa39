use Rattle.std.proofs.Common.{◌≡◌, ℕ, ◌<◌, length, take, slice_index_or, None}
use Rattle.std.specs.List.{flat_map}
use Rattle.source_places.specs.Tables.Lines.{starts_by}
use Rattle.source_places.specs.Tables.Table.{last_at}
use Rattle.source_places.proofs.tables.table.put_starts.Given as goal

abbrev pub invariant-loop-name : goal.invariant-loop-name
invariant-loop-name l = (place : ℕ) → place < length l.lines → slice_index_or l.lines place None ≡ last_at place (flat_map (starts_by l.pool) (take l.name-index l.code.attributes))
