use Rattle.std.proofs.Common.{◌≡◌, ◌≤◌, take}
use Rattle.source_places.specs.Tables.Source.{folder_in}
use Rattle.source_places.proofs.tables.source.folder_in.Given as goal

abbrev pub invariant-loop-i : goal.invariant-loop-i
invariant-loop-i l = (l.length ≤ l.i) × (take l.length l.name ≡ folder_in (take l.i l.name))
