use Rattle.std.proofs.Common.{◌≡◌, ℕ, ◌<◌, List, ◌++◌, length, slice_index_or, None}
use Rattle.std.specs.Option.{option_or}
use Rattle.source_places.specs.declared.tables.starts.LineStart.{LineStart}
use Rattle.source_places.specs.Tables.Lines.{starts_in}
use Rattle.source_places.specs.Tables.Table.{last_at}
use Rattle.source_places.proofs.tables.table.put_table.Given as goal

abbrev pub invariant-loop-left : goal.invariant-loop-left
invariant-loop-left l =
    (done : List LineStart) × (done ++ starts_in l.left ≡ starts_in l.fn.entries)
    × ((place : ℕ) → place < length l.lines → slice_index_or l.lines place None ≡ option_or (last_at place done) (slice_index_or l.fn.lines place None))

abbrev pub decreases-loop-left : goal.decreases-loop-left
decreases-loop-left l = length l.left
