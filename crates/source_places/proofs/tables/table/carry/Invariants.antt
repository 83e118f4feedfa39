use Rattle.std.proofs.Common.{◌≡◌, ℕ, suc, ◌<◌, ◌≤◌, slice_index_or, None}
use Rattle.source_places.specs.Tables.Table.{carried}
use Rattle.source_places.proofs.tables.table.carry.Given as goal

abbrev pub invariant-loop-line : goal.invariant-loop-line
invariant-loop-line l = record {
  done : (place : ℕ) → place < l.line-index → slice_index_or l.lines place None ≡ carried l.fn.lines (suc place);
  left : (place : ℕ) → l.line-index ≤ place → slice_index_or l.lines place None ≡ slice_index_or l.fn.lines place None;
  last : l.last ≡ carried l.fn.lines l.line-index;
}
