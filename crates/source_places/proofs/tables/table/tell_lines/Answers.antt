use Rattle.std.proofs.Common.{◌∙◌, arith}
use Rattle.source_places.specs.Tables.Lines.{starts_of}
use Rattle.source_places.proofs.TablesLemmas.PlaceLemmas.{carried_line}
use Rattle.source_places.proofs.tables.table.tell_lines.Goals as goal

pub returns : goal.returns
returns c place within =
    c.carry.ensures place within ∙ carried_line c.put_starts.new.lines (starts_of c.args.pool.now c.args.code.now) place (omega (arith, within, c.carry.auto.lines)) c.put_starts.ensures
