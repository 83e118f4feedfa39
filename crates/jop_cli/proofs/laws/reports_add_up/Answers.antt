use Rattle.std.proofs.Common.{arith}
use Rattle.source_places.specs.Methods.Sources.{source_at}
use Rattle.jop_cli.proofs.laws.reports_add_up.Goals as goal

pub returns : goal.returns
returns c cs t bound_of root r entries is are =
    let parts = c.parts_add_up.ensures _ t bound_of root r is in
    let lines = c.lines_add_up.ensures (source_at cs) r.rows.items entries are in
    omega (arith, parts, lines)
