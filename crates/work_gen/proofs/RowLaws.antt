-- The rows, computed.
use Rattle.std.proofs.Common.{refl}
use Rattle.std.specs.Fmt.{digits}
use Rattle.work_gen.specs.Work.{main_pieces, bound_line, bounds_text}
use Rattle.work_gen.specs.Rows.{WorkRows}

pub rows : WorkRows
unfolding digits main_pieces bound_line bounds_text
rows = (refl, refl, refl, refl, refl, refl, refl, refl)
