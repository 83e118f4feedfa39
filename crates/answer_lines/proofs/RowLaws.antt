-- The lines, computed.
use Rattle.std.proofs.Common.{refl}
use Rattle.std.specs.Fmt.{digits}
use Rattle.answer_lines.specs.PlanRows.{PlanLineRows}
use Rattle.answer_lines.specs.WorkRows.{WorkLineRows}

pub rows : WorkLineRows
unfolding digits
rows = (refl, refl, refl)

pub plan_rows : PlanLineRows
unfolding digits
plan_rows = record { recursion = refl; lacking = refl; no_method = refl; late = refl; never = refl; ended = refl; spent = refl }
