-- The rows, computed.
use Rattle.std.proofs.Common.{refl}
use Rattle.std.specs.Fmt.{digits}
use Rattle.slot_table.specs.Rows.{ExecutiveRows}

pub rows : ExecutiveRows
unfolding digits
rows = record { line = refl; front = refl; back = refl; frames = refl; last_short = refl; first_long = refl; most_front = refl; most_back = refl }
