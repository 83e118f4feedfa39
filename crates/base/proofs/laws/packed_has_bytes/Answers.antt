use Rattle.base.proofs.Packs.{byte_of-packed}
use Rattle.base.proofs.laws.packed_has_bytes.Goals as goal

pub returns : goal.returns
returns c = byte_of-packed
