use Rattle.std.proofs.Common.{arith}
use Rattle.image_file.proofs.Numbers.{u2_read}
use Rattle.image_file.proofs.linked.reading.u16_at.Goals as goal

pub returns : goal.returns
returns c =
    let parts = c.in_ok-number.ensures.cases in
    (omega arith, u2_read c.args.bytes.now c.in_ok-number.number.now c.in_ok-number.rest.now c.from_be_bytes.result (λ k. omega (arith, c.type_inv.bytes k)) parts.0 parts.1 parts.2 c.from_be_bytes.ensures)
