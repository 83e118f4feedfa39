use Rattle.std.proofs.Common.{◌<◌, ◌^◌, ◌∙◌, arith}
use Rattle.command_line.proofs.Numbers.{number_unread, number_read}
use Rattle.command_line.proofs.given.number_from.Goals as goal

pub returns-in_err-number : goal.returns-in_err-number
returns-in_err-number c =
    let fits : c.args.to < 2 ^ 64 = omega arith in
    c.from_residual.ensures
    ∙ number_unread c.args.from c.args.to c.args.word.now c.as_bytes.result.now c.read_u64.result fits c.as_bytes.ensures.value c.in_err-number.was c.read_u64.ensures

pub returns-then-number-to : goal.returns-then-number-to
returns-then-number-to c =
    number_read c.args.from c.args.to c.args.word.now c.as_bytes.result.now c.in_ok-number.number c.read_u64.result c.as_bytes.ensures.value c.in_ok-number.was c.read_u64.ensures (omega arith) (omega arith)
