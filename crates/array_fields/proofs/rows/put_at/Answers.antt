use Rattle.program_tables.specs.Meanings.{operand_seen}
use Rattle.std.proofs.Common.{◌∙◌}
use Rattle.program_tables.specs.Resolved.{resolved}
use Rattle.array_fields.proofs.Reading.{none_put, puts_at}
use Rattle.array_fields.proofs.rows.put_at.Goals as goal

pub returns-then-byte-2 : goal.returns-then-byte-2
returns-then-byte-2 c = none_put (resolved c.args.program.now) c.args.method c.args.place c.args.code.now c.requires.code c.if-byte.true c.if-byte-2.true

pub returns : goal.returns
returns c =
    let P = resolved c.args.program.now in
    let i = c.in_ok-x.x.instr in
    let o = operand_seen c.in_ok-x.x.operand in
    c.put_as.ensures ∙ puts_at P c.args.method c.args.place i o c.in_ok-x.ensures.instr c.in_ok-x.ensures.operand
