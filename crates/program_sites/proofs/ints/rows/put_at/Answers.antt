use Rattle.std.proofs.Common.{Option, ℕ, ap, ◌∙◌}
use Rattle.program_tables.specs.Meanings.{operand_seen}
use Rattle.program_tables.specs.Resolved.{resolved}
use Rattle.program_sites.specs.Ints.Rows.{put_as}
use Rattle.program_sites.proofs.IntsLemmas.Reading.{none_put, puts_at}
use Rattle.program_sites.proofs.ints.rows.put_at.Goals as goal

pub returns-then-code-place : goal.returns-then-code-place
returns-then-code-place c = none_put (resolved c.args.program.now) c.args.method c.args.place c.args.code.now c.requires.code c.if-code-place.true

pub returns : goal.returns
returns c =
    let P = resolved c.args.program.now in
    let i = c.in_ok-x.x.instr in
    let o = operand_seen c.in_ok-x.x.operand in
    c.put_as.ensures ∙ ap (λ (named : Option ℕ). put_as i.op named) c.static_named.ensures ∙ puts_at P c.args.method c.args.place i o c.in_ok-x.ensures.instr c.in_ok-x.ensures.operand
