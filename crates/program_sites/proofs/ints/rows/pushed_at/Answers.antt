use Rattle.std.proofs.Common.{Option, ℤ, ap, ◌∙◌}
use Rattle.program_tables.specs.Meanings.{operand_seen}
use Rattle.program_tables.specs.Resolved.{resolved}
use Rattle.program_sites.specs.Ints.Rows.{pushed_as}
use Rattle.program_sites.proofs.IntsLemmas.Reading.{none_pushed, push_at}
use Rattle.program_sites.proofs.ints.rows.pushed_at.Goals as goal

pub returns-then-code-place-gt-LDC_W : goal.returns-then-code-place-gt-LDC_W
returns-then-code-place-gt-LDC_W c = none_pushed (resolved c.args.program.now) c.args.method c.args.place c.args.code.now c.requires.code c.if-code-place-gt-LDC_W.true

pub returns : goal.returns
returns c =
    let P = resolved c.args.program.now in
    let i = c.in_ok-x.x.instr in
    let o = operand_seen c.in_ok-x.x.operand in
    c.pushed_as.ensures ∙ ap (λ (named : Option ℤ). pushed_as i.op i.first named) c.int_named.ensures ∙ push_at P c.args.method c.args.place i o c.in_ok-x.ensures.instr c.in_ok-x.ensures.operand
