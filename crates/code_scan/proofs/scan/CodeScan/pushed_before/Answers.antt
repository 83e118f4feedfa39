use Rattle.std.proofs.Common.{sym, ◌∙◌}
use Rattle.code_scan.proofs.Pushing.{one_before}
use Rattle.code_scan.proofs.scan.CodeScan.pushed_before.Goals as goal

pub returns : goal.returns
returns c P m scan pushed =
    one_before P m c.args.self.now c.args.pushed.now c.args.place scan c.lines_follow_one_another.ensures.one c.one_stands_before.ensures.line pushed (sym c.is_named.ensures ∙ c.if-is_named.false) c.in_ok-before.field-0 (sym c.before-2.ensures ∙ c.in_ok-before.was) c.value_at.result c.value_at.ensures
