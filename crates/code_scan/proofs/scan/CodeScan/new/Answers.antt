use Rattle.code_scan.proofs.Scanning.{is_scan}
use Rattle.code_scan.proofs.scan.CodeScan.new.Goals as goal

pub returns : goal.returns
returns c P m of =
    is_scan c.names_are_read.ensures.names c.names_are_read.ensures.ends P m c.args.method.now of c.in_ok-named.named.items c.in_ok-before.before.items c.code-code.result.now c.code-code.ensures.code c.in_ok-named.ensures c.in_ok-before.ensures
