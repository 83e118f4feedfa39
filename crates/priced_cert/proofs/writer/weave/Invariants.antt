use Rattle.std.proofs.Common.{◌≡◌, ◌++◌, []}
use Rattle.std.specs.Prelude.{flat_map}
use Rattle.priced_cert.specs.Texts.{fed_line}
use Rattle.priced_cert.specs.Weaving.{woven}
use Rattle.priced_cert.proofs.writer.weave.Given as goal

abbrev pub invariant-loop-line : goal.invariant-loop-line
invariant-loop-line l = l.out.items ++ flat_map fed_line (woven l.held l.line-iterator l.others) ≡ l.initial.out.items ++ flat_map fed_line (woven [] l.fn.left l.prices)
