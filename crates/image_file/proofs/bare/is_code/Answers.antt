use Rattle.std.proofs.Common.{sym, ◌∙◌}
use Rattle.image_file.proofs.Scanned.{scan-behind}
use Rattle.image_file.proofs.bare.is_code.Goals as goal

pub loop-rest-preserved-then-behind-gt0 : goal.loop-rest-preserved-then-behind-gt0
loop-rest-preserved-then-behind-gt0 c = record { scanned = sym (scan-behind c.args.max_locals c.args.max_stack c.loop-rest.depth c.loop-rest.behind _ c.if-behind-gt0.true c.in-len1-up.len_at_least) ∙ c.loop-rest.invariant.scanned; depth = c.loop-rest.invariant.depth }
