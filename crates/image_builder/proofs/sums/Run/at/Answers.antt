use Rattle.std.proofs.Common.{arith}
use Rattle.image_builder.proofs.RunLemmas.{run_at, run_past}
use Rattle.image_builder.proofs.sums.Run.at.Goals as goal

pub returns-then-index-len : goal.returns-then-index-len
returns-then-index-len c =
    let many = c.args.self.now.places.ok.0 in
    let len = c.len.ensures in
    let test = c.if-index-len.true in
    λ start sizes is. run_at start sizes c.args.self.now c.args.index c.index.result.now (omega (arith, many, len, test)) c.index.ensures is

pub returns-else-index-len : goal.returns-else-index-len
returns-else-index-len c =
    let many = c.args.self.now.places.ok.0 in
    let len = c.len.ensures in
    let test = c.if-index-len.false in
    λ start sizes is. run_past start sizes c.args.self.now c.args.index (omega (arith, many, len, test)) is
