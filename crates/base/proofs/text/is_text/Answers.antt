use Rattle.std.proofs.Common.{sym, arith}
use Rattle.std.proofs.lemmas.Grind.{same_number_lists}
use Rattle.std.proofs.lemmas.Slice.Eq.{bytes_eq-Decides}
use Rattle.base.proofs.text.is_text.Goals as goal

pub returns : goal.returns
returns c =
    let same = same_number_lists c.args.units.now c.args.text.now c.if-units-text.false (λ k lt. c.loop-i.invariant k (omega arith)) in
    sym ((bytes_eq-Decides c.args.units.now c.args.text.now).1 same)
