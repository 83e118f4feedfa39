use Rattle.std.proofs.Common.{◌≡◌, arith}
use Rattle.std.proofs.lemmas.Int.{ints}
use Rattle.loop_acts.proofs.Compares.{away_move}
use Rattle.loop_acts.proofs.values.unequal.Goals as goal

pub returns-then-first-bound : goal.returns-then-first-bound
returns-then-first-bound c =
    let same = c.if-first-bound.true in
    let is : c.args.first ≡ c.args.bound = omega (arith, ints) in
    away_move c.args.step c.args.room c.args.first c.args.bound c.args.up c.away.result is c.away.ensures
