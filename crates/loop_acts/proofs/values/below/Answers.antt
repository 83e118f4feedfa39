use Rattle.std.proofs.Common.{◌≡◌, ℕ, ◌≤◌, Bool, false, ℤ, pos, Option, arith}
use Rattle.std.specs.Prelude.{◌≤ℤ◌, ◌-ℤ◌}
use Rattle.std.proofs.lemmas.Int.{ints}
use Rattle.loop_acts.specs.Values.{IsMove, value_by}
use Rattle.loop_acts.proofs.Compares.{below_move}
use Rattle.loop_acts.proofs.values.below.Goals as goal

by_gap : (step room : ℕ) (first bound : ℤ) (up : Bool) (o : Option ℕ) → up ≡ false → (d : ℕ) → IsMove step room (λ x. d ≤ x) o → pos d ≡ first -ℤ bound → IsMove step room (λ x. value_by up first x ≤ℤ bound) o
by_gap step room first bound up o down d is e = below_move step room first bound up o down d e is

pub returns-else-up : goal.returns-else-up
returns-else-up c =
    let test = c.if-first-bound.false in
    let from = c.requires.first.sfits in
    let low = c.requires.low in
    by_gap c.args.step c.args.room c.args.first c.args.bound c.args.up c.over.result c.if-up.false _ c.over.ensures (omega (arith, ints))
