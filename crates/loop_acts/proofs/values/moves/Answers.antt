use Rattle.std.proofs.Common.{◌≡◌, ℕ, ℤ, pos, ◌+ℤ◌, true, w64, to_z, of_z, subst, arith}
use Rattle.std.specs.Prelude.{◌-ℤ◌}
use Rattle.std.proofs.lemmas.Int.{ints}
use Rattle.code_scan.specs.Rows.{test_of}
use Rattle.loop_acts.specs.Values.{value_by, IsMove}
use Rattle.loop_acts.proofs.Compares.{unequal_move, less_move, greater_move}
use Rattle.loop_acts.proofs.values.moves.Goals as goal

pub returns-in-Unequal : goal.returns-in-Unequal
returns-in-Unequal c =
    let from : to_z w64 (of_z w64 c.args.first) ≡ c.args.first = omega (arith, ints) in
    let limit : to_z w64 (of_z w64 c.from-limit.result) ≡ c.args.limit = omega (arith, ints, c.from-limit.ensures) in
    let is = unequal_move c.args.step c.args.room (λ (x : ℕ). value_by c.args.up (to_z w64 (of_z w64 c.args.first)) x) c.args.out (to_z w64 (of_z w64 c.from-limit.result)) c.args.limit c.unequal.result c.in-Unequal.is limit c.unequal.ensures in
    subst (λ (z : ℤ). IsMove c.args.step c.args.room (λ x. test_of c.args.out c.args.limit (value_by c.args.up z x) ≡ true) c.unequal.result) from is

pub returns-in-Less : goal.returns-in-Less
returns-in-Less c =
    let from : to_z w64 (of_z w64 c.args.first) ≡ c.args.first = omega (arith, ints) in
    let bound : to_z w64 (of_z w64 (to_z w64 (of_z w64 c.from-limit.result) -ℤ pos 1)) ≡ c.args.limit -ℤ pos 1 = omega (arith, ints, c.from-limit.ensures) in
    let is = less_move c.args.step c.args.room (λ (x : ℕ). value_by c.args.up (to_z w64 (of_z w64 c.args.first)) x) c.args.out (to_z w64 (of_z w64 (to_z w64 (of_z w64 c.from-limit.result) -ℤ pos 1))) c.args.limit c.below.result c.in-Less.is bound c.below.ensures in
    subst (λ (z : ℤ). IsMove c.args.step c.args.room (λ x. test_of c.args.out c.args.limit (value_by c.args.up z x) ≡ true) c.below.result) from is

pub returns-in-Greater : goal.returns-in-Greater
returns-in-Greater c =
    let from : to_z w64 (of_z w64 c.args.first) ≡ c.args.first = omega (arith, ints) in
    let bound : to_z w64 (of_z w64 (to_z w64 (of_z w64 c.from-limit.result) +ℤ pos 1)) ≡ c.args.limit +ℤ pos 1 = omega (arith, ints, c.from-limit.ensures) in
    let is = greater_move c.args.step c.args.room (λ (x : ℕ). value_by c.args.up (to_z w64 (of_z w64 c.args.first)) x) c.args.out (to_z w64 (of_z w64 (to_z w64 (of_z w64 c.from-limit.result) +ℤ pos 1))) c.args.limit c.above-in-Greater.result c.in-Greater.is bound c.above-in-Greater.ensures in
    subst (λ (z : ℤ). IsMove c.args.step c.args.room (λ x. test_of c.args.out c.args.limit (value_by c.args.up z x) ≡ true) c.above-in-Greater.result) from is
