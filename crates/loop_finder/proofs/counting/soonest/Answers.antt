use Rattle.std.proofs.Common.{◌≡◌, Option, ℕ, ℤ, ◌+ℤ◌, w64, to_z, of_z, true, sym, subst, arith}
use Rattle.std.proofs.lemmas.Int.{ints}
use Rattle.section_check.specs.Least.{IsLeast}
use Rattle.loop_finder.specs.Counting.{IsFirstIf, IsFirstOutEither}
use Rattle.loop_finder.proofs.Known.{least_out}
use Rattle.loop_finder.proofs.counting.soonest.Goals as goal

pub returns : goal.returns
returns c =
    let k = c.args.choice in
    let begin : to_z w64 (of_z w64 c.from-begin.result) ≡ k.begin = omega (arith, ints, c.from-begin.ensures) in
    let next : to_z w64 (of_z w64 (to_z w64 (of_z w64 c.from-begin.result) +ℤ to_z w64 (of_z w64 c.from.result))) ≡ k.begin +ℤ k.by = omega (arith, ints, c.from-begin.ensures, c.from.ensures) in
    let first = subst (λ (z : ℤ). IsFirstIf true z k c.first_if.result) begin c.first_if.ensures in
    let second = subst (λ (z : ℤ). IsFirstIf true z k c.first_if-2.result) next c.first_if-2.ensures in
    subst (λ (o : Option ℕ). IsLeast (IsFirstOutEither k) o) (sym c.lesser.ensures) (least_out k c.first_if.result c.first_if-2.result first second)
