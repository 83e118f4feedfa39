use Rattle.std.proofs.Common.{◌≡◌, Bool, ℤ, pos, w64, to_z, of_z, sym, ap, ◌∙◌, subst, arith}
use Rattle.std.specs.Prelude.{int_lt, unsigned_abs, FitsSigned}
use Rattle.std.specs.Int.{w32}
use Rattle.std.proofs.lemmas.Int.{ints}
use Rattle.code_scan.specs.Rows.{test_of}
use Rattle.loop_acts.specs.Values.{IsFirst}
use Rattle.loop_acts.proofs.Firsts.{no_int}
use Rattle.loop_acts.proofs.Compares.{by_step}
use Rattle.loop_acts.proofs.values.first_out.Goals as goal
use Rattle.loop_acts.proofs.values.first_out.Goals.{then-first-ltminus2147483648-via-then-first-ltminus2147483648, then-first-ltminus2147483648-via-else-first-ltminus2147483648+then-first-gt2147483647}

pub returns-then-first-ltminus2147483648 : goal.returns-then-first-ltminus2147483648
returns-then-first-ltminus2147483648 c = no_int c.args.first c.args.step (λ (value : ℤ). test_of c.args.out c.args.limit value) (λ (fits : FitsSigned w32 c.args.first).
    elim c.then-first-ltminus2147483648.branch [
      | then-first-ltminus2147483648-via-then-first-ltminus2147483648 w ↦ let low = w.if-first-ltminus2147483648.true in omega (arith, ints)
      | then-first-ltminus2147483648-via-else-first-ltminus2147483648+then-first-gt2147483647 w ↦ let high = w.if-first-gt2147483647.true in omega (arith, ints)
    ])

pub returns : goal.returns
returns c =
    let from : to_z w64 (of_z w64 c.args.first) ≡ c.args.first = omega (arith, ints) in
    let step : to_z w32 (of_z w32 c.args.step) ≡ c.args.step = omega (arith, ints) in
    let limit : to_z w32 (of_z w32 c.args.limit) ≡ c.args.limit = omega (arith, ints) in
    let out : ℤ → Bool = λ value. test_of c.args.out (to_z w32 (of_z w32 c.args.limit)) value in
    let up : int_lt (pos 0) (to_z w32 (of_z w32 c.args.step)) ≡ int_lt (pos 0) c.args.step = ap (λ (z : ℤ). int_lt (pos 0) z) step in
    let size = c.from-size.ensures ∙ (c.unsigned_abs.ensures.value ∙ ap unsigned_abs step) in
    let is = by_step (to_z w64 (of_z w64 c.args.first)) c.args.step (int_lt (pos 0) (to_z w32 (of_z w32 c.args.step))) c.from-size.result c.room.result out c.moves.result c.requires up size c.room.ensures.room c.moves.ensures in
    let told = subst (λ (z : ℤ). IsFirst z c.args.step out c.moves.result) from is in
    let same = subst (λ (z : ℤ). IsFirst c.args.first c.args.step (λ value. test_of c.args.out z value) c.moves.result) limit told in
    subst (IsFirst c.args.first c.args.step (λ value. test_of c.args.out c.args.limit value)) (sym c.narrowed.ensures) same
