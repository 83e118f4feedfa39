use Rattle.std.proofs.Common.{true, sym, ap, refl, ◌∙◌, ◌≡◌, ◌<◌, length, get_or, find, subst, Contains, Result, Ok, Err, is_ok, List, [], ◌∷◌, ℕ, zero, suc, arith}
use Rattle.std.specs.Prelude.{not}
use Rattle.std.specs.Result.{is_err}
use Rattle.opcodes.specs.Instruction.{decoded}
use Rattle.opcodes.specs.Start.{first_bad}
use Rattle.bytecode_verifier.proofs.WalkLemmas.{finds_here, finds_none}
use Rattle.bytecode_verifier.proofs.methods.first_bad.Goals as goal

err_not : {A E : Type 0} (r : Result A E) → not (is_ok r) ≡ is_err r
err_not (Ok x) = refl
err_not (Err e) = refl

at_index : (xs : List ℕ) (i d : ℕ) → i < length xs → get_or xs i (get_or xs i d) ≡ get_or xs i d
at_index [] i d h = absurd (omega (arith, h))
at_index (x ∷ xs) zero d h = refl
at_index (x ∷ xs) (suc i) d h = at_index xs i d (omega (arith, h))

pub decode-requires-clause-inside : goal.decode-requires-clause-inside
decode-requires-clause-inside c =
    (c.starts_follow_one_another.ensures c.args.code.now).within_code (get_or c.args.starts.now c.loop-place.place-index 0)
    (subst (λ (l : List ℕ). Contains l (get_or c.args.starts.now c.loop-place.place-index 0)) c.requires.starts (c.loop-place.place-index, c.loop-place-test.true, at_index c.args.starts.now c.loop-place.place-index 0 c.loop-place-test.true))

pub returns-then-is_err : goal.returns-then-is_err
unfolding first_bad
returns-then-is_err c =
    let test = λ (pc : ℕ). not (is_ok (decoded c.args.code.now pc)) in
    let pc = get_or c.args.starts.now c.loop-place.place-index 0 in
    let bad : test pc ≡ true = ap (λ r. not (is_ok r)) (sym c.decode.ensures.exact) ∙ (err_not c.decode.result ∙ (sym c.is_err.ensures.value ∙ c.if-is_err.true)) in
    sym (ap (find test) (sym c.requires.starts) ∙ (sym c.loop-place.invariant ∙ finds_here test c.args.starts.now c.loop-place.place-index 0 c.loop-place-test.true bad))

pub returns : goal.returns
unfolding first_bad
returns c =
    let test = λ (pc : ℕ). not (is_ok (decoded c.args.code.now pc)) in
    sym (ap (find test) (sym c.requires.starts) ∙ (sym c.loop-place.invariant ∙ finds_none test c.args.starts.now c.loop-place.place-index c.loop-place-test.false))
