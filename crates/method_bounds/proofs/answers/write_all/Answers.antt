use Rattle.std.proofs.Common.{◌≡◌, ◌<◌, ℕ, List, ◌∷◌, [], ◌++◌, get_or, set, take, length, Some, None, sym, subst, arith}
use Rattle.std.specs.Prelude.{slice_get}
use Rattle.std.proofs.lemmas.List.{take_more, length-take-le}
use Rattle.std.proofs.lemmas.Option.{slice_get-get_or}
use Rattle.bound_finder.specs.declared.ending.MethodBound.TheVariants.{Printed}
use Rattle.method_bounds.specs.declared.answer.BoundAnswer.{BoundAnswer}
use Rattle.method_bounds.specs.Answering.{AreWritten}
use Rattle.method_bounds.proofs.Written.{written_more}
use Rattle.method_bounds.proofs.answers.write_all.Goals as goal

pub loop-i-preserved : goal.loop-i-preserved
loop-i-preserved c =
    let order = c.args.order.now in
    let found = c.args.bounds.now in
    let old = c.args.answers.now in
    let mid = c.loop-i.answers in
    let i = c.loop-i.i in
    let m = get_or order i 0 in
    let bound = get_or found i (Printed None) in
    let lt = c.loop-i-test.true in
    let long : length (take i order) ≡ i = length-take-le i order (omega arith) in
    let below : m < length mid = (let known = c.requires.known i 0 lt in omega arith) in
    let here : slice_get found i ≡ Some bound = slice_get-get_or found i (Printed None) (omega arith) in
    let S : ℕ → Type 0 = λ k. slice_get found k ≡ Some bound in
    let A : BoundAnswer → Type 0 = λ x. AreWritten (take i order ++ m ∷ []) found old (set mid m x) in
    let O : List ℕ → Type 0 = λ ms. AreWritten ms found old (set mid m c.answer_by.result) in
    subst O (sym (take_more order i 0 lt)) (subst A (sym c.answer_by.ensures) (written_more (take i order) found m bound old mid below (subst S (sym long) here) c.loop-i.invariant))
