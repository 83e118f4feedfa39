use Rattle.std.proofs.Common.{◌+◌, ℤ, Option, Some, w32, FitsSigned, refl, sym, subst, rules}
use Rattle.std.specs.Prelude.{slice_index_or}
use Rattle.std.proofs.lemmas.Int.{to_z-of_z}
use Rattle.lists.specs.Members.{contains_at}
use Rattle.known_ints.specs.Answers.{IsSoFar, IsToldAt}
use Rattle.known_ints.specs.declared.answers.Answer.TheVariants.{Known as Told}
use Rattle.known_ints.proofs.Joining.{so_far_more, so_far_all, so_far_nothing, join_other}
use Rattle.known_ints.proofs.answers.joined.Goals as goal

pub loop-place-init : goal.loop-place-init
loop-place-init c P known m of so all = refl

pub returns-in_default : goal.returns-in_default
returns-in_default c P known m of so all =
    let ps = c.args.places.now in
    let n = c.loop-place.place-index in
    let p = slice_index_or ps n 0 in
    let has = contains_at ps n p c.loop-place-test.true refl in
    let at = all p has in
    join_other (IsToldAt P m c.args.q.now) ps n c.loop-place-test.true c.loop-place.number (c.loop-place.invariant P known m of so all) c.told_at.result
    (c.told_at.ensures P known m of so at.0 at.1) c.join.result c.join.ensures c.in_default.not-Known

pub loop-place-preserved : goal.loop-place-preserved
loop-place-preserved c P known m of so all =
    let ps = c.args.places.now in
    let n = c.loop-place.place-index in
    let p = slice_index_or ps n 0 in
    let has = contains_at ps n p c.loop-place-test.true refl in
    let at = all p has in
    let v = c.in-Known.value in
    let fits : FitsSigned w32 v = search rules in
    subst (λ (z : ℤ). IsSoFar (IsToldAt P m c.args.q.now) ps (n + 1) (Some z)) (sym (to_z-of_z w32 v fits))
    (so_far_more (IsToldAt P m c.args.q.now) ps n c.loop-place.number (c.loop-place.invariant P known m of so all) c.told_at.result
    (c.told_at.ensures P known m of so at.0 at.1) v (c.in-Known.ensures))

pub returns-in-Some : goal.returns-in-Some
returns-in-Some c P known m of so all =
    let v = c.in-Some.value in
    let fits : FitsSigned w32 v = search rules in
    let Is = IsToldAt P m c.args.q.now in
    let ps = c.args.places.now in
    let some = subst (λ (o : Option ℤ). IsSoFar Is ps c.loop-place.place-index o) c.in-Some.is (c.loop-place.invariant P known m of so all) in
    λ p has. subst (λ (z : ℤ). Is p (Told z)) (sym (to_z-of_z w32 v fits)) (so_far_all Is ps c.loop-place.place-index c.loop-place-test.false v some p has)

pub returns-in-None : goal.returns-in-None
returns-in-None c P known m of so all =
    let Is = IsToldAt P m c.args.q.now in
    let ps = c.args.places.now in
    let none = subst (λ (o : Option ℤ). IsSoFar Is ps c.loop-place.place-index o) c.in-None.is (c.loop-place.invariant P known m of so all) in
    so_far_nothing Is ps c.loop-place.place-index c.loop-place-test.false none
