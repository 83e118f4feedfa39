use Rattle.std.proofs.Common.{◌≡◌, ℕ, ◌<◌, ℤ, List, [], ◌∷◌, ◌++◌, length, take, take_all, get_or, replicate, Option, None, refl, sym, ap, ◌∙◌, subst, arith, rules}
use Rattle.std.specs.Prelude.{slice_set}
use Rattle.std.proofs.lemmas.List.{take_more, length-replicate, length-set}
use Rattle.lists.specs.Members.{contains_at}
use Rattle.program_tables.specs.Resolved.{resolved}
use Rattle.program_sites.specs.Ints.Places.{AreIntsOf}
use Rattle.program_sites.specs.Ints.Rows.{pushed_at}
use Rattle.program_sites.proofs.IntsLemmas.Filling.{filled_first, filled_more}
use Rattle.program_sites.proofs.ints.sites.ints_pushed.Goals as goal

pub loop-place-init : goal.loop-place-init
loop-place-init c =
    let f = pushed_at (resolved c.args.program.now) c.args.method in
    let none : Option ℤ = None in
    let all : c.in_ok-ints.ints.items ≡ replicate (length c.args.code.now) none = c.in_ok-ints.ensures.items_if_clones_equal (λ y h. search rules) in
    (ap (λ (xs : List (Option ℤ)). length xs) all ∙ length-replicate (length c.args.code.now) none, subst (λ (xs : List (Option ℤ)). AreIntsOf f [] xs) (sym all) (filled_first f (length c.args.code.now)))

pub pushed_at-requires-clause-inside : goal.pushed_at-requires-clause-inside
pushed_at-requires-clause-inside c =
    let i = c.loop-place.place-index in
    let p = get_or c.args.starts.now i 0 in
    c.requires.within p (contains_at c.args.starts.now i p c.loop-place-test.true refl)

pub index_mut-requires : goal.index_mut-requires
index_mut-requires c =
    let i = c.loop-place.place-index in
    let p = get_or c.args.starts.now c.loop-place.place-index 0 in
    let within = c.requires.within p (contains_at c.args.starts.now i p c.loop-place-test.true refl) in
    let long = c.loop-place.invariant.0 in
    omega arith

pub loop-place-preserved : goal.loop-place-preserved
loop-place-preserved c =
    let f = pushed_at (resolved c.args.program.now) c.args.method in
    let starts = c.args.starts.now in
    let i = c.loop-place.place-index in
    let p = get_or c.args.starts.now c.loop-place.place-index 0 in
    let xs = c.loop-place.ints.items in
    let within = c.requires.within p (contains_at c.args.starts.now i p c.loop-place-test.true refl) in
    let long = c.loop-place.invariant.0 in
    let lt : p < length c.loop-place.ints.items = omega arith in
    let more = filled_more f (take i starts) xs p c.loop-place.invariant.1 lt in
    let is = c.pushed_at.ensures in (
      length-set xs p c.pushed_at.result ∙ long,
      subst (λ (ps : List ℕ). AreIntsOf f ps (slice_set xs p c.pushed_at.result)) (sym (take_more starts i 0 c.loop-place-test.true))
          (subst (λ (o : Option ℤ). AreIntsOf f (take i starts ++ p ∷ []) (slice_set xs p o)) (sym is) more),
    )

pub returns : goal.returns
returns c =
    let f = pushed_at (resolved c.args.program.now) c.args.method in
    subst (λ (ps : List ℕ). AreIntsOf f ps c.loop-place.ints.items) (take_all c.loop-place.place-index c.args.starts.now c.loop-place-test.false) c.loop-place.invariant.1
