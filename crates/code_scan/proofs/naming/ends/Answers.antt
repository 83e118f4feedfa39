use Rattle.std.proofs.Common.{ℕ, ◌+◌, List, get_or, Contains, Some, refl, subst, arith, rules}
use Rattle.std.proofs.Math.ListN.{set}
use Rattle.lists.specs.Members.{contains_at}
use Rattle.code_scan.proofs.Ending.{no_ends, ends_more, all_ends}
use Rattle.code_scan.proofs.naming.ends.Goals as goal

pub loop-place-init : goal.loop-place-init
loop-place-init c = no_ends c.args.code.now c.args.starts.now c.in_ok-ends.ends.items (c.in_ok-ends.ensures.items_if_clones_equal (λ y h. search rules))

pub length_at-requires-clause-start : goal.length_at-requires-clause-start
length_at-requires-clause-start c =
    let xs = c.args.starts.now in
    let i = c.loop-place.place-index in
    subst (λ (ys : List ℕ). Contains ys (get_or xs i 0)) c.requires.starts (contains_at xs i (get_or xs i 0) c.loop-place-test.true refl)

pub length_at-requires-clause-stays : goal.length_at-requires-clause-stays
length_at-requires-clause-stays c =
    let xs = c.args.starts.now in
    let i = c.loop-place.place-index in
    c.requires.stays (get_or xs i 0) (subst (λ (ys : List ℕ). Contains ys (get_or xs i 0)) c.requires.starts (contains_at xs i (get_or xs i 0) c.loop-place-test.true refl))

pub index_mut-requires : goal.index_mut-requires
index_mut-requires c =
    let long = c.loop-place.invariant.long in
    let within = c.length_at.ensures.within in
    omega arith

pub loop-place-preserved : goal.loop-place-preserved
loop-place-preserved c =
    let xs = c.args.starts.now in
    let i = c.loop-place.place-index in
    let ends = c.loop-place.ends.items in
    let place = get_or xs i 0 in
    let end = place + c.length_at.result in
    let long = c.loop-place.invariant.long in
    let within = c.length_at.ensures.within in
    ends_more c.args.code.now xs i end ends (set ends end (Some place)) c.loop-place.invariant c.length_at.ensures.end (omega arith) refl

pub returns : goal.returns
returns c = all_ends c.args.code.now c.args.starts.now c.loop-place.place-index c.loop-place.ends.items c.requires.starts c.loop-place-test.false c.loop-place.invariant
