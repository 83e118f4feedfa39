use Rattle.std.proofs.Common.{◌≡◌, ℕ, ◌+◌, ◌^◌, ◌<◌, ◌≤◌, ℤ, pos, ◌-ℤ◌, List, get_or, to_z, of_z, false, refl, sym, ap, ◌∙◌, subst, arith}
use Rattle.std.specs.Int.{w128}
use Rattle.std.proofs.lemmas.Bool.{both_ways}
use Rattle.std.proofs.lemmas.Int.{ints}
use Rattle.std.proofs.lemmas.List.Elements.{All-get_or}
use Rattle.path_solver.specs.Distances.{distance_limit}
use Rattle.path_solver.proofs.Listing.{IsListing, listing_push, listing_skip}
use Rattle.path_solver.proofs.certifying.potentials.Goals as goal
use Rattle.path_solver.proofs.certifying.potentials.Goals.{then-listed-u+in_ok-push, else-listed-u}

-- a difference of numbers of 64 bits and up to the distance_limit fits
fits : (value dist : ℕ) (v : ℤ) → value < 2 ^ 64 → dist ≤ distance_limit → v ≡ pos value → to_z w128 (of_z w128 (to_z w128 (of_z w128 v) -ℤ to_z w128 dist)) ≡ pos value -ℤ pos dist
fits value dist v few small is = omega (arith, ints)

pub loop-u-preserved : goal.loop-u-preserved
loop-u-preserved c =
    let flags = c.args.listed.now in
    let value = c.args.value in
    let dist = c.args.dist.now in
    let u = c.loop-u.u in
    let nodes = c.loop-u.nodes.items in
    let P : List (ℕ × ℤ) → Type 0 = λ ps. IsListing flags value dist (u + 1) ps in
    elim c.if-listed-u.branch [
      | then-listed-u+in_ok-push w ↦
          let inside = c.loop-u-test.true in
          let same = c.requires.same in
          let few = c.ranges.value.fits in
          let small : get_or dist u 0 ≤ distance_limit = All-get_or (λ d. d ≤ distance_limit) dist u 0 (omega arith) c.requires.limited in
          let rest = fits value (get_or dist u 0) w.from.result few small w.from.ensures in
          subst P (sym (ap (λ v. v.items) w.nodes-is ∙ w.in_ok-push.ensures.items)) (listing_push flags value dist u nodes c.loop-u.invariant _ w.if-listed-u.true refl rest)
      | else-listed-u w ↦
          subst P (sym (ap (λ v. v.items) w.nodes-is)) (listing_skip flags value dist u nodes c.loop-u.invariant (λ flag. both_ways (get_or flags u false) w.if-listed-u.false flag))
    ]
