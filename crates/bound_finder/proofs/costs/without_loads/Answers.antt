use Rattle.std.proofs.Common.{◌≡◌, ◌<◌, ℕ, List, length, replicate, rules, All, Bool, true, sym, subst}
use Rattle.std.specs.Prelude.{slice_index}
use Rattle.std.proofs.lemmas.Result.{IfOk-weaker}
use Rattle.loop_nest.specs.Nest.{NaturalLoop}
use Rattle.compact_walks.specs.Charging.{AreHeld}
use Rattle.bound_finder.specs.Prepared.{AreWithout}
use Rattle.bound_finder.proofs.Held.{without_all, without_charged}
use Rattle.bound_finder.proofs.Shapes.{members_within}
use Rattle.bound_finder.proofs.costs.without_loads.Goals as goal

pub held-requires : goal.held-requires
held-requires c =
    let s = c.args.s.now in
    let is = c.requires.shape in
    let M : List ℕ → Type 0 = λ ns. All (λ (l : NaturalLoop). All (λ (u : ℕ). u < length ns) l.members) s.nest in
    let N : List ℕ → Type 0 = λ ns. All (λ (x : ℕ). x < s.size) ns in
    record {
      long = c.requires.flags;
      within = subst M (sym c.as_slice.ensures) (members_within is.0 s is.1);
      nodes = subst N (sym c.as_slice.ensures) is.1.within;
    }

pub returns-in_ok-vec : goal.returns-in_ok-vec
returns-in_ok-vec c =
    let s = c.args.s.now in
    let flags = c.args.flags.now in
    let without = c.in_ok-vec.field-0.items in
    let are : without ≡ replicate s.size true = c.in_ok-vec.ensures.items_if_clones_equal (λ y h. search rules) in
    let F : Bool → Type 0 = λ f. AreWithout f s flags without in
    subst F (sym c.if-fits.true) (without_all s flags without are)

pub returns-else-fits : goal.returns-else-fits
returns-else-fits c =
    let s = c.args.s.now in
    IfOk-weaker c.held.result _ _
    (λ v held.
    let F : Bool → Type 0 = λ f. AreWithout f s c.args.flags.now v.items in
    let N : List ℕ → Type 0 = λ ns. AreHeld (slice_index ns) s.nest c.args.flags.now s.size v.items in
    subst F (sym c.if-fits.false) (without_charged s c.args.flags.now v.items (subst N c.as_slice.ensures held)))
    c.held.ensures
