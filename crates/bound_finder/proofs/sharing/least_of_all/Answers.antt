use Rattle.std.proofs.Common.{ℕ, ◌<◌, List, length, get_or, take, Option, sym, subst, arith}
use Rattle.std.specs.Prelude.{slice_set}
use Rattle.std.proofs.lemmas.List.{take_more}
use Rattle.section_check.specs.Least.{IsLeast}
use Rattle.bound_finder.specs.Known.{ForEach}
use Rattle.bound_finder.specs.Ending.{IsLargeWithin}
use Rattle.bound_finder.specs.Sharing.{AreLeastCalled, AreLeastWithin}
use Rattle.bound_finder.proofs.Besides.{within_more}
use Rattle.bound_finder.proofs.sharing.least_of_all.Goals as goal

pub loop-m-preserved : goal.loop-m-preserved
loop-m-preserved c =
    let set = c.args.task.now in
    let order = c.args.order.now in
    let table = c.args.table.now in
    let least = c.loop-m.least.items in
    let i = c.loop-m.m-index in
    let m = get_or order i 0 in
    let o = c.least_within-found.result in
    let known = c.requires.known i 0 c.loop-m-test.true in
    let long = c.loop-m.invariant.long in
    let inside : m < length least = omega arith in
    let A : List ℕ → Type 0 = λ ms. AreLeastWithin set ms table (slice_set least m o) in
    let H : List (Option ℕ) → Type 0 = λ os. ForEach set (λ P. AreLeastCalled P table m os → IsLeast (IsLargeWithin P table m) o) in
    subst A (sym (take_more order i 0 c.loop-m-test.true)) (within_more set (take i order) m table least o inside c.loop-m.invariant (subst H c.deref.ensures.value c.least_within-found.ensures))
