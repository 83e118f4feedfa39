use Rattle.std.proofs.Common.{ℕ, List, get_or, Contains, Option, None, sym, subst}
use Rattle.std.proofs.lemmas.List.{get_or_default}
use Rattle.bound_finder.specs.declared.known.Known.{Known}
use Rattle.bound_finder.specs.Known.{bounds_in, ForEach}
use Rattle.bound_finder.specs.Ending.{AreKnownWithin}
use Rattle.bound_finder.specs.Sharing.{AreLeastWithin}
use Rattle.bound_finder.proofs.Bounded.{each_known}
use Rattle.bound_finder.proofs.sharing.shared.Goals as goal

pub bounds-requires-clause-within : goal.bounds-requires-clause-within
bounds-requires-clause-within c =
    λ k d lt.
    let set = c.args.task.now in
    let order = c.args.order.now in
    let m = get_or order k d in
    let T : List Known → Type 0 = λ tb. AreLeastWithin set order tb c.in_ok-least.least.items in
    let K : List Known → Type 0 = λ tb. ForEach set (λ P. AreKnownWithin P set.timing (bounds_in set) tb (get_or c.deref.result.now m None) m) in
    let L : List (Option ℕ) → Type 0 = λ os. ForEach set (λ P. AreKnownWithin P set.timing (bounds_in set) c.args.found.now.table.items (get_or os m None) m) in
    let has : Contains order m = (k, lt, get_or_default order k m d lt) in
    subst K (sym c.as_slice-table.ensures.value)
    (subst L (sym c.deref.ensures.value) (each_known c.one_more_meets.ensures set order c.args.found.now c.in_ok-least.least.items c.requires.found (subst T c.as_slice-table.ensures.value c.in_ok-least.ensures) m has))
