use Rattle.std.proofs.Common.{◌<◌, ◌∙◌, ℕ, List, length, filter, reverse, All, sym, subst}
use Rattle.std.specs.Prelude.{IfOk}
use Rattle.std.proofs.lemmas.List.Elements.{All-contains}
use Rattle.loop_nest.proofs.Elements.{from_filter}
use Rattle.bound_finder.specs.Known.{bounds_in, ForEach}
use Rattle.bound_report.specs.Adding.{has_number, AreSettled, AreCountsOfAll}
use Rattle.bound_report.proofs.Callers.{reversed_back}
use Rattle.bound_report.proofs.Turns.{all_of}
use Rattle.bound_report.proofs.times.counts_of_all.Goals as goal

pub count_all-requires-clause-known : goal.count_all-requires-clause-known
count_all-requires-clause-known c =
    let set = c.args.task.now in
    let order = c.args.order.now in
    let p = has_number c.args.table.now in
    let K : List ℕ → Type 0 = λ ms. All (λ m. m < length set.flow.methods) ms in
    subst K (sym (c.deref.ensures.value ∙ c.in-Ok.ensures))
    (all_of (λ m. m < length set.flow.methods) (filter p (reverse order)) (λ x has.
    let r = from_filter p (reverse order) x has in
    All-contains (λ m. m < length set.flow.methods) order x c.requires.known (reversed_back order x r.0)))

pub count_all-requires-clause-settled : goal.count_all-requires-clause-settled
count_all-requires-clause-settled c = λ P of.
    let set = c.args.task.now in
    let S : List ℕ → Type 0 = λ ms. AreSettled P set.timing (bounds_in set) c.args.table.now c.args.root ms in
    subst S (sym (c.deref.ensures.value ∙ c.in-Ok.ensures)) (c.requires.settled P of)

pub returns-in-Ok-clause-counts : goal.returns-in-Ok-clause-counts
returns-in-Ok-clause-counts c =
    let set = c.args.task.now in
    let A : List ℕ → Type 0 = λ ms. IfOk c.count_all.result (λ ks. ForEach set (λ P. AreCountsOfAll P set.timing (bounds_in set) c.args.table.now c.args.root ms ks.items)) in
    subst A (c.deref.ensures.value ∙ c.in-Ok.ensures) c.count_all.ensures.counts
