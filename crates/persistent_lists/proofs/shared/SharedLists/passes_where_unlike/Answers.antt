use Rattle.std.proofs.Common.{◌≡◌, sym, ap, ◌∙◌, Some, None}
use Rattle.std.specs.Prelude.{slice_get}
use Rattle.persistent_lists.specs.Tables.{list_at}
use Rattle.persistent_lists.proofs.AnswerLemmas.{lists_passed}
use Rattle.persistent_lists.proofs.TableLemmas.{list_is, no_root}
use Rattle.persistent_lists.proofs.shared.SharedLists.passes_where_unlike.Goals as goal

pub returns-in-Some-Some-clause-passed : goal.returns-in-Some-Some-clause-passed
returns-in-Some-Some-clause-passed g c =
    let at : slice_get c.self.inside.roots.items c.args.first ≡ Some c.in-Some-Some.first = ap (λ l. slice_get l c.args.first) (sym c.deref.ensures.value) ∙ (sym c.root_at.ensures ∙ c.in-Some-Some.is-0) in
    let other : slice_get c.self.inside.roots.items c.args.second ≡ Some c.in-Some-Some.second = ap (λ l. slice_get l c.args.second) (sym c.deref-2.ensures.value) ∙ (sym c.root_at-2.ensures ∙ c.in-Some-Some.is-1) in
    lists_passed (goal.F-post g c.args.test) (list_at c.args.self.now c.args.first) (list_at c.args.self.now c.args.second) c.self.inside.width c.self.inside.height c.self.inside.pairs c.in-Some-Some.first
    c.in-Some-Some.second c.passes_in.result c.self.invariant.0
    (list_is c.args.self.now c.self.inside.width c.self.inside.rest c.self.inside.height c.self.inside.pairs c.self.inside.roots.items c.args.first c.in-Some-Some.first (sym c.self.view_is) at)
    (list_is c.args.self.now c.self.inside.width c.self.inside.rest c.self.inside.height c.self.inside.pairs c.self.inside.roots.items c.args.second c.in-Some-Some.second (sym c.self.view_is) other)
    c.passes_in.ensures.answered

pub returns-in-Some-None-clause-there : goal.returns-in-Some-None-clause-there
returns-in-Some-None-clause-there g c = λ lt less.
    let other : slice_get c.self.inside.roots.items c.args.second ≡ None = ap (λ l. slice_get l c.args.second) (sym c.deref-2.ensures.value) ∙ (sym c.root_at-2.ensures ∙ c.in-Some-None.is-1) in
    absurd (no_root c.args.self.now c.self.inside.width c.self.inside.rest c.self.inside.height c.self.inside.pairs c.self.inside.roots.items c.args.second (sym c.self.view_is) other less)

pub returns-clause-there : goal.returns-clause-there
returns-clause-there g c = λ lt less.
    let at : slice_get c.self.inside.roots.items c.args.first ≡ None = ap (λ l. slice_get l c.args.first) (sym c.deref.ensures.value) ∙ (sym c.root_at.ensures ∙ c.in-None-default.is-0) in
    absurd (no_root c.args.self.now c.self.inside.width c.self.inside.rest c.self.inside.height c.self.inside.pairs c.self.inside.roots.items c.args.first (sym c.self.view_is) at lt)
