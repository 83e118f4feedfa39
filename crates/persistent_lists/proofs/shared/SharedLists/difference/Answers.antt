use Rattle.std.proofs.Common.{◌≡◌, [], sym, ap, ◌∙◌, Some, None, take, subst}
use Rattle.std.specs.Prelude.{slice_get}
use Rattle.persistent_lists.specs.Tables.{list_at, IsDifference}
use Rattle.persistent_lists.specs.Trees.{items}
use Rattle.persistent_lists.proofs.TableLemmas.{list_is, no_list, list_length, between, taken_difference, difference_from_none, none_difference_from}
use Rattle.persistent_lists.proofs.shared.SharedLists.difference.Goals as goal

pub returns-in-Some-Some-clause-found : goal.returns-in-Some-Some-clause-found
returns-in-Some-Some-clause-found c =
    let at : slice_get c.self.inside.roots.items c.args.first ≡ Some c.in-Some-Some.first = ap (λ l. slice_get l c.args.first) (sym c.deref.ensures.value) ∙ (sym c.root_at.ensures ∙ c.in-Some-Some.is-0) in
    let other : slice_get c.self.inside.roots.items c.args.second ≡ Some c.in-Some-Some.second = ap (λ l. slice_get l c.args.second) (sym c.deref-2.ensures.value) ∙ (sym c.root_at-2.ensures ∙ c.in-Some-Some.is-1) in
    between (list_at c.args.self.now c.args.first) (list_at c.args.self.now c.args.second) _ _ c.args.from c.below.result
    (list_is c.args.self.now c.self.inside.width c.self.inside.rest c.self.inside.height c.self.inside.pairs c.self.inside.roots.items c.args.first c.in-Some-Some.first (sym c.self.view_is) at)
    (list_is c.args.self.now c.self.inside.width c.self.inside.rest c.self.inside.height c.self.inside.pairs c.self.inside.roots.items c.args.second c.in-Some-Some.second (sym c.self.view_is) other)
    (subst (λ o. IsDifference (take c.self.inside.width (items c.self.inside.pairs c.self.inside.height c.in-Some-Some.first)) (take c.self.inside.width (items c.self.inside.pairs c.self.inside.height c.in-Some-Some.second)) c.args.from o) (sym c.below.ensures.index)
    (taken_difference c.self.inside.width (items c.self.inside.pairs c.self.inside.height c.in-Some-Some.first) (items c.self.inside.pairs c.self.inside.height c.in-Some-Some.second) c.args.from c.difference_in.result c.difference_in.ensures.found))

pub returns-in-Some-None-clause-found : goal.returns-in-Some-None-clause-found
returns-in-Some-None-clause-found c =
    let at : slice_get c.self.inside.roots.items c.args.first ≡ Some c.in-Some-None.field-0-0 = ap (λ l. slice_get l c.args.first) (sym c.deref.ensures.value) ∙ (sym c.root_at.ensures ∙ c.in-Some-None.is-0) in
    let other : slice_get c.self.inside.roots.items c.args.second ≡ None = ap (λ l. slice_get l c.args.second) (sym c.deref-2.ensures.value) ∙ (sym c.root_at-2.ensures ∙ c.in-Some-None.is-1) in
    between (list_at c.args.self.now c.args.first) (list_at c.args.self.now c.args.second) _ _ c.args.from c.below-in-Some-None.result
    (list_is c.args.self.now c.self.inside.width c.self.inside.rest c.self.inside.height c.self.inside.pairs c.self.inside.roots.items c.args.first c.in-Some-None.field-0-0 (sym c.self.view_is) at)
    (no_list c.args.self.now c.self.inside.width c.self.inside.rest c.self.inside.height c.self.inside.pairs c.self.inside.roots.items c.args.second (sym c.self.view_is) other)
    (subst (λ o. IsDifference (take c.self.inside.width (items c.self.inside.pairs c.self.inside.height c.in-Some-None.field-0-0)) [] c.args.from o) (sym c.below-in-Some-None.ensures.index)
    (difference_from_none c.self.inside.width (take c.self.inside.width (items c.self.inside.pairs c.self.inside.height c.in-Some-None.field-0-0)) c.args.from
    (list_length c.self.inside.width c.self.inside.height c.self.inside.pairs c.in-Some-None.field-0-0 c.self.invariant.0)))

pub returns-in-None-Some-clause-found : goal.returns-in-None-Some-clause-found
returns-in-None-Some-clause-found c =
    let at : slice_get c.self.inside.roots.items c.args.first ≡ None = ap (λ l. slice_get l c.args.first) (sym c.deref.ensures.value) ∙ (sym c.root_at.ensures ∙ c.in-None-Some.is-0) in
    let other : slice_get c.self.inside.roots.items c.args.second ≡ Some c.in-None-Some.field-0-1 = ap (λ l. slice_get l c.args.second) (sym c.deref-2.ensures.value) ∙ (sym c.root_at-2.ensures ∙ c.in-None-Some.is-1) in
    between (list_at c.args.self.now c.args.first) (list_at c.args.self.now c.args.second) _ _ c.args.from c.below-in-None-Some.result
    (no_list c.args.self.now c.self.inside.width c.self.inside.rest c.self.inside.height c.self.inside.pairs c.self.inside.roots.items c.args.first (sym c.self.view_is) at)
    (list_is c.args.self.now c.self.inside.width c.self.inside.rest c.self.inside.height c.self.inside.pairs c.self.inside.roots.items c.args.second c.in-None-Some.field-0-1 (sym c.self.view_is) other)
    (subst (λ o. IsDifference [] (take c.self.inside.width (items c.self.inside.pairs c.self.inside.height c.in-None-Some.field-0-1)) c.args.from o) (sym c.below-in-None-Some.ensures.index)
    (none_difference_from c.self.inside.width (take c.self.inside.width (items c.self.inside.pairs c.self.inside.height c.in-None-Some.field-0-1)) c.args.from
    (list_length c.self.inside.width c.self.inside.height c.self.inside.pairs c.in-None-Some.field-0-1 c.self.invariant.0)))

pub returns-in-None-None-clause-found : goal.returns-in-None-None-clause-found
returns-in-None-None-clause-found c = λ i le.
    let at : slice_get c.self.inside.roots.items c.args.first ≡ None = ap (λ l. slice_get l c.args.first) (sym c.deref.ensures.value) ∙ (sym c.root_at.ensures ∙ c.in-None-None.is-0) in
    let other : slice_get c.self.inside.roots.items c.args.second ≡ None = ap (λ l. slice_get l c.args.second) (sym c.deref-2.ensures.value) ∙ (sym c.root_at-2.ensures ∙ c.in-None-None.is-1) in
    ap (λ l. slice_get l i) (no_list c.args.self.now c.self.inside.width c.self.inside.rest c.self.inside.height c.self.inside.pairs c.self.inside.roots.items c.args.first (sym c.self.view_is) at ∙ sym (no_list c.args.self.now c.self.inside.width c.self.inside.rest c.self.inside.height c.self.inside.pairs c.self.inside.roots.items c.args.second (sym c.self.view_is) other))
