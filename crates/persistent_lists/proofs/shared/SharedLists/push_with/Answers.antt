use Rattle.std.proofs.Common.{◌≡◌, refl, sym, ap, ◌∙◌, Some}
use Rattle.std.specs.Prelude.{slice_get}
use Rattle.persistent_lists.specs.Trees.{IsTree}
use Rattle.persistent_lists.specs.Residues.{HasResidues}
use Rattle.persistent_lists.proofs.TreeLemmas.{same_table}
use Rattle.persistent_lists.proofs.TableLemmas.{trees_kept, residues_kept, pairs_kept, all_grown, at_root, either, on_ok, on_err, always_err, grown_view, kept_view, same_view, changed_view}
use Rattle.persistent_lists.proofs.shared.SharedLists.push_with.Goals as goal

pub invariant_of-self : goal.invariant_of-self
invariant_of-self c =
    let at : slice_get c.self.inside.roots.items c.args.list ≡ Some c.in-Some.root = ap (λ l. slice_get l c.args.list) (sym c.deref.ensures.value) ∙ (sym c.root_at.ensures ∙ c.in-Some.is) in (
      c.self.invariant.0,
      c.self.invariant.1,
      c.add_root.ensures.fits,
      all_grown (IsTree c.self.inside.pairs c.self.inside.height) c.self.inside.roots.items c.add_root.new.roots.items c.in-Some.root c.self.invariant.3
          (at_root (IsTree c.self.inside.pairs c.self.inside.height) c.self.inside.roots.items c.args.list c.in-Some.root c.self.invariant.3 at) (either c.add_root.result _ _ c.add_root.ensures.root c.add_root.ensures.unchanged),
      c.self.invariant.4,
      all_grown (HasResidues c.self.inside.pairs c.self.inside.residues c.self.inside.height) c.self.inside.roots.items c.add_root.new.roots.items c.in-Some.root c.self.invariant.5
          (at_root (HasResidues c.self.inside.pairs c.self.inside.residues c.self.inside.height) c.self.inside.roots.items c.args.list c.in-Some.root c.self.invariant.5 at)
          (either c.add_root.result _ _ c.add_root.ensures.root c.add_root.ensures.unchanged),
    )

pub returns-then-index-self-clause-list : goal.returns-then-index-self-clause-list
returns-then-index-self-clause-list c =
    let at : slice_get c.self.inside.roots.items c.args.list ≡ Some c.in-Some.root = ap (λ l. slice_get l c.args.list) (sym c.deref.ensures.value) ∙ (sym c.root_at.ensures ∙ c.in-Some.is) in
    on_ok c.add_root.result _ _
    (grown_view c.args.self.now c.self.inside.width c.self.inside.rest c.self.inside.height c.self.inside.pairs c.self.inside.pairs c.self.inside.roots.items c.self.inside.known (sym c.self.view_is) (same_table c.self.inside.pairs) c.self.invariant.3 c.self.invariant.4
    c.add_root.new.roots.items c.in-Some.root _
    (same_view c.args.self.now c.self.inside.width c.self.inside.rest c.self.inside.height c.self.inside.pairs c.self.inside.roots.items c.args.list c.in-Some.root c.args.index c.args.item (sym c.self.view_is) at c.if-index-self.true))
    c.add_root.ensures.root

pub returns-then-index-self-clause-unchanged : goal.returns-then-index-self-clause-unchanged
returns-then-index-self-clause-unchanged c =
    on_err c.add_root.result _ _
    (kept_view c.args.self.now c.self.inside.width c.self.inside.rest c.self.inside.height c.self.inside.pairs c.self.inside.pairs c.self.inside.roots.items c.self.inside.known (sym c.self.view_is) (same_table c.self.inside.pairs) c.self.invariant.3 c.self.invariant.4
    c.add_root.new.roots.items)
    c.add_root.ensures.unchanged

pub invariant_of-self-in_err-root : goal.invariant_of-self-in_err-root
invariant_of-self-in_err-root c = (
  c.self.invariant.0,
  c.self.invariant.1,
  c.self.invariant.2,
  trees_kept c.self.inside.pairs c.tree_with.new.pairs c.self.inside.height c.self.inside.roots.items c.tree_with.ensures.more c.self.invariant.3,
  pairs_kept c.self.inside.pairs c.tree_with.new.pairs c.self.inside.known c.tree_with.ensures.more c.self.invariant.4,
  residues_kept c.self.inside.pairs c.tree_with.new.pairs c.self.inside.residues c.tree_with.new.residues c.self.inside.height c.self.inside.roots.items c.tree_with.ensures.more c.tree_with.ensures.grown c.self.invariant.3 c.self.invariant.5,
)

pub returns-in_err-root-clause-unchanged : goal.returns-in_err-root-clause-unchanged
returns-in_err-root-clause-unchanged c =
    always_err c.from_residual.result _
    (kept_view c.args.self.now c.self.inside.width c.self.inside.rest c.self.inside.height c.self.inside.pairs c.tree_with.new.pairs c.self.inside.roots.items c.self.inside.known (sym c.self.view_is) c.tree_with.ensures.more c.self.invariant.3 c.self.invariant.4
    c.self.inside.roots.items refl)

pub invariant_of-self-2 : goal.invariant_of-self-2
invariant_of-self-2 c = (
  c.self.invariant.0,
  c.self.invariant.1,
  c.add_root-2.ensures.fits,
  all_grown (IsTree c.tree_with.new.pairs c.self.inside.height) c.self.inside.roots.items c.add_root-2.new.roots.items c.in_ok-root.root
      (trees_kept c.self.inside.pairs c.tree_with.new.pairs c.self.inside.height c.self.inside.roots.items c.tree_with.ensures.more c.self.invariant.3)
      c.in_ok-root.ensures.made.tree (either c.add_root-2.result _ _ c.add_root-2.ensures.root c.add_root-2.ensures.unchanged),
  pairs_kept c.self.inside.pairs c.tree_with.new.pairs c.self.inside.known c.tree_with.ensures.more c.self.invariant.4,
  all_grown (HasResidues c.tree_with.new.pairs c.tree_with.new.residues c.self.inside.height) c.self.inside.roots.items c.add_root-2.new.roots.items c.in_ok-root.root
      (residues_kept c.self.inside.pairs c.tree_with.new.pairs c.self.inside.residues c.tree_with.new.residues c.self.inside.height c.self.inside.roots.items c.tree_with.ensures.more c.tree_with.ensures.grown c.self.invariant.3 c.self.invariant.5)
      c.in_ok-root.ensures.marked (either c.add_root-2.result _ _ c.add_root-2.ensures.root c.add_root-2.ensures.unchanged),
)

pub returns-clause-list : goal.returns-clause-list
returns-clause-list c =
    let at : slice_get c.self.inside.roots.items c.args.list ≡ Some c.in-Some.root = ap (λ l. slice_get l c.args.list) (sym c.deref.ensures.value) ∙ (sym c.root_at.ensures ∙ c.in-Some.is) in
    on_ok c.add_root-2.result _ _
    (grown_view c.args.self.now c.self.inside.width c.self.inside.rest c.self.inside.height c.self.inside.pairs c.tree_with.new.pairs c.self.inside.roots.items c.self.inside.known (sym c.self.view_is) c.tree_with.ensures.more c.self.invariant.3 c.self.invariant.4
    c.add_root-2.new.roots.items c.in_ok-root.root _
    (changed_view c.args.self.now c.self.inside.width c.self.inside.rest c.self.inside.height c.self.inside.pairs c.tree_with.new.pairs c.self.inside.roots.items c.args.list c.in-Some.root c.in_ok-root.root c.args.index c.args.item (sym c.self.view_is) at c.in_ok-root.ensures.made))
    c.add_root-2.ensures.root

pub returns-clause-unchanged : goal.returns-clause-unchanged
returns-clause-unchanged c =
    on_err c.add_root-2.result _ _
    (kept_view c.args.self.now c.self.inside.width c.self.inside.rest c.self.inside.height c.self.inside.pairs c.tree_with.new.pairs c.self.inside.roots.items c.self.inside.known (sym c.self.view_is) c.tree_with.ensures.more c.self.invariant.3 c.self.invariant.4
    c.add_root-2.new.roots.items)
    c.add_root-2.ensures.unchanged
