use Rattle.persistent_lists.specs.Tables.{ListTable}
use Rattle.persistent_lists.specs.Trees.{IsTree}
use Rattle.persistent_lists.specs.Residues.{HasResidues}
use Rattle.persistent_lists.proofs.TableLemmas.{trees_kept, residues_kept, pairs_kept, all_grown, either, on_ok, on_err, always_err, grown_view, kept_view, filled_view}
use Rattle.std.proofs.Common.{◌≡◌, refl, sym, ap, arith}
use Rattle.persistent_lists.proofs.shared.SharedLists.push.Goals as goal

pub invariant_of-self : goal.invariant_of-self
invariant_of-self c = (
  c.self.invariant.0,
  c.self.invariant.1,
  c.self.invariant.2,
  trees_kept c.self.inside.pairs c.tree_of.new.pairs c.self.inside.height c.self.inside.roots.items c.tree_of.ensures.more c.self.invariant.3,
  pairs_kept c.self.inside.pairs c.tree_of.new.pairs c.self.inside.known c.tree_of.ensures.more c.self.invariant.4,
  residues_kept c.self.inside.pairs c.tree_of.new.pairs c.self.inside.residues c.tree_of.new.residues c.self.inside.height c.self.inside.roots.items c.tree_of.ensures.more c.tree_of.ensures.grown c.self.invariant.3 c.self.invariant.5,
)

pub returns-in_err-tree-clause-unchanged : goal.returns-in_err-tree-clause-unchanged
returns-in_err-tree-clause-unchanged c =
    always_err c.from_residual.result _
    (kept_view c.args.self.now c.self.inside.width c.self.inside.rest c.self.inside.height c.self.inside.pairs c.tree_of.new.pairs c.self.inside.roots.items c.self.inside.known (sym c.self.view_is) c.tree_of.ensures.more c.self.invariant.3 c.self.invariant.4
    c.self.inside.roots.items refl)

pub invariant_of-self-2 : goal.invariant_of-self-2
invariant_of-self-2 c = (
  c.self.invariant.0,
  c.self.invariant.1,
  c.add_root.ensures.fits,
  all_grown (IsTree c.tree_of.new.pairs c.self.inside.height) c.self.inside.roots.items c.add_root.new.roots.items c.in_ok-tree.tree.node
      (trees_kept c.self.inside.pairs c.tree_of.new.pairs c.self.inside.height c.self.inside.roots.items c.tree_of.ensures.more c.self.invariant.3)
      c.in_ok-tree.ensures.filled.tree (either c.add_root.result _ _ c.add_root.ensures.root c.add_root.ensures.unchanged),
  pairs_kept c.self.inside.pairs c.tree_of.new.pairs c.self.inside.known c.tree_of.ensures.more c.self.invariant.4,
  all_grown (HasResidues c.tree_of.new.pairs c.tree_of.new.residues c.self.inside.height) c.self.inside.roots.items c.add_root.new.roots.items c.in_ok-tree.tree.node
      (residues_kept c.self.inside.pairs c.tree_of.new.pairs c.self.inside.residues c.tree_of.new.residues c.self.inside.height c.self.inside.roots.items c.tree_of.ensures.more c.tree_of.ensures.grown c.self.invariant.3 c.self.invariant.5)
      c.in_ok-tree.ensures.marked.0 (either c.add_root.result _ _ c.add_root.ensures.root c.add_root.ensures.unchanged),
)

pub returns-clause-list : goal.returns-clause-list
returns-clause-list c =
    on_ok c.add_root.result _ _
    (grown_view c.args.self.now c.self.inside.width c.self.inside.rest c.self.inside.height c.self.inside.pairs c.tree_of.new.pairs c.self.inside.roots.items c.self.inside.known (sym c.self.view_is) c.tree_of.ensures.more c.self.invariant.3 c.self.invariant.4
    c.add_root.new.roots.items c.in_ok-tree.tree.node _
    (filled_view c.args.self.now c.self.inside.width c.self.inside.rest c.self.inside.height c.self.inside.pairs c.tree_of.new.pairs c.self.inside.roots.items c.args.items.now c.in_ok-tree.tree.node c.in_ok-tree.tree.rest
    (sym c.self.view_is) (let width : c.self.inside.width ≡ c.args.self.now.width = ap (λ (t : ListTable). t.width) c.self.view_is in omega (arith, c.requires, width)) c.self.invariant.0 c.in_ok-tree.ensures.filled))
    c.add_root.ensures.root

pub returns-clause-unchanged : goal.returns-clause-unchanged
returns-clause-unchanged c =
    on_err c.add_root.result _ _
    (kept_view c.args.self.now c.self.inside.width c.self.inside.rest c.self.inside.height c.self.inside.pairs c.tree_of.new.pairs c.self.inside.roots.items c.self.inside.known (sym c.self.view_is) c.tree_of.ensures.more c.self.invariant.3 c.self.invariant.4
    c.add_root.new.roots.items)
    c.add_root.ensures.unchanged
