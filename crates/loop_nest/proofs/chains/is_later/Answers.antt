use Rattle.std.proofs.Common.{◌≡◌, ℕ, List, length, get_or, sym, ap, ◌∙◌, inl, inr, arith}
use Rattle.std.proofs.lemmas.Bool.{cases_eq, eq-eqb, eqb-true}
use Rattle.std.proofs.lemmas.List.{get_or_default}
use Rattle.loop_nest.specs.Digraph.{sources_of}
use Rattle.loop_nest.proofs.Linked.{linked_back, not_later_from, read_targets, source_within}
use Rattle.loop_nest.proofs.chains.is_later.Goals as goal

first_of : (xs ys : List ℕ) → xs ≡ ys → length xs ≡ 1 → get_or xs 0 0 ≡ get_or ys 0 (get_or xs 0 0)
first_of xs ys is one = let e = ap length is in ap (λ (ls : List ℕ). get_or ls 0 0) is ∙ get_or_default ys 0 0 (get_or xs 0 0) (omega arith)

pub of-requires : goal.of-requires
of-requires c =
    let g = c.args.g.now in
    let v = c.args.v in
    let is = c.of-predecessors.ensures ∙ c.requires.sources.each v c.requires.below in
    let one = c.if-predecessors-ne1.false in
    let lt = source_within g (get_or c.of-predecessors.result.now 0 0) v c.requires.valid (sym (ap length is) ∙ one) (first_of c.of-predecessors.result.now (sources_of g.edges v) is one) in
    let long = c.requires.targets.long in
    omega arith

pub returns : goal.returns
returns c =
    let g = c.args.g.now in
    let v = c.args.v in
    let u = get_or c.of-predecessors.result.now 0 0 in
    let is = c.of-predecessors.ensures ∙ c.requires.sources.each v c.requires.below in
    let one = c.if-predecessors-ne1.false in
    let alone = sym (ap length is) ∙ one in
    let at = first_of c.of-predecessors.result.now (sources_of g.edges v) is one in
    let lt = source_within g u v c.requires.valid alone at in
    let next = c.of.ensures ∙ read_targets g.edges g.nodes u c.args.targets.now c.requires.targets lt in
    let n = length c.of.result.now in (
      λ yes'. (u, linked_back g u v c.if-v-eq0.false alone at (sym (ap length next) ∙ eqb-true n 1 yes')),
      λ later.
          elim (cases_eq n 1) [
            | inl single ↦ eq-eqb n 1 single
            | inr many ↦ absurd (not_later_from g u v alone at (λ e. many (ap length next ∙ e)) later)
          ],
    )
