use Rattle.std.proofs.Common.{◌≡◌, ℕ, List, length, get_or, sym, ap, ◌∙◌, inl, inr, arith}
use Rattle.std.proofs.lemmas.List.{get_or_default}
use Rattle.loop_nest.specs.Digraph.{targets_of}
use Rattle.loop_nest.proofs.Linked.{linked, not_linked_many, not_linked_to, read_targets, target_within}
use Rattle.loop_nest.proofs.chains.next.Goals as goal
use Rattle.loop_nest.proofs.chains.next.Goals.{then-v-eq0-via-then-v-eq0, then-v-eq0-via-else-v-eq0+then-of-ne1}

first_of : (xs ys : List ℕ) → xs ≡ ys → length xs ≡ 1 → get_or xs 0 0 ≡ get_or ys 0 (get_or xs 0 0)
first_of xs ys is one = let e = ap length is in ap (λ (ls : List ℕ). get_or ls 0 0) is ∙ get_or_default ys 0 0 (get_or xs 0 0) (omega arith)

pub returns-then-successors-ne1 : goal.returns-then-successors-ne1
returns-then-successors-ne1 c =
    let g = c.args.g.now in
    let is = c.of-successors.ensures ∙ read_targets g.edges g.nodes c.args.u c.args.targets.now c.requires.targets c.requires.below in
    not_linked_many g c.args.u (λ one. c.if-successors-ne1.true (ap length is ∙ one))

pub of-requires : goal.of-requires
of-requires c =
    let g = c.args.g.now in
    let u = c.args.u in
    let is = c.of-successors.ensures ∙ read_targets g.edges g.nodes u c.args.targets.now c.requires.targets c.requires.below in
    let one = c.if-successors-ne1.false in
    let lt = target_within g u (get_or c.of-successors.result.now 0 0) c.requires.valid (sym (ap length is) ∙ one) (first_of c.of-successors.result.now (targets_of g.edges u) is one) in
    let long = c.requires.sources.long in
    omega arith

pub returns-then-v-eq0 : goal.returns-then-v-eq0
returns-then-v-eq0 c =
    let g = c.args.g.now in
    let u = c.args.u in
    let v = get_or c.of-successors.result.now 0 0 in
    let is = c.of-successors.ensures ∙ read_targets g.edges g.nodes u c.args.targets.now c.requires.targets c.requires.below in
    let one = c.if-successors-ne1.false in
    let alone = sym (ap length is) ∙ one in
    let at = first_of c.of-successors.result.now (targets_of g.edges u) is one in
    let lt = target_within g u v c.requires.valid alone at in
    not_linked_to g u v alone at (
    elim c.then-v-eq0.branch [
      | then-v-eq0-via-then-v-eq0 w ↦ inl w.if-v-eq0.true
      | then-v-eq0-via-else-v-eq0+then-of-ne1 w ↦ inr (λ e. w.if-of-ne1.true (ap length (w.of.ensures ∙ c.requires.sources.each v lt) ∙ e))
    ])

pub returns : goal.returns
returns c =
    let g = c.args.g.now in
    let u = c.args.u in
    let v = get_or c.of-successors.result.now 0 0 in
    let is = c.of-successors.ensures ∙ read_targets g.edges g.nodes u c.args.targets.now c.requires.targets c.requires.below in
    let one = c.if-successors-ne1.false in
    let alone = sym (ap length is) ∙ one in
    let at = first_of c.of-successors.result.now (targets_of g.edges u) is one in
    let lt = target_within g u v c.requires.valid alone at in
    linked g u v alone at c.if-v-eq0.false (sym (ap length (c.of.ensures ∙ c.requires.sources.each v lt)) ∙ c.if-of-ne1.false)
