use Rattle.std.proofs.Common.{ℕ, List, get_or, Contains, sym, ◌∙◌, subst, arith}
use Rattle.std.proofs.lemmas.Bool.{false≢true}
use Rattle.std.proofs.lemmas.List.Elements.{Contains-get_or}
use Rattle.loop_nest.specs.Digraph.{IsBefore}
use Rattle.section_check.proofs.LeastLemmas.{one_more}
use Rattle.section_check.proofs.Ordered.{AreOrdered, edge_place, earlier}
use Rattle.priced_sections.specs.Paid.{EdgePays}
use Rattle.priced_sections.specs.Views.{costs_of, back_of, section_of, loops_in}
use Rattle.priced_sections.proofs.paying.failing_edge.Goals as goal

pub loop-i-preserved : goal.loop-i-preserved
loop-i-preserved c =
    let q = c.args.q.now in
    let es = c.edges-edges.result.now in
    let R : ℕ → Type 0 = λ j. EdgePays (costs_of q) (back_of q) (section_of q) (loops_in q) (get_or es j (0, 0)).0 (get_or es j (0, 0)).1 in
    λ j lt. one_more c.loop-i.i j R c.loop-i.invariant (c.edge_pays.ensures.0 c.if-not-edge_pays.false) lt

pub returns-then-not-edge_pays : goal.returns-then-not-edge_pays
returns-then-not-edge_pays c =
    let q = c.args.q.now in
    let gs = q.graph.now.edges in
    let es = c.edges-edges.result.now in
    let is = c.edges-edges.ensures.edges in
    let i = c.loop-i.i in
    let edge = get_or es i (0, 0) in
    let P : List (ℕ × ℕ) → Type 0 = λ zs. Contains zs edge in
    let Q : List (ℕ × ℕ) → Type 0 = λ zs. AreOrdered zs in
    let ordered = subst Q (sym is) c.edges-edges.ensures.valid.edges.rising in
    let R : (ℕ × ℕ) → Type 0 = λ e. EdgePays (costs_of q) (back_of q) (section_of q) (loops_in q) e.0 e.1 in
    let B : (ℕ × ℕ) → Type 0 = λ e. IsBefore e edge in
    record {
      edge = subst P is (Contains-get_or es i (0, 0) c.loop-i-test.true);
      fails = λ h. false≢true (sym c.if-not-edge_pays.true ∙ c.edge_pays.ensures.1 h);
      first = λ x y e before.
          let at = edge_place gs es x y is e in
          let early = earlier es (0, 0) ordered i at.0 c.loop-i-test.true at.1 (subst B (sym at.2) before) in
          subst R at.2 (c.loop-i.invariant at.0 early);
    }

pub returns : goal.returns
returns c =
    let q = c.args.q.now in
    let end = c.loop-i-test.false in
    let R : (ℕ × ℕ) → Type 0 = λ e. EdgePays (costs_of q) (back_of q) (section_of q) (loops_in q) e.0 e.1 in
    λ u v e.
    let at = edge_place q.graph.now.edges c.edges-edges.result.now u v c.edges-edges.ensures.edges e in
    let below = at.1 in
    subst R at.2 (c.loop-i.invariant at.0 (omega arith))
