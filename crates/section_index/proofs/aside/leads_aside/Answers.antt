use Rattle.std.proofs.Common.{ℕ, List, get_or, Contains, sym, ap, subst, inl, inr, arith}
use Rattle.std.proofs.lemmas.Bool.{cases_lt}
use Rattle.std.proofs.lemmas.List.Elements.{Contains-get_or}
use Rattle.section_check.specs.Placing.{EntersAside}
use Rattle.section_check.proofs.Ordered.{AreOrdered, sources_rise, edge_place}
use Rattle.section_index.proofs.aside.leads_aside.Goals as goal

pub returns-then-enters_aside : goal.returns-then-enters_aside
returns-then-enters_aside c =
    let ls = c.args.loops.now in
    let gs = c.args.g.now.edges in
    let es = c.edges-edges.result.now in
    let is = c.edges-edges.ensures.edges in
    let i = c.loop-i.i in
    let edge = get_or es i (0, 0) in
    let P : List (ℕ × ℕ) → Type 0 = λ zs. Contains zs edge in
    let Q : List (ℕ × ℕ) → Type 0 = λ zs. AreOrdered zs in
    let ordered = subst Q (sym is) c.edges-edges.ensures.valid.edges.rising in (
      (edge.1, subst P is (Contains-get_or es i (0, 0) c.loop-i-test.true), c.enters_aside.ensures.0 c.if-enters_aside.true),
      λ u less aside.
          let at = edge_place gs es u aside.0 is aside.1 in
          elim (cases_lt at.0 i) [
            | inl early ↦
                let R : (ℕ × ℕ) → Type 0 = λ e. EntersAside ls e.0 e.1 in
                c.loop-i.invariant at.0 early (subst R (sym at.2) aside.2)
            | inr late ↦
                let up = sources_rise es ordered i at.0 (0, 0) late at.1 in
                let same = ap (λ (e : ℕ × ℕ). e.0) at.2 in
                omega arith
          ],
    )

pub returns : goal.returns
returns c =
    let ls = c.args.loops.now in
    let gs = c.args.g.now.edges in
    let es = c.edges-edges.result.now in
    let end = c.loop-i-test.false in
    λ u aside.
    let at = edge_place gs es u aside.0 c.edges-edges.ensures.edges aside.1 in
    let below = at.1 in
    let R : (ℕ × ℕ) → Type 0 = λ e. EntersAside ls e.0 e.1 in
    c.loop-i.invariant at.0 (omega arith) (subst R (sym at.2) aside.2)
