use Rattle.std.proofs.Common.{◌≡◌, ℕ, Bool, true, not, Option, refl, sym, ap, ◌∙◌, inl, inr}
use Rattle.std.specs.Prelude.{is_some}
use Rattle.std.proofs.lemmas.Bool.{false≢true}
use Rattle.section_check.specs.Section.{CertifiedLoop}
use Rattle.section_check.specs.Placing.IsFaulty.{crosses_another, lies_in_region}
use Rattle.section_check.proofs.LeastLemmas.{same_at}
use Rattle.section_index.proofs.Faults.{crosses_here, only_regions, own_header}
use Rattle.section_index.proofs.faulty.is_faulty.Goals as goal

pub returns-then-is_at : goal.returns-then-is_at
returns-then-is_at c = λ l at. (λ t. crosses_another (crosses_here c.args.loops.now c.args.i l c.args.crossing at c.requires.crossing (c.is_at.ensures.0 c.if-is_at.true)), λ f. refl)

pub returns-then-not-region : goal.returns-then-not-region
returns-then-not-region c = λ l at.
    let ls = c.args.loops.now in
    let i = c.args.i in
    let r = c.index-loops-i.result in
    let has = own_header ls i c.header.result c.members.result.now l r at c.index-loops-i.is c.members.ensures c.header.ensures (c.has.ensures.0 c.if-not-has.false) in (
      λ t. absurd (false≢true t),
      λ f.
          let x = only_regions ls c.args.loads.now i l c.args.crossing at c.requires.earlier c.requires.crossing (λ s. false≢true (sym c.if-shares_header.false ∙ (c.shares_header.ensures l at).1 s)) has (λ e. false≢true (sym c.if-is_at.false ∙ c.is_at.ensures.1 e)) f in
          absurd (false≢true (sym c.if-not-region.true ∙ c.region.ensures ∙ ap (λ (m : CertifiedLoop). m.region) (same_at ls i l r at c.index-loops-i.is) ∙ x.0)),
    )

pub returns : goal.returns
returns c = λ l at.
    let ls = c.args.loops.now in
    let i = c.args.i in
    let r = c.index-loops-i.result in
    let has = own_header ls i c.header.result c.members.result.now l r at c.index-loops-i.is c.members.ensures c.header.ensures (c.has.ensures.0 c.if-not-has.false) in
    let region : l.region ≡ true = ap (λ (m : CertifiedLoop). m.region) (sym (same_at ls i l r at c.index-loops-i.is)) ∙ sym c.region.ensures ∙ c.if-not-region.false in (
      λ t. lies_in_region region ((c.lies_in_region.ensures l at has).0 t),
      λ f.
          let x = only_regions ls c.args.loads.now i l c.args.crossing at c.requires.earlier c.requires.crossing (λ s. false≢true (sym c.if-shares_header.false ∙ (c.shares_header.ensures l at).1 s)) has (λ e. false≢true (sym c.if-is_at.false ∙ c.is_at.ensures.1 e)) f in
          elim (x.1) [
            | inl none ↦ absurd (false≢true (ap (λ (o : Option ℕ). is_some o) (sym none.1) ∙ c.is_none.ensures ∙ ap (λ (b : Bool). not b) c.if-is_none.false))
            | inr inside ↦ (c.lies_in_region.ensures l at has).1 inside
          ],
    )
