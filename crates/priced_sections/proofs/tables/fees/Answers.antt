use Rattle.std.proofs.Common.{◌≡◌, ℕ, List, length, get_or, sym, ap, ◌∙◌, subst, arith}
use Rattle.std.proofs.lemmas.List.{with_items_is}
use Rattle.section_check.specs.Section.{CertifiedLoop}
use Rattle.section_check.specs.Heading.{IsFirstHeaded}
use Rattle.priced_sections.specs.Views.{ArePlainFees, AreFees}
use Rattle.priced_sections.proofs.Headed.{entry_pays}
use Rattle.priced_sections.proofs.tables.fees.Goals as goal

pub returns : goal.returns
returns c =
    let q = c.args.q.now in
    let ls = q.section.now.loops in
    let plain = c.in_ok-found.found.items in
    let new = c.add_dues.new.fees in
    let ok = c.in_ok-found.found.ok in
    let P : List CertifiedLoop → Type 0 = λ zs. ArePlainFees zs q.bounds.now q.loads.now plain in
    let first_fees = subst P c.loops-loops.ensures c.in_ok-found.ensures in
    let start : c.deref_mut.result.now ≡ plain = c.deref_mut.ensures.value in
    let long : length new ≡ length plain = c.add_dues.ensures.long ∙ ap (λ (zs : List ℕ). length zs) start in
    let R : List ℕ → Type 0 = λ ds. AreFees q ds in
    subst R (sym (with_items_is c.in_ok-found.found new (omega (arith, ok.0))))
    (record {
      long = long ∙ first_fees.long;
      each = λ u i first.
          let F : List CertifiedLoop → Type 0 = λ zs. IsFirstHeaded zs u i in
          let more = c.add_dues.ensures.each u i (subst F (sym c.loops-loops.ensures) first) in
          let before : get_or c.deref_mut.result.now i 0 ≡ get_or plain i 0 = ap (λ (zs : List ℕ). get_or zs i 0) start in
          let here = first_fees.each i first.headed first.at in
          let whole = entry_pays q.facts.now ls q.bounds.now q.loads.now u i c.requires.form.bounded c.requires.form.loaded first in
          omega arith;
      few = λ i.
          let before : get_or c.deref_mut.result.now i 0 ≡ get_or plain i 0 = ap (λ (zs : List ℕ). get_or zs i 0) start in
          omega (arith, c.add_dues.ensures.few i, first_fees.few i);
    })
