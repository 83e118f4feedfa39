use Rattle.std.proofs.Common.{◌≡◌, ℕ, List, false, get_or, set, take, sym, ap, ◌∙◌, arith, add-one}
use Rattle.section_check.specs.Section.{CertifiedLoop}
use Rattle.section_check.specs.Regions.{marked}
use Rattle.section_check.proofs.Marking.{marked-none, marked-more}
use Rattle.section_check.proofs.section.mark_regions.Goals as goal

pub loop-i-init : goal.loop-i-init
loop-i-init c = sym (marked-none c.args.loops.now)

pub loop-i-preserved : goal.loop-i-preserved
loop-i-preserved c =
    let i = c.loop-i.i in
    let rs = c.args.regions.now in
    let ls = c.args.loops.now in
    let l = c.index-loops-i.result in
    let is = c.index-loops-i.is in
    let long = c.requires in
    let shown : c.loop-i.loops ≡ marked ls (take i rs) = c.loop-i.invariant in
    let updated : c.set_region.new.self ≡ record l { region = get_or rs i false } = c.set_region.ensures ∙ ap (λ (y : CertifiedLoop). record y { region = get_or rs i false }) (sym is) in
    ap (λ (zs : List CertifiedLoop). set zs i c.set_region.new.self) shown ∙ ap (λ (y : CertifiedLoop). set (marked ls (take i rs)) i y) updated
    ∙ marked-more ls rs i l (omega arith) (omega arith) (is ∙ ap (λ (zs : List CertifiedLoop). get_or zs i l) shown)
    ∙ ap (λ (k : ℕ). marked ls (take k rs)) (sym (add-one i))
