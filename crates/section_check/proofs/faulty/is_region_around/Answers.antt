use Rattle.std.proofs.Common.{◌≡◌, ℕ, List, sym, ap, ◌∙◌}
use Rattle.section_check.specs.Section.{CertifiedLoop}
use Rattle.section_check.proofs.LeastLemmas.{within_as, same_at}
use Rattle.section_check.proofs.faulty.is_region_around.Goals as goal

pub returns : goal.returns
returns c = λ l m inner outer.
    let ls = c.args.loops.now in
    let members : CertifiedLoop → List ℕ = λ x. x.members in
    let us = c.members.result.now in
    let vs = c.members-2.result.now in
    let a : us ≡ l.members = c.members.ensures ∙ ap members (same_at ls c.args.i l c.index-loops-i.result inner c.index-loops-i.is) in
    let b : vs ≡ m.members = c.members-2.ensures ∙ ap members (same_at ls c.args.k m c.index-loops-k-2.result outer c.index-loops-k-2.is) in
    let same = same_at ls c.args.k m c.index-loops-k.result outer c.index-loops-k.is in (
      λ t. (c.if-k-i.false, ap (λ (x : CertifiedLoop). x.region) (sym same) ∙ sym c.region.ensures ∙ c.if-not-region.false, within_as us vs l.members m.members a b (c.lies_in.ensures.0 t)),
      λ h. c.lies_in.ensures.1 (within_as l.members m.members us vs (sym a) (sym b) h.2),
    )
