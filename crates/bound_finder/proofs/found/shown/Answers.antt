use Rattle.std.proofs.Common.{ℕ, ◌<◌, List, length, All, slice_index, sym, ap₂, ◌∙◌, subst}
use Rattle.section_check.specs.Section.{CertifiedLoop, Certified}
use Rattle.section_check.specs.Renumbering.{moved}
use Rattle.bound_finder.proofs.ShowNodes.{listed_below, headers_below, members_below}
use Rattle.bound_finder.proofs.found.shown.Goals as goal

pub moved-requires-clause-listed : goal.moved-requires-clause-listed
moved-requires-clause-listed c =
    subst (λ (ns : List ℕ). All (λ n. n.0 < length ns) c.section.result.now.nodes) (sym c.as_slice.ensures)
    (subst (λ (s : Certified). All (λ n. n.0 < length c.args.p.now.shape.nodes) s.nodes) (sym c.section.ensures) (listed_below c.args.p.now c.requires.shape c.args.solved.now c.requires.shown))

pub moved-requires-clause-headers : goal.moved-requires-clause-headers
moved-requires-clause-headers c =
    subst (λ (ns : List ℕ). All (λ (l : CertifiedLoop). l.header < length ns) c.section.result.now.loops) (sym c.as_slice.ensures)
    (subst (λ (s : Certified). All (λ (l : CertifiedLoop). l.header < length c.args.p.now.shape.nodes) s.loops) (sym c.section.ensures) (headers_below c.args.p.now c.requires.shape c.args.solved.now c.requires.shown))

pub moved-requires-clause-members : goal.moved-requires-clause-members
moved-requires-clause-members c =
    subst (λ (ns : List ℕ). All (λ (l : CertifiedLoop). All (λ u. u < length ns) l.members) c.section.result.now.loops) (sym c.as_slice.ensures)
    (subst (λ (s : Certified). All (λ (l : CertifiedLoop). All (λ u. u < length c.args.p.now.shape.nodes) l.members) s.loops) (sym c.section.ensures) (members_below c.args.p.now c.requires.shape c.args.solved.now c.requires.shown))

pub returns : goal.returns
returns c = record {
  small = c.requires.small;
  solution = c.args.solved.now;
  shown = c.requires.shown;
  value_is = c.value.ensures;
  section_is = c.in_ok-section.ensures.moved ∙ ap₂ (λ (ns : List ℕ) (s : Certified). moved (slice_index ns) s) c.as_slice.ensures c.section.ensures;
  iterations = c.in_ok-section.ensures.costs;
}
