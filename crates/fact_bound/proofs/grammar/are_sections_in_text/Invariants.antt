use Rattle.std.proofs.Common.{ℕ, ◌<◌, get_or}
use Rattle.std.specs.Prelude.{◌≢◌}
use Rattle.certificates.specs.declared.lines.line.SectionKind.TheVariants.{Alone}
use Rattle.certificates.specs.declared.cert.CertSection.{CertSection}
use Rattle.certificates.specs.Certificate.{IsSectionInText}
use Rattle.fact_bound.proofs.grammar.are_sections_in_text.Given as goal

abbrev pub invariant-loop-i : goal.invariant-loop-i
invariant-loop-i l = record {
  text : (k : ℕ) (d : CertSection) → k < l.i → IsSectionInText 2 (get_or l.sections k d);
  kinds : (k : ℕ) (d : CertSection) → k < l.i → (get_or l.sections k d).kind ≢ Alone;
}
