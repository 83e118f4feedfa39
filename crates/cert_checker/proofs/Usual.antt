-- What the grammar says of the sections of a certificate is what their check takes.
use Rattle.std.proofs.Common.{◌≡◌, ℕ, ◌+◌, List, length, map, get_or, All, arith}
use Rattle.std.proofs.lemmas.List.{get_or-map, length-map}
use Rattle.std.proofs.lemmas.List.Elements.{All-get_or}
use Rattle.std.specs.List.Sorted.{IsStrictlyIncreasing}
use Rattle.lists.specs.Members.{rising_pair}
use Rattle.section_check.specs.Section.{CertifiedLoop, HeadersRise}
use Rattle.certificates.specs.declared.cert.CertSection.{CertSection}
use Rattle.certificates.specs.Certificate.{Certificate, IsInGrammar, IsLoopInText, IsSectionInText}
use Rattle.cert_checker.specs.Section.{IsUsual}

headers_rise : (ls : List CertifiedLoop) → IsStrictlyIncreasing (map (λ l. l.header) ls) → HeadersRise ls
headers_rise ls rise =
    λ k d below.
    let headers = map (λ (l : CertifiedLoop). l.header) ls in
    let long : length headers ≡ length ls = length-map ls (λ (l : CertifiedLoop). l.header) in
    let up = rising_pair headers rise k (k + 1) (omega arith) (omega arith) in
    let first = get_or-map (λ (l : CertifiedLoop). l.header) ls k d 0 (omega arith) in
    let next = get_or-map (λ (l : CertifiedLoop). l.header) ls (k + 1) d 0 (omega arith) in
    omega (arith, up, first, next)

usual : (version : ℕ) (s : CertSection) → IsSectionInText version s → IsUsual s.section
usual version s h = record {
  nodes = h.nodes;
  potentials = h.potentials;
  members = λ i d below. (All-get_or (λ l. IsLoopInText l) s.section.loops i d below h.loops).members.rising;
  headers = headers_rise s.section.loops h.headers;
}

pub all_usual : (c : Certificate) → IsInGrammar c → All (λ s. IsUsual s.section) c.sections
all_usual c h = λ i d below. usual c.version (get_or c.sections i d) (All-get_or (IsSectionInText c.version) c.sections i d below h.sections)
