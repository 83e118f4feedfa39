-- A text is of one certificate, and of one version.
use Rattle.std.proofs.Common.{◌≡◌, ℕ, List, [], ◌∷◌, length, refl, sym, ◌∙◌, ap, ap₂, subst, arith, inl, inr}
use Rattle.std.specs.Fmt.{digits}
use Rattle.certificates.specs.declared.lines.line.CertLine.TheVariants.{Version}
use Rattle.certificates.specs.declared.cert.CertSection.{CertSection}
use Rattle.certificates.specs.CertLines.{line_text, IsVersion}
use Rattle.certificates.specs.Certificate.{Certificate}
use Rattle.certificates.specs.Texts.{lines_of}
use Rattle.certificates.proofs.LinesRead.{one_certificate}
use Rattle.certificates.proofs.WordLemmas.{apart}
use Rattle.priced_cert.specs.declared.prices.Price.{Price}
use Rattle.priced_cert.specs.declared.prices.RootPrice.{RootPrice}
use Rattle.priced_cert.specs.Texts.{version_line, priced_lines}
use Rattle.priced_cert.specs.Parting.{Blank, plain_of, TakeAll}
use Rattle.priced_cert.specs.Shown.{prices_of, root_prices_of, closed_prices}
use Rattle.priced_cert.specs.Laws.{HasOnePricedCertificate, VersionsAreApart}
use Rattle.priced_cert.proofs.Taking.{one_end}
use Rattle.priced_cert.proofs.Going.{blocks_of, end_of, run_all, plain_all}

prices_back : (ss : List CertSection) (ps : List (List Price)) → length ps ≡ length ss → prices_of (blocks_of ss ps) ≡ ps
prices_back [] [] each = refl
prices_back [] (x ∷ ps) each = absurd (omega (arith, each))
prices_back (s ∷ ss) [] each = absurd (omega (arith, each))
prices_back (s ∷ ss) (x ∷ ps) each = ap (λ (xs : List (List Price)). x ∷ xs) (prices_back ss ps (omega (arith, each)))

pub has_one : HasOnePricedCertificate
has_one lines c d a b =
    let same : priced_lines c ≡ priced_lines d = sym a.text ∙ b.text in
    let ends : end_of c ≡ end_of d =
    one_end Blank (priced_lines d) (end_of c) (end_of d) (subst (λ (ls : List (List ℕ)). TakeAll Blank ls (end_of c)) same (run_all c a.grammar)) (run_all d b.grammar) in
    let plain_lines : lines_of c.plain ≡ lines_of d.plain = sym (plain_all c a.grammar) ∙ (ap plain_of ends ∙ plain_all d b.grammar) in
    let plain : c.plain ≡ d.plain =
    one_certificate (lines_of d.plain) c.plain d.plain (record { grammar = a.grammar.plain; text = sym plain_lines }) (record { grammar = b.grammar.plain; text = refl }) in
    let roots : c.root_prices ≡ d.root_prices = ap root_prices_of ends in
    let prices : c.prices ≡ d.prices =
    sym (prices_back c.plain.sections c.prices a.grammar.each) ∙ (ap closed_prices ends ∙ prices_back d.plain.sections d.prices b.grammar.each) in
    ap (λ (p : Certificate). record { plain = p; root_prices = c.root_prices; prices = c.prices }) plain
    ∙ ap₂ (λ (rs : List RootPrice) (xs : List (List Price)). record { plain = d.plain; root_prices = rs; prices = xs }) roots prices

other_version : (v : ℕ) → IsVersion v → line_text (Version v) ≡ version_line → ⊥
unfolding digits
other_version v (inl one) e = apart (line_text (Version 1)) version_line refl (ap (λ (n : ℕ). line_text (Version n)) (sym one) ∙ e)
other_version v (inr two) e = apart (line_text (Version 2)) version_line refl (ap (λ (n : ℕ). line_text (Version n)) (sym two) ∙ e)

pub are_apart : VersionsAreApart
are_apart = record {
  priced = λ lines c a. (_, a.text);
  plain = λ lines c a says.
      let first : lines_of c ≡ version_line ∷ says.0 = sym a.text ∙ says.1 in
      let version : line_text (Version c.version) ≡ version_line = cc in
      other_version c.version a.grammar.version version;
}
