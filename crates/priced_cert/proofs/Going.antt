-- The lines of a certificate of version 3, taken one after the other.
use Rattle.std.proofs.Common.{◌≡◌, ◌≢◌, ℕ, List, [], ◌∷◌, ◌++◌, length, map, append_assoc, append-nil, refl, sym, ◌∙◌, ap, ap₂, subst, arith, Option, Some, None}
use Rattle.std.specs.Prelude.{All, flat_map}
use Rattle.std.specs.Option.{option_to_list}
use Rattle.std.specs.Fmt.{digits}
use Rattle.std.proofs.lemmas.List.Elements.{All-head, All-tail}
use Rattle.certificates.specs.declared.lines.line.SectionKind.TheVariants.{Alone}
use Rattle.certificates.specs.declared.lines.line.CertLine.TheVariants.{Version, Root, Start, Bound}
use Rattle.certificates.specs.declared.cert.CertSection.{CertSection}
use Rattle.certificates.specs.CertLines.{line_text}
use Rattle.certificates.specs.Texts.{section_said, lines_of}
use Rattle.priced_cert.specs.declared.prices.Price.{Price}
use Rattle.priced_cert.specs.declared.prices.RootPrice.{RootPrice}
use Rattle.priced_cert.specs.declared.kind.LineKind.{LineKind}
use Rattle.priced_cert.specs.declared.kind.LineKind.TheVariants.{OfPrice, OfSection, OfBound, Other}
use Rattle.priced_cert.specs.Prices.{ArePrices, AreRootPrices, price_line, root_price_line}
use Rattle.priced_cert.specs.Certificate.{PricedCertificate, IsPricedInGrammar}
use Rattle.priced_cert.specs.Texts.{section_lines, priced_lines, ArePricedLinesOf}
use Rattle.priced_cert.specs.Parting.{Block, Parted, Blank, Versioned, Begun, Ended, kind_of, plain_of_block, plain_of, empty_block, TakesInside, Takes, TakeAll}
use Rattle.priced_cert.proofs.KindLemmas.{IsOther, body_of, body_is_other, price_kind, root_price_kind, bound_kind, start_kind}
use Rattle.priced_cert.proofs.Taking.{take_more}
use Rattle.priced_cert.proofs.Orders.{next_price, next_root_price}
use Rattle.priced_cert.proofs.Merging.{texts_of, section_texts}

by_kind : (line : List ℕ) (k : LineKind) (r : List ℕ) (xs : List RootPrice) (cl : List Block) (cu : Option Block) (t : Parted)
    → kind_of line ≡ k → TakesInside k r xs cl cu line t → Takes (Begun r xs cl cu) line t
by_kind line k r xs cl cu t e h = subst (λ (j : LineKind). TakesInside j r xs cl cu line t) (sym e) h

-- ---- prices in the root

run_roots : (r : List ℕ) (done todo : List RootPrice) → AreRootPrices (done ++ todo) → TakeAll (Begun r done [] None) (map root_price_line todo) (Begun r (done ++ todo) [] None)
run_roots r done [] h = ap (λ (xs : List RootPrice). Begun r xs [] None) (append-nil done)
run_roots r done (x ∷ todo) h =
    let next = Begun r (done ++ x ∷ []) [] None in
    let later = run_roots r (done ++ x ∷ []) todo (subst AreRootPrices (sym (append_assoc done (x ∷ []) todo)) h) in (
      next,
      by_kind (root_price_line x) OfPrice r done [] None next (root_price_kind x) (x, refl, next_root_price done x todo h, refl),
      subst (TakeAll next (map root_price_line todo)) (ap (λ (xs : List RootPrice). Begun r xs [] None) (append_assoc done (x ∷ []) todo)) later,
    )

-- ---- a section

abbrev block_of : List ℕ → List (List ℕ) → List Price → Block
block_of start body prices = record { start = start; body = body; prices = prices }

run_body : (r : List ℕ) (xs : List RootPrice) (cl : List Block) (start : List ℕ) (done todo : List (List ℕ)) → All IsOther todo
    → TakeAll (Begun r xs cl (Some (block_of start done []))) todo (Begun r xs cl (Some (block_of start (done ++ todo) [])))
run_body r xs cl start done [] h = ap (λ (ls : List (List ℕ)). Begun r xs cl (Some (block_of start ls []))) (append-nil done)
run_body r xs cl start done (l ∷ todo) h =
    let next = Begun r xs cl (Some (block_of start (done ++ l ∷ []) [])) in
    let later = run_body r xs cl start (done ++ l ∷ []) todo (All-tail IsOther l todo h) in (
      next,
      by_kind l Other r xs cl (Some (block_of start done [])) next (All-head IsOther l todo h) (refl, refl),
      subst (TakeAll next todo) (ap (λ (ls : List (List ℕ)). Begun r xs cl (Some (block_of start ls []))) (append_assoc done (l ∷ []) todo)) later,
    )

run_prices : (r : List ℕ) (xs : List RootPrice) (cl : List Block) (start : List ℕ) (body : List (List ℕ)) (done todo : List Price) → ArePrices (done ++ todo)
    → TakeAll (Begun r xs cl (Some (block_of start body done))) (map price_line todo) (Begun r xs cl (Some (block_of start body (done ++ todo))))
run_prices r xs cl start body done [] h = ap (λ (ps : List Price). Begun r xs cl (Some (block_of start body ps))) (append-nil done)
run_prices r xs cl start body done (x ∷ todo) h =
    let next = Begun r xs cl (Some (block_of start body (done ++ x ∷ []))) in
    let later = run_prices r xs cl start body (done ++ x ∷ []) todo (subst ArePrices (sym (append_assoc done (x ∷ []) todo)) h) in (
      next,
      by_kind (price_line x) OfPrice r xs cl (Some (block_of start body done)) next (price_kind x) (x, refl, next_price done x todo h, refl),
      subst (TakeAll next (map price_line todo)) (ap (λ (ps : List Price). Begun r xs cl (Some (block_of start body ps))) (append_assoc done (x ∷ []) todo)) later,
    )

abbrev block_for : CertSection → List Price → Block
block_for s prices = block_of (line_text (Start s.kind s.method)) (body_of s.section.nodes s.section.loops) prices

run_section : (r : List ℕ) (xs : List RootPrice) (cl : List Block) (cu : Option Block) (s : CertSection) (prices : List Price) → s.kind ≢ Alone → ArePrices prices
    → TakeAll (Begun r xs cl cu) (map line_text (section_said s) ++ map price_line prices) (Begun r xs (cl ++ option_to_list cu) (Some (block_for s prices)))
run_section r xs cl cu s prices kind h =
    let start = line_text (Start s.kind s.method) in
    let body = body_of s.section.nodes s.section.loops in
    let closed = cl ++ option_to_list cu in
    let next = Begun r xs closed (Some (empty_block start)) in (
      next,
      by_kind start OfSection r xs cl cu next (start_kind s.kind s.method kind) refl,
      take_more next (Begun r xs closed (Some (block_of start body []))) (Begun r xs closed (Some (block_for s prices))) body (map price_line prices)
          (run_body r xs closed start [] body (body_is_other s.section.nodes s.section.loops)) (run_prices r xs closed start body [] prices h),
    )

-- ---- all sections, and the bound

abbrev pub blocks_of : List CertSection → List (List Price) → List Block
blocks_of [] ps = []
blocks_of (s ∷ ss) [] = []
blocks_of (s ∷ ss) (xs ∷ ps) = block_for s xs ∷ blocks_of ss ps

run_sections : (r : List ℕ) (xs : List RootPrice) (cl : List Block) (cu : Option Block) (ss : List CertSection) (ps : List (List Price)) (b : Option ℕ)
    → All (λ s. s.kind ≢ Alone) ss → length ps ≡ length ss → All ArePrices ps
    → TakeAll (Begun r xs cl cu) (section_lines ss ps ++ line_text (Bound b) ∷ []) (Ended r xs ((cl ++ option_to_list cu) ++ blocks_of ss ps) (line_text (Bound b)))
run_sections r xs cl cu [] ps b kinds each h =
    let last = line_text (Bound b) in
    let next = Ended r xs (cl ++ option_to_list cu) last in
    (next, by_kind last OfBound r xs cl cu next (bound_kind b) refl, ap (λ (bs : List Block). Ended r xs bs last) (append-nil (cl ++ option_to_list cu)))
run_sections r xs cl cu (s ∷ ss) [] b kinds each h = absurd (omega (arith, each))
run_sections r xs cl cu (s ∷ ss) (x ∷ ps) b kinds each h =
    let last = line_text (Bound b) in
    let closed = cl ++ option_to_list cu in
    let block = block_for s x in
    let first = run_section r xs cl cu s x (All-head (λ (z : CertSection). z.kind ≢ Alone) s ss kinds) (All-head ArePrices x ps h) in
    let later = run_sections r xs closed (Some block) ss ps b (All-tail (λ (z : CertSection). z.kind ≢ Alone) s ss kinds) (omega (arith, each)) (All-tail ArePrices x ps h) in
    let mine = map line_text (section_said s) in
    let lines : (mine ++ map price_line x) ++ (section_lines ss ps ++ last ∷ []) ≡ (mine ++ (map price_line x ++ section_lines ss ps)) ++ last ∷ [] =
    sym (append_assoc (mine ++ map price_line x) (section_lines ss ps) (last ∷ [])) ∙ ap (λ (ls : List (List ℕ)). ls ++ last ∷ []) (append_assoc mine (map price_line x) (section_lines ss ps)) in
    let blocks : Ended r xs ((closed ++ block ∷ []) ++ blocks_of ss ps) last ≡ Ended r xs (closed ++ (block ∷ blocks_of ss ps)) last =
    ap (λ (bs : List Block). Ended r xs bs last) (append_assoc closed (block ∷ []) (blocks_of ss ps)) in
    subst (λ (ls : List (List ℕ)). TakeAll (Begun r xs cl cu) ls (Ended r xs (closed ++ (block ∷ blocks_of ss ps)) last)) lines
    (subst (TakeAll (Begun r xs cl cu) ((mine ++ map price_line x) ++ (section_lines ss ps ++ last ∷ []))) blocks
    (take_more (Begun r xs cl cu) (Begun r xs closed (Some block)) (Ended r xs ((closed ++ block ∷ []) ++ blocks_of ss ps) last) (mine ++ map price_line x) (section_lines ss ps ++ last ∷ []) first later))

-- ---- the certificate

abbrev pub end_of : PricedCertificate → Parted
end_of c = Ended (line_text (Root c.plain.root)) c.root_prices (blocks_of c.plain.sections c.prices) (line_text (Bound c.plain.bound))

pub run_all : (c : PricedCertificate) → IsPricedInGrammar c → TakeAll Blank (priced_lines c) (end_of c)
run_all c g =
    let root = line_text (Root c.plain.root) in (
      Versioned,
      (refl, refl),
      (
        Begun root [] [] None,
        (refl, refl),
        take_more (Begun root [] [] None) (Begun root c.root_prices [] None) (end_of c) (map root_price_line c.root_prices) (section_lines c.plain.sections c.prices ++ line_text (Bound c.plain.bound) ∷ [])
            (run_roots root [] c.root_prices g.root_prices) (run_sections root c.root_prices [] None c.plain.sections c.prices c.plain.bound g.kinds g.each g.prices),
      ),
    )

plain_blocks : (ss : List CertSection) (ps : List (List Price)) (b : Option ℕ) → length ps ≡ length ss → flat_map plain_of_block (blocks_of ss ps) ++ line_text (Bound b) ∷ [] ≡ texts_of ss b
plain_blocks [] ps b each = refl
plain_blocks (s ∷ ss) [] b each = absurd (omega (arith, each))
plain_blocks (s ∷ ss) (x ∷ ps) b each =
    let body = body_of s.section.nodes s.section.loops in
    let start = line_text (Start s.kind s.method) in
    ap (λ (ls : List (List ℕ)). start ∷ ls) (append_assoc body (flat_map plain_of_block (blocks_of ss ps)) (line_text (Bound b) ∷ []) ∙ ap (λ (ls : List (List ℕ)). body ++ ls) (plain_blocks ss ps b (omega (arith, each))))
    ∙ sym (section_texts s ss b)

pub plain_all : (c : PricedCertificate) → IsPricedInGrammar c → plain_of (end_of c) ≡ lines_of c.plain
unfolding digits
plain_all c g =
    ap₂ (λ (v : ℕ) ls. line_text (Version v) ∷ line_text (Root c.plain.root) ∷ ls) (sym g.version) (plain_blocks c.plain.sections c.prices c.plain.bound g.each)

-- All lines of a certificate of version 3 are taken, and those without prices are those of the certificate without them.
pub all_taken : (lines : List (List ℕ)) (c : PricedCertificate) → ArePricedLinesOf lines c → (w : Parted) × TakeAll Blank lines w × (plain_of w ≡ lines_of c.plain)
all_taken lines c a = (end_of c, subst (λ (ls : List (List ℕ)). TakeAll Blank ls (end_of c)) (sym a.text) (run_all c a.grammar), plain_all c a.grammar)
