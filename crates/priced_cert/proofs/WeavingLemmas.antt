-- Lines of prices put among the others.
use Rattle.std.proofs.Common.{◌≡◌, ◌≢◌, ℕ, List, [], ◌∷◌, ◌++◌, length, map, append_assoc, append-nil, refl, sym, ◌∙◌, ap, ap₂, arith, Option, Some, None, Bor}
use Rattle.std.specs.Prelude.{All, codes, decimal, flat_map}
use Rattle.std.specs.Iterator.{YieldsFirstRef}
use Rattle.std.proofs.lemmas.List.Elements.{All-head, All-tail}
use Rattle.lists.proofs.FirstLemmas.{flat_map-append}
use Rattle.certificates.specs.declared.lines.line.SectionKind.TheVariants.{Alone}
use Rattle.certificates.specs.declared.lines.line.CertLine.TheVariants.{Version, Root, Start, Bound}
use Rattle.certificates.specs.declared.cert.CertSection.{CertSection}
use Rattle.certificates.specs.CertLines.{line_text}
use Rattle.ascii_text.specs.Line.{lines_of as text_lines}
use Rattle.certificates.specs.Certificate.{Certificate, IsInGrammar}
use Rattle.certificates.specs.Texts.{text_of}
use Rattle.certificates.proofs.Texts.{read_back}
use Rattle.priced_cert.specs.declared.prices.Price.{Price}
use Rattle.priced_cert.specs.declared.prices.RootPrice.{RootPrice}
use Rattle.priced_cert.specs.declared.kind.LineKind.{LineKind}
use Rattle.priced_cert.specs.declared.kind.LineKind.TheVariants.{OfPrice, OfSection, OfAlone, OfBound, Other}
use Rattle.priced_cert.specs.Prices.{price_line, root_price_line}
use Rattle.priced_cert.specs.Certificate.{PricedCertificate, IsPricedInGrammar}
use Rattle.priced_cert.specs.Texts.{version_line, fed_line, section_lines, priced_text}
use Rattle.priced_cert.specs.Parting.{kind_of}
use Rattle.priced_cert.specs.Weaving.{price_fed, root_price_fed, ending, held_behind, left_behind, woven}
use Rattle.priced_cert.proofs.KindLemmas.{IsOther, body_of, body_is_other, bound_kind, start_kind}
use Rattle.priced_cert.proofs.Merging.{texts_of, section_texts}

woven_at : (k : LineKind) (held : List Price) (line : List ℕ) (ls : List (List ℕ)) (ps : List (List Price)) → kind_of line ≡ k
    → woven held (line ∷ ls) ps ≡ map price_line (ending k held) ++ line ∷ woven (held_behind k held ps) ls (left_behind k ps)
woven_at k held line ls ps e = ap (λ (j : LineKind). map price_line (ending j held) ++ line ∷ woven (held_behind j held ps) ls (left_behind j ps)) e

woven_body : (held : List Price) (body ls : List (List ℕ)) (ps : List (List Price)) → All IsOther body → woven held (body ++ ls) ps ≡ body ++ woven held ls ps
woven_body held [] ls ps h = refl
woven_body held (l ∷ body) ls ps h =
    woven_at Other held l (body ++ ls) ps (All-head IsOther l body h) ∙ ap (λ (xs : List (List ℕ)). l ∷ xs) (woven_body held body ls ps (All-tail IsOther l body h))

woven_sections : (held : List Price) (ss : List CertSection) (ps : List (List Price)) (b : Option ℕ) → All (λ s. s.kind ≢ Alone) ss → length ps ≡ length ss
    → woven held (texts_of ss b) ps ≡ map price_line held ++ (section_lines ss ps ++ line_text (Bound b) ∷ [])
woven_sections held [] ps b kinds each = woven_at OfBound held (line_text (Bound b)) [] ps (bound_kind b)
woven_sections held (s ∷ ss) [] b kinds each = absurd (omega (arith, each))
woven_sections held (s ∷ ss) (x ∷ ps) b kinds each =
    let start = line_text (Start s.kind s.method) in
    let body = body_of s.section.nodes s.section.loops in
    let last = line_text (Bound b) in
    let later = woven_sections x ss ps b (All-tail (λ (z : CertSection). z.kind ≢ Alone) s ss kinds) (omega (arith, each)) in
    ap (λ (ls : List (List ℕ)). woven held ls (x ∷ ps)) (section_texts s ss b)
    ∙ (woven_at OfSection held start (body ++ texts_of ss b) (x ∷ ps) (start_kind s.kind s.method (All-head (λ (z : CertSection). z.kind ≢ Alone) s ss kinds))
    ∙ ap (λ (ls : List (List ℕ)). map price_line held ++ start ∷ ls)
    (woven_body x body (texts_of ss b) ps (body_is_other s.section.nodes s.section.loops)
    ∙ (ap (λ (ls : List (List ℕ)). body ++ ls) (later ∙ sym (append_assoc (map price_line x) (section_lines ss ps) (last ∷ []))) ∙ sym (append_assoc body (map price_line x ++ section_lines ss ps) (last ∷ [])))))

-- ---- as they are written

feds : (xs : List Price) → flat_map fed_line (map price_line xs) ≡ flat_map price_fed xs
feds [] = refl
feds (x ∷ xs) = ap (λ (t : List ℕ). price_fed x ++ t) (feds xs)

root_feds : (xs : List RootPrice) → flat_map fed_line (map root_price_line xs) ≡ flat_map root_price_fed xs
root_feds [] = refl
root_feds (x ∷ xs) = ap (λ (t : List ℕ). root_price_fed x ++ t) (root_feds xs)

-- one line more, and the prices before it
pub weave_on : (out more total : List ℕ) (k : LineKind) (held : List Price) (line : List ℕ) (rest : List (List ℕ)) (others : List (List Price)) → kind_of line ≡ k
    → out ++ flat_map fed_line (woven held (line ∷ rest) others) ≡ total → more ≡ (out ++ flat_map price_fed (ending k held)) ++ fed_line line
    → more ++ flat_map fed_line (woven (held_behind k held others) rest (left_behind k others)) ≡ total
weave_on out more total k held line rest others kind is e =
    let tail = woven (held_behind k held others) rest (left_behind k others) in
    let ended = map price_line (ending k held) in
    let whole : flat_map fed_line (woven held (line ∷ rest) others) ≡ flat_map price_fed (ending k held) ++ (fed_line line ++ flat_map fed_line tail) =
    ap (flat_map fed_line) (woven_at k held line rest others kind) ∙ (flat_map-append fed_line ended (line ∷ tail) ∙ ap (λ (t : List ℕ). t ++ (fed_line line ++ flat_map fed_line tail)) (feds (ending k held))) in
    ap (λ (t : List ℕ). t ++ flat_map fed_line tail) e
    ∙ (append_assoc (out ++ flat_map price_fed (ending k held)) (fed_line line) (flat_map fed_line tail)
    ∙ (append_assoc out (flat_map price_fed (ending k held)) (fed_line line ++ flat_map fed_line tail) ∙ (ap (λ (t : List ℕ). out ++ t) (sym whole) ∙ is)))

-- a line before which no prices stand
pub weave_past : (out more total : List ℕ) (held : List Price) (line : List ℕ) (rest : List (List ℕ)) (others : List (List Price)) (k : LineKind) → kind_of line ≡ k
    → ¬ (k ≡ OfSection) → ¬ (k ≡ OfBound) → out ++ flat_map fed_line (woven held (line ∷ rest) others) ≡ total → more ≡ out ++ fed_line line
    → more ++ flat_map fed_line (woven held rest others) ≡ total
weave_past out more total held line rest others OfPrice kind a b is e =
    weave_on out more total OfPrice held line rest others kind is (e ∙ ap (λ (t : List ℕ). t ++ fed_line line) (sym (append-nil out)))
weave_past out more total held line rest others OfSection kind a b is e = absurd (a refl)
weave_past out more total held line rest others OfAlone kind a b is e =
    weave_on out more total OfAlone held line rest others kind is (e ∙ ap (λ (t : List ℕ). t ++ fed_line line) (sym (append-nil out)))
weave_past out more total held line rest others OfBound kind a b is e = absurd (b refl)
weave_past out more total held line rest others Other kind a b is e =
    weave_on out more total Other held line rest others kind is (e ∙ ap (λ (t : List ℕ). t ++ fed_line line) (sym (append-nil out)))

-- all lines
pub woven_text : (c : PricedCertificate) → IsPricedInGrammar c
    → ((fed_line version_line ++ fed_line (line_text (Root c.plain.root))) ++ flat_map root_price_fed c.root_prices) ++ flat_map fed_line (woven [] (texts_of c.plain.sections c.plain.bound) c.prices) ≡ priced_text c
woven_text c g =
    let root = line_text (Root c.plain.root) in
    let rest = section_lines c.plain.sections c.prices ++ line_text (Bound c.plain.bound) ∷ [] in
    let first = fed_line version_line in
    let second = fed_line root in
    let roots = flat_map root_price_fed c.root_prices in
    append_assoc (first ++ second) roots (flat_map fed_line (woven [] (texts_of c.plain.sections c.plain.bound) c.prices))
    ∙ (append_assoc first second (roots ++ flat_map fed_line (woven [] (texts_of c.plain.sections c.plain.bound) c.prices))
    ∙ ap (λ (t : List ℕ). first ++ (second ++ t))
    (ap₂ (λ (s t : List ℕ). s ++ t) (sym (root_feds c.root_prices)) (ap (flat_map fed_line) (woven_sections [] c.plain.sections c.prices c.plain.bound g.kinds g.each))
    ∙ sym (flat_map-append fed_line (map root_price_line c.root_prices) rest)))

-- the lines of the certificate without prices, behind the first two
pub head_of : (c : Certificate) → IsInGrammar c → (all rest left : List (List ℕ)) (first second : List ℕ) → all ≡ text_lines (text_of c) → all ≡ first ∷ rest → rest ≡ second ∷ left
    → (second ≡ line_text (Root c.root)) × (left ≡ texts_of c.sections c.bound)
head_of c g all rest left first second e f h =
    let lines : first ∷ second ∷ left ≡ line_text (Version c.version) ∷ line_text (Root c.root) ∷ texts_of c.sections c.bound =
    sym (f ∙ ap (λ (ls : List (List ℕ)). first ∷ ls) h) ∙ (e ∙ (read_back c g).text) in
    ((cc), (cc))

-- there are two
pub some_head : (c : Certificate) → IsInGrammar c → (all rest : List (List ℕ)) (first : List ℕ) → all ≡ text_lines (text_of c) → all ≡ first ∷ rest → rest ≡ [] → ⊥
some_head c g all rest first e f h =
    let lines : first ∷ [] ≡ line_text (Version c.version) ∷ line_text (Root c.root) ∷ texts_of c.sections c.bound =
    sym (f ∙ ap (λ (ls : List (List ℕ)). first ∷ ls) h) ∙ (e ∙ (read_back c g).text) in
    absurd (cc)

pub some_first : (c : Certificate) → IsInGrammar c → (all : List (List ℕ)) → all ≡ text_lines (text_of c) → all ≡ [] → ⊥
some_first c g all e f =
    let lines : [] ≡ line_text (Version c.version) ∷ line_text (Root c.root) ∷ texts_of c.sections c.bound = sym f ∙ (e ∙ (read_back c g).text) in
    absurd (cc)

pub skipped : (c : Certificate) → IsInGrammar c → (all rest left : List (List ℕ)) (r s : Option (Bor (List ℕ))) → all ≡ text_lines (text_of c) → YieldsFirstRef (λ z. z) all r rest
    → YieldsFirstRef (λ z. z) rest s left → left ≡ texts_of c.sections c.bound
skipped c g all rest left None s e y z = absurd (some_first c g all e y.0)
skipped c g all rest left (Some a) None e y z = absurd (some_head c g all rest a.now e y z.0)
skipped c g all rest left (Some a) (Some b) e y z = (head_of c g all rest left a.now b.now e y z).1

pub all_written : (c : PricedCertificate) → IsPricedInGrammar c → (none first root feed roots last : List ℕ) (n : ℕ) (xs : List RootPrice) (ps : List (List Price)) (left : List (List ℕ)) → none ≡ []
    → first ≡ none ++ fed_line version_line → n ≡ c.plain.root → root ≡ first ++ (codes "root " ++ decimal n) → feed ≡ root ++ 10 ∷ [] → xs ≡ c.root_prices → roots ≡ feed ++ flat_map root_price_fed xs
    → ps ≡ c.prices → left ≡ texts_of c.plain.sections c.plain.bound → last ≡ roots ++ flat_map fed_line (woven [] left ps) → last ≡ priced_text c
all_written c g none first root feed roots last n xs ps left e1 e2 e3 e4 e5 e6 e7 e8 e9 e10 =
    let head : feed ≡ fed_line version_line ++ fed_line (line_text (Root c.plain.root)) =
    e5 ∙ (ap (λ (t : List ℕ). t ++ 10 ∷ []) (e4 ∙ ap₂ (λ (x : List ℕ) (m : ℕ). x ++ (codes "root " ++ decimal m)) (e2 ∙ ap (λ (t : List ℕ). t ++ fed_line version_line) e1) e3)
    ∙ append_assoc (fed_line version_line) (codes "root " ++ decimal c.plain.root) (10 ∷ [])) in
    e10
    ∙ (ap₂ (λ (t : List ℕ) (ls : List (List ℕ)). t ++ flat_map fed_line ls) (e7 ∙ ap₂ (λ (t : List ℕ) (ys : List RootPrice). t ++ flat_map root_price_fed ys) head e6)
    (ap₂ (λ (ls : List (List ℕ)) (qs : List (List Price)). woven [] ls qs) e9 e8) ∙ woven_text c g)
