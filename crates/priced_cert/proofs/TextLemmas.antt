-- The text of a certificate taken apart into its lines.
use Rattle.std.proofs.Common.{◌≡◌, ◌≢◌, ℕ, ◌<◌, ◌^◌, ◌/◌, ◌%◌, Bool, true, false, not, List, [], ◌∷◌, ◌++◌, map, append_assoc, refl, sym, ◌∙◌, ap, arith, Option, Some, None, inl, inr}
use Rattle.std.specs.Prelude.{All, codes, decimal, flat_map, ◌==◌, if◌then◌else◌}
use Rattle.std.specs.List.{AllByRecursion, slice_split, list_all}
use Rattle.std.proofs.lemmas.Bool.{cases_Bool, eqb-true, eq-eqb, true≢false}
use Rattle.lists.specs.Tests.{and_left, and_right, not_true}
use Rattle.std.proofs.lemmas.List.Elements.{All-nil, All-cons, All-head, All-tail, All-append, All-from_recursion}
use Rattle.std.proofs.lemmas.List.Splits.{slice_split_at}
use Rattle.ascii_text.specs.Line.{lines_of as text_lines, without_empty_last, with_line_feeds}
use Rattle.certificates.specs.declared.lines.line.CertLine.{CertLine}
use Rattle.certificates.specs.declared.lines.line.CertLine.TheVariants.{Root, Bound}
use Rattle.certificates.specs.declared.cert.CertSection.{CertSection}
use Rattle.certificates.specs.CertLines.{line_text, node_text, IsLineInRange}
use Rattle.certificates.specs.Texts.{section_said}
use Rattle.certificates.proofs.PartLemmas.{each_append, each_weaker}
use Rattle.certificates.proofs.NumberLemmas.{IsDigit, digits_are}
use Rattle.certificates.proofs.LineLemmas.{line_no_feed}
use Rattle.certificates.proofs.Running.{said_in_range}
use Rattle.priced_cert.specs.declared.prices.Price.{Price}
use Rattle.priced_cert.specs.declared.prices.RootPrice.{RootPrice}
use Rattle.priced_cert.specs.Prices.{IsNode, IsHeaderOrNone, IsPriceInRange, IsRootPriceInRange, ArePrices, visit_text, per_text, fee_text, root_price_text, price_text, price_line, root_price_line}
use Rattle.priced_cert.specs.Certificate.{PricedCertificate, IsPricedInGrammar}
use Rattle.priced_cert.specs.Texts.{version_line, fed_line, section_lines, priced_lines}
use Rattle.priced_cert.specs.Laws.{IsPricedReadBack}

abbrev pub HasNoFeed : List ℕ → Type 0
HasNoFeed line = AllByRecursion (λ byte. byte ≢ 10) line

-- ---- lines of prices

joined : (xs ys : List ℕ) → HasNoFeed xs → HasNoFeed ys → HasNoFeed (xs ++ ys)
joined xs ys h k = each_append (λ byte. byte ≢ 10) xs ys h k

spaced : (ys : List ℕ) → HasNoFeed ys → HasNoFeed (32 ∷ ys)
spaced ys h = ((λ e. omega arith), h)

number_feed : (n : ℕ) → n < 2 ^ 64 → HasNoFeed (decimal n)
number_feed n h = each_weaker IsDigit (λ byte. byte ≢ 10) (λ x d e. omega (arith, d.0, e)) (decimal n) (digits_are n h)

-- a text whose bytes are tested
pub by_test : (xs : List ℕ) → list_all (λ byte. not (byte == 10)) xs ≡ true → HasNoFeed xs
by_test [] h = tt
by_test (x ∷ xs) h =
    let other = not_true (x == 10) (and_left (not (x == 10)) (list_all (λ byte. not (byte == 10)) xs) h) in
    (λ e. true≢false (sym (eq-eqb x 10 e) ∙ other), by_test xs (and_right (not (x == 10)) (list_all (λ byte. not (byte == 10)) xs) h))

price_word : HasNoFeed (codes "price ")
price_word = by_test (codes "price ") refl

per_word : HasNoFeed (codes "per ")
per_word = by_test (codes "per ") refl

raise_feed : (b : Bool) → HasNoFeed (if b then codes "r" else [])
raise_feed true = by_test (codes "r") refl
raise_feed false = tt

node_feed : (u : ℕ) → IsNode u → HasNoFeed (node_text u)
node_feed u h = joined (decimal (u / 2)) (if u % 2 == 1 then codes "r" else []) (number_feed (u / 2) (omega arith)) (raise_feed (u % 2 == 1))

per_feed : (h : Option ℕ) → IsHeaderOrNone h → HasNoFeed (per_text h)
per_feed None h = tt
per_feed (Some u) h = let small = h.1 in spaced (codes "per " ++ decimal (u / 2)) (joined (codes "per ") (decimal (u / 2)) per_word (number_feed (u / 2) (omega arith)))

price_feed : (x : Price) → IsPriceInRange x → HasNoFeed (price_line x)
price_feed x h =
    joined (codes "price ") (price_text x) price_word
    (joined (node_text x.node) (32 ∷ fee_text (x.price, x.header)) (node_feed x.node h.0) (spaced (fee_text (x.price, x.header)) (joined (decimal x.price) (per_text x.header) (number_feed x.price h.2.1) (per_feed x.header h.1))))

root_price_feed : (x : RootPrice) → IsRootPriceInRange x → HasNoFeed (root_price_line x)
root_price_feed x h =
    joined (codes "price ") (root_price_text x) price_word
    (joined (decimal x.method) (32 ∷ visit_text (x.node, x.price)) (number_feed x.method (omega (arith, h.0)))
    (spaced (visit_text (x.node, x.price)) (joined (node_text x.node) (32 ∷ decimal x.price) (node_feed x.node h.1) (spaced (decimal x.price) (number_feed x.price h.2.1)))))

-- ---- all lines

abbrev pub HaveNoFeed : List (List ℕ) → Type 0
HaveNoFeed lines = All HasNoFeed lines

prices_feed : (xs : List Price) → All IsPriceInRange xs → HaveNoFeed (map price_line xs)
prices_feed [] h = All-nil HasNoFeed
prices_feed (x ∷ xs) h = All-cons HasNoFeed (price_line x) (map price_line xs) (price_feed x (All-head IsPriceInRange x xs h)) (prices_feed xs (All-tail IsPriceInRange x xs h))

root_prices_feed : (xs : List RootPrice) → All IsRootPriceInRange xs → HaveNoFeed (map root_price_line xs)
root_prices_feed [] h = All-nil HasNoFeed
root_prices_feed (x ∷ xs) h =
    All-cons HasNoFeed (root_price_line x) (map root_price_line xs) (root_price_feed x (All-head IsRootPriceInRange x xs h)) (root_prices_feed xs (All-tail IsRootPriceInRange x xs h))

said_feed : (es : List CertLine) → AllByRecursion IsLineInRange es → HaveNoFeed (map line_text es)
said_feed [] h = All-nil HasNoFeed
said_feed (e ∷ es) h = All-cons HasNoFeed (line_text e) (map line_text es) (line_no_feed e h.0) (said_feed es h.1)

range_front : (xs ys : List CertLine) → AllByRecursion IsLineInRange (xs ++ ys) → AllByRecursion IsLineInRange xs
range_front [] ys h = tt
range_front (x ∷ xs) ys h = (h.0, range_front xs ys h.1)

range_back : (xs ys : List CertLine) → AllByRecursion IsLineInRange (xs ++ ys) → AllByRecursion IsLineInRange ys
range_back [] ys h = h
range_back (x ∷ xs) ys h = range_back xs ys h.1

sections_feed : (ss : List CertSection) (ps : List (List Price)) → AllByRecursion IsLineInRange (flat_map section_said ss) → All ArePrices ps → HaveNoFeed (section_lines ss ps)
sections_feed [] ps h k = All-nil HasNoFeed
sections_feed (s ∷ ss) [] h k = All-nil HasNoFeed
sections_feed (s ∷ ss) (x ∷ ps) h k =
    let first = range_front (section_said s) (flat_map section_said ss) h in
    let rest = range_back (section_said s) (flat_map section_said ss) h in
    All-append HasNoFeed (map line_text (section_said s)) (map price_line x ++ section_lines ss ps) (said_feed (section_said s) first)
    (All-append HasNoFeed (map price_line x) (section_lines ss ps) (prices_feed x (All-head ArePrices x ps k).range) (sections_feed ss ps rest (All-tail ArePrices x ps k)))

version_feed : HasNoFeed version_line
version_feed = by_test version_line refl

all_feed : (c : PricedCertificate) → IsPricedInGrammar c → HaveNoFeed (priced_lines c)
all_feed c g =
    let p = c.plain in
    let range = said_in_range p g.plain in
    let bound = range_back (flat_map section_said p.sections) (Bound p.bound ∷ []) range.1.1 in
    All-cons HasNoFeed version_line (line_text (Root p.root) ∷ (map root_price_line c.root_prices ++ (section_lines p.sections c.prices ++ line_text (Bound p.bound) ∷ []))) version_feed
    (All-cons HasNoFeed (line_text (Root p.root)) (map root_price_line c.root_prices ++ (section_lines p.sections c.prices ++ line_text (Bound p.bound) ∷ [])) (line_no_feed (Root p.root) range.1.0)
    (All-append HasNoFeed (map root_price_line c.root_prices) (section_lines p.sections c.prices ++ line_text (Bound p.bound) ∷ []) (root_prices_feed c.root_prices g.root_prices.range)
    (All-append HasNoFeed (section_lines p.sections c.prices) (line_text (Bound p.bound) ∷ []) (sections_feed p.sections c.prices (range_front (flat_map section_said p.sections) (Bound p.bound ∷ []) range.1.1) g.prices)
    (All-cons HasNoFeed (line_text (Bound p.bound)) [] (line_no_feed (Bound p.bound) bound.0) (All-nil HasNoFeed)))))

-- ---- taken apart

feed_test : (x : ℕ) → x ≢ 10 → (x == 10) ≡ false
feed_test x other = elim (cases_Bool (x == 10)) [ inl e ↦ absurd (other (eqb-true x 10 e)) | inr e ↦ e ]

no_feed_tests : (xs : List ℕ) → HasNoFeed xs → AllByRecursion (λ byte. (byte == 10) ≡ false) xs
no_feed_tests [] h = tt
no_feed_tests (x ∷ xs) h = (feed_test x h.0, no_feed_tests xs h.1)

pieces : (ls : List (List ℕ)) → HaveNoFeed ls → slice_split (λ byte. byte == 10) (with_line_feeds ls) ≡ ls ++ [] ∷ []
pieces [] h = refl
pieces (l ∷ ls) h =
    slice_split_at (λ byte. byte == 10) l 10 (with_line_feeds ls) (All-from_recursion (λ byte. (byte == 10) ≡ false) l (no_feed_tests l (All-head HasNoFeed l ls h))) refl
    ∙ ap (λ (xs : List (List ℕ)). l ∷ xs) (pieces ls (All-tail HasNoFeed l ls h))

without_last : (ls : List (List ℕ)) → without_empty_last (ls ++ [] ∷ []) ≡ ls
without_last [] = refl
without_last (l ∷ []) = refl
without_last (l ∷ m ∷ ls) = ap (λ (xs : List (List ℕ)). l ∷ xs) (without_last (m ∷ ls))

pub lines_back : (ls : List (List ℕ)) → HaveNoFeed ls → text_lines (with_line_feeds ls) ≡ ls
lines_back ls h = ap without_empty_last (pieces ls h) ∙ without_last ls

-- two ways to put line feeds behind lines
pub feeds_are : (ls : List (List ℕ)) → flat_map fed_line ls ≡ with_line_feeds ls
feeds_are [] = refl
feeds_are (l ∷ ls) = append_assoc l (10 ∷ []) (flat_map fed_line ls) ∙ ap (λ (t : List ℕ). l ++ 10 ∷ t) (feeds_are ls)

pub read_back : IsPricedReadBack
read_back c g = record { grammar = g; text = ap text_lines (feeds_are (priced_lines c)) ∙ lines_back (priced_lines c) (all_feed c g) }
