-- Texts that say no price.
use Rattle.std.proofs.Common.{◌≡◌, ◌≢◌, ℕ, ◌<◌, ◌^◌, List, [], ◌∷◌, ◌++◌, append-nil, sym, ◌∙◌, subst, arith, Option, Some, None}
use Rattle.std.specs.Prelude.{decimal, MatchOption}
use Rattle.certificates.specs.CertLines.{node_text}
use Rattle.certificates.specs.Finding.{HasNoSpace}
use Rattle.certificates.proofs.PartLemmas.{no_space_there}
use Rattle.certificates.proofs.NumberLemmas.{decimal_no_space, node_no_space}
use Rattle.priced_cert.specs.declared.prices.Price.{Price}
use Rattle.priced_cert.specs.declared.prices.RootPrice.{RootPrice}
use Rattle.priced_cert.specs.Prices.{IsNode, IsHeader, IsPriceValue, IsVisit, IsFee, IsPriceInRange, IsRootPriceInRange, StandsBefore, IsLess, IsBehind, IsBehindInRoot, last_in, visit_text, header_text, fee_text, root_price_text, price_text, root_price_line, price_line}
use Rattle.priced_cert.proofs.PriceLemmas.{two_parts, one_price, one_root_price}

-- a text without a space has no two parts
pub no_parts : (text a b : List ℕ) → HasNoSpace text → text ≡ a ++ 32 ∷ b → ⊥
no_parts text a b h e = no_space_there a b (subst HasNoSpace e h)

-- ---- a node and a price

pub no_node : (text word rest : List ℕ) → text ≡ word ++ 32 ∷ rest → HasNoSpace word → ((u : ℕ) → IsNode u → word ≢ node_text u) → (x : ℕ × ℕ) → IsVisit x → text ≢ visit_text x
no_node text word rest is h none x range e = none x.0 range.0 (two_parts word (node_text x.0) rest (decimal x.1) h (node_no_space x.0 range.0) (sym is ∙ e)).0

pub no_price : (text word rest : List ℕ) → text ≡ word ++ 32 ∷ rest → HasNoSpace word → ((n : ℕ) → IsPriceValue n → rest ≢ decimal n) → (x : ℕ × ℕ) → IsVisit x → text ≢ visit_text x
no_price text word rest is h none x range e = none x.1 range.1 (two_parts word (node_text x.0) rest (decimal x.1) h (node_no_space x.0 range.0) (sym is ∙ e)).1

-- ---- a price and a header

alone_has_space : (text word rest : List ℕ) (p : ℕ) → text ≡ word ++ 32 ∷ rest → p < 2 ^ 64 → text ≡ decimal p ++ [] → ⊥
alone_has_space text word rest p is small e = no_parts (decimal p) word rest (decimal_no_space p small) (sym (append-nil (decimal p)) ∙ (sym e ∙ is))

pub no_fee_price : (text word rest : List ℕ) → text ≡ word ++ 32 ∷ rest → HasNoSpace word → ((n : ℕ) → IsPriceValue n → word ≢ decimal n) → (p : ℕ) (h : Option ℕ) → IsFee (p, h) → text ≢ fee_text (p, h)
no_fee_price text word rest is space none p None range e = alone_has_space text word rest p is range.0.1 e
no_fee_price text word rest is space none p (Some u) range e = none p range.0 (two_parts word (decimal p) rest (header_text u) space (decimal_no_space p range.0.1) (sym is ∙ e)).0

pub no_fee_header : (text word rest : List ℕ) → text ≡ word ++ 32 ∷ rest → HasNoSpace word → ((u : ℕ) → IsHeader u → rest ≢ header_text u) → (p : ℕ) (h : Option ℕ) → IsFee (p, h) → text ≢ fee_text (p, h)
no_fee_header text word rest is space none p None range e = alone_has_space text word rest p is range.0.1 e
no_fee_header text word rest is space none p (Some u) range e = none u range.1 (two_parts word (decimal p) rest (header_text u) space (decimal_no_space p range.0.1) (sym is ∙ e)).1

pub no_fee_alone : (text : List ℕ) → HasNoSpace text → ((n : ℕ) → IsPriceValue n → text ≢ decimal n) → (p : ℕ) (h : Option ℕ) → IsFee (p, h) → text ≢ fee_text (p, h)
no_fee_alone text space none p None range e = none p range.0 (e ∙ append-nil (decimal p))
no_fee_alone text space none p (Some u) range e = no_parts text (decimal p) (header_text u) space e

-- ---- a price of a section

pub no_price_node : (text word rest : List ℕ) → text ≡ word ++ 32 ∷ rest → HasNoSpace word → ((u : ℕ) → IsNode u → word ≢ node_text u) → (x : Price) → IsPriceInRange x → text ≢ price_text x
no_price_node text word rest is h none x range e = none x.node range.0 (two_parts word (node_text x.node) rest (fee_text (x.price, x.header)) h (node_no_space x.node range.0) (sym is ∙ e)).0

pub no_price_fee : (text word rest : List ℕ) → text ≡ word ++ 32 ∷ rest → HasNoSpace word → ((y : ℕ × Option ℕ) → IsFee y → rest ≢ fee_text y) → (x : Price) → IsPriceInRange x → text ≢ price_text x
no_price_fee text word rest is h none x range e =
    none (x.price, x.header) (range.2, range.1) (two_parts word (node_text x.node) rest (fee_text (x.price, x.header)) h (node_no_space x.node range.0) (sym is ∙ e)).1

-- ---- a price in the root

small_method : (m : ℕ) → m < 2 ^ 32 → m < 2 ^ 64
small_method m h = omega arith

pub no_root_method : (text word rest : List ℕ) → text ≡ word ++ 32 ∷ rest → HasNoSpace word → ((m : ℕ) → m < 2 ^ 32 → word ≢ decimal m) → (x : RootPrice) → IsRootPriceInRange x → text ≢ root_price_text x
no_root_method text word rest is h none x range e =
    none x.method range.0 (two_parts word (decimal x.method) rest (visit_text (x.node, x.price)) h (decimal_no_space x.method (small_method x.method range.0)) (sym is ∙ e)).0

pub no_root_visit : (text word rest : List ℕ) → text ≡ word ++ 32 ∷ rest → HasNoSpace word → ((y : ℕ × ℕ) → IsVisit y → rest ≢ visit_text y) → (x : RootPrice) → IsRootPriceInRange x → text ≢ root_price_text x
no_root_visit text word rest is h none x range e =
    none (x.node, x.price) (range.1, range.2) (two_parts word (decimal x.method) rest (visit_text (x.node, x.price)) h (decimal_no_space x.method (small_method x.method range.0)) (sym is ∙ e)).1

-- ---- prices that don't rise

pub not_behind : (prices : List Price) (line : List ℕ) (last next : Price) → line ≡ price_line next → IsPriceInRange next → last_in prices ≡ Some last
    → ¬ StandsBefore last.node last.header next.node next.header → (x : Price) → IsBehind prices x → line ≢ price_line x
not_behind prices line last next is range there stands x behind e =
    let same : x ≡ next = one_price x next behind.0 range (sym e ∙ is) in
    let before : StandsBefore last.node last.header x.node x.header = subst (λ (o : Option Price). MatchOption o (Unit {0}) (λ l. StandsBefore l.node l.header x.node x.header)) there behind.1 in
    stands (subst (λ (y : Price). StandsBefore last.node last.header y.node y.header) same before)

pub not_behind_in_root : (prices : List RootPrice) (line : List ℕ) (last next : RootPrice) → line ≡ root_price_line next → IsRootPriceInRange next → last_in prices ≡ Some last
    → ¬ IsLess last.method last.node next.method next.node → (x : RootPrice) → IsBehindInRoot prices x → line ≢ root_price_line x
not_behind_in_root prices line last next is range there stands x behind e =
    let same : x ≡ next = one_root_price x next behind.0 range (sym e ∙ is) in
    let before : IsLess last.method last.node x.method x.node = subst (λ (o : Option RootPrice). MatchOption o (Unit {0}) (λ l. IsLess l.method l.node x.method x.node)) there behind.1 in
    stands (subst (λ (y : RootPrice). IsLess last.method last.node y.method y.node) same before)
