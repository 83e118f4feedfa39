-- The line of a price says one price.
use Rattle.std.proofs.Common.{◌≡◌, ℕ, ◌<◌, ◌^◌, ◌/◌, ◌%◌, List, [], ◌∷◌, ◌++◌, refl, ◌∙◌, ap, arith, Option, Some, None}
use Rattle.std.specs.Prelude.{codes, decimal}
use Rattle.std.proofs.lemmas.List.{append_cancel_left}
use Rattle.certificates.specs.CertLines.{node_text}
use Rattle.certificates.specs.Finding.{HasNoSpace, IsBehindPart}
use Rattle.certificates.proofs.PartLemmas.{one_first_part}
use Rattle.certificates.proofs.NumberLemmas.{decimal_no_space, one_number, one_node, node_no_space}
use Rattle.priced_cert.specs.declared.prices.Price.{Price}
use Rattle.priced_cert.specs.declared.prices.RootPrice.{RootPrice}
use Rattle.priced_cert.specs.Prices.{IsHeader, IsHeaderOrNone, IsVisit, IsFee, IsPriceInRange, IsRootPriceInRange, visit_text, header_text, per_text, fee_text, root_price_text, price_text, root_price_line, price_line}

-- what stands before a space and behind it
pub two_parts : (a b c d : List ℕ) → HasNoSpace a → HasNoSpace b → a ++ 32 ∷ c ≡ b ++ 32 ∷ d → (a ≡ b) × (c ≡ d)
two_parts a b c d h k e =
    let both = one_first_part a b (32 ∷ c) (32 ∷ d) h k refl refl e in
    let rest : 32 ∷ c ≡ 32 ∷ d = both.1 in
    (both.0, (cc))

one_decimal : (m n : ℕ) → m < 2 ^ 64 → n < 2 ^ 64 → decimal m ≡ decimal n → m ≡ n
one_decimal m n h k e = one_number (decimal m) m n refl e h k

one_visit : (u v p q : ℕ) → IsVisit (u, p) → IsVisit (v, q) → visit_text (u, p) ≡ visit_text (v, q) → (u ≡ v) × (p ≡ q)
one_visit u v p q h k e =
    let both = two_parts (node_text u) (node_text v) (decimal p) (decimal q) (node_no_space u h.0) (node_no_space v k.0) e in
    (one_node u v h.0 k.0 both.0, one_decimal p q h.1.1 k.1.1 both.1)

even_half : (h k : ℕ) → h % 2 ≡ 0 → k % 2 ≡ 0 → h / 2 ≡ k / 2 → h ≡ k
even_half h k a b e = omega (arith, a, b, e)

one_header_text : (h k : ℕ) → IsHeader h → IsHeader k → header_text h ≡ header_text k → h ≡ k
one_header_text h k a b e =
    let digits : decimal (h / 2) ≡ decimal (k / 2) = append_cancel_left (codes "per ") (decimal (h / 2)) (decimal (k / 2)) e in
    let small_h = a.1 in
    let small_k = b.1 in
    even_half h k a.0 b.0 (one_decimal (h / 2) (k / 2) (omega arith) (omega arith) digits)

behind_price : (h : Option ℕ) → IsBehindPart (per_text h)
behind_price None = tt
behind_price (Some h) = refl

one_per : (h k : Option ℕ) → IsHeaderOrNone h → IsHeaderOrNone k → per_text h ≡ per_text k → h ≡ k
one_per None None a b e = refl
one_per None (Some k) a b e = absurd (cc)
one_per (Some h) None a b e = absurd (cc)
one_per (Some h) (Some k) a b e =
    let same : header_text h ≡ header_text k = append_cancel_left (32 ∷ []) (header_text h) (header_text k) e in
    ap Some (one_header_text h k a b same)

one_fee : (p q : ℕ) (h k : Option ℕ) → IsFee (p, h) → IsFee (q, k) → fee_text (p, h) ≡ fee_text (q, k) → (p ≡ q) × (h ≡ k)
one_fee p q h k a b e =
    let both = one_first_part (decimal p) (decimal q) (per_text h) (per_text k) (decimal_no_space p a.0.1) (decimal_no_space q b.0.1) (behind_price h) (behind_price k) e in
    (one_decimal p q a.0.1 b.0.1 both.0, one_per h k a.1 b.1 both.1)

pub one_root_price : (x y : RootPrice) → IsRootPriceInRange x → IsRootPriceInRange y → root_price_line x ≡ root_price_line y → x ≡ y
one_root_price x y h k e =
    let texts : root_price_text x ≡ root_price_text y = append_cancel_left (codes "price ") (root_price_text x) (root_price_text y) e in
    let small_x : x.method < 2 ^ 64 = omega (arith, h.0) in
    let small_y : y.method < 2 ^ 64 = omega (arith, k.0) in
    let both = two_parts (decimal x.method) (decimal y.method) (visit_text (x.node, x.price)) (visit_text (y.node, y.price)) (decimal_no_space x.method small_x) (decimal_no_space y.method small_y) texts in
    let method : x.method ≡ y.method = one_decimal x.method y.method small_x small_y both.0 in
    let visit = one_visit x.node y.node x.price y.price (h.1, h.2) (k.1, k.2) both.1 in
    ap (λ (m : ℕ). record { method = m; node = x.node; price = x.price }) method
    ∙ (ap (λ (u : ℕ). record { method = y.method; node = u; price = x.price }) visit.0 ∙ ap (λ (p : ℕ). record { method = y.method; node = y.node; price = p }) visit.1)

pub one_price : (x y : Price) → IsPriceInRange x → IsPriceInRange y → price_line x ≡ price_line y → x ≡ y
one_price x y h k e =
    let texts : price_text x ≡ price_text y = append_cancel_left (codes "price ") (price_text x) (price_text y) e in
    let both = two_parts (node_text x.node) (node_text y.node) (fee_text (x.price, x.header)) (fee_text (y.price, y.header)) (node_no_space x.node h.0) (node_no_space y.node k.0) texts in
    let node : x.node ≡ y.node = one_node x.node y.node h.0 k.0 both.0 in
    let fee = one_fee x.price y.price x.header y.header (h.2, h.1) (k.2, k.1) both.1 in
    ap (λ (u : ℕ). record { node = u; header = x.header; price = x.price }) node
    ∙ (ap (λ (o : Option ℕ). record { node = y.node; header = o; price = x.price }) fee.1 ∙ ap (λ (p : ℕ). record { node = y.node; header = y.header; price = p }) fee.0)
