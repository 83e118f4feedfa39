-- Prices of facts: what they may be, their order, and their lines.
use Rattle.std.specs.Prelude.{◌≡◌, ◌⊎◌, ℕ, ◌-◌, ◌/◌, ◌%◌, ◌<◌, ◌^◌, List, [], ◌++◌, length, slice_get, All, AllPairs, Option, Some, None, MatchOption}
use Rattle.std.specs.Prelude.{codes, decimal}
use Rattle.certificates.specs.CertLines.{behind_space, node_text}
use Rattle.priced_cert.specs.declared.prices.Price.{Price}
use Rattle.priced_cert.specs.declared.prices.RootPrice.{RootPrice}

-- ---- their ranges

abbrev pub IsNode : ℕ → Type 0
IsNode u = u < 2 ^ 32

-- an instruction
abbrev pub IsHeader : ℕ → Type 0
IsHeader h = (h % 2 ≡ 0) × IsNode h

abbrev pub IsHeaderOrNone : Option ℕ → Type 0
IsHeaderOrNone None = Unit {0}
IsHeaderOrNone (Some h) = IsHeader h

-- 64 bits, and not 0
abbrev pub IsPriceValue : ℕ → Type 0
IsPriceValue price = (0 < price) × (price < 2 ^ 64)

abbrev pub IsVisit : ℕ × ℕ → Type 0
IsVisit x = IsNode x.0 × IsPriceValue x.1

abbrev pub IsFee : ℕ × Option ℕ → Type 0
IsFee x = IsPriceValue x.0 × IsHeaderOrNone x.1

abbrev pub IsPriceInRange : Price → Type 0
IsPriceInRange x = IsNode x.node × IsHeaderOrNone x.header × IsPriceValue x.price

abbrev pub IsRootPriceInRange : RootPrice → Type 0
IsRootPriceInRange x = (x.method < 2 ^ 32) × IsNode x.node × IsPriceValue x.price

-- ---- their order

-- the first number is less, or the second one where the first is the same
abbrev pub IsLess : (a b c d : ℕ) → Type 0
IsLess a b c d = (a < c) ⊎ ((a ≡ c) × (b < d))

-- those of the activation by node, and then those of loops, by node and header
abbrev pub StandsBefore : (node : ℕ) (header : Option ℕ) (other_node : ℕ) (other_header : Option ℕ) → Type 0
StandsBefore u None v None = u < v
StandsBefore u None v (Some k) = Unit {0}
StandsBefore u (Some h) v None = ⊥
StandsBefore u (Some h) v (Some k) = IsLess u h v k

-- of a section: each has its place, and all stand in their order
pub record ArePrices (xs : List Price) : Type 0 where
  pub range : All IsPriceInRange xs
  pub rising : AllPairs (λ x y. StandsBefore x.node x.header y.node y.header) xs

-- in the root: by method, and then by node
pub record AreRootPrices (xs : List RootPrice) : Type 0 where
  pub range : All IsRootPriceInRange xs
  pub rising : AllPairs (λ x y. IsLess x.method x.node y.method y.node) xs

-- the last of a list, if there is one
abbrev pub last_in : {X : Type 0} → List X → Option X
last_in xs = slice_get xs (length xs - 1)

-- a price that may follow these
abbrev pub IsBehind : List Price → Price → Type 0
IsBehind xs x = IsPriceInRange x × MatchOption (last_in xs) (Unit {0}) (λ l. StandsBefore l.node l.header x.node x.header)

abbrev pub IsBehindInRoot : List RootPrice → RootPrice → Type 0
IsBehindInRoot xs x = IsRootPriceInRange x × MatchOption (last_in xs) (Unit {0}) (λ l. IsLess l.method l.node x.method x.node)

-- ---- their lines

-- a node and a price
abbrev pub visit_text : ℕ × ℕ → List ℕ
visit_text x = node_text x.0 ++ behind_space (decimal x.1)

-- `per PC`
abbrev pub header_text : ℕ → List ℕ
header_text h = codes "per " ++ decimal (h / 2)

-- nothing, or a header behind a space
abbrev pub per_text : Option ℕ → List ℕ
per_text None = []
per_text (Some h) = behind_space (header_text h)

-- a price and a header, if there is one
abbrev pub fee_text : ℕ × Option ℕ → List ℕ
fee_text x = decimal x.0 ++ per_text x.1

-- a method, a node and a price
abbrev pub root_price_text : RootPrice → List ℕ
root_price_text x = decimal x.method ++ behind_space (visit_text (x.node, x.price))

-- a node, a price and a header, if there is one
abbrev pub price_text : Price → List ℕ
price_text x = node_text x.node ++ behind_space (fee_text (x.price, x.header))

-- `price M PC LAMBDA`
abbrev pub root_price_line : RootPrice → List ℕ
root_price_line x = codes "price " ++ root_price_text x

-- `price PC LAMBDA`, or `price PC LAMBDA per PC`
abbrev pub price_line : Price → List ℕ
price_line x = codes "price " ++ price_text x
