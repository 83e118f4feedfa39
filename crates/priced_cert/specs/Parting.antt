-- A text of version 3 parted, line by line: the lines of the certificate without its prices, as one of version 2, and the prices.
use Rattle.std.specs.Prelude.{◌≡◌, ℕ, Bool, true, nat_eq, if◌then◌else◌, List, [], ◌∷◌, ◌++◌, flat_map, Option, Some, None, codes}
use Rattle.std.specs.List.{starts_with}
use Rattle.std.specs.Option.{option_to_list}
use Rattle.priced_cert.specs.declared.prices.Price.{Price}
use Rattle.priced_cert.specs.declared.prices.RootPrice.{RootPrice}
use Rattle.priced_cert.specs.declared.kind.LineKind.{LineKind}
use Rattle.priced_cert.specs.declared.kind.LineKind.TheVariants.{OfPrice, OfSection, OfAlone, OfBound, Other}
use Rattle.priced_cert.specs.Prices.{IsBehind, IsBehindInRoot, price_line, root_price_line}
use Rattle.priced_cert.specs.Texts.{version_line}

-- ---- kinds of lines, by their first words

abbrev pub begins : (word line : List ℕ) → Bool
begins word line = starts_with nat_eq line word

abbrev pub kind_of : (line : List ℕ) → LineKind
kind_of line =
    if begins (codes "price ") line then OfPrice
    else (if begins (codes "section alone ") line then OfAlone
    else (if begins (codes "section ") line then OfSection else (if begins (codes "bound ") line then OfBound else Other)))

-- ---- what the lines so far have given

-- a section: the line that begins it, the lines behind that one, and its prices
pub record Block : Type 0 where
  pub start : List ℕ
  pub body : List (List ℕ)
  pub prices : List Price

-- nothing; the version; the line of the root, the prices in it, the sections before the last, and the last one, if one has begun; or all, with the last
-- line
pub data Parted : Type 0 where
  Blank : Parted
  Versioned : Parted
  Begun : (root : List ℕ) (root_prices : List RootPrice) (closed : List Block) (current : Option Block) → Parted
  Ended : (root : List ℕ) (root_prices : List RootPrice) (blocks : List Block) (bound : List ℕ) → Parted

-- the lines without prices
abbrev pub plain_of_block : Block → List (List ℕ)
plain_of_block b = b.start ∷ b.body

abbrev pub plain_of : Parted → List (List ℕ)
plain_of Blank = []
plain_of Versioned = codes "JOPC 2" ∷ []
plain_of (Begun root xs closed current) = codes "JOPC 2" ∷ root ∷ flat_map plain_of_block (closed ++ option_to_list current)
plain_of (Ended root xs blocks bound) = codes "JOPC 2" ∷ root ∷ (flat_map plain_of_block blocks ++ bound ∷ [])

abbrev pub empty_block : (start : List ℕ) → Block
empty_block line = record { start = line; body = []; prices = [] }

-- ---- one line more

-- a price of the root, where no section has begun, or else of the last section
abbrev pub TakesPrice : (root : List ℕ) → List RootPrice → List Block → Option Block → (line : List ℕ) → Parted → Type 0
TakesPrice root xs closed None line t =
    (x : RootPrice) × (line ≡ root_price_line x) × IsBehindInRoot xs x × (t ≡ Begun root (xs ++ x ∷ []) closed None)
TakesPrice root xs closed (Some b) line t =
    (x : Price) × (line ≡ price_line x) × IsBehind b.prices x × (t ≡ Begun root xs closed (Some (record b { prices = b.prices ++ x ∷ [] })))

-- a line of the last section, behind which no price stands
abbrev pub TakesOther : (root : List ℕ) → List RootPrice → List Block → Option Block → (line : List ℕ) → Parted → Type 0
TakesOther root xs closed None line t = ⊥
TakesOther root xs closed (Some b) line t = (b.prices ≡ []) × (t ≡ Begun root xs closed (Some (record b { body = b.body ++ line ∷ [] })))

abbrev pub TakesInside : LineKind → (root : List ℕ) → List RootPrice → List Block → Option Block → (line : List ℕ) → Parted → Type 0
TakesInside OfPrice root xs closed current line t = TakesPrice root xs closed current line t
TakesInside OfAlone root xs closed current line t = ⊥
TakesInside OfSection root xs closed current line t = t ≡ Begun root xs (closed ++ option_to_list current) (Some (empty_block line))
TakesInside OfBound root xs closed current line t = t ≡ Ended root xs (closed ++ option_to_list current) line
TakesInside Other root xs closed current line t = TakesOther root xs closed current line t

-- What the lines give with one line more. Whether the lines without prices are those of a certificate is not asked here.
abbrev pub Takes : Parted → (line : List ℕ) → Parted → Type 0
Takes Blank line t = (line ≡ version_line) × (t ≡ Versioned)
Takes Versioned line t = (begins (codes "root ") line ≡ true) × (t ≡ Begun line [] [] None)
Takes (Begun root xs closed current) line t = TakesInside (kind_of line) root xs closed current line t
Takes (Ended root xs blocks bound) line t = ⊥

-- one line after the other
abbrev pub TakeAll : Parted → List (List ℕ) → Parted → Type 0
TakeAll w [] t = t ≡ w
TakeAll w (line ∷ lines) t = (s : Parted) × Takes w line s × TakeAll s lines t
