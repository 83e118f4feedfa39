-- The lines of prices put among those of the certificate without them.
use Rattle.std.specs.Prelude.{ℕ, List, [], ◌∷◌, ◌++◌, map, slice_index_or, drop}
use Rattle.priced_cert.specs.declared.prices.Price.{Price}
use Rattle.priced_cert.specs.declared.prices.RootPrice.{RootPrice}
use Rattle.priced_cert.specs.declared.kind.LineKind.{LineKind}
use Rattle.priced_cert.specs.declared.kind.LineKind.TheVariants.{OfSection, OfBound}
use Rattle.priced_cert.specs.Prices.{price_line, root_price_line}
use Rattle.priced_cert.specs.Texts.{fed_line}
use Rattle.priced_cert.specs.Parting.{kind_of}

-- lines of prices as they are written
abbrev pub price_fed : Price → List ℕ
price_fed x = fed_line (price_line x)

abbrev pub root_price_fed : RootPrice → List ℕ
root_price_fed x = fed_line (root_price_line x)

-- the prices that stand before a line, of the section that ends with it
abbrev pub ending : LineKind → List Price → List Price
ending OfSection held = held
ending OfBound held = held
ending kind held = []

-- and those that are held behind it: of a section that begins, the first of those that are left
abbrev pub held_behind : LineKind → List Price → List (List Price) → List Price
held_behind OfSection held prices = slice_index_or prices 0 []
held_behind OfBound held prices = []
held_behind kind held prices = held

abbrev pub left_behind : LineKind → List (List Price) → List (List Price)
left_behind OfSection prices = drop 1 prices
left_behind kind prices = prices

-- the lines behind the root's, with those of prices
abbrev pub woven : (held : List Price) → (lines : List (List ℕ)) → (prices : List (List Price)) → List (List ℕ)
woven held [] prices = []
woven held (line ∷ lines) prices =
    map price_line (ending (kind_of line) held) ++ line ∷ woven (held_behind (kind_of line) held prices) lines (left_behind (kind_of line) prices)
