-- What the fields of a parted text mean.
use Rattle.std.specs.Prelude.{◌≡◌, ℕ, Bool, true, false, List, [], ◌∷◌, ◌++◌, map, Option, None, option_map}
use Rattle.std.specs.Option.{option_to_list}
use Rattle.ascii_text.specs.Line.{with_line_feeds}
use Rattle.priced_cert.specs.declared.prices.Price.{Price}
use Rattle.priced_cert.specs.declared.prices.RootPrice.{RootPrice}
use Rattle.priced_cert.specs.declared.parting.Stage.{Stage}
use Rattle.priced_cert.specs.declared.parting.Stage.TheVariants as stages
use Rattle.priced_cert.specs.declared.parting.Parting.{Parting}
use Rattle.priced_cert.specs.Parting.{Block, Parted, Blank, Versioned, Begun, Ended, plain_of, Takes}

abbrev pub stage_of : Parted → Stage
stage_of Blank = stages.Blank
stage_of Versioned = stages.Versioned
stage_of (Begun root xs closed current) = stages.Begun
stage_of (Ended root xs blocks bound) = stages.Ended

abbrev pub root_prices_of : Parted → List RootPrice
root_prices_of Blank = []
root_prices_of Versioned = []
root_prices_of (Begun root xs closed current) = xs
root_prices_of (Ended root xs blocks bound) = xs

abbrev pub prices_of : List Block → List (List Price)
prices_of blocks = map (λ b. b.prices) blocks

-- the prices of the sections before the last
abbrev pub closed_prices : Parted → List (List Price)
closed_prices Blank = []
closed_prices Versioned = []
closed_prices (Begun root xs closed current) = prices_of closed
closed_prices (Ended root xs blocks bound) = prices_of blocks

-- those of the last section
abbrev pub current_prices : Parted → Option (List Price)
current_prices Blank = None
current_prices Versioned = None
current_prices (Begun root xs closed current) = option_map (λ b. b.prices) current
current_prices (Ended root xs blocks bound) = None

pub record Shows (p : Parting) (w : Parted) : Type 0 where
  pub stage : p.stage ≡ stage_of w
  pub plain : p.plain.items ≡ with_line_feeds (plain_of w)
  pub root_prices : p.root_prices.items ≡ root_prices_of w
  pub closed : p.closed.items ≡ closed_prices w
  pub current : p.current ≡ current_prices w

-- it shows what the line gives, where it gives something
pub record ShowsNext (w : Parted) (line : List ℕ) (q : Parting) : Type 0 where
  pub next : Parted
  pub takes : Takes w line next
  pub shows : Shows q next

-- Whether it takes the line. Where it doesn't, it stays.
abbrev pub TakesNow : (old : Parting) → (line : List ℕ) → (new : Parting) → (goes : Bool) → Type 0
TakesNow old line new true = (w : Parted) → Shows old w → ShowsNext w line new
TakesNow old line new false = (new ≡ old) × ((w t : Parted) → Shows old w → ¬ Takes w line t)

-- ---- its parts

-- the line stands behind the others
abbrev pub AddsPlain : (old : Parting) → (line : List ℕ) → (new : Parting) → Type 0
AddsPlain old line new =
    (new.plain.items ≡ old.plain.items ++ (line ++ 10 ∷ [])) × (new.stage ≡ old.stage) × (new.root_prices ≡ old.root_prices) × (new.closed ≡ old.closed)
    × (new.current ≡ old.current)

-- the prices of the last section stand behind the others
pub record IsClosed (old new : Parting) : Type 0 where
  pub closed : new.closed.items ≡ old.closed.items ++ option_to_list old.current
  pub current : new.current ≡ None
  pub stage : new.stage ≡ old.stage
  pub plain : new.plain ≡ old.plain
  pub root_prices : new.root_prices ≡ old.root_prices
