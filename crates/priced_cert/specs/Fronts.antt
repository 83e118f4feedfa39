-- How far a text is parted, and the numbers of its lines.
use Rattle.std.specs.Prelude.{◌≡◌, ◌+◌, ◌-◌, ◌==◌, ℕ, Bool, true, false, if◌then◌else◌, List, [], ◌∷◌, ◌++◌, length}
use Rattle.priced_cert.specs.declared.kind.LineKind.{LineKind}
use Rattle.priced_cert.specs.declared.kind.LineKind.TheVariants.{OfPrice, OfSection, OfAlone, OfBound, Other}
use Rattle.priced_cert.specs.declared.reader.Front.{Front}
use Rattle.priced_cert.specs.Parting.{Parted, Blank, kind_of, Takes, TakeAll}
use Rattle.priced_cert.specs.Shown.{Shows}

-- all lines are parted, or the first that isn't can't stand where it does
abbrev pub IsStop : (w : Parted) → (left : List (List ℕ)) → (whole : Bool) → Type 0
IsStop w left true = left ≡ []
IsStop w [] false = ⊥
IsStop w (line ∷ rest) false = (t : Parted) → ¬ Takes w line t

pub record IsFront (lines : List (List ℕ)) (f : Front) : Type 0 where
  pub taken : List (List ℕ)
  pub left : List (List ℕ)
  pub split : lines ≡ taken ++ left
  pub parted : Parted
  pub takes : TakeAll Blank taken parted
  pub shows : Shows f.parting parted
  pub next : f.next ≡ length taken + 1
  pub stop : IsStop parted left f.whole

abbrev pub is_price : LineKind → Bool
is_price OfPrice = true
is_price OfSection = false
is_price OfAlone = false
is_price OfBound = false
is_price Other = false

-- the number of the n-th line without a price, counted from 1, or that of the line behind all where there are fewer
abbrev pub nth_plain : (n : ℕ) → List (List ℕ) → ℕ
nth_plain n [] = 1
nth_plain n (line ∷ lines) =
    if is_price (kind_of line) then 1 + nth_plain n lines else (if n == 1 then 1 else 1 + nth_plain (n - 1) lines)
