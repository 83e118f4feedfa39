-- The order of prices, one by one.
use Rattle.std.proofs.Common.{◌≡◌, ℕ, ◌-◌, ◌<◌, inl, inr, List, [], ◌∷◌, ◌++◌, length, get_or, sym, ◌∙◌, subst, arith, Option, Some, None}
use Rattle.std.specs.Prelude.{All, AllPairs, MatchOption}
use Rattle.std.proofs.lemmas.Bool.{cases_lt}
use Rattle.std.proofs.lemmas.List.{length-append, get_or_append_left}
use Rattle.std.proofs.Math.Seq.{get_or-append_seam}
use Rattle.std.proofs.lemmas.List.Elements.{All-nil, All-push}
use Rattle.std.proofs.lemmas.List.Quantifiers.{all_pairs_push}
use Rattle.std.proofs.lemmas.Option.{slice_get-get_or}
use Rattle.priced_cert.specs.declared.prices.Price.{Price}
use Rattle.priced_cert.specs.declared.prices.RootPrice.{RootPrice}
use Rattle.priced_cert.specs.Prices.{IsLess, StandsBefore, IsPriceInRange, IsRootPriceInRange, ArePrices, AreRootPrices, IsBehind, IsBehindInRoot, last_in}

abbrev FollowsLast : {X : Type 0} → (R : X → X → Type 0) → List X → X → Type 0
FollowsLast R xs x = MatchOption (last_in xs) (Unit {0}) (λ l. R l x)

-- ---- an order that goes on

module _ {X : Type 0} (R : X → X → Type 0) (on : (x y z : X) → R x y → R y z → R x z) where
  -- what stands behind the last stands behind all
  behind_each : (xs : List X) (x : X) → AllPairs R xs → FollowsLast R xs x → (k : ℕ) (d : X) → k < length xs → R (get_or xs k d) x
  behind_each xs x rising h k d lt =
      let i = length xs - 1 in
      let within : i < length xs = omega arith in
      let there : last_in xs ≡ Some (get_or xs i d) = slice_get-get_or xs i d within in
      let last : R (get_or xs i d) x = subst (λ (o : Option X). MatchOption o (Unit {0}) (λ l. R l x)) there h in
      elim (cases_lt k i) [
        | inl before ↦ on (get_or xs k d) (get_or xs i d) x (rising k i d before within) last
        | inr not_before ↦ let same : i ≡ k = omega arith in subst (λ (n : ℕ). R (get_or xs n d) x) same last
      ]

  rises_on : (xs : List X) (x : X) → AllPairs R xs → FollowsLast R xs x → AllPairs R (xs ++ x ∷ [])
  rises_on xs x rising h = all_pairs_push R xs x rising (behind_each xs x rising h)

  follows : (xs : List X) (x : X) (ys : List X) → AllPairs R (xs ++ x ∷ ys) → FollowsLast R xs x
  follows [] x ys rising = tt
  follows (z ∷ zs) x ys rising =
      let xs = z ∷ zs in
      let i = length xs - 1 in
      let within : i < length xs = omega arith in
      let long : length xs < length (xs ++ x ∷ ys) = omega (arith, length-append xs (x ∷ ys)) in
      let there : last_in xs ≡ Some (get_or xs i x) = slice_get-get_or xs i x within in
      let pair : R (get_or (xs ++ x ∷ ys) i x) (get_or (xs ++ x ∷ ys) (length xs) x) = rising i (length xs) x within long in
      let less : R (get_or xs i x) x =
      subst (λ (a : X). R a x) (get_or_append_left xs (x ∷ ys) x i within) (subst (λ (b : X). R (get_or (xs ++ x ∷ ys) i x) b) (get_or-append_seam xs x ys x) pair) in
      subst (λ (o : Option X). MatchOption o (Unit {0}) (λ l. R l x)) (sym there) less

-- ---- the two orders

less_on : (a b c d e f : ℕ) → IsLess a b c d → IsLess c d e f → IsLess a b e f
less_on a b c d e f (inl p) (inl q) = inl (omega arith)
less_on a b c d e f (inl p) (inr q) = let same = q.0 in inl (omega arith)
less_on a b c d e f (inr p) (inl q) = let same = p.0 in inl (omega arith)
less_on a b c d e f (inr p) (inr q) = let less = p.1 in let more = q.1 in inr (p.0 ∙ q.0, omega arith)

stands_on : (u v w : ℕ) (h k l : Option ℕ) → StandsBefore u h v k → StandsBefore v k w l → StandsBefore u h w l
stands_on u v w None None None p q = omega arith
stands_on u v w None None (Some l) p q = tt
stands_on u v w None (Some k) None p q = absurd q
stands_on u v w None (Some k) (Some l) p q = tt
stands_on u v w (Some h) None l p q = absurd p
stands_on u v w (Some h) (Some k) None p q = absurd q
stands_on u v w (Some h) (Some k) (Some l) p q = less_on u h v k w l p q

abbrev Before : Price → Price → Type 0
Before x y = StandsBefore x.node x.header y.node y.header

abbrev BeforeInRoot : RootPrice → RootPrice → Type 0
BeforeInRoot x y = IsLess x.method x.node y.method y.node

before_on : (x y z : Price) → Before x y → Before y z → Before x z
before_on x y z p q = stands_on x.node y.node z.node x.header y.header z.header p q

root_before_on : (x y z : RootPrice) → BeforeInRoot x y → BeforeInRoot y z → BeforeInRoot x z
root_before_on x y z p q = less_on x.method x.node y.method y.node z.method z.node p q

-- ---- prices, one by one

pub no_prices : ArePrices []
no_prices = record { range = All-nil IsPriceInRange; rising = λ i j d lt within. absurd (omega arith) }

pub no_root_prices : AreRootPrices []
no_root_prices = record { range = All-nil IsRootPriceInRange; rising = λ i j d lt within. absurd (omega arith) }

pub more_prices : (xs : List Price) (x : Price) → ArePrices xs → IsBehind xs x → ArePrices (xs ++ x ∷ [])
more_prices xs x h b = record { range = All-push IsPriceInRange xs x h.range b.0; rising = rises_on Before before_on xs x h.rising b.1 }

pub more_root_prices : (xs : List RootPrice) (x : RootPrice) → AreRootPrices xs → IsBehindInRoot xs x → AreRootPrices (xs ++ x ∷ [])
more_root_prices xs x h b = record { range = All-push IsRootPriceInRange xs x h.range b.0; rising = rises_on BeforeInRoot root_before_on xs x h.rising b.1 }

-- the one between others
range_at : {X : Type 0} (P : X → Type 0) (xs : List X) (x : X) (ys : List X) → All P (xs ++ x ∷ ys) → P x
range_at P xs x ys h =
    let long : length xs < length (xs ++ x ∷ ys) = omega (arith, length-append xs (x ∷ ys)) in
    subst P (get_or-append_seam xs x ys x) (h (length xs) x long)

pub next_price : (xs : List Price) (x : Price) (ys : List Price) → ArePrices (xs ++ x ∷ ys) → IsBehind xs x
next_price xs x ys h = (range_at IsPriceInRange xs x ys h.range, follows Before before_on xs x ys h.rising)

pub next_root_price : (xs : List RootPrice) (x : RootPrice) (ys : List RootPrice) → AreRootPrices (xs ++ x ∷ ys) → IsBehindInRoot xs x
next_root_price xs x ys h = (range_at IsRootPriceInRange xs x ys h.range, follows BeforeInRoot root_before_on xs x ys h.rising)
