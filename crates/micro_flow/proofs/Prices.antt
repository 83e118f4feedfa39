-- Prices are linear in the waits of the port.
use Rattle.std.proofs.Common.{◌≡◌, ℕ, ◌+◌, ◌-◌, ◌*◌, ◌≤◌, ◌&&◌, Bool, true, false, nat_lt, if◌then◌else◌, List, [], ◌∷◌, ◌⊎◌, inl, inr, refl, arith, ltb-false, mul-le-mul_right, mul-le-mul_left}
use Rattle.micro_flow.specs.declared.CostParams.{CostParams}
use Rattle.micro_flow.specs.declared.price.Price.{Price}
use Rattle.micro_flow.specs.Costs.{worth}

abbrev pub plus : Price → Price → Price
plus f g = record { fixed = f.fixed + g.fixed; reads = f.reads + g.reads; writes = f.writes + g.writes }

abbrev pub at_most : ℕ → ℕ → Bool
at_most a b = if nat_lt b a then false else true

-- no read and no write waits for more than 63 cycles
pub record IsShort (p : CostParams) : Type 0 where
  pub r : p.r ≤ 63
  pub w : p.w ≤ 63

-- f is at most g, whatever the waits up to 63
abbrev pub below : Price → Price → Bool
below f g = at_most (f.fixed + 63 * (f.reads - g.reads) + 63 * (f.writes - g.writes)) g.fixed

-- some price of the list is above f
abbrev pub some_above : Price → List Price → Bool
some_above f [] = false
some_above f (g ∷ gs) = if below f g then true else some_above f gs

abbrev pub all_below : List Price → List Price → Bool
all_below [] gs = true
all_below (f ∷ fs) gs = some_above f gs && all_below fs gs

abbrev pub raised : Price → List Price → List Price
raised d [] = []
raised d (f ∷ fs) = plus d f ∷ raised d fs

-- c is within base and one of the prices
abbrev pub Within : CostParams → List Price → ℕ → ℕ → Type 0
Within p [] base c = ⊥
Within p (f ∷ fs) base c = (c ≤ base + worth p f) ⊎ Within p fs base c

pub first : (a b : Bool) → (a && b) ≡ true → a ≡ true
first true b e = refl
first false b e = cc

pub second : (a b : Bool) → (a && b) ≡ true → b ≡ true
second true b e = e
second false b e = cc

pub at_most_is : (a b : ℕ) → (c : Bool) → nat_lt b a ≡ c → (if c then false else true) ≡ true → a ≤ b
at_most_is a b true e f = cc
at_most_is a b false e f = ltb-false b a e

pub term_below : (a b n m : ℕ) → n ≤ m → a * n ≤ b * n + m * (a - b)
term_below a b n m h = omega (arith, mul-le-mul_right n (split a b), mul-le-mul_left (a - b) h)
  where
    split : (a b : ℕ) → a ≤ b + (a - b)
    split a b = omega arith

pub below_value : (p : CostParams) → IsShort p → (f g : Price) → below f g ≡ true → worth p f ≤ worth p g
below_value p short f g h =
    let high = f.fixed + 63 * (f.reads - g.reads) + 63 * (f.writes - g.writes) in
    let a = at_most_is high g.fixed (nat_lt g.fixed high) refl h in
    omega (arith, term_below f.reads g.reads p.r 63 short.r, term_below f.writes g.writes p.w 63 short.w)

pub plus_value : (p : CostParams) (f g : Price) → worth p (plus f g) ≡ worth p f + worth p g
plus_value p f g = omega arith

pub by_test : (p : CostParams) → IsShort p → (f g : Price) (gs : List Price) (base c : ℕ) → c ≤ base + worth p f → (b : Bool) → below f g ≡ b → (if b then true else some_above f gs) ≡ true →
    (some_above f gs ≡ true → Within p gs base c) → Within p (g ∷ gs) base c
by_test p short f g gs base c l true e k r = let m = below_value p short f g e in inl (omega arith)
by_test p short f g gs base c l false e k r = inr (r k)

-- what is within a price is within a list with one above it
pub above_within : (p : CostParams) → IsShort p → (f : Price) (gs : List Price) (base c : ℕ) → some_above f gs ≡ true → c ≤ base + worth p f → Within p gs base c
above_within p short f [] base c h l = cc
above_within p short f (g ∷ gs) base c h l = by_test p short f g gs base c l (below f g) refl h (λ k. above_within p short f gs base c k l)

pub all_within : (p : CostParams) → IsShort p → (fs gs : List Price) (base c : ℕ) → all_below fs gs ≡ true → Within p fs base c → Within p gs base c
all_within p short [] gs base c h w = absurd w
all_within p short (f ∷ fs) gs base c h (inl l) = above_within p short f gs base c (first (some_above f gs) (all_below fs gs) h) l
all_within p short (f ∷ fs) gs base c h (inr w) = all_within p short fs gs base c (second (some_above f gs) (all_below fs gs) h) w

pub raise_within : (p : CostParams) (d : Price) (fs : List Price) (base c : ℕ) → Within p fs (base + worth p d) c → Within p (raised d fs) base c
raise_within p d [] base c w = w
raise_within p d (f ∷ fs) base c (inl l) = inl (omega (arith, plus_value p d f))
raise_within p d (f ∷ fs) base c (inr w) = inr (raise_within p d fs base c w)

pub lower_within : (p : CostParams) (d : Price) (fs : List Price) (base c : ℕ) → Within p (raised d fs) base c → Within p fs (base + worth p d) c
lower_within p d [] base c w = w
lower_within p d (f ∷ fs) base c (inl l) = inl (omega (arith, plus_value p d f))
lower_within p d (f ∷ fs) base c (inr w) = inr (lower_within p d fs base c w)

pub rebase : (p : CostParams) (fs : List Price) (a b c : ℕ) → a ≤ b → Within p fs a c → Within p fs b c
rebase p [] a b c h w = w
rebase p (f ∷ fs) a b c h (inl l) = inl (omega arith)
rebase p (f ∷ fs) a b c h (inr w) = inr (rebase p fs a b c h w)
