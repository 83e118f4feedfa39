-- Tables to which what visits give back, or what entries pay, is added fact by fact.
use Rattle.std.proofs.Common.{◌≡◌, ℕ, ◌+◌, ◌*◌, ◌^◌, ◌<◌, ◌≤◌, cond, List, [], length, get_or, take, refl, sym, ap, ◌∙◌, arith}
use Rattle.std.proofs.lemmas.List.Sums.{sum_by_more}
use Rattle.section_check.specs.Bounded.{holds}
use Rattle.section_check.specs.Section.{CertifiedLoop}
use Rattle.section_check.specs.Heading.{IsFirstHeaded}
use Rattle.priced_sections.specs.Prices.{PricedFact, credit_of, due_of_own, own_due, due_of_header, header_due}

-- what visits give back of n facts was added
pub record CreditsAdded (fs : List PricedFact) (n : ℕ) (old new : List ℕ) : Type 0 where
  pub long : length new ≡ length old
  pub each : (u : ℕ) → u < length old → get_or new u 0 ≡ get_or old u 0 + credit_of fs u
  pub few : (u : ℕ) → get_or new u 0 ≤ get_or old u 0 + n * 2 ^ 64

pub credits_none : (old : List ℕ) → CreditsAdded [] 0 old old
credits_none old = record { long = refl; each = λ u lt. omega arith; few = λ u. omega arith }

abbrev pub credit_in : ℕ → PricedFact → ℕ
credit_in u f = cond (holds f.nodes u) f.price 0

pub credits_more : (fs : List PricedFact) (i : ℕ) (f : PricedFact) (old mid new : List ℕ) → i < length fs → f ≡ get_or fs i f → CreditsAdded (take i fs) i old mid → length new ≡ length mid
    → ((u : ℕ) → u < length mid → get_or new u 0 ≡ get_or mid u 0 + credit_in u f) → ((u : ℕ) → get_or new u 0 ≤ get_or mid u 0 + 2 ^ 64) → CreditsAdded (take (i + 1) fs) (i + 1) old new
credits_more fs i f old mid new below is before long each few = record {
  long = long ∙ before.long;
  each = λ u lt.
      let same = before.long in
      let inside : u < length mid = omega arith in
      let item : credit_in u (get_or fs i f) ≡ credit_in u f = ap (λ (k : PricedFact). credit_in u k) (sym is) in
      let sum : credit_of (take (i + 1) fs) u ≡ credit_of (take i fs) u + credit_in u (get_or fs i f) = sum_by_more (credit_in u) fs i f below in
      omega (arith, each u inside, before.each u lt, item, sum);
  few = λ u. omega (arith, few u, before.few u);
}

-- what entries pay for n facts was added
pub record DuesAdded (ls : List CertifiedLoop) (fs : List PricedFact) (n : ℕ) (old new : List ℕ) : Type 0 where
  pub long : length new ≡ length old
  pub each : (u i : ℕ) → IsFirstHeaded ls u i → get_or new i 0 ≡ get_or old i 0 + header_due fs u
  pub few : (i : ℕ) → get_or new i 0 ≤ get_or old i 0 + n * 2 ^ 96

pub dues_none : (ls : List CertifiedLoop) (old : List ℕ) → DuesAdded ls [] 0 old old
dues_none ls old = record { long = refl; each = λ u i first. omega arith; few = λ i. omega arith }

abbrev pub due_at : ℕ → PricedFact → ℕ
due_at u f = due_of_header u f.header (f.price * f.most)

pub dues_more : (ls : List CertifiedLoop) (fs : List PricedFact) (n : ℕ) (f : PricedFact) (old mid new : List ℕ) → n < length fs → f ≡ get_or fs n f → DuesAdded ls (take n fs) n old mid → length new ≡ length mid
    → ((u i : ℕ) → IsFirstHeaded ls u i → get_or new i 0 ≡ get_or mid i 0 + due_at u f) → ((i : ℕ) → get_or new i 0 ≤ get_or mid i 0 + 2 ^ 96) → DuesAdded ls (take (n + 1) fs) (n + 1) old new
dues_more ls fs n f old mid new below is before long each few = record {
  long = long ∙ before.long;
  each = λ u i first.
      let item : due_at u (get_or fs n f) ≡ due_at u f = ap (λ (k : PricedFact). due_at u k) (sym is) in
      let sum : header_due (take (n + 1) fs) u ≡ header_due (take n fs) u + due_at u (get_or fs n f) = sum_by_more (due_at u) fs n f below in
      omega (arith, each u i first, before.each u i first, item, sum);
  few = λ i. omega (arith, few i, before.few i);
}

-- what an activation pays for one fact more
abbrev pub due_in_all : PricedFact → ℕ
due_in_all f = due_of_own f.header (f.price * f.most)

pub own_more : (fs : List PricedFact) (n : ℕ) (f : PricedFact) → n < length fs → f ≡ get_or fs n f → own_due (take (n + 1) fs) ≡ own_due (take n fs) + due_in_all f
own_more fs n f below is =
    let item : due_in_all (get_or fs n f) ≡ due_in_all f = ap (λ (k : PricedFact). due_in_all k) (sym is) in
    let sum : own_due (take (n + 1) fs) ≡ own_due (take n fs) + due_in_all (get_or fs n f) = sum_by_more due_in_all fs n f below in
    omega (arith, item, sum)
