-- The least header of a fact that isn't held, fact by fact.
use Rattle.std.proofs.Common.{◌≡◌, ℕ, ◌+◌, ◌<◌, ◌≤◌, List, length, get_or, Option, Some, sym, subst, inl, inr, arith}
use Rattle.std.proofs.lemmas.Bool.{cases_lt}
use Rattle.section_check.specs.Least.{IsLeast, lesser_of}
use Rattle.section_check.specs.Section.{PricedLoop, headed_by}
use Rattle.section_check.specs.Placing.{IsEntryAt}
use Rattle.section_check.proofs.LeastLemmas.{same_at, least_same, least_either}
use Rattle.priced_sections.specs.Prices.{PricedFact}
use Rattle.priced_sections.specs.Paid.{HoldsAll}
use Rattle.priced_sections.specs.Answers.{HeadsUnheld}

-- h is the header of this fact, and heads no loop that holds it
abbrev pub IsUnheld : List PricedLoop → PricedFact → ℕ → Type 0
IsUnheld ls f h = (f.header ≡ Some h) × (HoldsAll (headed_by h ls) f.nodes → ⊥)

-- of one of the first n facts
pub record IsUnheldBelow (ls : List PricedLoop) (fs : List PricedFact) (n h : ℕ) : Type 0 where
  pub place : ℕ
  pub fact : PricedFact
  pub early : place < n
  pub at : IsEntryAt fs place fact
  pub unheld : IsUnheld ls fact h

pub unheld_none : (ls : List PricedLoop) (fs : List PricedFact) (h : ℕ) → IsUnheldBelow ls fs 0 h → ⊥
unheld_none ls fs h x = let early = x.early in omega arith

pub unheld_more : (ls : List PricedLoop) (fs : List PricedFact) (n : ℕ) (f : PricedFact) → n < length fs → f ≡ get_or fs n f → (a b : Option ℕ) → IsLeast (IsUnheldBelow ls fs n) a → IsLeast (IsUnheld ls f) b
    → IsLeast (IsUnheldBelow ls fs (n + 1)) (lesser_of a b)
unheld_more ls fs n f below is a b ha hb =
    least_either (IsUnheldBelow ls fs n) (IsUnheld ls f) (IsUnheldBelow ls fs (n + 1)) a b
    (λ h x. let early = x.early in record { place = x.place; fact = x.fact; early = omega arith; at = x.at; unheld = x.unheld })
    (λ h x. record { place = n; fact = f; early = omega arith; at = (below, sym is); unheld = x })
    (λ h x.
    elim (cases_lt x.place n) [
      | inl less ↦ inl (record { place = x.place; fact = x.fact; early = less; at = x.at; unheld = x.unheld })
      | inr ge ↦
          let early = x.early in
          let same : x.place ≡ n = omega arith in
          let T : ℕ → Type 0 = λ k. IsEntryAt fs k x.fact in
          let one : f ≡ x.fact = same_at fs n x.fact f (subst T same x.at) is in
          let Q : PricedFact → Type 0 = λ k. IsUnheld ls k h in
          inr (subst Q (sym one) x.unheld)
    ])
    ha hb

pub unheld_all : (ls : List PricedLoop) (fs : List PricedFact) (n : ℕ) (o : Option ℕ) → length fs ≤ n → IsLeast (IsUnheldBelow ls fs n) o → IsLeast (HeadsUnheld ls fs) o
unheld_all ls fs n o all h =
    least_same (IsUnheldBelow ls fs n) (HeadsUnheld ls fs) o
    (λ u x. record { fact = x.fact; among = (x.place, x.at.0, x.at.1); header = x.unheld.0; unheld = x.unheld.1 })
    (λ u y. let below = y.among.1 in record { place = y.among.0; fact = y.fact; early = omega arith; at = (y.among.1, y.among.2); unheld = (y.header, y.unheld) }) h
