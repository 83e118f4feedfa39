-- Sums and greatest values of numbers of which those past 64 bits count as one.
use Rattle.std.proofs.Common.{◌≡◌, ℕ, ◌+◌, ◌<◌, ◌≤◌, cond, ltb, List, [], ◌∷◌, Contains, Option, Some, None, refl, sym, ap, ap₂, ◌∙◌, inl, inr, arith}
use Rattle.std.specs.Prelude.{◌⊎◌, option_map, unwrap_or}
use Rattle.std.proofs.lemmas.Bool.{cases_lt, cond_below, cond_above}
use Rattle.lists.specs.Members.{at_head, in_tail}
use Rattle.bound_rules.specs.Costs.{greater, greatest_of}
use Rattle.compact_walks.specs.Limited.{cycles_limit, limited, limited_of}
use Rattle.bound_finder.specs.Telling.{with_back}

-- ---- numbers

pub limited_below : (n : ℕ) → n < cycles_limit → limited n ≡ n
limited_below n lt = sym (cond_below n cycles_limit n cycles_limit lt)

pub limited_above : (n : ℕ) → cycles_limit ≤ n → limited n ≡ cycles_limit
limited_above n le = sym (cond_above n cycles_limit n cycles_limit cycles_limit le refl)

-- it is the number or the cycles_limit, whichever is less
pub limited_is : (n : ℕ) → ((n < cycles_limit) × (limited n ≡ n)) ⊎ ((cycles_limit ≤ n) × (limited n ≡ cycles_limit))
limited_is n = elim (cases_lt n cycles_limit) [ inl less ↦ inl (less, limited_below n less) | inr more ↦ inr (more, limited_above n more) ]

pub limited_most : (n : ℕ) → limited n ≤ cycles_limit
limited_most n = elim (limited_is n) [ inl x ↦ let less = x.0 in let same = x.1 in omega arith | inr x ↦ let same = x.1 in omega arith ]

-- one that isn't limited is the number itself
pub small_is : (n : ℕ) → limited n < cycles_limit → limited n ≡ n
small_is n lt = elim (limited_is n) [ inl x ↦ x.1 | inr x ↦ absurd (let same = x.1 in omega arith) ]

pub large_is : (n : ℕ) → cycles_limit ≤ limited n → cycles_limit ≤ n
large_is n le = elim (limited_is n) [ inl x ↦ absurd (let less = x.0 in let same = x.1 in omega arith) | inr x ↦ x.0 ]

pub limited_at_most : (n : ℕ) → n ≤ cycles_limit → limited n ≡ n
limited_at_most n le = elim (limited_is n) [ inl x ↦ x.1 | inr x ↦ let more = x.0 in let same = x.1 in omega arith ]

-- what is limited may be so once more
pub limited_again : (n : ℕ) → limited (limited n) ≡ limited n
limited_again n = limited_at_most (limited n) (limited_most n)

pub limited_sum : (a b : ℕ) → limited (a + limited b) ≡ limited (a + b)
limited_sum a b =
    elim (limited_is b) [
      | inl x ↦ ap (λ (n : ℕ). limited (a + n)) x.1
      | inr x ↦ let more = x.0 in let same = x.1 in limited_above (a + limited b) (omega arith) ∙ sym (limited_above (a + b) (omega arith))
    ]

pub limited_first : (a b : ℕ) → limited (limited a + b) ≡ limited (a + b)
limited_first a b =
    elim (limited_is a) [
      | inl x ↦ ap (λ (n : ℕ). limited (n + b)) x.1
      | inr x ↦ let more = x.0 in let same = x.1 in limited_above (limited a + b) (omega arith) ∙ sym (limited_above (a + b) (omega arith))
    ]

-- the order stays
limited_order : (a b : ℕ) → a ≤ b → limited a ≤ limited b
limited_order a b le =
    elim (limited_is b) [
      | inl x ↦ let less = x.0 in let same = x.1 in let own = limited_below a (omega arith) in omega arith
      | inr x ↦ let same = x.1 in let most = limited_most a in omega arith
    ]

-- ---- greatest values

larger_below : (a b : ℕ) → a ≤ b → cond (ltb a b) b a ≡ b
larger_below a b le = elim (cases_lt a b) [ inl less ↦ sym (cond_below a b b a less) | inr more ↦ sym (cond_above a b b a b more (omega arith)) ]

larger_above : (a b : ℕ) → b ≤ a → cond (ltb a b) b a ≡ a
larger_above a b le = elim (cases_lt a b) [ inl less ↦ absurd (omega arith) | inr more ↦ sym (cond_above a b b a a more refl) ]

greater_limited : (a b : Option ℕ) → greater (limited_of a) (limited_of b) ≡ limited_of (greater a b)
greater_limited None b = refl
greater_limited (Some m) None = refl
greater_limited (Some m) (Some n) =
    ap (λ (k : ℕ). Some k)
    (elim (cases_lt m n) [
      | inl less ↦ larger_below (limited m) (limited n) (limited_order m n (omega arith)) ∙ ap limited (sym (larger_below m n (omega arith)))
      | inr more ↦ larger_above (limited m) (limited n) (limited_order n m more) ∙ ap limited (sym (larger_above m n more))
    ])

-- the greatest of limited values is the greatest value, limited
pub greatest_limited : (f g : ℕ → Option ℕ) (xs : List ℕ) → ((x : ℕ) → Contains xs x → f x ≡ limited_of (g x)) → greatest_of f xs ≡ limited_of (greatest_of g xs)
greatest_limited f g [] each = refl
greatest_limited f g (x ∷ xs) each =
    ap₂ (λ (a b : Option ℕ). greater a b) (each x (at_head x xs)) (greatest_limited f g xs (λ y has. each y (in_tail x y xs has))) ∙ greater_limited (g x) (greatest_of g xs)

pub number_limited : (o : Option ℕ) → unwrap_or (limited_of o) 0 ≡ limited (unwrap_or o 0)
number_limited None = sym (limited_below 0 (omega arith))
number_limited (Some n) = refl

-- and so is one with so many cycles more
pub back_limited : (back : ℕ) (o : Option ℕ) → with_back back (limited_of o) ≡ limited_of (option_map (λ n. n + back) o)
back_limited back None = refl
back_limited back (Some n) = ap (λ (k : ℕ). Some k) (limited_first n back)
