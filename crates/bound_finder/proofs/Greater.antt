-- The greatest of values, one item more behind the others, and how great it is.
use Rattle.std.proofs.Common.{◌≡◌, ℕ, ◌+◌, ◌<◌, ◌≤◌, List, [], ◌∷◌, ◌++◌, length, take, get_or, Contains, Option, Some, None, refl, sym, ap, ap₂, ◌∙◌, arith}
use Rattle.std.specs.Prelude.{nat_lt, if◌then◌else◌, unwrap_or, IfSome}
use Rattle.std.proofs.lemmas.Bool.Decides.{nat_tests}
use Rattle.std.proofs.lemmas.List.{take_more}
use Rattle.lists.proofs.Lemmas.{if_at}
use Rattle.bound_rules.specs.Costs.{greater, greatest_of}
use Rattle.bound_rules.proofs.Greatest.{IsGreatestOf, greatest_is}

greater_none : (a : Option ℕ) → greater a None ≡ a
greater_none None = refl
greater_none (Some m) = refl

max_max : (l m n : ℕ) → (if nat_lt (if nat_lt l m then m else l) n then n else (if nat_lt l m then m else l)) ≡ (if nat_lt l (if nat_lt m n then n else m) then (if nat_lt m n then n else m) else l)
max_max l m n = grind (arith, nat_tests)

greater_greater : (a b c : Option ℕ) → greater (greater a b) c ≡ greater a (greater b c)
greater_greater None b c = refl
greater_greater (Some l) None c = refl
greater_greater (Some l) (Some m) None = refl
greater_greater (Some l) (Some m) (Some n) = ap (λ (k : ℕ). Some k) (max_max l m n)

pub greatest_push : (f : ℕ → Option ℕ) (xs : List ℕ) (x : ℕ) → greatest_of f (xs ++ x ∷ []) ≡ greater (greatest_of f xs) (f x)
greatest_push f [] x = greater_none (f x)
greatest_push f (y ∷ ys) x = ap (greater (f y)) (greatest_push f ys x) ∙ sym (greater_greater (f y) (greatest_of f ys) (f x))

-- the same of the first items of a list
pub greatest_more : (f : ℕ → Option ℕ) (xs : List ℕ) (i : ℕ) (a b new : Option ℕ) → i < length xs → a ≡ greatest_of f (take i xs) → b ≡ f (get_or xs i 0) → new ≡ greater a b → new ≡ greatest_of f (take (i + 1) xs)
greatest_more f xs i a b new lt was is more =
    more ∙ ap₂ greater was is ∙ sym (ap (greatest_of f) (take_more xs i 0 lt) ∙ greatest_push f (take i xs) (get_or xs i 0))

-- where each is at most n, the greatest is
by_greatest : (f : ℕ → Option ℕ) (xs : List ℕ) (n : ℕ) → ((x : ℕ) → Contains xs x → IfSome (f x) (λ k. k ≤ n)) → (o : Option ℕ) → IsGreatestOf f xs o → unwrap_or o 0 ≤ n
by_greatest f xs n small None h = omega arith
by_greatest f xs n small (Some m) h = if_at (f h.0.0) m (λ k. k ≤ n) h.0.2 (small h.0.0 h.0.1)

pub greatest_small : (f : ℕ → Option ℕ) (xs : List ℕ) (n : ℕ) → ((x : ℕ) → Contains xs x → IfSome (f x) (λ k. k ≤ n)) → unwrap_or (greatest_of f xs) 0 ≤ n
greatest_small f xs n small = by_greatest f xs n small (greatest_of f xs) (greatest_is f xs)
