-- The greatest of the values of some methods is told by which methods these are, in whatever order.
use Rattle.std.proofs.Common.{◌≡◌, ℕ, ◌≤◌, List, [], ◌∷◌, Contains, Option, Some, None, refl, sym, ap, ◌∙◌, subst, inl, inr, arith}
use Rattle.std.proofs.lemmas.Bool.{cases_lt, cond_below, cond_above}
use Rattle.lists.proofs.Lemmas.{none≢some, some_same}
use Rattle.lists.specs.Members.{at_head, in_tail, cons_cases, nil_contains}
use Rattle.bound_rules.specs.Costs.{greater, greatest_of}

-- it is the greatest of their values, or none of them has a value
abbrev pub IsGreatestOf : (ℕ → Option ℕ) → List ℕ → Option ℕ → Type 0
IsGreatestOf f xs None = (x : ℕ) → Contains xs x → f x ≡ None
IsGreatestOf f xs (Some m) = ((x : ℕ) × Contains xs x × (f x ≡ Some m)) × ((x n : ℕ) → Contains xs x → f x ≡ Some n → n ≤ m)

first_at : (f : ℕ → Option ℕ) (x y : ℕ) (xs : List ℕ) (P : Option ℕ → Type 0) → P (f x) → ((z : ℕ) → Contains xs z → P (f z)) → Contains (x ∷ xs) y → P (f y)
first_at f x y xs P here later c = elim (cons_cases x y xs c) [ inl same ↦ let Q : ℕ → Type 0 = λ z. P (f z) in subst Q same here | inr there ↦ later y there ]

greatest_more : (f : ℕ → Option ℕ) (x : ℕ) (xs : List ℕ) (a b : Option ℕ) → f x ≡ a → IsGreatestOf f xs b → IsGreatestOf f (x ∷ xs) (greater a b)
greatest_more f x xs None None is rest = λ y c. first_at f x y xs (λ o. o ≡ None) is rest c
greatest_more f x xs None (Some n) is rest = (
  (rest.0.0, in_tail x rest.0.0 xs rest.0.1, rest.0.2),
  λ y k c e. first_at f x y xs (λ o. o ≡ Some k → k ≤ n) (λ h. absurd (none≢some k (sym is ∙ h))) (λ z there h. rest.1 z k there h) c e,
)
greatest_more f x xs (Some m) None is rest = (
  (x, at_head x xs, is),
  λ y k c e. first_at f x y xs (λ o. o ≡ Some k → k ≤ m) (λ h. let same = some_same m k (sym is ∙ h) in omega arith) (λ z there h. absurd (none≢some k (sym (rest z there) ∙ h))) c e,
)
greatest_more f x xs (Some m) (Some n) is rest =
    let G : ℕ → Type 0 = λ top. IsGreatestOf f (x ∷ xs) (Some top) in
    let up : (top : ℕ) → m ≤ top → n ≤ top → (y k : ℕ) → Contains (x ∷ xs) y → f y ≡ Some k → k ≤ top =
    λ top over above y k c e.
    first_at f x y xs (λ o. o ≡ Some k → k ≤ top) (λ h. let same = some_same m k (sym is ∙ h) in omega arith) (λ z there h. let le = rest.1 z k there h in omega arith) c e
    in
    elim (cases_lt m n) [
      | inl less ↦ subst G (cond_below m n n m less) ((rest.0.0, in_tail x rest.0.0 xs rest.0.1, rest.0.2), up n (omega arith) (omega arith))
      | inr more ↦ subst G (cond_above m n n m m more refl) ((x, at_head x xs, is), up m (omega arith) (omega arith))
    ]

pub greatest_is : (f : ℕ → Option ℕ) (xs : List ℕ) → IsGreatestOf f xs (greatest_of f xs)
greatest_is f [] = λ x c. absurd (nil_contains x c)
greatest_is f (x ∷ xs) = greatest_more f x xs (f x) (greatest_of f xs) refl (greatest_is f xs)

one_greatest : (f : ℕ → Option ℕ) (xs ys : List ℕ) (a b : Option ℕ) → ((x : ℕ) → Contains xs x → Contains ys x) → ((x : ℕ) → Contains ys x → Contains xs x) → IsGreatestOf f xs a → IsGreatestOf f ys b → a ≡ b
one_greatest f xs ys None None to from x y = refl
one_greatest f xs ys None (Some n) to from x y = absurd (none≢some n (sym (x y.0.0 (from y.0.0 y.0.1)) ∙ y.0.2))
one_greatest f xs ys (Some m) None to from x y = absurd (none≢some m (sym (y x.0.0 (to x.0.0 x.0.1)) ∙ x.0.2))
one_greatest f xs ys (Some m) (Some n) to from x y =
    let up = y.1 x.0.0 m (to x.0.0 x.0.1) x.0.2 in
    let down = x.1 y.0.0 n (from y.0.0 y.0.1) y.0.2 in
    let same : m ≡ n = omega arith in
    ap (λ (k : ℕ). Some k) same

-- lists with the same members have the same greatest value
pub same_members : (f : ℕ → Option ℕ) (xs ys : List ℕ) → ((x : ℕ) → Contains xs x → Contains ys x) → ((x : ℕ) → Contains ys x → Contains xs x) → greatest_of f xs ≡ greatest_of f ys
same_members f xs ys to from = one_greatest f xs ys (greatest_of f xs) (greatest_of f ys) to from (greatest_is f xs) (greatest_is f ys)

-- where nothing is a member, there is no value
pub none_greatest : (f : ℕ → Option ℕ) (xs : List ℕ) → ((x : ℕ) → Contains xs x → ⊥) → greatest_of f xs ≡ None
none_greatest f xs never = same_members f xs [] (λ x c. absurd (never x c)) (λ x c. absurd (nil_contains x c))
