-- What a call is told of its targets, target by target.
use Rattle.std.proofs.Common.{◌≡◌, ◌≢◌, ◌↔◌, ℕ, ◌+◌, ◌<◌, ◌≤◌, max, Bool, true, false, ltb, cond, List, [], ◌∷◌, ◌++◌, length, get_or, take, take_all, Contains, Option, Some, None, refl, sym, ap, ◌∙◌, subst, inl, inr, arith}
use Rattle.std.specs.Option.{option_or, unwrap_or}
use Rattle.std.specs.List.Sorted.{IsStrictlyIncreasing}
use Rattle.std.proofs.lemmas.Bool.{cases_lt, cond-true, cond-false, lt-ltb, le-ltb}
use Rattle.std.proofs.lemmas.List.{take_more, get_or-take, length-take-le}
use Rattle.std.proofs.lemmas.List.Elements.{Contains-append_left, Contains-push, Contains-push_cases}
use Rattle.lists.proofs.Lemmas.{none≢some, some_same}
use Rattle.lists.specs.Members.{nil_contains, place_of, rising_pair}
use Rattle.section_check.specs.Least.{IsLeast}
use Rattle.section_check.proofs.LeastLemmas.{least_same}
use Rattle.bound_rules.specs.Costs.{greater, greatest_of}
use Rattle.cert_checker.specs.declared.summaries.Summary.{Summary}
use Rattle.cert_checker.specs.Telling.{IsSummary, summary_with}

-- ---- greatest values

greater_none : (o : Option ℕ) → greater o None ≡ o
greater_none None = refl
greater_none (Some n) = refl

top : (m n : ℕ) → cond (ltb m n) n m ≡ max m n
top m n =
    elim (cases_lt m n) [
      | inl lt ↦ let e : max m n ≡ n = omega arith in cond-true (ltb m n) n m (lt-ltb m n lt) ∙ sym e
      | inr ge ↦ let e : max m n ≡ m = omega arith in cond-false (ltb m n) n m (le-ltb m n ge) ∙ sym e
    ]

greater_some : (m n : ℕ) → greater (Some m) (Some n) ≡ Some (max m n)
greater_some m n = ap Some (top m n)

greater_assoc : (a b c : Option ℕ) → greater a (greater b c) ≡ greater (greater a b) c
greater_assoc None b c = refl
greater_assoc (Some a) None c = refl
greater_assoc (Some a) (Some b) None = refl
greater_assoc (Some a) (Some b) (Some c) =
    let left : max a (max b c) ≡ max (max a b) c = omega arith in
    ap (greater (Some a)) (greater_some b c) ∙ greater_some a (max b c) ∙ ap Some left ∙ sym (greater_some (max a b) c) ∙ sym (ap (λ (o : Option ℕ). greater o (Some c)) (greater_some a b))

greatest-push : (value : ℕ → Option ℕ) (xs : List ℕ) (x : ℕ) → greatest_of value (xs ++ x ∷ []) ≡ greater (greatest_of value xs) (value x)
greatest-push value [] x = greater_none (value x)
greatest-push value (y ∷ ys) x = ap (greater (value y)) (greatest-push value ys x) ∙ greater_assoc (value y) (greatest_of value ys) (value x)

most : (o : Option ℕ) (n : ℕ) → unwrap_or (greater o (Some n)) 0 ≡ max (unwrap_or o 0) n
most None n = let e : n ≡ max 0 n = omega arith in e
most (Some m) n = top m n

-- ---- one target more

abbrev pub Told : Type 0
Told = ℕ → Option (Option ℕ)

abbrev number : Told → ℕ → Option ℕ
number told x = unwrap_or (told x) None

never_is_some : (o : Option ℕ) → None ≡ Some o → ⊥
never_is_some o e = none≢some o e

-- what is told of x is not that it is absent: the least absent target stays
least_stays : (told : Told) (xs : List ℕ) (x : ℕ) (o : Option ℕ) (v : Option ℕ) → told x ≡ Some v → IsLeast (λ y. Contains xs y × (told y ≡ None)) o → IsLeast (λ y. Contains (xs ++ x ∷ []) y × (told y ≡ None)) o
least_stays told xs x o v is h =
    least_same (λ y. Contains xs y × (told y ≡ None)) (λ y. Contains (xs ++ x ∷ []) y × (told y ≡ None)) o
    (λ y p. (Contains-append_left xs (x ∷ []) y p.0, p.1))
    (λ y p.
    elim (Contains-push_cases xs x y p.0) [
      | inl before ↦ (before, p.1)
      | inr same ↦ absurd (never_is_some v (sym p.1 ∙ ap told (sym same) ∙ is))
    ])
    h

-- it is: the least is x where there was none
least_taken : (told : Told) (xs : List ℕ) (x : ℕ) (o : Option ℕ) → told x ≡ None → ((y : ℕ) → Contains xs y → y < x) → IsLeast (λ y. Contains xs y × (told y ≡ None)) o
    → IsLeast (λ y. Contains (xs ++ x ∷ []) y × (told y ≡ None)) (option_or o (Some x))
least_taken told xs x None is above h = (
  (Contains-push xs x, is),
  λ u less p. elim (Contains-push_cases xs x u p.0) [ inl before ↦ h u (before, p.1) | inr same ↦ omega arith ],
)
least_taken told xs x (Some n) is above h = (
  (Contains-append_left xs (x ∷ []) n h.0.0, h.0.1),
  λ u less p.
      elim (Contains-push_cases xs x u p.0) [
        | inl before ↦ h.1 u less (before, p.1)
        | inr same ↦ let up = above n h.0.0 in omega arith
      ],
)

-- what is told of x is not that it can't end: the call goes on
goes : (told : Told) (xs : List ℕ) (x : ℕ) → (told x ≢ Some None) → (true ≡ true) ↔ ((y : ℕ) × Contains (xs ++ x ∷ []) y × (told y ≢ Some None))
goes told xs x not = (λ _. (x, Contains-push xs x, not), λ _. refl)

-- it is: it goes on where it did
goes_as : (told : Told) (xs : List ℕ) (x : ℕ) (b : Bool) → told x ≡ Some None → ((b ≡ true) ↔ ((y : ℕ) × Contains xs y × (told y ≢ Some None))) → (b ≡ true) ↔ ((y : ℕ) × Contains (xs ++ x ∷ []) y × (told y ≢ Some None))
goes_as told xs x b is h = (
  λ e. let w = h.0 e in (w.0, Contains-append_left xs (x ∷ []) w.0 w.1, w.2),
  λ w.
      elim (Contains-push_cases xs x w.0 w.1) [
        | inl before ↦ h.1 (w.0, before, w.2)
        | inr same ↦ absurd (w.2 (ap told (sym same) ∙ is))
      ],
)

some_none : (n : ℕ) → ◌≡◌ {A = Option (Option ℕ)} (Some (Some n)) (Some None) → ⊥
some_none n e = none≢some n (sym (some_same (Some n) None e))

absent_none : ◌≡◌ {A = Option (Option ℕ)} None (Some None) → ⊥
absent_none e = none≢some None e

summary_case : (told : Told) (xs : List ℕ) (x : ℕ) (s : Summary) (o : Option (Option ℕ)) → told x ≡ o → ((y : ℕ) → Contains xs y → y < x) → IsSummary told xs s → IsSummary told (xs ++ x ∷ []) (summary_with s x o)
summary_case told xs x s None is above h = record {
  absent = least_taken told xs x s.absent is above h.absent;
  goes_on = goes told xs x (λ e. absent_none (sym is ∙ e));
  added =
      h.added
      ∙ sym (ap (λ (v : Option ℕ). unwrap_or v 0) (greatest-push (number told) xs x ∙ ap (greater (greatest_of (number told) xs)) (ap (λ (p : Option (Option ℕ)). unwrap_or p None) is) ∙ greater_none (greatest_of (number told) xs)));
}
summary_case told xs x s (Some None) is above h = record {
  absent = least_stays told xs x s.absent None is h.absent;
  goes_on = goes_as told xs x s.goes_on is h.goes_on;
  added =
      h.added
      ∙ sym (ap (λ (v : Option ℕ). unwrap_or v 0) (greatest-push (number told) xs x ∙ ap (greater (greatest_of (number told) xs)) (ap (λ (p : Option (Option ℕ)). unwrap_or p None) is) ∙ greater_none (greatest_of (number told) xs)));
}
summary_case told xs x s (Some (Some n)) is above h = record {
  absent = least_stays told xs x s.absent (Some n) is h.absent;
  goes_on = goes told xs x (λ e. some_none n (sym is ∙ e));
  added =
      ap (λ (m : ℕ). max m n) h.added
      ∙ sym (ap (λ (v : Option ℕ). unwrap_or v 0) (greatest-push (number told) xs x ∙ ap (greater (greatest_of (number told) xs)) (ap (λ (p : Option (Option ℕ)). unwrap_or p None) is)) ∙ most (greatest_of (number told) xs) n);
}

-- ---- in a list that rises

pub summary_none : (told : Told) (xs : List ℕ) → IsSummary told (take 0 xs) (record { absent = None; goes_on = false; added = 0 })
summary_none told xs = record {
  absent = λ u p. nil_contains u p.0;
  goes_on = (λ e. absurd (let f : false ≡ true = e in cc), λ w. absurd (nil_contains w.0 w.1));
  added = refl;
}

before : (xs : List ℕ) (i y : ℕ) → IsStrictlyIncreasing xs → i < length xs → Contains (take i xs) y → y < get_or xs i 0
before xs i y rise lt c =
    let p = place_of (take i xs) y c in
    let k = p.0 in
    let below = p.1 in
    let long = length-take-le i xs (omega arith) in
    let at : get_or (take i xs) k 0 ≡ get_or xs k 0 = get_or-take i xs k 0 (omega arith) in
    let up = rising_pair xs rise k i (omega arith) lt in
    let is = p.2 in
    omega arith

pub summary_more : (told : Told) (xs : List ℕ) (i : ℕ) (s new : Summary) → IsStrictlyIncreasing xs → i < length xs → new ≡ summary_with s (get_or xs i 0) (told (get_or xs i 0)) → IsSummary told (take i xs) s → IsSummary told (take (i + 1) xs) new
summary_more told xs i s new rise lt is h =
    let P : List ℕ → Type 0 = λ ys. IsSummary told ys new in
    let Q : Summary → Type 0 = λ k. IsSummary told (take i xs ++ get_or xs i 0 ∷ []) k in
    subst P (sym (take_more xs i 0 lt)) (subst Q (sym is) (summary_case told (take i xs) (get_or xs i 0) s (told (get_or xs i 0)) refl (λ y c. before xs i y rise lt c) h))

pub summary_all : (told : Told) (xs : List ℕ) (i : ℕ) (s : Summary) → length xs ≤ i → IsSummary told (take i xs) s → IsSummary told xs s
summary_all told xs i s all h =
    let P : List ℕ → Type 0 = λ ys. IsSummary told ys s in
    subst P (take_all i xs all) h
