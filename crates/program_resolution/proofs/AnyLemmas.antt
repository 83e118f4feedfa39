-- Tests of the items of a list, and the first of rising numbers that passes a test.
use Rattle.std.proofs.Common.{◌≡◌, ℕ, zero, suc, ◌+◌, ◌<◌, ◌≤◌, Bool, true, false, ◌||◌, ◌==◌, cond, List, [], ◌∷◌, take, Option, Some, None, refl, sym, ap, ◌∙◌, subst, arith, eq-eqb}
use Rattle.std.specs.Prelude.{find, IfSome, slice_get, if◌then◌else◌}
use Rattle.lists.specs.Lists.{first}
use Rattle.std.specs.List.{range_with_len}
use Rattle.std.proofs.lemmas.Bool.{eqb-true}

-- ---- the first of rising numbers that passes

pub record IsFirst (p : ℕ → Bool) (n d : ℕ) : Type 0 where
  pub passes : p d ≡ true
  pub before : (c : ℕ) → n ≤ c → c < d → p c ≡ false

first_case : (p : ℕ → Bool) (n k d : ℕ) (b : Bool) → p n ≡ b → (find p (range_with_len (n + 1) k) ≡ Some d → IsFirst p (n + 1) d) → cond b (Some n) (find p (range_with_len (n + 1) k)) ≡ Some d → IsFirst p n d
first_case p n k d true e later h = let same : n ≡ d = cc in record { passes = ap p (sym same) ∙ e; before = λ c le lt. absurd (omega arith) }
first_case p n k d false e later h =
    let r = later h in
    record { passes = r.passes; before = λ c le lt. split c le lt (c == n) refl }
  where
    split : (c : ℕ) → n ≤ c → c < d → (b : Bool) → (c == n) ≡ b → p c ≡ false
    split c le lt true same = ap p (eqb-true c n same) ∙ e
    split c le lt false other = (later h).before c (let ne : c ≡ n → ⊥ = λ s. (let f : true ≡ false = sym (eq-eqb c n s) ∙ other in cc) in omega arith) lt

pub first_tells : (p : ℕ → Bool) (n k d : ℕ) → find p (range_with_len n k) ≡ Some d → IsFirst p n d
first_tells p n zero d h = absurd (let f : None ≡ Some d = h in cc)
first_tells p n (suc k) d h = first_case p n k d (p n) refl (first_tells p (n + 1) k d) h

none_case : (p : ℕ → Bool) (n k c : ℕ) (b : Bool) → p n ≡ b → cond b (Some n) (find p (range_with_len (n + 1) k)) ≡ None → n ≤ c → (find p (range_with_len (n + 1) k) ≡ None → n + 1 ≤ c → p c ≡ false) → p c ≡ false
none_case p n k c true e h le later = absurd (let f : Some n ≡ None = h in cc)
none_case p n k c false e h le later = split (c == n) refl
  where
    split : (b : Bool) → (c == n) ≡ b → p c ≡ false
    split true same = ap p (eqb-true c n same) ∙ e
    split false other = later h (let ne : c ≡ n → ⊥ = λ s. (let f : true ≡ false = sym (eq-eqb c n s) ∙ other in cc) in omega arith)

pub none_tells : (p : ℕ → Bool) (n k : ℕ) → find p (range_with_len n k) ≡ None → (c : ℕ) → n ≤ c → c < n + k → p c ≡ false
none_tells p n zero h c le lt = absurd (omega arith)
none_tells p n (suc k) h c le lt = none_case p n k c (p n) refl h le (λ later more. none_tells p (n + 1) k later c more (omega arith))

-- a number at or before the first that passes does so exactly where it is the first
pub is_the_first : (p : ℕ → Bool) (k c d : ℕ) → Some d ≡ find p (range_with_len 0 k) → c ≤ d → (d == c) ≡ p c
is_the_first p k c d e le = split (d == c) refl
  where
    first : IsFirst p 0 d
    first = first_tells p 0 k d (sym e)

    split : (b : Bool) → (d == c) ≡ b → (d == c) ≡ p c
    split true same = same ∙ (sym first.passes ∙ ap p (eqb-true d c same))
    split false other = other ∙ sym (first.before c (omega arith) (let ne : d ≡ c → ⊥ = λ s. (let f : true ≡ false = sym (eq-eqb d c s) ∙ other in cc) in omega arith))

pub is_none_of_them : (p : ℕ → Bool) (k c : ℕ) → None ≡ find p (range_with_len 0 k) → c < k → false ≡ p c
is_none_of_them p k c e lt = sym (none_tells p 0 k (sym e) c (omega arith) (omega arith))

-- where a number isn't the first that passes, that is behind it
pub goes_beyond : (p : ℕ → Bool) (k c d : ℕ) → Some d ≡ find p (range_with_len 0 k) → c ≤ d → p c ≡ false → c + 1 ≤ d
goes_beyond p k c d e le fails =
    let ne : c ≡ d → ⊥ = λ s. (let f : true ≡ false = sym (first_tells p 0 k d (sym e)).passes ∙ (ap p (sym s) ∙ fails) in cc) in
    omega arith

-- ---- the first item that passes, item by item

first_later : {X : Type 0} (b : Bool) (y : X) (o : Option X) (x : X) (p : Option X) → cond b (Some y) o ≡ None → (o ≡ None → Some x ≡ p) → Some x ≡ cond b (Some y) p
first_later true y o x p none later = absurd (let e : Some y ≡ None = none in cc)
first_later false y o x p none later = later none

pub found_first : {X : Type 0} (p : X → Bool) (xs : List X) (i : ℕ) (x : X) → slice_get xs i ≡ Some x → find p (take i xs) ≡ None → p x ≡ true → Some x ≡ find p xs
found_first p [] i x at none h = absurd (let e : None ≡ Some x = at in cc)
found_first p (y ∷ xs) zero x at none h = let e : y ≡ x = cc in ap (λ (z : _). Some z) (sym e) ∙ sym (ap (λ (b : Bool). cond b (Some y) (find p xs)) (ap p e ∙ h))
found_first p (y ∷ xs) (suc i) x at none h = first_later (p y) y (find p (take i xs)) x (find p xs) none (λ e. found_first p xs i x at e h)

none_later : {X : Type 0} (b : Bool) (y : X) (o p : Option X) → cond b (Some y) o ≡ None → (o ≡ None → p ≡ None) → cond b (Some y) p ≡ None
none_later true y o p none later = absurd (let e : Some y ≡ None = none in cc)
none_later false y o p none later = later none

pub found_none : {X : Type 0} (p : X → Bool) (xs : List X) (i : ℕ) (x : X) → slice_get xs i ≡ Some x → find p (take i xs) ≡ None → p x ≡ false → find p (take (suc i) xs) ≡ None
found_none p [] i x at none h = absurd (let e : None ≡ Some x = at in cc)
found_none p (y ∷ xs) zero x at none h = let e : y ≡ x = cc in ap (λ (b : Bool). cond b (Some y) None) (ap p e ∙ h)
found_none p (y ∷ xs) (suc i) x at none h = none_later (p y) y (find p (take i xs)) (find p (take (suc i) xs)) none (λ e. found_none p xs i x at e h)

-- ---- where a class stands well

pub no_cause : {X : Type 0} (b : Bool) (x : X) → first (if b then x ∷ [] else []) ≡ None → b ≡ false
no_cause true x h = absurd (let e : Some x ≡ None = h in cc)
no_cause false x h = refl

pub second_of : (a b c d e f : Bool) → (a || b || c || d || e || f) ≡ false → b ≡ false
second_of true b c d e f h = absurd (let g : true ≡ false = h in cc)
second_of false true c d e f h = absurd (let g : true ≡ false = h in cc)
second_of false false c d e f h = refl

pub beyond : (p : ℕ → Bool) (k : ℕ) (o : Option ℕ) (c next : ℕ) → o ≡ find p (range_with_len 0 k) → IfSome o (λ d. c ≤ d) → p c ≡ false → next ≡ c + 1 → IfSome o (λ d. next ≤ d)
beyond p k None c next e le fails is = tt
beyond p k (Some d) c next e le fails is = let r = goes_beyond p k c d e le fails in omega arith

-- the next number, as the code counts
pub along_one : (P : ℕ → Type 0) (i : ℕ) → P (suc i) → P (i + 1)
along_one P i h = let n : suc i ≡ i + 1 = omega arith in subst P n h
