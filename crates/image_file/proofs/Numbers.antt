-- Numbers and runs of bytes with their lengths: each is found again at the front of bytes, and no other is.
use Rattle.std.proofs.Common.{◌≡◌, ℕ, ◌+◌, ◌<◌, ◌≤◌, List, ◌++◌, length, get_or, take, drop, Bor, Option, Some, None, refl, sym, ap, subst, ◌∙◌, append_assoc, arith, inl, inr}
use Rattle.std.proofs.lemmas.Bool.{cases_lt}
use Rattle.std.proofs.lemmas.List.{take_at, drop_at, take-append-drop, length-append, length-take, get_or-drop, get_or-take, get_or_past}
use Rattle.std.proofs.lemmas.Nat.{be_bytes_2, be_bytes_4, from_be_bytes-to_be_bytes_2, from_be_bytes-to_be_bytes_4}
use Rattle.std.specs.Prelude.{MatchOption}
use Rattle.std.specs.List.{IsSplitAt}
use Rattle.image_file.specs.Front.{FindsItem}
use Rattle.std.specs.Int.{w16, w32, from_be_bytes}
use Rattle.image_file.specs.Linked.{IsHalfWord, IsWord, IsName, IsFile, u2, u4, name_bytes, file_bytes}

abbrev pub IsBytes : List ℕ → Type 0
IsBytes bytes = (i : ℕ) → get_or bytes i 0 < 256

IsBytes-take : (n : ℕ) (bytes : List ℕ) → IsBytes bytes → IsBytes (take n bytes)
IsBytes-take n bytes h i =
    elim (cases_lt i n) [
      | inl lt ↦ rw (get_or-take n bytes i 0 lt) (h i)
      | inr le ↦ rw (get_or_past (take n bytes) i 0 (omega (arith, length-take n bytes))) (omega arith)
    ]

pub IsBytes-drop : (n : ℕ) (bytes : List ℕ) → IsBytes bytes → IsBytes (drop n bytes)
IsBytes-drop n bytes h i = rw get_or-drop (h (n + i))

pub IsBytes-front : (bytes front rest : List ℕ) → IsBytes bytes → bytes ≡ front ++ rest → IsBytes front
IsBytes-front bytes front rest h is =
    let at : take (length front) bytes ≡ front = ap (take (length front)) is ∙ take_at front rest (length front) refl in
    subst IsBytes at (IsBytes-take (length front) bytes h)

pub IsBytes-behind : (bytes front rest : List ℕ) → IsBytes bytes → bytes ≡ front ++ rest → IsBytes rest
IsBytes-behind bytes front rest h is =
    let at : drop (length front) bytes ≡ rest = ap (drop (length front)) is ∙ drop_at front rest (length front) refl in
    subst IsBytes at (IsBytes-drop (length front) bytes h)

-- values that fit are told apart by their bytes, whatever stands behind them
abbrev pub Unique : {X : Type 0} → (X → List ℕ) → (X → Type 0) → Type 0
Unique {X} spelled Fits = (x y : X) (s t : List ℕ) → Fits x → Fits y → spelled x ++ s ≡ spelled y ++ t → (x ≡ y) × (s ≡ t)

pub u2_unique : Unique u2 IsHalfWord
u2_unique x y s t fx fy e =
    let same : x ≡ y = sym (from_be_bytes-to_be_bytes_2 x fx) ∙ ap (from_be_bytes w16) e ∙ from_be_bytes-to_be_bytes_2 y fy in
    (same, sym (drop_at (u2 x) s 2 refl) ∙ ap (drop 2) e ∙ drop_at (u2 y) t 2 refl)

pub u4_unique : Unique u4 IsWord
u4_unique x y s t fx fy e =
    let same : x ≡ y = sym (from_be_bytes-to_be_bytes_4 x fx) ∙ ap (from_be_bytes w32) e ∙ from_be_bytes-to_be_bytes_4 y fy in
    (same, sym (drop_at (u4 x) s 4 refl) ∙ ap (drop 4) e ∙ drop_at (u4 y) t 4 refl)

pub u2_found : (bytes : List ℕ) (n : ℕ) → IsBytes bytes → 2 ≤ length bytes → n ≡ from_be_bytes w16 (take 2 bytes) → bytes ≡ u2 n ++ drop 2 bytes
u2_found bytes n small long is =
    let len : length (take 2 bytes) ≡ 2 = omega (arith, length-take 2 bytes) in
    sym (take-append-drop 2 bytes) ∙ ap (λ (front : List ℕ). front ++ drop 2 bytes) (sym (be_bytes_2 (take 2 bytes) n len (IsBytes-take 2 bytes small) is))

pub u4_found : (bytes : List ℕ) (n : ℕ) → IsBytes bytes → 4 ≤ length bytes → n ≡ from_be_bytes w32 (take 4 bytes) → bytes ≡ u4 n ++ drop 4 bytes
u4_found bytes n small long is =
    let len : length (take 4 bytes) ≡ 4 = omega (arith, length-take 4 bytes) in
    sym (take-append-drop 4 bytes) ∙ ap (λ (front : List ℕ). front ++ drop 4 bytes) (sym (be_bytes_4 (take 4 bytes) n len (IsBytes-take 4 bytes small) is))

-- what is read as a number stands there as its bytes
pub u2_read : (bytes front rest : List ℕ) (n : ℕ) → IsBytes bytes → front ≡ take 2 bytes → rest ≡ drop 2 bytes → length rest + 2 ≡ length bytes → n ≡ from_be_bytes w16 front → bytes ≡ u2 n ++ rest
u2_read bytes front rest n small front_is rest_is long is =
    u2_found bytes n small (omega arith) (is ∙ ap (from_be_bytes w16) front_is) ∙ ap (λ (t : List ℕ). u2 n ++ t) (sym rest_is)

pub u4_read : (bytes front rest : List ℕ) (n : ℕ) → IsBytes bytes → front ≡ take 4 bytes → rest ≡ drop 4 bytes → length rest + 4 ≡ length bytes → n ≡ from_be_bytes w32 front → bytes ≡ u4 n ++ rest
u4_read bytes front rest n small front_is rest_is long is =
    u4_found bytes n small (omega arith) (is ∙ ap (from_be_bytes w32) front_is) ∙ ap (λ (t : List ℕ). u4 n ++ t) (sym rest_is)

pub u4_small : (bytes : List ℕ) → IsBytes bytes → IsWord (from_be_bytes w32 (take 4 bytes))
u4_small bytes small =
    let fits = IsBytes-take 4 bytes small in
    omega (arith, fits 0, fits 1, fits 2, fits 3)

pub u2_short : (bytes : List ℕ) (n : ℕ) (rest : List ℕ) → length bytes < 2 → bytes ≡ u2 n ++ rest → ⊥
u2_short bytes n rest short e = absurd (omega (arith, ap (λ (b : List ℕ). length b) e, length-append (u2 n) rest))

pub u4_short : (bytes : List ℕ) (n : ℕ) (rest : List ℕ) → length bytes < 4 → bytes ≡ u4 n ++ rest → ⊥
u4_short bytes n rest short e = absurd (omega (arith, ap (λ (b : List ℕ). length b) e, length-append (u4 n) rest))

-- ---- a length, and so many bytes

abbrev pub counted : (ℕ → List ℕ) → List ℕ → List ℕ
counted number run = number (length run) ++ run

pub same_front : (x y s t : List ℕ) → length x ≡ length y → x ++ s ≡ y ++ t → (x ≡ y) × (s ≡ t)
same_front x y s t long e =
    let same : x ≡ y = sym (take_at x s (length x) refl) ∙ ap (take (length x)) e ∙ take_at y t (length x) (sym long) in
    let back : s ≡ t = sym (drop_at x s (length x) refl) ∙ ap (drop (length x)) e ∙ drop_at y t (length x) (sym long) in
    (same, back)

counted_unique : (number : ℕ → List ℕ) (Fits : ℕ → Type 0) → Unique number Fits → Unique (counted number) (λ run. Fits (length run))
counted_unique number Fits unique x y s t fx fy e =
    let parts : number (length x) ++ (x ++ s) ≡ number (length y) ++ (y ++ t) = sym (append_assoc (number (length x)) x s) ∙ e ∙ append_assoc (number (length y)) y t in
    let outer = unique (length x) (length y) (x ++ s) (y ++ t) fx fy parts in
    same_front x y s t outer.0 outer.1

pub name_unique : Unique name_bytes IsName
name_unique = counted_unique u2 IsHalfWord u2_unique

pub file_unique : Unique file_bytes IsFile
file_unique = counted_unique u4 IsWord u4_unique

-- no length stands there
counted_absent : (number : ℕ → List ℕ) (Fits : ℕ → Type 0) (bytes : List ℕ) → ((n : ℕ) (rest : List ℕ) → Fits n → bytes ≡ number n ++ rest → ⊥)
    → (run rest : List ℕ) → Fits (length run) → bytes ≡ counted number run ++ rest → ⊥
counted_absent number Fits bytes absent run rest fits e = absent (length run) (run ++ rest) fits (e ∙ append_assoc (number (length run)) run rest)

-- too few bytes stand behind the length
counted_cut : (number : ℕ → List ℕ) (Fits : ℕ → Type 0) → Unique number Fits → (bytes : List ℕ) (n : ℕ) (behind : List ℕ) → Fits n → bytes ≡ number n ++ behind → length behind < n
    → (run rest : List ℕ) → Fits (length run) → bytes ≡ counted number run ++ rest → ⊥
counted_cut number Fits unique bytes n behind fits is short run rest fits_run e =
    let parts : number n ++ behind ≡ number (length run) ++ (run ++ rest) = sym is ∙ e ∙ append_assoc (number (length run)) run rest in
    let both = unique n (length run) behind (run ++ rest) fits fits_run parts in
    absurd (omega (arith, both.0, ap (λ (b : List ℕ). length b) both.1, length-append run rest))

counted_found : (number : ℕ → List ℕ) (bytes : List ℕ) (n : ℕ) (behind run rest : List ℕ) → bytes ≡ number n ++ behind → length run ≡ n → behind ≡ run ++ rest → bytes ≡ counted number run ++ rest
counted_found number bytes n behind run rest is long parts =
    is ∙ ap (λ (t : List ℕ). number n ++ t) parts ∙ ap (λ (k : ℕ). number k ++ (run ++ rest)) (sym long) ∙ sym (append_assoc (number (length run)) run rest)

pub split_parts : (xs : List ℕ) (mid : ℕ) (front back : List ℕ) → IsSplitAt xs mid front back → xs ≡ front ++ back
split_parts xs mid front back split = sym (take-append-drop mid xs) ∙ ap (λ (t : List ℕ). t ++ drop mid xs) (sym split.1) ∙ ap (λ (t : List ℕ). front ++ t) (sym split.2)

-- what the split behind a length gives is the run, or too few bytes stand there
counted_split : (number : ℕ → List ℕ) (Fits : ℕ → Type 0) → Unique number Fits → (bytes : List ℕ) (n : ℕ) (behind : List ℕ) (r : Option (Bor (List ℕ) × Bor (List ℕ))) → Fits n → bytes ≡ number n ++ behind
    → MatchOption r (length behind < n) (λ p. IsSplitAt behind n p.0.now p.1.now) → FindsItem (λ x. (x.0.now, x.1.now)) (counted number) (λ run. Fits (length run)) bytes r
counted_split number Fits unique bytes n behind None fits is short = counted_cut number Fits unique bytes n behind fits is short
counted_split number Fits unique bytes n behind (Some p) fits is split =
    (subst Fits (sym split.3) fits, counted_found number bytes n behind p.0.now p.1.now is split.3 (split_parts behind n p.0.now p.1.now split))

pub name_absent : (bytes : List ℕ) → ((n : ℕ) (rest : List ℕ) → IsHalfWord n → bytes ≡ u2 n ++ rest → ⊥) → (run rest : List ℕ) → IsName run → bytes ≡ name_bytes run ++ rest → ⊥
name_absent = counted_absent u2 IsHalfWord

pub name_split : (bytes : List ℕ) (n : ℕ) (behind : List ℕ) (r : Option (Bor (List ℕ) × Bor (List ℕ))) → IsHalfWord n → bytes ≡ u2 n ++ behind
    → MatchOption r (length behind < n) (λ p. IsSplitAt behind n p.0.now p.1.now) → FindsItem (λ x. (x.0.now, x.1.now)) name_bytes IsName bytes r
name_split = counted_split u2 IsHalfWord u2_unique

pub file_absent : (bytes : List ℕ) → ((n : ℕ) (rest : List ℕ) → IsWord n → bytes ≡ u4 n ++ rest → ⊥) → (run rest : List ℕ) → IsFile run → bytes ≡ file_bytes run ++ rest → ⊥
file_absent = counted_absent u4 IsWord

pub file_split : (bytes : List ℕ) (n : ℕ) (behind : List ℕ) (r : Option (Bor (List ℕ) × Bor (List ℕ))) → IsWord n → bytes ≡ u4 n ++ behind
    → MatchOption r (length behind < n) (λ p. IsSplitAt behind n p.0.now p.1.now) → FindsItem (λ x. (x.0.now, x.1.now)) file_bytes IsFile bytes r
file_split = counted_split u4 IsWord u4_unique
