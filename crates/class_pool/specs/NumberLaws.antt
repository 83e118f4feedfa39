-- A part that is read is the part that was spelled, and what was spelled is read again: numbers and runs of bytes.
use Rattle.std.proofs.Common.{◌≡◌, ℕ, suc, ◌+◌, ◌^◌, ◌<◌, ◌≤◌, Bool, true, false, cond, ltb, List, [], ◌∷◌, ◌++◌, length, get_or, take, drop, Option, Some}
use Rattle.std.proofs.Common.{None, refl, sym, ap, subst, ◌∙◌, append_assoc, arith, inl, inr}
use Rattle.std.proofs.lemmas.Bool.{cases_lt, ltb-false, le-ltb}
use Rattle.std.proofs.lemmas.List.{take_at, drop_at, take-append-drop, length-append, length-take, get_or-drop, get_or-take, get_or_past}
use Rattle.std.proofs.lemmas.Nat.{be_bytes_2, be_bytes_4, be_bytes_8}
use Rattle.byteorder.specs.Endian.{big_bytes, big_number}
use Rattle.byteorder.specs.Numbers.{big_number-reads_back, big_from-append, big_from-lt}
use Rattle.base.specs.Reading.{◌>>=◌}
use Rattle.class_pool.specs.Reading.{number_in, byte_in, front_in}

abbrev pub IsBytes : List ℕ → Type 0
IsBytes bytes = (i : ℕ) → get_or bytes i 0 < 256

pub IsBytes-drop : (n : ℕ) (bytes : List ℕ) → IsBytes bytes → IsBytes (drop n bytes)
IsBytes-drop n bytes h i = rw get_or-drop (h (n + i))

pub IsBytes-take : (n : ℕ) (bytes : List ℕ) → IsBytes bytes → IsBytes (take n bytes)
IsBytes-take n bytes h i =
    elim (cases_lt i n) [
      | inl lt ↦ rw (get_or-take n bytes i 0 lt) (h i)
      | inr le ↦ rw (get_or_past (take n bytes) i 0 (omega (arith, length-take n bytes))) (omega arith)
    ]

pub IsBytes-behind : (bytes front rest : List ℕ) → IsBytes bytes → bytes ≡ front ++ rest → IsBytes rest
IsBytes-behind bytes front rest h is =
    let at : drop (length front) bytes ≡ rest = ap (drop (length front)) is ∙ drop_at front rest (length front) refl in
    subst IsBytes at (IsBytes-drop (length front) bytes h)

pub IsBytes-rest : (b : ℕ) (bytes : List ℕ) → IsBytes (b ∷ bytes) → IsBytes bytes
IsBytes-rest b bytes h i = h (suc i)

-- the value of a step that did not fail
pub bind_some : {A B : Type 0} (r : Option A) (f : A → Option B) (y : B) → (r >>= f) ≡ Some y → (x : A) × (r ≡ Some x) × (f x ≡ Some y)
bind_some (Some x) f y e = (x, refl, e)
bind_some None f y e = absurd cc

-- a test that did not fail
pub guard_some : {A : Type 0} (b : Bool) (x y : A) → cond b None (Some x) ≡ Some y → (b ≡ false) × (x ≡ y)
guard_some true x y e = absurd cc
guard_some false x y e = (refl, cc)

pub same_some : {A : Type 0} (x y : A) → Some x ≡ Some y → x ≡ y
same_some x y e = cc

-- what a part took from the front
pub record Takes (bytes text rest : List ℕ) : Type 0 where
  pub parts : bytes ≡ text ++ rest
  pub rest_fits : IsBytes rest

pub Takes-then : (a x b y c : List ℕ) → Takes a x b → Takes b y c → Takes a (x ++ y) c
Takes-then a x b y c p q = record { parts = p.parts ∙ ap (λ (t : List ℕ). x ++ t) q.parts ∙ sym (append_assoc x y c); rest_fits = q.rest_fits }

-- n bytes that are read as a number are those of the number
pub record IsWide (n : ℕ) : Type 0 where
  pub len : (x : ℕ) → length (big_bytes n x) ≡ n
  pub back : (bytes : List ℕ) → length bytes ≡ n → IsBytes bytes → big_bytes n (big_number n bytes) ≡ bytes

pub wide_2 : IsWide 2
wide_2 = record { len = λ x. refl; back = λ bytes len fits. be_bytes_2 bytes (big_number 2 bytes) len fits (omega arith) }

pub wide_4 : IsWide 4
wide_4 = record { len = λ x. refl; back = λ bytes len fits. be_bytes_4 bytes (big_number 4 bytes) len fits (omega arith) }

pub wide_8 : IsWide 8
wide_8 = record { len = λ x. refl; back = λ bytes len fits. be_bytes_8 bytes (big_number 8 bytes) len fits (omega arith) }

pub number_takes : (n : ℕ) (wide : IsWide n) (bytes : List ℕ) (x : ℕ) (rest : List ℕ) → IsBytes bytes → number_in n bytes ≡ Some (x, rest)
    → Takes bytes (big_bytes n x) rest × (x < 256 ^ n)
number_takes n wide bytes x rest fits e =
    let g = guard_some (ltb (length bytes) n) (big_number n bytes, drop n bytes) (x, rest) e in
    let long : n ≤ length bytes = ltb-false _ _ g.0 in
    let x-is : big_number n bytes ≡ x = ap (λ (p : ℕ × List ℕ). p.0) g.1 in
    let rest-is : drop n bytes ≡ rest = ap (λ (p : ℕ × List ℕ). p.1) g.1 in
    let len : length (take n bytes) ≡ n = omega (arith, length-take n bytes) in
    let whole : take n bytes ++ drop n bytes ≡ bytes = take-append-drop n bytes in
    let same : big_number n bytes ≡ big_number n (take n bytes) = ap (big_number n) (sym whole) ∙ big_from-append n (take n bytes) (drop n bytes)
    (omega arith) in
    let front : big_bytes n (big_number n bytes) ≡ take n bytes = ap (big_bytes n) same ∙ wide.back (take n bytes) len (IsBytes-take n bytes fits) in
    let made : Takes bytes (big_bytes n (big_number n bytes))
    (drop n bytes) = record { parts = sym whole ∙ ap (λ (t : List ℕ). t ++ drop n bytes) (sym front); rest_fits = IsBytes-drop n bytes fits } in
    let P : ℕ × List ℕ → Type 0 = λ p. Takes bytes (big_bytes n p.0) p.1 × (p.0 < 256 ^ n) in
    subst P g.1 (made, big_from-lt 0 n bytes fits)

pub number_again : (n : ℕ) (wide : IsWide n) (x : ℕ) (rest : List ℕ) → x < 256 ^ n → number_in n (big_bytes n x ++ rest) ≡ Some (x, rest)
number_again n wide x rest lt =
    let len = wide.len x in
    let long : ltb (length (big_bytes n x ++ rest)) n ≡ false = le-ltb _ _ (omega (arith, length-append (big_bytes n x) rest)) in
    rw (long, drop_at (big_bytes n x) rest n len, big_number-reads_back n x rest lt) refl

pub byte_takes : (bytes : List ℕ) (x : ℕ) (rest : List ℕ) → IsBytes bytes → byte_in bytes ≡ Some (x, rest) → Takes bytes (x ∷ []) rest × (x < 2 ^ 8)
byte_takes [] x rest fits e = absurd (let p : ℕ × List ℕ = (x, rest) in let f : None ≡ Some p = e in cc)
byte_takes (b ∷ bytes) x rest fits e =
    let P : ℕ × List ℕ → Type 0 = λ p. Takes (b ∷ bytes) (p.0 ∷ []) p.1 × (p.0 < 2 ^ 8) in
    subst P (same_some (b, bytes) (x, rest) e) (record { parts = refl; rest_fits = IsBytes-rest b bytes fits }, fits 0)

-- so many bytes
pub front_takes : (n : ℕ) (bytes text rest : List ℕ) → IsBytes bytes → front_in n bytes ≡ Some (text, rest)
    → Takes bytes text rest × (length text ≡ n) × IsBytes text
front_takes n bytes text rest fits e =
    let g = guard_some (ltb (length bytes) n) (take n bytes, drop n bytes) (text, rest) e in
    let long : n ≤ length bytes = ltb-false _ _ g.0 in
    let len : length (take n bytes) ≡ n = omega (arith, length-take n bytes) in
    let P : List ℕ × List ℕ → Type 0 = λ p. Takes bytes p.0 p.1 × (length p.0 ≡ n) × IsBytes p.0 in
    subst P g.1 (record { parts = sym (take-append-drop n bytes); rest_fits = IsBytes-drop n bytes fits }, len, IsBytes-take n bytes fits)

pub front_again : (text rest : List ℕ) → front_in (length text) (text ++ rest) ≡ Some (text, rest)
front_again text rest =
    let long : ltb (length (text ++ rest)) (length text) ≡ false = le-ltb _ _ (omega (arith, length-append text rest)) in
    rw (long, take_at text rest (length text) refl, drop_at text rest (length text) refl) refl
