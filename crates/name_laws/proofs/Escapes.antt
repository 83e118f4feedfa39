-- What is read of escaped bytes.
use Rattle.std.proofs.Common.{◌≡◌, ◌≢◌, ℕ, ◌+◌, ◌-◌, ◌*◌, ◌/◌, ◌%◌, ◌<◌, ◌≤◌, Bool, true, false, not, ◌&&◌, nat_lt, List, [], ◌∷◌, ◌++◌, refl, sym, ap, ◌∙◌, arith, inl, inr}
use Rattle.std.specs.Prelude.{◌==◌, if◌then◌else◌, flat_map}
use Rattle.std.specs.List.{list_all, AllByRecursion}
use Rattle.std.proofs.lemmas.Bool.{cases_Bool, eqb-true, lt-ltb, le-ltb, ltb-true, ltb-false, true≢false}
use Rattle.std.proofs.lemmas.List.Concat.{flat_map-cons}
use Rattle.std.proofs.lemmas.List.Folds.{list_all-append}
use Rattle.lists.specs.Tests.{and_left, and_right, not_true}
use Rattle.name_laws.specs.Written.{is_plain, capital_digit, escaped, written_byte, written_first, written, is_word, digit_value, unescaped, stands}

-- ---- digits

value_round : (d : ℕ) → d < 16 → (b : Bool) → nat_lt d 10 ≡ b → digit_value (if b then 48 + d else 55 + d) ≡ d
value_round d small true is =
    let below : d < 10 = ltb-true d 10 is in
    ap (λ (b : Bool). if b then (48 + d) - 48 else (48 + d) - 55) (lt-ltb (48 + d) 58 (omega arith)) ∙ omega arith
value_round d small false is =
    let above : 10 ≤ d = ltb-false d 10 is in
    ap (λ (b : Bool). if b then (55 + d) - 48 else (55 + d) - 55) (le-ltb (55 + d) 58 (omega arith)) ∙ omega arith

digit_round : (d : ℕ) → d < 16 → digit_value (capital_digit d) ≡ d
digit_round d small = value_round d small (nat_lt d 10) refl

byte_round : (b : ℕ) → b < 256 → (digit_value (capital_digit (b / 16)) * 16 + digit_value (capital_digit (b % 16))) % 256 ≡ b
byte_round b small =
    ap (λ (h : ℕ). (h * 16 + digit_value (capital_digit (b % 16))) % 256) (digit_round (b / 16) (omega arith))
    ∙ ap (λ (l : ℕ). (b / 16 * 16 + l) % 256) (digit_round (b % 16) (omega arith))
    ∙ omega arith

-- ---- a byte

-- a byte that doesn't stand as it is is below 128
other_below : (b : ℕ) → is_plain b ≡ false → b < 128
other_below b h =
    elim (cases_Bool (nat_lt 32 b)) [
      | inr low ↦ let l : b ≤ 32 = ltb-false 32 b low in omega arith
      | inl high ↦ elim (cases_Bool (b == 92)) [
        | inl is ↦ let e : b ≡ 92 = eqb-true b 92 is in omega (arith, e)
        | inr isnt ↦ elim (cases_Bool (b == 127)) [
          | inl is ↦ let e : b ≡ 127 = eqb-true b 127 is in omega (arith, e)
          | inr isnt' ↦ absurd (true≢false (sym (ap (λ (x : Bool). x && not (b == 92) && not (b == 127)) high ∙ ap (λ (x : Bool). not x && not (b == 127)) isnt ∙ ap (λ (x : Bool). not x) isnt') ∙ h))
        ]
      ]
    ]

plain_isnt : (b : ℕ) → is_plain b ≡ true → (b == 92) ≡ false
plain_isnt b h = not_true (b == 92) (and_right (nat_lt 32 b) (not (b == 92)) (and_left (nat_lt 32 b && not (b == 92)) (not (b == 127)) h))

-- ---- what is read

plain_read : (b : ℕ) (text : List ℕ) → (b == 92) ≡ false → unescaped (b ∷ text) ≡ b ∷ unescaped text
plain_read b [] h = refl
plain_read b (c ∷ []) h = refl
plain_read b (c ∷ d ∷ []) h = refl
plain_read b (c ∷ d ∷ e ∷ text) h =
    ap (λ (x : Bool). if x then ((digit_value d * 16 + digit_value e) % 256) ∷ unescaped text else b ∷ unescaped (c ∷ d ∷ e ∷ text)) h

escaped_read : (b : ℕ) (text : List ℕ) → b < 256 → unescaped (escaped b ++ text) ≡ b ∷ unescaped text
escaped_read b text small = ap (λ (x : ℕ). x ∷ unescaped text) (byte_round b small)

byte_case : (b : ℕ) (text : List ℕ) (p : Bool) → is_plain b ≡ p → unescaped ((if p then b ∷ [] else escaped b) ++ text) ≡ b ∷ unescaped text
byte_case b text true is = plain_read b text (plain_isnt b is)
byte_case b text false is = let below : b < 128 = other_below b is in escaped_read b text (omega arith)

pub byte_read : (b : ℕ) (text : List ℕ) → unescaped (written_byte b ++ text) ≡ b ∷ unescaped text
byte_read b text = byte_case b text (is_plain b) refl

first_case : (b : ℕ) (text : List ℕ) (p : Bool) → (b == 35) ≡ p → unescaped ((if p then escaped b else written_byte b) ++ text) ≡ b ∷ unescaped text
first_case b text true is = let e : b ≡ 35 = eqb-true b 35 is in escaped_read b text (omega (arith, e))
first_case b text false is = byte_read b text

first_read : (b : ℕ) (text : List ℕ) → unescaped (written_first b ++ text) ≡ b ∷ unescaped text
first_read b text = first_case b text (b == 35) refl

bytes_read : (bs : List ℕ) → unescaped (flat_map written_byte bs) ≡ bs
bytes_read [] = refl
bytes_read (b ∷ bs) =
    ap unescaped (flat_map-cons written_byte b bs) ∙ byte_read b (flat_map written_byte bs) ∙ ap (λ (l : List ℕ). b ∷ l) (bytes_read bs)

pub name_read : (name : List ℕ) → unescaped (written name) ≡ name
name_read [] = refl
name_read (b ∷ bs) = first_read b (flat_map written_byte bs) ∙ ap (λ (l : List ℕ). b ∷ l) (bytes_read bs)

-- ---- words

abbrev is_word_byte : ℕ → Bool
is_word_byte x = nat_lt 32 x && not (x == 127)

both_true : (a b : Bool) → a ≡ true → b ≡ true → (a && b) ≡ true
both_true a b h r = ap (λ (x : Bool). x && b) h ∙ r

isnt : (a b : ℕ) → (a ≡ b → ⊥) → not (a == b) ≡ true
isnt a b h =
    elim (cases_Bool (a == b)) [
      | inl is ↦ absurd (h (eqb-true a b is))
      | inr is ↦ ap (λ (x : Bool). not x) is
    ]

word_byte : (x : ℕ) → 32 < x → (x ≡ 127 → ⊥) → is_word_byte x ≡ true
word_byte x high other = both_true (nat_lt 32 x) (not (x == 127)) (lt-ltb 32 x high) (isnt x 127 other)

digit_case : (d : ℕ) → d < 16 → (b : Bool) → is_word_byte (if b then 48 + d else 55 + d) ≡ true
digit_case d small true = word_byte (48 + d) (omega arith) (λ e. omega (arith, e))
digit_case d small false = word_byte (55 + d) (omega arith) (λ e. omega (arith, e))

escaped_word : (b : ℕ) → b < 256 → list_all is_word_byte (escaped b) ≡ true
escaped_word b small =
    both_true (is_word_byte (capital_digit (b / 16))) (is_word_byte (capital_digit (b % 16)) && true) (digit_case (b / 16) (omega arith) (nat_lt (b / 16) 10))
    (both_true (is_word_byte (capital_digit (b % 16))) true (digit_case (b % 16) (omega arith) (nat_lt (b % 16) 10)) refl)

plain_word : (b : ℕ) → is_plain b ≡ true → is_word_byte b ≡ true
plain_word b h =
    both_true (nat_lt 32 b) (not (b == 127)) (and_left (nat_lt 32 b) (not (b == 92)) (and_left (nat_lt 32 b && not (b == 92)) (not (b == 127)) h))
    (and_right (nat_lt 32 b && not (b == 92)) (not (b == 127)) h)

byte_word_case : (b : ℕ) (p : Bool) → is_plain b ≡ p → list_all is_word_byte (if p then b ∷ [] else escaped b) ≡ true
byte_word_case b true is = both_true (is_word_byte b) true (plain_word b is) refl
byte_word_case b false is = let below : b < 128 = other_below b is in escaped_word b (omega arith)

bytes_word : (bs : List ℕ) → list_all is_word_byte (flat_map written_byte bs) ≡ true
bytes_word [] = refl
bytes_word (b ∷ bs) =
    ap (list_all is_word_byte) (flat_map-cons written_byte b bs) ∙ list_all-append is_word_byte (written_byte b) (flat_map written_byte bs)
    ∙ both_true (list_all is_word_byte (written_byte b)) (list_all is_word_byte (flat_map written_byte bs)) (byte_word_case b (is_plain b) refl) (bytes_word bs)

-- the first piece begins with no #
escaped_first : (b : ℕ) (text : List ℕ) → b < 256 → list_all is_word_byte text ≡ true → is_word (escaped b ++ text) ≡ true
escaped_first b text small h =
    list_all-append is_word_byte (escaped b) text ∙ both_true (list_all is_word_byte (escaped b)) (list_all is_word_byte text) (escaped_word b small) h

plain_first : (b : ℕ) (text : List ℕ) → (b == 35) ≡ false → is_plain b ≡ true → list_all is_word_byte text ≡ true → is_word (b ∷ text) ≡ true
plain_first b text other is h =
    both_true (not (b == 35)) (is_word_byte b && list_all is_word_byte text) (ap (λ (x : Bool). not x) other)
    (both_true (is_word_byte b) (list_all is_word_byte text) (plain_word b is) h)

other_first : (b : ℕ) (text : List ℕ) → (b == 35) ≡ false → list_all is_word_byte text ≡ true → (p : Bool) → is_plain b ≡ p
    → is_word ((if p then b ∷ [] else escaped b) ++ text) ≡ true
other_first b text other h true is = plain_first b text other is h
other_first b text other h false is = let below : b < 128 = other_below b is in escaped_first b text (omega arith) h

first_word : (b : ℕ) (text : List ℕ) → list_all is_word_byte text ≡ true → (p : Bool) → (b == 35) ≡ p
    → is_word ((if p then escaped b else written_byte b) ++ text) ≡ true
first_word b text h true is = let e : b ≡ 35 = eqb-true b 35 is in escaped_first b text (omega (arith, e)) h
first_word b text h false is = other_first b text is h (is_plain b) refl

pub name_word : (name : List ℕ) → name ≢ [] → is_word (written name) ≡ true
name_word [] h = absurd (h refl)
name_word (b ∷ bs) h = first_word b (flat_map written_byte bs) (bytes_word bs) (b == 35) refl

-- ---- names that stand as they are

bytes_stand : (bs : List ℕ) → list_all is_plain bs ≡ true → flat_map written_byte bs ≡ bs
bytes_stand [] h = refl
bytes_stand (b ∷ bs) h =
    flat_map-cons written_byte b bs ∙ ap (λ (p : Bool). (if p then b ∷ [] else escaped b) ++ flat_map written_byte bs) (and_left (is_plain b) (list_all is_plain bs) h)
    ∙ ap (λ (l : List ℕ). b ∷ l) (bytes_stand bs (and_right (is_plain b) (list_all is_plain bs) h))

pub name_stands : (name : List ℕ) → stands name ≡ true → written name ≡ name
name_stands [] h = refl
name_stands (b ∷ bs) h =
    let plain = and_right (not (b == 35)) (is_plain b && list_all is_plain bs) h in
    ap (λ (p : Bool). (if p then escaped b else written_byte b) ++ flat_map written_byte bs) (not_true (b == 35) (and_left (not (b == 35)) (is_plain b && list_all is_plain bs) h))
    ∙ ap (λ (p : Bool). (if p then b ∷ [] else escaped b) ++ flat_map written_byte bs) (and_left (is_plain b) (list_all is_plain bs) plain)
    ∙ ap (λ (l : List ℕ). b ∷ l) (bytes_stand bs (and_right (is_plain b) (list_all is_plain bs) plain))

-- ---- bytes that are written

each_high : (text : List ℕ) → list_all is_word_byte text ≡ true → AllByRecursion (λ x. 32 < x) text
each_high [] h = tt
each_high (x ∷ text) h = (
  ltb-true 32 x (and_left (nat_lt 32 x) (not (x == 127)) (and_left (is_word_byte x) (list_all is_word_byte text) h)),
  each_high text (and_right (is_word_byte x) (list_all is_word_byte text) h),
)

-- all are above those of spaces
pub written_high : (name : List ℕ) → AllByRecursion (λ x. 32 < x) (written name)
written_high [] = tt
written_high (b ∷ bs) = word_high (written (b ∷ bs)) (name_word (b ∷ bs) (λ e. let f : b ∷ bs ≡ [] = e in cc))
  where
    word_high : (text : List ℕ) → is_word text ≡ true → AllByRecursion (λ x. 32 < x) text
    word_high [] h = tt
    word_high (x ∷ text) h = each_high (x ∷ text) (and_right (not (x == 35)) (list_all is_word_byte (x ∷ text)) h)
