-- The tests of numbers.
use Rattle.std.proofs.Common.{◌≡◌, ℕ, ◌<◌, ◌≤◌, ◌^◌, Bool, true, false, not, List, [], subst, ◌∷◌, length, get_or, Some, None, refl, sym, ap, ◌∙◌, arith, eq-eqb, le-leb, lt-ltb, inl, inr}
use Rattle.std.specs.Prelude.{◌&&◌, ◌||◌, ◌==◌, nat_le, nat_lt, slice_index, SomeIff, if◌then◌else◌}
use Rattle.std.specs.declared.option.Option.{Option}
use Rattle.std.specs.Str.{all_ascii_digits}
use Rattle.std.specs.List.{list_any, Contains}
use Rattle.std.proofs.lemmas.Bool.{and_from, and_parts, cases_Bool}
use Rattle.std.proofs.lemmas.List.Folds.{Any-from_list_any, list_any_at}
use Rattle.std.proofs.lemmas.Bool.Decides.{nat_tests}
use Rattle.std.proofs.lemmas.Str.Parse.{IsNumeralModel, numerals_by_value, tells_all_ascii_digits}
use Rattle.std.specs.Str.Parse.{digits_value}
use Rattle.ascii_text.specs.Number.{IsDecimalNumber, value_of}
use Rattle.command_line.specs.Table.{OneOf}
use Rattle.command_line.specs.Command.{is_number, number_from, meaning}
use Rattle.command_line.specs.Grammar.{IsNumberFrom}

or_not : (a b : Bool) → (b ≡ true → a ≡ true) → (a || not b) ≡ true
or_not true b h = refl
or_not false true h = h refl
or_not false false h = refl

not_or : (a b : Bool) → (a || not b) ≡ true → b ≡ true → a ≡ true
not_or true b e t = refl
not_or false true e t = e
not_or false false e t = t

eq_true : (x y : ℕ) → (x == y) ≡ true → x ≡ y
eq_true x y e = grind arith

le_true : (x y : ℕ) → nat_le x y ≡ true → x ≤ y
le_true x y e = grind arith

digits : IsNumeralModel (λ ds. all_ascii_digits ds ≡ true) (digits_value 10)
digits = numerals_by_value (λ ds. all_ascii_digits ds ≡ true) tells_all_ascii_digits

some : (text : List ℕ) → 0 < length text → nat_lt 0 (length text) ≡ true
some text h = lt-ltb 0 (length text) h

from_some : (text : List ℕ) → nat_lt 0 (length text) ≡ true → 0 < length text
from_some [] e = absurd (cc)
from_some (c ∷ cs) e = omega arith

pub number_is : (text : List ℕ) → IsDecimalNumber text → is_number text ≡ true
number_is text h =
    and_from (nat_lt 0 (length text) && all_ascii_digits text) (length text == 1 || not (slice_index text 0 == 48))
    (and_from (nat_lt 0 (length text)) (all_ascii_digits text) (some text h.not_empty) (digits.from text h.digits))
    (or_not (length text == 1) (slice_index text 0 == 48) (λ e. eq-eqb (length text) 1 (h.no_leading_zero (eq_true (slice_index text 0) 48 e))))

pub is_decimal : (text : List ℕ) → is_number text ≡ true → IsDecimalNumber text
is_decimal text e =
    let halves = and_parts (nat_lt 0 (length text) && all_ascii_digits text) (length text == 1 || not (slice_index text 0 == 48)) e in
    let first = and_parts (nat_lt 0 (length text)) (all_ascii_digits text) halves.0 in
    record {
      not_empty = from_some text first.0;
      digits = digits.to text first.1;
      no_leading_zero = λ zero. eq_true (length text) 1 (not_or (length text == 1) (slice_index text 0 == 48) halves.1 (eq-eqb (slice_index text 0) 48 zero));
    }

-- ---- from one number to another

abbrev is_from : (from to : ℕ) → List ℕ → Bool
is_from from to text = is_number text && nat_le from (value_of text) && nat_le (value_of text) to

pub number-some : (from to : ℕ) (text : List ℕ) (n : ℕ) → IsNumberFrom from to text n → Some n ≡ number_from from to text
number-some from to text n h =
    let is = h.1 in
    let low : from ≤ value_of text = omega (arith, is, h.2) in
    let high : value_of text ≤ to = omega (arith, is, h.3) in
    let test : is_from from to text ≡ true =
    and_from (is_number text && nat_le from (value_of text)) (nat_le (value_of text) to) (and_from (is_number text) (nat_le from (value_of text)) (number_is text h.0) (le-leb from (value_of text) low)) (le-leb (value_of text) to high) in
    ap (λ (k : ℕ). Some k) is ∙ ap (λ b. if b then Some (value_of text) else None) (sym test)

parts : (from to : ℕ) (text : List ℕ) → is_from from to text ≡ true → IsNumberFrom from to text (value_of text)
parts from to text e =
    let outer = and_parts (is_number text && nat_le from (value_of text)) (nat_le (value_of text) to) e in
    let inner = and_parts (is_number text) (nat_le from (value_of text)) outer.0 in
    (is_decimal text inner.0, refl, le_true from (value_of text) inner.1, le_true (value_of text) to outer.1)

pub number-none : (from to : ℕ) (text : List ℕ) → ((n : ℕ) → IsNumberFrom from to text n → ⊥) → None ≡ number_from from to text
number-none from to text h = elim (cases_Bool (is_from from to text)) [
  | inl e ↦ absurd (h (value_of text) (parts from to text e))
  | inr e ↦ ap (λ b. if b then Some (value_of text) else None) (sym e)
]

pub number-means : (from to : ℕ) (text : List ℕ) (n : ℕ) → number_from from to text ≡ Some n → IsNumberFrom from to text n
number-means from to text n means = elim (cases_Bool (is_from from to text)) [
  | inl e ↦
      let known : Some (value_of text) ≡ number_from from to text = ap (λ b. if b then Some (value_of text) else None) (sym e) in
      let is : value_of text ≡ n = cc in
      subst (λ (k : ℕ). IsNumberFrom from to text k) is (parts from to text e)
  | inr e ↦
      let known : None ≡ number_from from to text = ap (λ b. if b then Some (value_of text) else None) (sym e) in
      absurd (cc)
]

-- ---- by what read_u64 answers of the word's bytes

abbrev pub Reads : Option ℕ → List ℕ → Type 0
Reads answer text = SomeIff answer (IsDecimalNumber text × (value_of text < 2 ^ 64)) (value_of text)

pub number_unread : (from to : ℕ) (word text : List ℕ) (answer : Option ℕ) → to < 2 ^ 64 → text ≡ word → answer ≡ None → Reads answer text → None ≡ number_from from to word
number_unread from to word text answer fits same none reads =
    let R : Option ℕ → Type 0 = λ a. Reads a text in
    let never : Reads None text = subst R none reads in
    number-none from to text (λ n h. let is = h.1 in let few = h.3 in never (h.0, omega (arith, is, few, fits))) ∙ ap (number_from from to) same

pub number_read : (from to : ℕ) (word text : List ℕ) (n : ℕ) (answer : Option ℕ) → text ≡ word → answer ≡ Some n → Reads answer text → from ≤ n → n ≤ to → Some n ≡ number_from from to word
number_read from to word text n answer same some reads low high =
    let R : Option ℕ → Type 0 = λ a. Reads a text in
    let read : Reads (Some n) text = subst R some reads in
    number-some from to text n (read.0.0, read.1, low, high) ∙ ap (number_from from to) same

pub number_outside : (from to : ℕ) (word text : List ℕ) (n : ℕ) (answer : Option ℕ) → text ≡ word → answer ≡ Some n → Reads answer text → (from ≤ n → n ≤ to → ⊥) → None ≡ number_from from to word
number_outside from to word text n answer same some reads out =
    let R : Option ℕ → Type 0 = λ a. Reads a text in
    let read : Reads (Some n) text = subst R some reads in
    number-none from to text (λ m h. let is = h.1 in let same_value = read.1 in let low = h.2 in let high = h.3 in out (omega (arith, is, same_value, low)) (omega (arith, is, same_value, high))) ∙ ap (number_from from to) same

-- ---- one of some numbers

any-contains : (ns : List ℕ) (v : ℕ) → list_any (λ n. n == v) ns ≡ true → Contains ns v
any-contains ns v e =
    let some = Any-from_list_any (λ n. n == v) ns e in
    let same : some.1 ≡ v = eq_true some.1 v some.4 in
    let P : ℕ → Type 0 = λ x. get_or ns some.0 x ≡ x in
    (some.0, some.2, subst P same some.3)

contains-any : (ns : List ℕ) (v : ℕ) → Contains ns v → list_any (λ n. n == v) ns ≡ true
contains-any ns v h = list_any_at (λ n. n == v) ns h.0 v h.1 (eq-eqb (get_or ns h.0 v) v h.2)

abbrev pub IsOneOf : List ℕ → List ℕ → ℕ → Type 0
IsOneOf ns text n = IsDecimalNumber text × (n ≡ value_of text) × Contains ns n

pub one-of-some : (ns : List ℕ) (k : ℕ) (text : List ℕ) (n : ℕ) → IsOneOf ns text n → Some n ≡ meaning (OneOf ns) k text
one-of-some ns k text n h =
    let C : ℕ → Type 0 = λ m. Contains ns m in
    let test : (is_number text && list_any (λ m. m == value_of text) ns) ≡ true = and_from (is_number text) (list_any (λ m. m == value_of text) ns) (number_is text h.0) (contains-any ns (value_of text) (subst C h.1 h.2)) in
    ap (λ (k : ℕ). Some k) h.1 ∙ ap (λ b. if b then Some (value_of text) else None) (sym test)

one-of-parts : (ns : List ℕ) (text : List ℕ) → (is_number text && list_any (λ m. m == value_of text) ns) ≡ true → IsOneOf ns text (value_of text)
one-of-parts ns text e =
    let both = and_parts (is_number text) (list_any (λ m. m == value_of text) ns) e in
    (is_decimal text both.0, refl, any-contains ns (value_of text) both.1)

pub one-of-none : (ns : List ℕ) (k : ℕ) (text : List ℕ) → ((n : ℕ) → IsOneOf ns text n → ⊥) → None ≡ meaning (OneOf ns) k text
one-of-none ns k text h = elim (cases_Bool (is_number text && list_any (λ m. m == value_of text) ns)) [
  | inl e ↦ absurd (h (value_of text) (one-of-parts ns text e))
  | inr e ↦ ap (λ b. if b then Some (value_of text) else None) (sym e)
]

pub one-of-means : (ns : List ℕ) (k : ℕ) (text : List ℕ) (n : ℕ) → meaning (OneOf ns) k text ≡ Some n → IsOneOf ns text n
one-of-means ns k text n means = elim (cases_Bool (is_number text && list_any (λ m. m == value_of text) ns)) [
  | inl e ↦
      let known : Some (value_of text) ≡ meaning (OneOf ns) k text = ap (λ b. if b then Some (value_of text) else None) (sym e) in
      let is : value_of text ≡ n = cc in
      subst (λ (k : ℕ). IsOneOf ns text k) is (one-of-parts ns text e)
  | inr e ↦
      let known : None ≡ meaning (OneOf ns) k text = ap (λ b. if b then Some (value_of text) else None) (sym e) in
      absurd (cc)
]

-- ---- the sizes of a stack cache

abbrev pub sizes : List ℕ
sizes = 256 ∷ 512 ∷ 1024 ∷ []

size_of : (n : ℕ) → list_any (λ m. m == n) sizes ≡ true → (256 ≤ n) × (n ≤ 1024)
size_of n e = (grind (arith, nat_tests), grind (arith, nat_tests))

pub size-some : (k : ℕ) (word : List ℕ) (n : ℕ) → number_from 256 1024 word ≡ Some n → Contains sizes n → Some n ≡ meaning (OneOf sizes) k word
size-some k word n read is =
    let h = number-means 256 1024 word n read in
    one-of-some sizes k word n (h.0, h.1, is)

pub size-unread : (k : ℕ) (word : List ℕ) → number_from 256 1024 word ≡ None → None ≡ meaning (OneOf sizes) k word
size-unread k word read = one-of-none sizes k word (λ n h.
    let small = size_of n (contains-any sizes n h.2) in
    let known = number-some 256 1024 word n (h.0, h.1, small.0, small.1) in
    absurd (cc))

pub size-other : (k : ℕ) (word : List ℕ) (n : ℕ) → number_from 256 1024 word ≡ Some n → (n ≡ 256 → ⊥) → (n ≡ 512 → ⊥) → (n ≡ 1024 → ⊥) → None ≡ meaning (OneOf sizes) k word
size-other k word n read small middle large = one-of-none sizes k word (λ m h.
    let known = number-means 256 1024 word n read in
    let test = contains-any sizes m h.2 in
    let is = h.1 in
    let same : m ≡ n = h.1 ∙ sym known.1 in
    one_of_three m test (λ e. small (sym same ∙ e)) (λ e. middle (sym same ∙ e)) (λ e. large (sym same ∙ e)))
  where
    one_of_three : (m : ℕ) → list_any (λ i. i == m) sizes ≡ true → (m ≡ 256 → ⊥) → (m ≡ 512 → ⊥) → (m ≡ 1024 → ⊥) → ⊥
    one_of_three m e a b c = grind (arith, nat_tests)
