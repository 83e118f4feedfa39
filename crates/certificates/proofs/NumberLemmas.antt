-- The numbers, nodes and potentials in a line.
use Rattle.std.proofs.Common.{◌≡◌, ◌≢◌, ℕ, suc, ◌+◌, ◌-◌, ◌*◌, ◌/◌, ◌%◌, ◌<◌, ◌≤◌, ◌^◌, Bool, true, false, List, [], ◌∷◌, ◌++◌, length, refl, sym, ◌∙◌, ap, subst, arith, Option, Some, None, inl, inr, ◌⊎◌, take, drop, decimal, ℤ, pos, negsuc}
use Rattle.std.specs.Prelude.{◌==◌, if◌then◌else◌, SomeIff, codes, nat_eq}
use Rattle.std.specs.Fmt.{signed_decimal}
use Rattle.std.specs.List.{AllByRecursion}
use Rattle.std.proofs.lemmas.Bool.{cases_Bool, eq-eqb, eqb-true, true≢false}
use Rattle.std.proofs.lemmas.Fmt.{decimal_by_steps, decimal_injective}
use Rattle.std.proofs.lemmas.List.{append_cancel_right, take-append-drop}
use lib.Pointwise.{pointwise, bytes_decides}
use Rattle.std.proofs.lemmas.Int.{ints}
use Rattle.ascii_text.specs.Number.{IsDecimalNumber, value_of}
use Rattle.ascii_text.proofs.NumberLemmas.{HasOneSpelling-decimal}
use Rattle.certificates.specs.Finding.{HasNoSpace, Finds}
use Rattle.certificates.specs.CertLines.{node_text}
use Rattle.section_check.specs.Section.{IsPotential}
use Rattle.certificates.proofs.PartLemmas.{each_append, each_weaker, Stops, one_part, no_space_by_test}

-- ---- digits

abbrev pub IsDigit : ℕ → Type 0
IsDigit byte = (48 ≤ byte) × (byte ≤ 57)

one_digit : (n : ℕ) → n < 10 → AllByRecursion IsDigit ((48 + n) ∷ [])
one_digit n h = ((omega arith, omega arith), tt)

pub digits_are : (n : ℕ) → n < 2 ^ 64 → AllByRecursion IsDigit (decimal n)
digits_are n small = decimal_by_steps (λ n ds. AllByRecursion IsDigit ds) one_digit
    (λ n ds ten h. each_append IsDigit ds ((48 + n % 10) ∷ []) h (one_digit (n % 10) (omega arith))) n small

digit_no_space : (x : ℕ) → IsDigit x → x ≢ 32
digit_no_space x h e = omega (arith, h.0)

pub decimal_no_space : (n : ℕ) → n < 2 ^ 64 → HasNoSpace (decimal n)
decimal_no_space n small = each_weaker IsDigit (λ byte. byte ≢ 32) digit_no_space (decimal n) (digits_are n small)

-- ---- numbers

number_absent : (text : List ℕ) → ¬ (IsDecimalNumber text × (value_of text < 2 ^ 64)) → (n : ℕ) → n < 2 ^ 64 → text ≢ decimal n
number_absent text h n small e =
    let one = HasOneSpelling-decimal n small in
    let value : value_of text ≡ n = ap value_of e ∙ one.1 in
    h (subst IsDecimalNumber (sym e) one.0, subst (λ (v : ℕ). v < 2 ^ 64) (sym value) small)

pub number_finds : (text : List ℕ) (r : Option ℕ) → SomeIff r (IsDecimalNumber text × (value_of text < 2 ^ 64)) (value_of text) → Finds decimal (λ n. n < 2 ^ 64) text r
number_finds text None h = number_absent text h
number_finds text (Some n) h =
    let small : n < 2 ^ 64 = subst (λ (v : ℕ). v < 2 ^ 64) (sym h.1) h.0.1 in
    ((HasOneSpelling-decimal n small).2 text h.0.0 (sym h.1), small)

-- a text is of one number
pub one_number : (text : List ℕ) (m n : ℕ) → text ≡ decimal m → text ≡ decimal n → m < 2 ^ 64 → n < 2 ^ 64 → m ≡ n
one_number text m n e f h k = decimal_injective m n h k (sym e ∙ f)

-- ---- nodes

suffix : Bool → List ℕ
suffix t = if t then codes "r" else []

stops_suffix : (t : Bool) → Stops IsDigit (if t then codes "r" else [])
stops_suffix true = λ h. omega (arith, h.1)
stops_suffix false = tt

one_suffix : (s t : Bool) → (if s then codes "r" else []) ≡ (if t then codes "r" else []) → s ≡ t
one_suffix true true e = refl
one_suffix false false e = refl
one_suffix true false e = absurd (cc)
one_suffix false true e = absurd (cc)

pub odd_same : (u v : ℕ) → (u % 2 == 1) ≡ (v % 2 == 1) → u % 2 ≡ v % 2
odd_same u v e = elim (cases_Bool (u % 2 == 1)) [
  | inl h ↦ let a = eqb-true (u % 2) 1 h in let b = eqb-true (v % 2) 1 (sym e ∙ h) in a ∙ sym b
  | inr h ↦
      let a = λ (k : u % 2 ≡ 1). true≢false (sym (eq-eqb (u % 2) 1 k) ∙ h) in
      let b = λ (k : v % 2 ≡ 1). true≢false (sym (eq-eqb (v % 2) 1 k) ∙ (sym e ∙ h)) in
      even_both u v a b
]
  where
    even_both : (u v : ℕ) → u % 2 ≢ 1 → v % 2 ≢ 1 → u % 2 ≡ v % 2
    even_both u v a b = omega arith

pub one_node : (u v : ℕ) → u < 2 ^ 32 → v < 2 ^ 32 → node_text u ≡ node_text v → u ≡ v
one_node u v h k e =
    let hu : u / 2 < 2 ^ 64 = omega arith in
    let kv : v / 2 < 2 ^ 64 = omega arith in
    let r = one_part IsDigit (decimal (u / 2)) (decimal (v / 2)) (if u % 2 == 1 then codes "r" else []) (if v % 2 == 1 then codes "r" else [])
    (digits_are (u / 2) hu) (digits_are (v / 2) kv) (stops_suffix (u % 2 == 1)) (stops_suffix (v % 2 == 1)) e in
    let halves : u / 2 ≡ v / 2 = decimal_injective (u / 2) (v / 2) hu kv r.0 in
    let parities : u % 2 ≡ v % 2 = odd_same u v (one_suffix (u % 2 == 1) (v % 2 == 1) r.1) in
    omega arith

suffix_no_space : (t : Bool) → HasNoSpace (if t then codes "r" else [])
suffix_no_space true = no_space_by_test (codes "r") refl
suffix_no_space false = tt

pub node_no_space : (u : ℕ) → u < 2 ^ 32 → HasNoSpace (node_text u)
node_no_space u h = each_append (λ byte. byte ≢ 32) (decimal (u / 2)) (if u % 2 == 1 then codes "r" else []) (decimal_no_space (u / 2) (omega arith)) (suffix_no_space (u % 2 == 1))

-- the texts of the two nodes of a place
pub raise_text : (p : ℕ) → node_text (2 * p + 1) ≡ decimal p ++ 114 ∷ []
raise_text p =
    let half : (2 * p + 1) / 2 ≡ p = omega arith in
    let odd : ((2 * p + 1) % 2 == 1) ≡ true = eq-eqb ((2 * p + 1) % 2) 1 (omega arith) in
    ap (λ (q : ℕ). decimal q ++ (if (2 * p + 1) % 2 == 1 then codes "r" else [])) half ∙ ap (λ (t : Bool). decimal p ++ (if t then codes "r" else [])) odd

-- a text that ends with an r is a raise step's, if its digits are a place's
ends_with_r : (u : ℕ) (digits : List ℕ) (t : Bool) → u < 2 ^ 32 → digits ++ 114 ∷ [] ≡ decimal (u / 2) ++ (if t then codes "r" else []) → digits ≡ decimal (u / 2)
ends_with_r u digits true h e = append_cancel_right digits (decimal (u / 2)) (114 ∷ []) e
ends_with_r u digits false h e = absurd (no_r (decimal (u / 2)) digits (digits_are (u / 2) (omega arith)) (e ∙ nothing (decimal (u / 2))))
  where
    nothing : (xs : List ℕ) → xs ++ [] ≡ xs
    nothing [] = refl
    nothing (x ∷ xs) = ap (λ (ys : List ℕ). x ∷ ys) (nothing xs)

    no_r : (xs digits : List ℕ) → AllByRecursion IsDigit xs → digits ++ 114 ∷ [] ≡ xs → ⊥
    no_r [] [] a e = absurd (cc)
    no_r [] (y ∷ ys) a e = absurd (cc)
    no_r (x ∷ xs) [] a e = let same : 114 ≡ x = cc in let high = a.0.1 in omega arith
    no_r (x ∷ xs) (y ∷ ys) a e = let rest : ys ++ 114 ∷ [] ≡ xs = cc in no_r xs ys a.1 rest

pub no_raise : (text digits : List ℕ) → text ≡ digits ++ 114 ∷ [] → ((p : ℕ) → p < 2 ^ 31 → digits ≢ decimal p) → (u : ℕ) → u < 2 ^ 32 → text ≢ node_text u
no_raise text digits e none u h f = none (u / 2) (omega arith) (ends_with_r u digits (u % 2 == 1) h (sym e ∙ f))

-- ---- potentials

pub first_digit : (text digits : List ℕ) (n : ℕ) → n < 2 ^ 64 → 45 ∷ digits ≡ decimal n → ⊥
first_digit text digits n h e =
    let each : AllByRecursion IsDigit (45 ∷ digits) = subst (AllByRecursion IsDigit) (sym e) (digits_are n h) in
    let low = each.0.0 in
    omega arith

-- what is known of a potential's size
pub negative_small : (n : ℕ) → IsPotential (negsuc n) → suc n < 2 ^ 64
negative_small n h = let low = h.0 in omega (arith, ints)

pub positive_small : (n : ℕ) → IsPotential (pos n) → n < 2 ^ 64
positive_small n h = let high = h.1 in omega (arith, ints)

pub no_negative : (digits : List ℕ) → ((n : ℕ) → n < 2 ^ 64 → digits ≢ decimal n) → (z : ℤ) → IsPotential z → 45 ∷ digits ≢ signed_decimal z
no_negative digits none (pos n) h e = first_digit digits digits n (positive_small n h) e
no_negative digits none (negsuc n) h e = let rest : digits ≡ decimal (suc n) = cc in none (suc n) (negative_small n h) rest

pub no_minus_zero : (digits : List ℕ) → digits ≡ decimal 0 → (z : ℤ) → IsPotential z → 45 ∷ digits ≢ signed_decimal z
no_minus_zero digits zeros (pos n) h e = first_digit digits digits n (positive_small n h) e
no_minus_zero digits zeros (negsuc n) h e =
    let rest : digits ≡ decimal (suc n) = cc in
    let small : 0 < 2 ^ 64 = omega arith in
    let same = one_number digits 0 (suc n) zeros rest small (negative_small n h) in
    absurd (omega arith)

pub no_version : (text : List ℕ) (n : ℕ) → text ≡ decimal n → n < 2 ^ 32 → n ≢ 1 → n ≢ 2 → (x : ℕ) → (x ≡ 1) ⊎ (x ≡ 2) → text ≢ decimal x
no_version text n e small one two x (inl is) f = one (one_number text n x e f (omega arith) (omega arith) ∙ is)
no_version text n e small one two x (inr is) f = two (one_number text n x e f (omega arith) (omega arith) ∙ is)

-- what a text ends with
pub ends_with : (text digits suffix : List ℕ) → pointwise nat_eq (drop (length text - length suffix) text) suffix ≡ true → digits ≡ take (length text - length suffix) text → text ≡ digits ++ suffix
ends_with text digits suffix e f =
    let end = (bytes_decides (drop (length text - length suffix) text) suffix).0 e in
    sym (take-append-drop (length text - length suffix) text) ∙ (ap (λ (xs : List ℕ). take (length text - length suffix) text ++ xs) end ∙ ap (λ (xs : List ℕ). xs ++ suffix) (sym f))

pub raise_found : (text digits : List ℕ) (p : ℕ) → text ≡ digits ++ 114 ∷ [] → digits ≡ decimal p → p < 2 ^ 31 → (text ≡ node_text (2 * p + 1)) × (2 * p + 1 < 2 ^ 32)
raise_found text digits p e f small = (e ∙ (ap (λ (xs : List ℕ). xs ++ 114 ∷ []) f ∙ sym (raise_text p)), omega arith)

-- nothing is found where nothing is there
pub nothing_found : {X : Type 0} (f : X → List ℕ) (P : X → Type 0) (text : List ℕ) (r : Option X) → r ≡ None → Finds f P text None → Finds f P text r
nothing_found {X} f P text r e h = subst (λ (o : Option X). Finds f P text o) (sym e) h
