-- Parts of a line, which a space ends.
use Rattle.std.proofs.Common.{◌≡◌, ◌≢◌, ℕ, zero, suc, ◌+◌, ◌≤◌, Bool, true, not, List, [], ◌∷◌, ◌++◌, length, take, drop, refl, sym, ◌∙◌, subst, arith, Some, None, cond, inl, inr}
use Rattle.std.specs.Prelude.{◌==◌, position}
use Rattle.std.specs.List.{AllByRecursion, position_or_len, list_all}
use Rattle.std.proofs.lemmas.Bool.{cases_lt, cases_Bool, cond_below, cond_above, eq-eqb, eqb-true, true≢false}
use Rattle.std.proofs.lemmas.List.{take-append-drop}
use Rattle.lists.specs.Tests.{and_left, and_right, not_true}
use Rattle.certificates.specs.Finding.{HasNoSpace, IsBehindPart, IsFirstPart}

-- ---- what each byte of a list is

pub each_append : (P : ℕ → Type 0) (xs ys : List ℕ) → AllByRecursion P xs → AllByRecursion P ys → AllByRecursion P (xs ++ ys)
each_append P [] ys h k = k
each_append P (x ∷ xs) ys h k = (h.0, each_append P xs ys h.1 k)

pub each_weaker : (P Q : ℕ → Type 0) → ((x : ℕ) → P x → Q x) → (xs : List ℕ) → AllByRecursion P xs → AllByRecursion Q xs
each_weaker P Q f [] h = tt
each_weaker P Q f (x ∷ xs) h = (f x h.0, each_weaker P Q f xs h.1)

-- ---- where a part ends

-- empty, or its first byte is none of P
abbrev pub Stops : (P : ℕ → Type 0) → List ℕ → Type 0
Stops P [] = Unit {0}
Stops P (x ∷ xs) = ¬ P x

-- where bytes of P end, the part and the rest are one way alone
pub one_part : (P : ℕ → Type 0) (a b c d : List ℕ) → AllByRecursion P a → AllByRecursion P b → Stops P c → Stops P d → a ++ c ≡ b ++ d → (a ≡ b) × (c ≡ d)
one_part P [] [] c d h k s t e = (refl, e)
one_part P [] (y ∷ b) [] d h k s t e = absurd (cc)
one_part P [] (y ∷ b) (x ∷ c) d h k s t e = let same : x ≡ y = cc in absurd (s (subst P (sym same) k.0))
one_part P (x ∷ a) [] c [] h k s t e = absurd (cc)
one_part P (x ∷ a) [] c (y ∷ d) h k s t e = let same : x ≡ y = cc in absurd (t (subst P same h.0))
one_part P (x ∷ a) (y ∷ b) c d h k s t e =
    let same : x ≡ y = cc in
    let rest : a ++ c ≡ b ++ d = cc in
    let r = one_part P a b c d h.1 k.1 s t rest in
    let left : a ≡ b = r.0 in
    (cc, r.1)

abbrev NotSpace : ℕ → Type 0
NotSpace byte = byte ≢ 32

stops_behind : (xs : List ℕ) → IsBehindPart xs → Stops NotSpace xs
stops_behind [] h = tt
stops_behind (x ∷ xs) h = λ n. n h

pub one_first_part : (a b c d : List ℕ) → HasNoSpace a → HasNoSpace b → IsBehindPart c → IsBehindPart d → a ++ c ≡ b ++ d → (a ≡ b) × (c ≡ d)
one_first_part a b c d h k s t e = one_part NotSpace a b c d h k (stops_behind c s) (stops_behind d t) e

-- a text whose bytes are tested has no space
pub no_space_by_test : (xs : List ℕ) → list_all (λ byte. not (byte == 32)) xs ≡ true → HasNoSpace xs
no_space_by_test [] h = tt
no_space_by_test (x ∷ xs) h =
    let other = not_true (x == 32) (and_left (not (x == 32)) (list_all (λ byte. not (byte == 32)) xs) h) in
    (λ e. true≢false (sym (eq-eqb x 32 e) ∙ other), no_space_by_test xs (and_right (not (x == 32)) (list_all (λ byte. not (byte == 32)) xs) h))

-- a list with a space in it
pub no_space_there : (a b : List ℕ) → HasNoSpace (a ++ 32 ∷ b) → ⊥
no_space_there [] b h = h.0 refl
no_space_there (x ∷ a) b h = no_space_there a b h.1

-- ---- the place of the first space

abbrev is_space : ℕ → Bool
is_space byte = byte == 32

first_space : (xs : List ℕ) → HasNoSpace (take (position_or_len is_space xs) xs) × IsBehindPart (drop (position_or_len is_space xs) xs)
first_space [] = (tt, tt)
first_space (x ∷ xs) = elim (cases_Bool (is_space x)) [
  | inl e ↦
      let P : Bool → Type 0 = λ b. HasNoSpace (take (cond (not b) (1 + position_or_len is_space xs) 0) (x ∷ xs)) × IsBehindPart (drop (cond (not b) (1 + position_or_len is_space xs) 0) (x ∷ xs)) in
      subst P (sym e) (tt, eqb-true x 32 e)
  | inr e ↦
      let P : Bool → Type 0 = λ b. HasNoSpace (take (cond (not b) (1 + position_or_len is_space xs) 0) (x ∷ xs)) × IsBehindPart (drop (cond (not b) (1 + position_or_len is_space xs) 0) (x ∷ xs)) in
      subst P (sym e) (later x xs (position_or_len is_space xs) (λ same. absurd (let t : is_space x ≡ true = eq-eqb x 32 same in cc)) (first_space xs))
]
  where
    later : (x : ℕ) (xs : List ℕ) (n : ℕ) → x ≢ 32 → HasNoSpace (take n xs) × IsBehindPart (drop n xs) → HasNoSpace (take (1 + n) (x ∷ xs)) × IsBehindPart (drop (1 + n) (x ∷ xs))
    later x xs n other h = let same : 1 + n ≡ suc n = omega arith in subst (λ (m : ℕ). HasNoSpace (take m (x ∷ xs)) × IsBehindPart (drop m (x ∷ xs))) (sym same) ((other, h.0), h.1)

-- the part before it, and the rest
pub first_part_at : (text : List ℕ) (end : ℕ) → Some end ≡ position is_space text → IsFirstPart text (take end text) (drop end text)
first_part_at text end e =
    let at = position_or_len is_space text in
    elim (cases_lt at (length text)) [
      | inl h ↦
          let found : Some at ≡ position is_space text = cond_below at (length text) (Some at) None h in
          let same : at ≡ end = cc in
          let f = first_space text in
          subst (λ (n : ℕ). IsFirstPart text (take n text) (drop n text)) same (record { whole = sym (take-append-drop at text); no_space = f.0; behind = f.1 })
      | inr h ↦
          let absent : None ≡ position is_space text = cond_above at (length text) (Some at) None None h refl in
          absurd (cc)
    ]

pub whole_part : (text : List ℕ) → None ≡ position is_space text → IsFirstPart text (take (length text) text) (drop (length text) text)
whole_part text e =
    let at = position_or_len is_space text in
    elim (cases_lt at (length text)) [
      | inl h ↦
          let found : Some at ≡ position is_space text = cond_below at (length text) (Some at) None h in
          absurd (cc)
      | inr h ↦ all_of text at h (first_space text)
    ]
  where
    short : (text : List ℕ) (at : ℕ) → length text ≤ at → HasNoSpace (take at text) → HasNoSpace (take (length text) text)
    short [] at h f = tt
    short (x ∷ xs) zero h f = absurd (omega arith)
    short (x ∷ xs) (suc at) h f = (f.0, short xs at (omega arith) f.1)

    none : (text : List ℕ) → IsBehindPart (drop (length text) text)
    none [] = tt
    none (x ∷ xs) = none xs

    all_of : (text : List ℕ) (at : ℕ) → length text ≤ at → HasNoSpace (take at text) × IsBehindPart (drop at text) → IsFirstPart text (take (length text) text) (drop (length text) text)
    all_of text at h f = record {
      whole = sym (take-append-drop (length text) text);
      no_space = short text at h f.0;
      behind = none text;
    }

pub part_is : (text a b : List ℕ) (n : ℕ) → a ≡ take n text → b ≡ drop n text → IsFirstPart text (take n text) (drop n text) → IsFirstPart text a b
part_is text a b n e f h = subst (λ (x : List ℕ). IsFirstPart text x b) (sym e) (subst (λ (y : List ℕ). IsFirstPart text (take n text) y) (sym f) h)
