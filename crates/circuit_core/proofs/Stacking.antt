-- Which words push, and which pop.
use Rattle.std.proofs.Common.{◌≡◌, ℕ, zero, suc, ◌%◌, ◌^◌, ◌<◌, Bool, true, false, List, [], ◌∷◌, ◌∙◌, refl, sym, ap, nat_lt, bit_and, bit_or, arith, ltb-true, inl, inr}
use Rattle.std.specs.Prelude.{◌==◌, ◌&&◌, ◌||◌, not}
use Rattle.std.specs.List.{list_any}
use Rattle.std.proofs.lemmas.Bool.{and_parts}
use Rattle.std.proofs.lemmas.Bool.Decides.{eqb_tells}
use Rattle.microcode.specs.declared.isa.operation.Operation.{Operation}
use Rattle.microcode.specs.Isa.Operations.{operation_of}
use Rattle.netlist.specs.Meaning.{bit_of}
use Rattle.circuit_cycles.specs.Words.{pushes_plain, keeps_plain, stores_plain, operation_in, pushes_word, pops_word, bits_of, is_plain, is_stm, is_ldm, is_ldi, is_bz, is_bnz}
use Rattle.circuit_core.specs.Decoding.{is_any}
use Rattle.circuit_core.proofs.Choosing.{both, either}

abbrev pub pushing : List ℕ
pushing = 2 ∷ 14 ∷ 15 ∷ 16 ∷ 17 ∷ 19 ∷ 20 ∷ 21 ∷ 22 ∷ 27 ∷ 29 ∷ 31 ∷ 34 ∷ 40 ∷ 44 ∷ []

abbrev pub popping : List ℕ
popping = 1 ∷ 3 ∷ 4 ∷ 5 ∷ 6 ∷ 7 ∷ 8 ∷ 9 ∷ 10 ∷ 11 ∷ 12 ∷ 13 ∷ 18 ∷ 23 ∷ 24 ∷ 25 ∷ 26 ∷ 28 ∷ 30 ∷ 32 ∷ 33 ∷ 35 ∷ 36 ∷ 37 ∷ 38 ∷ 41 ∷ 42 ∷ 45 ∷ []

abbrev pops_plain : Operation → Bool
pops_plain operation = not (pushes_plain operation) && not (keeps_plain operation)

-- two tests say the same
abbrev agree : Bool → Bool → Bool
agree true b = b
agree false b = not b

agreeing : (a b : Bool) → agree a b ≡ true → a ≡ b
agreeing true b h = sym h
agreeing false true h = cc
agreeing false false h = refl

-- two tests say the same of each number below this one
abbrev all_agree : (p q : ℕ → Bool) → ℕ → Bool
all_agree p q zero = true
all_agree p q (suc n) = agree (p n) (q n) && all_agree p q n

below : (p q : ℕ → Bool) (n : ℕ) → all_agree p q n ≡ true → (k : ℕ) → k < n → p k ≡ q k
below p q zero h k less = absurd (omega (arith, less))
below p q (suc n) h k less =
    let parts = and_parts (agree (p n) (q n)) (all_agree p q n) h in
    elim (eqb_tells k n) [
      | inl same ↦ ap p same.1 ∙ agreeing (p n) (q n) parts.0 ∙ ap q (sym same.1)
      | inr other ↦ let apart = other.1 in below p q n parts.1 k (omega (arith, less, apart))
    ]

abbrev named : List ℕ → ℕ → Bool
named codes k = list_any (λ code. k == code) codes

plain_named : (p : Operation → Bool) (codes : List ℕ) (word : ℕ) → all_agree (named codes) (λ k. p (operation_of k)) (2 ^ 6) ≡ true
    → (is_plain word && named codes (word % 2 ^ 6)) ≡ (is_plain word && p (operation_in word))
plain_named p codes word h = by (nat_lt (word % 2 ^ 14) (2 ^ 6)) refl
  where
    by : (b : Bool) → nat_lt (word % 2 ^ 14) (2 ^ 6) ≡ b → (b && named codes (word % 2 ^ 6)) ≡ (b && p (operation_in word))
    by true e =
        let same : word % 2 ^ 6 ≡ word % 2 ^ 14 = omega (arith, ltb-true (word % 2 ^ 14) (2 ^ 6) e) in
        below (named codes) (λ k. p (operation_of k)) (2 ^ 6) h (word % 2 ^ 6) (omega arith) ∙ ap (λ k. p (operation_of k)) same
    by false e = refl

plainly : (p : Operation → Bool) (codes : List ℕ) (word r plain any code : ℕ) → all_agree (named codes) (λ k. p (operation_of k)) (2 ^ 6) ≡ true
    → r ≡ bit_and plain any → plain ≡ bit_of (is_plain word) → any ≡ bit_of (named codes code) → code ≡ word % 2 ^ 6
    → r ≡ bit_of (is_plain word && p (operation_in word))
plainly p codes word r plain any code h e isp isn c =
    both (is_plain word) (named codes (word % 2 ^ 6)) e isp (isn ∙ ap (λ k. bit_of (named codes k)) c) ∙ ap bit_of (plain_named p codes word h)

three : (a b c : Bool) → (a || (b || c)) ≡ (a || b || c)
three true b c = refl
three false b c = refl

four : (a x y b c d : Bool) → ((a && (x && y)) || (b || (c || d))) ≡ (a && x && y || b || c || d)
four true true true b c d = refl
four true true false b c d = three b c d
four true false y b c d = three b c d
four false x y b c d = three b c d

pub pushed : (word r plain any code is_plain_bit ldm ldi const : ℕ) → r ≡ bit_or plain const → plain ≡ bit_and is_plain_bit any → const ≡ bit_or ldm ldi
    → is_plain_bit ≡ bit_of (is_plain word) → any ≡ bit_of (named pushing code) → code ≡ word % 2 ^ 6 → ldm ≡ bit_of (is_ldm word)
    → ldi ≡ bit_of (is_ldi word) → r ≡ bit_of (pushes_word word)
pushed word r plain any code is_plain_bit ldm ldi const e p k isp isn c m i =
    let left = plainly pushes_plain pushing word plain is_plain_bit any code refl p isp isn c in
    let right = either (is_ldm word) (is_ldi word) k m i in
    either (is_plain word && pushes_plain (operation_in word)) (is_ldm word || is_ldi word) e left right
    ∙ ap bit_of (three (is_plain word && pushes_plain (operation_in word)) (is_ldm word) (is_ldi word))

pub popped : (word r plain any code is_plain_bit stm bz bnz branch other : ℕ) → r ≡ bit_or plain other → plain ≡ bit_and is_plain_bit any
    → other ≡ bit_or stm branch → branch ≡ bit_or bz bnz → is_plain_bit ≡ bit_of (is_plain word) → any ≡ bit_of (named popping code)
    → code ≡ word % 2 ^ 6 → stm ≡ bit_of (is_stm word) → bz ≡ bit_of (is_bz word) → bnz ≡ bit_of (is_bnz word) → r ≡ bit_of (pops_word word)
popped word r plain any code is_plain_bit stm bz bnz branch other e p o br isp isn c s z n =
    let left = plainly pops_plain popping word plain is_plain_bit any code refl p isp isn c in
    let right = either (is_stm word) (is_bz word || is_bnz word) o s (either (is_bz word) (is_bnz word) br z n) in
    let operation = operation_in word in
    either (is_plain word && pops_plain operation) (is_stm word || (is_bz word || is_bnz word)) e left right
    ∙ ap bit_of (four (is_plain word) (not (pushes_plain operation)) (not (keeps_plain operation)) (is_stm word) (is_bz word) (is_bnz word))

-- ---- one of these operations

pub any_plain : {r plain any code : ℕ} (codes : List ℕ) (word : ℕ) → r ≡ bit_and plain any → plain ≡ bit_of (is_plain word)
    → any ≡ bit_of (named codes code) → code ≡ word % 2 ^ 6 → r ≡ bit_of (is_any codes word)
any_plain codes word e isp isn c =
    both (is_plain word) (named codes (word % 2 ^ 6)) e isp (isn ∙ ap (λ k. bit_of (named codes k)) c) ∙ ap bit_of (by (nat_lt (word % 2 ^ 14) (2 ^ 6)) refl)
  where
    by : (b : Bool) → nat_lt (word % 2 ^ 14) (2 ^ 6) ≡ b → (b && named codes (word % 2 ^ 6)) ≡ (b && named codes (bits_of word))
    by true h = let same : word % 2 ^ 6 ≡ word % 2 ^ 14 = omega (arith, ltb-true (word % 2 ^ 14) (2 ^ 6) h) in ap (named codes) same
    by false h = refl

abbrev storing : List ℕ
storing = 18 ∷ 23 ∷ 24 ∷ 25 ∷ 26 ∷ 35 ∷ []

storing_plain : (word : ℕ) → is_any storing word ≡ (is_plain word && stores_plain (operation_in word))
storing_plain word = by (nat_lt (word % 2 ^ 14) (2 ^ 6)) refl
  where
    by : (b : Bool) → nat_lt (word % 2 ^ 14) (2 ^ 6) ≡ b → (b && named storing (bits_of word)) ≡ (b && stores_plain (operation_in word))
    by true h = below (named storing) (λ k. stores_plain (operation_of k)) (2 ^ 6) refl (bits_of word) (ltb-true (word % 2 ^ 14) (2 ^ 6) h)
    by false h = refl

pub stores : {r acts any plain stm pushing running : ℕ} (word : ℕ) (p g : Bool) → r ≡ bit_or pushing acts → acts ≡ bit_and running any
    → any ≡ bit_or plain stm → pushing ≡ bit_of p → running ≡ bit_of g → plain ≡ bit_of (is_any storing word) → stm ≡ bit_of (is_stm word)
    → r ≡ bit_of (p || g && (is_plain word && stores_plain (operation_in word) || is_stm word))
stores word p g e a n hp hg hpl hs =
    let all = either (is_plain word && stores_plain (operation_in word)) (is_stm word) n (hpl ∙ ap bit_of (storing_plain word)) hs in
    either p (g && (is_plain word && stores_plain (operation_in word) || is_stm word)) e hp
    (both g (is_plain word && stores_plain (operation_in word) || is_stm word) a hg all)
