-- What holds of the words of the ROM that follow one another, and of the targets of branches and the first words of rows.
use Rattle.std.proofs.Common.{◌≡◌, ℕ, zero, suc, ◌+◌, ◌%◌, ◌^◌, ◌<◌, ◌⊎◌, Bool, true, false, List, [], ◌∷◌, get_or, refl, sym, ap, subst, inl, inr, mod-eq_of_lt, ◌∙◌, arith, ltb-true}
use Rattle.std.specs.Prelude.{◌==◌, ◌&&◌, ◌||◌, not, nat_lt, if◌then◌else◌}
use Rattle.std.proofs.lemmas.Bool.{and_parts, eq-eqb, cases_lt}
use Rattle.microcode.specs.declared.TheConstants.{WORDS, ENTRIES}
use Rattle.circuit_cycles.specs.Words.{has_opd, has_nxt, is, add, wait, stmra, is_ldi, is_bz, is_bnz, is_jmp, takes_at_a}
use Rattle.circuit_cycles.specs.Core.{entry_of}
use Rattle.circuit_cycles.specs.Rom.{has_fit_flags, may_follow, all_fit, at_a, is_among, goes_apart, all_apart, none_among}

fit_in : (before : ℕ) (words : List ℕ) (i : ℕ) → all_fit before words ≡ true → has_fit_flags (get_or words i 0) ≡ true
fit_in before [] i h = refl
fit_in before (word ∷ words) zero h =
    let parts = and_parts (has_fit_flags word && may_follow before word) (all_fit word words) h in
    (and_parts (has_fit_flags word) (may_follow before word) parts.0).0
fit_in before (word ∷ words) (suc i) h = fit_in word words i (and_parts (has_fit_flags word && may_follow before word) (all_fit word words) h).1

-- the flags of each word are fit
pub flags_fit : (address : ℕ) → has_fit_flags (get_or WORDS address 0) ≡ true
flags_fit address = fit_in 0 WORDS address refl

-- ---- words that follow one another

follow_in : (before : ℕ) (words : List ℕ) (i : ℕ) → all_fit before words ≡ true → may_follow (get_or (before ∷ words) i 0) (get_or words i 0) ≡ true
follow_in before [] zero h = by (is stmra before) h
  where
    by : (b : Bool) → not b ≡ true → (if b then is wait 0 else true) ≡ true
    by true e = let bad : ⊥ = cc in absurd bad
    by false e = refl
follow_in before [] (suc i) h = refl
follow_in before (word ∷ words) zero h =
    let parts = and_parts (has_fit_flags word && may_follow before word) (all_fit word words) h in
    (and_parts (has_fit_flags word) (may_follow before word) parts.0).1
follow_in before (word ∷ words) (suc i) h = follow_in word words i (and_parts (has_fit_flags word && may_follow before word) (all_fit word words) h).1

follow : (i : ℕ) → may_follow (get_or WORDS i 0) (get_or WORDS (suc i) 0) ≡ true
follow i = follow_in 0 WORDS (suc i) refl

last : may_follow (get_or WORDS 2047 0) (get_or WORDS 0 0) ≡ true
last = refl

-- the word at an address may stand before the one that runs behind it
pub follow_next : (i : ℕ) → i < 2048 → may_follow (get_or WORDS i 0) (get_or WORDS ((i + 1) % 2048) 0) ≡ true
follow_next i low = elim (cases_lt (i + 1) 2048) [
  | inl more ↦
      subst (λ k. may_follow (get_or WORDS i 0) (get_or WORDS k 0) ≡ true) (let e : suc i ≡ (i + 1) % 2048 = (let one : suc i ≡ i + 1 = omega arith in one) ∙ sym (mod-eq_of_lt more) in e) (follow i)
  | inr past ↦ let e : i ≡ 2047 = omega (arith, low, past) in subst (λ k. may_follow (get_or WORDS k 0) (get_or WORDS ((k + 1) % 2048) 0) ≡ true) (sym e) last
]

-- before a word that takes its byte at A stands an addition or a constant without flags
pub record StandsBefore (before : ℕ) : Type 0 where
  pub kind : (is add before ≡ true) ⊎ (is_ldi before ≡ true)
  pub opd : has_opd before ≡ false
  pub nxt : has_nxt before ≡ false

pub before_at_a : (before word : ℕ) → may_follow before word ≡ true → takes_at_a word ≡ true → is stmra before ≡ false → StandsBefore before
before_at_a before word h takes other =
    let one : (if takes_at_a word then is add before && not (has_opd before || has_nxt before) || (is_ldi before && not (has_opd before || has_nxt before)) else true) ≡ true =
    sym (ap (λ b. if b then is wait word else if takes_at_a word then is add before && not (has_opd before || has_nxt before) || (is_ldi before && not (has_opd before || has_nxt before)) else true) other) ∙ h in
    let two : (is add before && not (has_opd before || has_nxt before) || (is_ldi before && not (has_opd before || has_nxt before))) ≡ true =
    sym (ap (λ b. if b then is add before && not (has_opd before || has_nxt before) || (is_ldi before && not (has_opd before || has_nxt before)) else true) takes) ∙ one in
    let parts = by (is add before) (is_ldi before) (has_opd before) (has_nxt before) two in
    record { kind = parts.0; opd = parts.1; nxt = parts.2 }
  where
    by : (a l o x : Bool) → (a && not (o || x) || (l && not (o || x))) ≡ true → ((a ≡ true) ⊎ (l ≡ true)) × (o ≡ false) × (x ≡ false)
    by true l false false e = (inl refl, refl, refl)
    by true true true x e = let bad : ⊥ = cc in absurd bad
    by true false true x e = let bad : ⊥ = cc in absurd bad
    by true true false true e = let bad : ⊥ = cc in absurd bad
    by true false false true e = let bad : ⊥ = cc in absurd bad
    by false true false false e = (inr refl, refl, refl)
    by false true true x e = let bad : ⊥ = cc in absurd bad
    by false true false true e = let bad : ⊥ = cc in absurd bad
    by false false o x e = let bad : ⊥ = cc in absurd bad

-- behind a read stands a wait
pub behind_read : (before word : ℕ) → may_follow before word ≡ true → is stmra before ≡ true → is wait word ≡ true
behind_read before word h reads =
    sym (ap (λ b. if b then is wait word else if takes_at_a word then is add before && not (has_opd before || has_nxt before) || (is_ldi before && not (has_opd before || has_nxt before)) else true) reads) ∙ h

-- ---- targets and rows

or_true : (b : Bool) → (b || true) ≡ true
or_true true = refl
or_true false = refl

-- the addresses have each word that takes its byte at A
among : (from : ℕ) (words : List ℕ) (i : ℕ) → takes_at_a (get_or words i 0) ≡ true → is_among (from + i) (at_a from words) ≡ true
among from [] i h = let bad : ⊥ = cc in absurd bad
among from (word ∷ words) zero h =
    ap (λ (xs : List ℕ). is_among (from + 0) xs) (ap (λ b. if b then from ∷ at_a (from + 1) words else at_a (from + 1) words) h)
    ∙ ap (λ b. b || is_among (from + 0) (at_a (from + 1) words)) (eq-eqb (from + 0) from (omega arith))
among from (word ∷ words) (suc i) h =
    by (takes_at_a word) (ap (λ k. is_among k (at_a (from + 1) words)) (let e : from + suc i ≡ from + 1 + i = omega arith in e) ∙ among (from + 1) words i h)
  where
    by : (b : Bool) → is_among (from + suc i) (at_a (from + 1) words) ≡ true → is_among (from + suc i) (if b then from ∷ at_a (from + 1) words else at_a (from + 1) words) ≡ true
    by true e = ap (λ x. (from + suc i == from) || x) e ∙ or_true (from + suc i == from)
    by false e = e

apart_of : (target : ℕ) → is_among target (at_a 0 WORDS) ≡ false → takes_at_a (get_or WORDS target 0) ≡ false
apart_of target none = by (takes_at_a (get_or WORDS target 0)) refl
  where
    by : (b : Bool) → takes_at_a (get_or WORDS target 0) ≡ b → b ≡ false
    by true e =
        let there : is_among target (at_a 0 WORDS) ≡ true = ap (λ k. is_among k (at_a 0 WORDS)) (let z : target ≡ 0 + target = omega arith in z) ∙ among 0 WORDS target e in
        let bad : ⊥ = cc in absurd bad
    by false e = refl

apart_in : (addresses words : List ℕ) (i : ℕ) → all_apart addresses words ≡ true → goes_apart addresses (get_or words i 0) ≡ true
apart_in addresses [] i h = refl
apart_in addresses (word ∷ words) zero h = (and_parts (goes_apart addresses word) (all_apart addresses words) h).0
apart_in addresses (word ∷ words) (suc i) h = apart_in addresses words i (and_parts (goes_apart addresses word) (all_apart addresses words) h).1

no_of : (b : Bool) → not b ≡ true → b ≡ false
no_of true e = let bad : ⊥ = cc in absurd bad
no_of false e = refl

-- the target of a branch takes no byte at A
pub target_apart : (i word : ℕ) → word ≡ get_or WORDS i 0 → (is_bz word || is_bnz word || is_jmp word) ≡ true → takes_at_a (get_or WORDS (word % 2 ^ 11) 0) ≡ false
target_apart i word at branches =
    let goes : goes_apart (at_a 0 WORDS) word ≡ true = ap (goes_apart (at_a 0 WORDS)) at ∙ apart_in (at_a 0 WORDS) WORDS i refl in
    let apart : not (is_among (word % 2 ^ 11) (at_a 0 WORDS)) ≡ true = sym (ap (λ b. if b then not (is_among (word % 2 ^ 11) (at_a 0 WORDS)) else true) branches) ∙ goes in
    apart_of (word % 2 ^ 11) (no_of (is_among (word % 2 ^ 11) (at_a 0 WORDS)) apart)

rows_in : (addresses entries : List ℕ) (i : ℕ) → none_among addresses entries ≡ true → is_among 0 addresses ≡ false → is_among (get_or entries i 0) addresses ≡ false
rows_in addresses [] i h first = first
rows_in addresses (entry ∷ entries) zero h first = no_of (is_among entry addresses) (and_parts (not (is_among entry addresses)) (none_among addresses entries) h).0
rows_in addresses (entry ∷ entries) (suc i) h first = rows_in addresses entries i (and_parts (not (is_among entry addresses)) (none_among addresses entries) h).1 first

-- the first word of a row takes no byte at A
pub entry_apart : (op : ℕ) → takes_at_a (get_or WORDS (entry_of op) 0) ≡ false
entry_apart op = apart_of (entry_of op) (rows_in (at_a 0 WORDS) ENTRIES op refl refl)

abbrev all_low : List ℕ → Bool
all_low [] = true
all_low (entry ∷ entries) = nat_lt entry 2048 && all_low entries

low_in : (entries : List ℕ) (i : ℕ) → all_low entries ≡ true → get_or entries i 0 < 2048
low_in [] i h = omega arith
low_in (entry ∷ entries) zero h = ltb-true entry 2048 (and_parts (nat_lt entry 2048) (all_low entries) h).0
low_in (entry ∷ entries) (suc i) h = low_in entries i (and_parts (nat_lt entry 2048) (all_low entries) h).1

-- it has an address
pub entry_low : (op : ℕ) → entry_of op < 2048
entry_low op = low_in ENTRIES op refl
