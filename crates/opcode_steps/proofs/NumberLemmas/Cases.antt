-- The cases of a switch: which one a key takes (JVM Specification SE 8, 6.5.tableswitch and lookupswitch).
use Rattle.std.proofs.Common.{◌≡◌, ◌≢◌, inl, inr, ℕ, zero, suc, ◌+◌, ◌-◌, ◌%◌, ◌^◌, ◌<◌, ◌≤◌, Bool, true, false, cond, ◌==◌, ◌||◌, List, map, refl, sym, ◌∙◌, ap, subst, arith}
use Rattle.std.specs.Prelude.{ℤ, pos, negsuc, ◌+ℤ◌, ◌-ℤ◌, int_lt, unsigned_abs}
use Rattle.std.specs.List.{range_with_len}
use Rattle.std.specs.Int.{w32, int_wrap, cast_signed}
use Rattle.std.specs.Int.RustNames.{FitsSigned}
use Rattle.std.proofs.Math.Nat.{mod-eq_of_lt}
use Rattle.std.proofs.lemmas.Bool.{eqb-true, eqb-false, ltb-false, cases_order, true≢false}
use Rattle.std.proofs.lemmas.Bool.Decides.{nat_tests}
use Rattle.std.proofs.lemmas.Int.{ints, SFits-int_wrap, of_z-to_z}
use Rattle.opcodes.specs.declared.instruction.Case.{Case}
use Rattle.opcodes.specs.Instruction.{values_between}
use Rattle.bytecode_model.specs.Numbers.{is_equal}
use Rattle.bytecode_model.specs.Effects.{offset_of_key}
use Rattle.image_facts.specs.Words.{int_word}
use Rattle.opcode_steps.proofs.NumberLemmas.Wrapping.{wrapped_natural}

-- ---- keys

pub equal_is : (x : ℤ) → is_equal x x ≡ true
equal_is (pos a) = grind (arith, nat_tests)
equal_is (negsuc a) = grind (arith, nat_tests)

pub equal_tells : (y x : ℤ) → is_equal y x ≡ true → y ≡ x
equal_tells (pos a) (pos b) e = let same : a ≡ b = grind (arith, nat_tests) in ap pos same
equal_tells (negsuc a) (negsuc b) e = let same : a ≡ b = grind (arith, nat_tests) in ap negsuc same
equal_tells (pos a) (negsuc b) e = absurd (true≢false (sym e))
equal_tells (negsuc a) (pos b) e = absurd (true≢false (sym e))

unequal : (y x : ℤ) → y ≢ x → is_equal y x ≡ false
unequal y x apart = by (is_equal y x) refl
  where
    by : (b : Bool) → is_equal y x ≡ b → b ≡ false
    by true e = absurd (apart (equal_tells y x e))
    by false e = refl

-- the word of a number that was read as one
pub word_of_read : (v : ℕ) → v < 2 ^ 32 → int_word (cast_signed w32 v) ≡ v
word_of_read v small = of_z-to_z w32 v small

pub read_fits : (v : ℕ) → v < 2 ^ 32 → FitsSigned w32 (cast_signed w32 v)
read_fits v small =
    let F : ℤ → Type 0 = λ z. FitsSigned w32 z in
    let is : int_wrap w32 (pos v) ≡ cast_signed w32 v = sym (wrapped_natural w32 v) ∙ ap (cast_signed w32) (mod-eq_of_lt small) in
    subst F is (SFits-int_wrap w32 (pos v))

-- ---- keys that count up from a low one

module _ (low : ℤ) (offset : ℕ → ℤ) (default : ℤ) (key : ℤ) where
  abbrev case_at : ℕ → Case
  case_at k = record { key = low +ℤ pos k; offset = offset k }

  abbrev pub counted : (first count : ℕ) → List Case
  counted first count = map case_at (range_with_len first count)

  -- its own case, of those from the first one on
  pub counted_found : (first count k : ℕ) → first ≤ k → k < first + count → key ≡ low +ℤ pos k → offset_of_key default (counted first count) key ≡ offset k
  counted_found first zero k from to is = absurd (omega arith)
  counted_found first (suc count) k from to is = by (first == k) refl (λ later. counted_found (first + 1) count k later (omega arith) is)
    where
      by : (b : Bool) → (first == k) ≡ b → (first + 1 ≤ k → offset_of_key default (counted (first + 1) count) key ≡ offset k)
          → cond (is_equal (low +ℤ pos first) key) (offset first) (offset_of_key default (counted (first + 1) count) key) ≡ offset k
      by true t later =
          let here : first ≡ k = eqb-true first k t in
          let same : low +ℤ pos first ≡ key = ap (λ (j : ℕ). low +ℤ pos j) here ∙ sym is in
          ap (λ (b : Bool). cond b (offset first) (offset_of_key default (counted (first + 1) count) key)) (ap (λ (z : ℤ). is_equal z key) same ∙ equal_is key) ∙ ap offset here
      by false t later =
          let apart : first ≢ k = eqb-false first k t in
          let other : is_equal (low +ℤ pos first) key ≡ false = unequal (low +ℤ pos first) key (λ (same : low +ℤ pos first ≡ key). apart (let twice : low +ℤ pos first ≡ low +ℤ pos k = same ∙ is in omega (arith, ints))) in
          ap (λ (b : Bool). cond b (offset first) (offset_of_key default (counted (first + 1) count) key)) other
          ∙ later (elim (cases_order first k) [ inl e ↦ absurd (apart e) | inr r ↦ elim r [ inl l ↦ omega arith | inr l ↦ absurd (omega arith) ] ])

  pub counted_missed : (first count : ℕ) → ((k : ℕ) → first ≤ k → k < first + count → key ≢ low +ℤ pos k) → offset_of_key default (counted first count) key ≡ default
  counted_missed first zero none = refl
  counted_missed first (suc count) none =
      ap (λ (b : Bool). cond b (offset first) (offset_of_key default (counted (first + 1) count) key)) (unequal (low +ℤ pos first) key (λ (same : low +ℤ pos first ≡ key). none first (omega arith) (omega arith) (sym same)))
      ∙ counted_missed (first + 1) count (λ k from to. none k (omega arith) (omega arith))

-- ---- where a key lies

-- no less than another: so much more
above_by : (x y : ℤ) → int_lt y x ≡ false → (d : ℕ) × (y ≡ x +ℤ pos d)
above_by (pos a) (pos b) e = let more = ltb-false b a e in (b - a, ap pos (omega arith))
above_by (pos a) (negsuc b) e = absurd (true≢false e)
above_by (negsuc a) (pos b) e = (b + suc a, omega (arith, ints))
above_by (negsuc a) (negsuc b) e = let more = ltb-false a b e in (a - b, omega (arith, ints))

not_below : (x y : ℤ) (d : ℕ) → y ≡ x +ℤ pos d → int_lt y x ≡ false
not_below x y d e = grind (arith, ints)

values_are : (low high : ℤ) (d : ℕ) → high ≡ low +ℤ pos d → values_between low high ≡ d + 1
values_are low high d e =
    let between : high -ℤ low ≡ pos d = omega (arith, ints) in
    ap (λ (b : Bool). cond b 0 (unsigned_abs (high -ℤ low) + 1)) (not_below low high d e) ∙ ap (λ (z : ℤ). unsigned_abs z + 1) between

-- from a low number up to a high one, both of them counted
pub record Lies (low high key : ℤ) : Type 0 where
  pub place : ℕ
  pub is : key ≡ low +ℤ pos place
  pub inside : place < values_between low high

pub lies : (low high key : ℤ) → int_lt key low ≡ false → int_lt high key ≡ false → Lies low high key
lies low high key above below =
    let a = above_by low key above in
    let b = above_by key high below in
    let a1 = a.1 in let b1 = b.1 in
    let all : high ≡ low +ℤ pos (a.0 + b.0) = omega (arith, ints) in
    record { place = a.0; is = a.1; inside = omega (arith, values_are low high (a.0 + b.0) all) }

pub lies_not : (low high key : ℤ) (k : ℕ) → (int_lt key low || int_lt high key) ≡ true → k < values_between low high → key ≢ low +ℤ pos k
lies_not low high key k out inside is = by (int_lt high low) refl inside
  where
    by : (b : Bool) → int_lt high low ≡ b → k < cond b 0 (unsigned_abs (high -ℤ low) + 1) → ⊥
    by true e h = absurd (omega arith)
    by false e h =
        let a = above_by low high e in
        let a1 = a.1 in
        let few : k < a.0 + 1 = omega (arith, values_are low high a.0 a.1, inside) in
        let rest : high ≡ key +ℤ pos (a.0 - k) = omega (arith, ints) in
        let first = not_below low key k is in
        let second = not_below key high (a.0 - k) rest in
        true≢false (sym out ∙ ap (λ (b : Bool). b || int_lt high key) first ∙ second)

-- the distance of two words
pub word_distance : (low key : ℤ) (k : ℕ) → FitsSigned w32 low → FitsSigned w32 key → k < 2 ^ 32 → key ≡ low +ℤ pos k → (int_word key + (2 ^ 32 - int_word low)) % 2 ^ 32 ≡ k
word_distance (pos a) (pos b) k p q small is = let x = p.sfits in let y = q.sfits in omega (arith, ints)
word_distance (pos a) (negsuc b) k p q small is = let x = p.sfits in let y = q.sfits in omega (arith, ints)
word_distance (negsuc a) (pos b) k p q small is = let x = p.sfits in let y = q.sfits in omega (arith, ints)
word_distance (negsuc a) (negsuc b) k p q small is = let x = p.sfits in let y = q.sfits in omega (arith, ints)
