-- Places of a ring.
use Rattle.std.proofs.Common.{◌≡◌, ◌≢◌, ℕ, ◌+◌, ◌-◌, ◌*◌, ◌/◌, ◌%◌, ◌<◌, Bool, true, false, refl, sym, ap, subst, inl, inr, mod-eq_of_lt, ◌∙◌, arith}
use Rattle.std.specs.Prelude.{◌==◌, if◌then◌else◌}
use Rattle.std.proofs.Math.Nat.{add-mod_right, mod-add-mod, add-mul-mod_self_right}
use Rattle.std.proofs.lemmas.Nat.{mod_below}
use Rattle.std.proofs.lemmas.Bool.{cases_lt}
use Rattle.std.proofs.lemmas.Bool.Decides.{eqb_tells}
use Rattle.method_cache.proofs.Rotation.{mod_wraps_once}
use Rattle.circuit_cycles.specs.Tags.{behind}

pub eqb_eq : (m n : ℕ) → (m == n) ≡ true → m ≡ n
eqb_eq m n h = elim (eqb_tells m n) [
  | inl same ↦ same.1
  | inr other ↦ let no = other.0 in let bad : ⊥ = cc in absurd bad
]

pub eqb_ne : (m n : ℕ) → (m == n) ≡ false → m ≢ n
eqb_ne m n h = elim (eqb_tells m n) [
  | inl same ↦ let yes = same.0 in let bad : ⊥ = cc in absurd bad
  | inr other ↦ other.1
]

-- places behind one are apart
pub same_place : (n k p q : ℕ) → p < n → q < n → (k + p) % n ≡ (k + q) % n → p ≡ q
same_place n k p q below below' same =
    let r = k % n in
    let low : r < n = mod_below k n (omega arith) in
    let at : (r + p) % n ≡ (r + q) % n = mod-add-mod k n p ∙ same ∙ sym (mod-add-mod k n q) in
    let wrap_p = mod_wraps_once n (r + p) (omega arith) in
    let wrap_q = mod_wraps_once n (r + q) (omega arith) in
    grind (arith, wrap_p, wrap_q)

-- words of a block that is counted around the ring
pub word_around : (n w x i : ℕ) → ((x % n) * w + i) % (n * w) ≡ (x * w + i) % (n * w)
word_around n w x i =
    let whole : x ≡ x / n * n + x % n = omega arith in
    let parts : x * w + i ≡ ((x % n) * w + i) + (x / n) * (n * w) = ap (λ k. k * w + i) whole ∙ (omega arith) in
    sym (ap (λ k. k % (n * w)) parts ∙ add-mul-mod_self_right ((x % n) * w + i) (x / n) (n * w))

-- the block behind one
pub behind_next : (n x : ℕ) → 0 < n → behind n (x % n) ≡ (x + 1) % n
behind_next n x some = by (x % n == n - 1) refl
  where
    by : (b : Bool) → (x % n == n - 1) ≡ b → (if b then 0 else x % n + 1) ≡ (x + 1) % n
    by true last = let at : x % n ≡ n - 1 = eqb_eq (x % n) (n - 1) last in
        sym (sym (mod-add-mod x n 1) ∙ ap (λ k. k % n) (let e : x % n + 1 ≡ 0 + n = omega (arith, at, some) in e) ∙ add-mod_right 0 n ∙ mod-eq_of_lt some)
    by false other = let apart : x % n ≢ n - 1 = eqb_ne (x % n) (n - 1) other in
        sym (sym (mod-add-mod x n 1) ∙ mod-eq_of_lt (let low = mod_below x n some in omega (arith, apart, low)))

-- how far a block lies behind the next one falls as this moves on
pub distance_falls : (n next block : ℕ) → next < n → block < n → block ≢ next
    → (block + (n - next)) % n ≡ (block + (n - (next + 1) % n)) % n + 1
distance_falls n next block start below apart = elim (cases_lt (next + 1) n) [
  | inl more ↦
      let same : (next + 1) % n ≡ next + 1 = mod-eq_of_lt more in
      let one = mod_wraps_once n (block + (n - next)) (omega (arith, start, below)) in
      let two = mod_wraps_once n (block + (n - (next + 1))) (omega (arith, more, below)) in
      let D : ℕ → Type 0 = λ k. (block + (n - next)) % n ≡ (block + (n - k)) % n + 1 in
      subst D (sym same) (elim one [
        | inl a ↦ elim two [
          | inl b ↦ a.1 ∙ omega (arith, a, b, start, below, more, apart) ∙ ap (λ k. k + 1) (sym b.1)
          | inr b ↦ absurd (omega (arith, a.0, b.0, start, below, more, apart))
        ]
        | inr a ↦ elim two [
          | inl b ↦ absurd (omega (arith, a.0, b.0, start, below, more, apart))
          | inr b ↦ a.1 ∙ omega (arith, a.0, b.0, start, below, more, apart) ∙ ap (λ k. k + 1) (sym b.1)
        ]
      ])
  | inr last ↦
      let end : next + 1 ≡ n = omega (arith, start, last) in
      let zero' : (next + 1) % n ≡ 0 = ap (λ k. k % n) (let e : next + 1 ≡ 0 + n = omega (arith, end) in e) ∙ add-mod_right 0 n ∙ mod-eq_of_lt (let e : 0 < n = omega (arith, start) in e) in
      let D : ℕ → Type 0 = λ k. (block + (n - next)) % n ≡ (block + (n - k)) % n + 1 in
      let whole : (block + (n - 0)) % n ≡ block = ap (λ k. k % n) (let e : block + (n - 0) ≡ block + n = omega arith in e) ∙ add-mod_right block n ∙ mod-eq_of_lt below in
      subst D (sym zero') (mod-eq_of_lt (let e : block + (n - next) < n = omega (arith, below, end, apart) in e) ∙ (let e : block + (n - next) ≡ block + 1 = omega (arith, end) in e) ∙ ap (λ k. k + 1) (sym whole))
]
