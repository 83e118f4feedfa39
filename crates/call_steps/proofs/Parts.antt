-- Parts of lists that rows in parts need, and of stalls.
use Rattle.std.proofs.Common.{◌≡◌, ℕ, zero, suc, ◌+◌, ◌≤◌, List, [], ◌∷◌, ◌++◌, length, refl, ap, arith}
use Rattle.micro_sketch.specs.Stands.{stalls}
pub use Rattle.call_steps.specs.Parts.{PartLaws, Low, registers, low_words, low_of, at, computed, followed_by, to_split}

-- so many words of a list, and four behind them
pub record Off (k : ℕ) (xs : List ℕ) : Type 0 where
  pub first : List ℕ
  pub a : ℕ
  pub b : ℕ
  pub c : ℕ
  pub d : ℕ
  pub rest : List ℕ
  pub same : xs ≡ first ++ (a ∷ b ∷ c ∷ d ∷ rest)
  pub count : length first ≡ k

pub off : (k : ℕ) (xs : List ℕ) → k + 4 ≤ length xs → Off k xs
off zero (a ∷ b ∷ c ∷ d ∷ rest) h = record { first = []; a = a; b = b; c = c; d = d; rest = rest; same = refl; count = refl }
off zero xs h = absurd (omega arith)
off (suc k) [] h = absurd (omega arith)
off (suc k) (x ∷ xs) h =
    let o = off k xs (omega arith) in
    record { first = x ∷ o.first; a = o.a; b = o.b; c = o.c; d = o.d; rest = o.rest; same = ap (λ (ys : List ℕ). x ∷ ys) o.same; count = ap (λ (i : ℕ). suc i) o.count }

-- the two last words of a list
pub record Last (xs : List ℕ) : Type 0 where
  pub first : List ℕ
  pub a : ℕ
  pub b : ℕ
  pub same : xs ≡ first ++ (a ∷ b ∷ [])

pub last_two : (xs : List ℕ) → 2 ≤ length xs → Last xs
last_two [] h = absurd (omega arith)
last_two (a ∷ []) h = absurd (omega arith)
last_two (a ∷ b ∷ []) h = record { first = []; a = a; b = b; same = refl }
last_two (x ∷ a ∷ b ∷ xs) h =
    let l = last_two (a ∷ b ∷ xs) (omega arith) in
    record { first = x ∷ l.first; a = l.a; b = l.b; same = ap (λ (ys : List ℕ). x ∷ ys) l.same }
