-- Lines that were worked out by hand.
use Rattle.std.proofs.Common.{◌≡◌, ◌⊎◌, ℕ, zero, suc, pos, negsuc, List, [], ◌∷◌, Contains, Some, None, refl, sym, ap, ◌∙◌, subst, inl, inr, arith}
use Rattle.std.proofs.lemmas.Int.{ints}
use Rattle.opcodes.specs.Instruction.{decoded}
use Rattle.opcodes.specs.Row as opcodes
use Rattle.opcodes.specs.Start.{starts_of}
use Rattle.lists.proofs.Lemmas.{some_same}
use Rattle.lists.specs.Members.{at_head, cons_cases, nil_contains}
use Rattle.bytecode_model.specs.declared.Value.TheVariants.{Int}
use Rattle.bytecode_model.specs.Types.{IntType, Numbers}
use Rattle.bytecode_model.specs.Program.{Handler}
use Rattle.bytecode_model.specs.Rows as rows
use Rattle.bytecode_model.specs.Rows.{Row, Drop, One, Zero}
use Rattle.bytecode_model.specs.Table.{row_of}
use Rattle.bytecode_model.specs.Steps.{row_in}
use Rattle.code_lines.specs.Lines.{IsLine, Names, IsNamed, IsNeverPut}
use Rattle.code_lines.specs.Examples.{WorkedExamples, WorkedLines, WorkedWrites, catch_all, sample}

abbrev starts : List ℕ
starts = 0 ∷ 1 ∷ 2 ∷ 5 ∷ 8 ∷ 9 ∷ 11 ∷ 12 ∷ []

-- the lines of the sample's method
abbrev IsOne : ℕ → ℕ → Row → Type 0
IsOne p next r = row_in sample 0 p ≡ Some (next, r)

at_0 : IsOne 0 1 (rows.Push (Int (pos 5)))
unfolding decoded opcodes.row_of row_of
at_0 = refl

at_1 : IsOne 1 2 (rows.Store (Numbers IntType) 1)
unfolding decoded opcodes.row_of row_of
at_1 = refl

at_2 : IsOne 2 5 (rows.Increment 1 (negsuc 0))
unfolding decoded opcodes.row_of row_of
at_2 = refl

at_5 : IsOne 5 8 (rows.Jump (negsuc 2))
unfolding decoded opcodes.row_of row_of
at_5 = refl

at_8 : IsOne 8 9 (rows.Shuffle Drop One Zero)
unfolding decoded opcodes.row_of row_of
at_8 = refl

at_9 : IsOne 9 11 (rows.Push (Int (pos 7)))
unfolding decoded opcodes.row_of row_of
at_9 = refl

at_11 : IsOne 11 12 (rows.Store (Numbers IntType) 1)
unfolding decoded opcodes.row_of row_of
at_11 = refl

at_12 : IsOne 12 13 (rows.Return None)
unfolding decoded opcodes.row_of row_of
at_12 = refl

line_at : (p next : ℕ) (r : Row) → Contains starts p → IsOne p next r → IsLine sample 0 p next r
unfolding starts_of decoded opcodes.row_of
line_at p next r c is = record { start = c; is = is }

start_of : (p next : ℕ) (r : Row) → IsLine sample 0 p next r → Contains starts p
unfolding starts_of decoded opcodes.row_of
start_of p next r h = h.start

-- what holds of each of them
module _ (K : ℕ → Row → Type 0) (k0 : K 0 (rows.Push (Int (pos 5)))) (k1 : K 1 (rows.Store (Numbers IntType) 1)) (k2 : K 2 (rows.Increment 1 (negsuc 0))) (k5 : K 5 (rows.Jump (negsuc 2)))
    (k8 : K 8 (rows.Shuffle Drop One Zero)) (k9 : K 9 (rows.Push (Int (pos 7)))) (k11 : K 11 (rows.Store (Numbers IntType) 1)) (k12 : K 12 (rows.Return None)) where
  by_row : (q p next there : ℕ) (r s : Row) → q ≡ p → IsLine sample 0 p next r → IsOne q there s → K q s → K p r
  by_row q p next there r s same h is k =
      let pair : (there, s) ≡ (next, r) = some_same (there, s) (next, r) (sym is ∙ (ap (row_in sample 0) same ∙ h.is)) in
      let at : K p s = subst (λ (x : ℕ). K x s) same k in
      subst (K p) (ap (λ (x : ℕ × Row). x.1) pair) at

  each : (p next : ℕ) (r : Row) → IsLine sample 0 p next r → K p r
  each p next r h = by_0 (cons_cases 0 p (1 ∷ 2 ∷ 5 ∷ 8 ∷ 9 ∷ 11 ∷ 12 ∷ []) (start_of p next r h))
    where
      by_12 : (12 ≡ p) ⊎ Contains [] p → K p r
      by_12 (inl e) = by_row 12 p next 13 r (rows.Return None) e h at_12 k12
      by_12 (inr c) = absurd (nil_contains p c)

      by_11 : (11 ≡ p) ⊎ Contains (12 ∷ []) p → K p r
      by_11 (inl e) = by_row 11 p next 12 r (rows.Store (Numbers IntType) 1) e h at_11 k11
      by_11 (inr c) = by_12 (cons_cases 12 p [] c)

      by_9 : (9 ≡ p) ⊎ Contains (11 ∷ 12 ∷ []) p → K p r
      by_9 (inl e) = by_row 9 p next 11 r (rows.Push (Int (pos 7))) e h at_9 k9
      by_9 (inr c) = by_11 (cons_cases 11 p (12 ∷ []) c)

      by_8 : (8 ≡ p) ⊎ Contains (9 ∷ 11 ∷ 12 ∷ []) p → K p r
      by_8 (inl e) = by_row 8 p next 9 r (rows.Shuffle Drop One Zero) e h at_8 k8
      by_8 (inr c) = by_9 (cons_cases 9 p (11 ∷ 12 ∷ []) c)

      by_5 : (5 ≡ p) ⊎ Contains (8 ∷ 9 ∷ 11 ∷ 12 ∷ []) p → K p r
      by_5 (inl e) = by_row 5 p next 8 r (rows.Jump (negsuc 2)) e h at_5 k5
      by_5 (inr c) = by_8 (cons_cases 8 p (9 ∷ 11 ∷ 12 ∷ []) c)

      by_2 : (2 ≡ p) ⊎ Contains (5 ∷ 8 ∷ 9 ∷ 11 ∷ 12 ∷ []) p → K p r
      by_2 (inl e) = by_row 2 p next 5 r (rows.Increment 1 (negsuc 0)) e h at_2 k2
      by_2 (inr c) = by_5 (cons_cases 5 p (8 ∷ 9 ∷ 11 ∷ 12 ∷ []) c)

      by_1 : (1 ≡ p) ⊎ Contains (2 ∷ 5 ∷ 8 ∷ 9 ∷ 11 ∷ 12 ∷ []) p → K p r
      by_1 (inl e) = by_row 1 p next 2 r (rows.Store (Numbers IntType) 1) e h at_1 k1
      by_1 (inr c) = by_2 (cons_cases 2 p (5 ∷ 8 ∷ 9 ∷ 11 ∷ 12 ∷ []) c)

      by_0 : (0 ≡ p) ⊎ Contains (1 ∷ 2 ∷ 5 ∷ 8 ∷ 9 ∷ 11 ∷ 12 ∷ []) p → K p r
      by_0 (inl e) = by_row 0 p next 1 r (rows.Push (Int (pos 5))) e h at_0 k0
      by_0 (inr c) = by_1 (cons_cases 1 p (2 ∷ 5 ∷ 8 ∷ 9 ∷ 11 ∷ 12 ∷ []) c)

two : (q : ℕ) → pos 2 ≡ pos q → 2 ≡ q
two q e = omega (arith, ints)

-- the places that are named are 2 and 8
named_are : (q : ℕ) → IsNamed sample 0 q → (2 ≡ q) ⊎ (8 ≡ q)
named_are q (inl (p, next, r, line, names)) =
    let K : ℕ → Row → Type 0 = λ x s. Names x s q → 2 ≡ q in
    inl (each K (λ n. absurd n) (λ n. absurd n) (λ n. absurd n) (λ n. two q n) (λ n. absurd n) (λ n. absurd n) (λ n. absurd n) (λ n. absurd n) p next r line names)
named_are q (inr (h, among, target)) =
    elim (cons_cases catch_all h [] among) [
      | inl same ↦ inr (ap (λ (x : Handler). x.target) same ∙ target)
      | inr there ↦ absurd (nil_contains h there)
    ]

none_else : (q : ℕ) → (2 ≡ q → ⊥) → (8 ≡ q → ⊥) → IsNamed sample 0 q → ⊥
none_else q a b n = elim (named_are q n) [ inl e ↦ a e | inr e ↦ b e ]

in_first : (m p next : ℕ) (r : Row) → IsLine sample m p next r → 0 ≡ m
in_first zero p next r h = refl
in_first (suc m) p next r h = absurd h.start

is_put : Row → ℕ
is_put (rows.PutStatic f) = 1
is_put r = 0

never_put : IsNeverPut sample 0
unfolding is_put
never_put m p next h =
    let K : ℕ → Row → Type 0 = λ x s. s ≡ rows.PutStatic 0 → ⊥ in
    let other : (s : Row) → is_put s ≡ 0 → s ≡ rows.PutStatic 0 → ⊥ = λ s none e. let one = ap is_put e in omega arith in
    let line : IsLine sample 0 p next (rows.PutStatic 0) = subst (λ (x : ℕ). IsLine sample x p next (rows.PutStatic 0)) (sym (in_first m p next (rows.PutStatic 0) h)) h in
    each K (other _ refl) (other _ refl) (other _ refl) (other _ refl) (other _ refl) (other _ refl) (other _ refl) (other _ refl) p next (rows.PutStatic 0) line refl

lines : WorkedLines
lines = record {
  push = line_at 0 1 (rows.Push (Int (pos 5))) (0, omega arith, refl) at_0;
  step = line_at 2 5 (rows.Increment 1 (negsuc 0)) (2, omega arith, refl) at_2;
  within = λ next r h. each (λ p s. p ≡ 10 → ⊥) (λ e. omega arith) (λ e. omega arith) (λ e. omega arith) (λ e. omega arith) (λ e. omega arith) (λ e. omega arith) (λ e. omega arith) (λ e. omega arith) 10 next r h refl;
  jump = refl;
  by_jump = inl (5, 8, rows.Jump (negsuc 2), line_at 5 8 (rows.Jump (negsuc 2)) (3, omega arith, refl) at_5, refl);
  by_handler = inr (catch_all, at_head catch_all [], refl);
  first = record { before = 0; push = line_at 0 1 (rows.Push (Int (pos 5))) (0, omega arith, refl) at_0; alone = none_else 1 (λ e. omega arith) (λ e. omega arith) };
  behind_handler = record { before = 9; push = line_at 9 11 (rows.Push (Int (pos 7))) (5, omega arith, refl) at_9; alone = none_else 11 (λ e. omega arith) (λ e. omega arith) };
  store = (2, rows.Store (Numbers IntType) 1, line_at 1 2 (rows.Store (Numbers IntType) 1) (1, omega arith, refl) at_1, at_head 1 []);
  never = never_put;
}

writes : WorkedWrites
writes = record { int = refl; long = refl; reference = refl; increment = refl; load = refl }

pub worked : WorkedExamples
worked = record { lines = lines; writes = writes }
