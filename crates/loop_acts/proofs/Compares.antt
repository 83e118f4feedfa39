-- Values that compare with a limit, by how far they have moved.
use Rattle.std.proofs.Common.{◌≡◌, ◌≢◌, ◌↔◌, ℕ, zero, suc, ◌*◌, ◌≤◌, Bool, true, false, ℤ, pos, negsuc, ◌+ℤ◌, Option, refl, sym, ap₂, ◌∙◌, subst, arith}
use Rattle.std.specs.Prelude.{◌≤ℤ◌, ◌-ℤ◌, FitsSigned, int_lt, unsigned_abs}
use Rattle.std.specs.Int.{w32}
use Rattle.std.proofs.lemmas.Int.{ints}
use Rattle.code_scan.specs.declared.rows.Comparison.{Comparison}
use Rattle.code_scan.specs.declared.rows.Comparison.TheVariants.{Unequal, Less, Greater}
use Rattle.code_scan.specs.Rows.{test_of}
use Rattle.loop_acts.specs.Values.{value_by, IsMove, IsFirst}
use Rattle.loop_acts.proofs.Moving.{same_move}
use Rattle.loop_acts.proofs.Firsts.{value_up, value_down, first_is}

down_same : (first bound : ℤ) (d x : ℕ) → pos d ≡ first -ℤ bound → (d ≤ x) ↔ ((first -ℤ pos x) ≤ℤ bound)
down_same first bound d x e = (λ le. omega (arith, ints), λ le. omega (arith, ints))

pub below_move : (step room : ℕ) (first bound : ℤ) (up : Bool) (o : Option ℕ) → up ≡ false → (d : ℕ) → pos d ≡ first -ℤ bound → IsMove step room (λ x. d ≤ x) o → IsMove step room (λ x. value_by up first x ≤ℤ bound) o
below_move step room first bound up o down d e is =
    subst (λ (b : Bool). IsMove step room (λ x. value_by b first x ≤ℤ bound) o) (sym down) (same_move step room (λ x. d ≤ x) (λ x. value_by false first x ≤ℤ bound) (λ x. down_same first bound d x e) o is)

away_same : (first : ℤ) (up : Bool) (x : ℕ) → (x ≢ 0) ↔ (value_by up first x ≢ first)
away_same first true x = (λ other same. other (omega (arith, ints)), λ other same. other (omega (arith, ints)))
away_same first false x = (λ other same. other (omega (arith, ints)), λ other same. other (omega (arith, ints)))

pub away_move : (step room : ℕ) (first bound : ℤ) (up : Bool) (o : Option ℕ) → first ≡ bound → IsMove step room (λ x. x ≢ 0) o → IsMove step room (λ x. value_by up first x ≢ bound) o
away_move step room first bound up o same is =
    subst (λ (z : ℤ). IsMove step room (λ x. value_by up first x ≢ z) o) same (same_move step room (λ x. x ≢ 0) (λ x. value_by up first x ≢ first) (away_same first up) o is)

unequal_same : (z v : ℤ) → (v ≢ z) ↔ (test_of Unequal z v ≡ true)
unequal_same z v = (λ other. grind (arith, ints), λ is same. grind (arith, ints))

less_same : (z v : ℤ) → (v ≤ℤ (z -ℤ pos 1)) ↔ (test_of Less z v ≡ true)
less_same z v = (λ le. grind (arith, ints), λ is. grind (arith, ints))

greater_same : (z v : ℤ) → ((z +ℤ pos 1) ≤ℤ v) ↔ (test_of Greater z v ≡ true)
greater_same z v = (λ le. grind (arith, ints), λ is. grind (arith, ints))

pub unequal_move : (step room : ℕ) (v : ℕ → ℤ) (out : Comparison) (bound limit : ℤ) (o : Option ℕ) → out ≡ Unequal → bound ≡ limit → IsMove step room (λ x. v x ≢ bound) o → IsMove step room (λ x. test_of out limit (v x) ≡ true) o
unequal_move step room v out bound limit o is same h =
    subst (λ (c : Comparison). IsMove step room (λ x. test_of c limit (v x) ≡ true) o) (sym is)
    (same_move step room (λ x. v x ≢ limit) (λ x. test_of Unequal limit (v x) ≡ true) (λ x. unequal_same limit (v x)) o (subst (λ (z : ℤ). IsMove step room (λ x. v x ≢ z) o) same h))

pub less_move : (step room : ℕ) (v : ℕ → ℤ) (out : Comparison) (bound limit : ℤ) (o : Option ℕ) → out ≡ Less → bound ≡ limit -ℤ pos 1 → IsMove step room (λ x. v x ≤ℤ bound) o → IsMove step room (λ x. test_of out limit (v x) ≡ true) o
less_move step room v out bound limit o is same h =
    subst (λ (c : Comparison). IsMove step room (λ x. test_of c limit (v x) ≡ true) o) (sym is)
    (same_move step room (λ x. v x ≤ℤ (limit -ℤ pos 1)) (λ x. test_of Less limit (v x) ≡ true) (λ x. less_same limit (v x)) o (subst (λ (z : ℤ). IsMove step room (λ x. v x ≤ℤ z) o) same h))

pub greater_move : (step room : ℕ) (v : ℕ → ℤ) (out : Comparison) (bound limit : ℤ) (o : Option ℕ) → out ≡ Greater → bound ≡ limit +ℤ pos 1 → IsMove step room (λ x. bound ≤ℤ v x) o → IsMove step room (λ x. test_of out limit (v x) ≡ true) o
greater_move step room v out bound limit o is same h =
    subst (λ (c : Comparison). IsMove step room (λ x. test_of c limit (v x) ≡ true) o) (sym is)
    (same_move step room (λ x. (limit +ℤ pos 1) ≤ℤ v x) (λ x. test_of Greater limit (v x) ≡ true) (λ x. greater_same limit (v x)) o (subst (λ (z : ℤ). IsMove step room (λ x. z ≤ℤ v x) o) same h))

-- ---- by a step up or down

above_zero : (t : ℕ) → int_lt (pos 0) (pos (suc t)) ≡ true
above_zero t = grind (arith, ints)

pub by_step : (first s : ℤ) (up : Bool) (size room : ℕ) (out : ℤ → Bool) (o : Option ℕ) → s ≢ pos 0 → up ≡ int_lt (pos 0) s → size ≡ unsigned_abs s → ((x : ℕ) → FitsSigned w32 (value_by up first x) ↔ (x ≤ room))
    → IsMove size room (λ x. out (value_by up first x) ≡ true) o → IsFirst first s out o
by_step first (pos zero) up size room out o moves e f fits is = absurd (moves refl)
by_step first (pos (suc t)) up size room out o moves e f fits is =
    first_is first (pos (suc t)) up size room out (λ k. value_up first (suc t) k ∙ ap₂ (λ (b : Bool) (n : ℕ). value_by b first (k * n)) (sym (e ∙ above_zero t)) (sym f)) fits o is
by_step first (negsuc t) up size room out o moves e f fits is =
    first_is first (negsuc t) up size room out (λ k. value_down first t k ∙ ap₂ (λ (b : Bool) (n : ℕ). value_by b first (k * n)) (sym e) (sym f)) fits o is
