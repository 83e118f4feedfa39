-- The conditions of branches.
use Rattle.std.proofs.Common.{◌≡◌, ℕ, ◌+◌, ◌-◌, ◌/◌, ◌%◌, ◌^◌, ◌<◌, Bool, true, false, List, [], ◌∷◌, if◌then◌else◌, ◌∙◌, refl, sym, ap, nat_lt, arith, ltb-true, ltb-false}
use Rattle.std.specs.Prelude.{◌==◌, ◌&&◌, ◌||◌, not}
use Rattle.std.specs.List.{list_any}
use Rattle.std.proofs.lemmas.Bool.{eq-eqb, ne_eqb, lt-ltb}
use Rattle.base.specs.Signed.{is_negative, signed_lt}
use Rattle.netlist.specs.Meaning.{bit_of}
use Rattle.circuit_core.proofs.Acting.{some}
use Rattle.circuit_code.specs.Taking.{by_opcode, holds_on_a, holds_on_both}

pub sign_bit : {r : ℕ} (a : ℕ) → a < 2 ^ 32 → r ≡ a / 2 ^ 31 % 2 ^ 1 → r ≡ bit_of (is_negative a)
sign_bit {r} a fits e = e ∙ by (is_negative a) refl
  where
    by : (t : Bool) → nat_lt (2 ^ 31 - 1) a ≡ t → a / 2 ^ 31 % 2 ^ 1 ≡ bit_of t
    by true h = let less = ltb-true (2 ^ 31 - 1) a h in omega (arith, fits, less)
    by false h = let most = ltb-false (2 ^ 31 - 1) a h in omega (arith, most)

not_negative : (a : ℕ) → not (is_negative a) ≡ nat_lt a (2 ^ 31)
not_negative a = by (is_negative a) refl
  where
    by : (t : Bool) → nat_lt (2 ^ 31 - 1) a ≡ t → not t ≡ nat_lt a (2 ^ 31)
    by true h = let less = ltb-true (2 ^ 31 - 1) a h in at (nat_lt a (2 ^ 31)) refl less
      where
        at : (u : Bool) → nat_lt a (2 ^ 31) ≡ u → 2 ^ 31 - 1 < a → false ≡ u
        at true g less = let small = ltb-true a (2 ^ 31) g in absurd (omega (arith, small, less))
        at false g less = refl
    by false h = let most = ltb-false (2 ^ 31 - 1) a h in sym (lt-ltb a (2 ^ 31) (omega (arith, most)))

neither : (p q : Bool) → not (p || q) ≡ (not p && not q)
neither true q = refl
neither false q = refl

positive : (a : ℕ) → not (a == 0 || is_negative a) ≡ (nat_lt 0 a && nat_lt a (2 ^ 31))
positive a = neither (a == 0) (is_negative a) ∙ ap (λ t. t && not (is_negative a)) (some a) ∙ ap (λ t. nat_lt 0 a && t) (not_negative a)

unlike : (b a : ℕ) → not (b == a) ≡ (nat_lt b a || nat_lt a b)
unlike b a = by (nat_lt b a) (nat_lt a b) refl refl
  where
    by : (s t : Bool) → nat_lt b a ≡ s → nat_lt a b ≡ t → not (b == a) ≡ (s || t)
    by true t g h = let less = ltb-true b a g in ap not (ne_eqb b a (omega (arith, less)))
    by false true g h = let more = ltb-true a b h in ap not (ne_eqb b a (omega (arith, more)))
    by false false g h = let le = ltb-false b a g in let ge = ltb-false a b h in ap not (eq-eqb b a (omega (arith, le, ge)))

contrary : (p : Bool) → not p ≡ (if p then false else true)
contrary true = refl
contrary false = refl

last : (p : Bool) → (p || false) ≡ p
last true = refl
last false = refl

two : (p q : Bool) → (p || (q || false)) ≡ (p || q)
two p q = ap (λ t. p || t) (last q)

bits : (p u v : Bool) → (if p then bit_of u else bit_of v) ≡ bit_of (if p then u else v)
bits true u v = refl
bits false u v = refl

-- a step by an opcode, or by one of two
step : {r op x y : ℕ} (codes : List ℕ) (opcode : ℕ) (p u v : Bool) → r ≡ by_opcode codes op x y → op ≡ opcode
    → list_any (λ code. opcode == code) codes ≡ p → x ≡ bit_of u → y ≡ bit_of v → r ≡ bit_of (if p then u else v)
step {r} {op} {x} {y} codes opcode p u v e o same hx hy =
    e ∙ ap (λ k. by_opcode codes k x y) o ∙ ap (λ t. if t then x else y) same ∙ ap (λ n. if p then n else y) hx ∙ ap (λ n. if p then bit_of u else n) hy ∙ bits p u v

pub on_a : {r h5 h4 h3 h2 h1 op zero not_zero neg not_neg pos least other : ℕ} (opcode a : ℕ) (rest : Bool) → a < 2 ^ 32
    → r ≡ by_opcode (153 ∷ 198 ∷ []) op zero h5 → h5 ≡ by_opcode (154 ∷ 199 ∷ []) op not_zero h4 → h4 ≡ by_opcode (155 ∷ []) op neg h3
    → h3 ≡ by_opcode (156 ∷ []) op not_neg h2 → h2 ≡ by_opcode (157 ∷ []) op pos h1 → h1 ≡ by_opcode (158 ∷ []) op least other → op ≡ opcode
    → zero ≡ bit_of (a == 0) → not_zero ≡ bit_of (not (a == 0)) → neg ≡ bit_of (is_negative a) → not_neg ≡ bit_of (not (is_negative a))
    → pos ≡ bit_of (not (a == 0 || is_negative a)) → least ≡ bit_of (a == 0 || is_negative a) → other ≡ bit_of rest
    → r ≡ bit_of (holds_on_a opcode a rest)
on_a opcode a rest fits e e5 e4 e3 e2 e1 o z nz n nn p l h =
    step (153 ∷ 198 ∷ []) opcode (opcode == 153 || opcode == 198) (a == 0) _ e o (two (opcode == 153) (opcode == 198)) z
    (step (154 ∷ 199 ∷ []) opcode (opcode == 154 || opcode == 199) (nat_lt 0 a) _ e5 o (two (opcode == 154) (opcode == 199)) (nz ∙ ap bit_of (some a))
    (step (155 ∷ []) opcode (opcode == 155) (is_negative a) _ e4 o (last (opcode == 155)) n
    (step (156 ∷ []) opcode (opcode == 156) (nat_lt a (2 ^ 31)) _ e3 o (last (opcode == 156)) (nn ∙ ap bit_of (not_negative a))
    (step (157 ∷ []) opcode (opcode == 157) (nat_lt 0 a && nat_lt a (2 ^ 31)) _ e2 o (last (opcode == 157)) (p ∙ ap bit_of (positive a))
    (step (158 ∷ []) opcode (opcode == 158) (a == 0 || is_negative a) rest e1 o (last (opcode == 158)) l h)))))

pub on_both : {r h5 h4 h3 h2 h1 op equal unlike less at_least greater at_most other : ℕ} (opcode b a : ℕ)
    → r ≡ by_opcode (159 ∷ 165 ∷ []) op equal h5 → h5 ≡ by_opcode (160 ∷ 166 ∷ []) op unlike h4 → h4 ≡ by_opcode (161 ∷ []) op less h3
    → h3 ≡ by_opcode (162 ∷ []) op at_least h2 → h2 ≡ by_opcode (163 ∷ []) op greater h1 → h1 ≡ by_opcode (164 ∷ []) op at_most other → op ≡ opcode
    → equal ≡ bit_of (b == a) → unlike ≡ bit_of (not (b == a)) → less ≡ bit_of (signed_lt b a) → at_least ≡ bit_of (not (signed_lt b a))
    → greater ≡ bit_of (signed_lt a b) → at_most ≡ bit_of (not (signed_lt a b)) → other ≡ 0 → r ≡ bit_of (holds_on_both opcode b a)
on_both opcode b a e e5 e4 e3 e2 e1 o eq ne l al g am z =
    step (159 ∷ 165 ∷ []) opcode (opcode == 159 || opcode == 165) (b == a) _ e o (two (opcode == 159) (opcode == 165)) eq
    (step (160 ∷ 166 ∷ []) opcode (opcode == 160 || opcode == 166) (nat_lt b a || nat_lt a b) _ e5 o (two (opcode == 160) (opcode == 166)) (ne ∙ ap bit_of (unlike b a))
    (step (161 ∷ []) opcode (opcode == 161) (signed_lt b a) _ e4 o (last (opcode == 161)) l
    (step (162 ∷ []) opcode (opcode == 162) (if signed_lt b a then false else true) _ e3 o (last (opcode == 162)) (al ∙ ap bit_of (contrary (signed_lt b a)))
    (step (163 ∷ []) opcode (opcode == 163) (signed_lt a b) _ e2 o (last (opcode == 163)) g
    (step (164 ∷ []) opcode (opcode == 164) (if signed_lt a b then false else true) false e1 o (last (opcode == 164)) (am ∙ ap bit_of (contrary (signed_lt a b))) z)))))

-- where a branch goes
pub going : {r m o j p w v : ℕ} (jpc operand : ℕ) → r ≡ (m + o) % 2 ^ w → m ≡ (j + (2 ^ v - 3)) % 2 ^ v → o ≡ p / 2 ^ 0 % 2 ^ 16 → w ≡ 16 → v ≡ 16
    → j ≡ jpc → p ≡ operand → r ≡ (jpc + (2 ^ 16 - 3) + operand % 2 ^ 16) % 2 ^ 16
going {r} {m} {o} {j} {p} {w} {v} jpc operand e em eo ew ev ej ep =
    let whole : p / 2 ^ 0 ≡ p = omega arith in
    let offset : o ≡ operand % 2 ^ 16 = eo ∙ ap (λ n. n % 2 ^ 16) whole ∙ ap (λ n. n % 2 ^ 16) ep in
    let place : m ≡ (jpc + (2 ^ 16 - 3)) % 2 ^ 16 = em ∙ ap (λ k. (j + (2 ^ k - 3)) % 2 ^ k) ev ∙ ap (λ n. (n + (2 ^ 16 - 3)) % 2 ^ 16) ej in
    let sum : ((jpc + (2 ^ 16 - 3)) % 2 ^ 16 + operand % 2 ^ 16) % 2 ^ 16 ≡ (jpc + (2 ^ 16 - 3) + operand % 2 ^ 16) % 2 ^ 16 = omega arith in
    e ∙ ap (λ k. (m + o) % 2 ^ k) ew ∙ ap (λ n. (n + o) % 2 ^ 16) place ∙ ap (λ n. ((jpc + (2 ^ 16 - 3)) % 2 ^ 16 + n) % 2 ^ 16) offset ∙ sum
