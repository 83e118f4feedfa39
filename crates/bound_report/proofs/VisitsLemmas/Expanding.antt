-- A walk in which each visit of a header is preceded by so many iterations of its loop.
use Rattle.std.proofs.Common.{◌≡◌, ℕ, zero, suc, ◌+◌, ◌*◌, Bool, true, false, cond, List, [], ◌∷◌, ◌++◌, append_assoc, Contains, refl, sym, ap, ◌∙◌, subst, arith, inl, inr, eqb}
use Rattle.std.specs.Prelude.{◌==◌, if◌then◌else◌, count_by, sum_by}
use Rattle.std.proofs.lemmas.Bool.{cases_Bool, eqb-true}
use Rattle.std.proofs.lemmas.List.Sums.{sum_by-append, sum_by-cons}
use Rattle.std.proofs.lemmas.List.Elements.{Contains-append_cases}
use Rattle.lists.specs.Members.{nil_contains}
use Rattle.loop_nest.specs.Digraph.{Digraph, Edge}
use Rattle.loop_nest.specs.Walks.{Walk, stay, along}

-- a list so many times
abbrev pub repeat : ℕ → List ℕ → List ℕ
repeat zero p = []
repeat (suc n) p = p ++ repeat n p

pub from_repeat : (n : ℕ) (p : List ℕ) (x : ℕ) → Contains (repeat n p) x → Contains p x
from_repeat zero p x c = absurd (nil_contains x c)
from_repeat (suc n) p x c = elim (Contains-append_cases p (repeat n p) x c) [ inl first ↦ first | inr later ↦ from_repeat n p x later ]

-- the iterations before a visit of the header h: n times p; none before other visits
abbrev pub block : (h : ℕ) (p : List ℕ) (n u : ℕ) → List ℕ
block h p n u = if u == h then repeat n p else []

abbrev pub expand : (h : ℕ) (p : List ℕ) (n : ℕ) → List ℕ → List ℕ
expand h p n [] = []
expand h p n (u ∷ us) = block h p n u ++ (u ∷ expand h p n us)

abbrev pub times : (h : ℕ) → List ℕ → ℕ
times h us = count_by (λ x. x == h) us

pub times-cons : (h u : ℕ) (us : List ℕ) → times h (u ∷ us) ≡ cond (u == h) 1 0 + times h us
times-cons h u us = sum_by-cons (λ x. cond (x == h) 1 0) u us

-- ---- sums

module _ (f : ℕ → ℕ) where
  sum_repeat : (n : ℕ) (p : List ℕ) → sum_by f (repeat n p) ≡ n * sum_by f p
  sum_repeat zero p = omega arith
  sum_repeat (suc n) p = sum_by-append f p (repeat n p) ∙ omega (arith, sum_repeat n p)

  one_more : (c m s r all block_sum f_u : ℕ) (t : Bool) → all ≡ block_sum + (f_u + r) → r ≡ s + c * m → block_sum ≡ cond t m 0 → all ≡ (f_u + s) + (cond t 1 0 + c) * m
  one_more c m s r all block_sum f_u true split rest here = omega arith
  one_more c m s r all block_sum f_u false split rest here = omega arith

  block_sum : (h : ℕ) (p : List ℕ) (n : ℕ) (t : Bool) → sum_by f (cond t (repeat n p) []) ≡ cond t (n * sum_by f p) 0
  block_sum h p n true = sum_repeat n p
  block_sum h p n false = refl

  pub sum_expand : (h : ℕ) (p : List ℕ) (n : ℕ) (us : List ℕ) → sum_by f (expand h p n us) ≡ sum_by f us + times h us * (n * sum_by f p)
  sum_expand h p n [] = omega arith
  sum_expand h p n (u ∷ us) =
      let split = sum_by-append f (block h p n u) (u ∷ expand h p n us) ∙ ap (λ (k : ℕ). sum_by f (block h p n u) + k) (sum_by-cons f u (expand h p n us)) in
      one_more (times h us) (n * sum_by f p) (sum_by f us) (sum_by f (expand h p n us)) _ (sum_by f (block h p n u)) (f u) (u == h) split (sum_expand h p n us) (block_sum h p n (u == h))
      ∙ sym (ap (λ (k : ℕ). k + (cond (u == h) 1 0 + times h us) * (n * sum_by f p)) (sum_by-cons f u us) ∙ ap (λ (k : ℕ). (f u + sum_by f us) + k * (n * sum_by f p)) refl)
      ∙ ap (λ (k : ℕ). sum_by f (u ∷ us) + k * (n * sum_by f p)) (sym (times-cons h u us))

-- ---- walks

module _ (g : Digraph) where
  pub joined : {u v w x : ℕ} {ns ms : List ℕ} → Walk g u v ns → Edge g v w → Walk g w x ms → Walk g u x (ns ++ ms)
  joined stay e t = along e t
  joined (along d s) e t = along d (joined s e t)

  module _ (h b : ℕ) (p : List ℕ) (iteration : Walk g h b p) (back : Edge g b h) where
    iterations : (n x : ℕ) (ms : List ℕ) → Walk g h x ms → Walk g h x (repeat n p ++ ms)
    iterations zero x ms t = t
    iterations (suc n) x ms t = subst (Walk g h x) (sym (append_assoc p (repeat n p) ms)) (joined iteration back (iterations n x ms t))

    in_front : (n u x : ℕ) (ms : List ℕ) → Walk g u x ms → Walk g u x (block h p n u ++ ms)
    in_front n u x ms t = elim (cases_Bool (eqb u h)) [
      | inl e ↦
          let same : u ≡ h = eqb-true u h e in
          let there : Walk g h x (repeat n p ++ ms) = iterations n x ms (subst (λ (z : ℕ). Walk g z x ms) same t) in
          subst (λ (t : Bool). Walk g u x (cond t (repeat n p) [] ++ ms)) (sym e) (subst (λ (z : ℕ). Walk g z x (repeat n p ++ ms)) (sym same) there)
      | inr e ↦ subst (λ (t : Bool). Walk g u x (cond t (repeat n p) [] ++ ms)) (sym e) t
    ]

    pub expanded : (n : ℕ) {u x : ℕ} {us : List ℕ} → Walk g u x us → Walk g u x (expand h p n us)
    expanded n (stay {u}) = in_front n u u (u ∷ []) stay
    expanded n (along {u} {v} {w} {ns} e t) = in_front n u w (u ∷ expand h p n ns) (along e (expanded n t))
