-- Least numbers, step by step, and what stands at a place of a list.
use Rattle.std.proofs.Common.{◌≡◌, ℕ, ◌+◌, ◌<◌, ◌⊎◌, List, get_or, min, Option, Some, None, ◌∙◌, subst, inl, inr, arith}
use Rattle.std.proofs.lemmas.Bool.{cases_lt}
use Rattle.std.proofs.lemmas.List.{get_or_default}
use Rattle.section_check.specs.Placing.{IsEntryAt}
use Rattle.section_check.specs.Least.{IsLeast, lesser_of, IsSubset}

-- what stands at a place
pub same_at : {X : Type 0} (xs : List X) (i : ℕ) (x r : X) → IsEntryAt xs i x → r ≡ get_or xs i r → r ≡ x
same_at xs i x r at is = is ∙ get_or_default xs i r x at.0 ∙ at.1

pub one_more : (k m : ℕ) (P : ℕ → Type 0) → ((n : ℕ) → n < k → P n) → P k → m < k + 1 → P m
one_more k m P before here lt =
    elim (cases_lt m k) [
      | inl less ↦ before m less
      | inr not_less ↦ let same : k ≡ m = omega arith in subst P same here
    ]

pub least_same : (P Q : ℕ → Type 0) (o : Option ℕ) → ((u : ℕ) → P u → Q u) → ((u : ℕ) → Q u → P u) → IsLeast P o → IsLeast Q o
least_same P Q None to from h = λ u q. h u (from u q)
least_same P Q (Some n) to from h = (to n h.0, λ u less q. h.1 u less (from u q))

-- the least number with one property or the other is the lesser of the least with each
pub least_either : (P Q R : ℕ → Type 0) (a b : Option ℕ) → ((u : ℕ) → P u → R u) → ((u : ℕ) → Q u → R u) → ((u : ℕ) → R u → P u ⊎ Q u) → IsLeast P a
    → IsLeast Q b → IsLeast R (lesser_of a b)
least_either P Q R None None p q cases ha hb = λ u r. elim (cases u r) [ inl x ↦ ha u x | inr y ↦ hb u y ]
least_either P Q R None (Some n) p q cases ha hb = (q n hb.0, λ u less r. elim (cases u r) [ inl x ↦ ha u x | inr y ↦ hb.1 u less y ])
least_either P Q R (Some m) None p q cases ha hb = (p m ha.0, λ u less r. elim (cases u r) [ inl x ↦ ha.1 u less x | inr y ↦ hb u y ])
least_either P Q R (Some m) (Some n) p q cases ha hb = (
  elim (cases_lt m n) [
    | inl less ↦ let e : m ≡ min m n = omega arith in subst R e (p m ha.0)
    | inr ge ↦ let e : n ≡ min m n = omega arith in subst R e (q n hb.0)
  ],
  λ u less r. elim (cases u r) [ inl x ↦ ha.1 u (omega arith) x | inr y ↦ hb.1 u (omega arith) y ],
)

pub within_as : (us vs ms ns : List ℕ) → us ≡ ms → vs ≡ ns → IsSubset us vs → IsSubset ms ns
within_as us vs ms ns a b h =
    let P : List ℕ → Type 0 = λ zs. IsSubset us zs in
    let Q : List ℕ → Type 0 = λ zs. IsSubset zs ns in
    subst Q a (subst P b h)
