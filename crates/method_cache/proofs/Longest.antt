-- What fits is the longest prefix that does.
use Rattle.std.proofs.Common.{◌≡◌, ℕ, zero, suc, ◌-◌, ◌≤◌, List, [], ◌∷◌, length, take, refl, subst, sym, ap, inl, inr, arith}
use Rattle.std.proofs.lemmas.Bool.{cases_lt}
use Rattle.method_cache.specs.Contents.{Entry, blocks_of, total_blocks, fitting}
use Rattle.method_cache.specs.Laws.{IsLongestFitting}
use Rattle.method_cache.proofs.Fitting.{fitting-fits, fitting-full, total_blocks-fitting}

prefix : (w room : ℕ) (all : List Entry) → fitting w room all ≡ take (length (fitting w room all)) all
prefix w room [] = refl
prefix w room (e ∷ es) =
    let P : List Entry → Type 0 = λ fs. fs ≡ take (length fs) (e ∷ es) in
    elim (cases_lt room (blocks_of w e)) [
      | inl full ↦ subst P (sym (fitting-full w room e es full)) refl
      | inr fits ↦ subst P (sym (fitting-fits w room e es fits)) (ap (λ (fs : List Entry). e ∷ fs) (prefix w (room - blocks_of w e) es))
    ]

longest : (w room : ℕ) (all : List Entry) (k : ℕ) → k ≤ length all → total_blocks w (take k all) ≤ room → k ≤ length (fitting w room all)
longest w room all zero le fits = omega arith
longest w room [] (suc k) le fits = le
longest w room (e ∷ es) (suc k) le fits =
    let P : List Entry → Type 0 = λ fs. suc k ≤ length fs in
    elim (cases_lt room (blocks_of w e)) [
      | inl full ↦ absurd (omega arith)
      | inr has_room ↦
          subst P (sym (fitting-fits w room e es has_room)) (omega (arith, longest w (room - blocks_of w e) es k (omega arith) (omega arith)))
    ]

pub fitting-longest : (w room : ℕ) (all : List Entry) → IsLongestFitting w room all (fitting w room all)
fitting-longest w room all = record {
  prefix = prefix w room all;
  fits = total_blocks-fitting w room all;
  longest = longest w room all;
}
