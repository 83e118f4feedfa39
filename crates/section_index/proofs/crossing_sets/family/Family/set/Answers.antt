use Rattle.std.proofs.Common.{◌≡◌, ℕ, ◌<◌, List, [], length, get_or, map, Vec, Global, sym, ap, ◌∙◌, subst, arith}
use Rattle.std.specs.Prelude.{All}
use Rattle.std.specs.List.Sorted.{IsStrictlyIncreasing}
use Rattle.std.proofs.lemmas.List.{get_or-map, length-map}
use Rattle.std.proofs.lemmas.List.Elements.{All-get_or}
use Rattle.section_index.proofs.crossing_sets.family.Family.set.Goals as goal

module _ (xs : List (Vec ℕ Global)) (ss : List (List ℕ)) (view : map (λ (v : Vec ℕ Global). v.items) xs ≡ ss) (i : ℕ) (lt : i < length ss) (r : Vec ℕ Global) (is : r ≡ get_or xs i r) (ns : List ℕ) (same : ns ≡ r.items) where
  number_of : i < length xs
  number_of = let long = length-map xs (λ (v : Vec ℕ Global). v.items) in let e = ap length view in omega arith

  set_is : ns ≡ get_or (map (λ (v : Vec ℕ Global). v.items) xs) i []
  set_is = same ∙ ap (λ (v : Vec ℕ Global). v.items) is ∙ sym (get_or-map (λ (v : Vec ℕ Global). v.items) xs i r [] number_of)

  holds : (P : List ℕ → Type 0) → All P (map (λ (v : Vec ℕ Global). v.items) xs) → P ns
  holds P all = let below = number_of in let long = length-map xs (λ (v : Vec ℕ Global). v.items) in subst P (sym set_is) (All-get_or P (map (λ (v : Vec ℕ Global). v.items) xs) i [] (omega arith) all)

pub returns-clause-rising : goal.returns-clause-rising
returns-clause-rising c = holds c.self.inside.sets.items c.args.self.now.sets (ap (λ s. s.sets) c.self.view_is) c.args.i c.requires c.index.result.now c.index.ensures c.as_slice.result.now c.as_slice.ensures.value IsStrictlyIncreasing c.self.invariant.rising

pub returns-clause-below : goal.returns-clause-below
returns-clause-below c =
    let n = c.self.inside.size in
    let same : n ≡ c.args.self.now.size = ap (λ s. s.size) c.self.view_is in
    let P : ℕ → Type 0 = λ k. All (λ x. x < k) c.as_slice.result.now in
    subst P same
    (holds c.self.inside.sets.items c.args.self.now.sets (ap (λ s. s.sets) c.self.view_is) c.args.i c.requires c.index.result.now c.index.ensures c.as_slice.result.now c.as_slice.ensures.value (λ s. All (λ x. x < n) s) c.self.invariant.below)
