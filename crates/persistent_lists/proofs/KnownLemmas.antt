-- Pairs of trees of which a test passes wherever they differ.
use Rattle.std.proofs.Common.{◌≡◌, ℕ, zero, suc, ◌≤◌, ◌^◌, Bool, true, List, [], ◌∷◌, All, inl, inr, sym, ◌∙◌, subst, arith}
use Rattle.std.specs.Prelude.{IsTrue, Decides}
use Rattle.std.specs.List.{Contains, list_any}
use Rattle.std.proofs.lemmas.Map.Views.{Contains-from_any}
use Rattle.std.proofs.lemmas.List.{map-append}
use Rattle.std.proofs.lemmas.List.Elements.{All-append, All-contains}
use Rattle.std.proofs.lemmas.Option.{slice_get_within}
use Rattle.persistent_lists.specs.Answers.{AreAnswered, PassesOn}
use Rattle.persistent_lists.specs.Trees.{items}
use Rattle.persistent_lists.specs.Known.{items_of, all_items, AreTrees, AllPass, IsGrown}
use Rattle.persistent_lists.specs.declared.known.TreePair.{TreePair}
use Rattle.persistent_lists.specs.declared.trees.Difference.{Difference}
use Rattle.persistent_lists.proofs.TreeLemmas.{length-items}

-- what a set finds is in it
pub found : (eq : TreePair → TreePair → Bool) → ((x y : TreePair) → Decides (eq x y) (x ≡ y)) → (k : TreePair) (ks : List TreePair) (r : Bool) → r ≡ list_any (eq k) ks → IsTrue r → Contains ks k
found eq decides k ks r e h = Contains-from_any (λ x y is. (decides x y).0 is) k ks (sym e ∙ h)

module _ (answers : Difference → Bool → Type 0) (ps : List (ℕ × ℕ)) where
  one_passes : (ks : List TreePair) (k : TreePair) → All (PassesOn answers) (all_items ps ks) → Contains ks k → PassesOn answers (items_of ps k)
  one_passes ks k all here = All-contains (λ j. PassesOn answers (items_of ps j)) ks k (each ks all) here
    where
      each : (ks : List TreePair) → All (PassesOn answers) (all_items ps ks) → All (λ j. PassesOn answers (items_of ps j)) ks
      each [] all n d lt = absurd (omega (arith, lt))
      each (k ∷ ks) all zero d lt = all 0 (items_of ps k) (omega arith)
      each (k ∷ ks) all (suc n) d lt = each ks (λ m e less. all (suc m) e (omega (arith, less))) n d (omega (arith, lt))

  -- a pair that is remembered passes
  pub remembered_answered : (ks : List TreePair) (k : TreePair) (width : ℕ) → AllPass answers ps ks → Contains ks k → AreAnswered answers width (items ps k.height k.first) (items ps k.height k.second) true
  remembered_answered ks k width all here = λ i x y under gx gy. one_passes ks k all.passes here i x y gx gy

  none : {A : Type 0} (P : A → Type 0) → All P []
  none P n d lt = absurd (omega (arith, lt))

  one : {A : Type 0} (P : A → Type 0) (x : A) → P x → All P (x ∷ [])
  one P x h zero d lt = h
  one P x h (suc n) d lt = absurd (omega (arith, lt))

  all_answered : (k : TreePair) (width : ℕ) → 2 ^ k.height ≤ width → AreAnswered answers width (items ps k.height k.first) (items ps k.height k.second) true → PassesOn answers (items_of ps k)
  all_answered k width room answered = λ i x y gx gy.
      answered i x y (omega (arith, room, slice_get_within (items ps k.height k.first) i x gx, length-items ps k.height k.first)) gx gy

  -- so all do where one that passed was added
  pub grown_pass : (old new : List TreePair) (k : TreePair) (width : ℕ) → AllPass answers ps old → AreTrees ps k → AreAnswered answers width (items ps k.height k.first) (items ps k.height k.second) true
      → IsGrown old k (2 ^ k.height ≤ width) new → AllPass answers ps new
  grown_pass old new k width all trees answered (inl e) = subst (λ l. AllPass answers ps l) (sym e) all
  grown_pass old new k width all trees answered (inr (inr e)) = subst (λ l. AllPass answers ps l) (sym e) (record { trees = none (AreTrees ps); passes = none (PassesOn answers) })
  grown_pass old new k width all trees answered (inr (inl grown)) = subst (λ l. AllPass answers ps l) (sym grown.1) (record {
    trees = All-append (AreTrees ps) old (k ∷ []) all.trees (one (AreTrees ps) k trees);
    passes =
        subst (λ l. All (PassesOn answers) l) (sym (map-append (items_of ps) old (k ∷ [])))
        (All-append (PassesOn answers) (all_items ps old) (items_of ps k ∷ []) all.passes (one (PassesOn answers) (items_of ps k) (all_answered k width grown.0 answered)));
  })
