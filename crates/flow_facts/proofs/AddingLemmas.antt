-- What isn't among others, and goes behind them.
use Rattle.std.proofs.Common.{◌≡◌, ◌≢◌, ℕ, zero, suc, ◌<◌, Bool, true, false, not, List, [], ◌∷◌, ◌++◌, length, get_or, refl, sym, ◌∙◌, ap, arith, inl, inr, ◌||◌, Option, Some, None}
use Rattle.std.specs.Prelude.{Contains, AllPairs, if◌then◌else◌}
use Rattle.std.specs.Bool.{Decides}
use Rattle.std.specs.List.{list_any}
use Rattle.std.proofs.lemmas.Bool.{cases_Bool, true≢false}
use Rattle.std.proofs.lemmas.List.Quantifiers.{all_pairs_push}
use Rattle.std.proofs.lemmas.Map.Views.{Contains-from_any}
use Rattle.indexmap.specs.IndexSet.{insert_key}
use Rattle.flow_facts.specs.Adding.{AddsNew, FindsOneThat}

false_by_not : (b : Bool) → true ≡ not b → b ≡ false
false_by_not true e = e
false_by_not false e = refl

true_by_not : (b : Bool) → false ≡ not b → b ≡ true
true_by_not true e = refl
true_by_not false e = e

module _ {X : Type 0} (eq : X → X → Bool) (same : (x y : X) → Decides (eq x y) (x ≡ y)) where
  any_at : (k : X) (ks : List X) (i : ℕ) → i < length ks → get_or ks i k ≡ k → list_any (eq k) ks ≡ true
  any_at k [] i lt e = absurd (omega arith)
  any_at k (x ∷ ks) zero lt e = ap (λ (t : Bool). t || list_any (eq k) ks) ((same k x).1 (sym e))
  any_at k (x ∷ ks) (suc i) lt e = elim (cases_Bool (eq k x)) [
    | inl t ↦ ap (λ (b : Bool). b || list_any (eq k) ks) t
    | inr f ↦ ap (λ (b : Bool). b || list_any (eq k) ks) f ∙ any_at k ks i (omega arith) e
  ]

  pub added : (ks more : List X) (k : X) (r : Bool) → more ≡ insert_key eq ks k → r ≡ not (list_any (eq k) ks) → AddsNew ks k more r
  added ks more k true e f =
      let none : list_any (eq k) ks ≡ false = false_by_not (list_any (eq k) ks) f in
      (λ there. true≢false (sym (any_at k ks there.0 there.1 there.2) ∙ none), e ∙ ap (λ (t : Bool). if t then ks else ks ++ k ∷ []) none)
  added ks more k false e f =
      let some : list_any (eq k) ks ≡ true = true_by_not (list_any (eq k) ks) f in
      (Contains-from_any (λ x y. (same x y).0) k ks some, e ∙ ap (λ (t : Bool). if t then ks else ks ++ k ∷ []) some)

-- an element doesn't depend on what stands for one that lacks
pub default_free : {X : Type 0} (xs : List X) (i : ℕ) (d e : X) → i < length xs → get_or xs i d ≡ get_or xs i e
default_free [] i d e lt = absurd (omega arith)
default_free (x ∷ xs) zero d e lt = refl
default_free (x ∷ xs) (suc i) d e lt = default_free xs i d e (omega arith)

pub still_apart : {X : Type 0} (xs : List X) (x : X) → AllPairs (λ a b. a ≢ b) xs → ¬ Contains xs x → AllPairs (λ a b. a ≢ b) (xs ++ x ∷ [])
still_apart xs x different none =
    all_pairs_push (λ a b. a ≢ b) xs x different (λ k d lt e. none (k, lt, default_free xs k x d lt ∙ e))

-- nothing is found
pub nothing_found : {X : Type 0} (Is : X → Type 0) (r : Option X) → r ≡ None → ((x : X) → ¬ Is x) → FindsOneThat Is r
nothing_found Is None e h = h
nothing_found Is (Some x) e h = absurd (cc)
