-- The test of keys decides which keys are the same, and look-ups by it are those of the index.
use Rattle.std.proofs.Common.{◌≡◌, ℕ, ◌<◌, Bool, true, List, [], ◌∷◌, length, get_or, Option, Some, refl, sym, ap, ap₂, ◌∙◌, subst, rules, arith}
use Rattle.std.specs.Prelude.{if◌then◌else◌, slice_get}
use Rattle.std.specs.Bool.{Decides}
use Rattle.std.specs.Map.{lookup}
use Rattle.flow_facts.specs.declared.facts.Scope.{Scope}
use Rattle.flow_facts.specs.contracts.facts.ScopePartialEq.TheImpl.{eq-value as scope_test}
use Rattle.fact_checker.specs.declared.fact_index.FactKey.{FactKey}
use Rattle.fact_checker.specs.contracts.fact_index.FactKeyPartialEq.TheImpl.{eq-value}
use Rattle.std.proofs.lemmas.Option.{slice_get_within}
use Rattle.lists.specs.Lists.{onto, index_of}
use Rattle.lists.proofs.Lemmas.{index_found}
use Rattle.flow_facts.specs.Facts.{CountFact}
use Rattle.fact_rules.specs.Pricing.{fact_at}
use Rattle.fact_checker.specs.Index.{is_same_scope, is_same_key, is_fact_of, IsIndexed}
use Rattle.fact_checker.proofs.Indexing.{bool_same, key_true, key_self, fact_there}

scope_same : (a b : Scope) → Decides (scope_test.it a b) (a ≡ b)
scope_same a b = search rules

key_same : (a b : FactKey) → Decides (eq-value.it a b) (a ≡ b)
key_same a b = search (rules, scope_same)

pub key_test : (a b : FactKey) → eq-value.it a b ≡ is_same_key a b
key_test a b = bool_same (eq-value.it a b) (is_same_key a b)
    (λ yes. subst (λ (k : FactKey). is_same_key a k ≡ true) ((key_same a b).0 yes) (key_self a))
    (λ yes. (key_same a b).1 (key_true a b yes))

pub lookup_same : {K V : Type 0} (p q : K → Bool) → ((k : K) → p k ≡ q k) → (es : List (K × V)) → lookup p es ≡ lookup q es
lookup_same p q same [] = refl
lookup_same p q same (e ∷ es) = ap₂ (λ b o. if b then Some e.1 else o) (same e.0) (lookup_same p q same es)

-- what is looked up by the test of keys is the place of the first fact of the key
pub place_found : (fs : List CountFact) (es : List (FactKey × ℕ)) (k : FactKey) (o : Option ℕ) → IsIndexed fs es → o ≡ lookup (eq-value.it k) es → o ≡ index_of (is_fact_of k) fs
place_found fs es k o h is = is ∙ (lookup_same (eq-value.it k) (is_same_key k) (key_test k) es ∙ h k)

-- and the fact is the one at that place
pub fact_found : (fs : List CountFact) (es : List (FactKey × ℕ)) (k : FactKey) (o : Option ℕ) → IsIndexed fs es → o ≡ lookup (eq-value.it k) es
    → fact_at fs k.method k.node (is_same_scope k.scope) ≡ onto o (slice_get fs)
fact_found fs es k o h is = fact_there fs k ∙ ap (λ (p : Option ℕ). onto p (slice_get fs)) (sym (place_found fs es k o h is))

pub place_below : (fs : List CountFact) (es : List (FactKey × ℕ)) (k : FactKey) (place : ℕ) → IsIndexed fs es → Some place ≡ lookup (eq-value.it k) es → place < length fs
place_below fs es k place h is =
    let found = index_found (is_fact_of k) fs place (sym (place_found fs es k (Some place) h is)) in
    slice_get_within fs place found.0 found.1

pub one_node : (xs : List ℕ) → length xs ≡ 1 → xs ≡ get_or xs 0 0 ∷ []
one_node [] long = absurd (omega arith)
one_node (x ∷ []) long = refl
one_node (x ∷ y ∷ xs) long = absurd (omega arith)
