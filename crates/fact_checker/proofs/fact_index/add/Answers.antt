use Rattle.std.proofs.Common.{◌≡◌, ℕ, true, length, get_or, List, [], ◌∷◌, ◌++◌, sym, ap, ap₂, ◌∙◌, subst, arith}
use Rattle.std.specs.Prelude.{is_some}
use Rattle.std.specs.Map.{lookup}
use Rattle.indexmap.proofs.CallerLemmas.{insert_entry-new}
use Rattle.lists.specs.Lists.{index_of}
use Rattle.lists.proofs.Lookups.{copied_none, copied_some}
use Rattle.flow_facts.specs.declared.facts.Scope.{Scope}
use Rattle.fact_checker.specs.declared.fact_index.FactKey.{FactKey}
use Rattle.fact_checker.specs.contracts.fact_index.FactKeyPartialEq.TheImpl.{eq-value}
use Rattle.fact_checker.specs.Index.{is_same_key, is_fact_of}
use Rattle.fact_checker.proofs.Indexing.{key_of, indexed_new, indexed_old, indexed_no}
use Rattle.fact_checker.proofs.Keys.{key_test, lookup_same, one_node}
use Rattle.fact_checker.proofs.fact_index.add.Goals as goal

pub returns-in_default : goal.returns-in_default
returns-in_default c =
    λ before long h k.
    let same = ap (λ (xs : List ℕ). length xs) c.nodes.ensures in
    let few = c.in_default.len_below in
    indexed_no before c.args.fact.now c.args.place c.args.places.now.entries long (λ one. omega (arith, same, few, one)) h k

pub returns-in_default-2 : goal.returns-in_default-2
returns-in_default-2 c =
    λ before long h k.
    let same = ap (λ (xs : List ℕ). length xs) c.nodes.ensures in
    let more = c.in_default.len_at_least in
    indexed_no before c.args.fact.now c.args.place c.args.places.now.entries long (λ one. omega (arith, same, more, one)) h k

pub returns-in_ok-insert : goal.returns-in_ok-insert
returns-in_ok-insert c =
    let f = c.args.fact.now in
    let es = c.args.places.now.entries in
    let u = get_or c.nodes.result.now 0 0 in
    let least = c.in-len1.len_at_least in
    let most = c.in-len1.len_below in
    let nodes_is : f.nodes ≡ u ∷ [] = sym c.nodes.ensures ∙ one_node c.nodes.result.now (omega arith) in
    let K : ℕ → Scope → FactKey = λ m s. record { method = m; node = u; scope = s } in
    let key = K c.method.result c.scope.result in
    let key_is : key ≡ key_of f u = ap₂ K c.method.ensures c.scope.ensures in
    let absent = sym c.get.ensures.value ∙ copied_none c.get.result c.if-is_none.ensures in
    let entries = c.in_ok-insert.ensures.entries ∙ (insert_entry-new eq-value.it c.args.places.now key c.args.place absent ∙ ap (λ (q : FactKey). es ++ (q, c.args.place) ∷ []) key_is) in
    λ before long h k.
    let E : List (FactKey × ℕ) → Type 0 = λ x. lookup (is_same_key k) x ≡ index_of (is_fact_of k) (before ++ f ∷ []) in
    subst E (sym entries) (indexed_new before f c.args.place u es long nodes_is h k)

pub returns-else-is_none : goal.returns-else-is_none
returns-else-is_none c =
    let f = c.args.fact.now in
    let es = c.args.places.now.entries in
    let u = get_or c.nodes.result.now 0 0 in
    let least = c.in-len1.len_at_least in
    let most = c.in-len1.len_below in
    let nodes_is : f.nodes ≡ u ∷ [] = sym c.nodes.ensures ∙ one_node c.nodes.result.now (omega arith) in
    let K : ℕ → Scope → FactKey = λ m s. record { method = m; node = u; scope = s } in
    let key = K c.method.result c.scope.result in
    let key_is : key ≡ key_of f u = ap₂ K c.method.ensures c.scope.ensures in
    let there : is_some (lookup (eq-value.it key) es) ≡ true = ap is_some (sym c.get.ensures.value) ∙ copied_some c.get.result c.if-is_none.ensures in
    let by_key : is_some (lookup (is_same_key (key_of f u)) es) ≡ true =
    ap (λ (q : FactKey). is_some (lookup (is_same_key q) es)) (sym key_is) ∙ (ap is_some (sym (lookup_same (eq-value.it key) (is_same_key key) (key_test key) es)) ∙ there)
    in
    λ before long h k. indexed_old before f c.args.place u es long nodes_is h by_key k
