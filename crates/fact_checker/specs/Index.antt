-- Facts by the node of a method and the scope in which its visits are counted.
use Rattle.std.specs.Prelude.{◌≡◌, ℕ, ◌==◌, ◌&&◌, Bool, true, false, List}
use Rattle.std.specs.Map.{lookup}
use Rattle.lists.specs.Lists.{index_of}
use Rattle.flow_facts.specs.declared.facts.Scope.{Scope}
use Rattle.flow_facts.specs.declared.facts.Scope.TheVariants.{Own, Per, In}
use Rattle.flow_facts.specs.Facts.{CountFact}
use Rattle.fact_rules.specs.Pricing.{is_just}
use Rattle.fact_checker.specs.declared.fact_index.FactKey.{FactKey}

abbrev pub is_same_scope : Scope → Scope → Bool
is_same_scope Own Own = true
is_same_scope (Per p) (Per q) = p == q
is_same_scope (In r) (In s) = r == s
is_same_scope scope other = false

abbrev pub is_same_key : FactKey → FactKey → Bool
is_same_key k l = k.method == l.method && (k.node == l.node && is_same_scope k.scope l.scope)

-- the fact is of just the node of the method, and in the scope
abbrev pub is_fact_of : FactKey → CountFact → Bool
is_fact_of k f = f.method == k.method && is_just k.node f.nodes && is_same_scope k.scope f.scope

-- the entries have the place of the first fact of each key, and nothing for a key of which there is none
abbrev pub IsIndexed : List CountFact → List (FactKey × ℕ) → Type 0
IsIndexed fs es = (k : FactKey) → lookup (is_same_key k) es ≡ index_of (is_fact_of k) fs
