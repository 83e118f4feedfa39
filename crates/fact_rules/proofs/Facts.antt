-- Facts with prices are facts that are given, and a walk that keeps these keeps them.
use Rattle.std.proofs.Common.{◌≡◌, ℕ, ◌*◌, ◌==◌, Bool, true, false, List, [], ◌∷◌, Contains, Option, Some, None, refl, sym, ap, subst, inl, inr, eqb-true}
use Rattle.std.specs.Prelude.{if◌then◌else◌, ◌&&◌, flat_map}
use Rattle.std.proofs.lemmas.List.Elements.{Contains-append_cases}
use Rattle.lists.specs.Members.{at_head, in_tail, cons_cases, nil_contains}
use Rattle.lists.specs.Tests.{and_left, and_right}
use Rattle.loop_nest.specs.Digraph.{Digraph}
use Rattle.bytecode_model.specs.Program.{Program}
use Rattle.method_flow.specs.Graphs.{IsLiveGraph}
use Rattle.flow_facts.specs.declared.facts.Scope.{Scope}
use Rattle.flow_facts.specs.declared.facts.Scope.TheVariants.{Own, Per, In}
use Rattle.flow_facts.specs.Facts.{CountFact, Facts}
use Rattle.priced_cert.specs.declared.prices.Price.{Price}
use Rattle.priced_cert.specs.declared.prices.RootPrice.{RootPrice}
use Rattle.priced_sections.specs.Visits.{KeepsPer}
use Rattle.priced_sections.specs.Prices.{PricedFact}
use Rattle.priced_sections.specs.Laws.{KeepsFact}
use Rattle.fact_rules.specs.Pricing.{PricedSection, is_just, is_scope_of, fact_at, fact_of, with_price, own_facts, Pricing, is_in_root, root_fact_of, root_facts}
use Rattle.fact_rules.specs.Keeping.{KeepsIn, WalkKeepsFacts}

-- ---- lists

-- what is in one of the lists that are put together
record IsFrom {X Y : Type 0} (f : X → List Y) (xs : List X) (y : Y) : Type 0 where
  item : X
  among : Contains xs item
  has : Contains (f item) y

from_flat_map : {X Y : Type 0} (f : X → List Y) (xs : List X) (y : Y) → Contains (flat_map f xs) y → IsFrom f xs y
from_flat_map f [] y has = absurd (nil_contains y has)
from_flat_map f (x ∷ xs) y has =
    elim (Contains-append_cases (f x) (flat_map f xs) y has) [
      | inl here ↦ record { item = x; among = at_head x xs; has = here }
      | inr there ↦ let r = from_flat_map f xs y there in record { item = r.item; among = in_tail x r.item xs r.among; has = r.has }
    ]

-- ---- the fact that is found

just : (u : ℕ) (nodes : List ℕ) → is_just u nodes ≡ true → nodes ≡ u ∷ []
just u [] e = absurd (cc)
just u (v ∷ []) e = ap (λ (x : ℕ). x ∷ []) (eqb-true v u e)
just u (v ∷ w ∷ nodes) e = absurd (cc)

-- it is one of the facts, of just the node of the method, and has such a scope
pub record IsFactAt (fs : List CountFact) (m u : ℕ) (is_scope : Scope → Bool) (f : CountFact) : Type 0 where
  pub among : Contains fs f
  pub method : f.method ≡ m
  pub nodes : f.nodes ≡ u ∷ []
  pub scope : is_scope f.scope ≡ true

pub is_fact_at : (fs : List CountFact) (m u : ℕ) (is_scope : Scope → Bool) (f : CountFact) → fact_at fs m u is_scope ≡ Some f → IsFactAt fs m u is_scope f
is_fact_at [] m u is_scope f e = absurd (cc)
is_fact_at (x ∷ fs) m u is_scope f e = by (x.method == m && is_just u x.nodes && is_scope x.scope) refl e (is_fact_at fs m u is_scope f)
  where
    by : (b : Bool) → (x.method == m && is_just u x.nodes && is_scope x.scope) ≡ b → ◌≡◌ {A = Option CountFact} (if b then Some x else fact_at fs m u is_scope) (Some f)
        → (fact_at fs m u is_scope ≡ Some f → IsFactAt fs m u is_scope f) → IsFactAt (x ∷ fs) m u is_scope f
    by true is e' further =
        let same : x ≡ f = cc in
        let found : IsFactAt (x ∷ fs) m u is_scope x = record {
          among = at_head x fs;
          method = eqb-true x.method m (and_left (x.method == m) (is_just u x.nodes) (and_left (x.method == m && is_just u x.nodes) (is_scope x.scope) is));
          nodes = just u x.nodes (and_right (x.method == m) (is_just u x.nodes) (and_left (x.method == m && is_just u x.nodes) (is_scope x.scope) is));
          scope = and_right (x.method == m && is_just u x.nodes) (is_scope x.scope) is;
        }
        in
        subst (λ (y : CountFact). IsFactAt (x ∷ fs) m u is_scope y) same found
    by false is e' further = let r = further e' in record { among = in_tail x f fs r.among; method = r.method; nodes = r.nodes; scope = r.scope }

-- a price of the section, and the fact that it is of
pub record IsOwnFact (facts : Facts) (s : PricedSection) (f : PricedFact) : Type 0 where
  pub price : Price
  pub given : CountFact
  pub at : IsFactAt facts.counts s.plain.method price.node (is_scope_of price.header) given
  pub is : f ≡ record { nodes = price.node ∷ []; most = given.most; header = price.header; price = price.price }

pub own_fact : (facts : Facts) (s : PricedSection) (f : PricedFact) → Contains (own_facts facts s) f → IsOwnFact facts s f
own_fact facts s f has = by (fact_of facts s.plain.method x) refl r.has
  where
    r : IsFrom (λ x. with_price x.node x.header x.price (fact_of facts s.plain.method x)) s.prices f
    r = from_flat_map (λ x. with_price x.node x.header x.price (fact_of facts s.plain.method x)) s.prices f has

    x : Price
    x = r.item

    by : (o : Option CountFact) → fact_of facts s.plain.method x ≡ o → Contains (with_price x.node x.header x.price o) f → IsOwnFact facts s f
    by None is c = absurd (nil_contains f c)
    by (Some g) is c =
        elim (cons_cases (record { nodes = x.node ∷ []; most = g.most; header = x.header; price = x.price }) f [] c) [
          | inl same ↦ record { price = x; given = g; at = is_fact_at facts.counts s.plain.method x.node (is_scope_of x.header) g is; is = sym same }
          | inr none ↦ absurd (nil_contains f none)
        ]

-- ---- walks that keep it

kept_in : (g : Digraph) (header : Option ℕ) (scope : Scope) (u most price : ℕ) (ns : List ℕ) → is_scope_of header scope ≡ true → KeepsIn g scope (u ∷ []) most ns
    → KeepsFact g (record { nodes = u ∷ []; most = most; header = header; price = price }) header ns
kept_in g None Own u most price ns e keeps = keeps
kept_in g None (Per p) u most price ns e keeps = absurd (cc)
kept_in g None (In r) u most price ns e keeps = absurd (cc)
kept_in g (Some h) Own u most price ns e keeps = absurd (cc)
kept_in g (Some h) (Per p) u most price ns e keeps = subst (λ (x : ℕ). KeepsPer g x (u ∷ []) most ns) (sym (eqb-true h (2 * p) e)) keeps
kept_in g (Some h) (In r) u most price ns e keeps = absurd (cc)

-- a walk that keeps the facts of the method keeps those that have prices in its section
pub own_fact_kept : (P : Program) (facts : Facts) (s : PricedSection) (g : Digraph) (ns : List ℕ) → IsLiveGraph P s.plain.method g → WalkKeepsFacts P facts s.plain.method ns
    → (f : PricedFact) → Contains (own_facts facts s) f → KeepsFact g f f.header ns
own_fact_kept P facts s g ns live keeps f has =
    let r = own_fact facts s f has in
    let x = r.price in
    let k = keeps g live r.given r.at.among r.at.method in
    let k' = subst (λ (nodes : List ℕ). KeepsIn g r.given.scope nodes r.given.most ns) r.at.nodes k in
    let k'' = kept_in g x.header r.given.scope x.node r.given.most x.price ns r.at.scope k' in
    subst (λ (y : PricedFact). KeepsFact g y y.header ns) (sym r.is) k''

-- ---- facts with prices in the root

in_root_scope : (root : ℕ) (scope : Scope) → is_in_root root scope ≡ true → scope ≡ In root
in_root_scope root Own e = absurd (cc)
in_root_scope root (Per p) e = absurd (cc)
in_root_scope root (In r) e = ap (λ (x : ℕ). In x) (eqb-true r root e)

-- a price in the root of a node of the method, and the fact that it is of, which counts in an activation of the root
pub record IsRootFact (q : Pricing) (m : ℕ) (f : PricedFact) : Type 0 where
  pub price : RootPrice
  pub among : Contains q.root_prices price
  pub method : price.method ≡ m
  pub given : CountFact
  pub at : IsFactAt q.facts.counts price.method price.node (is_in_root q.root) given
  pub scope : given.scope ≡ In q.root
  pub is : f ≡ record { nodes = price.node ∷ []; most = given.most; header = None; price = price.price }

pub root_fact : (q : Pricing) (m : ℕ) (f : PricedFact) → Contains (root_facts q m) f → IsRootFact q m f
root_fact q m f has = of_method (x.method == m) refl r.has
  where
    r : IsFrom (λ y. if y.method == m then with_price y.node None y.price (root_fact_of q y) else []) q.root_prices f
    r = from_flat_map (λ y. if y.method == m then with_price y.node None y.price (root_fact_of q y) else []) q.root_prices f has

    x : RootPrice
    x = r.item

    by : x.method ≡ m → (o : Option CountFact) → root_fact_of q x ≡ o → Contains (with_price x.node None x.price o) f → IsRootFact q m f
    by at None is c = absurd (nil_contains f c)
    by at (Some g) is c =
        elim (cons_cases (record { nodes = x.node ∷ []; most = g.most; header = None; price = x.price }) f [] c) [
          | inl same ↦
              let found = is_fact_at q.facts.counts x.method x.node (is_in_root q.root) g is in
              record { price = x; among = r.among; method = at; given = g; at = found; scope = in_root_scope q.root g.scope found.scope; is = sym same }
          | inr none ↦ absurd (nil_contains f none)
        ]

    of_method : (b : Bool) → (x.method == m) ≡ b → Contains (if b then with_price x.node None x.price (root_fact_of q x) else []) f → IsRootFact q m f
    of_method true at c = by (eqb-true x.method m at) (root_fact_of q x) refl c
    of_method false at c = absurd (nil_contains f c)
