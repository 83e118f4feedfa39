-- What visits give back by prices in the root is counted at the boundaries of an activation of the root, which pays for it.
use Rattle.std.proofs.Common.{◌≡◌, ℕ, ◌+◌, ◌*◌, ◌≤◌, ◌==◌, Bool, true, false, cond, List, [], ◌∷◌, ◌++◌, Contains, Option, Some, None, sum_by, refl, sym, ap, ◌∙◌, arith, eq-eqb, eqb-true, mul-le-mul_left}
use Rattle.std.specs.Prelude.{if◌then◌else◌, ◌&&◌, flat_map}
use Rattle.std.specs.Option.{option_map_or}
use Rattle.std.proofs.Math.Nat.{mul-add}
use Rattle.std.proofs.lemmas.List.Sums.{sum_by-cons, sum_by-append}
use Rattle.section_check.specs.Bounded.{holds}
use Rattle.bytecode_model.specs.State.{Frame}
use Rattle.method_flow.specs.Nodes.{number_of}
use Rattle.method_flow.specs.Shapes.{node_of}
use Rattle.activations.specs.Activations.{Stage}
use Rattle.activations.specs.Stays.{IsTop}
use Rattle.flow_facts.specs.declared.facts.Scope.{Scope}
use Rattle.flow_facts.specs.declared.facts.Scope.TheVariants.{Own, Per, In}
use Rattle.flow_facts.specs.Facts.{CountFact}
use Rattle.priced_cert.specs.declared.prices.RootPrice.{RootPrice}
use Rattle.priced_sections.specs.Prices.{PricedFact, credit_of}
use Rattle.fact_rules.specs.Pricing.{Pricing, is_in_root, root_fact_of, with_price, root_facts, root_due}
use Rattle.fact_rules.proofs.Facts.{is_fact_at}
use Rattle.fact_keeping.specs.Keeping.{top_visits, visits_at}

-- ---- a price

-- what a price of this fact, if there is one, is counted at a boundary
abbrev counted_by : (price : ℕ) → Option CountFact → Stage → ℕ
counted_by price None c = 0
counted_by price (Some f) c = price * top_visits f c.state.mode c.state.frames

abbrev one_if : Bool → ℕ
one_if x = if x then 1 else 0

chosen : (x : Bool) → one_if x ≡ cond x 1 0
chosen true = refl
chosen false = refl

module _ {callers : List Frame} {m : ℕ} {a : Stage} {u : ℕ} (top : IsTop callers m a u) where
  -- where a frame of the fact's method is the top one, it is at one of the nodes or not
  top_is : (f : CountFact) → f.method ≡ m → top_visits f a.state.mode a.state.frames ≡ cond (holds f.nodes u) 1 0
  top_is f of =
      let same : (top.frame.method == f.method) ≡ true = eq-eqb top.frame.method f.method (top.method ∙ sym of) in
      let here : Bool = holds f.nodes (number_of (node_of a.state.mode top.frame)) in
      ap (top_visits f a.state.mode) top.frames
      ∙ (ap (λ (x : Bool). one_if (x && here)) same ∙ (chosen here ∙ ap (λ (n : ℕ). cond (holds f.nodes n) 1 0) (sym top.node)))

  -- what a visit gives back by one price
  abbrev back_by : (x : RootPrice) (of : Bool) → Option CountFact → ℕ
  back_by x of fact = credit_of (if of then with_price x.node None x.price fact else []) u

  one_back : (x : RootPrice) (held : Bool) (n : ℕ) → n ≡ cond held 1 0 → (if held then x.price else 0) ≤ x.price * n
  one_back x true n e = let one = ap (λ (y : ℕ). x.price * y) e in omega arith
  one_back x false n e = omega arith

  counts_one : (q : Pricing) (x : RootPrice) → back_by x (x.method == m) (root_fact_of q x) ≤ counted_by x.price (root_fact_of q x) a
  counts_one q x = by (x.method == m) refl (root_fact_of q x) refl
    where
      by : (of : Bool) → (x.method == m) ≡ of → (o : Option CountFact) → root_fact_of q x ≡ o → back_by x of o ≤ counted_by x.price o a
      by false is o e = omega arith
      by true is None e = omega arith
      by true is (Some f) e =
          let found = is_fact_at q.facts.counts x.method x.node (is_in_root q.root) f e in
          let visits = top_is f (found.method ∙ eqb-true x.method m is) ∙ ap (λ (nodes : List ℕ). cond (holds nodes u) 1 0) found.nodes in
          let few = one_back x (holds (x.node ∷ []) u) (top_visits f a.state.mode a.state.frames) visits in
          let one = sum_by-cons (λ (y : PricedFact). if holds y.nodes u then y.price else 0) (record { nodes = x.node ∷ []; most = f.most; header = None; price = x.price }) [] in
          omega arith

-- ---- all prices in the root

abbrev counted_all : Pricing → List RootPrice → Stage → ℕ
counted_all q [] c = 0
counted_all q (x ∷ xs) c = counted_by x.price (root_fact_of q x) c + counted_all q xs c

abbrev pub counted : Pricing → Stage → ℕ
counted q c = counted_all q q.root_prices c

abbrev facts_at : Pricing → (method : ℕ) → RootPrice → List PricedFact
facts_at q m x = if x.method == m then with_price x.node None x.price (root_fact_of q x) else []

counts_all : (q : Pricing) (xs : List RootPrice) {callers : List Frame} {m : ℕ} {a : Stage} {u : ℕ} → IsTop callers m a u → credit_of (flat_map (facts_at q m) xs) u ≤ counted_all q xs a
counts_all q [] top = omega arith
counts_all q (x ∷ xs) {callers} {m} {a} {u} top =
    let first = counts_one top q x in
    let rest = counts_all q xs top in
    let both : credit_of (facts_at q m x ++ flat_map (facts_at q m) xs) u ≡ credit_of (facts_at q m x) u + credit_of (flat_map (facts_at q m) xs) u =
    sum_by-append (λ (f : PricedFact). if holds f.nodes u then f.price else 0) (facts_at q m x) (flat_map (facts_at q m) xs)
    in
    omega arith

-- what a visit gives back is counted
pub is_counted : (q : Pricing) (callers : List Frame) (m : ℕ) (a : Stage) (u : ℕ) → IsTop callers m a u → credit_of (root_facts q m) u ≤ counted q a
is_counted q callers m a u top = counts_all q q.root_prices top

-- ---- what the root pays

in_root_scope : (root : ℕ) (scope : Scope) → is_in_root root scope ≡ true → scope ≡ In root
in_root_scope root Own e = absurd (cc)
in_root_scope root (Per p) e = absurd (cc)
in_root_scope root (In r) e = ap (λ (x : ℕ). In x) (eqb-true r root e)

-- over these boundaries the facts are kept that count in an activation of the root
abbrev pub AreKeptWithin : Pricing → List Stage → Type 0
AreKeptWithin q stages = (f : CountFact) → Contains q.facts.counts f → f.scope ≡ In q.root → visits_at f stages ≤ f.most

sum_zero : (stages : List Stage) → sum_by (λ c. 0) stages ≡ 0
sum_zero [] = refl
sum_zero (c ∷ stages) = let first = sum_by-cons (λ (x : Stage). 0) c stages in let rest = sum_zero stages in omega arith

-- a price is counted as often as its fact's nodes are visited
sum_counted : (price : ℕ) (f : CountFact) (stages : List Stage) → sum_by (counted_by price (Some f)) stages ≡ price * visits_at f stages
sum_counted price f [] = omega arith
sum_counted price f (c ∷ stages) =
    let at : Stage → ℕ = λ x. top_visits f x.state.mode x.state.frames in
    let first = sum_by-cons (counted_by price (Some f)) c stages in
    let visits = ap (λ (n : ℕ). price * n) (sum_by-cons at c stages) ∙ mul-add price (at c) (visits_at f stages) in
    let rest = sum_counted price f stages in
    omega arith

abbrev due_by : (price : ℕ) → Option CountFact → ℕ
due_by price fact = price * option_map_or (λ f. f.most) fact 0

pays_one : (q : Pricing) (stages : List Stage) → AreKeptWithin q stages → (x : RootPrice) → sum_by (counted_by x.price (root_fact_of q x)) stages ≤ due_by x.price (root_fact_of q x)
pays_one q stages kept x = by (root_fact_of q x) refl
  where
    by : (o : Option CountFact) → root_fact_of q x ≡ o → sum_by (counted_by x.price o) stages ≤ due_by x.price o
    by None e = let none : sum_by (counted_by x.price None) stages ≡ 0 = sum_zero stages in omega arith
    by (Some f) e =
        let found = is_fact_at q.facts.counts x.method x.node (is_in_root q.root) f e in
        let few = mul-le-mul_left x.price (kept f found.among (in_root_scope q.root f.scope found.scope)) in
        let all = sum_counted x.price f stages in
        omega arith

sum_both : (f h : Stage → ℕ) (stages : List Stage) → sum_by (λ c. f c + h c) stages ≡ sum_by f stages + sum_by h stages
sum_both f h [] = refl
sum_both f h (c ∷ stages) =
    let both = sum_by-cons (λ (x : Stage). f x + h x) c stages in
    let first = sum_by-cons f c stages in
    let second = sum_by-cons h c stages in
    let rest = sum_both f h stages in
    omega arith

pays_all : (q : Pricing) (stages : List Stage) → AreKeptWithin q stages → (xs : List RootPrice) → sum_by (counted_all q xs) stages ≤ sum_by (λ x. due_by x.price (root_fact_of q x)) xs
pays_all q stages kept [] = let none : sum_by (counted_all q []) stages ≡ 0 = sum_zero stages in omega arith
pays_all q stages kept (x ∷ xs) =
    let first = pays_one q stages kept x in
    let rest = pays_all q stages kept xs in
    let both : sum_by (counted_all q (x ∷ xs)) stages ≡ sum_by (counted_by x.price (root_fact_of q x)) stages + sum_by (counted_all q xs) stages =
    sum_both (counted_by x.price (root_fact_of q x)) (counted_all q xs) stages
    in
    let due = sum_by-cons (λ (y : RootPrice). due_by y.price (root_fact_of q y)) x xs in
    omega arith

-- all that is counted at the boundaries is at most what the root pays
pub root_pays : (q : Pricing) (stages : List Stage) → AreKeptWithin q stages → sum_by (counted q) stages ≤ root_due q
root_pays q stages kept = pays_all q stages kept q.root_prices
