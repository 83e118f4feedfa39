-- Facts with prices, price by price.
use Rattle.std.proofs.Common.{◌≡◌, ℕ, ◌+◌, ◌*◌, ◌<◌, ◌≤◌, ◌==◌, Bool, true, false, List, [], ◌∷◌, ◌++◌, length, get_or, set, take, replicate, Option, Some, None, refl, sym, ap, ap₂, ◌∙◌, subst, inl, inr, arith}
use Rattle.std.specs.Prelude.{option_map, flat_map, sum_by, if◌then◌else◌}
use Rattle.std.specs.Option.{option_map_or}
use Rattle.std.proofs.lemmas.Bool.{cases_eq, eq-eqb, ne_eqb}
use Rattle.std.proofs.lemmas.List.Sums.{sum_by_more}
use Rattle.std.proofs.lemmas.List.{take_more, take_all, get_or-set_same, get_or-set_other, get_or-replicate, length-replicate, length-set, append-nil}
use Rattle.lists.proofs.FirstLemmas.{flat_map-more, flat_map-append}
use Rattle.flow_facts.specs.Facts.{CountFact, Facts}
use Rattle.priced_cert.specs.declared.prices.Price.{Price}
use Rattle.priced_cert.specs.declared.prices.RootPrice.{RootPrice}
use Rattle.priced_sections.specs.Prices.{PricedFact}
use Rattle.fact_rules.specs.Pricing.{Pricing, PricedSection, fact_of, root_fact_of, with_price, own_facts}
use Rattle.fact_checker.specs.RootTable.{AreRootFacts, AddsRootFact}

-- ---- one price

-- the fact with its price, where so many visits are allowed
pub priced_some : (u most : ℕ) (header : Option ℕ) (price : ℕ) (o : Option CountFact) → Some most ≡ option_map (λ f. f.most) o
    → with_price u header price o ≡ record { nodes = u ∷ []; most = most; header = header; price = price } ∷ []
priced_some u most header price None is = absurd (cc)
priced_some u most header price (Some f) is =
    let same : most ≡ f.most = cc in
    let F : ℕ → List PricedFact = λ n. record { nodes = u ∷ []; most = n; header = header; price = price } ∷ [] in
    ap F (sym same)

pub priced_none : (u : ℕ) (header : Option ℕ) (price : ℕ) (o : Option CountFact) → None ≡ option_map (λ f. f.most) o → with_price u header price o ≡ []
priced_none u header price None is = refl
priced_none u header price (Some f) is = absurd (cc)

-- ---- the prices of a section

abbrev pub own_of : Facts → (method : ℕ) → Price → List PricedFact
own_of facts m x = with_price x.node x.header x.price (fact_of facts m x)

module _ (facts : Facts) (m : ℕ) (ps : List Price) (i : ℕ) (p : Price) (at : i < length ps) (is : p ≡ get_or ps i p) where
  own_more : flat_map (own_of facts m) (take (i + 1) ps) ≡ flat_map (own_of facts m) (take i ps) ++ own_of facts m p
  own_more =
      ap (flat_map (own_of facts m)) (take_more ps i p at)
      ∙ (flat_map-more (own_of facts m) (take i ps) (get_or ps i p) ∙ ap (λ (y : Price). flat_map (own_of facts m) (take i ps) ++ own_of facts m y) (sym is))

  pub own_some : (most : ℕ) (old new : List PricedFact) → old ≡ flat_map (own_of facts m) (take i ps) → Some most ≡ option_map (λ f. f.most) (fact_of facts m p)
      → new ≡ old ++ record { nodes = p.node ∷ []; most = most; header = p.header; price = p.price } ∷ [] → new ≡ flat_map (own_of facts m) (take (i + 1) ps)
  own_some most old new before found pushed =
      pushed ∙ (ap₂ (λ (xs ys : List PricedFact). xs ++ ys) before (sym (priced_some p.node most p.header p.price (fact_of facts m p) found)) ∙ sym own_more)

  pub own_none : (old : List PricedFact) → old ≡ flat_map (own_of facts m) (take i ps) → None ≡ option_map (λ f. f.most) (fact_of facts m p) → old ≡ flat_map (own_of facts m) (take (i + 1) ps)
  own_none old before none =
      before
      ∙ (sym (append-nil (flat_map (own_of facts m) (take i ps)))
      ∙ (ap (λ (ys : List PricedFact). flat_map (own_of facts m) (take i ps) ++ ys) (sym (priced_none p.node p.header p.price (fact_of facts m p) none)) ∙ sym own_more))

pub own_all : (facts : Facts) (s : PricedSection) (i : ℕ) (own : List PricedFact) → length s.prices ≤ i → own ≡ flat_map (own_of facts s.plain.method) (take i s.prices) → own ≡ own_facts facts s
own_all facts s i own past is = is ∙ ap (flat_map (own_of facts s.plain.method)) (take_all i s.prices past)

-- ---- the prices in the root

-- with these prices in the root
abbrev pub with_root : Pricing → List RootPrice → Pricing
with_root q xs = record q { root_prices = xs }

abbrev pub root_of : Pricing → (method : ℕ) → RootPrice → List PricedFact
root_of q m x = if x.method == m then with_price x.node None x.price (root_fact_of q x) else []

pub root_start : (q : Pricing) (methods : ℕ) (table : List (List PricedFact)) → table ≡ replicate methods [] → AreRootFacts (with_root q []) methods table
root_start q methods table is = record {
  long = ap (λ (xs : List (List PricedFact)). length xs) is ∙ length-replicate methods [];
  each = λ m below. ap (λ (xs : List (List PricedFact)). get_or xs m []) is ∙ get_or-replicate methods m [] [] below;
}

pub root_more : (q : Pricing) (methods : ℕ) (xs : List RootPrice) (i : ℕ) (x : RootPrice) (old new : List (List PricedFact)) → i < length xs → x ≡ get_or xs i x
    → AreRootFacts (with_root q (take i xs)) methods old → AddsRootFact q x old new → AreRootFacts (with_root q (take (i + 1) xs)) methods new
root_more q methods xs i x old new at is are adds =
    let long = are.long in
    record {
      long = adds.long ∙ long;
      each =
          λ m below.
          let more = ap (flat_map (root_of q m)) (take_more xs i x at ∙ ap (λ (y : RootPrice). take i xs ++ y ∷ []) (sym is)) ∙ flat_map-append (root_of q m) (take i xs) (x ∷ []) in
          adds.each m (omega arith) ∙ (ap (λ (ys : List PricedFact). ys ++ flat_map (root_of q m) (x ∷ [])) (are.each m below) ∙ sym more);
    }

pub root_all : (q : Pricing) (methods : ℕ) (xs : List RootPrice) (i : ℕ) (table : List (List PricedFact)) → length xs ≤ i → AreRootFacts (with_root q (take i xs)) methods table → AreRootFacts (with_root q xs) methods table
root_all q methods xs i table past are = subst (λ (ys : List RootPrice). AreRootFacts (with_root q ys) methods table) (take_all i xs past) are

-- a price without a fact adds none
no_root_fact : (b : Bool) (u price : ℕ) (o : Option CountFact) → None ≡ option_map (λ f. f.most) o → (if b then with_price u None price o else []) ++ [] ≡ []
no_root_fact true u price None is = refl
no_root_fact true u price (Some f) is = absurd (cc)
no_root_fact false u price o is = refl

pub adds_none : (q : Pricing) (x : RootPrice) (table : List (List PricedFact)) → None ≡ option_map (λ f. f.most) (root_fact_of q x) → AddsRootFact q x table table
adds_none q x table none = record {
  long = refl;
  each =
      λ m below.
      sym (append-nil (get_or table m []))
      ∙ ap (λ (ys : List PricedFact). get_or table m [] ++ ys) (sym (no_root_fact (x.method == m) x.node x.price (root_fact_of q x) none));
}

-- nor does one of a method past the table
pub adds_past : (q : Pricing) (x : RootPrice) (table : List (List PricedFact)) → length table ≤ x.method → AddsRootFact q x table table
adds_past q x table past = record {
  long = refl;
  each =
      λ m below.
      let other : (x.method == m) ≡ false = ne_eqb x.method m (λ same. omega arith) in
      sym (append-nil (get_or table m []))
      ∙ ap (λ (ys : List PricedFact). get_or table m [] ++ ys)
      (sym (ap (λ (b : Bool). (if b then with_price x.node None x.price (root_fact_of q x) else []) ++ []) other));
}

-- else the fact stands behind those of its method
pub adds_one : (q : Pricing) (x : RootPrice) (most : ℕ) (old new : List (List PricedFact)) (facts : List PricedFact) → x.method < length old
    → Some most ≡ option_map (λ f. f.most) (root_fact_of q x)
    → facts ≡ get_or old x.method [] ++ record { nodes = x.node ∷ []; most = most; header = None; price = x.price } ∷ []
    → new ≡ set old x.method facts → AddsRootFact q x old new
adds_one q x most old new facts below found pushed is = record {
  long = ap (λ (ts : List (List PricedFact)). length ts) is ∙ length-set old x.method facts;
  each =
      λ m under.
      elim (cases_eq x.method m) [
        | inl same ↦
            let here : (x.method == m) ≡ true = eq-eqb x.method m same in
            let at_new : get_or new m [] ≡ facts = ap (λ (ts : List (List PricedFact)). get_or ts m []) is ∙ (ap (λ (k : ℕ). get_or (set old x.method facts) k []) (sym same) ∙ get_or-set_same old x.method facts [] below) in
            let at_old : get_or old x.method [] ≡ get_or old m [] = ap (λ (k : ℕ). get_or old k []) same in
            let one = sym (priced_some x.node most None x.price (root_fact_of q x) found) in
            at_new
            ∙ (pushed
            ∙ (ap₂ (λ (ys zs : List PricedFact). ys ++ zs) at_old (one ∙ sym (append-nil (with_price x.node None x.price (root_fact_of q x))))
            ∙ ap (λ (b : Bool). get_or old m [] ++ ((if b then with_price x.node None x.price (root_fact_of q x) else []) ++ [])) (sym here)))
        | inr apart ↦
            let other : (x.method == m) ≡ false = ne_eqb x.method m apart in
            let at_new : get_or new m [] ≡ get_or old m [] = ap (λ (ts : List (List PricedFact)). get_or ts m []) is ∙ get_or-set_other old x.method m facts [] (λ e. apart (sym e)) in
            at_new
            ∙ (sym (append-nil (get_or old m []))
            ∙ ap (λ (b : Bool). get_or old m [] ++ ((if b then with_price x.node None x.price (root_fact_of q x) else []) ++ [])) (sym other))
      ];
}

-- ---- what the root pays

abbrev pub due_of : Pricing → RootPrice → ℕ
due_of q x = x.price * option_map_or (λ f. f.most) (root_fact_of q x) 0

pub due_some : (price most : ℕ) (o : Option CountFact) → Some most ≡ option_map (λ f. f.most) o → price * most ≡ price * option_map_or (λ f. f.most) o 0
due_some price most None is = absurd (cc)
due_some price most (Some f) is = let same : most ≡ f.most = cc in ap (λ (n : ℕ). price * n) same

pub due_none : (price : ℕ) (o : Option CountFact) → None ≡ option_map (λ f. f.most) o → 0 ≡ price * option_map_or (λ f. f.most) o 0
due_none price None is = omega arith
due_none price (Some f) is = absurd (cc)

module _ (q : Pricing) (xs : List RootPrice) (i : ℕ) (x : RootPrice) (sum due : ℕ) (below : i < length xs) (is : x ≡ get_or xs i x) (so_far : sum ≡ sum_by (due_of q) (take i xs)) (here : due ≡ due_of q x) where
  pub due_more : sum + due ≡ sum_by (due_of q) (take (i + 1) xs)
  due_more = ap₂ (λ (a b : ℕ). a + b) so_far (here ∙ ap (due_of q) is) ∙ sym (sum_by_more (due_of q) xs i x below)

pub due_all : (q : Pricing) (xs : List RootPrice) (i sum : ℕ) → length xs ≤ i → sum ≡ sum_by (due_of q) (take i xs) → sum ≡ sum_by (due_of q) xs
due_all q xs i sum past is = is ∙ ap (sum_by (due_of q)) (take_all i xs past)

-- by the root and the prices that are at hand, for as many methods as the table has
pub root_at : (facts : Facts) (root root' methods : ℕ) (xs ys : List RootPrice) (table : List (List PricedFact)) → root ≡ root' → xs ≡ ys
    → AreRootFacts (record { facts = facts; root = root; root_prices = xs }) methods table → AreRootFacts (record { facts = facts; root = root'; root_prices = ys }) (length table) table
root_at facts root root' methods xs ys table same_root same are =
    let R : ℕ → Type 0 = λ r. AreRootFacts (record { facts = facts; root = r; root_prices = xs }) (length table) table in
    let X : List RootPrice → Type 0 = λ zs. AreRootFacts (record { facts = facts; root = root'; root_prices = zs }) (length table) table in
    let N : ℕ → Type 0 = λ n. AreRootFacts (record { facts = facts; root = root; root_prices = xs }) n table in
    subst X same (subst R same_root (subst N (sym are.long) are))
