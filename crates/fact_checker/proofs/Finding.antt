-- The first price without a fact, price by price and list by list.
use Rattle.std.proofs.Common.{◌≡◌, ℕ, suc, ◌+◌, ◌<◌, ◌≤◌, true, false, List, [], ◌∷◌, ◌++◌, length, map, get_or, take, drop, drop-cons, Option, Some, None, IsSome, refl, sym, ap, ◌∙◌, subst, inl, inr}
use Rattle.std.specs.Prelude.{option_map, is_some, flat_map}
use Rattle.std.proofs.lemmas.Bool.{false≢true}
use Rattle.std.proofs.lemmas.List.{take_more, take_all, take-append-drop, append_assoc, map-append, map_more}
use Rattle.std.proofs.lemmas.List.Elements.{Contains-append_cases, Contains-push_cases}
use Rattle.lists.specs.Members.{nil_contains}
use Rattle.lists.proofs.FirstLemmas.{flat_map-more, flat_map-append}
use Rattle.flow_facts.specs.Facts.{CountFact}
use Rattle.fact_rules.specs.Pricing.{PlacedPrice}
use Rattle.fact_rules.specs.Conditions.{AreOfFacts}
use Rattle.fact_rules.specs.Refused.{IsFirstWithoutFact}
use Rattle.fact_checker.specs.Missing.{IsMissing}

-- ---- one after another

pub no_prices : AreOfFacts []
no_prices = λ x has. absurd (nil_contains x has)

pub one_of_fact : (xs : List PlacedPrice) (x : PlacedPrice) → AreOfFacts xs → IsSome x.fact → AreOfFacts (xs ++ x ∷ [])
one_of_fact xs x are some =
    λ y has.
    elim (Contains-push_cases xs x y has) [
      | inl before ↦ are y before
      | inr same ↦ subst (λ (z : PlacedPrice). IsSome z.fact) same some
    ]

-- ---- lists one behind another

pub both_of_facts : (xs ys : List PlacedPrice) → AreOfFacts xs → AreOfFacts ys → AreOfFacts (xs ++ ys)
both_of_facts xs ys a b = λ x has. elim (Contains-append_cases xs ys x has) [ inl here ↦ a x here | inr there ↦ b x there ]

pub first_before : (xs ys : List PlacedPrice) (m u : ℕ) → IsFirstWithoutFact xs m u → IsFirstWithoutFact (xs ++ ys) m u
first_before xs ys m u a = record {
  before = a.before;
  price = a.price;
  after = a.after ++ ys;
  split = ap (λ (zs : List PlacedPrice). zs ++ ys) a.split ∙ append_assoc a.before (a.price ∷ a.after) ys;
  first = a.first;
  none = a.none;
  method = a.method;
  node = a.node;
}

pub first_behind : (xs ys : List PlacedPrice) (m u : ℕ) → AreOfFacts xs → IsFirstWithoutFact ys m u → IsFirstWithoutFact (xs ++ ys) m u
first_behind xs ys m u are a = record {
  before = xs ++ a.before;
  price = a.price;
  after = a.after;
  split = ap (λ (zs : List PlacedPrice). xs ++ zs) a.split ∙ sym (append_assoc xs a.before (a.price ∷ a.after));
  first = both_of_facts xs a.before are a.first;
  none = a.none;
  method = a.method;
  node = a.node;
}

-- ---- in a list of prices

-- where there is no number of visits, there is no fact
pub no_fact : (r : Option ℕ) (o : Option CountFact) → r ≡ option_map (λ f. f.most) o → is_some r ≡ false → o ≡ None
no_fact r None is none = refl
no_fact r (Some f) is none = absurd (false≢true (sym none ∙ ap is_some is))

pub some_fact : (r : Option ℕ) (o : Option CountFact) → r ≡ option_map (λ f. f.most) o → is_some r ≡ true → IsSome o
some_fact r None is some = absurd (false≢true (sym (ap is_some is) ∙ some))
some_fact r (Some f) is some = refl

module _ {X : Type 0} (f : X → PlacedPrice) (xs : List X) (i : ℕ) (x : X) where
  pub of_facts_more : i < length xs → x ≡ get_or xs i x → AreOfFacts (map f (take i xs)) → IsSome (f x).fact → AreOfFacts (map f (take (i + 1) xs))
  of_facts_more below is are some =
      let more = map_more f xs i x below ∙ ap (λ (y : X). map f (take i xs) ++ f y ∷ []) (sym is) in
      subst (λ (ys : List PlacedPrice). AreOfFacts ys) (sym more) (one_of_fact (map f (take i xs)) (f x) are some)

  pub first_here : i < length xs → x ≡ get_or xs i x → AreOfFacts (map f (take i xs)) → (f x).fact ≡ None → IsFirstWithoutFact (map f xs) (f x).method (f x).node
  first_here below is are none = record {
    before = map f (take i xs);
    price = f x;
    after = map f (drop (suc i) xs);
    split =
        ap (map f) (sym (take-append-drop i xs))
        ∙ (map-append f (take i xs) (drop i xs) ∙ ap (λ (ys : List X). map f (take i xs) ++ map f ys) (drop-cons xs i x below ∙ ap (λ (y : X). y ∷ drop (suc i) xs) (sym is)));
    first = are;
    none = none;
    method = refl;
    node = refl;
  }

pub of_facts_all : {X : Type 0} (f : X → PlacedPrice) (xs : List X) (i : ℕ) → length xs ≤ i → AreOfFacts (map f (take i xs)) → AreOfFacts (map f xs)
of_facts_all {X} f xs i past are = subst (λ (ys : List X). AreOfFacts (map f ys)) (take_all i xs past) are

-- ---- in a list of lists of prices

module _ {X : Type 0} (f : X → List PlacedPrice) (xs : List X) (i : ℕ) (x : X) where
  pub lists_more : i < length xs → x ≡ get_or xs i x → AreOfFacts (flat_map f (take i xs)) → AreOfFacts (f x) → AreOfFacts (flat_map f (take (i + 1) xs))
  lists_more below is are here =
      let more = ap (flat_map f) (take_more xs i x below) ∙ (flat_map-more f (take i xs) (get_or xs i x) ∙ ap (λ (y : X). flat_map f (take i xs) ++ f y) (sym is)) in
      subst (λ (ys : List PlacedPrice). AreOfFacts ys) (sym more) (both_of_facts (flat_map f (take i xs)) (f x) are here)

  pub list_here : (m u : ℕ) → i < length xs → x ≡ get_or xs i x → AreOfFacts (flat_map f (take i xs)) → IsFirstWithoutFact (f x) m u → IsFirstWithoutFact (flat_map f xs) m u
  list_here m u below is are first =
      let split =
      ap (flat_map f) (sym (take-append-drop i xs))
      ∙ (flat_map-append f (take i xs) (drop i xs) ∙ ap (λ (ys : List X). flat_map f (take i xs) ++ flat_map f ys) (drop-cons xs i x below ∙ ap (λ (y : X). y ∷ drop (suc i) xs) (sym is)))
      in
      subst (λ (ys : List PlacedPrice). IsFirstWithoutFact ys m u) (sym split)
      (first_behind (flat_map f (take i xs)) (f x ++ flat_map f (drop (suc i) xs)) m u are (first_before (f x) (flat_map f (drop (suc i) xs)) m u first))

pub lists_all : {X : Type 0} (f : X → List PlacedPrice) (xs : List X) (i : ℕ) → length xs ≤ i → AreOfFacts (flat_map f (take i xs)) → AreOfFacts (flat_map f xs)
lists_all {X} f xs i past are = subst (λ (ys : List X). AreOfFacts (flat_map f ys)) (take_all i xs past) are

-- ---- what is found missing

pub none_missing : (xs : List PlacedPrice) (found : Option (ℕ × ℕ)) → is_some found ≡ false → IsMissing xs found → AreOfFacts xs
none_missing xs None none h = h
none_missing xs (Some at) none h = absurd (false≢true (sym none))

pub list_missing : {X : Type 0} (f : X → List PlacedPrice) (xs : List X) (i : ℕ) (x : X) (found : Option (ℕ × ℕ)) → i < length xs → x ≡ get_or xs i x → AreOfFacts (flat_map f (take i xs))
    → is_some found ≡ true → IsMissing (f x) found → IsMissing (flat_map f xs) found
list_missing f xs i x None below is are some h = absurd (false≢true some)
list_missing f xs i x (Some at) below is are some h = list_here f xs i x at.0 at.1 below is are h

pub first_missing : (xs ys : List PlacedPrice) (found : Option (ℕ × ℕ)) → is_some found ≡ true → IsMissing xs found → IsMissing (xs ++ ys) found
first_missing xs ys None some h = absurd (false≢true some)
first_missing xs ys (Some at) some h = first_before xs ys at.0 at.1 h

pub then_missing : (xs ys : List PlacedPrice) (found : Option (ℕ × ℕ)) → AreOfFacts xs → IsMissing ys found → IsMissing (xs ++ ys) found
then_missing xs ys None are h = both_of_facts xs ys are h
then_missing xs ys (Some at) are h = first_behind xs ys at.0 at.1 are h
