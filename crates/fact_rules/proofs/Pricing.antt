-- The first price without a fact is one, and there is none where each price is of a fact; sections with their prices, by their places.
use Rattle.std.proofs.Common.{◌≡◌, ℕ, zero, suc, ◌<◌, false, true, List, [], ◌∷◌, ◌++◌, length, get_or, Contains, Option, None, Some, IsSome, refl, sym, ap, ◌∙◌, subst, arith}
use Rattle.lists.specs.Members.{heads, tails, at_head, in_tail}
use Rattle.certificates.specs.declared.cert.CertSection.{CertSection}
use Rattle.priced_cert.specs.declared.prices.Price.{Price}
use Rattle.fact_rules.specs.Pricing.{PricedSection, with_prices, PlacedPrice}
use Rattle.fact_rules.specs.Conditions.{AreOfFacts}
use Rattle.fact_rules.specs.Refused.{IsFirstWithoutFact}

pub none_is_some : {X : Type 0} (o : Option X) → o ≡ None → IsSome o → ⊥
none_is_some None is some = let bad : false ≡ true = some in cc
none_is_some (Some x) is some = cc

middle : (before : List PlacedPrice) (x : PlacedPrice) (after : List PlacedPrice) → Contains (before ++ x ∷ after) x
middle [] x after = at_head x after
middle (y ∷ before) x after = in_tail y x (before ++ x ∷ after) (middle before x after)

pub of_facts_apart : (xs : List PlacedPrice) (m u : ℕ) → IsFirstWithoutFact xs m u → AreOfFacts xs → ⊥
of_facts_apart xs m u a facts = none_is_some a.price.fact a.none (facts a.price (subst (λ (ys : List PlacedPrice). Contains ys a.price) (sym a.split) (middle a.before a.price a.after)))

one_price : (before before' after after' : List PlacedPrice) (x y : PlacedPrice) → before ++ x ∷ after ≡ before' ++ y ∷ after' → AreOfFacts before → AreOfFacts before' → x.fact ≡ None → y.fact ≡ None → x ≡ y
one_price [] [] after after' x y split facts facts' none none' = heads x y after after' split
one_price [] (z ∷ before') after after' x y split facts facts' none none' =
    absurd (none_is_some z.fact (subst (λ (w : PlacedPrice). w.fact ≡ None) (heads x z after (before' ++ y ∷ after') split) none) (facts' z (at_head z before')))
one_price (z ∷ before) [] after after' x y split facts facts' none none' =
    absurd (none_is_some z.fact (subst (λ (w : PlacedPrice). w.fact ≡ None) (sym (heads z y (before ++ x ∷ after) after' split)) none') (facts z (at_head z before)))
one_price (z ∷ before) (w ∷ before') after after' x y split facts facts' none none' =
    one_price before before' after after' x y (tails z w (before ++ x ∷ after) (before' ++ y ∷ after') split) (λ p has. facts p (in_tail z p before has)) (λ p has. facts' p (in_tail w p before' has)) none none'

pub one_without_fact : (xs : List PlacedPrice) (m u n v : ℕ) → IsFirstWithoutFact xs m u → IsFirstWithoutFact xs n v → (m ≡ n) × (u ≡ v)
one_without_fact xs m u n v a b =
    let same : a.price ≡ b.price = one_price a.before b.before a.after b.after a.price b.price (sym a.split ∙ b.split) a.first b.first a.none b.none in
    (sym a.method ∙ (ap (λ (x : PlacedPrice). x.method) same ∙ b.method), sym a.node ∙ (ap (λ (x : PlacedPrice). x.node) same ∙ b.node))

-- ---- sections with their prices

pub length_with_prices : (ss : List CertSection) (prices : List (List Price)) → length (with_prices ss prices) ≡ length ss
length_with_prices [] prices = refl
length_with_prices (s ∷ ss) [] = let e = length_with_prices ss [] in omega (arith, e)
length_with_prices (s ∷ ss) (xs ∷ prices) = let e = length_with_prices ss prices in omega (arith, e)

-- each section stands at its place, with the list at that place, if there is one
pub at_with_prices : (ss : List CertSection) (prices : List (List Price)) (i : ℕ) (d : PricedSection) → i < length ss
    → get_or (with_prices ss prices) i d ≡ record { plain = get_or ss i d.plain; prices = get_or prices i [] }
at_with_prices [] prices i d below = absurd (omega arith)
at_with_prices (s ∷ ss) [] zero d below = refl
at_with_prices (s ∷ ss) [] (suc i) d below = at_with_prices ss [] i d (omega arith)
at_with_prices (s ∷ ss) (xs ∷ prices) zero d below = refl
at_with_prices (s ∷ ss) (xs ∷ prices) (suc i) d below = at_with_prices ss prices i d (omega arith)
