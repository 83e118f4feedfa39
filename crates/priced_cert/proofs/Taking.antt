-- Lines taken one after the other: parts, and that they give one thing.
use Rattle.std.proofs.Common.{◌≡◌, ℕ, List, [], ◌∷◌, ◌++◌, refl, sym, ◌∙◌, ap, subst, Option, Some, None}
use Rattle.priced_cert.specs.declared.prices.Price.{Price}
use Rattle.priced_cert.specs.declared.prices.RootPrice.{RootPrice}
use Rattle.priced_cert.specs.declared.kind.LineKind.{LineKind}
use Rattle.priced_cert.specs.declared.kind.LineKind.TheVariants.{OfPrice, OfSection, OfAlone, OfBound, Other}
use Rattle.priced_cert.specs.Parting.{Block, Parted, Blank, Versioned, Begun, Ended, kind_of, TakesInside, Takes, TakeAll}
use Rattle.priced_cert.proofs.PriceLemmas.{one_price, one_root_price}

pub take_more : (w s t : Parted) (xs ys : List (List ℕ)) → TakeAll w xs s → TakeAll s ys t → TakeAll w (xs ++ ys) t
take_more w s t [] ys e h = subst (λ (u : Parted). TakeAll u ys t) e h
take_more w s t (x ∷ xs) ys (u, one, rest) h = (u, one, take_more u s t xs ys rest h)

pub take_parts : (w t : Parted) (xs ys : List (List ℕ)) → TakeAll w (xs ++ ys) t → (s : Parted) × TakeAll w xs s × TakeAll s ys t
take_parts w t [] ys h = (w, refl, h)
take_parts w t (x ∷ xs) ys (u, one, rest) = let r = take_parts u t xs ys rest in (r.0, (u, one, r.1), r.2)

pub take_one : (w s t : Parted) (xs : List (List ℕ)) (line : List ℕ) → TakeAll w xs s → Takes s line t → TakeAll w (xs ++ line ∷ []) t
take_one w s t xs line h one = take_more w s t xs (line ∷ []) h (t, one, refl)

one_inside : (k : LineKind) (r : List ℕ) (xs : List RootPrice) (cl : List Block) (cu : Option Block) (line : List ℕ) (s t : Parted)
    → TakesInside k r xs cl cu line s → TakesInside k r xs cl cu line t → s ≡ t
one_inside OfPrice r xs cl None line s t (x, is, behind, e) (y, is', behind', e') =
    e ∙ (ap (λ (z : RootPrice). Begun r (xs ++ z ∷ []) cl None) (one_root_price x y behind.0 behind'.0 (sym is ∙ is')) ∙ sym e')
one_inside OfPrice r xs cl (Some b) line s t (x, is, behind, e) (y, is', behind', e') =
    e ∙ (ap (λ (z : Price). Begun r xs cl (Some (record b { prices = b.prices ++ z ∷ [] }))) (one_price x y behind.0 behind'.0 (sym is ∙ is')) ∙ sym e')
one_inside OfAlone r xs cl cu line s t a b = absurd a
one_inside OfSection r xs cl cu line s t a b = a ∙ sym b
one_inside OfBound r xs cl cu line s t a b = a ∙ sym b
one_inside Other r xs cl None line s t a b = absurd a
one_inside Other r xs cl (Some c) line s t a b = a.1 ∙ sym b.1

pub one_next : (w : Parted) (line : List ℕ) (s t : Parted) → Takes w line s → Takes w line t → s ≡ t
one_next Blank line s t a b = a.1 ∙ sym b.1
one_next Versioned line s t a b = a.1 ∙ sym b.1
one_next (Begun r xs cl cu) line s t a b = one_inside (kind_of line) r xs cl cu line s t a b
one_next (Ended r xs bs bound) line s t a b = absurd a

pub one_end : (w : Parted) (lines : List (List ℕ)) (s t : Parted) → TakeAll w lines s → TakeAll w lines t → s ≡ t
one_end w [] s t a b = a ∙ sym b
one_end w (x ∷ xs) s t (u, one, rest) (v, one', rest') =
    one_end v xs s t (subst (λ (z : Parted). TakeAll z xs s) (one_next w x u v one one') rest) rest'
