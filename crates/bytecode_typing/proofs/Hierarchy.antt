-- The kinds of objects, by the class hierarchy and by the verifier.
use Rattle.std.proofs.Common.{◌≡◌, ℕ, zero, suc, ◌<◌, Bool, true, false, List, [], ◌∷◌, ◌++◌, Option, Some, None, refl, sym, ap, ◌∙◌, subst, length, arith, ◌⊎◌, inl, inr}
use Rattle.std.specs.Prelude.{◌||◌, ◌==◌, slice_get, if◌then◌else◌}
use Rattle.std.specs.Option.{IsSomeAnd}
use Rattle.std.proofs.lemmas.Bool.{eqb-true, eq-eqb}
use Rattle.bytecode_model.specs.Lists.{onto, index_of}
use Rattle.bytecode_model.specs.Types.{Kind, OfClass, OfNumbers, OfReferences, same_kind}
use Rattle.bytecode_model.specs.Program.{Program, is_of, type_number, object_class, serializable_class, cloneable_class}
use Rattle.bytecode_model.specs.Effects.{has_class}
use Rattle.bytecode_typing.specs.Tests.{Holds}
use Rattle.bytecode_typing.specs.Assignable.{is_assignable_kind}
use Rattle.bytecode_typing.specs.Fits.{may_be, kind_in}
use Rattle.bytecode_typing.specs.Lawful.{Lawful}
use Rattle.bytecode_typing.proofs.Relations.{is_true, from_true}

pub equal : (p q : ℕ) → Holds (p == q) → p ≡ q
equal p q h = eqb-true p q (is_true (p == q) h)

pub equal_in : (p q : ℕ) → p ≡ q → Holds (p == q)
equal_in p q e = from_true (p == q) (eq-eqb p q e)

pub or_left : (a b : Bool) → Holds a → Holds (a || b)
or_left true b h = tt
or_left false b h = absurd h

pub or_right : (a b : Bool) → Holds b → Holds (a || b)
or_right true b h = tt
or_right false b h = h

pub or_else : (a b : Bool) (G : Type 0) → Holds (a || b) → (Holds a → G) → (Holds b → G) → G
or_else true b G h f g = f tt
or_else false b G h f g = g h

pub not_so : (a : Bool) (G : Type 0) → a ≡ false → Holds a → G
not_so true G e h = absurd (cc)
not_so false G e h = absurd h

module _ (P : Program) where
  pub to_class : (k : Kind) (d : ℕ) → Holds (P.is_interface d || is_of P k (OfClass d)) → Holds (may_be P k (OfClass d))
  to_class (OfClass c) d h = h
  to_class (OfNumbers a) d h = h
  to_class (OfReferences k) d h = h

  pub of_class : (k : Kind) (d : ℕ) → Holds (may_be P k (OfClass d)) → Holds (P.is_interface d || is_of P k (OfClass d))
  of_class (OfClass c) d h = h
  of_class (OfNumbers a) d h = h
  of_class (OfReferences k) d h = h

  pub is_may_be : (k l : Kind) → Holds (is_of P k l) → Holds (may_be P k l)
  is_may_be (OfClass c) (OfClass d) h = or_right (P.is_interface d) _ h
  is_may_be (OfNumbers a) (OfClass d) h = or_right (P.is_interface d) _ h
  is_may_be (OfReferences k) (OfClass d) h = or_right (P.is_interface d) _ h
  is_may_be (OfReferences k) (OfReferences l) h = is_may_be k l h
  is_may_be (OfClass c) (OfNumbers b) h = h
  is_may_be (OfNumbers a) (OfNumbers b) h = h
  is_may_be (OfReferences k) (OfNumbers b) h = h
  is_may_be (OfClass c) (OfReferences l) h = h
  is_may_be (OfNumbers a) (OfReferences l) h = h

  -- a class that isn't an interface is met by what it is alone
  pub is_then : (k : Kind) (d : ℕ) → P.is_interface d ≡ false → Holds (may_be P k (OfClass d)) → Holds (is_of P k (OfClass d))
  is_then k d e h = or_else (P.is_interface d) _ _ (of_class k d h) (λ i. not_so (P.is_interface d) _ e i) (λ g. g)

  pub class_is : (k : Kind) (d : ℕ) → Holds (has_class P (Some k) d) → (c : ℕ) × (k ≡ OfClass c) × Holds (P.extends c d)
  class_is (OfClass c) d h = (c, refl, h)
  class_is (OfNumbers a) d h = absurd h
  class_is (OfReferences l) d h = absurd h

  pub class_is_of : (k : Kind) (d : ℕ) → Holds (has_class P (Some k) d) → Holds (is_of P k (OfClass d))
  class_is_of (OfClass c) d h = h
  class_is_of (OfNumbers a) d h = absurd h
  class_is_of (OfReferences l) d h = absurd h

  module _ (law : Lawful P) where
    pub is_of_self : (k : Kind) → Holds (is_of P k k)
    is_of_self (OfClass c) = law.self c
    is_of_self (OfNumbers a) = equal_in a a refl
    is_of_self (OfReferences k) = is_of_self k

    is_object : (k : Kind) → Holds (is_of P k (OfClass object_class))
    is_object (OfClass c) = law.object c
    is_object (OfNumbers a) = tt
    is_object (OfReferences k) = tt

    -- what an array is as an object
    array_up : (k : Kind) (c d : ℕ) → ((d : ℕ) → is_of P k (OfClass d) ≡ (d == object_class || d == serializable_class || d == cloneable_class)) → Holds (c == object_class || c == serializable_class || c == cloneable_class) → Holds (P.extends c d) → Holds (P.is_interface d || is_of P k (OfClass d))
    array_up k c d form h x =
        or_else (c == object_class || c == serializable_class) _ _ h
        (λ g. or_else (c == object_class) _ _ g
        (λ e. let top : d ≡ object_class = law.root d (subst (λ c. Holds (P.extends c d)) (equal c object_class e) x) in
        or_right (P.is_interface d) _ (subst (λ d. Holds (is_of P k (OfClass d))) (sym top) (is_object k)))
        (λ e. above (subst (λ c. Holds (P.is_interface c)) (sym (equal c serializable_class e)) law.serializable)))
        (λ e. above (subst (λ c. Holds (P.is_interface c)) (sym (equal c cloneable_class e)) law.cloneable))
      where
        split : Holds (P.is_interface d) ⊎ (d ≡ object_class) → Holds (P.is_interface d || is_of P k (OfClass d))
        split (inl i) = or_left (P.is_interface d) _ i
        split (inr e) = or_right (P.is_interface d) _ (subst (λ d. Holds (is_of P k (OfClass d))) (sym e) (is_object k))

        above : Holds (P.is_interface c) → Holds (P.is_interface d || is_of P k (OfClass d))
        above i = split (law.superinterfaces c d i x)

    class_up : (k : Kind) (c d : ℕ) → Holds (is_of P k (OfClass c)) → Holds (P.extends c d) → Holds (P.is_interface d || is_of P k (OfClass d))
    class_up (OfClass b) c d h x = or_right (P.is_interface d) _ (law.through b c d h x)
    class_up (OfNumbers a) c d h x = array_up (OfNumbers a) c d (λ d. refl) h x
    class_up (OfReferences k) c d h x = array_up (OfReferences k) c d (λ d. refl) h x

    -- upwards: as an object may be, and as the verifier takes it
    pub may_up : (k : Kind) (c d : ℕ) → Holds (may_be P k (OfClass c)) → Holds (P.extends c d) → Holds (may_be P k (OfClass d))
    may_up k c d h x = to_class k d (or_else (P.is_interface c) _ _ (of_class k c h) (λ i. split (law.superinterfaces c d i x)) (λ g. class_up k c d g x))
      where
        split : Holds (P.is_interface d) ⊎ (d ≡ object_class) → Holds (P.is_interface d || is_of P k (OfClass d))
        split (inl i) = or_left (P.is_interface d) _ i
        split (inr e) = or_right (P.is_interface d) _ (subst (λ d. Holds (is_of P k (OfClass d))) (sym e) (is_object k))

    pub may_through : (k l j : Kind) → Holds (may_be P k l) → Holds (may_be P l j) → Holds (may_be P k j)
    may_through k (OfClass c) (OfClass d) h a = or_else (P.is_interface d) _ _ a (λ i. to_class k d (or_left (P.is_interface d) _ i)) (λ x. may_up k c d h x)
    may_through (OfNumbers b) (OfNumbers a) (OfClass d) h x = x
    may_through (OfReferences k) (OfReferences l) (OfClass d) h x = x
    may_through (OfNumbers c) (OfNumbers a) (OfNumbers b) h x = equal_in c b (equal c a h ∙ equal a b x)
    may_through (OfReferences k) (OfReferences l) (OfReferences j) h x = may_through k l j h x
    may_through (OfClass c) (OfNumbers a) j h x = absurd h
    may_through (OfReferences k) (OfNumbers a) j h x = absurd h
    may_through (OfClass c) (OfReferences l) j h x = absurd h
    may_through (OfNumbers a) (OfReferences l) j h x = absurd h
    may_through k (OfClass c) (OfNumbers b) h x = absurd x
    may_through k (OfClass c) (OfReferences j) h x = absurd x
    may_through (OfNumbers c) (OfNumbers a) (OfReferences j) h x = absurd x
    may_through (OfReferences k) (OfReferences l) (OfNumbers b) h x = absurd x

    pub may_assign : (k l j : Kind) → Holds (may_be P k l) → Holds (is_assignable_kind P l j) → Holds (may_be P k j)
    may_assign k (OfClass c) (OfClass d) h a = or_else (P.is_interface d) _ _ a (λ i. to_class k d (or_left (P.is_interface d) _ i)) (λ x. may_up k c d h x)
    may_assign (OfNumbers b) (OfNumbers a) (OfClass d) h x = or_right (P.is_interface d) _ x
    may_assign (OfReferences k) (OfReferences l) (OfClass d) h x = or_right (P.is_interface d) _ x
    may_assign (OfNumbers c) (OfNumbers a) (OfNumbers b) h x = equal_in c b (equal c a h ∙ equal a b x)
    may_assign (OfReferences k) (OfReferences l) (OfReferences j) h x = may_assign k l j h x
    may_assign (OfClass c) (OfNumbers a) j h x = absurd h
    may_assign (OfReferences k) (OfNumbers a) j h x = absurd h
    may_assign (OfClass c) (OfReferences l) j h x = absurd h
    may_assign (OfNumbers a) (OfReferences l) j h x = absurd h
    may_assign k (OfClass c) (OfNumbers b) h x = absurd x
    may_assign k (OfClass c) (OfReferences j) h x = absurd x
    may_assign (OfNumbers c) (OfNumbers a) (OfReferences j) h x = absurd x
    may_assign (OfReferences k) (OfReferences l) (OfNumbers b) h x = absurd x

  -- ---- the kinds of objects by number

  pub kind_below : (ks : List ℕ) (p : ℕ) (Q : Kind → Type 0) → IsSomeAnd (kind_in P ks p) Q → p < length ks
  kind_below [] p Q h = absurd h
  kind_below (k ∷ ks) zero Q h = omega arith
  kind_below (k ∷ ks) (suc p) Q h = let g : p < length ks = kind_below ks p Q h in omega arith

  pub kind_grows : (ks more : List ℕ) (p : ℕ) (Q : Kind → Type 0) → IsSomeAnd (kind_in P ks p) Q → IsSomeAnd (kind_in P (ks ++ more) p) Q
  kind_grows [] more p Q h = absurd h
  kind_grows (k ∷ ks) more zero Q h = h
  kind_grows (k ∷ ks) more (suc p) Q h = kind_grows ks more p Q h

pub same_is : (k l : Kind) → Holds (same_kind k l) → k ≡ l
same_is (OfClass c) (OfClass d) h = ap OfClass (equal c d h)
same_is (OfNumbers a) (OfNumbers b) h = ap OfNumbers (equal a b h)
same_is (OfReferences k) (OfReferences l) h = ap OfReferences (same_is k l h)
same_is (OfClass c) (OfNumbers b) h = absurd h
same_is (OfClass c) (OfReferences l) h = absurd h
same_is (OfNumbers a) (OfClass d) h = absurd h
same_is (OfNumbers a) (OfReferences l) h = absurd h
same_is (OfReferences k) (OfClass d) h = absurd h
same_is (OfReferences k) (OfNumbers b) h = absurd h

-- the type number of a kind is the number of that kind
number_found : (k : Kind) (ts : List Kind) (t : ℕ) → index_of (same_kind k) ts ≡ Some t → slice_get ts t ≡ Some k
number_found k [] t e = absurd (cc)
number_found k (l ∷ ts) t e = here (same_kind k l) (index_of (same_kind k) ts) t refl (λ t. number_found k ts t) e
  where
    here : (b : Bool) (o : Option ℕ) (t : ℕ) → same_kind k l ≡ b → ((t : ℕ) → o ≡ Some t → slice_get ts t ≡ Some k) → (if b then Some 0 else onto o (λ j. Some (suc j))) ≡ Some t → slice_get (l ∷ ts) t ≡ Some k
    here true o t is rec e = let z : t ≡ zero = cc in subst (λ t. slice_get (l ∷ ts) t ≡ Some k) (sym z) (ap Some (sym (same_is k l (from_true (same_kind k l) is))))
    here false None t is rec e = absurd (cc)
    here false (Some j) t is rec e = let z : t ≡ suc j = cc in subst (λ t. slice_get (l ∷ ts) t ≡ Some k) (sym z) (rec j refl)

pub type_number_is : (P : Program) (k : Kind) (t : ℕ) → type_number P k ≡ Some t → slice_get P.types t ≡ Some k
type_number_is P k t e = number_found k P.types t e
