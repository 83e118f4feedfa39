-- A local variable that holds a Long is followed by an unset one, also after a store; and what is stored keeps step with its types.
use Rattle.std.proofs.Common.{◌≡◌, ℕ, zero, suc, Bool, true, false, List, [], ◌∷◌, Option, Some, None, refl, sym, ap, ◌∙◌, subst, length}
use Rattle.std.specs.Prelude.{IfSome, if◌then◌else◌, slice_get, ℤ}
use Rattle.bytecode_model.specs.declared.Value.{Value}
use Rattle.bytecode_model.specs.declared.Value.TheVariants.{Int, Long, Ref, Null, Unset}
use Rattle.bytecode_model.specs.Lists.{replaced}
use Rattle.bytecode_model.specs.Types.{is_long}
use Rattle.bytecode_model.specs.Slots.{without_half, stored_at, stored, spread, padded}
use Rattle.bytecode_model.specs.WellFormed.{AreSpaced}
use Rattle.bytecode_typing.specs.Tests.{AllTwo}
use Rattle.bytecode_typing.proofs.Relations.{OptTwo, onto_two, if_two, onto_in}

-- what follows the first half of a Long
abbrev pub Half : Bool → List Value → Type 0
Half false vs = Unit {0}
Half true [] = ⊥
Half true (v ∷ vs) = v ≡ Unset

abbrev pub Spaced : List Value → Type 0
Spaced [] = Unit {0}
Spaced (v ∷ vs) = Half (is_long v) vs × Spaced vs

half_of : (b : Bool) (w : Value) (vs : List Value) → (b ≡ true → w ≡ Unset) → Half b (w ∷ vs)
half_of true w vs h = h refl
half_of false w vs h = tt

half_end : (b : Bool) → b ≡ false → Half b []
half_end false e = tt
half_end true e = absurd (cc)

half_is : (b : Bool) (w : Value) (vs : List Value) → Half b (w ∷ vs) → b ≡ true → w ≡ Unset
half_is true w vs h e = h
half_is false w vs h e = absurd (cc)

end_is : (b : Bool) → Half b [] → b ≡ false
end_is true h = absurd h
end_is false h = refl

pub to_spaced : (vs : List Value) → AreSpaced vs → Spaced vs
to_spaced [] h = tt
to_spaced (v ∷ []) h = (half_end (is_long v) h, tt)
to_spaced (v ∷ w ∷ vs) h = (half_of (is_long v) w vs h.0, to_spaced (w ∷ vs) h.1)

pub from_spaced : (vs : List Value) → Spaced vs → AreSpaced vs
from_spaced [] h = tt
from_spaced (v ∷ []) h = end_is (is_long v) h.0
from_spaced (v ∷ w ∷ vs) h = (half_is (is_long v) w vs h.0, from_spaced (w ∷ vs) h.1)

abbrev cleared : Value → Value
cleared v = if is_long v then Unset else v

cleared_half : (v : Value) (vs : List Value) → Half (is_long (cleared v)) vs
cleared_half (Int n) vs = tt
cleared_half (Long n) vs = tt
cleared_half (Ref p) vs = tt
cleared_half Null vs = tt
cleared_half Unset vs = tt

cleared_unset : (v : Value) → v ≡ Unset → cleared v ≡ Unset
cleared_unset v e = subst (λ w. cleared w ≡ Unset) (sym e) refl

-- a write to the first local variable
stored_first : (v : Value) (b c : Bool) (u : Value) (vs : List Value) → is_long v ≡ b → is_long u ≡ c → Spaced (u ∷ vs) → IfSome (stored_at is_long Unset (u ∷ vs) zero v) Spaced
stored_first v true c u [] e g h = subst (λ b. IfSome (if b then None else Some (v ∷ [])) Spaced) (sym e) tt
stored_first v false c u [] e g h = subst (λ b. IfSome (if b then None else Some (v ∷ [])) Spaced) (sym e) (subst (λ b. Half b []) (sym e) tt, tt)
stored_first v true c u (w ∷ vs) e g h =
    subst (λ b. IfSome (if b then Some (v ∷ Unset ∷ vs) else Some (v ∷ (if is_long u then Unset else w) ∷ vs)) Spaced) (sym e) (subst (λ b. Half b (Unset ∷ vs)) (sym e) refl, (tt, h.1.1))
stored_first v false true u (w ∷ vs) e g h =
    subst (λ b. IfSome (if b then Some (v ∷ Unset ∷ vs) else Some (v ∷ (if is_long u then Unset else w) ∷ vs)) Spaced) (sym e)
    (subst (λ c. Spaced (v ∷ (if c then Unset else w) ∷ vs)) (sym g) (subst (λ b. Half b (Unset ∷ vs)) (sym e) tt, (tt, h.1.1)))
stored_first v false false u (w ∷ vs) e g h =
    subst (λ b. IfSome (if b then Some (v ∷ Unset ∷ vs) else Some (v ∷ (if is_long u then Unset else w) ∷ vs)) Spaced) (sym e)
    (subst (λ c. Spaced (v ∷ (if c then Unset else w) ∷ vs)) (sym g) (subst (λ b. Half b (w ∷ vs)) (sym e) tt, h.1))

-- the first local variable stays unset
half_kept : (b : Bool) (k : ℕ) (v : Value) (ys : List Value) → Half b ys → IfSome (stored is_long Unset ys (suc k) v) (λ zs. Half b zs)
half_kept false k v ys h = any (stored is_long Unset ys (suc k) v)
  where
    any : (o : Option (List Value)) → IfSome o (λ zs. Half false zs)
    any None = tt
    any (Some zs) = tt
half_kept true k v [] h = tt
half_kept true zero v (y ∷ ys) h = onto_in (stored_at is_long Unset ys zero v) (λ zs. Some (cleared y ∷ zs)) (λ zs. Unit {0}) (Half true) (any (stored_at is_long Unset ys zero v)) (λ zs k. cleared_unset y h)
  where
    any : (o : Option (List Value)) → IfSome o (λ zs. Unit {0})
    any None = tt
    any (Some zs) = tt
half_kept true (suc k) v (y ∷ ys) h = onto_in (stored is_long Unset ys (suc k) v) (λ zs. Some (y ∷ zs)) (λ zs. Unit {0}) (Half true) (any (stored is_long Unset ys (suc k) v)) (λ zs k. h)
  where
    any : (o : Option (List Value)) → IfSome o (λ zs. Unit {0})
    any None = tt
    any (Some zs) = tt

both_there : {A : Type 0} (o : Option A) (K L : A → Type 0) → IfSome o K → IfSome o L → IfSome o (λ a. K a × L a)
both_there None K L h g = tt
both_there (Some a) K L h g = (h, g)

pub stored_spaced : (k : ℕ) (v : Value) (ys : List Value) → Spaced ys → IfSome (stored is_long Unset ys k v) Spaced
stored_spaced k v [] h = tt
stored_spaced zero v (y ∷ ys) h = stored_first v (is_long v) (is_long y) y ys refl refl h
stored_spaced (suc zero) v (x ∷ []) h = tt
stored_spaced (suc zero) v (x ∷ y ∷ ys) h =
    onto_in (stored is_long Unset (y ∷ ys) zero v) (λ zs. Some (cleared x ∷ zs)) Spaced Spaced (stored_spaced zero v (y ∷ ys) h.1) (λ zs g. (cleared_half x zs, g))
stored_spaced (suc (suc k)) v (x ∷ xs) h =
    onto_in (stored is_long Unset xs (suc k) v) (λ zs. Some (x ∷ zs)) (λ zs. Half (is_long x) zs × Spaced zs) Spaced
    (both_there (stored is_long Unset xs (suc k) v) (λ zs. Half (is_long x) zs) Spaced (half_kept (is_long x) k v xs h.0) (stored_spaced (suc k) v xs h.1)) (λ zs g. g)

-- as many as before
stored_at_length : (ys : List Value) (k : ℕ) (v : Value) → IfSome (stored_at is_long Unset ys k v) (λ zs. length zs ≡ length ys)
stored_at_length [] k v = tt
stored_at_length (u ∷ []) zero v = last (is_long v)
  where
    last : (b : Bool) → IfSome (if b then None else Some (v ∷ [])) (λ zs. length zs ≡ length (u ∷ []))
    last true = tt
    last false = refl
stored_at_length (u ∷ w ∷ vs) zero v = first (is_long v)
  where
    first : (b : Bool) → IfSome (if b then Some (v ∷ Unset ∷ vs) else Some (v ∷ (if is_long u then Unset else w) ∷ vs)) (λ zs. length zs ≡ length (u ∷ w ∷ vs))
    first true = refl
    first false = refl
stored_at_length (u ∷ []) (suc k) v = tt
stored_at_length (u ∷ w ∷ vs) (suc k) v = onto_in (stored_at is_long Unset (w ∷ vs) k v) (λ zs. Some (u ∷ zs)) (λ zs. length zs ≡ length (w ∷ vs)) _ (stored_at_length (w ∷ vs) k v) (λ zs e. ap suc e)

without_length : (ys : List Value) (k : ℕ) → length (without_half is_long Unset ys k) ≡ length ys
without_length [] k = refl
without_length (v ∷ vs) zero = refl
without_length (v ∷ vs) (suc zero) = refl
without_length (v ∷ vs) (suc (suc k)) = ap suc (without_length vs (suc k))

pub stored_length : (ys : List Value) (k : ℕ) (v : Value) → IfSome (stored is_long Unset ys k v) (λ zs. length zs ≡ length ys)
stored_length ys k v = onward (stored is_long Unset ys k v) (stored_at_length (without_half is_long Unset ys k) k v)
  where
    onward : (o : Option (List Value)) → IfSome o (λ zs. length zs ≡ length (without_half is_long Unset ys k)) → IfSome o (λ zs. length zs ≡ length ys)
    onward None h = tt
    onward (Some zs) h = h ∙ without_length ys k

-- an int in the place of another
half_replaced : (b : Bool) (ys : List Value) (k : ℕ) (x : ℤ) (v : Value) → slice_get ys k ≡ Some (Int x) → Half b ys → IfSome (replaced ys k v) (Half b)
half_replaced false ys k x v e h = any (replaced ys k v)
  where
    any : (o : Option (List Value)) → IfSome o (Half false)
    any None = tt
    any (Some zs) = tt
half_replaced true [] k x v e h = absurd h
half_replaced true (y ∷ ys) zero x v e h = let is : Int x ≡ Unset = cc in absurd (cc)
half_replaced true (y ∷ ys) (suc k) x v e h = onto_in (replaced ys k v) (λ zs. Some (y ∷ zs)) (λ zs. Unit {0}) (Half true) (any (replaced ys k v)) (λ zs g. h)
  where
    any : (o : Option (List Value)) → IfSome o (λ zs. Unit {0})
    any None = tt
    any (Some zs) = tt

pub replaced_spaced : (ys : List Value) (k : ℕ) (x : ℤ) (v : Value) → slice_get ys k ≡ Some (Int x) → is_long v ≡ false → Spaced ys → IfSome (replaced ys k v) Spaced
replaced_spaced [] k x v e s h = tt
replaced_spaced (y ∷ ys) zero x v e s h = (subst (λ b. Half b ys) (sym s) tt, h.1)
replaced_spaced (y ∷ ys) (suc k) x v e s h =
    onto_in (replaced ys k v) (λ zs. Some (y ∷ zs)) (λ zs. Half (is_long y) zs × Spaced zs) Spaced
    (both_there (replaced ys k v) (Half (is_long y)) Spaced (half_replaced (is_long y) ys k x v e h.0) (replaced_spaced ys k x v e s h.1)) (λ zs g. g)

-- arguments as local variables
spread_one : (v : Value) (b : Bool) (vs : List Value) → is_long v ≡ b → Spaced vs → Spaced (if b then v ∷ Unset ∷ vs else v ∷ vs)
spread_one v true vs e h = (subst (λ b. Half b (Unset ∷ vs)) (sym e) refl, (tt, h))
spread_one v false vs e h = (subst (λ b. Half b vs) (sym e) tt, h)

spread_spaced : (vs : List Value) → Spaced (spread is_long Unset vs)
spread_spaced [] = tt
spread_spaced (v ∷ vs) = spread_one v (is_long v) (spread is_long Unset vs) refl (spread_spaced vs)

half_padded : (b : Bool) (n : ℕ) (vs : List Value) → Half b vs → IfSome (padded Unset n vs) (Half b)
half_padded false n vs h = any (padded Unset n vs)
  where
    any : (o : Option (List Value)) → IfSome o (Half false)
    any None = tt
    any (Some zs) = tt
half_padded true n [] h = absurd h
half_padded true zero (v ∷ vs) h = tt
half_padded true (suc n) (v ∷ vs) h = onto_in (padded Unset n vs) (λ zs. Some (v ∷ zs)) (λ zs. Unit {0}) (Half true) (any (padded Unset n vs)) (λ zs g. h)
  where
    any : (o : Option (List Value)) → IfSome o (λ zs. Unit {0})
    any None = tt
    any (Some zs) = tt

padded_spaced : (n : ℕ) (vs : List Value) → Spaced vs → IfSome (padded Unset n vs) Spaced
padded_spaced zero [] h = tt
padded_spaced zero (v ∷ vs) h = tt
padded_spaced (suc n) [] h = onto_in (padded Unset n []) (λ zs. Some (Unset ∷ zs)) Spaced Spaced (padded_spaced n [] tt) (λ zs g. (tt, g))
padded_spaced (suc n) (v ∷ vs) h =
    onto_in (padded Unset n vs) (λ zs. Some (v ∷ zs)) (λ zs. Half (is_long v) zs × Spaced zs) Spaced
    (both_there (padded Unset n vs) (Half (is_long v)) Spaced (half_padded (is_long v) n vs h.0) (padded_spaced n vs h.1)) (λ zs g. g)

pub begin_spaced : (n : ℕ) (vs : List Value) → IfSome (padded Unset n (spread is_long Unset vs)) Spaced
begin_spaced n vs = padded_spaced n _ (spread_spaced vs)

pub padded_length : (n : ℕ) (vs : List Value) → IfSome (padded Unset n vs) (λ zs. length zs ≡ n)
padded_length zero [] = refl
padded_length zero (v ∷ vs) = tt
padded_length (suc n) [] = onto_in (padded Unset n []) (λ zs. Some (Unset ∷ zs)) (λ zs. length zs ≡ n) (λ zs. length zs ≡ suc n) (padded_length n []) (λ zs e. ap suc e)
padded_length (suc n) (v ∷ vs) = onto_in (padded Unset n vs) (λ zs. Some (v ∷ zs)) (λ zs. length zs ≡ n) (λ zs. length zs ≡ suc n) (padded_length n vs) (λ zs e. ap suc e)

-- what is stored keeps step with its types
module _ {A : Type 0} (R : A → Value → Type 0) (la : A → Bool) (top : A) (any : R top Unset) (wide : (a : A) (b : Value) → R a b → la a ≡ true → is_long b ≡ true) (kept : (a : A) (b : Value) → R a b → R (if la a then top else a) (if is_long b then Unset else b)) where
  other_half : (l m : Bool) (a : A) (b : Value) → (l ≡ true → m ≡ true) → (m ≡ true → b ≡ Unset) → R a b → R (if l then top else a) (if m then Unset else b)
  other_half true true a b w e h = any
  other_half true false a b w e h = let no : false ≡ true = w refl in absurd (cc)
  other_half false true a b w e h = subst (λ x. R a x) (e refl) h
  other_half false false a b w e h = h

  stored_first_two : (xs : List A) (ys : List Value) (a : A) (b : Value) → is_long b ≡ la a → R a b → Spaced ys → AllTwo R xs ys → OptTwo (AllTwo R) (stored_at la top xs zero a) (stored_at is_long Unset ys zero b)
  stored_first_two [] ys a b e r s h = tt
  stored_first_two (x ∷ xs) [] a b e r s h = absurd h
  stored_first_two (x ∷ []) (y ∷ []) a b e r s h = if_two (AllTwo R) (la a) (is_long b) _ _ _ _ e tt (r, tt)
  stored_first_two (x ∷ []) (y ∷ y' ∷ ys) a b e r s h = absurd h.1
  stored_first_two (x ∷ x' ∷ xs) (y ∷ []) a b e r s h = absurd h.1
  stored_first_two (x ∷ x' ∷ xs) (y ∷ y' ∷ ys) a b e r s h =
      if_two (AllTwo R) (la a) (is_long b) _ _ _ _ e (r, (any, h.1.1)) (r, (other_half (la x) (is_long y) x' y' (wide x y h.0) (half_is (is_long y) y' ys s.0) h.1.0, h.1.1))

  pub stored_two : (xs : List A) (ys : List Value) (k : ℕ) (a : A) (b : Value) → is_long b ≡ la a → R a b → Spaced ys → AllTwo R xs ys → OptTwo (AllTwo R) (stored la top xs k a) (stored is_long Unset ys k b)
  stored_two [] ys k a b e r s h = tt
  stored_two (x ∷ xs) [] k a b e r s h = absurd h
  stored_two (x ∷ xs) (y ∷ ys) zero a b e r s h = stored_first_two (x ∷ xs) (y ∷ ys) a b e r s h
  stored_two (x ∷ xs) (y ∷ ys) (suc zero) a b e r s h =
      onto_two (AllTwo R) (AllTwo R) (stored_at la top xs zero a) (stored_at is_long Unset ys zero b) _ _ (stored_first_two xs ys a b e r s.1 h.1) (λ c d g. (kept x y h.0, g))
  stored_two (x ∷ xs) (y ∷ ys) (suc (suc k)) a b e r s h =
      onto_two (AllTwo R) (AllTwo R) (stored la top xs (suc k) a) (stored is_long Unset ys (suc k) b) _ _ (stored_two xs ys (suc k) a b e r s.1 h.1) (λ c d g. (h.0, g))
