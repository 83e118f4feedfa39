-- Entries of a map looked up, by texts and by other keys.
use Rattle.std.proofs.Common.{◌≡◌, ℕ, Bool, true, false, List, [], ◌∷◌, ◌++◌, Option, Some, None, Vec, Global, Bor, refl, sym, ◌∙◌}
use Rattle.std.specs.Prelude.{nat_eq, is_some, if◌then◌else◌}
use Rattle.std.specs.Option.{option_or, option_map, option_copied}
use Rattle.std.specs.Map.{lookup}
use Rattle.std.proofs.lemmas.Bool.{false≢true, true≢false}
use lib.Pointwise.{pointwise, bytes_decides}

abbrev pub named : List ℕ → Vec ℕ Global → Bool
named q k = pointwise nat_eq q k.items

same_back : (a b : List ℕ) (x y : Bool) → pointwise nat_eq a b ≡ x → pointwise nat_eq b a ≡ y → x ≡ y
same_back a b true true h e = refl
same_back a b false false h e = refl
same_back a b true false h e = absurd (false≢true (sym e ∙ (bytes_decides b a).1 (sym ((bytes_decides a b).0 h))))
same_back a b false true h e = absurd (false≢true (sym h ∙ (bytes_decides a b).1 (sym ((bytes_decides b a).0 e))))

pub text_back : (a b : List ℕ) → pointwise nat_eq a b ≡ pointwise nat_eq b a
text_back a b = same_back a b (pointwise nat_eq a b) (pointwise nat_eq b a) refl refl

lookup_case : {K : Type 0} (t : K → Bool) (e : K × ℕ) (es : List (K × ℕ)) (k : K) (v : ℕ) (b : Bool) → lookup t (es ++ (k, v) ∷ []) ≡ option_or (lookup t es) (if t k then Some v else None)
    → (if b then Some e.1 else lookup t (es ++ (k, v) ∷ [])) ≡ option_or (if b then Some e.1 else lookup t es) (if t k then Some v else None)
lookup_case t e es k v true h = refl
lookup_case t e es k v false h = h

pub lookup_append : {K : Type 0} (t : K → Bool) (es : List (K × ℕ)) (k : K) (v : ℕ) → lookup t (es ++ (k, v) ∷ []) ≡ option_or (lookup t es) (if t k then Some v else None)
lookup_append t [] k v = refl
lookup_append t (e ∷ es) k v = lookup_case t e es k v (t e.0) (lookup_append t es k v)

pub copied_none : (r : Option (Bor ℕ)) → is_some r ≡ false → option_copied r ≡ None
copied_none None h = refl
copied_none (Some x) h = absurd (true≢false h)

pub copied_some : (r : Option (Bor ℕ)) → is_some r ≡ true → is_some (option_copied r) ≡ true
copied_some None h = absurd (false≢true h)
copied_some (Some x) h = refl

pub copied_is : (r : Option (Bor ℕ)) → option_map (λ x. x.now) r ≡ option_copied r
copied_is None = refl
copied_is (Some x) = refl
