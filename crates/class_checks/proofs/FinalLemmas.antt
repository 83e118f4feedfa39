-- Final methods that are overridden.
use Rattle.std.proofs.Common.{◌≡◌, ℕ, zero, suc, ◌+◌, ◌<◌, Bool, true, false, ◌&&◌, ◌||◌, List, [], ◌∷◌, length, Option, Some, None, refl, sym, ap, ◌∙◌, subst, arith}
use Rattle.std.specs.Prelude.{slice_get, option_map}
use Rattle.std.specs.Option.{option_map_or}
use Rattle.std.specs.List.{filter_map, cons_option, list_any, range_with_len}
use Rattle.lists.specs.Lists.{onto}
use Rattle.lists.proofs.Lemmas.{onto_some, map_some}
use Rattle.class_pool.specs.declared.class.Member.{Member}
use Rattle.class_pool.specs.declared.class.ClassFile.{ClassFile}
use Rattle.class_lookup.specs.Parts.{Signature, is_final}
use Rattle.class_lookup.specs.Hierarchy.{superclasses}
use Rattle.class_lookup.specs.Lookup.{Place, declared_in, declared_method}
use Rattle.class_lookup.specs.Selection.{is_method_with, upwards, overrides, signature_at}
use Rattle.program_tables.specs.Placed.{overrides_final, has_overridden_final}

no_left : (a b : Bool) → (a || b) ≡ false → a ≡ false
no_left true b h = h
no_left false b h = refl

no_right : (a b : Bool) → (a || b) ≡ false → b ≡ false
no_right true b h = absurd (let f : true ≡ false = h in cc)
no_right false b h = h

-- ---- numbers that pass

pub number_passes : (p : ℕ → Bool) (s n i : ℕ) → i < n → p (s + i) ≡ true → list_any p (range_with_len s n) ≡ true
number_passes p s zero i lt h = absurd (omega arith)
number_passes p s (suc n) zero lt h = let e : s + 0 ≡ s = omega arith in ap (λ (b : Bool). b || list_any p (range_with_len (s + 1) n)) (ap p (sym e) ∙ h)
number_passes p s (suc n) (suc i) lt h =
    let e : s + 1 + i ≡ s + suc i = omega arith in
    ap (λ (b : Bool). p s || b) (number_passes p (s + 1) n i (omega arith) (ap p e ∙ h)) ∙ or_true (p s)
  where
    or_true : (b : Bool) → (b || true) ≡ true
    or_true true = refl
    or_true false = refl

pub number_more : (p : ℕ → Bool) (s n : ℕ) → list_any p (range_with_len s n) ≡ false → p (s + n) ≡ false → list_any p (range_with_len s (suc n)) ≡ false
number_more p s zero so_far h = let e : s + 0 ≡ s = omega arith in ap (λ (b : Bool). b || false) (ap p (sym e) ∙ h)
number_more p s (suc n) so_far h =
    let e : s + 1 + n ≡ s + suc n = omega arith in
    ap (λ (b : Bool). b || list_any p (range_with_len (s + 1) (suc n))) (no_left (p s) (list_any p (range_with_len (s + 1) n)) so_far)
    ∙ number_more p (s + 1) n (no_right (p s) (list_any p (range_with_len (s + 1) n)) so_far) (ap p e ∙ h)

no_number : (p : ℕ → Bool) → ((i : ℕ) → p i ≡ false) → (xs : List ℕ) → list_any p xs ≡ false
no_number p h [] = refl
no_number p h (x ∷ xs) = ap (λ (b : Bool). b || list_any p xs) (h x) ∙ no_number p h xs

-- ---- methods of a class

pub method_passes : (cs : List ClassFile) (c i : ℕ) (k : ClassFile) → slice_get cs c ≡ Some k → i < length k.methods → overrides_final cs (c, i) ≡ true → true ≡ has_overridden_final cs c
method_passes cs c i k at lt h =
    let z : 0 + i ≡ i = omega arith in
    sym (ap (λ (o : Option ClassFile). option_map_or (λ x. list_any (λ j. overrides_final cs (c, j)) (range_with_len 0 (length x.methods))) o false) at
    ∙ number_passes (λ j. overrides_final cs (c, j)) 0 (length k.methods) i lt (ap (λ (j : ℕ). overrides_final cs (c, j)) z ∙ h))

pub method_more : (cs : List ClassFile) (c i : ℕ) → list_any (λ j. overrides_final cs (c, j)) (range_with_len 0 i) ≡ false → overrides_final cs (c, i) ≡ false
    → list_any (λ j. overrides_final cs (c, j)) (range_with_len 0 (i + 1)) ≡ false
method_more cs c i so_far h =
    let z : 0 + i ≡ i = omega arith in
    let n : suc i ≡ i + 1 = omega arith in
    subst (λ (m : ℕ). list_any (λ j. overrides_final cs (c, j)) (range_with_len 0 m) ≡ false) n
    (number_more (λ j. overrides_final cs (c, j)) 0 i so_far (ap (λ (j : ℕ). overrides_final cs (c, j)) z ∙ h))

-- ---- where no class from a class upwards declares a final method

abbrev pub declares_final : List ClassFile → (class : ℕ) → Bool
declares_final cs d = option_map_or (λ k. list_any is_final k.methods) (slice_get cs d) false

none_of_them : (ms : List Member) (i : ℕ) → list_any is_final ms ≡ false → option_map_or is_final (slice_get ms i) false ≡ false
none_of_them [] i h = refl
none_of_them (m ∷ ms) zero h = no_left (is_final m) (list_any is_final ms) h
none_of_them (m ∷ ms) (suc i) h = none_of_them ms i (no_right (is_final m) (list_any is_final ms) h)

declared_not_final : (cs : List ClassFile) (s : Signature) (d : ℕ) (a : Place) → declares_final cs d ≡ false → declared_method cs s d ≡ Some a → is_method_with is_final cs a ≡ false
declared_not_final cs s d a h e =
    let r = onto_some (slice_get cs d) (λ k. option_map (λ (i : ℕ). (d, i)) (declared_in (λ c. c.methods) s k)) a e in
    let q = map_some (λ (i : ℕ). (d, i)) (declared_in (λ c. c.methods) s r.0) a r.2 in
    ap (is_method_with is_final cs) (sym q.2)
    ∙ (ap (λ (o : Option ClassFile). option_map_or is_final (onto o (λ c. slice_get c.methods q.0)) false) r.1
    ∙ none_of_them r.0.methods q.0 (sym (ap (λ (o : Option ClassFile). option_map_or (λ k. list_any is_final k.methods) o false) r.1) ∙ h))

given_case : (f : Place → Bool) (o : Option Place) (rest : List Place) → ((a : Place) → o ≡ Some a → f a ≡ false) → list_any f rest ≡ false → list_any f (cons_option o rest) ≡ false
given_case f None rest h r = r
given_case f (Some a) rest h r = ap (λ (b : Bool). b || list_any f rest) (h a refl) ∙ r

none_upwards : (cs : List ClassFile) (s : Signature) (g : Place → Bool) (ds : List ℕ) → list_any (declares_final cs) ds ≡ false
    → list_any (λ a. is_method_with is_final cs a && g a) (filter_map (declared_method cs s) ds) ≡ false
none_upwards cs s g [] h = refl
none_upwards cs s g (d ∷ ds) h =
    given_case (λ a. is_method_with is_final cs a && g a) (declared_method cs s d) (filter_map (declared_method cs s) ds)
    (λ a e. ap (λ (b : Bool). b && g a) (declared_not_final cs s d a (no_left (declares_final cs d) (list_any (declares_final cs) ds) h) e))
    (none_upwards cs s g ds (no_right (declares_final cs d) (list_any (declares_final cs) ds) h))

none_at : (cs : List ClassFile) (c i : ℕ) → list_any (declares_final cs) (superclasses cs c) ≡ false → (o : Option Signature)
    → option_map_or (λ s. list_any (λ a. is_method_with is_final cs a && overrides cs (c, i) a) (upwards cs s c)) o false ≡ false
none_at cs c i h None = refl
none_at cs c i h (Some s) = none_upwards cs s (overrides cs (c, i)) (superclasses cs c) h

none_case : (cs : List ClassFile) (c : ℕ) → list_any (declares_final cs) (superclasses cs c) ≡ false → (o : Option ClassFile)
    → option_map_or (λ (k : ClassFile). list_any (λ i. overrides_final cs (c, i)) (range_with_len 0 (length k.methods))) o false ≡ false
none_case cs c h None = refl
none_case cs c h (Some k) = no_number (λ i. overrides_final cs (c, i)) (λ i. none_at cs c i h (signature_at cs (c, i))) (range_with_len 0 (length k.methods))

pub none_is_final : (cs : List ClassFile) (c : ℕ) (chain : List ℕ) → false ≡ list_any (declares_final cs) chain → chain ≡ superclasses cs c → false ≡ has_overridden_final cs c
none_is_final cs c chain h is = sym (none_case cs c (ap (list_any (declares_final cs)) (sym is) ∙ sym h) (slice_get cs c))
