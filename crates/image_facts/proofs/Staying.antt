-- The first objects stay where they lie.
use Rattle.std.proofs.Common.{◌≡◌, ℕ, zero, suc, ◌+◌, ◌≤◌, Bool, List, [], ◌∷◌, Option, Some, None, length, map, take, refl, sym, ◌∙◌, ap, subst, arith, if◌then◌else◌}
use Rattle.std.specs.Prelude.{sum_by, slice_get, IsSomeAnd}
use Rattle.std.proofs.lemmas.List.Sums.{sum_by-cons}
use Rattle.bytecode_model.specs.declared.Value.{Value}
use Rattle.bytecode_model.specs.Types.{Kind}
use Rattle.bytecode_model.specs.State.{Object}
use Rattle.bytecode_model.specs.Program.{Program, kind_of}
use Rattle.bytecode_model.specs.Sizes.{value_words, header_words, object_words}
use Rattle.bytecode_model.specs.WellFormed.{AreAlike, IsLength, IsObject, AreObjects, first_parts, shape_of}
use Rattle.image_facts.specs.Places.{objects_place}
use Rattle.image_facts.specs.Laws.{FirstObjectsStay}

alike_words : (vs ws : List Value) → AreAlike vs ws → sum_by value_words vs ≡ sum_by value_words ws
alike_words [] [] h = refl
alike_words [] (w ∷ ws) h = absurd h
alike_words (v ∷ vs) [] h = absurd h
alike_words (v ∷ vs) (w ∷ ws) h =
    let one : value_words v ≡ value_words w = ap (λ (b : Bool). if b then 2 else 1) h.0 in
    omega (arith, sum_by-cons value_words v vs, sum_by-cons value_words w ws, one, alike_words vs ws h.2)

-- its words, by its kind and its length
words_by : (P : Program) (n : ℕ) (o : Object) → IsObject P n o → (kind : Option Kind) → kind_of P o ≡ kind
    → object_words P o ≡ header_words kind + sum_by value_words (elim kind [ None ↦ [] | Some k ↦ first_parts P k (length o.parts) ])
words_by P n o h None is = absurd (subst (λ x. IsSomeAnd x (λ k. AreAlike o.parts (first_parts P k (length o.parts)) × IsLength k (length o.parts))) is h.shape)
words_by P n o h (Some k) is =
    let shape = subst (λ x. IsSomeAnd x (λ k. AreAlike o.parts (first_parts P k (length o.parts)) × IsLength k (length o.parts))) is h.shape in
    let header = ap header_words is in
    let parts = alike_words o.parts (first_parts P k (length o.parts)) shape.0 in
    omega (arith, header, parts)

as_many : (P : Program) (n j : ℕ) (o f : Object) → IsObject P n o → IsObject P j f → shape_of o ≡ shape_of f → object_words P o ≡ object_words P f
as_many P n j o f h g same =
    let kind : kind_of P o ≡ kind_of P f = ap (λ (x : ℕ × ℕ). slice_get P.types x.0) same in
    words_by P n o h (kind_of P f) kind
    ∙ ap (λ (size : ℕ). header_words (kind_of P f) + sum_by value_words (elim (kind_of P f) [ None ↦ [] | Some k ↦ first_parts P k size ])) (ap (λ (x : ℕ × ℕ). x.1) same)
    ∙ sym (words_by P j f g (kind_of P f) refl)

heads : (x y : ℕ × ℕ) (xs ys : List (ℕ × ℕ)) → x ∷ xs ≡ y ∷ ys → x ≡ y
heads x y xs ys e = cc

tails : (x y : ℕ × ℕ) (xs ys : List (ℕ × ℕ)) → x ∷ xs ≡ y ∷ ys → xs ≡ ys
tails x y xs ys e = cc

sums : (P : Program) (n j : ℕ) (os fs : List Object) (p : ℕ) → AreObjects P n os → AreObjects P j fs → map shape_of (take (length fs) os) ≡ map shape_of fs → p ≤ length fs
    → sum_by (object_words P) (take p os) ≡ sum_by (object_words P) (take p fs)
sums P n j os fs zero h g e less = refl
sums P n j os [] (suc p) h g e less = absurd (omega (arith, less))
sums P n j [] (f ∷ fs) (suc p) h g e less = absurd (cc)
sums P n j (o ∷ os) (f ∷ fs) (suc p) h g e less =
    let one = as_many P n j o f h.0 g.0 (heads (shape_of o) (shape_of f) (map shape_of (take (length fs) os)) (map shape_of fs) e) in
    let rest = sums P n j os fs p h.1 g.1 (tails (shape_of o) (shape_of f) (map shape_of (take (length fs) os)) (map shape_of fs) e) (omega (arith, less)) in
    sum_by-cons (object_words P) o (take p os) ∙ omega (arith, one, rest) ∙ sym (sum_by-cons (object_words P) f (take p fs))

pub stay : FirstObjectsStay
stay P pl limits s p first well less =
    ap (λ (k : ℕ). objects_place P pl + k) (sums P (length s.objects) (length P.first_objects) s.objects P.first_objects p well.objects first well.first less)
