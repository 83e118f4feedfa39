-- An object that is made lies behind those before it.
use Rattle.std.proofs.Common.{◌≡◌, ℕ, ◌+◌, ◌<◌, ◌≤◌, List, [], ◌∷◌, ◌++◌, length, map, refl, sym, ◌∙◌, ap, arith, append_assoc, length-append}
use Rattle.std.specs.Prelude.{sum_by}
use Rattle.std.specs.List.{flat_map}
use Rattle.std.proofs.lemmas.Grind.{flat_map-append}
use Rattle.std.proofs.lemmas.List.{take-append-le, take_all, append-nil}
use Rattle.std.proofs.lemmas.List.Concat.{flat_map-cons}
use Rattle.bytecode_model.specs.declared.Value.{Value}
use Rattle.bytecode_model.specs.declared.Value.TheVariants.{Int, Long, Ref, Null, Unset}
use Rattle.bytecode_model.specs.Types.{default}
use Rattle.bytecode_model.specs.State.{Object}
use Rattle.bytecode_model.specs.Program.{Program, kind_of}
use Rattle.bytecode_model.specs.Sizes.{object_words}
use Rattle.bytecode_model.specs.WellFormed.{IsValue, AreValues, AreObjects, AreAlike}
use Rattle.image_facts.specs.Words.{words_of, length_words, object_image}
use Rattle.image_facts.specs.Places.{Places, objects_place, object_place, end_of, words_with}
use Rattle.image_facts.proofs.Pieces.{length_in}
use Rattle.image_facts.proofs.Regions.{object_size, statics_size}

-- how many words there are
pub count : (P : Program) (pl : Places) (statics : List Value) (objects : List Object) → AreAlike statics (map default P.statics) → length (words_with P pl statics objects) ≡ end_of P pl objects
count P pl statics objects h =
    let place = object_place P pl objects in
    let w = flat_map (words_of place) statics in
    let heap = flat_map (object_image P pl.type place) objects in
    omega (
      arith,
      length-append pl.front (w ++ (pl.middle ++ heap)),
      length-append w (pl.middle ++ heap),
      length-append pl.middle heap,
      statics_size P place statics h,
      length_in (object_image P pl.type place) (object_words P) (object_size P pl.type place) objects,
    )

-- ---- values that refer to objects which keep their places keep their words

abbrev Keeps : (there place : ℕ → ℕ) → ℕ → Type 0
Keeps there place n = (q : ℕ) → q < n → there q ≡ place q

value_keeps : (there place : ℕ → ℕ) (n : ℕ) (v : Value) → Keeps there place n → IsValue n v → words_of there v ≡ words_of place v
value_keeps there place n (Int i) h k = refl
value_keeps there place n (Long i) h k = refl
value_keeps there place n (Ref p) h k = ap (λ (w : ℕ). w ∷ []) (h p k)
value_keeps there place n Null h k = refl
value_keeps there place n Unset h k = refl

values_keep : (there place : ℕ → ℕ) (n : ℕ) (vs : List Value) → Keeps there place n → AreValues n vs → flat_map (words_of there) vs ≡ flat_map (words_of place) vs
values_keep there place n [] h k = refl
values_keep there place n (v ∷ vs) h k =
    flat_map-cons (words_of there) v vs ∙ ap (λ (ws : List ℕ). ws ++ flat_map (words_of there) vs) (value_keeps there place n v h k.0)
    ∙ ap (λ (ws : List ℕ). words_of place v ++ ws) (values_keep there place n vs h k.1) ∙ sym (flat_map-cons (words_of place) v vs)

object_keeps : (P : Program) (type there place : ℕ → ℕ) (n : ℕ) (o : Object) → Keeps there place n → AreValues n o.parts → object_image P type there o ≡ object_image P type place o
object_keeps P type there place n o h k = ap (λ (ws : List ℕ). type o.kind ∷ (length_words (kind_of P o) (length o.parts) ++ ws)) (values_keep there place n o.parts h k)

objects_keep : (P : Program) (type there place : ℕ → ℕ) (n : ℕ) (os : List Object) → Keeps there place n → AreObjects P n os → flat_map (object_image P type there) os ≡ flat_map (object_image P type place) os
objects_keep P type there place n [] h k = refl
objects_keep P type there place n (o ∷ os) h k =
    let f = object_image P type there in
    let g = object_image P type place in
    flat_map-cons f o os ∙ ap (λ (ws : List ℕ). ws ++ flat_map f os) (object_keeps P type there place n o h k.0.values)
    ∙ ap (λ (ws : List ℕ). g o ++ ws) (objects_keep P type there place n os h k.1) ∙ sym (flat_map-cons g o os)

-- ---- one more object

pub places_stay : (P : Program) (pl : Places) (objects more : List Object) (q : ℕ) → q ≤ length objects → object_place P pl (objects ++ more) q ≡ object_place P pl objects q
places_stay P pl objects more q h = ap (λ (os : List Object). objects_place P pl + sum_by (object_words P) os) (take-append-le q objects more h)

pub last_place : (P : Program) (pl : Places) (objects more : List Object) → object_place P pl (objects ++ more) (length objects) ≡ end_of P pl objects
last_place P pl objects more =
    places_stay P pl objects more (length objects) (omega arith)
    ∙ ap (λ (os : List Object). objects_place P pl + sum_by (object_words P) os) (take_all (length objects) objects (omega arith))

pub object_made : (P : Program) (pl : Places) (statics : List Value) (objects : List Object) (o : Object) → AreValues (length objects) statics → AreObjects P (length objects) objects
    → AreValues (length objects) o.parts → words_with P pl statics (objects ++ o ∷ []) ≡ words_with P pl statics objects ++ object_image P pl.type (object_place P pl objects) o
object_made P pl statics objects o hs ho hv =
    let place = object_place P pl objects in
    let there = object_place P pl (objects ++ o ∷ []) in
    let keeps : Keeps there place (length objects) = λ q h. places_stay P pl objects (o ∷ []) q (omega (arith, h)) in
    let f = object_image P pl.type there in
    let g = object_image P pl.type place in
    let w = flat_map (words_of place) statics in
    let heap = flat_map g objects in
    let one : flat_map f (o ∷ []) ≡ g o = flat_map-cons f o [] ∙ append-nil (f o) ∙ object_keeps P pl.type there place (length objects) o keeps hv in
    let all : flat_map f (objects ++ o ∷ []) ≡ heap ++ g o =
    flat_map-append f objects (o ∷ []) ∙ ap (λ (ws : List ℕ). ws ++ flat_map f (o ∷ [])) (objects_keep P pl.type there place (length objects) objects keeps ho)
    ∙ ap (λ (ws : List ℕ). heap ++ ws) one in
    ap (λ (ws : List ℕ). pl.front ++ (ws ++ (pl.middle ++ flat_map f (objects ++ o ∷ [])))) (values_keep there place (length objects) statics keeps hs)
    ∙ ap (λ (ws : List ℕ). pl.front ++ (w ++ (pl.middle ++ ws))) all
    ∙ ap (λ (ws : List ℕ). pl.front ++ (w ++ ws)) (sym (append_assoc pl.middle heap (g o)))
    ∙ ap (λ (ws : List ℕ). pl.front ++ ws) (sym (append_assoc w (pl.middle ++ heap) (g o)))
    ∙ sym (append_assoc pl.front (w ++ (pl.middle ++ heap)) (g o))
