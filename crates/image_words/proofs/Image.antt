-- The words of the image, as they lie at its places.
use Rattle.std.proofs.Common.{◌≡◌, ℕ, zero, suc, ◌+◌, ◌<◌, List, [], ◌∷◌, ◌++◌, inl, Some, map, take, length, refl, sym, ap, ap₂, ◌∙◌, subst, append-nil, append_assoc, arith}
use Rattle.std.specs.Prelude.{slice_get, replicate, sum_by}
use Rattle.std.specs.List.{flat_map, enumerate_from, range_with_len}
use Rattle.std.proofs.lemmas.Grind.{flat_map-append}
use Rattle.std.proofs.lemmas.List.{length-replicate}
use Rattle.class_pool.specs.declared.class.ClassFile.{ClassFile}
use Rattle.base.specs.Packed.{PackedHasWords}
use Rattle.bytecode_model.specs.State.{Object}
use Rattle.bytecode_model.specs.Types.{OfNumbers, t_boolean}
use Rattle.bytecode_model.specs.Program.{type_number}
use Rattle.bytecode_model.specs.Sizes.{object_words}
use Rattle.bytecode_model.specs.Effects as effects
use Rattle.bytecode_model.specs.Effects.{Fault, fault_object}
use Rattle.lists.proofs.Lemmas.{some_same}
use Rattle.image_facts.specs.Within.{LieAt}
use Rattle.image_facts.specs.Words.{words_of, object_image}
use Rattle.image_facts.specs.Places.{AreFixed, objects_place, object_place, pool_of}
use Rattle.image_facts.specs.Says.{header_words}
use Rattle.program_tables.specs.Core.{raised_classes}
use Rattle.program_tables.specs.Numbers.{types_of, strings_of}
use Rattle.program_tables.specs.Resolved.{raised_object, string_objects, objects_at_start, boot_of, resolved}
use Rattle.image_words.specs.Layout.{front_size, statics_size, middle_size, method_place, type_place, outline_of}
use Rattle.image_words.specs.Regions.{first_place, header_region, lists_region, statics_region, types_region, tables_region, interfaces_region, pools_region, methods_region, raised_region, strings_region, image_words_of, front_of, middle_of, places_of}
use Rattle.image_words.specs.Laws.{ImageWordsLie, FrontLaw}
use Rattle.image_words.proofs.Words.{lie_behind, lie_ahead, lie_first, map_lie, range_get}
use Rattle.image_words.proofs.Placing.{front_length}
use Rattle.image_words.proofs.Sizes.{middle_length}

-- ---- the objects lie where the outline has them

objects_same : PackedHasWords → (cs : List ClassFile) → objects_place (resolved cs) (outline_of cs) ≡ objects_place (resolved cs) (places_of cs)
unfolding places_of
objects_same law cs =
    let at : ℕ → ℕ → ℕ = λ front middle. front + statics_size cs + middle in
    let pl = outline_of cs in
    let left = ap₂ at (length-replicate {A = ℕ} front_size 0) (length-replicate {A = ℕ} (middle_size cs) 0) in
    let right = ap₂ at (front_length cs pl) (middle_length law cs pl) in
    left ∙ sym right

-- where the objects begin, each lies behind those before it
abbrev behind : List ClassFile → ℕ → ℕ → ℕ
behind cs n p = n + sum_by (object_words (resolved cs)) (take p (objects_at_start cs))

ten : (a b s t u v w x y z : List ℕ) → a ++ (b ++ (s ++ (t ++ (u ++ (v ++ (w ++ (x ++ (y ++ (z ++ []))))))))) ≡ (a ++ b) ++ (s ++ ((t ++ (u ++ (v ++ (w ++ x)))) ++ (y ++ z)))
ten a b s t u v w x y z = simp (append_assoc, append-nil)

pub image_words : PackedHasWords → ImageWordsLie
unfolding image_words_of places_of
image_words law cs =
    let P = resolved cs in
    let pl = outline_of cs in
    let image : (ℕ → ℕ) → Object → List ℕ = object_image P pl.type in
    let raised = map (raised_object cs) raised_classes in
    let strings = flat_map string_objects (enumerate_from 0 (strings_of cs)) in
    let front = front_of cs pl in
    let middle = middle_of cs pl in
    let all : ℕ → List ℕ = λ n. front ++ (flat_map (words_of (behind cs n)) P.first_statics ++ (middle ++ flat_map (image (behind cs n)) (objects_at_start cs))) in
    let apart = ten (header_region cs pl) (lists_region cs pl) (statics_region cs pl) (types_region cs pl) (tables_region cs pl) (interfaces_region cs pl) (pools_region cs pl) (methods_region cs pl) (raised_region cs pl) (strings_region cs pl) in
    let joined = sym (flat_map-append (image (first_place cs pl)) raised strings) in
    apart ∙ (ap (λ (os : List ℕ). front ++ (statics_region cs pl ++ (middle ++ os))) joined ∙ ap all (objects_same law cs))

-- ---- the front

abbrev Fixed : List ClassFile → ℕ → List ℕ → Type 0
Fixed cs place words = AreFixed (resolved cs) (places_of cs) place words

in_front : (cs : List ClassFile) (place : ℕ) (words : List ℕ) → LieAt (front_of cs (outline_of cs)) place words → Fixed cs place words
unfolding places_of
in_front cs place words l = inl l

header_same : PackedHasWords → (cs : List ClassFile) → header_words (resolved cs) (outline_of cs) ≡ header_words (resolved cs) (places_of cs)
unfolding places_of
header_same law cs =
    let P = resolved cs in
    ap (λ (n : ℕ). 0 ∷ method_place cs (boot_of cs) ∷ pool_of P (outline_of cs) (boot_of cs) ∷ length (types_of cs) ∷ 24 ∷ 16 ∷ (n + sum_by (object_words P) (objects_at_start cs)) ∷ replicate 9 0) (objects_same law cs)

header_said : PackedHasWords → (cs : List ClassFile) → Fixed cs 0 (header_words (resolved cs) (places_of cs))
header_said law cs =
    let pl = outline_of cs in
    subst (Fixed cs 0) (header_same law cs) (in_front cs 0 (header_region cs pl) (lie_ahead (header_region cs pl) (lists_region cs pl) 0 (header_region cs pl) (lie_first (header_region cs pl))))

in_lists : (cs : List ClassFile) (k : ℕ) (words : List ℕ) → LieAt (lists_region cs (outline_of cs)) k words → Fixed cs (16 + k) words
in_lists cs k words l = in_front cs (16 + k) words (lie_behind (header_region cs (outline_of cs)) (lists_region cs (outline_of cs)) k words l)

listed : (n i : ℕ) → i < n → slice_get (range_with_len 0 n) i ≡ Some i
listed n i lt = let same : 0 + i ≡ i = omega arith in range_get 0 n i lt ∙ ap Some same

array_listed : (cs : List ClassFile) (i : ℕ) → i < 8 → Fixed cs (16 + i) (type_place cs i ∷ [])
array_listed cs i lt =
    let pl = outline_of cs in
    in_lists cs i (type_place cs i ∷ []) (lie_ahead (map pl.type (range_with_len 0 8)) (map (first_place cs pl) (range_with_len 0 9)) i (type_place cs i ∷ []) (map_lie pl.type (range_with_len 0 8) i i (listed 8 i lt)))

-- the arrays of numbers have the first numbers
array_number : (cs : List ClassFile) (i : ℕ) → i < 8 → type_number (resolved cs) (OfNumbers (t_boolean + i)) ≡ Some i
unfolding types_of
array_number cs zero lt = refl
array_number cs (suc zero) lt = refl
array_number cs (suc (suc zero)) lt = refl
array_number cs (suc (suc (suc zero))) lt = refl
array_number cs (suc (suc (suc (suc zero)))) lt = refl
array_number cs (suc (suc (suc (suc (suc zero))))) lt = refl
array_number cs (suc (suc (suc (suc (suc (suc zero)))))) lt = refl
array_number cs (suc (suc (suc (suc (suc (suc (suc zero))))))) lt = refl
array_number cs (suc (suc (suc (suc (suc (suc (suc (suc i)))))))) lt = absurd (omega (arith, lt))

array_said : (cs : List ClassFile) (i t : ℕ) → i < 8 → type_number (resolved cs) (OfNumbers (t_boolean + i)) ≡ Some t → Fixed cs (16 + i) (type_place cs t ∷ [])
array_said cs i t lt h = subst (λ n. Fixed cs (16 + i) (type_place cs n ∷ [])) (some_same i t (sym (array_number cs i lt) ∙ h)) (array_listed cs i lt)

fault_below : (f : Fault) → fault_object f < 9
fault_below effects.ArithmeticException = omega arith
fault_below effects.ArrayIndexOutOfBoundsException = omega arith
fault_below effects.ArrayStoreException = omega arith
fault_below effects.ClassCastException = omega arith
fault_below effects.IncompatibleClassChangeError = omega arith
fault_below effects.NegativeArraySizeException = omega arith
fault_below effects.NullPointerException = omega arith
fault_below effects.OutOfMemoryError = omega arith
fault_below effects.StackOverflowError = omega arith

raise_place : (i : ℕ) → 16 + (8 + i) ≡ 24 + i
raise_place i = omega arith

pub object_same : PackedHasWords → (cs : List ClassFile) (p : ℕ) → first_place cs (outline_of cs) p ≡ object_place (resolved cs) (places_of cs) (objects_at_start cs) p
object_same law cs p = ap (λ n. behind cs n p) (objects_same law cs)

raise_said : PackedHasWords → (cs : List ClassFile) (i : ℕ) → i < 9 → Fixed cs (24 + i) (object_place (resolved cs) (places_of cs) (objects_at_start cs) i ∷ [])
raise_said law cs i lt =
    let pl = outline_of cs in
    let types = map pl.type (range_with_len 0 8) in
    let objects = map (first_place cs pl) (range_with_len 0 9) in
    let word = first_place cs pl i ∷ [] in
    let l = lie_behind types objects i word (map_lie (first_place cs pl) (range_with_len 0 9) i i (listed 9 i lt)) in
    subst (λ (w : ℕ). Fixed cs (24 + i) (w ∷ [])) (object_same law cs i) (subst (λ n. Fixed cs n word) (raise_place i) (in_lists cs (8 + i) word l))

pub front : PackedHasWords → FrontLaw
unfolding places_of
front law cs = record {
  header = header_said law cs;
  arrays = array_said cs;
  raise_list = λ f. raise_said law cs (fault_object f) (fault_below f);
}
