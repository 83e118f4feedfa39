-- The words of the objects that are there at the start.
use Rattle.std.proofs.Common.{◌≡◌, ℕ, zero, suc, ◌+◌, ◌<◌, ◌≤◌, pos, List, [], ◌∷◌, ◌++◌, Option, Some, None, map, take, length, get_or, refl, sym, ap, ap₂, ◌∙◌, arith}
use Rattle.std.specs.Prelude.{slice_get, sum_by}
use Rattle.std.specs.List.{flat_map, range_with_len}
use Rattle.std.proofs.lemmas.List.{length-map, map-append}
use Rattle.std.proofs.lemmas.List.Sums.{sum_by-cons}
use Rattle.std.proofs.lemmas.Option.{slice_get-map}
use Rattle.class_pool.specs.declared.class.ClassFile.{ClassFile}
use Rattle.bytecode_model.specs.declared.Value.TheVariants.{Int}
use Rattle.bytecode_model.specs.Types.{IntType, LongType, Kind, OfClass, OfNumbers, Declared, Numeric, Reference, default}
use Rattle.bytecode_model.specs.Sizes.{value_words, header_words, object_words}
use Rattle.image_facts.specs.Words.{declared_words}
use Rattle.lists.proofs.Lemmas.{none≢some}
use Rattle.class_lookup.specs.Parts.{name_of}
use Rattle.program_tables.specs.Core.{raised_classes}
use Rattle.program_tables.specs.Numbers.{types_of}
use Rattle.program_tables.specs.Resolved.{raised_object, string_objects, resolved}
use Rattle.program_tables.specs.Resolving.{IsResolved}
use Rattle.image_builder.proofs.ListLemmas.{range_first}

-- ---- the types of classes

front_get : {A : Type 0} (xs ys : List A) (i : ℕ) (x : A) → slice_get xs i ≡ Some x → slice_get (xs ++ ys) i ≡ Some x
front_get [] ys i x h = absurd (none≢some x h)
front_get (z ∷ xs) ys zero x h = h
front_get (z ∷ xs) ys (suc i) x h = front_get xs ys i x h

pub class_type : (cs : List ClassFile) (c : ℕ) → c < length cs → slice_get (types_of cs) (8 + c) ≡ Some (OfClass c)
unfolding types_of
class_type cs c lt =
    let same : 8 + c ≡ suc (suc (suc (suc (suc (suc (suc (suc c))))))) = omega arith in
    ap (slice_get (types_of cs)) same
    ∙ front_get (map OfClass (range_with_len 0 (length cs))) _ c (OfClass c)
    (slice_get-map OfClass (range_with_len 0 (length cs)) c ∙ ap (λ (o : Option ℕ). elim o [ None ↦ None | Some d ↦ Some (OfClass d) ]) (range_first (length cs) c lt))

pub char_type : (cs : List ClassFile) → slice_get (types_of cs) 1 ≡ Some (OfNumbers 5)
unfolding types_of
char_type cs = refl

-- there are those that the virtual machine knows
pub core_count : (cs : List ClassFile) → IsResolved cs → 23 ≤ length cs
core_count cs r =
    let long = ap length r.core.names in
    let names = length-map cs name_of in
    let most = take_most 23 (map name_of cs) in
    omega (arith, long, names, most)
  where
    take_most : {A : Type 0} (n : ℕ) (xs : List A) → length (take n xs) ≤ length xs
    take_most zero xs = omega arith
    take_most (suc n) [] = omega arith
    take_most (suc n) (x ∷ xs) = let more = take_most n xs in omega (arith, more)

-- ---- objects that are raised

value_width : (d : Declared) → value_words (default d) ≡ declared_words d
value_width (Numeric IntType) = refl
value_width (Numeric LongType) = refl
value_width (Reference k) = refl

pub values_width : (ds : List Declared) → sum_by value_words (map default ds) ≡ sum_by declared_words ds
values_width [] = refl
values_width (d ∷ ds) =
    sum_by-cons value_words (default d) (map default ds) ∙ (ap₂ (λ (a : ℕ) (b : ℕ). a + b) (value_width d) (values_width ds) ∙ sym (sum_by-cons declared_words d ds))

pub raised_size : (cs : List ClassFile) (c : ℕ) → c < length cs → object_words (resolved cs) (raised_object cs c) ≡ 1 + sum_by declared_words ((resolved cs).fields c)
raised_size cs c lt =
    ap (λ (k : Option Kind). header_words k + sum_by value_words (map default ((resolved cs).fields c))) (class_type cs c lt)
    ∙ ap (λ n. 1 + n) (values_width ((resolved cs).fields c))

-- ---- strings

abbrev pub string_words : List ClassFile → ℕ × List ℕ → List ℕ
string_words cs e = map (object_words (resolved cs)) (string_objects e)

units_width : (units : List ℕ) → sum_by value_words (map (λ unit. Int (pos unit)) units) ≡ length units
units_width [] = refl
units_width (u ∷ units) = let rest = units_width units in let first = sum_by-cons value_words (Int (pos u)) (map (λ unit. Int (pos unit)) units) in omega (arith, rest, first)

pub string_size : (cs : List ClassFile) (n : ℕ) (units : List ℕ) → 23 ≤ length cs → string_words cs (n, units) ≡ (2 + length units) ∷ 2 ∷ []
string_size cs n units le =
    let chars : ℕ → ℕ = λ k. 2 + k in
    let text : 3 < length cs = omega (arith, le) in
    ap₂ (λ (a : ℕ) (b : ℕ). a ∷ b ∷ [])
    (ap (λ (k : Option Kind). header_words k + sum_by value_words (map (λ unit. Int (pos unit)) units)) (char_type cs) ∙ ap chars (units_width units))
    (ap (λ (k : Option Kind). header_words k + 1) (class_type cs 3 text))

pub strings_joined : (cs : List ClassFile) (es : List (ℕ × List ℕ)) → flat_map (string_words cs) es ≡ map (object_words (resolved cs)) (flat_map string_objects es)
strings_joined cs [] = refl
strings_joined cs (e ∷ es) =
    ap (λ ys. string_words cs e ++ ys) (strings_joined cs es) ∙ sym (map-append (object_words (resolved cs)) (string_objects e) (flat_map string_objects es))

pub raised_mapped : (cs : List ClassFile) → map (λ c. object_words (resolved cs) (raised_object cs c)) raised_classes ≡ map (object_words (resolved cs)) (map (raised_object cs) raised_classes)
raised_mapped cs = refl

-- the classes of the objects that are raised
pub raised_within : (cs : List ClassFile) → IsResolved cs → (i : ℕ) → i < length raised_classes → get_or raised_classes i 0 < length cs
raised_within cs r i lt =
    let all = core_count cs r in
    let small = below i lt in
    omega (arith, all, small)
  where
    below : (i : ℕ) → i < 9 → get_or raised_classes i 0 < 22
    below zero lt = omega arith
    below (suc zero) lt = omega arith
    below (suc (suc zero)) lt = omega arith
    below (suc (suc (suc zero))) lt = omega arith
    below (suc (suc (suc (suc zero)))) lt = omega arith
    below (suc (suc (suc (suc (suc zero))))) lt = omega arith
    below (suc (suc (suc (suc (suc (suc zero)))))) lt = omega arith
    below (suc (suc (suc (suc (suc (suc (suc zero))))))) lt = omega arith
    below (suc (suc (suc (suc (suc (suc (suc (suc zero)))))))) lt = omega arith
    below (suc (suc (suc (suc (suc (suc (suc (suc (suc i))))))))) lt = absurd (omega (arith, lt))
