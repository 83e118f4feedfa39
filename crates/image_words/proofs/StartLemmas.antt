-- The words of the objects that are there at the start.
use Rattle.std.proofs.Common.{◌≡◌, ℕ, zero, suc, ◌+◌, ◌-◌, ◌*◌, ◌<◌, ◌≤◌, pos, List, [], ◌∷◌, ◌++◌, Option, map, length, replicate, append_assoc, refl, sym, ap, ap₂, ◌∙◌, arith}
use Rattle.std.specs.Prelude.{sum_by}
use Rattle.std.specs.List.{flat_map}
use Rattle.std.proofs.lemmas.List.{length-map}
use Rattle.std.proofs.lemmas.List.Sums.{sum_by-cons}
use Rattle.class_pool.specs.declared.class.ClassFile.{ClassFile}
use Rattle.bytecode_model.specs.declared.Value.TheVariants.{Int}
use Rattle.bytecode_model.specs.State.{Object}
use Rattle.bytecode_model.specs.Types.{IntType, LongType, Kind, Declared, Numeric, Reference, default}
use Rattle.image_facts.specs.Words.{declared_words, words_of, length_words, object_image}
use Rattle.program_tables.specs.Core.{raised_classes}
use Rattle.program_tables.specs.Operands.{string_object}
use Rattle.program_tables.specs.Resolved.{raised_object, string_objects, resolved}
use Rattle.std.proofs.lemmas.Grind.{flat_map-append}
use Rattle.image_words.specs.Layout.{type_place, outline_of}
use Rattle.image_words.specs.Regions.{first_place, objects_image}
use Rattle.image_words.proofs.ObjectLemmas.{class_type, char_type}

-- ---- without values

one_zero : (place : ℕ → ℕ) (d : Declared) → words_of place (default d) ≡ replicate (declared_words d) 0
one_zero place (Numeric IntType) = refl
one_zero place (Numeric LongType) = refl
one_zero place (Reference k) = refl

abbrev zeros : ℕ → List ℕ
zeros n = replicate n 0

more_zeros : (a b : ℕ) → zeros a ++ zeros b ≡ zeros (a + b)
more_zeros zero b = let same : b ≡ 0 + b = omega arith in ap zeros same
more_zeros (suc a) b = let same : suc (a + b) ≡ suc a + b = omega arith in ap (λ (ws : List ℕ). 0 ∷ ws) (more_zeros a b) ∙ ap zeros same

zeros_of : (place : ℕ → ℕ) (ds : List Declared) → flat_map (words_of place) (map default ds) ≡ replicate (sum_by declared_words ds) 0
zeros_of place [] = refl
zeros_of place (d ∷ ds) =
    ap₂ (λ (a : List ℕ) (b : List ℕ). a ++ b) (one_zero place d) (zeros_of place ds)
    ∙ (more_zeros (declared_words d) (sum_by declared_words ds) ∙ ap zeros (sym (sum_by-cons declared_words d ds)))

pub raised_image : (cs : List ClassFile) (type place : ℕ → ℕ) (c : ℕ) → c < length cs → object_image (resolved cs) type place (raised_object cs c) ≡ type (8 + c) ∷ replicate (sum_by declared_words ((resolved cs).fields c)) 0
raised_image cs type place c lt =
    let parts = map default ((resolved cs).fields c) in
    ap (λ (k : Option Kind). type (8 + c) ∷ (length_words k (length parts) ++ flat_map (words_of place) parts)) (class_type cs c lt)
    ∙ ap (λ (ws : List ℕ). type (8 + c) ∷ ws) (zeros_of place ((resolved cs).fields c))

pub raised_images : (cs : List ClassFile) (image : Object → List ℕ) → flat_map (λ c. image (raised_object cs c)) raised_classes ≡ flat_map image (map (raised_object cs) raised_classes)
raised_images cs image = refl

-- ---- strings

units_image : (place : ℕ → ℕ) (units : List ℕ) → flat_map (words_of place) (map (λ unit. Int (pos unit)) units) ≡ units
units_image place [] = refl
units_image place (u ∷ units) = ap (λ (ws : List ℕ). u ∷ ws) (units_image place units)

pub string_image : (cs : List ClassFile) (type place : ℕ → ℕ) (n : ℕ) (units : List ℕ) → 23 ≤ length cs
    → flat_map (object_image (resolved cs) type place) (string_objects (n, units)) ≡ type 1 ∷ length units ∷ (units ++ type 11 ∷ place (9 + 2 * n) ∷ [])
string_image cs type place n units le =
    let chars = map (λ unit. Int (pos unit)) units in
    let rest : List ℕ = type 11 ∷ place (9 + 2 * n) ∷ [] in
    let text : 3 < length cs = omega (arith, le) in
    let before : string_object n - 1 ≡ 9 + 2 * n = omega arith in
    let first = ap (λ (k : Option Kind). type 1 ∷ (length_words k (length chars) ++ flat_map (words_of place) chars)) (char_type cs)
    ∙ ap₂ (λ (m : ℕ) (ws : List ℕ). type 1 ∷ m ∷ ws) (length-map units (λ unit. Int (pos unit))) (units_image place units) in
    let second = ap (λ (k : Option Kind). type 11 ∷ (length_words k 1 ++ place (string_object n - 1) ∷ [])) (class_type cs 3 text)
    ∙ ap (λ (p : ℕ). type 11 ∷ place p ∷ []) before in
    ap₂ (λ (a : List ℕ) (b : List ℕ). a ++ (b ++ [])) first second ∙ refl

-- the words of a string and its array
abbrev pub string_part : List ClassFile → ℕ × List ℕ → List ℕ
string_part cs e = flat_map (object_image (resolved cs) (type_place cs) (first_place cs (outline_of cs))) (string_objects e)

pub string_parts : (cs : List ClassFile) (es : List (ℕ × List ℕ)) → flat_map (string_part cs) es ≡ objects_image cs (outline_of cs) (flat_map string_objects es)
string_parts cs [] = refl
string_parts cs (e ∷ es) =
    ap (λ ys. string_part cs e ++ ys) (string_parts cs es)
    ∙ sym (flat_map-append (object_image (resolved cs) (type_place cs) (first_place cs (outline_of cs))) (string_objects e) (flat_map string_objects es))

joined : (old units : List ℕ) (a n t p : ℕ) → ((old ++ a ∷ n ∷ []) ++ units) ++ t ∷ p ∷ [] ≡ old ++ (a ∷ n ∷ (units ++ t ∷ p ∷ []))
joined old units a n t p = append_assoc (old ++ a ∷ n ∷ []) units (t ∷ p ∷ []) ∙ append_assoc old (a ∷ n ∷ []) (units ++ t ∷ p ∷ [])

pub string_made : (cs : List ClassFile) (string : ℕ) (units old first second new : List ℕ) (chars n t p : ℕ) → 23 ≤ length cs → first ≡ old ++ chars ∷ n ∷ [] → second ≡ first ++ units → new ≡ second ++ t ∷ p ∷ []
    → chars ≡ type_place cs 1 → n ≡ length units → t ≡ type_place cs 11 → p ≡ first_place cs (outline_of cs) (9 + 2 * string) → new ≡ old ++ string_part cs (string, units)
string_made cs string units old first second new chars n t p le e f g hc hn ht hp =
    let words : ℕ → ℕ → ℕ → ℕ → List ℕ = λ c n t p. old ++ (c ∷ n ∷ (units ++ t ∷ p ∷ [])) in
    g ∙ (ap (λ (ws : List ℕ). ws ++ t ∷ p ∷ []) (f ∙ ap (λ (ws : List ℕ). ws ++ units) e)
    ∙ (joined old units chars n t p
    ∙ (ap₂ (λ (x : ℕ) (y : ℕ). words x y t p) hc hn
    ∙ (ap₂ (λ (x : ℕ) (y : ℕ). words (type_place cs 1) (length units) x y) ht hp
    ∙ ap (λ (ws : List ℕ). old ++ ws) (sym (string_image cs (type_place cs) (first_place cs (outline_of cs)) string units le))))))

pub raised_made : (cs : List ClassFile) (c : ℕ) (old first new : List ℕ) (t words : ℕ) → c < length cs → first ≡ old ++ t ∷ [] → new ≡ first ++ replicate (words - 1) 0 → t ≡ type_place cs (8 + c)
    → words ≡ 1 + sum_by declared_words ((resolved cs).fields c) → new ≡ old ++ object_image (resolved cs) (type_place cs) (first_place cs (outline_of cs)) (raised_object cs c)
raised_made cs c old first new t words lt e f ht hw =
    let many = sum_by declared_words ((resolved cs).fields c) in
    let rest : words - 1 ≡ many = omega (arith, hw) in
    f ∙ (ap (λ (ws : List ℕ). ws ++ zeros (words - 1)) e
    ∙ (append_assoc old (t ∷ []) (zeros (words - 1))
    ∙ (ap₂ (λ (a : ℕ) (n : ℕ). old ++ a ∷ zeros n) ht rest ∙ ap (λ (ws : List ℕ). old ++ ws) (sym (raised_image cs (type_place cs) (first_place cs (outline_of cs)) c lt)))))
