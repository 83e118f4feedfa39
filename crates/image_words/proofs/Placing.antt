-- The tables lie at their places.
use Rattle.std.proofs.Common.{◌≡◌, ℕ, ◌+◌, ◌*◌, ◌<◌, Bool, true, false, List, [], ◌∷◌, ◌++◌, inr, Some, map, take, length, refl, sym, ap, ap₂, ◌∙◌, subst, arith}
use Rattle.std.specs.Prelude.{slice_get, replicate, sum_by, if◌then◌else◌}
use Rattle.std.specs.List.{flat_map, enumerate_from, range_with_len}
use Rattle.std.specs.Int.{div_ceil}
use Rattle.std.proofs.lemmas.Bool.{cond-false}
use Rattle.std.proofs.lemmas.List.{length-map, length-replicate, length-append}
use Rattle.std.proofs.lemmas.List.FromFn.{length-map-range_with_len, length-enumerate_from}
use Rattle.class_pool.specs.declared.class.ClassFile.{ClassFile}
use Rattle.bytecode_model.specs.Types.{Kind}
use Rattle.bytecode_model.specs.Effects.{component_of}
use Rattle.image_facts.specs.Within.{LieAt}
use Rattle.image_facts.specs.Says.{counted_type, instance_words}
use Rattle.image_facts.specs.Places.{Places, AreFixed}
use Rattle.image_facts.proofs.Pieces.{lie_in, length_in, lie_through}
use Rattle.class_lookup.specs.Hierarchy.{is_interface}
use Rattle.class_lookup.specs.Lookup.{Place}
use Rattle.program_tables.specs.Numbers.{types_of}
use Rattle.program_tables.specs.Resolved.{resolved}
use Rattle.image_words.specs.Slots.{interface_methods, table_slots}
use Rattle.image_words.specs.Layout.{type_words, table_words, interface_words, front_size, statics_size, types_size, tables_size, interfaces_size, classes_of, types_place, tables_place, interfaces_place, table_place, interface_place, outline_of}
use Rattle.image_words.specs.Regions.{supertype_word, type_image, types_region, selected_place, table_image, tables_region, implemented_place, interface_image, interfaces_region, pools_region, methods_region, front_of, middle_of, places_of}
use Rattle.image_words.proofs.Words.{lie_behind, lie_ahead, map_lie, zero_lies, range_get, equal_sum}

-- ---- how long the regions are

pub front_length : (cs : List ClassFile) (pl : Places) → length (front_of cs pl) ≡ front_size
front_length cs pl = refl

five : (n a b c d e : ℕ) (xs : List ℕ) → length xs ≡ n → length (a ∷ b ∷ c ∷ d ∷ e ∷ xs) ≡ 5 + n
five n a b c d e xs h = omega (arith, h)

pub type_length : (cs : List ClassFile) (pl : Places) (e : ℕ × Kind) → length (type_image cs pl e) ≡ type_words cs
type_length cs pl e =
    let n = div_ceil (length (types_of cs)) 32 in
    five n e.0 (instance_words (resolved cs) e.1) (counted_type (resolved cs) (component_of (Some e.1))) (pl.method_table e.0) (pl.interface_table e.0) (map (supertype_word cs e.1) (range_with_len 0 n)) (length-map-range_with_len (supertype_word cs e.1) 0 n)

pub types_length : (cs : List ClassFile) (pl : Places) → length (types_region cs pl) ≡ types_size cs
types_length cs pl =
    let types = types_of cs in
    length_in (type_image cs pl) (λ e. type_words cs) (type_length cs pl) (enumerate_from 0 types)
    ∙ (equal_sum (type_words cs) (enumerate_from 0 types) ∙ ap (λ n. n * type_words cs) (length-enumerate_from 0 types))

table_length : (cs : List ClassFile) (pl : Places) (c : ℕ) → length (table_image cs pl c) ≡ table_words cs c
table_length cs pl c = length-map (table_slots cs c) (selected_place cs pl c)

pub tables_length : (cs : List ClassFile) (pl : Places) → length (tables_region cs pl) ≡ tables_size cs
tables_length cs pl = length_in (table_image cs pl) (table_words cs) (table_length cs pl) (classes_of cs)

interface_case : (g : Place → ℕ) (ms : List Place) (b : Bool) → length (if b then [] else map g ms) ≡ (if b then 0 else length ms)
interface_case g ms true = refl
interface_case g ms false = length-map ms g

interface_length : (cs : List ClassFile) (pl : Places) (c : ℕ) → length (interface_image cs pl c) ≡ interface_words cs c
interface_length cs pl c = interface_case (implemented_place cs pl c) (interface_methods cs) (is_interface cs c)

pub interfaces_length : (cs : List ClassFile) (pl : Places) → length (interfaces_region cs pl) ≡ interfaces_size cs
interfaces_length cs pl =
    let n = length (interface_methods cs) in
    length-append (replicate n 0) (flat_map (interface_image cs pl) (classes_of cs))
    ∙ ap₂ (λ (x : ℕ) (y : ℕ). x + y) (length-replicate n 0) (length_in (interface_image cs pl) (interface_words cs) (interface_length cs pl) (classes_of cs))

-- ---- what lies in the middle is fixed

regroup : (front statics k : ℕ) (n : ℕ) → n ≡ front → front + statics + k ≡ n + statics + k
regroup front statics k n h = ap (λ m. m + statics + k) (sym h)

pub in_middle : (cs : List ClassFile) (k : ℕ) (words : List ℕ) → LieAt (middle_of cs (outline_of cs)) k words → AreFixed (resolved cs) (places_of cs) (types_place cs + k) words
unfolding places_of
in_middle cs k words l = inr (k, regroup front_size (statics_size cs) k (length (front_of cs (outline_of cs))) (front_length cs (outline_of cs)), l)

abbrev Fixed : List ClassFile → ℕ → List ℕ → Type 0
Fixed cs place words = AreFixed (resolved cs) (places_of cs) place words

behind_types : (a b k : ℕ) → a + (b + k) ≡ a + b + k
behind_types a b k = omega arith

tables_fixed : (cs : List ClassFile) (k : ℕ) (words : List ℕ) → LieAt (tables_region cs (outline_of cs)) k words → Fixed cs (tables_place cs + k) words
tables_fixed cs k words l =
    let pl = outline_of cs in
    let rest = interfaces_region cs pl ++ (pools_region cs pl ++ methods_region cs pl) in
    let there : LieAt (middle_of cs pl) (types_size cs + k) words =
    subst (λ n. LieAt (middle_of cs pl) (n + k) words) (types_length cs pl)
    (lie_behind (types_region cs pl) (tables_region cs pl ++ rest) k words (lie_ahead (tables_region cs pl) rest k words l)) in
    subst (λ n. Fixed cs n words) (behind_types (types_place cs) (types_size cs) k) (in_middle cs (types_size cs + k) words there)

interfaces_fixed : (cs : List ClassFile) (k : ℕ) (words : List ℕ) → LieAt (interfaces_region cs (outline_of cs)) k words → Fixed cs (interfaces_place cs + k) words
interfaces_fixed cs k words l =
    let pl = outline_of cs in
    let rest = pools_region cs pl ++ methods_region cs pl in
    let tail = interfaces_region cs pl ++ rest in
    let in_tail : LieAt (tables_region cs pl ++ tail) (tables_size cs + k) words =
    subst (λ n. LieAt (tables_region cs pl ++ tail) (n + k) words) (tables_length cs pl)
    (lie_behind (tables_region cs pl) tail k words (lie_ahead (interfaces_region cs pl) rest k words l)) in
    let there : LieAt (middle_of cs pl) (types_size cs + (tables_size cs + k)) words =
    subst (λ n. LieAt (middle_of cs pl) (n + (tables_size cs + k)) words) (types_length cs pl)
    (lie_behind (types_region cs pl) (tables_region cs pl ++ tail) (tables_size cs + k) words in_tail) in
    subst (λ n. Fixed cs n words) (behind_types (types_place cs) (types_size cs) (tables_size cs + k) ∙ behind_types (tables_place cs) (tables_size cs) k)
    (in_middle cs (types_size cs + (tables_size cs + k)) words there)

-- ---- slots and interface methods

class_listed : (cs : List ClassFile) (c : ℕ) → c < length cs → slice_get (classes_of cs) c ≡ Some c
class_listed cs c lt = let same : 0 + c ≡ c = omega arith in range_get 0 (length cs) c lt ∙ ap Some same

pub slot_fixed : (cs : List ClassFile) (c slot : ℕ) (a : Place) → c < length cs → slice_get (table_slots cs c) slot ≡ Some a → Fixed cs (table_place cs c + slot) (selected_place cs (outline_of cs) c a ∷ [])
slot_fixed cs c slot a lt h =
    let pl = outline_of cs in
    let sum = sum_by (table_words cs) (take c (classes_of cs)) in
    let word = selected_place cs pl c a ∷ [] in
    let table = lie_in (table_image cs pl) (table_words cs) (table_length cs pl) (classes_of cs) c c (class_listed cs c lt) in
    let l = lie_through (tables_region cs pl) sum (table_image cs pl c) slot word table (map_lie (selected_place cs pl c) (table_slots cs c) slot a h) in
    subst (λ n. Fixed cs n word) (behind_types (tables_place cs) sum slot) (tables_fixed cs (sum + slot) word l)

-- the table of zeros
pub zero_fixed : (cs : List ClassFile) (number : ℕ) → number < length (interface_methods cs) → Fixed cs (interfaces_place cs + number) (0 ∷ [])
zero_fixed cs number lt =
    let pl = outline_of cs in
    let n = length (interface_methods cs) in
    interfaces_fixed cs number (0 ∷ []) (lie_ahead (replicate n 0) (flat_map (interface_image cs pl) (classes_of cs)) number (0 ∷ []) (zero_lies n number lt))

own_table : (cs : List ClassFile) (c : ℕ) → is_interface cs c ≡ false → interface_image cs (outline_of cs) c ≡ map (implemented_place cs (outline_of cs) c) (interface_methods cs)
own_table cs c i = cond-false (is_interface cs c) [] (map (implemented_place cs (outline_of cs) c) (interface_methods cs)) i

pub interface_fixed : (cs : List ClassFile) (c number : ℕ) (m : Place) → c < length cs → is_interface cs c ≡ false → slice_get (interface_methods cs) number ≡ Some m
    → Fixed cs (interface_place cs c + number) (implemented_place cs (outline_of cs) c m ∷ [])
interface_fixed cs c number m lt i h =
    let pl = outline_of cs in
    let n = length (interface_methods cs) in
    let tables = flat_map (interface_image cs pl) (classes_of cs) in
    let sum = sum_by (interface_words cs) (take c (classes_of cs)) in
    let word = implemented_place cs pl c m ∷ [] in
    let table = lie_in (interface_image cs pl) (interface_words cs) (interface_length cs pl) (classes_of cs) c c (class_listed cs c lt) in
    let own : LieAt (interface_image cs pl c) number word = subst (λ ws. LieAt ws number word) (sym (own_table cs c i)) (map_lie (implemented_place cs pl c) (interface_methods cs) number m h) in
    let l = lie_through tables sum (interface_image cs pl c) number word table own in
    let behind : LieAt (interfaces_region cs pl) (n + (sum + number)) word =
    subst (λ k. LieAt (interfaces_region cs pl) (k + (sum + number)) word) (length-replicate n 0) (lie_behind (replicate n 0) tables (sum + number) word l) in
    subst (λ k. Fixed cs k word) (ap (λ k. interfaces_place cs + k) (behind_types n sum number) ∙ behind_types (interfaces_place cs) (n + sum) number)
    (interfaces_fixed cs (n + (sum + number)) word behind)
