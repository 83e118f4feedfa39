-- Names and descriptors of methods, and the methods that a class declares.
use Rattle.std.proofs.Common.{◌≡◌, ◌+◌, ◌++◌, ◌∷◌, [], ℕ, Bool, true, false, List, Option, Some, None, map, length, append-nil, append_assoc, refl, sym, ap, ◌∙◌, arith}
use Rattle.std.specs.Prelude.{slice_get, if◌then◌else◌}
use Rattle.std.specs.Option.{option_map_or}
use Rattle.std.specs.List.{filter, range_with_len}
use Rattle.std.proofs.lemmas.List.FromFn.{map-range_with_len_more, length-map-range_with_len, filter_of_map_range_with_len_more}
use Rattle.class_pool.specs.declared.class.Member.{Member}
use Rattle.class_pool.specs.declared.class.ClassFile.{ClassFile}
use Rattle.lists.specs.Lists.{onto}
use Rattle.class_lookup.specs.Parts.{signature_of}
use Rattle.class_lookup.specs.Lookup.{Place, method_at}
use Rattle.class_lookup.specs.Selection.{signature_at}
use Rattle.image_words.specs.Slots.{own_methods, has_slot, own_slots}
use Rattle.image_words.specs.Tables.{first_slots}

-- ---- signatures

pub signature_some : (cs : List ClassFile) (p : Place) (c : ClassFile) (k : Member) → slice_get cs p.0 ≡ Some c → slice_get c.methods p.1 ≡ Some k → signature_at cs p ≡ Some (signature_of c k)
signature_some cs p c k h e =
    ap (λ o. onto o (λ (c : ClassFile). onto (onto o (λ (c : ClassFile). slice_get c.methods p.1)) (λ k. Some (signature_of c k)))) h
    ∙ ap (λ o. onto o (λ k. Some (signature_of c k))) e

pub signature_no_class : (cs : List ClassFile) (p : Place) → slice_get cs p.0 ≡ None → signature_at cs p ≡ None
signature_no_class cs p h = ap (λ o. onto o (λ c. onto (method_at cs p) (λ k. Some (signature_of c k)))) h

pub signature_no_method : (cs : List ClassFile) (p : Place) (c : ClassFile) → slice_get cs p.0 ≡ Some c → slice_get c.methods p.1 ≡ None → signature_at cs p ≡ None
signature_no_method cs p c h e =
    ap (λ o. onto o (λ (c : ClassFile). onto (onto o (λ (c : ClassFile). slice_get c.methods p.1)) (λ k. Some (signature_of c k)))) h
    ∙ ap (λ o. onto o (λ k. Some (signature_of c k))) e

-- ---- the methods that a class declares

abbrev methods_at : (c : ℕ) → ClassFile → List Place
methods_at c k = map (λ (i : ℕ). (c, i)) (range_with_len 0 (length k.methods))

own_case : (c : ℕ) (o : Option ClassFile) → option_map_or (methods_at c) o [] ≡ map (λ (i : ℕ). (c, i)) (range_with_len 0 (length (option_map_or (methods_at c) o [])))
own_case c None = refl
own_case c (Some k) =
    let place : ℕ → Place = λ i. (c, i) in
    ap (λ n. map place (range_with_len 0 n)) (sym (length-map-range_with_len place 0 (length k.methods)))

pub own_listed : (cs : List ClassFile) (c : ℕ) → own_methods cs c ≡ map (λ (i : ℕ). (c, i)) (range_with_len 0 (length (own_methods cs c)))
own_listed cs c = own_case c (slice_get cs c)

pub own_count : (cs : List ClassFile) (c : ℕ) (k : ClassFile) → slice_get cs c ≡ Some k → length (own_methods cs c) ≡ length k.methods
own_count cs c k h =
    let place : ℕ → Place = λ i. (c, i) in
    ap (λ o. length (option_map_or (methods_at c) o [])) h ∙ length-map-range_with_len place 0 (length k.methods)

pub own_none : (cs : List ClassFile) (c : ℕ) → slice_get cs c ≡ None → length (own_methods cs c) ≡ 0
own_none cs c h = ap (λ o. length (option_map_or (methods_at c) o [])) h

pub own_more : (c i : ℕ) (before : List Place) → (before ++ map (λ (j : ℕ). (c, j)) (range_with_len 0 i)) ++ (c, i) ∷ [] ≡ before ++ map (λ (j : ℕ). (c, j)) (range_with_len 0 (i + 1))
own_more c i before =
    append_assoc before (map (λ (j : ℕ). (c, j)) (range_with_len 0 i)) ((c, i) ∷ [])
    ∙ ap (λ xs. before ++ xs) (sym (map-range_with_len_more {X = Place} (λ (j : ℕ). (c, j)) 0 i i (omega arith)))

pub own_all : (cs : List ClassFile) (c n : ℕ) (before : List Place) → length (own_methods cs c) ≡ n → before ++ map (λ (j : ℕ). (c, j)) (range_with_len 0 n) ≡ before ++ own_methods cs c
own_all cs c n before h = ap (λ xs. before ++ xs) (ap (λ k. map (λ (j : ℕ). (c, j)) (range_with_len 0 k)) (sym h) ∙ sym (own_listed cs c))

pub slots_next : (cs : List ClassFile) (c i : ℕ) → first_slots cs c (i + 1) ≡ first_slots cs c i ++ (if has_slot cs (c, i) then (c, i) ∷ [] else [])
slots_next cs c i = filter_of_map_range_with_len_more {X = Place} (has_slot cs) (λ (j : ℕ). (c, j)) 0 i i (omega arith)

pub slot_more : (cs : List ClassFile) (c i : ℕ) → has_slot cs (c, i) ≡ true → first_slots cs c i ++ (c, i) ∷ [] ≡ first_slots cs c (i + 1)
slot_more cs c i h = sym (slots_next cs c i ∙ ap (λ (b : Bool). first_slots cs c i ++ (if b then (c, i) ∷ [] else [])) h)

pub slot_left : (cs : List ClassFile) (c i : ℕ) → has_slot cs (c, i) ≡ false → first_slots cs c i ≡ first_slots cs c (i + 1)
slot_left cs c i h = sym (slots_next cs c i ∙ (ap (λ (b : Bool). first_slots cs c i ++ (if b then (c, i) ∷ [] else [])) h ∙ append-nil (first_slots cs c i)))

pub slots_whole : (cs : List ClassFile) (c n : ℕ) → length (own_methods cs c) ≡ n → first_slots cs c n ≡ own_slots cs c
slots_whole cs c n h = ap (first_slots cs c) (sym h) ∙ ap (filter (has_slot cs)) (sym (own_listed cs c))
