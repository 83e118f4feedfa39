-- The instance fields of a class: those of its direct superclass, then its own.
use Rattle.std.proofs.Common.{◌≡◌, ℕ, suc, ◌+◌, ◌-◌, ◌<◌, ◌≤◌, Bool, true, false, ◌==◌, ◌&&◌, List, [], ◌∷◌, ◌++◌, map, reverse, length, length-append, append-nil, get_or, Option, Some, None, refl, sym, ap, ap₂, ◌∙◌, subst, arith}
use Rattle.std.specs.Prelude.{slice_get, IfSome, if◌then◌else◌}
use Rattle.std.specs.Option.{option_map, option_map_or, option_to_list}
use Rattle.std.specs.List.{filter, flat_map, list_any, range_with_len}
use Rattle.std.proofs.lemmas.List.{reverse-append}
use Rattle.std.proofs.lemmas.Grind.{flat_map-append}
use Rattle.std.proofs.lemmas.List.FromFn.{map-range_with_len_more, get_or-map-range_with_len, length-map-range_with_len}
use Rattle.std.proofs.lemmas.Option.{slice_get_past}
use Rattle.std.proofs.lemmas.Bool.{or_parts, eqb-false, ne_eqb}
use Rattle.program_tables.proofs.ShapeLemmas.{front_get}
use Rattle.program_tables.proofs.ComponentLemmas.{index_below}
use Rattle.class_pool.specs.declared.class.ClassFile.{ClassFile}
use Rattle.bytecode_model.specs.Lists.{onto, index_of}
use Rattle.class_lookup.specs.Hierarchy.{find_class, superclass, superclasses, is_among, is_subclass}
use Rattle.class_lookup.specs.Parts.{superclass_name}
use Rattle.class_lookup.specs.Laws.{AreSuperclasses}
use Rattle.class_lookup.specs.Lookup.{Place, same_place}
use Rattle.program_tables.specs.Numbers.{is_instance_field, own_instance_fields, instance_fields, instance_number}
use Rattle.resolved_program.specs.Instances.{own_lists, instance_counts, fields_above}

-- ---- the first index behind other items

one_more : (q : Option ℕ) (n : ℕ) → onto (option_map (λ k. n + k) q) (λ k. Some (suc k)) ≡ option_map (λ k. suc n + k) q
one_more None n = refl
one_more (Some j) n = let same : suc (n + j) ≡ suc n + j = omega arith in ap (λ k. Some k) same

none_isnt : (k : ℕ) → Some k ≡ None → ⊥
none_isnt k h = cc

behind_case : (b : Bool) (o p q : Option ℕ) (n : ℕ) → (if b then Some 0 else onto p (λ k. Some (suc k))) ≡ None → (p ≡ None → o ≡ option_map (λ k. n + k) q)
    → (if b then Some 0 else onto o (λ k. Some (suc k))) ≡ option_map (λ k. suc n + k) q
behind_case true o p q n h f = absurd (none_isnt 0 h)
behind_case false o None q n h f = ap (λ x. onto x (λ k. Some (suc k))) (f refl) ∙ one_more q n
behind_case false o (Some k) q n h f = absurd (none_isnt (suc k) h)

none_before : (o : Option ℕ) → o ≡ option_map (λ k. 0 + k) o
none_before None = refl
none_before (Some k) = let same : k ≡ 0 + k = omega arith in ap (λ j. Some j) same

pub behind : {A : Type 0} (t : A → Bool) (xs ys : List A) → index_of t xs ≡ None → index_of t (xs ++ ys) ≡ option_map (λ k. length xs + k) (index_of t ys)
behind t [] ys h = none_before (index_of t ys)
behind t (x ∷ xs) ys h = behind_case (t x) (index_of t (xs ++ ys)) (index_of t xs) (index_of t ys) (length xs) h (behind t xs ys)

-- ---- one class more

fields_case : (cs : List ClassFile) (c : ℕ) (o : Option ℕ)
    → flat_map (own_instance_fields cs) (reverse (c ∷ flat_map (superclasses cs) (option_to_list o))) ≡ option_map_or (instance_fields cs) o [] ++ own_instance_fields cs c
fields_case cs c None = append-nil (own_instance_fields cs c)
fields_case cs c (Some s) =
    ap (λ xs. flat_map (own_instance_fields cs) (reverse (c ∷ xs))) (append-nil (superclasses cs s))
    ∙ (ap (flat_map (own_instance_fields cs)) (reverse-append (c ∷ []) (superclasses cs s))
    ∙ (flat_map-append (own_instance_fields cs) (reverse (superclasses cs s)) (c ∷ [])
    ∙ ap (λ xs. instance_fields cs s ++ xs) (append-nil (own_instance_fields cs c))))

pub fields_step : (cs : List ClassFile) → AreSuperclasses cs → (c : ℕ) → instance_fields cs c ≡ fields_above cs c ++ own_instance_fields cs c
fields_step cs are c = ap (λ xs. flat_map (own_instance_fields cs) (reverse xs)) (are.step c) ∙ fields_case cs c (superclass cs c)

pub count_step : (cs : List ClassFile) → AreSuperclasses cs → (c : ℕ) → length (instance_fields cs c) ≡ length (fields_above cs c) + length (own_instance_fields cs c)
count_step cs are c = ap length (fields_step cs are c) ∙ length-append (fields_above cs c) (own_instance_fields cs c)

-- ---- a field isn't among those of other classes

none_kept : (b : Bool) (f : Place) (d i : ℕ) (ps : List Place) → (f.0 == d) ≡ false → index_of (same_place f) ps ≡ None → index_of (same_place f) (if b then (d, i) ∷ ps else ps) ≡ None
none_kept true f d i ps h g = ap₂ (λ (x : Bool) (o : Option ℕ). if x then Some 0 else onto o (λ k. Some (suc k))) (ap (λ x. x && (f.1 == i)) h) g
none_kept false f d i ps h g = g

no_place : (test : Place → Bool) (f : Place) (d : ℕ) → (f.0 == d) ≡ false → (is : List ℕ) → index_of (same_place f) (filter test (map (λ i. (d, i)) is)) ≡ None
no_place test f d h [] = refl
no_place test f d h (i ∷ is) = none_kept (test (d, i)) f d i (filter test (map (λ j. (d, j)) is)) h (no_place test f d h is)

none_in : (test : Place → Bool) (f : Place) (d : ℕ) → (f.0 == d) ≡ false → (o : Option ClassFile)
    → index_of (same_place f) (filter test (option_map_or (λ k. map (λ i. (d, i)) (range_with_len 0 (length k.fields))) o [])) ≡ None
none_in test f d h None = refl
none_in test f d h (Some k) = no_place test f d h (range_with_len 0 (length k.fields))

own_elsewhere : (cs : List ClassFile) (f : Place) (d : ℕ) → (d == f.0) ≡ false → index_of (same_place f) (own_instance_fields cs d) ≡ None
own_elsewhere cs f d h =
    let other : (f.0 == d) ≡ false = ne_eqb f.0 d (λ e. eqb-false d f.0 h (sym e)) in
    none_in (is_instance_field cs) f d other (slice_get cs d)

none_of_both : (f : Place) (xs ys : List Place) → index_of (same_place f) xs ≡ None → index_of (same_place f) ys ≡ None → index_of (same_place f) (xs ++ ys) ≡ None
none_of_both f xs ys h g = behind (same_place f) xs ys h ∙ ap (option_map (λ k. length xs + k)) g

elsewhere : (cs : List ClassFile) (f : Place) (ds : List ℕ) → is_among ds f.0 ≡ false → index_of (same_place f) (flat_map (own_instance_fields cs) (reverse ds)) ≡ None
elsewhere cs f [] h = refl
elsewhere cs f (d ∷ ds) h =
    let parts = or_parts (d == f.0) (is_among ds f.0) h in
    ap (λ xs. index_of (same_place f) (flat_map (own_instance_fields cs) xs)) (reverse-append (d ∷ []) ds)
    ∙ (ap (index_of (same_place f)) (flat_map-append (own_instance_fields cs) (reverse ds) (d ∷ []))
    ∙ none_of_both f (flat_map (own_instance_fields cs) (reverse ds)) (flat_map (own_instance_fields cs) (d ∷ [])) (elsewhere cs f ds parts.1)
    (ap (index_of (same_place f)) (append-nil (own_instance_fields cs d)) ∙ own_elsewhere cs f d parts.0))

above_case : (cs : List ClassFile) (f : Place) (o : Option ℕ) → list_any (λ s. is_among (superclasses cs s) f.0) (option_to_list o) ≡ false
    → index_of (same_place f) (option_map_or (instance_fields cs) o []) ≡ None
above_case cs f None h = refl
above_case cs f (Some s) h = elsewhere cs f (superclasses cs s) (or_parts (is_among (superclasses cs s) f.0) false h).0

-- the index of a field of its class is its index among the class's own, behind those of the superclass
pub number_step : (cs : List ClassFile) → AreSuperclasses cs → (f : Place) → is_subclass cs f.0 f.0 ≡ false
    → instance_number cs f ≡ option_map (λ k. length (fields_above cs f.0) + k) (index_of (same_place f) (own_instance_fields cs f.0))
number_step cs are f h =
    ap (index_of (same_place f)) (fields_step cs are f.0)
    ∙ behind (same_place f) (fields_above cs f.0) (own_instance_fields cs f.0) (above_case cs f (superclass cs f.0) h)

-- ---- the superclasses of a class are fewer than it and they

abbrev pub chain_length : List ClassFile → Option ℕ → ℕ
chain_length cs o = option_map_or (λ s. length (superclasses cs s)) o 0

chain_case : (cs : List ClassFile) (c : ℕ) (o : Option ℕ) → chain_length cs o < length (c ∷ flat_map (superclasses cs) (option_to_list o))
chain_case cs c None = omega arith
chain_case cs c (Some s) = let long : length (superclasses cs s ++ []) ≡ length (superclasses cs s) = ap length (append-nil (superclasses cs s)) in omega (arith, long)

pub chain_falls : (cs : List ClassFile) → AreSuperclasses cs → (c : ℕ) → chain_length cs (superclass cs c) < length (superclasses cs c)
chain_falls cs are c = subst (λ (xs : List ℕ). chain_length cs (superclass cs c) < length xs) (sym (are.step c)) (chain_case cs c (superclass cs c))

-- ---- superclasses are classes

super_case : (cs : List ClassFile) (o : Option ClassFile) (d : ℕ) → onto o (λ k. find_class cs (superclass_name k)) ≡ Some d → d < length cs
super_case cs None d h = let e : None ≡ Some d = h in absurd (cc)
super_case cs (Some k) d h = index_below _ cs d h

pub super_below : (cs : List ClassFile) (c d : ℕ) → superclass cs c ≡ Some d → d < length cs
super_below cs c d h = super_case cs (slice_get cs c) d h

pub supers_below : (cs : List ClassFile) (c : ℕ) (o : Option ℕ) → o ≡ superclass cs c → IfSome o (λ s. s < length cs)
supers_below cs c None h = tt
supers_below cs c (Some d) h = super_below cs c d (sym h)

-- ---- the tables read

pub own_long : (cs : List ClassFile) (own : List (List Place)) → own ≡ own_lists cs → length own ≡ length cs
own_long cs own e = ap length e ∙ length-map-range_with_len (own_instance_fields cs) 0 (length cs)

pub own_read : (cs : List ClassFile) (own : List (List Place)) → own ≡ own_lists cs → (c : ℕ) → c < length cs → (x : List Place) → x ≡ get_or own c x → x ≡ own_instance_fields cs c
own_read cs own e c lt x h = h ∙ (ap (λ xs. get_or xs c x) e ∙ get_or-map-range_with_len (own_instance_fields cs) 0 (length cs) c c x lt (omega arith))

pub counts_long : (cs : List ClassFile) (counts : List ℕ) → counts ≡ instance_counts cs → length counts ≡ length cs
counts_long cs counts e = ap length e ∙ length-map-range_with_len (λ c. length (instance_fields cs c)) 0 (length cs)

pub count_read : (cs : List ClassFile) (counts : List ℕ) → counts ≡ instance_counts cs → (c : ℕ) → c < length cs → (x : ℕ) → x ≡ get_or counts c x → x ≡ length (instance_fields cs c)
count_read cs counts e c lt x h = h ∙ (ap (λ xs. get_or xs c x) e ∙ get_or-map-range_with_len (λ k. length (instance_fields cs k)) 0 (length cs) c c x lt (omega arith))

pub own_past : (cs : List ClassFile) (c : ℕ) → length cs ≤ c → own_instance_fields cs c ≡ []
own_past cs c h = ap (λ o. filter (is_instance_field cs) (option_map_or (λ k. map (λ i. (c, i)) (range_with_len 0 (length k.fields))) o [])) (slice_get_past cs c h)

-- ---- a field by its index

behind_get : {A : Type 0} (xs ys : List A) (j : ℕ) → slice_get (xs ++ ys) (length xs + j) ≡ slice_get ys j
behind_get [] ys j = let same : 0 + j ≡ j = omega arith in ap (slice_get ys) same
behind_get (x ∷ xs) ys j = let same : suc (length xs) + j ≡ suc (length xs + j) = omega arith in ap (slice_get (x ∷ (xs ++ ys))) same ∙ behind_get xs ys j

pub field_own : (cs : List ClassFile) → AreSuperclasses cs → (c i : ℕ) → length (fields_above cs c) ≤ i → slice_get (instance_fields cs c) i ≡ slice_get (own_instance_fields cs c) (i - length (fields_above cs c))
field_own cs are c i le =
    let same : i ≡ length (fields_above cs c) + (i - length (fields_above cs c)) = omega (arith, le) in
    ap (λ xs. slice_get xs i) (fields_step cs are c)
    ∙ (ap (slice_get (fields_above cs c ++ own_instance_fields cs c)) same ∙ behind_get (fields_above cs c) (own_instance_fields cs c) (i - length (fields_above cs c)))

pub field_above : (cs : List ClassFile) → AreSuperclasses cs → (c i : ℕ) → i < length (fields_above cs c) → slice_get (instance_fields cs c) i ≡ slice_get (fields_above cs c) i
field_above cs are c i lt = ap (λ xs. slice_get xs i) (fields_step cs are c) ∙ front_get (fields_above cs c) (own_instance_fields cs c) i lt

-- ---- the counts of the first classes

abbrev pub first_counts : List ClassFile → (many : ℕ) → List ℕ
first_counts cs n = map (λ c. length (instance_fields cs c)) (range_with_len 0 n)

pub counts_more : (cs : List ClassFile) (i : ℕ) (counts pushed : List ℕ) (x : ℕ) → counts ≡ first_counts cs i → pushed ≡ counts ++ x ∷ [] → x ≡ length (instance_fields cs i) → pushed ≡ first_counts cs (i + 1)
counts_more cs i counts pushed x h g e =
    g ∙ (ap₂ (λ (xs : List ℕ) (y : ℕ). xs ++ y ∷ []) h e ∙ sym (map-range_with_len_more (λ c. length (instance_fields cs c)) 0 i i (omega arith)))
