-- Methods that are called by a selection have slots.
use Rattle.std.proofs.Common.{◌≡◌, ℕ, zero, suc, ◌<◌, Bool, true, false, not, eqb, List, [], ◌∷◌, ◌++◌, inl, inr, Option, Some, None, map, length, refl, sym, ap, ◌∙◌, subst, arith}
use Rattle.std.specs.Prelude.{slice_get, slice_index}
use Rattle.std.specs.Option.{option_map_or, option_or, IsSomeAnd}
use Rattle.std.specs.List.{list_any, range_with_len}
use Rattle.std.proofs.lemmas.Bool.{false≢true, both_ways, eqb-true, or_cases, and_from, cases_Bool, cond-true, cond-false, false_from_ne_true}
use Rattle.std.proofs.lemmas.Option.{slice_get_within}
use Rattle.program_laws.proofs.Objects.{left_get}
use Rattle.class_pool.specs.declared.class.Member.{Member}
use Rattle.class_pool.specs.declared.class.ClassFile.{ClassFile}
use Rattle.bytecode_model.specs.Program.{object_class}
use Rattle.lists.specs.Lists.{index_of, first_some}
use Rattle.lists.proofs.Searching.{first_found}
use Rattle.class_lookup.specs.Parts.{Signature, signature_of, same_signature, is_init}
use Rattle.class_lookup.specs.Hierarchy.{superclasses, is_interface, is_among, extends, IsAcyclic}
use Rattle.class_lookup.specs.Lookup.{Place, same_place, declared_method, find_method}
use Rattle.class_lookup.specs.Selection.{signature_at, is_virtual, select}
use Rattle.class_lookup.specs.Laws.{IsFound, FoundMethods, MethodLookupLaw, in_superclasses, in_all_superinterfaces}
use Rattle.class_lookup.proofs.Hierarchies.{IsUpward, upward_way, super_is_above}
use Rattle.class_lookup.proofs.Lookups.{declared_is}
use Rattle.class_lookup.proofs.Overriding.{has, place_same}
use Rattle.class_lookup.proofs.Searches.{none≢some, some_same, signature_same, same_is_signature}
use Rattle.class_lookup.proofs.Selecting.{method_declared, method_is, is_method}
use Rattle.class_lookup.proofs.SelectionLaws.{select_interface}
use Rattle.program_tables.specs.Numbers.{places_of}
use Rattle.program_tables.specs.Resolving.{IsResolved}
use Rattle.program_laws.proofs.ClassLaws.{OrderLaws}
use Rattle.program_laws.proofs.Facts.{distinct, map_or_some}
use Rattle.program_laws.proofs.Hierarchies.{above_class, superclass_is_class}
use Rattle.program_laws.proofs.Selections.{has_left, has_right, has_filter, has_range}
use Rattle.program_laws.proofs.Numbering.{listed, place_has}
use Rattle.program_laws.proofs.Programs.{some_and, list_at}
use Rattle.image_words.specs.Slots.{are_named_alike, interface_methods, inherited_methods, own_methods, has_slot, own_slots, slots, table_slots, slot_of}
use Rattle.image_laws.specs.Laws.{SlotSelects, CallsHaveSlots}
use Rattle.image_laws.proofs.Items.{with_more, with_any, first_place}
use Rattle.image_laws.proofs.SlotLemmas.{above_slots, slots_step, begins, made_for}

-- ---- signatures

pub alike : (cs : List ClassFile) (m a : Place) (s : Signature) → signature_at cs m ≡ Some s → signature_at cs a ≡ Some s → are_named_alike cs m a ≡ true
alike cs m a s sm sa =
    ap (λ o. option_map_or (λ s. option_map_or (same_signature s) (signature_at cs a) false) o false) sm
    ∙ (ap (λ o. option_map_or (same_signature s) o false) sa ∙ same_is_signature s s refl)

pub of_alike : (cs : List ClassFile) (m a : Place) (s : Signature) → signature_at cs m ≡ Some s → are_named_alike cs m a ≡ true → signature_at cs a ≡ Some s
of_alike cs m a s sm h =
    let t = map_or_some (same_signature s) (signature_at cs a) (sym (ap (λ o. option_map_or (λ s. option_map_or (same_signature s) (signature_at cs a) false) o false) sm) ∙ h) in
    t.1 ∙ ap Some (sym (signature_same s t.0 t.2))

-- ---- a class's superclasses are no interfaces

class_below : (cs : List ClassFile) (r : IsResolved cs) (n c d : ℕ) → slice_index r.acyclic.ranks c < n → is_interface cs c ≡ false → IsUpward cs c d → is_interface cs d ≡ false
class_below cs r zero c d lt i u = absurd (omega (arith, lt))
class_below cs r (suc n) c d lt i u =
    elim (upward_way cs r.acyclic c d u) [
      | inl e ↦ ap (is_interface cs) (sym e) ∙ i
      | inr w ↦
          let lower = r.acyclic.ranked.falls c w.0 (super_is_above cs c w.0 w.1) in
          class_below cs r n w.0 d (omega (arith, lower, lt)) (false_from_ne_true (is_interface cs w.0) (superclass_is_class cs r c w.0 w.1)) w.2
    ]

pub upward_class : (cs : List ClassFile) → IsResolved cs → (c d : ℕ) → is_interface cs c ≡ false → IsUpward cs c d → is_interface cs d ≡ false
upward_class cs r c d i u = class_below cs r (length cs) c d (r.acyclic.ranked.bounded c) i u

-- ---- the slot of an own method

own_listed : (cs : List ClassFile) (m : Place) (k : ClassFile) (x : Member) → slice_get cs m.0 ≡ Some k → slice_get k.methods m.1 ≡ Some x → has (own_methods cs m.0) m ≡ true
own_listed cs m k x h e =
    let lt = slice_get_within k.methods m.1 x e in
    ap (λ o. has (option_map_or (λ k. map (λ (i : ℕ). (m.0, i)) (range_with_len 0 (length k.methods))) o []) m) h ∙ has_range m.0 (length k.methods) 0 m.1 (omega arith) (omega (arith, lt))

own_there : (cs : List ClassFile) (m : Place) (s : Signature) → signature_at cs m ≡ Some s → is_virtual cs m ≡ true → not (is_init s) ≡ true → has (own_slots cs m.0) m ≡ true
own_there cs m s sm v i =
    let d = method_is cs m s sm in
    has_filter (has_slot cs) (own_methods cs m.0) m (own_listed cs m d.owner d.member d.class d.there)
    (and_from (is_virtual cs m) (not (option_map_or is_init (signature_at cs m) false)) v (ap (λ o. not (option_map_or is_init o false)) sm ∙ i))

own_slot : (cs : List ClassFile) → IsAcyclic cs → (m : Place) → has (own_slots cs m.0) m ≡ true → has (slots cs m.0) m ≡ true
own_slot cs a m h =
    let w = with_more (are_named_alike cs) (above_slots cs m.0 ++ own_slots cs m.0) (inherited_methods cs m.0) in
    ap (λ xs. has xs m) (slots_step cs a m.0 ∙ w.1) ∙ has_left (above_slots cs m.0 ++ own_slots cs m.0) w.0 m (has_right (above_slots cs m.0) (own_slots cs m.0) m h)

-- ---- a slot by a test, in the tables below

abbrev HasSlot : List ClassFile → (named : ℕ) → (test : Place → Bool) → Type 0
HasSlot cs named test = (i : ℕ) × (a : Place) × (index_of test (table_slots cs named) ≡ Some i) × (test a ≡ true) × (has (slots cs named) a ≡ true)
    × ((c : ℕ) → is_interface cs c ≡ false → IsUpward cs c named → slice_get (table_slots cs c) i ≡ Some a)

slot_by : (cs : List ClassFile) → IsAcyclic cs → (named : ℕ) (test : Place → Bool) → is_interface cs named ≡ false → list_any test (slots cs named) ≡ true → HasSlot cs named test
slot_by cs ac named test i h =
    let f = first_place test (slots cs named) h in (
      f.0,
      f.1,
      ap (index_of test) (cond-false (is_interface cs named) [] (slots cs named) i) ∙ f.2,
      f.4,
      place_has (slots cs named) f.0 f.1 f.3,
      λ c j u.
          let b = begins cs ac c named u in
          ap (λ xs. slice_get xs f.0) (cond-false (is_interface cs c) [] (slots cs c) j)
          ∙ (ap (λ xs. slice_get xs f.0) b.1 ∙ left_get (slots cs named) b.0 f.0 f.1 f.3),
    )

-- ---- methods of classes

-- java/lang/Object has no other method than initialization methods
pub not_of_object : (cs : List ClassFile) → IsResolved cs → (named : ℕ) (s : Signature) (m : Place) → IsFound cs named s (λ k. k.methods) m → not (is_init s) ≡ true → m.0 ≡ object_class → ⊥
not_of_object cs r named s m f plain o =
    let all = r.core.object_methods f.owner (ap (slice_get cs) (sym o) ∙ f.class) in
    let init = list_at (λ m. is_init (signature_of f.owner m)) f.owner.methods m.1 f.member all f.there in
    false≢true (ap not (sym (ap is_init (sym f.signature) ∙ init)) ∙ plain)

-- a method that is found is above the class, and in a class it is that of a superclass
found_upward : OrderLaws → (cs : List ClassFile) → IsResolved cs → (named : ℕ) (s : Signature) (m : Place) → IsFound cs named s (λ k. k.methods) m → not (is_init s) ≡ true → is_interface cs m.0 ≡ false → IsUpward cs named m.0
found_upward order cs r named s m f plain i =
    elim (above_class order cs r named m.0 f.above) [
      | inl u ↦ u
      | inr u ↦ elim u [
        | inl e ↦ absurd (both_ways (is_interface cs m.0) i e)
        | inr o ↦ absurd (not_of_object cs r named s m f plain o)
      ]
    ]

class_call : OrderLaws → (cs : List ClassFile) → IsResolved cs → (named : ℕ) (s : Signature) (m : Place) → is_interface cs named ≡ false → IsFound cs named s (λ k. k.methods) m → not (is_init s) ≡ true → is_virtual cs m ≡ true → is_interface cs m.0 ≡ false
    → IsSomeAnd (slot_of cs named m) (λ slot. SlotSelects cs named slot m)
class_call order cs r named s m n f plain v i =
    let sm = is_method cs m s (record { owner = f.owner; class = f.class; member = f.member; there = f.there; signature = f.signature }) in
    let u = found_upward order cs r named s m f plain i in
    let own = own_slot cs r.acyclic m (own_there cs m s sm v plain) in
    let b = begins cs r.acyclic named m.0 u in
    let there = ap (λ xs. has xs m) b.1 ∙ has_left (slots cs m.0) b.0 m own in
    let h = slot_by cs r.acyclic named (same_place m) n there in
    let at = ap (λ t. index_of t (table_slots cs named)) (cond-false (is_interface cs m.0) (are_named_alike cs m) (same_place m) i) ∙ h.2 in
    some_and (slot_of cs named m) (λ slot. SlotSelects cs named slot m) h.0 at (λ c j w.
    some_and (slice_get (table_slots cs c) h.0) (λ a. select cs c a ≡ select cs c m) h.1 (h.5 c j w) (ap (select cs c) (sym (place_same m h.1 h.3))))

-- ---- methods of interfaces

pub interface_listed : (cs : List ClassFile) (m : Place) (k : ClassFile) (x : Member) → slice_get cs m.0 ≡ Some k → slice_get k.methods m.1 ≡ Some x → is_interface cs m.0 ≡ true → has (interface_methods cs) m ≡ true
unfolding interface_methods
interface_listed cs m k x h e i = has_filter (λ m. is_interface cs m.0) (places_of (λ k. k.methods) cs) m (listed (λ k. k.methods) cs m k x h e) i

-- a search that finds nothing in a list finds nothing at any of its numbers
first_case : (h : ℕ → Option Place) (z : ℕ) (xs : List ℕ) (x : ℕ) (y : Place) → is_among (z ∷ xs) x ≡ true → h x ≡ Some y → (o : Option Place) → h z ≡ o → first_some (o ∷ map h xs) ≡ None
    → (is_among xs x ≡ true → first_some (map h xs) ≡ None → ⊥) → ⊥
first_case h z xs x y e f None q n later =
    elim (or_cases (eqb z x) (is_among xs x) e) [
      | inl s ↦ none≢some y (sym q ∙ (ap h (eqb-true z x s) ∙ f))
      | inr s ↦ later s n
    ]
first_case h z xs x y e f (Some w) q n later = none≢some w (sym n)

first_there : (h : ℕ → Option Place) (xs : List ℕ) (x : ℕ) (y : Place) → is_among xs x ≡ true → h x ≡ Some y → first_some (map h xs) ≡ None → ⊥
first_there h [] x y e f n = false≢true e
first_there h (z ∷ xs) x y e f n = first_case h z xs x y e f (h z) refl n (λ s k. first_there h xs x y s f k)

declared_case : (cs : List ClassFile) → IsResolved cs → (named : ℕ) (s : Signature) (m a : Place) → is_interface cs named ≡ false → find_method cs named s ≡ Some m → is_interface cs m.0 ≡ true
    → declared_method cs s a.0 ≡ Some a → IsUpward cs named a.0 → find_method cs named s ≡ option_or (in_superclasses cs s named) (in_all_superinterfaces cs s named)
    → (o : Option Place) → in_superclasses cs s named ≡ o → ⊥
declared_case cs r named s m a n found i da u looked None h = first_there (declared_method cs s) (superclasses cs named) a.0 a u da h
declared_case cs r named s m a n found i da u looked (Some y) h =
    let same : m ≡ y = some_same m y (sym found ∙ (looked ∙ ap (λ o. option_or o (in_all_superinterfaces cs s named)) h)) in
    let f = first_found (declared_method cs s) (superclasses cs named) y h in
    let own = (declared_is (λ k. k.methods) cs s f.0 y f.2).own in
    let up : IsUpward cs named m.0 = subst (IsUpward cs named) (sym (ap (λ (x : Place). x.0) same ∙ own)) f.1 in
    both_ways (is_interface cs m.0) (upward_class cs r named m.0 n up) i

-- no method that the class or a superclass declares has the name and descriptor of a method of an interface that is found
none_declared : (cs : List ClassFile) → IsResolved cs → MethodLookupLaw → (named : ℕ) (s : Signature) (m a : Place) → is_interface cs named ≡ false → find_method cs named s ≡ Some m → not (is_init s) ≡ true → is_interface cs m.0 ≡ true
    → signature_at cs a ≡ Some s → IsUpward cs named a.0 → ⊥
none_declared cs r looked named s m a n found plain i sa u =
    declared_case cs r named s m a n found i (method_declared cs (distinct cs r) a s sa) u
    ((looked cs r.acyclic named s).of_class plain n) (in_superclasses cs s named) refl

-- the same is selected for methods of interfaces of one name and descriptor
same_selected : (cs : List ClassFile) (c : ℕ) (m a : Place) (s : Signature) → signature_at cs m ≡ Some s → signature_at cs a ≡ Some s → is_interface cs m.0 ≡ true → is_interface cs a.0 ≡ true → select cs c a ≡ select cs c m
same_selected cs c m a s sm sa im ia = select_interface cs c a s sa ia ∙ sym (select_interface cs c m s sm im)

interface_call : (cs : List ClassFile) → IsResolved cs → MethodLookupLaw → (named : ℕ) (s : Signature) (m : Place) → is_interface cs named ≡ false → find_method cs named s ≡ Some m → IsFound cs named s (λ k. k.methods) m → not (is_init s) ≡ true → is_interface cs m.0 ≡ true
    → IsSomeAnd (slot_of cs named m) (λ slot. SlotSelects cs named slot m)
interface_call cs r looked named s m n found f plain i =
    let sm = is_method cs m s (record { owner = f.owner; class = f.class; member = f.member; there = f.there; signature = f.signature }) in
    let inherited = has_filter (λ m. extends cs named m.0) (interface_methods cs) m (interface_listed cs m f.owner f.member f.class f.there i) f.above in
    let there = ap (list_any (are_named_alike cs m)) (slots_step cs r.acyclic named)
    ∙ with_any (are_named_alike cs) (above_slots cs named ++ own_slots cs named) (inherited_methods cs named) m inherited (alike cs m m s sm sm) in
    let h = slot_by cs r.acyclic named (are_named_alike cs m) n there in
    let at = ap (λ t. index_of t (table_slots cs named)) (cond-true (is_interface cs m.0) (are_named_alike cs m) (same_place m) i) ∙ h.2 in
    let sa = of_alike cs m h.1 s sm h.3 in
    let ia : is_interface cs h.1.0 ≡ true = elim (made_for cs r.acyclic named h.1 h.4) [
      | inl w ↦ absurd (none_declared cs r looked named s m h.1 n found plain i sa w.0)
      | inr w ↦ w
    ] in
    some_and (slot_of cs named m) (λ slot. SlotSelects cs named slot m) h.0 at (λ c j w.
    some_and (slice_get (table_slots cs c) h.0) (λ a. select cs c a ≡ select cs c m) h.1 (h.5 c j w) (same_selected cs c m h.1 s sm sa i ia))

pub calls : OrderLaws → FoundMethods → MethodLookupLaw → CallsHaveSlots
calls order found looked cs r named s m k =
    let f = found cs r.acyclic named s m k.found in
    elim (cases_Bool (is_interface cs m.0)) [
      | inl i ↦ interface_call cs r looked named s m k.class k.found f k.plain i
      | inr i ↦ class_call order cs r named s m k.class f k.plain k.virtual i
    ]
