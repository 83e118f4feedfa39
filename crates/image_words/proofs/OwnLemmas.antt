-- The slot that is made for a method of a class, in the slots of the classes below it.
use Rattle.std.proofs.Common.{◌≡◌, ◌≢◌, ℕ, zero, suc, ◌+◌, ◌<◌, ◌≤◌, Bool, true, false, not, ◌||◌, eqb, List, [], ◌∷◌, ◌++◌, inl, inr, Option, Some, None, map, length, refl, sym, ap, ◌∙◌, arith}
use Rattle.std.specs.Prelude.{◌==◌, slice_get, slice_index, if◌then◌else◌}
use Rattle.std.specs.Option.{option_map, option_map_or, option_or, option_to_list}
use Rattle.std.specs.List.{flat_map, list_any, range_with_len}
use Rattle.std.proofs.lemmas.Bool.{and_left, and_right, or_from, cases_eq, cases_lt, eq-eqb, ne_eqb, both_ways, false_from_ne_true}
use Rattle.std.proofs.lemmas.Option.{slice_get_past}
use Rattle.class_pool.specs.declared.class.ClassFile.{ClassFile}
use Rattle.lists.specs.Lists.{onto, index_of}
use Rattle.lists.proofs.Reached.{in_append}
use Rattle.class_lookup.specs.Hierarchy.{superclass, superclasses, is_interface, is_among, is_subclass, extends, IsAcyclic}
use Rattle.class_lookup.specs.Laws.{AreSuperclasses}
use Rattle.class_lookup.specs.Lookup.{Place, method_at, same_place}
use Rattle.class_lookup.specs.Parts.{is_init, is_static, is_private}
use Rattle.class_lookup.specs.Selection.{signature_at}
use Rattle.class_lookup.proofs.Hierarchies.{super_is_above, not_itself}
use Rattle.class_lookup.proofs.Overriding.{place_same, same_is_place}
use Rattle.program_tables.specs.Numbers.{places_of}
use Rattle.image_words.specs.Slots.{are_named_alike, interface_methods, inherited_methods, own_methods, has_slot, own_slots, slots, table_slots, slot_of}
use Rattle.image_words.specs.Tables.{above_slots, first_slots, own_slot}
use Rattle.image_words.proofs.IndexLemmas.{or_none, index_both, index_none, index_items, none_filtered, none_left}
use Rattle.image_words.proofs.MemberLemmas.{own_listed, own_count, slots_next, slots_whole}
use Rattle.image_words.proofs.TableLemmas.{slots_step}

-- ---- methods of other classes and of other indices

other_class : (c : ℕ) (m : Place) → m.0 ≢ c → (is : List ℕ) → list_any (same_place m) (map (λ (i : ℕ). (c, i)) is) ≡ false
other_class c m apart [] = refl
other_class c m apart (i ∷ is) = or_from (same_place m (c, i)) (list_any (same_place m) (map (λ (i : ℕ). (c, i)) is)) (and_left (eqb m.0 c) (eqb m.1 i) (ne_eqb m.0 c apart)) (other_class c m apart is)

other_index : (c i a n : ℕ) → a + n ≤ i → list_any (same_place (c, i)) (map (λ (j : ℕ). (c, j)) (range_with_len a n)) ≡ false
other_index c i a zero le = refl
other_index c i a (suc n) le =
    let apart : i ≢ a = λ e. absurd (omega (arith, le, e)) in
    or_from (same_place (c, i) (c, a)) (list_any (same_place (c, i)) (map (λ (j : ℕ). (c, j)) (range_with_len (a + 1) n))) (and_right (eqb c c) (eqb i a) (ne_eqb i a apart)) (other_index c i (a + 1) n (omega (arith, le)))

pub own_other : (cs : List ClassFile) (c : ℕ) (m : Place) → m.0 ≢ c → index_of (same_place m) (own_slots cs c) ≡ None
own_other cs c m apart =
    index_none (same_place m) (own_slots cs c) (none_left (same_place m) (has_slot cs) (own_methods cs c)
    (ap (list_any (same_place m)) (own_listed cs c) ∙ other_class c m apart (range_with_len 0 (length (own_methods cs c)))))

own_after : (cs : List ClassFile) (c i n : ℕ) → n ≤ i → index_of (same_place (c, i)) (first_slots cs c n) ≡ None
own_after cs c i n le =
    index_none (same_place (c, i)) (first_slots cs c n) (none_left (same_place (c, i)) (has_slot cs) (map (λ (j : ℕ). (c, j)) (range_with_len 0 n)) (other_index c i 0 n (omega (arith, le))))

-- ---- the slot among those of its class

abbrev tail_of : (c n : ℕ) → Bool → List Place
tail_of c n b = if b then (c, n) ∷ [] else []

tail_other : (c i n : ℕ) (b : Bool) → i ≢ n → index_of (same_place (c, i)) (tail_of c n b) ≡ None
tail_other c i n true apart = ap (λ (b : Bool). if b then Some 0 else None) (and_right (eqb c c) (eqb i n) (ne_eqb i n apart))
tail_other c i n false apart = refl

tail_same : (c n len : ℕ) (b : Bool) → option_map (λ k. len + k) (index_of (same_place (c, n)) (tail_of c n b)) ≡ (if b then Some len else None)
tail_same c n len true =
    let zero_more : len + 0 ≡ len = omega arith in
    ap (λ (b : Bool). option_map (λ k. len + k) (if b then Some 0 else None)) (same_is_place (c, n) (c, n) refl) ∙ ap Some zero_more
tail_same c n len false = refl

abbrev at_own : List ClassFile → (c i : ℕ) → Option ℕ
at_own cs c i = if has_slot cs (c, i) then Some (length (first_slots cs c i)) else None

own_next : (cs : List ClassFile) (c i n : ℕ) → index_of (same_place (c, i)) (first_slots cs c (n + 1)) ≡ option_or (index_of (same_place (c, i)) (first_slots cs c n)) (option_map (λ k. length (first_slots cs c n) + k) (index_of (same_place (c, i)) (tail_of c n (has_slot cs (c, n)))))
own_next cs c i n = ap (index_of (same_place (c, i))) (slots_next cs c n) ∙ index_both (same_place (c, i)) (first_slots cs c n) (tail_of c n (has_slot cs (c, n)))

own_at : (cs : List ClassFile) (c i n : ℕ) → i < n → index_of (same_place (c, i)) (first_slots cs c n) ≡ at_own cs c i
own_at cs c i zero lt = absurd (omega (arith, lt))
own_at cs c i (suc n) lt =
    let more : suc n ≡ n + 1 = omega arith in
    ap (λ k. index_of (same_place (c, i)) (first_slots cs c k)) more ∙ (own_next cs c i n ∙ (elim (cases_eq i n) [
      | inl e ↦
          ap (λ o. option_or o (option_map (λ k. length (first_slots cs c n) + k) (index_of (same_place (c, i)) (tail_of c n (has_slot cs (c, n)))))) (own_after cs c i n (omega (arith, e)))
          ∙ (ap (λ j. option_map (λ k. length (first_slots cs c n) + k) (index_of (same_place (c, j)) (tail_of c n (has_slot cs (c, n))))) e
          ∙ (tail_same c n (length (first_slots cs c n)) (has_slot cs (c, n)) ∙ ap (at_own cs c) (sym e)))
      | inr f ↦
          ap (λ o. option_or (index_of (same_place (c, i)) (first_slots cs c n)) (option_map (λ k. length (first_slots cs c n) + k) o)) (tail_other c i n (has_slot cs (c, n)) f)
          ∙ (or_none (index_of (same_place (c, i)) (first_slots cs c n)) ∙ own_at cs c i n (omega (arith, lt, f)))
    ]))

-- what is no method has no slot
no_method : (cs : List ClassFile) (m : Place) → method_at cs m ≡ None → has_slot cs m ≡ false
no_method cs m h =
    and_left (option_map_or (λ k. not (is_static k || is_private k)) (method_at cs m) false) (not (option_map_or is_init (signature_at cs m) false)) (ap (λ o. option_map_or (λ k. not (is_static k || is_private k)) o false) h)

past_case : (cs : List ClassFile) (c i : ℕ) (o : Option ClassFile) → slice_get cs c ≡ o → length (own_methods cs c) ≤ i → method_at cs (c, i) ≡ None
past_case cs c i None h le = ap (λ o. onto o (λ (k : ClassFile). slice_get k.methods i)) h
past_case cs c i (Some k) h le =
    let count = own_count cs c k h in
    ap (λ o. onto o (λ (k : ClassFile). slice_get k.methods i)) h ∙ slice_get_past k.methods i (omega (arith, count, le))

pub no_slot : (cs : List ClassFile) (c i : ℕ) → length (own_methods cs c) ≤ i → has_slot cs (c, i) ≡ false
no_slot cs c i le = no_method cs (c, i) (past_case cs c i (slice_get cs c) refl le)

own_index : (cs : List ClassFile) (c i : ℕ) → index_of (same_place (c, i)) (own_slots cs c) ≡ at_own cs c i
own_index cs c i =
    let n = length (own_methods cs c) in
    ap (index_of (same_place (c, i))) (sym (slots_whole cs c n refl))
    ∙ (elim (cases_lt i n) [
      | inl lt ↦ own_at cs c i n lt
      | inr le ↦ own_after cs c i n le ∙ sym (ap (λ (b : Bool). if b then Some (length (first_slots cs c i)) else None) (no_slot cs c i le))
    ])

-- ---- the slot among those of the classes below

inherited_other : (cs : List ClassFile) (c : ℕ) (m : Place) → is_interface cs m.0 ≡ false → list_any (same_place m) (inherited_methods cs c) ≡ false
unfolding interface_methods
inherited_other cs c m i =
    none_left (same_place m) (λ x. extends cs c x.0) (interface_methods cs)
    (none_filtered (same_place m) (λ x. is_interface cs x.0) (places_of (λ k. k.methods) cs)
    (λ x e. false_from_ne_true (same_place m x) (λ s. both_ways (is_interface cs m.0) i (ap (λ (p : Place). is_interface cs p.0) (place_same m x s) ∙ e))))

index_step : (cs : List ClassFile) → AreSuperclasses cs → (c : ℕ) (m : Place) → is_interface cs m.0 ≡ false
    → index_of (same_place m) (slots cs c) ≡ option_or (index_of (same_place m) (above_slots cs c)) (option_map (λ k. length (above_slots cs c) + k) (index_of (same_place m) (own_slots cs c)))
index_step cs are c m i =
    ap (index_of (same_place m)) (slots_step cs are c)
    ∙ (index_items (same_place m) (are_named_alike cs) (above_slots cs c ++ own_slots cs c) (inherited_methods cs c) (inherited_other cs c m i) ∙ index_both (same_place m) (above_slots cs c) (own_slots cs c))

abbrev pub is_upward : List ClassFile → (class other : ℕ) → Bool
is_upward cs c d = c == d || is_subclass cs c d

abbrev told : List ClassFile → (upward : Bool) → Place → Option ℕ
told cs b m = if b then own_slot cs m else None

up_case : (cs : List ClassFile) (d : ℕ) (o : Option ℕ) → is_among (flat_map (superclasses cs) (option_to_list o)) d ≡ list_any (λ s. is_among (superclasses cs s) d) (option_to_list o)
up_case cs d None = refl
up_case cs d (Some y) = in_append (superclasses cs y) [] d

up_step : (cs : List ClassFile) → AreSuperclasses cs → (x d : ℕ) → is_among (superclasses cs x) d ≡ is_upward cs x d
up_step cs are x d = ap (λ xs. is_among xs d) (are.step x) ∙ ap (λ b. x == d || b) (up_case cs d (superclass cs x))

or_false : (b : Bool) → (b || false) ≡ b
or_false true = refl
or_false false = refl

own_case : (cs : List ClassFile) (m : Place) (len : ℕ) (b : Bool) → option_map (λ k. len + k) (if b then Some (length (first_slots cs m.0 m.1)) else None) ≡ (if b then Some (len + length (first_slots cs m.0 m.1)) else None)
own_case cs m len true = refl
own_case cs m len false = refl

above_told : (cs : List ClassFile) → AreSuperclasses cs → (c : ℕ) (m : Place) (o : Option ℕ) → superclass cs c ≡ o → ((x : ℕ) → o ≡ Some x → index_of (same_place m) (slots cs x) ≡ told cs (is_upward cs x m.0) m)
    → index_of (same_place m) (above_slots cs c) ≡ told cs (is_subclass cs c m.0) m
above_told cs are c m None h later =
    ap (λ o. index_of (same_place m) (option_map_or (slots cs) o [])) h ∙ sym (ap (λ o. told cs (list_any (λ s. is_among (superclasses cs s) m.0) (option_to_list o)) m) h)
above_told cs are c m (Some x) h later =
    ap (λ o. index_of (same_place m) (option_map_or (slots cs) o [])) h
    ∙ (later x refl
    ∙ (ap (λ b. told cs b m) (sym (or_false (is_among (superclasses cs x) m.0) ∙ up_step cs are x m.0))
    ∙ sym (ap (λ o. told cs (list_any (λ s. is_among (superclasses cs s) m.0) (option_to_list o)) m) h)))

slot_below : (cs : List ClassFile) (a : IsAcyclic cs) → AreSuperclasses cs → (m : Place) → is_interface cs m.0 ≡ false → (n c : ℕ) → slice_index a.ranks c < n → index_of (same_place m) (slots cs c) ≡ told cs (is_upward cs c m.0) m
slot_below cs a are m i zero c lt = absurd (omega (arith, lt))
slot_below cs a are m i (suc n) c lt =
    let above = above_told cs are c m (superclass cs c) refl (λ x e.
    let lower = a.ranked.falls c x (super_is_above cs c x e) in
    slot_below cs a are m i n x (omega (arith, lower, lt))) in
    let len = length (above_slots cs c) in
    index_step cs are c m i ∙ (elim (cases_eq m.0 c) [
      | inl e ↦
          let none = ap (λ b. told cs b m) (ap (is_subclass cs c) e ∙ not_itself cs a c) in
          ap (λ o. option_or o (option_map (λ k. len + k) (index_of (same_place m) (own_slots cs c)))) (above ∙ none)
          ∙ (ap (λ c. option_map (λ k. length (above_slots cs c) + k) (index_of (same_place m) (own_slots cs c))) (sym e)
          ∙ (ap (option_map (λ k. length (above_slots cs m.0) + k)) (own_index cs m.0 m.1)
          ∙ (own_case cs m (length (above_slots cs m.0)) (has_slot cs m)
          ∙ sym (ap (λ b. told cs (b || is_subclass cs c m.0) m) (eq-eqb c m.0 (sym e))))))
      | inr f ↦
          ap (λ o. option_or (index_of (same_place m) (above_slots cs c)) (option_map (λ k. len + k) o)) (own_other cs c m f)
          ∙ (or_none (index_of (same_place m) (above_slots cs c))
          ∙ (above ∙ sym (ap (λ b. told cs (b || is_subclass cs c m.0) m) (ne_eqb c m.0 (λ s. f (sym s))))))
    ])

pub slot_told : (cs : List ClassFile) → IsAcyclic cs → AreSuperclasses cs → (c : ℕ) (m : Place) → is_interface cs m.0 ≡ false → (b : Bool) → is_upward cs c m.0 ≡ b → index_of (same_place m) (slots cs c) ≡ (if b then own_slot cs m else None)
slot_told cs a are c m i b h = slot_below cs a are m i (length cs) c (a.ranked.bounded c) ∙ ap (λ x. told cs x m) h

pub no_class_slot : (cs : List ClassFile) (m : Place) → length cs ≤ m.0 → None ≡ own_slot cs m
no_class_slot cs m le =
    let none = no_method cs m (ap (λ o. onto o (λ (k : ClassFile). slice_get k.methods m.1)) (slice_get_past cs m.0 le)) in
    sym (ap (λ (b : Bool). if b then Some (length (above_slots cs m.0) + length (first_slots cs m.0 m.1)) else None) none)

-- of a method of a class, named through a class
pub slot_class : (cs : List ClassFile) (named : ℕ) (m : Place) → is_interface cs named ≡ false → is_interface cs m.0 ≡ false → slot_of cs named m ≡ index_of (same_place m) (slots cs named)
slot_class cs named m n i =
    ap (λ (b : Bool). index_of (if b then are_named_alike cs m else same_place m) (table_slots cs named)) i ∙ ap (λ (b : Bool). index_of (same_place m) (if b then [] else slots cs named)) n
