-- The slots of a class, from its superclass's on.
use Rattle.std.proofs.Common.{◌≡◌, ℕ, zero, suc, ◌<◌, true, List, [], ◌++◌, ◌⊎◌, inl, inr, Option, Some, None, map, length, refl, sym, ap, ◌∙◌, subst, append-nil, append_assoc, arith}
use Rattle.std.specs.Prelude.{slice_get, slice_index}
use Rattle.std.specs.Option.{option_map_or, option_to_list}
use Rattle.std.specs.List.{flat_map, range_with_len}
use Rattle.std.proofs.lemmas.Bool.{false≢true}
use Rattle.class_pool.specs.declared.class.ClassFile.{ClassFile}
use Rattle.class_lookup.specs.Hierarchy.{superclass, superclasses, is_interface, extends, IsAcyclic}
use Rattle.class_lookup.specs.Lookup.{Place}
use Rattle.class_lookup.proofs.Hierarchies.{IsUpward, upward_self, upward_step, upward_by, upward_way, super_is_above}
use Rattle.class_lookup.proofs.Overriding.{has}
use Rattle.program_tables.specs.Lists.{with_items}
use Rattle.program_tables.specs.Numbers.{places_of}
use Rattle.image_words.specs.Slots.{are_named_alike, interface_methods, inherited_methods, own_methods, has_slot, own_slots, slots_along, slots}
use Rattle.image_laws.proofs.Items.{with_more, with_cases, append_cases, filter_parts, own_class}

-- ---- one step upwards

abbrev pub above_slots : List ClassFile → ℕ → List Place
above_slots cs c = slots_along cs (flat_map (superclasses cs) (option_to_list (superclass cs c)))

pub slots_step : (cs : List ClassFile) → IsAcyclic cs → (c : ℕ) → slots cs c ≡ with_items (are_named_alike cs) (above_slots cs c ++ own_slots cs c) (inherited_methods cs c)
unfolding slots
slots_step cs a c = ap (slots_along cs) (upward_step cs a c)

slots_above : (cs : List ClassFile) (c d : ℕ) → superclass cs c ≡ Some d → above_slots cs c ≡ slots cs d
unfolding slots
slots_above cs c d h =
    ap (λ o. slots_along cs (flat_map (superclasses cs) (option_to_list o))) h ∙ ap (slots_along cs) (append-nil (superclasses cs d))

-- ---- the slots of a superclass come first

abbrev Begins : List ClassFile → ℕ → ℕ → Type 0
Begins cs c d = (more : List Place) × (slots cs c ≡ slots cs d ++ more)

begins_by : (cs : List ClassFile) → IsAcyclic cs → (c x : ℕ) → superclass cs c ≡ Some x → Begins cs c x
begins_by cs a c x h =
    let w = with_more (are_named_alike cs) (above_slots cs c ++ own_slots cs c) (inherited_methods cs c) in (
      own_slots cs c ++ w.0,
      slots_step cs a c
          ∙ (w.1 ∙ (append_assoc (above_slots cs c) (own_slots cs c) w.0 ∙ ap (λ xs. xs ++ (own_slots cs c ++ w.0)) (slots_above cs c x h))),
    )

begins_below : (cs : List ClassFile) (a : IsAcyclic cs) (n c d : ℕ) → slice_index a.ranks c < n → IsUpward cs c d → Begins cs c d
begins_below cs a zero c d lt u = absurd (omega (arith, lt))
begins_below cs a (suc n) c d lt u =
    elim (upward_way cs a c d u) [
      | inl e ↦ ([], ap (slots cs) e ∙ sym (append-nil (slots cs d)))
      | inr w ↦
          let lower = a.ranked.falls c w.0 (super_is_above cs c w.0 w.1) in
          let r = begins_below cs a n w.0 d (omega (arith, lower, lt)) w.2 in
          let b = begins_by cs a c w.0 w.1 in
          (r.0 ++ b.0, b.1 ∙ (ap (λ xs. xs ++ b.0) r.1 ∙ append_assoc (slots cs d) r.0 b.0))
    ]

pub begins : (cs : List ClassFile) (a : IsAcyclic cs) (c d : ℕ) → IsUpward cs c d → Begins cs c d
begins cs a c d u = begins_below cs a (length cs) c d (a.ranked.bounded c) u

-- ---- what slots are made for

own_case : (c : ℕ) (m : Place) (o : Option ClassFile) → has (option_map_or (λ k. map (λ (i : ℕ). (c, i)) (range_with_len 0 (length k.methods))) o []) m ≡ true → m.0 ≡ c
own_case c m None h = absurd (false≢true h)
own_case c m (Some k) h = own_class c (range_with_len 0 (length k.methods)) m h

own_is : (cs : List ClassFile) (c : ℕ) (m : Place) → has (own_slots cs c) m ≡ true → m.0 ≡ c
own_is cs c m h = own_case c m (slice_get cs c) (filter_parts (has_slot cs) (own_methods cs c) m h).0

pub interface_is : (cs : List ClassFile) (m : Place) → has (interface_methods cs) m ≡ true → is_interface cs m.0 ≡ true
unfolding interface_methods
interface_is cs m h = (filter_parts (λ m. is_interface cs m.0) (places_of (λ k. k.methods) cs) m h).1

inherited_is : (cs : List ClassFile) (c : ℕ) (m : Place) → has (inherited_methods cs c) m ≡ true → is_interface cs m.0 ≡ true
inherited_is cs c m h = interface_is cs m (filter_parts (λ m. extends cs c m.0) (interface_methods cs) m h).0

-- an own method of the class or of a superclass, or a method of an interface
abbrev pub IsMadeFor : List ClassFile → ℕ → Place → Type 0
IsMadeFor cs c m = (IsUpward cs c m.0 × (has (own_slots cs m.0) m ≡ true)) ⊎ (is_interface cs m.0 ≡ true)

above_case : (cs : List ClassFile) → IsAcyclic cs → (c : ℕ) (m : Place) (o : Option ℕ) → superclass cs c ≡ o → ((d : ℕ) → superclass cs c ≡ Some d → has (slots cs d) m ≡ true → IsMadeFor cs d m) → has (above_slots cs c) m ≡ true → IsMadeFor cs c m
above_case cs a c m None h later e =
    absurd (false≢true (sym (ap (λ o. has (slots_along cs (flat_map (superclasses cs) (option_to_list o))) m) h) ∙ e))
above_case cs a c m (Some d) h later e =
    elim (later d h (sym (ap (λ xs. has xs m) (slots_above cs c d h)) ∙ e)) [
      | inl f ↦ inl (upward_by cs a c d m.0 h f.0, f.1)
      | inr f ↦ inr f
    ]

made_below : (cs : List ClassFile) (a : IsAcyclic cs) (n c : ℕ) (m : Place) → slice_index a.ranks c < n → has (slots cs c) m ≡ true → IsMadeFor cs c m
made_below cs a zero c m lt h = absurd (omega (arith, lt))
made_below cs a (suc n) c m lt h =
    elim (with_cases (are_named_alike cs) (above_slots cs c ++ own_slots cs c) (inherited_methods cs c) m (sym (ap (λ xs. has xs m) (slots_step cs a c)) ∙ h)) [
      | inl e ↦ elim (append_cases (above_slots cs c) (own_slots cs c) m e) [
        | inl f ↦ above_case cs a c m (superclass cs c) refl (λ d s g.
            let lower = a.ranked.falls c d (super_is_above cs c d s) in
            made_below cs a n d m (omega (arith, lower, lt)) g) f
        | inr f ↦
            let own = own_is cs c m f in
            inl (subst (IsUpward cs c) (sym own) (upward_self cs a c), ap (λ k. has (own_slots cs k) m) own ∙ f)
      ]
      | inr e ↦ inr (inherited_is cs c m e)
    ]

pub made_for : (cs : List ClassFile) (a : IsAcyclic cs) (c : ℕ) (m : Place) → has (slots cs c) m ≡ true → IsMadeFor cs c m
made_for cs a c m h = made_below cs a (length cs) c m (a.ranked.bounded c) h
