-- What is selected for a class, by what is selected for its superclass.
use Rattle.std.proofs.Common.{◌≡◌, ℕ, Bool, true, false, eqb, ◌||◌, ◌&&◌, List, [], ◌∷◌, Option, Some, None, refl, sym, ap, ap₂, ◌∙◌}
use Rattle.std.specs.Prelude.{slice_get, is_some}
use Rattle.std.specs.Option.{option_to_list, option_map}
use Rattle.std.specs.List.{list_any, filter_map, cons_option}
use Rattle.std.proofs.lemmas.Bool.{false≢true, or_from, or_parts, cond-false}
use Rattle.class_pool.specs.declared.class.ClassFile.{ClassFile}
use Rattle.lists.specs.Lists.{onto}
use Rattle.class_lookup.specs.Parts.{signature_of, Signature}
use Rattle.class_lookup.specs.Hierarchy.{superclass, superclasses, is_interface, is_subclass, is_among, IsAcyclic}
use Rattle.class_lookup.specs.Lookup.{Place, same_place, method_at, declared_in, declared_method}
use Rattle.class_lookup.specs.Selection.{signature_at, overriding, overrides_directly, head, select, is_public_instance}
use Rattle.class_lookup.proofs.Hierarchies.{not_itself}
use Rattle.class_hierarchy.specs.Members.{declared_as}
use Rattle.class_hierarchy.specs.Selecting.{is_open, is_joining, selected_of, selected_at, selected_above}
use Rattle.class_hierarchy.proofs.Receiving as receiving
use Rattle.class_hierarchy.proofs.Receiving.{above_list, up_step, above_some, above_none}
use Rattle.class_hierarchy.proofs.SelectedLemmas.{selected_is, select_none}
use Rattle.class_selection.specs.declared.selected.Selected.{Selected}
use Rattle.class_selection.specs.Selecting.{IsSelected, IsSelectedAbove, IsSelectedOf}

-- ---- without a method

no_signature : (cs : List ClassFile) (m : Place) (o : Option ClassFile) → method_at cs m ≡ None → onto o (λ c. onto (method_at cs m) (λ k. Some (signature_of c k))) ≡ None
no_signature cs m None h = refl
no_signature cs m (Some c) h = ap (λ o. onto o (λ k. Some (signature_of c k))) h

pub none_declared : (cs : List ClassFile) (m : Place) (c : ℕ) → method_at cs m ≡ None → None ≡ declared_as cs m c
none_declared cs m c h = sym (ap (λ o. onto o (λ s. declared_method cs s c)) (no_signature cs m (slice_get cs m.0) h))

none_up : (find : ℕ → Option Place) (xs : List ℕ) → ((c : ℕ) → find c ≡ None) → filter_map find xs ≡ []
none_up find [] h = refl
none_up find (x ∷ xs) h = ap (λ o. cons_option o (filter_map find xs)) (h x) ∙ none_up find xs h

of_nothing : (cs : List ClassFile) (i : Bool) (a : Place) → (selected_of cs i a []).place ≡ None
unfolding selected_of
of_nothing cs true a = refl
of_nothing cs false a = refl

place_case : (cs : List ClassFile) (c : ℕ) (a : Place) (o : Option Signature) → signature_at cs a ≡ o → (selected_at cs (is_interface cs a.0) a c).place ≡ select cs c a
unfolding selected_at
place_case cs c a (Some s) h = selected_is cs a s h (is_interface cs a.0) refl c
place_case cs c a None h =
    ap (λ ms. (selected_of cs (is_interface cs a.0) a ms).place) (none_up (declared_as cs a) (superclasses cs c) (λ k. ap (λ o. onto o (λ s. declared_method cs s k)) h))
    ∙ (of_nothing cs (is_interface cs a.0) a ∙ select_none cs c a h)

place_is : (cs : List ClassFile) (c : ℕ) (a : Place) → (selected_at cs (is_interface cs a.0) a c).place ≡ select cs c a
place_is cs c a = place_case cs c a (signature_at cs a) refl

above_case : (cs : List ClassFile) (c : ℕ) (a : Place) (o : Option ℕ) → superclass cs c ≡ o → (selected_above cs (is_interface cs a.0) a c).place ≡ onto o (λ d. select cs d a)
above_case cs c a None h = sym (ap (λ s. s.place) (above_none cs (is_interface cs a.0) a c (sym h)))
above_case cs c a (Some d) h = sym (ap (λ s. s.place) (above_some cs (is_interface cs a.0) a c d (selected_at cs (is_interface cs a.0) a d) (sym h) refl)) ∙ place_is cs d a

above_is : (cs : List ClassFile) (c : ℕ) (a : Place) → (selected_above cs (is_interface cs a.0) a c).place ≡ onto (superclass cs c) (λ d. select cs d a)
above_is cs c a = above_case cs c a (superclass cs c) refl

-- what is selected for the superclass
pub by_superclass : (cs : List ClassFile) (c d : ℕ) (a : Place) (s : Selected) → superclass cs c ≡ Some d → IsSelected cs d a s → IsSelectedAbove cs c a s
by_superclass cs c d a s h is = record {
  place = is.place ∙ sym (ap (λ o. onto o (λ d. select cs d a)) h);
  free = is.free ∙ ap (λ k. k.free) (above_some cs (is_interface cs a.0) a c d (selected_at cs (is_interface cs a.0) a d) (sym h) refl);
}

-- ---- one more method

pub with_public : (cs : List ClassFile) (a x : Place) (ms : List Place) (s : Selected) → is_interface cs a.0 ≡ true → is_public_instance cs x ≡ true → s.place ≡ Some x → s.free ≡ false → IsSelectedOf cs a (x ∷ ms) s
with_public cs a x ms s i j p f =
    let e = receiving.with_public cs (is_interface cs a.0) a x ms i j in
    record { place = p ∙ ap (λ k. k.place) e; free = f ∙ ap (λ k. k.free) e }

pub without_public : (cs : List ClassFile) (a x : Place) (ms : List Place) (s : Selected) → is_interface cs a.0 ≡ true → is_public_instance cs x ≡ false → IsSelectedOf cs a ms s → IsSelectedOf cs a (x ∷ ms) s
without_public cs a x ms s i j is =
    let e = receiving.without_public cs (is_interface cs a.0) a x ms (selected_of cs (is_interface cs a.0) a ms) i refl j in
    record { place = is.place ∙ ap (λ k. k.place) e; free = is.free ∙ ap (λ k. k.free) e }

joins : (cs : List ClassFile) (a x : Place) (ms : List Place) (s : Selected) (b : Bool) → IsSelectedOf cs a ms s → is_joining cs a (is_some s.place) s.free x ≡ b
    → is_joining cs a (is_some (selected_of cs (is_interface cs a.0) a ms).place) (selected_of cs (is_interface cs a.0) a ms).free x ≡ b
joins cs a x ms s b is j = ap₂ (λ (p : Option Place) (f : Bool). is_joining cs a (is_some p) f x) (sym is.place) (sym is.free) ∙ j

pub with_joining : (cs : List ClassFile) (a x : Place) (ms : List Place) (s new : Selected) → is_interface cs a.0 ≡ false → is_joining cs a (is_some s.place) s.free x ≡ true → IsSelectedOf cs a ms s
    → new.place ≡ Some x → new.free ≡ (s.free || is_open cs x) → IsSelectedOf cs a (x ∷ ms) new
with_joining cs a x ms s new i j is p f =
    let before = selected_of cs (is_interface cs a.0) a ms in
    let e = receiving.with_joining cs (is_interface cs a.0) a x ms before (before.free || is_open cs x) i refl (joins cs a x ms s true is j) refl in
    record { place = p ∙ ap (λ k. k.place) e; free = f ∙ (ap (λ b. b || is_open cs x) is.free ∙ ap (λ k. k.free) e) }

pub without_joining : (cs : List ClassFile) (a x : Place) (ms : List Place) (s : Selected) → is_interface cs a.0 ≡ false → is_joining cs a (is_some s.place) s.free x ≡ false → IsSelectedOf cs a ms s → IsSelectedOf cs a (x ∷ ms) s
without_joining cs a x ms s i j is =
    let before = selected_of cs (is_interface cs a.0) a ms in
    let e = receiving.without_joining cs (is_interface cs a.0) a x ms before i refl (joins cs a x ms s false is j) in
    record { place = is.place ∙ ap (λ k. k.place) e; free = is.free ∙ ap (λ k. k.free) e }

-- ---- the class below

abbrev pub above_methods : List ClassFile → (a : Place) → (c : ℕ) → List Place
above_methods cs a c = above_list cs (declared_as cs a) (superclass cs c)

above_of : (cs : List ClassFile) (c : ℕ) (a : Place) (s : Selected) → IsSelectedAbove cs c a s → IsSelectedOf cs a (above_methods cs a c) s
unfolding selected_above
above_of cs c a s is = record { place = is.place ∙ sym (above_is cs c a); free = is.free }

at_of : (cs : List ClassFile) (c : ℕ) (a : Place) (s : Selected) → (ms : List Place) → ms ≡ filter_map (declared_as cs a) (superclasses cs c) → IsSelectedOf cs a ms s → IsSelected cs c a s
unfolding selected_at
at_of cs c a s ms e is =
    let same = ap (selected_of cs (is_interface cs a.0) a) e in
    record { place = is.place ∙ (ap (λ k. k.place) same ∙ place_is cs c a); free = is.free ∙ ap (λ k. k.free) same }

pub at_declared : (cs : List ClassFile) → IsAcyclic cs → (a : Place) (c : ℕ) (x : Place) (above s : Selected) → Some x ≡ declared_as cs a c → IsSelectedAbove cs c a above
    → ((ms : List Place) → IsSelectedOf cs a ms above → IsSelectedOf cs a (x ∷ ms) s) → IsSelected cs c a s
at_declared cs ac a c x above s h is more =
    at_of cs c a s (x ∷ above_methods cs a c) (ap (λ o. cons_option o (above_methods cs a c)) h ∙ sym (up_step cs ac (declared_as cs a) c)) (more (above_methods cs a c) (above_of cs c a above is))

pub at_other : (cs : List ClassFile) → IsAcyclic cs → (a : Place) (c : ℕ) (s : Selected) → None ≡ declared_as cs a c → IsSelectedAbove cs c a s → IsSelected cs c a s
at_other cs ac a c s h is =
    at_of cs c a s (above_methods cs a c) (ap (λ o. cons_option o (above_methods cs a c)) h ∙ sym (up_step cs ac (declared_as cs a) c)) (above_of cs c a s is)

-- ---- nothing is selected above the class of a method

of_none : (cs : List ClassFile) (i : Bool) (a : Place) → (selected_of cs i a []).free ≡ false
unfolding selected_of
of_none cs true a = refl
of_none cs false a = refl

pub no_superclass : (cs : List ClassFile) (c : ℕ) (a : Place) (s : Selected) → superclass cs c ≡ None → s.place ≡ None → s.free ≡ false → IsSelectedAbove cs c a s
no_superclass cs c a s h p f = record {
  place = p ∙ sym (ap (λ o. onto o (λ d. select cs d a)) h);
  free = f ∙ ap (λ k. k.free) (above_none cs (is_interface cs a.0) a c (sym h));
}

interface_free : (cs : List ClassFile) (i : Bool) (a : Place) (d : ℕ) → i ≡ true → (selected_at cs i a d).free ≡ false
unfolding selected_at selected_of
interface_free cs true a d h = refl
interface_free cs false a d h = absurd (false≢true h)

pub interface_above : (cs : List ClassFile) (c d : ℕ) (a : Place) (s : Selected) → superclass cs c ≡ Some d → is_interface cs a.0 ≡ true → s.place ≡ select cs d a → s.free ≡ false → IsSelectedAbove cs c a s
interface_above cs c d a s h i p f = by_superclass cs c d a s h (record { place = p; free = f ∙ sym (interface_free cs (is_interface cs a.0) a d i) })

-- no method overrides one that doesn't stand among those above it
none_over : (cs : List ClassFile) (a : Place) (ms : List Place) → list_any (λ m. same_place m a) ms ≡ false → overriding cs a ms ≡ []
none_over cs a [] h = refl
none_over cs a (m ∷ ms) h =
    let parts = or_parts (same_place m a) (list_any (λ m. same_place m a) ms) h in
    let rest = none_over cs a ms parts.1 in
    let found = overriding cs a ms in
    cond-false (same_place m a || list_any (overrides_directly cs m) found) (m ∷ found) found (or_from (same_place m a) (list_any (overrides_directly cs m) found) parts.0 (ap (list_any (overrides_directly cs m)) rest))
    ∙ rest

and_first : (x y : Bool) → x ≡ false → (x && y) ≡ false
and_first true y h = absurd (false≢true (sym h))
and_first false y h = refl

abbrev IsOther : Place → Option Place → Type 0
IsOther a o = (ms : List Place) → list_any (λ m. same_place m a) ms ≡ false → list_any (λ m. same_place m a) (cons_option o ms) ≡ false

other_index : (a : Place) (k : ℕ) (o : Option ℕ) → eqb k a.0 ≡ false → IsOther a (option_map (λ i. (k, i)) o)
other_index a k None h = λ ms e. e
other_index a k (Some i) h = λ ms e. or_from (same_place (k, i) a) (list_any (λ m. same_place m a) ms) (and_first (eqb k a.0) (eqb i a.1) h) e

other_class : (cs : List ClassFile) (a : Place) (s : Signature) (k : ℕ) (o : Option ClassFile) → eqb k a.0 ≡ false → IsOther a (onto o (λ c. option_map (λ i. (k, i)) (declared_in (λ x. x.methods) s c)))
other_class cs a s k None h = λ ms e. e
other_class cs a s k (Some c) h = other_index a k (declared_in (λ x. x.methods) s c) h

other_declared : (cs : List ClassFile) (a : Place) (k : ℕ) (o : Option Signature) → eqb k a.0 ≡ false → IsOther a (onto o (λ s. declared_method cs s k))
other_declared cs a k None h = λ ms e. e
other_declared cs a k (Some s) h = other_class cs a s k (slice_get cs k) h

none_among : (cs : List ClassFile) (a : Place) (xs : List ℕ) → is_among xs a.0 ≡ false → list_any (λ m. same_place m a) (filter_map (declared_as cs a) xs) ≡ false
none_among cs a [] h = refl
none_among cs a (k ∷ xs) h =
    let parts = or_parts (eqb k a.0) (is_among xs a.0) h in
    other_declared cs a k (signature_at cs a) parts.0 (filter_map (declared_as cs a) xs) (none_among cs a xs parts.1)

above_among : (cs : List ClassFile) (a : Place) (o : Option ℕ) → list_any (λ s. is_among (superclasses cs s) a.0) (option_to_list o) ≡ false → list_any (λ m. same_place m a) (above_list cs (declared_as cs a) o) ≡ false
above_among cs a None h = refl
above_among cs a (Some d) h = none_among cs a (superclasses cs d) ((or_parts (is_among (superclasses cs d) a.0) false h).0)

class_over : (cs : List ClassFile) (i : Bool) (a : Place) (ms : List Place) → i ≡ false → overriding cs a ms ≡ [] → ((selected_of cs i a ms).place ≡ None) × ((selected_of cs i a ms).free ≡ false)
unfolding selected_of
class_over cs true a ms h e = absurd (false≢true (sym h))
class_over cs false a ms h e = (ap head e, ap (list_any (is_open cs)) e)

pub own_above : (cs : List ClassFile) → IsAcyclic cs → (c : ℕ) (a : Place) (s : Selected) → is_interface cs a.0 ≡ false → a.0 ≡ c → s.place ≡ None → s.free ≡ false → IsSelectedAbove cs c a s
unfolding selected_above
own_above cs ac c a s i e p f =
    let none = none_over cs a (above_methods cs a c) (above_among cs a (superclass cs c) (ap (is_subclass cs c) e ∙ not_itself cs ac c)) in
    let told = class_over cs (is_interface cs a.0) a (above_methods cs a c) i none in
    record { place = p ∙ (sym told.0 ∙ above_is cs c a); free = f ∙ sym told.1 }
