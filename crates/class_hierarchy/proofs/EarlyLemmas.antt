-- A method decides for its class where it is virtual and the resolved one, which each class below may override, stands in the class or above it.
use Rattle.std.proofs.Common.{◌≡◌, ℕ, Bool, true, false, eqb, not, ◌&&◌, ◌||◌, List, [], ◌∷◌, Option, Some, None, inl, inr, refl, sym, ap, ap₂, ◌∙◌}
use Rattle.std.specs.Prelude.{if◌then◌else◌}
use Rattle.std.specs.Option.{option_map_or}
use Rattle.std.specs.List.{list_any, filter_map, cons_option}
use Rattle.std.proofs.lemmas.Bool.{false≢true, or_cases, or_left, or_right, and_from, and_parts, eqb-true, eq-eqb, cond-true, cond-false}
use Rattle.class_pool.specs.declared.class.ClassFile.{ClassFile}
use Rattle.class_lookup.specs.Parts.{is_public, is_protected}
use Rattle.class_lookup.specs.Hierarchy.{superclass, superclasses, is_among, IsAcyclic}
use Rattle.class_lookup.specs.Lookup.{Place, same_place}
use Rattle.class_lookup.specs.Selection.{is_method_with, is_virtual, is_public_instance, overrides_directly, overriding, head}
use Rattle.class_hierarchy.specs.Members.{declared_as}
use Rattle.class_hierarchy.specs.Selecting.{is_open, is_near, selected_of, selected_at}
use Rattle.class_hierarchy.specs.Deciding.{is_early, is_deciding}
use Rattle.class_hierarchy.proofs.Directly.{place_same}
use Rattle.class_hierarchy.proofs.Reaching.{directly_is}
use Rattle.class_hierarchy.proofs.Receiving.{with_public, above_list, up_step}

-- a virtual method overrides each open one above it
over_open : (v w p n : Bool) → v ≡ true → (w && p) ≡ true → (v && w && (p || n)) ≡ true
over_open true true true n h e = refl
over_open true true false n h e = absurd (false≢true e)
over_open true false p n h e = absurd (false≢true e)
over_open false w p n h e = absurd (false≢true h)

directly_open : (cs : List ClassFile) (m y : Place) → is_virtual cs m ≡ true → is_open cs y ≡ true → overrides_directly cs m y ≡ true
directly_open cs m y v h = directly_is cs m y ∙ over_open (is_virtual cs m) (is_virtual cs y) (is_method_with (λ k. is_public k || is_protected k) cs y) (is_near cs m y) v h

any_over : (cs : List ClassFile) (m : Place) (ys : List Place) → is_virtual cs m ≡ true → list_any (is_open cs) ys ≡ true → list_any (overrides_directly cs m) ys ≡ true
any_over cs m [] v h = absurd (false≢true h)
any_over cs m (y ∷ ys) v h =
    elim (or_cases (is_open cs y) (list_any (is_open cs) ys) h) [
      | inl e ↦ or_left (overrides_directly cs m y) (list_any (overrides_directly cs m) ys) (directly_open cs m y v e)
      | inr e ↦ or_right (overrides_directly cs m y) (list_any (overrides_directly cs m) ys) (any_over cs m ys v e)
    ]

-- from an open resolved method downwards, one of those that are it or override it is open
abbrev HasPlace : Place → List Place → Type 0
HasPlace a ms = list_any (λ p. same_place p a) ms ≡ true

open_kept : (b : Bool) (cs : List ClassFile) (x : Place) (found : List Place) → list_any (is_open cs) found ≡ true → list_any (is_open cs) (if b then x ∷ found else found) ≡ true
open_kept true cs x found h = or_right (is_open cs x) (list_any (is_open cs) found) h
open_kept false cs x found h = h

open_after : (cs : List ClassFile) (a : Place) (ms : List Place) → is_open cs a ≡ true → HasPlace a ms → list_any (is_open cs) (overriding cs a ms) ≡ true
open_after cs a [] o h = absurd (false≢true h)
open_after cs a (x ∷ ms) o h =
    let found = overriding cs a ms in
    let over = list_any (overrides_directly cs x) found in
    elim (or_cases (same_place x a) (list_any (λ p. same_place p a) ms) h) [
      | inl e ↦
          ap (list_any (is_open cs)) (cond-true (same_place x a || over) (x ∷ found) found (or_left (same_place x a) over e))
          ∙ or_left (is_open cs x) (list_any (is_open cs) found) (ap (is_open cs) (place_same x a e) ∙ o)
      | inr e ↦ open_kept (same_place x a || over) cs x found (open_after cs a ms o e)
    ]

first_joins : (cs : List ClassFile) (a m : Place) (ms : List Place) → is_open cs a ≡ true → is_virtual cs m ≡ true → HasPlace a (m ∷ ms) → overriding cs a (m ∷ ms) ≡ m ∷ overriding cs a ms
first_joins cs a m ms o v h =
    let found = overriding cs a ms in
    let over = list_any (overrides_directly cs m) found in
    cond-true (same_place m a || over) (m ∷ found) found (elim (or_cases (same_place m a) (list_any (λ p. same_place p a) ms) h) [
      | inl e ↦ or_left (same_place m a) over e
      | inr e ↦ or_right (same_place m a) over (any_over cs m found v (open_after cs a ms o e))
    ])

pub with_open : (cs : List ClassFile) (a m : Place) (ms : List Place) → is_open cs a ≡ true → is_virtual cs m ≡ true → HasPlace a (m ∷ ms) → record { place = Some m; free = true } ≡ selected_of cs false a (m ∷ ms)
unfolding selected_of
with_open cs a m ms o v h = ap₂ (λ (p : Option Place) (b : Bool). record { place = p; free = b }) (sym (ap head (first_joins cs a m ms o v h))) (sym (open_after cs a (m ∷ ms) o h))

-- ---- the resolved method among those of a class and its superclasses

self_same : (a : Place) → same_place a a ≡ true
self_same a = and_from (eqb a.0 a.0) (eqb a.1 a.1) (eq-eqb a.0 a.0 refl) (eq-eqb a.1 a.1 refl)

still_has : (a : Place) (o : Option Place) (ms : List Place) → HasPlace a ms → HasPlace a (cons_option o ms)
still_has a None ms h = h
still_has a (Some x) ms h = or_right (same_place x a) (list_any (λ p. same_place p a) ms) h

has_declared : (a : Place) (find : ℕ → Option Place) (xs : List ℕ) → find a.0 ≡ Some a → is_among xs a.0 ≡ true → HasPlace a (filter_map find xs)
has_declared a find [] f h = absurd (false≢true h)
has_declared a find (x ∷ xs) f h =
    let ms = filter_map find xs in
    elim (or_cases (eqb x a.0) (is_among xs a.0) h) [
      | inl e ↦ ap (λ o. list_any (λ p. same_place p a) (cons_option o ms)) (ap find (eqb-true x a.0 e) ∙ f) ∙ or_left (same_place a a) (list_any (λ p. same_place p a) ms) (self_same a)
      | inr e ↦ still_has a (find x) ms (has_declared a find xs f e)
    ]

overridable_parts : (cs : List ClassFile) (a : Place) (o : Option Place) → option_map_or (λ m. same_place m a && is_open cs m) o false ≡ true → (o ≡ Some a) × (is_open cs a ≡ true)
overridable_parts cs a None h = absurd (false≢true h)
overridable_parts cs a (Some m) h =
    let p = and_parts (same_place m a) (is_open cs m) h in
    let same = place_same m a p.0 in
    (ap Some same, ap (is_open cs) (sym same) ∙ p.1)

own_list : (cs : List ClassFile) → IsAcyclic cs → (a : Place) (c : ℕ) (m : Place) → Some m ≡ declared_as cs a c → m ∷ above_list cs (declared_as cs a) (superclass cs c) ≡ filter_map (declared_as cs a) (superclasses cs c)
own_list cs ac a c m h = ap (λ o. cons_option o (above_list cs (declared_as cs a) (superclass cs c))) h ∙ sym (up_step cs ac (declared_as cs a) c)

pub at_decided : (cs : List ClassFile) → IsAcyclic cs → (i : Bool) (a : Place) (c : ℕ) (m : Place) → Some m ≡ declared_as cs a c → is_early cs i a ≡ true → is_deciding cs i a (superclasses cs c) m ≡ true
    → record { place = Some m; free = not i } ≡ selected_at cs i a c
unfolding selected_at
at_decided cs ac true a c m h o d =
    with_public cs true a m (above_list cs (declared_as cs a) (superclass cs c)) refl d ∙ ap (selected_of cs true a) (own_list cs ac a c m h)
at_decided cs ac false a c m h o d =
    let above = above_list cs (declared_as cs a) (superclass cs c) in
    let list = own_list cs ac a c m h in
    let p = overridable_parts cs a (declared_as cs a a.0) o in
    let q = and_parts (is_virtual cs m) (is_among (superclasses cs c) a.0) d in
    with_open cs a m above p.1 q.0 (ap (list_any (λ p. same_place p a)) list ∙ has_declared a (declared_as cs a) (superclasses cs c) p.0 q.1) ∙ ap (selected_of cs false a) list

-- ---- as the code answers

pub public_decides : (cs : List ClassFile) (i : Bool) (a : Place) (list : List ℕ) (m : Place) → i ≡ true → is_public_instance cs m ≡ true → is_deciding cs i a list m ≡ true
public_decides cs i a list m e h = cond-true i (is_public_instance cs m) (is_virtual cs m && is_among list a.0) e ∙ h

pub virtual_decides : (cs : List ClassFile) (i : Bool) (a : Place) (list : List ℕ) (m : Place) → i ≡ false → is_virtual cs m ≡ true → is_among list a.0 ≡ true → is_deciding cs i a list m ≡ true
virtual_decides cs i a list m e v h = cond-false i (is_public_instance cs m) (is_virtual cs m && is_among list a.0) e ∙ and_from (is_virtual cs m) (is_among list a.0) v h
