-- The laws on overriding and selection.
use Rattle.std.proofs.Common.{◌≡◌, ℕ, Bool, true, false, not, List, [], ◌∷◌, inl, inr, Option, Some, None, refl, sym, ap, ◌∙◌, subst}
use Rattle.std.specs.Prelude.{if◌then◌else◌}
use Rattle.std.specs.Option.{option_map_or}
use Rattle.std.specs.List.{cons_option, list_any, find}
use Rattle.std.proofs.lemmas.Bool.{and_parts, and_from, false≢true, both_ways, cond-true, cond-false, false_from_ne_true, not_from_false, not-true}
use Rattle.class_pool.specs.declared.class.ClassFile.{ClassFile}
use Rattle.lists.specs.Lists.{onto}
use Rattle.class_lookup.specs.Parts.{Signature}
use Rattle.class_lookup.specs.Hierarchy.{superclass, is_interface, is_subclass, IsAcyclic}
use Rattle.class_lookup.specs.Lookup.{Place, same_place, declared_method}
use Rattle.class_lookup.specs.Selection.{signature_at, Overrides, upwards, overriding, overrides, head, is_public_instance, select}
use Rattle.class_lookup.specs.Laws.{DeclareMethodsOnce, OverridingLaw, OverridingNeeds, IsOrOverrides, IsFirstOverriding, IsFirstPublic, SelectionLaw}
use Rattle.class_lookup.proofs.Hierarchies.{IsUpward, upward_self, upward_by, not_itself}
use Rattle.class_lookup.proofs.Searches.{none≢some, some_same}
use Rattle.class_lookup.proofs.Lookups.{declared_is}
use Rattle.class_lookup.proofs.Overriding.{has, place_same, same_is_place, has_head, has_tail, has_cases, overriding_cases, overriding_among, overriding_needs, overriding_self, joins, head_has, head_none, head_again}
use Rattle.class_lookup.proofs.Selecting.{declared_signature, method_declared, up, up_has, has_up, no_repeat, may_of, all_override, lower_has, overrides_in}

pub map_or_true : {A : Type 0} (f : A → Bool) (o : Option A) → option_map_or f o false ≡ true → (x : A) × (o ≡ Some x) × (f x ≡ true)
map_or_true f None h = absurd (false≢true h)
map_or_true f (Some x) h = (x, refl, h)

-- ---- overriding

to_overrides : (cs : List ClassFile) → IsAcyclic cs → (m a : Place) → overrides cs m a ≡ true → Overrides cs m a
to_overrides cs ac m a h =
    let f : Signature → Bool = λ s. list_any (same_place m) (overriding cs a (upwards cs s m.0)) in
    let parts = and_parts (not (same_place m a)) (option_map_or f (signature_at cs m) false) h in
    let s = map_or_true f (signature_at cs m) parts.1 in
    let there = up_has cs s.0 m.0 a (overriding_needs cs a (upwards cs s.0 m.0) m s.2) in
    let sa = declared_signature cs s.0 a.0 a there.0 in
    elim (all_override cs ac s.0 a sa m.0 m s.2) [
      | inl e ↦ absurd (both_ways (same_place m a) (not-true (same_place m a) parts.0) (same_is_place m a e))
      | inr o ↦ o
    ]

from_overrides : (cs : List ClassFile) → IsAcyclic cs → DeclareMethodsOnce cs → (m a : Place) → Overrides cs m a → overrides cs m a ≡ true
from_overrides cs ac ds m a o =
    let may = may_of o in
    let f : Signature → Bool = λ s. list_any (same_place m) (overriding cs a (upwards cs s m.0)) in
    let apart : same_place m a ≡ true → ⊥ = λ e.
    both_ways (is_subclass cs m.0 m.0) (not_itself cs ac m.0) (ap (λ (p : Place). is_subclass cs m.0 p.0) (place_same m a e) ∙ may.below) in
    and_from (not (same_place m a)) (option_map_or f (signature_at cs m) false)
    (not_from_false (same_place m a) (false_from_ne_true (same_place m a) apart))
    (ap (λ o. option_map_or f o false) may.has ∙ overrides_in cs ac ds may.signature m a may.has o)

pub overriding_law : OverridingLaw
overriding_law cs ac ds m a = (to_overrides cs ac m a, from_overrides cs ac ds m a)

pub overriding_needs_law : OverridingNeeds
overriding_needs_law cs m a o = may_of o

-- ---- from a class upwards, what stands later stands above

abbrev Ladder : List ClassFile → List Place → Type 0
Ladder cs [] = Unit {0}
Ladder cs (x ∷ above) = ((m : Place) → has above m ≡ true → IsUpward cs x.0 m.0) × Ladder cs above

ladder_cons : (cs : List ClassFile) → IsAcyclic cs → (s : Signature) (c d : ℕ) → superclass cs c ≡ Some d → Ladder cs (upwards cs s d) → (o : Option Place) → declared_method cs s c ≡ o → Ladder cs (cons_option o (upwards cs s d))
ladder_cons cs ac s c d h l None e = l
ladder_cons cs ac s c d h l (Some x) e =
    let own = (declared_is (λ k. k.methods) cs s c x e).own in
    (λ m t. subst (λ k. IsUpward cs k m.0) (sym own) (upward_by cs ac c d m.0 h (up_has cs s d m t).1), l)

ladder_alone : (cs : List ClassFile) (o : Option Place) → Ladder cs (cons_option o [])
ladder_alone cs None = tt
ladder_alone cs (Some x) = (λ m t. absurd (false≢true t), tt)

ladder : (cs : List ClassFile) → IsAcyclic cs → (s : Signature) (c : ℕ) → Ladder cs (upwards cs s c)
ladder cs ac s c = up cs ac s (λ c ms. Ladder cs ms) (λ c h. ladder_alone cs (declared_method cs s c)) (λ c d h l. ladder_cons cs ac s c d h l (declared_method cs s c) refl) c

above_first : (cs : List ClassFile) → IsAcyclic cs → (x m : Place) (above : List Place) → Ladder cs (x ∷ above) → has (x ∷ above) m ≡ true → IsUpward cs x.0 m.0
above_first cs ac x m above l h = elim (has_cases x m above h) [ inl e ↦ subst (λ (k : Place). IsUpward cs x.0 k.0) (sym e) (upward_self cs ac x.0) | inr e ↦ l.0 m e ]

first_case : (cs : List ClassFile) → IsAcyclic cs → (a t x m : Place) (above : List Place) → Ladder cs (x ∷ above) → (head (overriding cs a above) ≡ Some t → has (overriding cs a above) m ≡ true → IsUpward cs t.0 m.0)
    → (b : Bool) → joins cs a x above ≡ b → head (if b then x ∷ overriding cs a above else overriding cs a above) ≡ Some t → has (overriding cs a (x ∷ above)) m ≡ true → IsUpward cs t.0 m.0
first_case cs ac a t x m above l later true j h i =
    subst (λ (k : Place). IsUpward cs k.0 m.0) (some_same x t h) (above_first cs ac x m above l (overriding_among cs a (x ∷ above) m i))
first_case cs ac a t x m above l later false j h i =
    elim (overriding_cases cs a x above m i) [
      | inl e ↦ absurd (both_ways (joins cs a x above) j e.1)
      | inr e ↦ later h e
    ]

head_first : (cs : List ClassFile) → IsAcyclic cs → (a t m : Place) (ms : List Place) → Ladder cs ms → head (overriding cs a ms) ≡ Some t → has (overriding cs a ms) m ≡ true → IsUpward cs t.0 m.0
head_first cs ac a t m [] l h i = absurd (none≢some t h)
head_first cs ac a t m (x ∷ above) l h i = first_case cs ac a t x m above l (head_first cs ac a t m above l.1) (joins cs a x above) refl h i

find_case : (cs : List ClassFile) → IsAcyclic cs → (test : Place → Bool) (t x : Place) (above : List Place) → Ladder cs (x ∷ above)
    → (find test above ≡ Some t → (has above t ≡ true) × (test t ≡ true) × ((m : Place) → has above m ≡ true → test m ≡ true → IsUpward cs t.0 m.0))
    → (b : Bool) → test x ≡ b → (if b then Some x else find test above) ≡ Some t
    → (has (x ∷ above) t ≡ true) × (test t ≡ true) × ((m : Place) → has (x ∷ above) m ≡ true → test m ≡ true → IsUpward cs t.0 m.0)
find_case cs ac test t x above l later true e h =
    let same = some_same x t h in (
      ap (has (x ∷ above)) (sym same) ∙ has_head x above,
      ap test (sym same) ∙ e,
      λ m i p. subst (λ (k : Place). IsUpward cs k.0 m.0) same (above_first cs ac x m above l i),
    )
find_case cs ac test t x above l later false e h =
    let r = later h in (
      has_tail x t above r.0,
      r.1,
      λ m i p. elim (has_cases x m above i) [ inl s ↦ absurd (both_ways (test x) e (ap test (sym s) ∙ p)) | inr s ↦ r.2 m s p ],
    )

find_first : (cs : List ClassFile) → IsAcyclic cs → (test : Place → Bool) (t : Place) (ms : List Place) → Ladder cs ms → find test ms ≡ Some t
    → (has ms t ≡ true) × (test t ≡ true) × ((m : Place) → has ms m ≡ true → test m ≡ true → IsUpward cs t.0 m.0)
find_first cs ac test t [] l h = absurd (none≢some t h)
find_first cs ac test t (x ∷ above) l h = find_case cs ac test t x above l (find_first cs ac test t above l.1) (test x) refl h

none_case : (test : Place → Bool) (x m : Place) (above : List Place) → (find test above ≡ None → has above m ≡ true → test m ≡ true → ⊥)
    → (b : Bool) → test x ≡ b → (if b then Some x else find test above) ≡ None → has (x ∷ above) m ≡ true → test m ≡ true → ⊥
none_case test x m above later true e h i p = none≢some x (sym h)
none_case test x m above later false e h i p = elim (has_cases x m above i) [ inl s ↦ both_ways (test x) e (ap test (sym s) ∙ p) | inr s ↦ later h s p ]

find_none : (test : Place → Bool) (ms : List Place) (m : Place) → find test ms ≡ None → has ms m ≡ true → test m ≡ true → ⊥
find_none test [] m h i p = false≢true i
find_none test (x ∷ above) m h i p = none_case test x m above (find_none test above m) (test x) refl h i p

-- ---- selection

pub select_class : (cs : List ClassFile) (r : ℕ) (a : Place) (s : Signature) → signature_at cs a ≡ Some s → is_interface cs a.0 ≡ false → select cs r a ≡ head (overriding cs a (upwards cs s r))
unfolding select
select_class cs r a s sa i =
    ap (λ o. onto o (λ s. if is_interface cs a.0 then find (is_public_instance cs) (upwards cs s r) else head (overriding cs a (upwards cs s r)))) sa
    ∙ cond-false (is_interface cs a.0) (find (is_public_instance cs) (upwards cs s r)) (head (overriding cs a (upwards cs s r))) i

pub select_interface : (cs : List ClassFile) (r : ℕ) (a : Place) (s : Signature) → signature_at cs a ≡ Some s → is_interface cs a.0 ≡ true → select cs r a ≡ find (is_public_instance cs) (upwards cs s r)
unfolding select
select_interface cs r a s sa i =
    ap (λ o. onto o (λ s. if is_interface cs a.0 then find (is_public_instance cs) (upwards cs s r) else head (overriding cs a (upwards cs s r)))) sa
    ∙ cond-true (is_interface cs a.0) (find (is_public_instance cs) (upwards cs s r)) (head (overriding cs a (upwards cs s r))) i

-- what is the method or overrides it is in the list of each class below
pub in_list : (cs : List ClassFile) → IsAcyclic cs → DeclareMethodsOnce cs → (r : ℕ) (a m : Place) (s : Signature) → signature_at cs a ≡ Some s → IsOrOverrides cs m a → IsUpward cs r m.0 → has (overriding cs a (upwards cs s r)) m ≡ true
in_list cs ac ds r a m s sa (inl e) u =
    let ua = subst (λ (k : Place). IsUpward cs r k.0) e u in
    ap (has (overriding cs a (upwards cs s r))) e ∙ overriding_self cs a (upwards cs s r) (has_up cs s r a ua (method_declared cs ds a s sa))
in_list cs ac ds r a m s sa (inr o) u =
    let may = may_of o in
    let sm = may.has ∙ (sym may.same ∙ sa) in
    lower_has cs ac s a m r m.0 u (overrides_in cs ac ds s m a sm o)

of_class : (cs : List ClassFile) → IsAcyclic cs → DeclareMethodsOnce cs → (r : ℕ) (a : Place) (s : Signature) → signature_at cs a ≡ Some s → is_interface cs a.0 ≡ false → (t : Place) → select cs r a ≡ Some t → IsFirstOverriding cs r a t
of_class cs ac ds r a s sa i t h =
    let e = sym (select_class cs r a s sa i) ∙ h in
    let there = head_has (overriding cs a (upwards cs s r)) t e in
    record {
      is = all_override cs ac s a sa r t there;
      upward = (up_has cs s r t (overriding_among cs a (upwards cs s r) t there)).1;
      first = λ m o u. head_first cs ac a t m (upwards cs s r) (ladder cs ac s r) e (in_list cs ac ds r a m s sa o u);
    }

none_of_class : (cs : List ClassFile) → IsAcyclic cs → DeclareMethodsOnce cs → (r : ℕ) (a : Place) (s : Signature) → signature_at cs a ≡ Some s → is_interface cs a.0 ≡ false → select cs r a ≡ None → (m : Place) → IsOrOverrides cs m a → IsUpward cs r m.0 → ⊥
none_of_class cs ac ds r a s sa i h m o u =
    head_none (overriding cs a (upwards cs s r)) m (sym (select_class cs r a s sa i) ∙ h) (in_list cs ac ds r a m s sa o u)

-- what is or overrides a method has its name and descriptor
same_signature : (cs : List ClassFile) (a t : Place) (s : Signature) → signature_at cs a ≡ Some s → IsOrOverrides cs t a → signature_at cs t ≡ Some s
same_signature cs a t s sa (inl e) = ap (signature_at cs) e ∙ sa
same_signature cs a t s sa (inr o) = let may = may_of o in may.has ∙ (sym may.same ∙ sa)

again : (cs : List ClassFile) → IsAcyclic cs → DeclareMethodsOnce cs → (r : ℕ) (a : Place) (s : Signature) → signature_at cs a ≡ Some s → is_interface cs a.0 ≡ false → (t : Place) → is_interface cs t.0 ≡ false → select cs r a ≡ Some t → select cs r t ≡ Some t
again cs ac ds r a s sa i t j h =
    let st = same_signature cs a t s sa (of_class cs ac ds r a s sa i t h).is in
    select_class cs r t s st j ∙ head_again cs a t (upwards cs s r) (no_repeat cs ac s r) (sym (select_class cs r a s sa i) ∙ h)

of_interface : (cs : List ClassFile) → IsAcyclic cs → DeclareMethodsOnce cs → (r : ℕ) (a : Place) (s : Signature) → signature_at cs a ≡ Some s → is_interface cs a.0 ≡ true → (t : Place) → select cs r a ≡ Some t → IsFirstPublic cs r s t
of_interface cs ac ds r a s sa i t h =
    let f = find_first cs ac (is_public_instance cs) t (upwards cs s r) (ladder cs ac s r) (sym (select_interface cs r a s sa i) ∙ h) in
    let u = up_has cs s r t f.0 in
    record {
      signature = declared_signature cs s t.0 t u.0;
      public = f.1;
      upward = u.1;
      first = λ m sm p v. f.2 m (has_up cs s r m v (method_declared cs ds m s sm)) p;
    }

none_of_interface : (cs : List ClassFile) → DeclareMethodsOnce cs → (r : ℕ) (a : Place) (s : Signature) → signature_at cs a ≡ Some s → is_interface cs a.0 ≡ true → select cs r a ≡ None → (m : Place) → signature_at cs m ≡ Some s → is_public_instance cs m ≡ true → IsUpward cs r m.0 → ⊥
none_of_interface cs ds r a s sa i h m sm p u =
    find_none (is_public_instance cs) (upwards cs s r) m (sym (select_interface cs r a s sa i) ∙ h) (has_up cs s r m u (method_declared cs ds m s sm)) p

pub selection_law : SelectionLaw
selection_law cs ac ds r a s sa = record {
  of_class = of_class cs ac ds r a s sa;
  none_of_class = none_of_class cs ac ds r a s sa;
  again = again cs ac ds r a s sa;
  of_interface = of_interface cs ac ds r a s sa;
  none_of_interface = none_of_interface cs ds r a s sa;
}
