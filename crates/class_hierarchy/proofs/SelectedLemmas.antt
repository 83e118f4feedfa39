-- Selection by symbols is that of the definition.
use Rattle.std.proofs.Common.{◌≡◌, ℕ, ◌<◌, Bool, true, false, List, [], ◌∷◌, map, length, replicate, Result, Ok, Err, Vec, Global, Option, Some, None, refl, sym, ap, ◌∙◌}
use Rattle.std.specs.Prelude.{slice_get, if◌then◌else◌}
use Rattle.std.specs.List.{filter_map, cons_option, find}
use Rattle.std.specs.Result.{IfOk}
use Rattle.lists.proofs.Searching.{map_same}
use Rattle.std.proofs.lemmas.Option.{slice_get_within}
use Rattle.std.proofs.lemmas.Bool.{cond-true, cond-false}
use Rattle.class_pool.specs.declared.class.ClassFile.{ClassFile}
use Rattle.lists.specs.Lists.{onto}
use Rattle.lists.proofs.Lemmas.{onto_some}
use Rattle.class_lookup.specs.Parts.{Signature, signature_of}
use Rattle.class_lookup.specs.Hierarchy.{superclass, superclasses, is_interface}
use Rattle.class_lookup.specs.Lookup.{Place, method_at, declared_method}
use Rattle.class_lookup.specs.Selection.{signature_at, upwards, overriding, head, is_public_instance, is_instance, is_of_superclass, select, special}
use Rattle.class_hierarchy.specs.Members.{declared_as}
use Rattle.class_hierarchy.specs.Selecting.{selected_of, selected_at}

same_up : (f g : ℕ → Option Place) (xs : List ℕ) → ((c : ℕ) → f c ≡ g c) → filter_map f xs ≡ filter_map g xs
same_up f g [] h = refl
same_up f g (x ∷ xs) h = ap (λ o. cons_option o (filter_map f xs)) (h x) ∙ ap (cons_option (g x)) (same_up f g xs h)

-- the methods from a class upwards
up_is : (cs : List ClassFile) (a : Place) (s : Signature) → signature_at cs a ≡ Some s → (r : ℕ) (list : List ℕ) → list ≡ superclasses cs r → filter_map (declared_as cs a) list ≡ upwards cs s r
up_is cs a s h r list e =
    ap (filter_map (declared_as cs a)) e ∙ same_up (declared_as cs a) (declared_method cs s) (superclasses cs r) (λ c. ap (λ o. onto o (λ s. declared_method cs s c)) h)

-- ---- invokevirtual and invokeinterface

abbrev select_case : List ClassFile → (receiver : ℕ) → (a : Place) → Signature → Option Place
select_case cs r a s = if is_interface cs a.0 then find (is_public_instance cs) (upwards cs s r) else head (overriding cs a (upwards cs s r))

pub select_none : (cs : List ClassFile) (r : ℕ) (a : Place) → signature_at cs a ≡ None → None ≡ select cs r a
unfolding select
select_none cs r a h = sym (ap (λ o. onto o (select_case cs r a)) h)

pub select_public : (cs : List ClassFile) (r : ℕ) (a : Place) (s : Signature) → signature_at cs a ≡ Some s → is_interface cs a.0 ≡ true → (list : List ℕ) → list ≡ superclasses cs r
    → find (is_public_instance cs) (filter_map (declared_as cs a) list) ≡ select cs r a
unfolding select
select_public cs r a s h i list e =
    ap (find (is_public_instance cs)) (up_is cs a s h r list e)
    ∙ sym (ap (λ o. onto o (select_case cs r a)) h ∙ cond-true (is_interface cs a.0) (find (is_public_instance cs) (upwards cs s r)) (head (overriding cs a (upwards cs s r))) i)

pub select_overriding : (cs : List ClassFile) (r : ℕ) (a : Place) (s : Signature) → signature_at cs a ≡ Some s → is_interface cs a.0 ≡ false → (list : List ℕ) → list ≡ superclasses cs r
    → head (overriding cs a (filter_map (declared_as cs a) list)) ≡ select cs r a
unfolding select
select_overriding cs r a s h i list e =
    ap (λ ms. head (overriding cs a ms)) (up_is cs a s h r list e)
    ∙ sym (ap (λ o. onto o (select_case cs r a)) h ∙ cond-false (is_interface cs a.0) (find (is_public_instance cs) (upwards cs s r)) (head (overriding cs a (upwards cs s r))) i)

-- for many receivers
pub selected_is : (cs : List ClassFile) (a : Place) (s : Signature) → signature_at cs a ≡ Some s → (i : Bool) → is_interface cs a.0 ≡ i → (c : ℕ) → (selected_at cs i a c).place ≡ select cs c a
unfolding selected_at selected_of
selected_is cs a s h true i c = select_public cs c a s h i (superclasses cs c) refl
selected_is cs a s h false i c = select_overriding cs c a s h i (superclasses cs c) refl

pub places_are : {E : Type 0} (r : Result (Vec (Option Place) Global) E) (f g : ℕ → Option Place) (xs : List ℕ) → ((c : ℕ) → f c ≡ g c) → IfOk r (λ places. places.items ≡ map f xs) → IfOk r (λ places. places.items ≡ map g xs)
places_are (Ok v) f g xs h e = e ∙ map_same f g xs h
places_are (Err e) f g xs h t = tt

pub none_each : (f : ℕ → Option Place) (xs : List ℕ) → ((c : ℕ) → None ≡ f c) → replicate (length xs) None ≡ map f xs
none_each f [] h = refl
none_each f (x ∷ xs) h = ap (λ o. o ∷ replicate (length xs) None) (h x) ∙ ap (λ os. f x ∷ os) (none_each f xs h)

-- a method has a class
pub class_there : (cs : List ClassFile) (a : Place) (s : Signature) → signature_at cs a ≡ Some s → a.0 < length cs
class_there cs a s h =
    let c = onto_some (slice_get cs a.0) (λ c. onto (method_at cs a) (λ k. Some (signature_of c k))) s h in
    slice_get_within cs a.0 c.0 c.1

-- ---- invokespecial

abbrev special_case : List ClassFile → (current named : ℕ) → (a : Place) → Signature → Option Place
special_case cs current named a s = if is_of_superclass cs current named s then onto (superclass cs current) (λ d. find (is_instance cs) (upwards cs s d)) else Some a

pub special_none : (cs : List ClassFile) (current named : ℕ) (a : Place) → signature_at cs a ≡ None → None ≡ special cs current named a
unfolding special
special_none cs current named a h = sym (ap (λ o. onto o (special_case cs current named a)) h)

pub special_other : (cs : List ClassFile) (current named : ℕ) (a : Place) (s : Signature) → signature_at cs a ≡ Some s → is_of_superclass cs current named s ≡ false → Some a ≡ special cs current named a
unfolding special
special_other cs current named a s h f =
    sym (ap (λ o. onto o (special_case cs current named a)) h ∙ cond-false (is_of_superclass cs current named s) (onto (superclass cs current) (λ d. find (is_instance cs) (upwards cs s d))) (Some a) f)

special_above : (cs : List ClassFile) (current named : ℕ) (a : Place) (s : Signature) → signature_at cs a ≡ Some s → is_of_superclass cs current named s ≡ true → special cs current named a ≡ onto (superclass cs current) (λ d. find (is_instance cs) (upwards cs s d))
unfolding special
special_above cs current named a s h f =
    ap (λ o. onto o (special_case cs current named a)) h ∙ cond-true (is_of_superclass cs current named s) (onto (superclass cs current) (λ d. find (is_instance cs) (upwards cs s d))) (Some a) f

pub special_topmost : (cs : List ClassFile) (current named : ℕ) (a : Place) (s : Signature) → signature_at cs a ≡ Some s → is_of_superclass cs current named s ≡ true → superclass cs current ≡ None → None ≡ special cs current named a
special_topmost cs current named a s h f none = sym (special_above cs current named a s h f ∙ ap (λ o. onto o (λ d. find (is_instance cs) (upwards cs s d))) none)

pub special_found : (cs : List ClassFile) (current named : ℕ) (a : Place) (s : Signature) → signature_at cs a ≡ Some s → is_of_superclass cs current named s ≡ true → (d : ℕ) → superclass cs current ≡ Some d → (list : List ℕ) → list ≡ superclasses cs d
    → find (is_instance cs) (filter_map (declared_as cs a) list) ≡ special cs current named a
special_found cs current named a s h f d up list e =
    ap (find (is_instance cs)) (up_is cs a s h d list e)
    ∙ sym (special_above cs current named a s h f ∙ ap (λ o. onto o (λ d. find (is_instance cs) (upwards cs s d))) up)
