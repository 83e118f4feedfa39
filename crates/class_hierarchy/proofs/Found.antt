-- What is looked up by symbols is what the definitions look up.
use Rattle.std.proofs.Common.{◌≡◌, ℕ, suc, ◌<◌, Bool, true, false, ◌||◌, List, [], ◌∷◌, ◌++◌, ◌⊎◌, map, length, get_or, Option, Some, None, inl, inr, refl, sym, ap, ◌∙◌, subst, arith}
use Rattle.std.specs.Prelude.{slice_get, if◌then◌else◌}
use Rattle.std.specs.Option.{option_map, option_or, option_to_list}
use Rattle.std.specs.List.{list_any}
use Rattle.std.proofs.lemmas.Bool.{cond-true, cond-false, false_from_ne_true}
use Rattle.class_pool.specs.declared.class.Member.{Member}
use Rattle.class_pool.specs.declared.class.ClassFile.{ClassFile}
use Rattle.lists.specs.Lists.{onto, index_of}
use Rattle.lists.proofs.Lemmas.{none≢some}
use Rattle.class_lookup.specs.Lists.{first_some}
use Rattle.class_lookup.specs.Parts.{Signature, signature_of, same_signature, is_init}
use Rattle.class_lookup.specs.Hierarchy.{superclass, superclasses, supertypes, with_superinterfaces, all_superinterfaces, is_interface, is_among, is_subclass}
use Rattle.class_lookup.specs.Lookup.{Place, declared, declared_in, declared_field, declared_method, find_field, find_method, method_search}
use Rattle.number_sets.specs.Numbers.{IsSameSearch}
use Rattle.class_lookup.specs.Laws.{MembersHaveSymbols}
use Rattle.class_lookup.specs.Symbols.{symbol}
use Rattle.class_hierarchy.specs.Tables.{AreAbove}
use Rattle.class_hierarchy.specs.declared.above.Above.{Above}
use Rattle.lists.proofs.Finding.{all_none, search_append}
use Rattle.lists.proofs.Tables.{entry_read}
use Rattle.class_hierarchy.proofs.Directly.{signature_same}

-- ---- a name or a descriptor without a symbol

abbrev pub IsUnknown : List ClassFile → Signature → Type 0
IsUnknown cs s = (symbol cs s.name ≡ None) ⊎ (symbol cs s.descriptor ≡ None)

other_signature : (cs : List ClassFile) → MembersHaveSymbols → (c : ℕ) (k : ClassFile) → slice_get cs c ≡ Some k → (s : Signature) → IsUnknown cs s → (m : Member) → same_signature (signature_of k m) s ≡ false
other_signature cs law c k at s w m = false_from_ne_true (same_signature (signature_of k m) s) (λ x.
    let same = signature_same (signature_of k m) s x in
    elim w [
      | inl e ↦ let h = law cs c k m.name at in none≢some h.0 (sym (ap (λ (t : Signature). symbol cs t.name) same ∙ e) ∙ h.1)
      | inr e ↦ let h = law cs c k m.descriptor at in none≢some h.0 (sym (ap (λ (t : Signature). symbol cs t.descriptor) same ∙ e) ∙ h.1)
    ])

none_passes : {A : Type 0} (test : A → Bool) (xs : List A) → ((x : A) → test x ≡ false) → index_of test xs ≡ None
none_passes test [] h = refl
none_passes test (x ∷ xs) h = cond-false (test x) (Some 0) (onto (index_of test xs) (λ k. Some (suc k))) (h x) ∙ ap (λ o. onto o (λ k. Some (suc k))) (none_passes test xs h)

nowhere_case : (members : ClassFile → List Member) (s : Signature) (c : ℕ) (o : Option ClassFile) → ((k : ClassFile) → o ≡ Some k → index_of (λ m. same_signature (signature_of k m) s) (members k) ≡ None)
    → onto {B = Place} o (λ k. option_map (λ i. (c, i)) (declared_in members s k)) ≡ None
nowhere_case members s c None h = refl
nowhere_case members s c (Some k) h = ap (option_map (λ i. (c, i))) (h k refl)

nowhere : (cs : List ClassFile) → MembersHaveSymbols → (members : ClassFile → List Member) (s : Signature) → IsUnknown cs s → (c : ℕ) → declared members cs s c ≡ None
nowhere cs law members s w c =
    nowhere_case members s c (slice_get cs c) (λ k at. none_passes (λ m. same_signature (signature_of k m) s) (members k) (other_signature cs law c k at s w))

pub no_method : (cs : List ClassFile) → MembersHaveSymbols → (s : Signature) → IsUnknown cs s → (c : ℕ) → None ≡ declared_method cs s c
no_method cs law s w c = sym (nowhere cs law (λ k. k.methods) s w c)

pub field_none : (cs : List ClassFile) → MembersHaveSymbols → (s : Signature) → IsUnknown cs s → (c : ℕ) → None ≡ find_field cs c s
unfolding find_field
field_none cs law s w c = sym (all_none (declared_field cs s) (supertypes cs c) (λ k e. nowhere cs law (λ k. k.fields) s w k))

none_of_both : (b : Bool) (o r : Option Place) → o ≡ None → r ≡ None → None ≡ (if b then o else r)
none_of_both true o r h e = sym h
none_of_both false o r h e = sym e

pub method_none : (cs : List ClassFile) → MembersHaveSymbols → (s : Signature) → IsUnknown cs s → (c : ℕ) → None ≡ find_method cs c s
unfolding find_method
method_none cs law s w c =
    none_of_both (is_init s) (declared_method cs s c) (first_some (map (declared_method cs s) (method_search cs c)))
    (nowhere cs law (λ k. k.methods) s w c) (all_none (declared_method cs s) (method_search cs c) (λ k e. nowhere cs law (λ k. k.methods) s w k))

-- ---- fields

pub field_found : (cs : List ClassFile) (c : ℕ) (s : Signature) (list : List ℕ) → IsSameSearch list (supertypes cs c) → first_some (map (declared_field cs s) list) ≡ find_field cs c s
unfolding find_field
field_found cs c s list same = same (declared_field cs s)

-- ---- methods

pub init_found : (cs : List ClassFile) (c : ℕ) (s : Signature) → is_init s ≡ true → declared_method cs s c ≡ find_method cs c s
unfolding find_method
init_found cs c s i = sym (cond-true (is_init s) (declared_method cs s c) (first_some (map (declared_method cs s) (method_search cs c))) i)

other_method : (cs : List ClassFile) (c : ℕ) (s : Signature) → is_init s ≡ false → find_method cs c s ≡ first_some (map (declared_method cs s) (method_search cs c))
unfolding find_method
other_method cs c s i = cond-false (is_init s) (declared_method cs s c) (first_some (map (declared_method cs s) (method_search cs c))) i

pub interface_found : (cs : List ClassFile) (c : ℕ) (s : Signature) → is_init s ≡ false → is_interface cs c ≡ true → (list : List ℕ) → IsSameSearch list (with_superinterfaces cs c) → first_some (map (declared_method cs s) list) ≡ find_method cs c s
interface_found cs c s i k list same =
    same (declared_method cs s)
    ∙ sym (other_method cs c s i ∙ ap (λ xs. first_some (map (declared_method cs s) xs)) (cond-true (is_interface cs c) (with_superinterfaces cs c) (superclasses cs c ++ all_superinterfaces cs c) k))

pub class_found : (cs : List ClassFile) (c : ℕ) (s : Signature) → is_init s ≡ false → is_interface cs c ≡ false → first_some (map (declared_method cs s) (superclasses cs c ++ all_superinterfaces cs c)) ≡ find_method cs c s
class_found cs c s i k =
    sym (other_method cs c s i ∙ ap (λ xs. first_some (map (declared_method cs s) xs)) (cond-false (is_interface cs c) (with_superinterfaces cs c) (superclasses cs c ++ all_superinterfaces cs c) k))

-- in a class and its superclasses, and then in their superinterfaces
pub first_above : (cs : List ClassFile) (c : ℕ) (s : Signature) (list : List ℕ) → list ≡ superclasses cs c → (p : Place) → Some p ≡ first_some (map (declared_method cs s) list)
    → Some p ≡ first_some (map (declared_method cs s) (superclasses cs c ++ all_superinterfaces cs c))
first_above cs c s list same p e =
    let own = e ∙ ap (λ xs. first_some (map (declared_method cs s) xs)) same in
    sym (search_append (declared_method cs s) (superclasses cs c) (all_superinterfaces cs c) ∙ ap (λ o. option_or o (first_some (map (declared_method cs s) (all_superinterfaces cs c)))) (sym own))

pub then_above : (cs : List ClassFile) (c : ℕ) (s : Signature) (list : List ℕ) → list ≡ superclasses cs c → None ≡ first_some (map (declared_method cs s) list) → (rest : List ℕ) → IsSameSearch rest (all_superinterfaces cs c)
    → first_some (map (declared_method cs s) rest) ≡ first_some (map (declared_method cs s) (superclasses cs c ++ all_superinterfaces cs c))
then_above cs c s list same e rest also =
    let own = e ∙ ap (λ xs. first_some (map (declared_method cs s) xs)) same in
    also (declared_method cs s)
    ∙ sym (search_append (declared_method cs s) (superclasses cs c) (all_superinterfaces cs c) ∙ ap (λ o. option_or o (first_some (map (declared_method cs s) (all_superinterfaces cs c)))) (sym own))

-- ---- as the code reads the tables

within : (cs : List ClassFile) (table : List (List ℕ)) (c : ℕ) → length table ≡ length cs → c < length cs → c < length table
within cs table c long lt = omega (arith, long, lt)

pub supertypes_read : (cs : List ClassFile) (a : Above) → AreAbove cs a → (c : ℕ) → c < length cs → (read : List ℕ) → read ≡ get_or a.supertypes.items c read → IsSameSearch read (supertypes cs c)
supertypes_read cs a t c lt read e =
    subst (λ (xs : List ℕ). IsSameSearch xs (supertypes cs c)) (entry_read a.supertypes.items c read (within cs a.supertypes.items c t.supertypes_long lt) e) (t.supertypes c lt)

pub interfaces_read : (cs : List ClassFile) (a : Above) → AreAbove cs a → (c : ℕ) → c < length cs → (read : List ℕ) → read ≡ get_or a.interfaces.items c read → IsSameSearch read (with_superinterfaces cs c)
interfaces_read cs a t c lt read e =
    subst (λ (xs : List ℕ). IsSameSearch xs (with_superinterfaces cs c)) (entry_read a.interfaces.items c read (within cs a.interfaces.items c t.interfaces_long lt) e) (t.interfaces c lt)

pub inherited_read : (cs : List ClassFile) (a : Above) → AreAbove cs a → (c : ℕ) → c < length cs → (read : List ℕ) → read ≡ get_or a.inherited.items c read → IsSameSearch read (all_superinterfaces cs c)
inherited_read cs a t c lt read e =
    subst (λ (xs : List ℕ). IsSameSearch xs (all_superinterfaces cs c)) (entry_read a.inherited.items c read (within cs a.inherited.items c t.inherited_long lt) e) (t.inherited c lt)

pub superclasses_read : (cs : List ClassFile) (a : Above) → AreAbove cs a → (c : ℕ) → c < length cs → (read : List ℕ) → read ≡ get_or a.superclasses.items c read → read ≡ superclasses cs c
superclasses_read cs a t c lt read e = sym (entry_read a.superclasses.items c read (within cs a.superclasses.items c t.superclasses_long lt) e) ∙ t.superclasses c lt

or_end : (x : Bool) → x ≡ (x || false)
or_end true = refl
or_end false = refl

pub subclass_read : (cs : List ClassFile) (c d u : ℕ) → Some u ≡ superclass cs c → (read : List ℕ) → read ≡ superclasses cs u → is_among read d ≡ is_subclass cs c d
subclass_read cs c d u h read e =
    ap (λ xs. is_among xs d) e ∙ (or_end (is_among (superclasses cs u) d) ∙ ap (λ o. list_any (λ s. is_among (superclasses cs s) d) (option_to_list o)) h)
