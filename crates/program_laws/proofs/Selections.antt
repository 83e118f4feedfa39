-- A method with code is selected in each class of which there are objects.
use Rattle.std.proofs.Common.{◌≡◌, ℕ, zero, suc, ◌+◌, ◌<◌, ◌≤◌, Bool, true, false, not, ◌&&◌, ◌||◌, eqb, List, [], ◌∷◌, ◌++◌, ◌⊎◌, inl, inr, Option, Some, None, map, length, refl, sym, ap, ◌∙◌, subst, arith}
use Rattle.std.specs.Prelude.{slice_get, slice_index, is_some, is_none, if◌then◌else◌}
use Rattle.std.specs.Option.{option_map_or}
use Rattle.std.specs.List.{filter, flat_map, list_all, enumerate_from, range_with_len}
use Rattle.std.proofs.lemmas.Bool.{false≢true, both_ways, eqb-true, eq-eqb, not-true, not-false, or_cases, or_left, or_right, and_parts, cases_Bool, false_from_ne_true}
use Rattle.std.proofs.lemmas.List.Folds.{list_any-append}
use Rattle.std.proofs.lemmas.Option.{slice_get_within}
use Rattle.class_lookup.proofs.Overriding.{same_is_place}
use Rattle.class_pool.specs.declared.class.Member.{Member}
use Rattle.class_pool.specs.declared.class.ClassFile.{ClassFile}
use Rattle.class_rules.specs.Rules.{IsRightMethod}
use Rattle.class_rules.specs.Found.{MethodsHaveCode}
use Rattle.class_rules.specs.Grammar.{IsClass}
use Rattle.bytecode_model.specs.Lists.{onto}
use Rattle.bytecode_model.specs.Program.{object_class}
use Rattle.lists.proofs.Lemmas.{none≢some, some_same, onto_some, index_found}
use Rattle.class_lookup.specs.Parts.{Signature, signature_of, has_code, is_abstract, is_native, is_private, is_static, is_public, is_interface_class, is_clinit, same_text, name_of, superclass_name}
use Rattle.class_lookup.specs.Hierarchy.{find_class, superclass, supertypes, is_among, is_interface, is_concrete, extends, IsAcyclic}
use Rattle.class_lookup.specs.Lookup.{Place, method_at, same_place}
use Rattle.class_lookup.specs.Selection.{signature_at, is_method_with, is_virtual, is_public_instance, is_instance, select}
use Rattle.class_lookup.specs.Laws.{IsOrOverrides, IsFirstOverriding, IsUpwardOf, IsMethod}
use Rattle.program_tables.specs.declared.refusal.Item.{Item}
use Rattle.program_tables.specs.declared.refusal.Item.TheVariants.{Native, InterfaceCode}
use Rattle.program_tables.specs.declared.refusal.Site.{Site}
use Rattle.program_tables.specs.declared.refusal.Site.TheVariants as sites
use Rattle.program_tables.specs.declared.refusal.Why.{Why}
use Rattle.program_tables.specs.declared.refusal.Why.TheVariants.{NotImplemented}
use Rattle.program_tables.specs.Instructions.{instructions_of}
use Rattle.program_tables.specs.Unsupported.{items_where, items_of_types, types_in_method, has_interface_code, items_at_method, items_at_field, items_at_instruction, sited, items_in_method, unsupported_in}
use Rattle.program_tables.specs.Unresolved.{unless, abstract_methods_in, is_implemented, implements_all}
use Rattle.program_tables.specs.Resolving.{IsResolved}
use Rattle.program_laws.specs.Laws.{IsSelectedMethod, SelectionLaw}
use Rattle.program_laws.proofs.ClassLaws.{OrderLaws, MethodLaws, super_is_above, method_is}
use Rattle.program_laws.proofs.Places.{has, has_head, has_tail, has_cases}
use Rattle.program_laws.proofs.Facts.{all_at, map_or_some, map_or_at, set_of, has_of, distinct, well_placed, interface_not_concrete}
use Rattle.program_laws.proofs.Hierarchies.{above_class, superclass_is_class}

-- ---- empty lists

pub left_nil : {A : Type 0} (xs ys : List A) → xs ++ ys ≡ [] → xs ≡ []
left_nil [] ys h = refl
left_nil (x ∷ xs) ys h = absurd (none≢some x (sym (ap (λ zs. slice_get zs 0) h)))

pub right_nil : {A : Type 0} (xs ys : List A) → xs ++ ys ≡ [] → ys ≡ []
right_nil [] ys h = h
right_nil (x ∷ xs) ys h = absurd (none≢some x (sym (ap (λ zs. slice_get zs 0) h)))

pub part_nil : {A B : Type 0} (f : A → List B) (xs : List A) (i : ℕ) (x : A) → flat_map f xs ≡ [] → slice_get xs i ≡ Some x → f x ≡ []
part_nil f [] i x h e = absurd (none≢some x e)
part_nil f (y ∷ xs) zero x h e = ap f (sym (some_same y x e)) ∙ left_nil (f y) (flat_map f xs) h
part_nil f (y ∷ xs) (suc i) x h e = part_nil f xs i x (right_nil (f y) (flat_map f xs) h) e

pub enumerated : {A : Type 0} (xs : List A) (n i : ℕ) (x : A) → slice_get xs i ≡ Some x → slice_get (enumerate_from n xs) i ≡ Some (n + i, x)
enumerated [] n i x h = absurd (none≢some x h)
enumerated (y ∷ xs) n zero x h = let same : n ≡ n + 0 = omega arith in ap (λ k. Some (k, y)) same ∙ ap (λ z. Some (n + 0, z)) (some_same y x h)
enumerated (y ∷ xs) n (suc i) x h = let same : n + 1 + i ≡ n + suc i = omega arith in enumerated xs (n + 1) i x h ∙ ap (λ k. Some (k, x)) same

sited_nil : (site : Site) (items : List Item) → sited site items ≡ [] → items ≡ []
sited_nil site [] h = refl
sited_nil site (x ∷ items) h = absurd (none≢some (site, x) (sym (ap (λ zs. slice_get zs 0) h)))

where_nil : (b : Bool) (item : Item) → items_where b item ≡ [] → b ≡ false
where_nil true item h = absurd (none≢some item (sym (ap (λ zs. slice_get zs 0) h)))
where_nil false item h = refl

-- nothing unsupported stands at a method
pub method_supported : (c : ClassFile) (i : ℕ) (m : Member) → unsupported_in c ≡ [] → slice_get c.methods i ≡ Some m → items_at_method c m ≡ []
unfolding unsupported_in
method_supported c i m h e =
    let all = right_nil (flat_map (λ e. sited (sites.Field e.0) (items_at_field c e.1)) (enumerate_from 0 c.fields)) (flat_map (items_in_method c) (enumerate_from 0 c.methods)) h in
    let one = part_nil (items_in_method c) (enumerate_from 0 c.methods) i (0 + i, m) all (enumerated c.methods 0 i m e) in
    sited_nil (sites.Method (0 + i)) (items_at_method c m)
    (left_nil (sited (sites.Method (0 + i)) (items_at_method c m)) (flat_map (λ p. sited (sites.Code (0 + i) p.pc) (items_at_instruction c p.instr)) (instructions_of m)) one)

pub not_native : (c : ClassFile) (i : ℕ) (m : Member) → unsupported_in c ≡ [] → slice_get c.methods i ≡ Some m → is_native m ≡ false
not_native c i m h e =
    let items = method_supported c i m h e in
    let later = right_nil (items_of_types (types_in_method _)) (items_where (is_native m) Native ++ items_where (has_interface_code c m) InterfaceCode) items in
    where_nil (is_native m) Native (left_nil (items_where (is_native m) Native) (items_where (has_interface_code c m) InterfaceCode) later)

-- ---- a method has code or is abstract

pub code_or_abstract : MethodsHaveCode → (cs : List ClassFile) → IsResolved cs → (m : Place) (s : Signature) → IsMethod cs m s → (is_method_with has_code cs m ≡ true) ⊎ (is_method_with is_abstract cs m ≡ true)
code_or_abstract law cs r m s d =
    let at : method_at cs m ≡ Some d.member = ap (λ o. onto o (λ c. slice_get c.methods m.1)) d.class ∙ d.there in
    let rules = all_at (IsRightMethod d.owner) d.owner.methods m.1 d.member (all_at IsClass cs m.0 d.owner r.grammar d.class).rules.methods d.there in
    let native = not_native d.owner m.1 d.member (all_at (λ k. unsupported_in k ≡ []) cs m.0 d.owner r.supported d.class) d.there in
    elim (cases_Bool (is_abstract d.member)) [
      | inl a ↦ inr (map_or_at is_abstract (method_at cs m) d.member at ∙ a)
      | inr a ↦
          let code = (law d.owner d.member rules).2 (λ s. both_ways (is_abstract d.member) a (has_of d.member.flags 0x0400 s)) (λ s. both_ways (is_native d.member) native (has_of d.member.flags 0x0100 s)) in
          inl (map_or_at has_code (method_at cs m) d.member at ∙ ap is_some code.1)
    ]

-- an abstract method has none
pub abstract_has_none : MethodsHaveCode → (cs : List ClassFile) → IsResolved cs → (m : Place) (s : Signature) → IsMethod cs m s → is_method_with is_abstract cs m ≡ true → is_method_with has_code cs m ≡ true → ⊥
abstract_has_none law cs r m s d a k =
    let x = map_or_some is_abstract (method_at cs m) a in
    let y = map_or_some has_code (method_at cs m) k in
    let at : method_at cs m ≡ Some d.member = ap (λ o. onto o (λ c. slice_get c.methods m.1)) d.class ∙ d.there in
    let same = some_same x.0 d.member (sym x.1 ∙ at) in
    let other = some_same y.0 d.member (sym y.1 ∙ at) in
    let rules = all_at (IsRightMethod d.owner) d.owner.methods m.1 d.member (all_at IsClass cs m.0 d.owner r.grammar d.class).rules.methods d.there in
    let none = (law d.owner d.member rules).1 (inl (set_of d.member.flags 0x0400 (ap is_abstract (sym same) ∙ x.2))) in
    false≢true (sym (ap is_some none) ∙ (ap has_code (sym other) ∙ y.2))

-- an instance method of an interface is abstract
pub no_interface_code : (c : ClassFile) (i : ℕ) (m : Member) → unsupported_in c ≡ [] → slice_get c.methods i ≡ Some m → has_interface_code c m ≡ false
no_interface_code c i m h e =
    let items = method_supported c i m h e in
    let later = right_nil (items_of_types (types_in_method _)) (items_where (is_native m) Native ++ items_where (has_interface_code c m) InterfaceCode) items in
    where_nil (has_interface_code c m) InterfaceCode (right_nil (items_where (is_native m) Native) (items_where (has_interface_code c m) InterfaceCode) later)

four : (a b c d : Bool) → (a && b && not (c && d)) ≡ false → a ≡ true → b ≡ true → d ≡ false → ⊥
four true true true true h p q s = false≢true (sym s)
four true true true false h p q s = false≢true (sym h)
four true true false d h p q s = false≢true (sym h)
four true false c d h p q s = false≢true q
four false b c d h p q s = false≢true p

pub interface_abstract : MethodsHaveCode → (cs : List ClassFile) → IsResolved cs → (m : Place) (s : Signature) → IsMethod cs m s → is_interface cs m.0 ≡ true → is_instance cs m ≡ true → is_method_with is_abstract cs m ≡ true
interface_abstract law cs r m s d i o =
    elim (code_or_abstract law cs r m s d) [
      | inr a ↦ a
      | inl k ↦
          let at : method_at cs m ≡ Some d.member = ap (λ o. onto o (λ c. slice_get c.methods m.1)) d.class ∙ d.there in
          let f = map_or_some is_interface_class (slice_get cs m.0) i in
          let x = map_or_some has_code (method_at cs m) k in
          let y = map_or_some (λ k. not (is_static k)) (method_at cs m) o in
          let sc = some_same f.0 d.owner (sym f.1 ∙ d.class) in
          let sx = some_same x.0 d.member (sym x.1 ∙ at) in
          let sy = some_same y.0 d.member (sym y.1 ∙ at) in
          let none = no_interface_code d.owner m.1 d.member (all_at (λ k. unsupported_in k ≡ []) cs m.0 d.owner r.supported d.class) d.there in
          absurd (four (is_interface_class d.owner) (has_code d.member) (is_clinit (signature_of d.owner d.member)) (is_static d.member) none
          (ap is_interface_class (sym sc) ∙ f.2) (ap has_code (sym sx) ∙ x.2) (not-true (is_static d.member) (ap (λ k. not (is_static k)) (sym sy) ∙ y.2)))
    ]

-- ---- abstract methods of what a class extends

pub has_left : (xs ys : List Place) (m : Place) → has xs m ≡ true → has (xs ++ ys) m ≡ true
has_left xs ys m h = list_any-append (same_place m) xs ys ∙ or_left (has xs m) (has ys m) h

pub has_right : (xs ys : List Place) (m : Place) → has ys m ≡ true → has (xs ++ ys) m ≡ true
has_right xs ys m h = list_any-append (same_place m) xs ys ∙ or_right (has xs m) (has ys m) h

has_flat : (f : ℕ → List Place) (xs : List ℕ) (x : ℕ) (m : Place) → is_among xs x ≡ true → has (f x) m ≡ true → has (flat_map f xs) m ≡ true
has_flat f [] x m h e = absurd (false≢true h)
has_flat f (y ∷ xs) x m h e =
    elim (or_cases (eqb y x) (is_among xs x) h) [
      | inl s ↦ has_left (f y) (flat_map f xs) m (ap (λ k. has (f k) m) (eqb-true y x s) ∙ e)
      | inr s ↦ has_right (f y) (flat_map f xs) m (has_flat f xs x m s e)
    ]

filter_case : (test : Place → Bool) (x m : Place) (xs : List Place) (b : Bool) → test x ≡ b → test m ≡ true → has (x ∷ xs) m ≡ true → (has xs m ≡ true → has (filter test xs) m ≡ true) → has (if b then x ∷ filter test xs else filter test xs) m ≡ true
filter_case test x m xs true e t h later = elim (has_cases x m xs h) [ inl s ↦ ap (has (x ∷ filter test xs)) s ∙ has_head x (filter test xs) | inr s ↦ has_tail x m (filter test xs) (later s) ]
filter_case test x m xs false e t h later = elim (has_cases x m xs h) [ inl s ↦ absurd (both_ways (test x) e (ap test (sym s) ∙ t)) | inr s ↦ later s ]

pub has_filter : (test : Place → Bool) (xs : List Place) (m : Place) → has xs m ≡ true → test m ≡ true → has (filter test xs) m ≡ true
has_filter test [] m h t = h
has_filter test (x ∷ xs) m h t = filter_case test x m xs (test x) refl t h (λ e. has_filter test xs m e t)

pub has_range : (c n a i : ℕ) → a ≤ i → i < a + n → has (map (λ j. (c, j)) (range_with_len a n)) (c, i) ≡ true
has_range c zero a i low high = absurd (omega (arith, low, high))
has_range c (suc n) a i low high =
    elim (cases_Bool (eqb a i)) [
      | inl e ↦ or_left (same_place (c, i) (c, a)) (has (map (λ j. (c, j)) (range_with_len (a + 1) n)) (c, i)) (same_is_place (c, i) (c, a) (ap (λ (j : ℕ). (c, j)) (sym (eqb-true a i e))))
      | inr e ↦
          let apart : a ≡ i → ⊥ = λ s. both_ways (eqb a i) e (eq-eqb a i s) in
          has_tail (c, a) (c, i) (map (λ j. (c, j)) (range_with_len (a + 1) n)) (has_range c n (a + 1) i (omega (arith, low, apart)) (omega (arith, high)))
    ]

all_have : (test : Place → Bool) (xs : List Place) (m : Place) → list_all test xs ≡ true → has xs m ≡ true → test m ≡ true
all_have test [] m h e = absurd (false≢true e)
all_have test (x ∷ xs) m h e =
    let p = and_parts (test x) (list_all test xs) h in
    elim (has_cases x m xs e) [ inl s ↦ ap test s ∙ p.0 | inr s ↦ all_have test xs m p.1 s ]

pub unless_none : (b : Bool) (why : Why) → unless b why ≡ None → b ≡ true
unless_none true why h = refl
unless_none false why h = absurd (none≢some why (sym h))

pub implemented : (cs : List ClassFile) → IsResolved cs → (c : ℕ) (a : Place) (s : Signature) → is_concrete cs c ≡ true → IsMethod cs a s → is_method_with is_abstract cs a ≡ true → extends cs c a.0 ≡ true → is_implemented cs c a ≡ true
implemented cs r c a s k d ab e =
    let f = map_or_some _ (slice_get cs c) k in
    let all = unless_none (implements_all cs c) NotImplemented (r.linkable c f.0 f.1).mentions.0 in
    let tests : list_all (is_implemented cs c) (flat_map (abstract_methods_in cs) (supertypes cs c)) ≡ true =
    elim (or_cases (not (is_concrete cs c)) (list_all (is_implemented cs c) (flat_map (abstract_methods_in cs) (supertypes cs c))) all) [
      | inl n ↦ absurd (both_ways (is_concrete cs c) (not-true (is_concrete cs c) n) k)
      | inr t ↦ t
    ] in
    let within = slice_get_within d.owner.methods a.1 d.member d.there in
    let places = has_range a.0 (length d.owner.methods) 0 a.1 (omega arith) (omega (arith, within)) in
    let listed : has (abstract_methods_in cs a.0) a ≡ true =
    ap (λ o. has (filter (is_method_with is_abstract cs) (option_map_or (λ k. map (λ i. (a.0, i)) (range_with_len 0 (length k.methods))) o [])) a) d.class
    ∙ has_filter (is_method_with is_abstract cs) (map (λ i. (a.0, i)) (range_with_len 0 (length d.owner.methods))) a places ab in
    all_have (is_implemented cs c) (flat_map (abstract_methods_in cs) (supertypes cs c)) a tests (has_flat (abstract_methods_in cs) (supertypes cs c) a.0 a e listed)

-- ---- superclasses

pub superclass_class : (cs : List ClassFile) (c d : ℕ) → superclass cs c ≡ Some d → (k : ClassFile) × (slice_get cs d ≡ Some k)
superclass_class cs c d h =
    let k = onto_some (slice_get cs c) (λ k. find_class cs (superclass_name k)) d h in
    let f = index_found (λ x. same_text (name_of x) (superclass_name k.0)) cs d k.2 in
    (f.0, f.1)

object_case : OrderLaws → (cs : List ClassFile) (ac : IsAcyclic cs) (c : ℕ) (o : Option ℕ) → superclass cs c ≡ o → (is_none o && not (eqb c object_class)) ≡ false → ((d : ℕ) → superclass cs c ≡ Some d → IsUpwardOf cs d object_class) → IsUpwardOf cs c object_class
object_case order cs ac c None h n later =
    subst (IsUpwardOf cs c) (eqb-true c object_class (not-false (eqb c object_class) n)) ((order.superclasses cs ac).self c)
object_case order cs ac c (Some d) h n later = (order.superclasses cs ac).by c d object_class h (later d h)

object_below : OrderLaws → (cs : List ClassFile) (r : IsResolved cs) (n c : ℕ) (k : ClassFile) → slice_index r.acyclic.ranks c < n → slice_get cs c ≡ Some k → IsUpwardOf cs c object_class
object_below order cs r zero c k lt h = absurd (omega (arith, lt))
object_below order cs r (suc n) c k lt h =
    object_case order cs r.acyclic c (superclass cs c) refl (well_placed cs r c k h).superclass (λ d e.
    let lower = r.acyclic.ranked.falls c d (super_is_above order cs r.acyclic c d e) in
    let f = superclass_class cs c d e in
    object_below order cs r n d f.0 (omega (arith, lower, lt)) f.1)

-- each class has Object as its highest superclass
pub to_object : OrderLaws → (cs : List ClassFile) → IsResolved cs → (c : ℕ) (k : ClassFile) → slice_get cs c ≡ Some k → IsUpwardOf cs c object_class
to_object order cs r c k h = object_below order cs r (length cs) c k (r.acyclic.ranked.bounded c) h

-- superclasses are no interfaces
class_below : OrderLaws → (cs : List ClassFile) (r : IsResolved cs) (n c d : ℕ) → slice_index r.acyclic.ranks c < n → is_interface cs c ≡ false → IsUpwardOf cs c d → is_interface cs d ≡ false
class_below order cs r zero c d lt i u = absurd (omega (arith, lt))
class_below order cs r (suc n) c d lt i u =
    elim ((order.superclasses cs r.acyclic).way c d u) [
      | inl e ↦ ap (is_interface cs) (sym e) ∙ i
      | inr w ↦
          let lower = r.acyclic.ranked.falls c w.0 (super_is_above order cs r.acyclic c w.0 w.1) in
          class_below order cs r n w.0 d (omega (arith, lower, lt)) (false_from_ne_true (is_interface cs w.0) (superclass_is_class cs r c w.0 w.1)) w.2
    ]

pub class_upwards : OrderLaws → (cs : List ClassFile) → IsResolved cs → (c d : ℕ) → is_concrete cs c ≡ true → IsUpwardOf cs c d → is_interface cs d ≡ false
class_upwards order cs r c d k u =
    class_below order cs r (length cs) c d (r.acyclic.ranked.bounded c) (false_from_ne_true (is_interface cs c) (λ i. interface_not_concrete cs r c i k)) u

-- ---- selected

or_left_false : (x y : Bool) → not (x || y) ≡ true → not x ≡ true
or_left_false false y h = refl
or_left_false true y h = absurd (false≢true h)

virtual_instance : (cs : List ClassFile) (m : Place) → is_virtual cs m ≡ true → is_instance cs m ≡ true
virtual_instance cs m h =
    let x = map_or_some (λ k. not (is_static k || is_private k)) (method_at cs m) h in
    map_or_at (λ k. not (is_static k)) (method_at cs m) x.0 x.1 ∙ or_left_false (is_static x.0) (is_private x.0) x.2

pub public_instance : (cs : List ClassFile) (m : Place) → is_public_instance cs m ≡ true → is_instance cs m ≡ true
public_instance cs m h =
    let x = map_or_some (λ k. is_public k && not (is_static k)) (method_at cs m) h in
    map_or_at (λ k. not (is_static k)) (method_at cs m) x.0 x.1 ∙ (and_parts (is_public x.0) (not (is_static x.0)) x.2).1

same_signature_of : MethodLaws → (cs : List ClassFile) (a t : Place) (s : Signature) → signature_at cs a ≡ Some s → IsOrOverrides cs t a → signature_at cs t ≡ Some s
same_signature_of laws cs a t s sa (inl e) = ap (signature_at cs) e ∙ sa
same_signature_of laws cs a t s sa (inr o) = let may = laws.needs cs t a o in may.has ∙ (sym may.same ∙ sa)

instance_of : MethodLaws → (cs : List ClassFile) (a t : Place) → is_instance cs a ≡ true → IsOrOverrides cs t a → is_instance cs t ≡ true
instance_of laws cs a t i (inl e) = ap (is_instance cs) e ∙ i
instance_of laws cs a t i (inr o) = let may = laws.needs cs t a o in virtual_instance cs t (and_parts (is_virtual cs t) (is_virtual cs a) may.virtual).0

of_class : MethodLaws → MethodsHaveCode → (cs : List ClassFile) (r : IsResolved cs) (c : ℕ) (a t : Place) (s : Signature) → signature_at cs a ≡ Some s → is_instance cs a ≡ true → is_concrete cs c ≡ true → is_interface cs a.0 ≡ false
    → select cs c a ≡ Some t → IsFirstOverriding cs c a t → IsSelectedMethod cs c s t
of_class laws law cs r c a t s sa i k n h f =
    let st = same_signature_of laws cs a t s sa f.is in
    let above = (laws.order.superclasses cs r.acyclic).extends c t.0 f.upward in
    let d = method_is laws cs t s st in
    let code : is_method_with has_code cs t ≡ true = elim (code_or_abstract law cs r t s d) [
      | inl e ↦ e
      | inr e ↦
          let tests = map_or_some (is_method_with has_code cs) (select cs c t) (implemented cs r c t s k d e above) in
          let own = (laws.selection cs r.acyclic (distinct cs r) c a s sa).again n t (class_upwards laws.order cs r c t.0 k f.upward) h in
          let same = some_same tests.0 t (sym tests.1 ∙ own) in
          absurd (abstract_has_none law cs r t s d e (ap (is_method_with has_code cs) (sym same) ∙ tests.2))
    ] in
    record { signature = st; instance = instance_of laws cs a t i f.is; code = code; above = above }

class_case : MethodLaws → MethodsHaveCode → (cs : List ClassFile) (r : IsResolved cs) (c : ℕ) (a : Place) (s : Signature) → signature_at cs a ≡ Some s → is_instance cs a ≡ true → is_concrete cs c ≡ true → is_interface cs a.0 ≡ false → IsUpwardOf cs c a.0
    → (o : Option Place) → select cs c a ≡ o → (t : Place) × (select cs c a ≡ Some t) × IsSelectedMethod cs c s t
class_case laws law cs r c a s sa i k n u None h = absurd ((laws.selection cs r.acyclic (distinct cs r) c a s sa).none_of_class n h a (inl refl) u)
class_case laws law cs r c a s sa i k n u (Some t) h = (t, h, of_class laws law cs r c a t s sa i k n h ((laws.selection cs r.acyclic (distinct cs r) c a s sa).of_class n t h))

-- the receiver's class has the method's class among its superclasses
to_class : OrderLaws → (cs : List ClassFile) (r : IsResolved cs) (c d : ℕ) → is_concrete cs c ≡ true → is_interface cs d ≡ false → extends cs c d ≡ true → IsUpwardOf cs c d
to_class order cs r c d k n e =
    elim (above_class order cs r c d e) [
      | inl u ↦ u
      | inr w ↦ elim w [
        | inl i ↦ absurd (both_ways (is_interface cs d) n i)
        | inr o ↦ let f = map_or_some _ (slice_get cs c) k in subst (IsUpwardOf cs c) (sym o) (to_object order cs r c f.0 f.1)
      ]
    ]

interface_case : MethodLaws → (cs : List ClassFile) (r : IsResolved cs) (c : ℕ) (a : Place) (s : Signature) → signature_at cs a ≡ Some s → is_concrete cs c ≡ true → is_interface cs a.0 ≡ true → is_method_with is_abstract cs a ≡ true → extends cs c a.0 ≡ true
    → (t : Place) × (select cs c a ≡ Some t) × IsSelectedMethod cs c s t
interface_case laws cs r c a s sa k i ab e =
    let tests = map_or_some (is_method_with has_code cs) (select cs c a) (implemented cs r c a s k (method_is laws cs a s sa) ab e) in
    let f = (laws.selection cs r.acyclic (distinct cs r) c a s sa).of_interface i tests.0 tests.1 in
    (tests.0, tests.1, record { signature = f.signature; instance = public_instance cs tests.0 f.public; code = tests.2; above = (laws.order.superclasses cs r.acyclic).extends c tests.0.0 f.upward })

pub selection : MethodLaws → MethodsHaveCode → SelectionLaw
selection laws law cs r c a s sa i k e =
    elim (cases_Bool (is_interface cs a.0)) [
      | inl f ↦ interface_case laws cs r c a s sa k f (interface_abstract law cs r a s (method_is laws cs a s sa) f i) e
      | inr f ↦ class_case laws law cs r c a s sa i k f (to_class laws.order cs r c a.0 k f e) (select cs c a) refl
    ]
