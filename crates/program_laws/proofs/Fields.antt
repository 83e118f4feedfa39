-- The fields of a class begin with those of what it extends.
use Rattle.std.proofs.Common.{◌≡◌, ℕ, zero, suc, ◌<◌, Bool, true, false, not, eqb, List, [], ◌∷◌, ◌++◌, inl, inr, Some, map, reverse, length, refl, sym, ap, ◌∙◌, subst, append-nil, arith}
use Rattle.std.specs.Prelude.{slice_get, slice_index, IfSome}
use Rattle.std.specs.Option.{option_map_or, option_to_list}
use Rattle.std.specs.List.{filter, flat_map, range_with_len}
use Rattle.std.proofs.lemmas.List.{reverse-append}
use Rattle.std.proofs.lemmas.List.Elements.{filter_map-append}
use Rattle.std.proofs.lemmas.Grind.{flat_map-append}
use Rattle.std.proofs.lemmas.Bool.{both_ways, eq-eqb, not-true, or_left, or_right, cond-false, false_from_ne_true}
use Rattle.class_pool.specs.declared.class.ClassFile.{ClassFile}
use Rattle.class_rules.specs.Rules.{IsRightField}
use Rattle.class_rules.specs.Grammar.{IsClass}
use Rattle.bytecode_model.specs.Types.{Declared}
use Rattle.bytecode_model.specs.Program.{object_class}
use Rattle.lists.proofs.Lemmas.{none≢some, some_same, onto_some}
use Rattle.class_lookup.specs.Parts.{is_interface_class, is_static}
use Rattle.class_lookup.specs.Hierarchy.{superclass, superclasses, is_among, is_interface, IsAcyclic}
use Rattle.class_lookup.specs.Lookup.{Place, field_at}
use Rattle.class_lookup.specs.Laws.{IsUpwardOf}
use Rattle.program_tables.specs.Numbers.{is_instance_field, own_instance_fields, instance_fields}
use Rattle.program_tables.specs.Resolved.{declared_at, declared_fields, resolved}
use Rattle.program_tables.specs.Resolving.{IsResolved}
use Rattle.program_laws.specs.Laws.{KeepsFields, FieldLaw}
use Rattle.program_laws.proofs.ClassLaws.{OrderLaws, super_is_above}
use Rattle.program_laws.proofs.Facts.{all_at, map_or_some, set_of, has_of}
use Rattle.program_laws.proofs.Hierarchies.{above_interface, above_class, either}

-- ---- the superclasses of a superclass end those of the class

abbrev Ends : List ClassFile → ℕ → ℕ → Type 0
Ends cs c d = (front : List ℕ) × (superclasses cs c ≡ front ++ superclasses cs d)

up_some : OrderLaws → (cs : List ClassFile) → IsAcyclic cs → (c x : ℕ) → superclass cs c ≡ Some x → superclasses cs c ≡ c ∷ superclasses cs x
up_some order cs a c x h =
    (order.superclasses cs a).step c ∙ (ap (λ o. c ∷ flat_map (superclasses cs) (option_to_list o)) h ∙ ap (λ xs. c ∷ xs) (append-nil (superclasses cs x)))

ends_below : OrderLaws → (cs : List ClassFile) (a : IsAcyclic cs) (n c d : ℕ) → slice_index a.ranks c < n → IsUpwardOf cs c d → Ends cs c d
ends_below order cs a zero c d lt u = absurd (omega (arith, lt))
ends_below order cs a (suc n) c d lt u =
    elim ((order.superclasses cs a).way c d u) [
      | inl e ↦ ([], ap (superclasses cs) e)
      | inr w ↦
          let lower = a.ranked.falls c w.0 (super_is_above order cs a c w.0 w.1) in
          let r = ends_below order cs a n w.0 d (omega (arith, lower, lt)) w.2 in
          (c ∷ r.0, up_some order cs a c w.0 w.1 ∙ ap (λ xs. c ∷ xs) r.1)
    ]

ends : OrderLaws → (cs : List ClassFile) (a : IsAcyclic cs) (c d : ℕ) → IsUpwardOf cs c d → Ends cs c d
ends order cs a c d u = ends_below order cs a (length cs) c d (a.ranked.bounded c) u

-- ---- prefixes

prefix_get : {A : Type 0} (xs ys : List A) (k : ℕ) → IfSome (slice_get xs k) (λ t. slice_get (xs ++ ys) k ≡ Some t)
prefix_get [] ys k = tt
prefix_get (x ∷ xs) ys zero = refl
prefix_get (x ∷ xs) ys (suc k) = prefix_get xs ys k

fields_prefix : OrderLaws → (cs : List ClassFile) (a : IsAcyclic cs) (c d : ℕ) → IsUpwardOf cs c d → (more : List Declared) × (declared_fields cs (instance_fields cs c) ≡ declared_fields cs (instance_fields cs d) ++ more)
fields_prefix order cs a c d u =
    let e = ends order cs a c d u in
    let own = own_instance_fields cs in (
      declared_fields cs (flat_map own (reverse e.0)),
      ap (λ xs. declared_fields cs (flat_map own (reverse xs))) e.1
          ∙ (ap (λ xs. declared_fields cs (flat_map own xs)) (reverse-append e.0 (superclasses cs d))
          ∙ (ap (declared_fields cs) (flat_map-append own (reverse (superclasses cs d)) (reverse e.0))
          ∙ filter_map-append (declared_at cs) (flat_map own (reverse (superclasses cs d))) (flat_map own (reverse e.0)))),
    )

-- ---- interfaces have no instance fields

filter_nil : (test : Place → Bool) (c : ℕ) (is : List ℕ) → ((i : ℕ) → test (c, i) ≡ false) → filter test (map (λ i. (c, i)) is) ≡ []
filter_nil test c [] h = refl
filter_nil test c (i ∷ is) h =
    cond-false (test (c, i)) ((c, i) ∷ filter test (map (λ i. (c, i)) is)) (filter test (map (λ i. (c, i)) is)) (h i) ∙ filter_nil test c is h

pub no_own : (cs : List ClassFile) → IsResolved cs → (d : ℕ) → is_interface cs d ≡ true → own_instance_fields cs d ≡ []
no_own cs r d h =
    let k = map_or_some is_interface_class (slice_get cs d) h in
    let none : (i : ℕ) → is_instance_field cs (d, i) ≡ false = λ i. false_from_ne_true (is_instance_field cs (d, i)) (λ t.
    let m = map_or_some (λ k. not (is_static k)) (field_at cs (d, i)) t in
    let c = onto_some (slice_get cs d) (λ c. slice_get c.fields i) m.0 m.1 in
    let rules = (all_at IsClass cs d c.0 r.grammar c.1).rules in
    let same = some_same k.0 c.0 (sym k.1 ∙ c.1) in
    let interface = ap is_interface_class (sym same) ∙ k.2 in
    let right = all_at (IsRightField c.0) c.0.fields i m.0 rules.fields c.2 in
    let flags = right.of_interface (set_of c.0.flags 0x0200 interface) in
    both_ways (is_static m.0) (not-true (is_static m.0) m.2) (has_of m.0.flags 0x0008 flags.1)) in
    ap (λ o. filter (is_instance_field cs) (option_map_or (λ k. map (λ i. (d, i)) (range_with_len 0 (length k.fields))) o [])) k.1
    ∙ filter_nil (is_instance_field cs) d (range_with_len 0 (length k.0.fields)) none

-- Object has none
flat_head : (f : ℕ → List Place) (x : ℕ) (xs : List ℕ) → flat_map f (reverse (x ∷ xs)) ≡ flat_map f (reverse xs) ++ f x
flat_head f x xs =
    ap (flat_map f) (reverse-append (x ∷ []) xs) ∙ (flat_map-append f (reverse xs) (x ∷ []) ∙ ap (λ ys. flat_map f (reverse xs) ++ ys) (append-nil (f x)))

both_nil : (xs ys : List Place) → xs ++ ys ≡ [] → ys ≡ []
both_nil [] ys h = h
both_nil (x ∷ xs) ys h = absurd (none≢some x (sym (ap (λ zs. slice_get zs 0) h)))

pub object_own : OrderLaws → (cs : List ClassFile) → IsResolved cs → own_instance_fields cs object_class ≡ []
object_own order cs r =
    let own = own_instance_fields cs in
    let step = (order.superclasses cs r.acyclic).step object_class in
    both_nil (flat_map own (reverse (flat_map (superclasses cs) (option_to_list (superclass cs object_class))))) (own object_class)
    (sym (flat_head own object_class (flat_map (superclasses cs) (option_to_list (superclass cs object_class)))) ∙ (ap (λ xs. flat_map own (reverse xs)) (sym step) ∙ r.core.object.2))

flat_nil : (f : ℕ → List Place) (xs : List ℕ) → ((x : ℕ) → is_among xs x ≡ true → f x ≡ []) → flat_map f (reverse xs) ≡ []
flat_nil f [] h = refl
flat_nil f (x ∷ xs) h =
    flat_head f x xs ∙ (ap (λ ys. ys ++ f x) (flat_nil f xs (λ y e. h y (or_right (eqb x y) (is_among xs y) e))) ∙ h x (or_left (eqb x x) (is_among xs x) (eq-eqb x x refl)))

interface_fields : OrderLaws → (cs : List ClassFile) → IsResolved cs → (d : ℕ) → is_interface cs d ≡ true → instance_fields cs d ≡ []
interface_fields order cs r d h =
    flat_nil (own_instance_fields cs) (superclasses cs d) (λ x u. elim (above_interface order cs r d x h ((order.superclasses cs r.acyclic).extends d x u)) [
      | inl e ↦ no_own cs r x e
      | inr e ↦ ap (own_instance_fields cs) e ∙ object_own order cs r
    ])

-- ---- the law

nil_get : {A : Type 0} (xs : List A) (k : ℕ) (P : A → Type 0) → xs ≡ [] → IfSome (slice_get xs k) P
nil_get xs k P h = subst (λ zs. IfSome (slice_get zs k) P) (sym h) tt

keeps : OrderLaws → (cs : List ClassFile) → IsResolved cs → KeepsFields (resolved cs)
keeps order cs r c d h k =
    let F : ℕ → List Declared = λ x. declared_fields cs (instance_fields cs x) in
    let P : Declared → Type 0 = λ t. slice_get (F c) k ≡ Some t in
    let at_object : d ≡ object_class → IfSome (slice_get (F d) k) P = λ e. nil_get (F d) k P (ap F e ∙ ap (declared_fields cs) r.core.object.2) in
    elim (either cs c d h) [
      | inl e ↦ at_object e
      | inr e ↦ elim (above_class order cs r c d e) [
        | inl u ↦
            let p = fields_prefix order cs r.acyclic c d u in
            subst (λ xs. IfSome (slice_get (F d) k) (λ t. slice_get xs k ≡ Some t)) (sym p.1) (prefix_get (F d) p.0 k)
        | inr u ↦ elim u [
          | inl i ↦ nil_get (F d) k P (ap (declared_fields cs) (interface_fields order cs r d i))
          | inr o ↦ at_object o
        ]
      ]
    ]

pub fields : OrderLaws → FieldLaw
fields order = record { prefix = keeps order; object = λ cs r. ap (declared_fields cs) r.core.object.2 }
