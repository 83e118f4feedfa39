-- The hierarchy of resolved classes.
use Rattle.std.proofs.Common.{◌≡◌, ℕ, Bool, true, false, not, ◌||◌, eqb, List, [], ◌∷◌, ◌⊎◌, inl, inr, Option, Some, None, refl, sym, ap, ◌∙◌, subst}
use Rattle.std.specs.Prelude.{slice_get}
use Rattle.std.specs.Option.{option_map_or}
use Rattle.std.specs.List.{list_any, filter_map}
use Rattle.std.proofs.lemmas.Bool.{false≢true, both_ways, eqb-true, eq-eqb, not_from_false, or_cases, or_left, or_right, and_from, cases_Bool}
use Rattle.class_pool.specs.declared.class.ClassFile.{ClassFile}
use Rattle.bytecode_model.specs.Program.{object_class}
use Rattle.lists.proofs.Lemmas.{none≢some, onto_some}
use Rattle.class_lookup.specs.Parts.{is_interface_class, is_final_class, superinterface_names}
use Rattle.class_lookup.specs.Hierarchy.{find_class, superclass, superclasses, superinterfaces, is_among, is_interface, extends}
use Rattle.class_lookup.specs.Laws.{IsDirectlyAbove, IsUpwardOf}
use Rattle.program_tables.specs.Placed.{has_bad_superclass, has_bad_superinterface, is_bad_interface, may_have_subclasses}
use Rattle.program_tables.specs.Resolving.{IsResolved}
use Rattle.program_laws.specs.Laws.{HierarchyLaw}
use Rattle.program_laws.proofs.ClassLaws.{OrderLaws, super_is_above}
use Rattle.program_laws.proofs.Facts.{map_or_some, map_or_at, well_placed, interface_not_concrete}

-- ---- directly above

pub above_cases : OrderLaws → (cs : List ClassFile) → IsResolved cs → (x y : ℕ) → IsDirectlyAbove cs x y → (is_among (superinterfaces cs x) y ≡ true) ⊎ (superclass cs x ≡ Some y)
above_cases order cs r x y h = ((order.hierarchy cs r.acyclic).directly x y).0 h

-- nothing is above Object
pub nothing_above : OrderLaws → (cs : List ClassFile) → IsResolved cs → (y : ℕ) → IsDirectlyAbove cs object_class y → ⊥
nothing_above order cs r y h =
    elim (above_cases order cs r object_class y h) [
      | inl e ↦ false≢true (ap (λ xs. is_among xs y) (sym r.core.object.1) ∙ e)
      | inr e ↦ none≢some y (sym r.core.object.0 ∙ e)
    ]

-- what no class has as its number has nothing above it
abbrev Found : List ClassFile → ℕ → Type 0
Found cs x = (k : ClassFile) × (slice_get cs x ≡ Some k)

found_case : (cs : List ClassFile) (x : ℕ) (o : Option ClassFile) → slice_get cs x ≡ o → (o ≡ None → ⊥) → Found cs x
found_case cs x None h n = absurd (n refl)
found_case cs x (Some k) h n = (k, h)

pub superclass_found : (cs : List ClassFile) (x y : ℕ) → superclass cs x ≡ Some y → Found cs x
superclass_found cs x y h = let r = onto_some (slice_get cs x) _ y h in (r.0, r.1)

pub superinterface_found : (cs : List ClassFile) (x y : ℕ) → is_among (superinterfaces cs x) y ≡ true → Found cs x
superinterface_found cs x y h =
    found_case cs x (slice_get cs x) refl (λ n. false≢true (sym (ap (λ o. is_among (option_map_or (λ k. filter_map (find_class cs) (superinterface_names k)) o []) y) n) ∙ h))

-- a superinterface is an interface
among_any : (test : ℕ → Bool) (xs : List ℕ) (y : ℕ) → is_among xs y ≡ true → test y ≡ true → list_any test xs ≡ true
among_any test [] y h t = absurd (false≢true h)
among_any test (x ∷ xs) y h t =
    elim (or_cases (eqb x y) (is_among xs y) h) [
      | inl e ↦ or_left (test x) (list_any test xs) (ap test (eqb-true x y e) ∙ t)
      | inr e ↦ or_right (test x) (list_any test xs) (among_any test xs y e t)
    ]

pub superinterface_is : (cs : List ClassFile) → IsResolved cs → (x y : ℕ) → is_among (superinterfaces cs x) y ≡ true → is_interface cs y ≡ true
superinterface_is cs r x y h =
    let k = superinterface_found cs x y h in
    let right = (well_placed cs r x k.0 k.1).right_superinterfaces in
    elim (cases_Bool (is_interface cs y)) [
      | inl e ↦ e
      | inr e ↦ absurd (both_ways (has_bad_superinterface cs x) right (among_any (λ d. not (is_interface cs d)) (superinterfaces cs x) y h (not_from_false (is_interface cs y) e)))
    ]

-- the superclass of an interface is Object
pub interface_superclass : (cs : List ClassFile) → IsResolved cs → (x y : ℕ) → is_interface cs x ≡ true → superclass cs x ≡ Some y → y ≡ object_class
interface_superclass cs r x y i h =
    let k = superclass_found cs x y h in
    let right = (well_placed cs r x k.0 k.1).interface in
    elim (cases_Bool (eqb y object_class)) [
      | inl e ↦ eqb-true y object_class e
      | inr e ↦ absurd (both_ways (is_bad_interface cs x) right
          (and_from (is_interface cs x) (option_map_or (λ d. not (eqb d object_class)) (superclass cs x) false) i
          (map_or_at (λ d. not (eqb d object_class)) (superclass cs x) y h ∙ not_from_false (eqb y object_class) e)))
    ]

-- a superclass is no interface
pub superclass_is_class : (cs : List ClassFile) → IsResolved cs → (x y : ℕ) → superclass cs x ≡ Some y → is_interface cs y ≡ true → ⊥
superclass_is_class cs r x y h i =
    let k = superclass_found cs x y h in
    let right = (well_placed cs r x k.0 k.1).right_superclass in
    let f = map_or_some is_interface_class (slice_get cs y) i in
    let bad : has_bad_superclass cs x ≡ true =
    map_or_at (λ d. option_map_or (λ k. not (may_have_subclasses k)) (slice_get cs d) false) (superclass cs x) y h
    ∙ (map_or_at (λ k. not (may_have_subclasses k)) (slice_get cs y) f.0 f.1
    ∙ ap (λ b. not (not b)) (or_right (is_final_class f.0) (is_interface_class f.0) f.2)) in
    both_ways (has_bad_superclass cs x) right bad

-- ---- above an interface, and above any class

-- an interface or Object
abbrev is_high : List ClassFile → (class : ℕ) → Bool
is_high cs x = is_interface cs x || eqb x object_class

high_cases : (cs : List ClassFile) (x : ℕ) → is_high cs x ≡ true → (is_interface cs x ≡ true) ⊎ (x ≡ object_class)
high_cases cs x h = elim (or_cases (is_interface cs x) (eqb x object_class) h) [ inl e ↦ inl e | inr e ↦ inr (eqb-true x object_class e) ]

high_interface : (cs : List ClassFile) (x : ℕ) → is_interface cs x ≡ true → is_high cs x ≡ true
high_interface cs x h = or_left (is_interface cs x) (eqb x object_class) h

high_object : (cs : List ClassFile) (x : ℕ) → x ≡ object_class → is_high cs x ≡ true
high_object cs x h = or_right (is_interface cs x) (eqb x object_class) (eq-eqb x object_class h)

high_above : OrderLaws → (cs : List ClassFile) → IsResolved cs → (x y : ℕ) → is_high cs x ≡ true → IsDirectlyAbove cs x y → is_high cs y ≡ true
high_above order cs r x y h u =
    elim (high_cases cs x h) [
      | inl e ↦ elim (above_cases order cs r x y u) [
        | inl f ↦ high_interface cs y (superinterface_is cs r x y f)
        | inr f ↦ high_object cs y (interface_superclass cs r x y e f)
      ]
      | inr e ↦ absurd (nothing_above order cs r y (subst (λ k. IsDirectlyAbove cs k y) e u))
    ]

pub above_interface : OrderLaws → (cs : List ClassFile) → IsResolved cs → (b c : ℕ) → is_interface cs b ≡ true → extends cs b c ≡ true → (is_interface cs c ≡ true) ⊎ (c ≡ object_class)
above_interface order cs r b c i h = high_cases cs c ((order.hierarchy cs r.acyclic).kept (is_high cs) (high_above order cs r) b c (high_interface cs b i) h)

-- what a class extends is the class or a superclass, or an interface
abbrev is_upward_or_high : List ClassFile → (class other : ℕ) → Bool
is_upward_or_high cs c x = is_among (superclasses cs c) x || is_high cs x

class_above : OrderLaws → (cs : List ClassFile) → IsResolved cs → (c x y : ℕ) → is_upward_or_high cs c x ≡ true → IsDirectlyAbove cs x y → is_upward_or_high cs c y ≡ true
class_above order cs r c x y h u =
    let upward = order.superclasses cs r.acyclic in
    elim (or_cases (is_among (superclasses cs c) x) (is_high cs x) h) [
      | inl e ↦ elim (above_cases order cs r x y u) [
        | inl f ↦ or_right (is_among (superclasses cs c) y) (is_high cs y) (high_interface cs y (superinterface_is cs r x y f))
        | inr f ↦ or_left (is_among (superclasses cs c) y) (is_high cs y) (upward.through c x y e (upward.by x y y f (upward.self y)))
      ]
      | inr e ↦ or_right (is_among (superclasses cs c) y) (is_high cs y) (high_above order cs r x y e u)
    ]

pub above_class : OrderLaws → (cs : List ClassFile) → IsResolved cs → (c d : ℕ) → extends cs c d ≡ true → IsUpwardOf cs c d ⊎ ((is_interface cs d ≡ true) ⊎ (d ≡ object_class))
above_class order cs r c d h =
    let here = or_left (is_among (superclasses cs c) c) (is_high cs c) ((order.superclasses cs r.acyclic).self c) in
    elim (or_cases (is_among (superclasses cs c) d) (is_high cs d) ((order.hierarchy cs r.acyclic).kept (is_upward_or_high cs c) (class_above order cs r c) c d here h)) [
      | inl e ↦ inl e
      | inr e ↦ inr (high_cases cs d e)
    ]

-- ---- the law

pub root : OrderLaws → (cs : List ClassFile) → IsResolved cs → (c : ℕ) → extends cs object_class c ≡ true → c ≡ object_class
root order cs r c h = elim ((order.hierarchy cs r.acyclic).least object_class c h) [ inl e ↦ sym e | inr w ↦ absurd (nothing_above order cs r w.0 w.1) ]

pub either : (cs : List ClassFile) (c d : ℕ) → (eqb d object_class || extends cs c d) ≡ true → (d ≡ object_class) ⊎ (extends cs c d ≡ true)
either cs c d h = elim (or_cases (eqb d object_class) (extends cs c d) h) [ inl e ↦ inl (eqb-true d object_class e) | inr e ↦ inr e ]

is_object : (cs : List ClassFile) (c d : ℕ) → d ≡ object_class → (eqb d object_class || extends cs c d) ≡ true
is_object cs c d h = or_left (eqb d object_class) (extends cs c d) (eq-eqb d object_class h)

is_extended : (cs : List ClassFile) (c d : ℕ) → extends cs c d ≡ true → (eqb d object_class || extends cs c d) ≡ true
is_extended cs c d h = or_right (eqb d object_class) (extends cs c d) h

through : OrderLaws → (cs : List ClassFile) → IsResolved cs → (a b c : ℕ) → (eqb b object_class || extends cs a b) ≡ true → (eqb c object_class || extends cs b c) ≡ true → (eqb c object_class || extends cs a c) ≡ true
through order cs r a b c h e =
    elim (either cs b c e) [
      | inl s ↦ is_object cs a c s
      | inr s ↦ elim (either cs a b h) [
        | inl t ↦ is_object cs a c (root order cs r c (subst (λ k. extends cs k c ≡ true) t s))
        | inr t ↦ is_extended cs a c ((order.hierarchy cs r.acyclic).through a b c t s)
      ]
    ]

pub hierarchy : OrderLaws → HierarchyLaw
hierarchy order cs r = record {
  self = λ c. is_extended cs c c ((order.hierarchy cs r.acyclic).self c);
  through = through order cs r;
  object = λ c. is_object cs c object_class refl;
  root = λ c h. elim (either cs object_class c h) [ inl e ↦ e | inr e ↦ root order cs r c e ];
  superclass = λ c d h. is_extended cs c d ((order.hierarchy cs r.acyclic).direct c d (super_is_above order cs r.acyclic c d h));
  superinterfaces = λ b c i h. elim (either cs b c h) [ inl e ↦ inr e | inr e ↦ above_interface order cs r b c i e ];
  serializable = r.core.serializable.1;
  cloneable = r.core.cloneable.1;
  throwable = elim (cases_Bool (is_interface cs 4)) [ inl e ↦ absurd (interface_not_concrete cs r 4 e r.core.throwable) | inr e ↦ e ];
}
