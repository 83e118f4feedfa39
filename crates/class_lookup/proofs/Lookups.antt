-- Lookups in the standard's words.
use Rattle.std.proofs.Common.{◌≡◌, ℕ, Bool, true, false, not, List, ◌∷◌, ◌++◌, map, length, Option, Some, inl, inr, refl, sym, ap, ◌∙◌, subst}
use Rattle.std.specs.Prelude.{slice_get, if◌then◌else◌, IsTrue}
use Rattle.std.specs.Option.{option_map, option_or}
use Rattle.std.specs.List.{flat_map}
use Rattle.std.proofs.lemmas.Bool.{or_cases, cond-true, cond-false, not-true}
use Rattle.std.proofs.lemmas.List.{map-append}
use Rattle.class_pool.specs.declared.class.Member.{Member}
use Rattle.class_pool.specs.declared.class.ClassFile.{ClassFile}
use Rattle.class_lookup.specs.Lists.{first_some}
use Rattle.class_lookup.specs.Parts.{Signature, signature_of, same_signature, is_init}
use Rattle.class_lookup.specs.Hierarchy.{superinterfaces, direct_supertypes, superclasses, with_superinterfaces, supertypes, all_superinterfaces, is_interface, is_among, extends, IsAcyclic}
use Rattle.class_lookup.specs.Lookup.{Place, declared, declared_in, declared_field, declared_method, find_field, find_method, method_search}
use Rattle.class_lookup.specs.Laws.{FieldsAreLookedUp, in_superclasses, in_superinterfaces, in_all_superinterfaces, MethodLookupLaw, IsFound, FoundFields, FoundMethods}
use Rattle.class_lookup.proofs.Reached.{in_append, in_flat, reached_step, reached_kept}
use Rattle.class_lookup.proofs.Hierarchies.{rank_in, super_list, falls_supertypes, falls_superclasses, falls_superinterfaces, extends_self, extends_through, extends_direct, upward_extends, interface_is_above}
use Rattle.class_lookup.proofs.Searches.{onto_some, map_some, first_cons, first_append, first_flat, map_same, first_found, index_found, signature_same}

-- ---- step by step

-- the first that is declared among a class and all above it
stepwise : {A : Type 0} (h : ℕ → Option A) (all : ℕ → List ℕ) (c : ℕ) (above : List ℕ) → all c ≡ c ∷ flat_map all above → first_some (map h (all c)) ≡ first_some (h c ∷ map (λ d. first_some (map h (all d))) above)
stepwise h all c above step =
    ap (λ xs. first_some (map h xs)) step
    ∙ (first_cons (h c) (map h (flat_map all above))
    ∙ (ap (option_or (h c)) (first_flat h all above) ∙ sym (first_cons (h c) (map (λ d. first_some (map h (all d))) above))))

pub supertypes_step : (cs : List ClassFile) → IsAcyclic cs → (c : ℕ) → supertypes cs c ≡ c ∷ flat_map (supertypes cs) (direct_supertypes cs c)
unfolding supertypes
supertypes_step cs a c = reached_step (direct_supertypes cs) (rank_in a.ranks) (length cs) (falls_supertypes cs a.ranks a.ranked) c

superclasses_step : (cs : List ClassFile) → IsAcyclic cs → (c : ℕ) → superclasses cs c ≡ c ∷ flat_map (superclasses cs) (super_list cs c)
unfolding superclasses
superclasses_step cs a c = reached_step (super_list cs) (rank_in a.ranks) (length cs) (falls_superclasses cs a.ranks a.ranked) c

superinterfaces_step : (cs : List ClassFile) → IsAcyclic cs → (c : ℕ) → with_superinterfaces cs c ≡ c ∷ flat_map (with_superinterfaces cs) (superinterfaces cs c)
unfolding with_superinterfaces
superinterfaces_step cs a c = reached_step (superinterfaces cs) (rank_in a.ranks) (length cs) (falls_superinterfaces cs a.ranks a.ranked) c

pub fields_step : FieldsAreLookedUp
unfolding find_field
fields_step cs a c s = stepwise (declared_field cs s) (supertypes cs) c (direct_supertypes cs c) (supertypes_step cs a c)

-- ---- methods

all_interfaces : (cs : List ClassFile) (c : ℕ) (s : Signature) → first_some (map (declared_method cs s) (all_superinterfaces cs c)) ≡ in_all_superinterfaces cs s c
all_interfaces cs c s =
    let D = declared_method cs s in
    first_flat D (λ k. flat_map (with_superinterfaces cs) (superinterfaces cs k)) (superclasses cs c)
    ∙ ap first_some (map_same (λ k. first_some (map D (flat_map (with_superinterfaces cs) (superinterfaces cs k)))) (λ k. first_some (map (in_superinterfaces cs s) (superinterfaces cs k))) (superclasses cs c)
    (λ k. first_flat D (with_superinterfaces cs) (superinterfaces cs k)))

of_class : (cs : List ClassFile) (c : ℕ) (s : Signature) → IsTrue (not (is_init s)) → is_interface cs c ≡ false → find_method cs c s ≡ option_or (in_superclasses cs s c) (in_all_superinterfaces cs s c)
unfolding find_method
of_class cs c s i k =
    let D = declared_method cs s in
    cond-false (is_init s) (D c) (first_some (map D (method_search cs c))) (not-true (is_init s) i)
    ∙ (ap (λ xs. first_some (map D xs)) (cond-false (is_interface cs c) (with_superinterfaces cs c) (superclasses cs c ++ all_superinterfaces cs c) k)
    ∙ (ap first_some (map-append D (superclasses cs c) (all_superinterfaces cs c))
    ∙ (first_append (map D (superclasses cs c)) (map D (all_superinterfaces cs c)) ∙ ap (option_or (in_superclasses cs s c)) (all_interfaces cs c s))))

of_interface : (cs : List ClassFile) (c : ℕ) (s : Signature) → IsTrue (not (is_init s)) → IsTrue (is_interface cs c) → find_method cs c s ≡ in_superinterfaces cs s c
unfolding find_method
of_interface cs c s i k =
    let D = declared_method cs s in
    cond-false (is_init s) (D c) (first_some (map D (method_search cs c))) (not-true (is_init s) i)
    ∙ ap (λ xs. first_some (map D xs)) (cond-true (is_interface cs c) (with_superinterfaces cs c) (superclasses cs c ++ all_superinterfaces cs c) k)

of_init : (cs : List ClassFile) (c : ℕ) (s : Signature) → IsTrue (is_init s) → find_method cs c s ≡ declared_method cs s c
unfolding find_method
of_init cs c s i = cond-true (is_init s) (declared_method cs s c) (first_some (map (declared_method cs s) (method_search cs c))) i

pub methods_step : MethodLookupLaw
methods_step cs a c s = record {
  superclasses = stepwise (declared_method cs s) (superclasses cs) c (super_list cs c) (superclasses_step cs a c);
  superinterfaces = stepwise (declared_method cs s) (with_superinterfaces cs) c (superinterfaces cs c) (superinterfaces_step cs a c);
  of_class = of_class cs c s;
  of_interface = of_interface cs c s;
  of_init = of_init cs c s;
}

-- ---- what is found

pub record IsDeclared (cs : List ClassFile) (members : ClassFile → List Member) (s : Signature) (c : ℕ) (m : Place) : Type 0 where
  pub own : m.0 ≡ c
  pub owner : ClassFile
  pub class : slice_get cs c ≡ Some owner
  pub member : Member
  pub there : slice_get (members owner) m.1 ≡ Some member
  pub signature : signature_of owner member ≡ s

pub declared_is : (members : ClassFile → List Member) (cs : List ClassFile) (s : Signature) (c : ℕ) (m : Place) → declared members cs s c ≡ Some m → IsDeclared cs members s c m
declared_is members cs s c m h =
    let k = onto_some (slice_get cs c) (λ k. option_map (λ i. (c, i)) (declared_in members s k)) m h in
    let i = map_some (λ i. (c, i)) (declared_in members s k.0) m k.2 in
    let f = index_found (λ x. same_signature (signature_of k.0 x) s) (members k.0) i.0 i.1 in
    record {
      own = sym (ap (λ (p : Place). p.0) i.2);
      owner = k.0;
      class = k.1;
      member = f.0;
      there = subst (λ (p : Place). slice_get (members k.0) p.1 ≡ Some f.0) i.2 f.1;
      signature = signature_same (signature_of k.0 f.0) s f.2;
    }

is_found : (members : ClassFile → List Member) (cs : List ClassFile) (s : Signature) (c d : ℕ) (m : Place) → declared members cs s d ≡ Some m → extends cs c d ≡ true → IsFound cs c s members m
is_found members cs s c d m h e =
    let r = declared_is members cs s d m h in
    record {
      owner = r.owner;
      member = r.member;
      class = ap (slice_get cs) r.own ∙ r.class;
      there = r.there;
      signature = r.signature;
      above = ap (extends cs c) r.own ∙ e;
    }

pub found_fields : FoundFields
unfolding find_field
found_fields cs a c s f h =
    let r = first_found (declared_field cs s) (supertypes cs c) f h in
    is_found (λ k. k.fields) cs s c r.0 f r.2 r.1

interfaces_extend : (cs : List ClassFile) → IsAcyclic cs → (c d : ℕ) → is_among (with_superinterfaces cs c) d ≡ true → extends cs c d ≡ true
unfolding with_superinterfaces
interfaces_extend cs a c d h =
    reached_kept (superinterfaces cs) (rank_in a.ranks) (length cs) (falls_superinterfaces cs a.ranks a.ranked) (λ x. extends cs c x ≡ true)
    (λ x y p u. extends_through cs a c x y p (extends_direct cs a x y (interface_is_above cs x y u))) c d (extends_self cs a c) h

all_extend : (cs : List ClassFile) → IsAcyclic cs → (c d : ℕ) → is_among (all_superinterfaces cs c) d ≡ true → extends cs c d ≡ true
all_extend cs a c d h =
    let k = in_flat (λ k. flat_map (with_superinterfaces cs) (superinterfaces cs k)) (superclasses cs c) d h in
    let i = in_flat (with_superinterfaces cs) (superinterfaces cs k.0) d k.2 in
    extends_through cs a c k.0 d (upward_extends cs a c k.0 k.1)
    (extends_through cs a k.0 i.0 d (extends_direct cs a k.0 i.0 (interface_is_above cs k.0 i.0 i.1)) (interfaces_extend cs a i.0 d i.2))

search_extends : (cs : List ClassFile) → IsAcyclic cs → (c d : ℕ) (b : Bool) → is_interface cs c ≡ b → is_among (if b then with_superinterfaces cs c else superclasses cs c ++ all_superinterfaces cs c) d ≡ true → extends cs c d ≡ true
search_extends cs a c d true i h = interfaces_extend cs a c d h
search_extends cs a c d false i h =
    elim (or_cases (is_among (superclasses cs c) d) (is_among (all_superinterfaces cs c) d) (sym (in_append (superclasses cs c) (all_superinterfaces cs c) d) ∙ h)) [
      | inl e ↦ upward_extends cs a c d e
      | inr e ↦ all_extend cs a c d e
    ]

found_by : (cs : List ClassFile) → IsAcyclic cs → (c : ℕ) (s : Signature) (m : Place) (b : Bool) → (if b then declared_method cs s c else first_some (map (declared_method cs s) (method_search cs c))) ≡ Some m → IsFound cs c s (λ k. k.methods) m
found_by cs a c s m true h = is_found (λ k. k.methods) cs s c c m h (extends_self cs a c)
found_by cs a c s m false h =
    let r = first_found (declared_method cs s) (method_search cs c) m h in
    is_found (λ k. k.methods) cs s c r.0 m r.2 (search_extends cs a c r.0 (is_interface cs c) refl r.1)

pub found_methods : FoundMethods
unfolding find_method
found_methods cs a c s m h = found_by cs a c s m (is_init s) h
