-- The class that is run behind other classes: what it names is resolved, and its place in the hierarchy is right.
use Rattle.std.proofs.Common.{◌≡◌, ℕ, zero, suc, ◌+◌, ◌-◌, ◌<◌, ◌≤◌, Bool, true, false, not, ◌&&◌, ◌||◌, ◌==◌, ◌⊎◌, inl, inr, List, [], ◌∷◌, ◌++◌, map, length, Option, Some, None, refl, sym, ap, ap₂, ◌∙◌, subst, arith, append_assoc}
use Rattle.std.specs.Prelude.{IsTrue, if◌then◌else◌, is_none, is_some, slice_get, option_map}
use Rattle.std.specs.Option.{option_map_or, option_to_list, option_or}
use Rattle.std.specs.List.{list_all, list_any, filter, filter_map, cons_option, flat_map, range_with_len, AllByRecursion}
use Rattle.std.proofs.lemmas.Bool.{le-ltb, eq-eqb}
use Rattle.std.proofs.lemmas.List.{length-append}
use Rattle.lists.specs.Lists.{onto, first_some}
use Rattle.lists.specs.Numbers.{reached}
use Rattle.lists.proofs.Lemmas.{index_append}
use Rattle.class_pool.specs.declared.class.Member.{Member}
use Rattle.class_pool.specs.declared.class.ClassFile.{ClassFile}
use Rattle.opcodes.specs.declared.instruction.Instr.{Instr}
use Rattle.descriptors.specs.declared.descriptor.Element.TheVariants as elements
use Rattle.descriptors.specs.Names.{is_class_name}
use Rattle.descriptors.specs.Parsing.{field_in}
use Rattle.class_making.specs.declared.item.Item.{Item}
use Rattle.class_making.specs.declared.item.Item.TheVariants.{Class}
use Rattle.class_making.specs.Making.{expanded, index_of, pool_of}
use Rattle.class_making.specs.Plans.{items_of}
use Rattle.class_making.specs.Laws.{PlansHaveEntries, ItemsAreFew}
use Rattle.core_classes.specs.Core.{core, object_name, string_name, boot_plan}
use Rattle.core_classes.specs.Laws.{BootSaysPlan}
use Rattle.bytecode_model.specs.Program.{object_class}
use Rattle.class_lookup.specs.Parts.{Signature, same_text, class_text, name_of, superclass_name, superinterface_names, signature_of, is_static, is_final, is_abstract, is_init, is_clinit, is_interface_class}
use Rattle.class_lookup.specs.Hierarchy.{find_class, superclass, superinterfaces, is_interface, is_concrete, superclasses, with_superinterfaces, all_superinterfaces, supertypes, direct_supertypes, extends, is_on_a_cycle}
use Rattle.class_lookup.specs.Lookup.{Place, declared_in, declared_method, method_search, find_method}
use Rattle.class_lookup.specs.Selection.{is_method_with, upwards, overrides, signature_at}
use Rattle.program_tables.specs.declared.refusal.Why.{Why}
use Rattle.program_tables.specs.declared.refusal.Why.TheVariants.{NoClass, NotAccessible, WrongKind, NotImplemented}
use Rattle.program_tables.specs.Core.{boot_name, is_boot}
use Rattle.program_tables.specs.Instructions.{Placed, named_in, instructions_of}
use Rattle.program_tables.specs.Kinds.{class_in_type, type_named, class_in_entry, classes_in_method_descriptor}
use Rattle.program_tables.specs.Operands.{class_named, method_named}
use Rattle.program_tables.specs.Placed.{duplicate_by, duplicate_of, lacks_superclass, may_have_subclasses, has_bad_superclass, has_bad_superinterface, is_bad_interface, overrides_final, has_overridden_final, is_badly_placed}
use Rattle.class_lookup.specs.Access.{is_accessible_class, is_accessible_member}
use Rattle.program_tables.specs.Unresolved.{unless, is_there, are_there, is_free, may_name_entry, may_use_method, is_right_method, why_class, why_named, why_method, why_method_named, why_method_found, why, Mention, AtInstruction, abstract_methods_in, is_implemented, implements_all}
use Rattle.program_tables.specs.Resolving.{IsLinkable}
use Rattle.core_classes.specs.Linkage.{DeclaresStatic, initializer, main_signature, BootIsLinkable, BootIsOnNoCycle}
use Rattle.core_classes.proofs.Lists.{all_join, all_along, all_front, nothing_of_all, not_among, not_found, reached_below}
use Rattle.core_classes.proofs.Core.{core_long, members_are_plain}
use Rattle.core_classes.proofs.Below.{above_is_before, supertypes_below, plain_at, split_core, none_left_open, none_of_any, declared_case, well_placed, or_true}
use Rattle.core_classes.proofs.First.{at_end}
use Rattle.core_classes.proofs.BootCore.{object_is_first, object_may_be_extended, strings_are_there, taken_by_main, taken_by_nothing}
use Rattle.core_classes.proofs.BootWalk.{call_item, main_item, index_instr}
use Rattle.core_classes.proofs.BootNames.{Stands, class_said}
use Rattle.core_classes.proofs.BootSupport.{boot_member, boot_file, boot_is, SaysBoot, says_boot, call_named, main_named, array_named, of_code}

-- ---- upwards

-- of the class itself, or of a core class
abbrev Above : (n d : ℕ) → Type 0
Above n d = (d ≡ n) ⊎ (d < 23)

above_object : (above : ℕ → List ℕ) → ((k : ℕ) → k < 23 → AllByRecursion (λ d. d < k) (above k)) → (n most : ℕ) → above n ≡ 0 ∷ [] → AllByRecursion (Above n) (reached above most n)
above_object above before n zero is = tt
above_object above before n (suc most) is = (
  inl refl,
  subst (λ (ds : List ℕ). AllByRecursion (Above n) (flat_map (reached above most) ds)) (sym is)
      (all_join (Above n) (reached above most 0) []
      (all_along (λ d. d < 1) (Above n) (λ d lt. inr (omega arith)) (reached above most 0) (reached_below above 23 before most 0 (omega arith)))
      tt),
)

-- of methods that these classes declare none passes a test
none_declared : (cs : List ClassFile) (s : Signature) (P : ℕ → Type 0) (f : Place → Bool) → ((d i : ℕ) → P d → f (d, i) ≡ false) → (ds : List ℕ) → AllByRecursion P ds
    → list_any f (filter_map (declared_method cs s) ds) ≡ false
none_declared cs s P f h [] all = refl
none_declared cs s P f h (d ∷ ds) all = by_file d (slice_get cs d) (filter_map (declared_method cs s) ds) (λ i. h d i all.0) (none_declared cs s P f h ds all.1)
  where
    by_file : (d : ℕ) (o : Option ClassFile) (rest : List Place) → ((i : ℕ) → f (d, i) ≡ false) → list_any f rest ≡ false
        → list_any f (cons_option (onto o (λ k. option_map (λ (i : ℕ). (d, i)) (declared_in (λ c. c.methods) s k))) rest) ≡ false
    by_file d None rest one later = later
    by_file d (Some k) rest one later = declared_case d f (declared_in (λ c. c.methods) s k) rest one later

-- ---- what is resolved

named_class : (t : List ℕ) → is_class_name t ≡ true → option_map_or class_in_type (type_named t) [] ≡ t ∷ []
named_class t right = ap (λ (b : Bool). option_map_or class_in_type (if b then Some (record { dimensions = 0; element = elements.Class t }) else field_in t) []) right

both : (a b : Bool) → a ≡ true → b ≡ true → (a && b) ≡ true
both true b h i = i
both false b h i = absurd (let f : false ≡ true = h in cc)

free_class : (cs : List ClassFile) (n : ℕ) (c : ClassFile) (index : ℕ) (t : List ℕ) → class_text c.pool index ≡ t → is_class_name t ≡ true → is_there cs t ≡ true → is_free cs n ≡ true → why_class cs n c index ≡ None
free_class cs n c index t is right there free =
    let entry : class_in_entry c.pool index ≡ t ∷ [] = ap (λ (u : List ℕ). option_map_or class_in_type (type_named u) []) is ∙ named_class t right in
    let found : are_there cs (class_in_entry c.pool index) ≡ true = ap (are_there cs) entry ∙ both (is_there cs t) true there refl in
    let may : may_name_entry cs n c index ≡ true =
    ap (list_all (λ name. is_free cs n || option_map_or (λ d. is_accessible_class cs n d) (find_class cs name) false)) entry
    ∙ ap (λ (b : Bool). (b || option_map_or (λ d. is_accessible_class cs n d) (find_class cs t) false) && true) free in
    ap₂ (λ (a b : Bool). first_some (unless a NoClass ∷ unless b NotAccessible ∷ [])) found may

right_kind : (free static init through clinit : Bool) → free ≡ true → static ≡ true → init ≡ false
    → (((free && true) || not through) && static && true && true && ((not init || false) && (not clinit || free))) ≡ true
right_kind free static init through clinit f s i = rw (f, s, i) (or_true (not clinit))

found_first : (cs : List ClassFile) (s : Signature) (d k : ℕ) (p : Place) → length cs ≡ suc k → is_init s ≡ false → declared_method cs s d ≡ Some p → find_method cs d s ≡ Some p
unfolding find_method superclasses with_superinterfaces
found_first cs s d k p long plain at =
    ap (λ (b : Bool). if b then declared_method cs s d else first_some (map (declared_method cs s) (method_search cs d))) plain ∙ searched (is_interface cs d) refl
  where
    searched : (b : Bool) → is_interface cs d ≡ b → first_some (map (declared_method cs s) (method_search cs d)) ≡ Some p
    searched true is =
        ap (λ (x : Bool). first_some (map (declared_method cs s) (if x then with_superinterfaces cs d else superclasses cs d ++ all_superinterfaces cs d))) is
        ∙ (ap (λ (most : ℕ). first_some (map (declared_method cs s) (reached (superinterfaces cs) most d))) long
        ∙ ap (λ (o : Option Place). first_some (o ∷ map (declared_method cs s) (flat_map (reached (superinterfaces cs) k) (superinterfaces cs d)))) at)
    searched false is =
        ap (λ (x : Bool). first_some (map (declared_method cs s) (if x then with_superinterfaces cs d else superclasses cs d ++ all_superinterfaces cs d))) is
        ∙ (ap (λ (most : ℕ). first_some (map (declared_method cs s) (reached (λ c. option_to_list (superclass cs c)) most d ++ all_superinterfaces cs d))) long
        ∙ ap (λ (o : Option Place). first_some (o ∷ map (declared_method cs s) (flat_map (reached (λ c. option_to_list (superclass cs c)) k) (option_to_list (superclass cs d)) ++ all_superinterfaces cs d))) at)

free_method : (cs : List ClassFile) (n k : ℕ) (c : ClassFile) (owner : ℕ) (t : List ℕ) (s : Signature) → class_text c.pool owner ≡ t → DeclaresStatic cs t s → length cs ≡ suc k → is_free cs n ≡ true → is_init s ≡ false
    → are_there cs (classes_in_method_descriptor s.descriptor) ≡ true → why_method cs n c false 184 owner s ≡ None
free_method cs n k c owner t s is d long free plain taken =
    let entry : class_in_entry c.pool owner ≡ t ∷ [] = ap (λ (u : List ℕ). option_map_or class_in_type (type_named u) []) is ∙ named_class t d.right in
    let there : is_there cs t ≡ true = ap is_some d.found in
    let classes : are_there cs (class_in_entry c.pool owner ++ classes_in_method_descriptor s.descriptor) ≡ true =
    ap (λ (xs : List (List ℕ)). are_there cs (xs ++ classes_in_method_descriptor s.descriptor)) entry ∙ both (is_there cs t) (are_there cs (classes_in_method_descriptor s.descriptor)) there taken in
    let method : method_named cs c owner s ≡ Some d.place =
    ap (λ (u : List ℕ). onto (find_class cs u) (λ x. find_method cs x s)) is
    ∙ (ap (λ (o : Option ℕ). onto o (λ x. find_method cs x s)) d.found ∙ found_first cs s d.place.0 k d.place long plain d.declared) in
    let use_ : may_use_method cs n c owner d.place d.method ≡ true =
    ap (λ (b : Bool). b || (may_name_entry cs n c owner && option_map_or (λ x. is_accessible_member cs n x d.place.0 d.method) (class_named cs c owner) false)) free in
    let right : is_right_method cs n c false 184 owner s d.place d.method ≡ true =
    right_kind (is_free cs n) (is_static d.method) (is_init s) (option_map_or (is_interface cs) (class_named cs c owner) false) (is_clinit s) free d.static plain in
    let found : why_method_named cs n c false 184 owner s (method_named cs c owner s) ≡ None =
    ap (why_method_named cs n c false 184 owner s) method
    ∙ (ap (why_method_found cs n c false 184 owner s d.place) d.there
    ∙ ap₂ (λ (a b : Bool). first_some (unless a NotAccessible ∷ unless b WrongKind ∷ [])) use_ right) in
    ap₂ (λ (b : Bool) (o : Option Why). first_some (unless b NoClass ∷ o ∷ [])) classes found

-- ---- the class behind others

module _ (ks : List ClassFile) (items : List Item) (calls : List (List ℕ)) (main : List ℕ) (says : SaysBoot items calls main) (fresh : find_class (core ++ ks) boot_name ≡ None) (all_named : find_class ks [] ≡ None) where
  abbrev c : ClassFile
  c = boot_file items calls main

  abbrev m : Member
  m = boot_member items calls main

  abbrev others : List ClassFile
  others = ks ++ c ∷ []

  abbrev cs : List ClassFile
  cs = core ++ others

  abbrev n : ℕ
  n = length (core ++ ks)

  behind : cs ≡ (core ++ ks) ++ c ∷ []
  behind = sym (append_assoc core ks (c ∷ []))

  at_n : slice_get cs n ≡ Some c
  at_n = ap (λ (ys : List ClassFile). slice_get ys n) behind ∙ at_end (core ++ ks) c

  long : length cs ≡ suc n
  long = let e = ap length behind in omega (arith, e, length-append (core ++ ks) (c ∷ []))

  high : 23 ≤ n
  high = let e = core_long in omega (arith, e, length-append core ks)

  nameless : find_class others [] ≡ None
  nameless = not_found (λ k. same_text (name_of k) []) ks (c ∷ []) all_named (ap (λ (t : List ℕ). let o : Option ℕ = if same_text t [] then Some 0 else None in o) says.name)

  is_it : is_boot c ≡ true
  is_it = ap (λ (t : List ℕ). same_text t boot_name) says.name

  found : find_class cs boot_name ≡ Some n
  found =
      ap (λ (ys : List ClassFile). find_class ys boot_name) behind
      ∙ (index_append (λ k. same_text (name_of k) boot_name) (core ++ ks) c
      ∙ (ap (λ (o : Option ℕ). option_or o (if is_boot c then Some n else None)) fresh ∙ ap (λ (b : Bool). let o : Option ℕ = if b then Some n else None in o) is_it))

  free : is_free cs n ≡ true
  free = ap (λ (o : Option ClassFile). option_map_or is_boot o false) at_n ∙ is_it

  last : (n + 1 == length cs) ≡ true
  last = let e = long in eq-eqb (n + 1) (length cs) (omega (arith, e))

  no_other : duplicate_of cs n ≡ None
  no_other =
      ap (λ (o : Option ClassFile). onto o (λ k. duplicate_by cs n k (find_class cs (name_of k)))) at_n
      ∙ (ap (λ (t : List ℕ). duplicate_by cs n c (find_class cs t)) says.name
      ∙ (ap (duplicate_by cs n c) found
      ∙ (ap (λ (b : Bool). let o : Option ℕ = if b then Some n else if is_boot c && not (n + 1 == length cs) then Some (length cs - 1) else None in o) (le-ltb n n (omega arith))
      ∙ ap₂ (λ (a b : Bool). let o : Option ℕ = if a && not b then Some (length cs - 1) else None in o) is_it last)))

  -- its place

  superclass_is : superclass cs n ≡ Some 0
  superclass_is = ap (λ (o : Option ClassFile). onto o (λ k. find_class cs (superclass_name k))) at_n ∙ (ap (find_class cs) says.superclass ∙ object_is_first others)

  no_superinterface : superinterfaces cs n ≡ []
  no_superinterface = ap (λ (o : Option ClassFile). option_map_or (λ k. filter_map (find_class cs) (superinterface_names k)) o []) at_n

  directly : direct_supertypes cs n ≡ 0 ∷ []
  directly = ap₂ (λ (xs : List ℕ) (o : Option ℕ). xs ++ option_to_list o) no_superinterface superclass_is

  all_above : AllByRecursion (Above n) (supertypes cs n)
  unfolding supertypes
  all_above = above_object (direct_supertypes cs) (above_is_before others nameless) n (length cs) directly

  classes_above : AllByRecursion (Above n) (superclasses cs n)
  unfolding superclasses
  classes_above =
      above_object (λ k. option_to_list (superclass cs k))
      (λ k lt. all_front (λ d. d < k) (superinterfaces cs k) (option_to_list (superclass cs k)) (above_is_before others nameless k lt))
      n (length cs) (ap option_to_list superclass_is)

  pub not_on_cycle : is_on_a_cycle cs n ≡ false
  not_on_cycle =
      let h = high in
      ap (list_any (λ d. extends cs d n)) directly
      ∙ ap (λ (b : Bool). b || false) (not_among n (supertypes cs 0) (all_along (λ d. d < 1) (λ d. d < n) (λ d lt. omega arith) (supertypes cs 0) (supertypes_below others nameless 0 (omega arith))))

  one_alone : (q : Member → Bool) → q m ≡ false → (i : ℕ) → option_map_or q (slice_get (m ∷ []) i) false ≡ false
  one_alone q h zero = h
  one_alone q h (suc i) = refl

  plain_here : (q : Member → Bool) → q m ≡ false → (i : ℕ) → is_method_with q cs (n, i) ≡ false
  plain_here q h i = ap (λ (o : Option ClassFile). option_map_or q (onto o (λ k. slice_get k.methods i)) false) at_n ∙ one_alone q h i

  none_final : (d i : ℕ) → Above n d → is_method_with is_final cs (d, i) ≡ false
  none_final d i (inl e) = ap (λ (k : ℕ). is_method_with is_final cs (k, i)) e ∙ plain_here is_final refl i
  none_final d i (inr lt) = plain_at is_final others d i (split_core core members_are_plain).0 lt

  final_case : (i : ℕ) (o : Option Signature) → option_map_or (λ s. list_any (λ a. is_method_with is_final cs a && overrides cs (n, i) a) (upwards cs s n)) o false ≡ false
  final_case i None = refl
  final_case i (Some s) =
      none_declared cs s (Above n) (λ a. is_method_with is_final cs a && overrides cs (n, i) a) (λ d j is. ap (λ (b : Bool). b && overrides cs (n, i) (d, j)) (none_final d j is)) (superclasses cs n) classes_above

  overrides_nothing : has_overridden_final cs n ≡ false
  overrides_nothing =
      ap (λ (o : Option ClassFile). option_map_or (λ k. list_any (λ i. overrides_final cs (n, i)) (range_with_len 0 (length k.methods))) o false) at_n
      ∙ none_of_any (λ i. overrides_final cs (n, i)) (λ i. final_case i (signature_at cs (n, i))) (range_with_len 0 1)

  stands : IsTrue (not (is_badly_placed cs n))
  stands =
      let top = superclass_is in
      well_placed (lacks_superclass cs n) (is_on_a_cycle cs n) (has_bad_superclass cs n) (has_bad_superinterface cs n) (is_bad_interface cs n) (has_overridden_final cs n)
      (ap (λ (o : Option ℕ). is_none o && not (n == 0)) top)
      not_on_cycle
      (ap (λ (o : Option ℕ). option_map_or (λ d. option_map_or (λ (k : ClassFile). not (may_have_subclasses k)) (slice_get cs d) false) o false) top ∙ object_may_be_extended others)
      (ap (list_any (λ d. not (is_interface cs d))) no_superinterface)
      (ap (λ (o : Option ClassFile). option_map_or is_interface_class o false && option_map_or (λ d. not (d == object_class)) (superclass cs n) false) at_n)
      overrides_nothing

  -- what it names

  none_open : (d : ℕ) → Above n d → abstract_methods_in cs d ≡ []
  none_open d (inl e) =
      ap (abstract_methods_in cs) e
      ∙ (ap (λ (o : Option ClassFile). filter (is_method_with is_abstract cs) (option_map_or (λ (k : ClassFile). map (λ (i : ℕ). (n, i)) (range_with_len 0 (length k.methods))) o [])) at_n
      ∙ ap (λ (b : Bool). let ps : List Place = if b then (n, 0) ∷ [] else [] in ps) (plain_here is_abstract refl 0))
  none_open d (inr lt) = none_left_open others d lt

  implements : implements_all cs n ≡ true
  implements =
      ap (λ (ms : List Place). not (is_concrete cs n) || list_all (is_implemented cs n) ms) (nothing_of_all (Above n) (abstract_methods_in cs) none_open (supertypes cs n) all_above)
      ∙ or_true (not (is_concrete cs n))

  abbrev Links : Instr → Type 0
  Links i = why_named cs n c (signature_of c m) i.op (named_in c i) ≡ None

  call_links : (name : List ℕ) → AllByRecursion (Stands (pool_of items) items) (expanded (call_item name)) × DeclaresStatic cs name initializer → Links (index_instr 184 (index_of items (call_item name)))
  call_links name h =
      ap (why_named cs n c (signature_of c m) 184) (call_named items calls main says name h.0)
      ∙ free_method cs n n c (index_of items (Class name)) name initializer (class_said (pool_of items) items name h.0.1.0 h.0.1.1.0) h.1 long free refl (ap (are_there cs) (taken_by_nothing cs))

  main_links : DeclaresStatic cs main main_signature → Links (index_instr 184 (index_of items (main_item main)))
  main_links h =
      ap (why_named cs n c (signature_of c m) 184) (main_named items calls main says)
      ∙ free_method cs n n c (index_of items (Class main)) main main_signature (class_said (pool_of items) items main says.mentioned.of_main.1.0 says.mentioned.of_main.1.1.0) h long free refl (taken_by_main others)

  array_links : Links (index_instr 189 (index_of items (Class string_name)))
  array_links =
      ap (why_named cs n c (signature_of c m) 189) (array_named items calls main says)
      ∙ ap (λ (o : Option Why). first_some (o ∷ None ∷ []))
      (free_class cs n c (index_of items (Class string_name)) string_name (class_said (pool_of items) items string_name says.mentioned.of_array.0 says.mentioned.of_array.1.0) refl (strings_are_there others) free)

  pair_all : {X : Type 0} (P Q : X → Type 0) (xs : List X) → AllByRecursion P xs → AllByRecursion Q xs → AllByRecursion (λ x. P x × Q x) xs
  pair_all P Q [] h i = tt
  pair_all P Q (x ∷ xs) h i = ((h.0, i.0), pair_all P Q xs h.1 i.1)

  code_links : AllByRecursion (λ name. DeclaresStatic cs name initializer) calls → DeclaresStatic cs main main_signature → AllByRecursion (λ (x : Placed). Links x.instr) (instructions_of m)
  code_links called mained =
      of_code items calls main says Links
      (all_along (λ name. AllByRecursion (Stands (pool_of items) items) (expanded (call_item name)) × DeclaresStatic cs name initializer) (λ name. Links (index_instr 184 (index_of items (call_item name)))) call_links calls
      (pair_all (λ name. AllByRecursion (Stands (pool_of items) items) (expanded (call_item name))) (λ name. DeclaresStatic cs name initializer) calls says.mentioned.of_calls called))
      (record { constant = refl; array = array_links; call = main_links mained; end = refl })

  mapped : (xs : List Placed) → AllByRecursion (λ (x : Placed). Links x.instr) xs → AllByRecursion (λ x. why cs n c x ≡ None) (map (AtInstruction m) xs)
  mapped [] h = tt
  mapped (x ∷ xs) h = (h.0, mapped xs h.1)

  pub boot_links : AllByRecursion (λ name. DeclaresStatic cs name initializer) calls → DeclaresStatic cs main main_signature → IsLinkable cs n c
  boot_links called mained =
      let ok : Mention → Type 0 = λ x. why cs n c x ≡ None in
      record {
        name = no_other;
        supertypes = superclass_named;
        placed = stands;
        mentions = (
          ap (λ (b : Bool). unless b NotImplemented) implements,
          (
            ap (λ (t : List ℕ). unless (are_there cs (classes_in_method_descriptor t)) NoClass) says.descriptor ∙ ap (λ (xs : List (List ℕ)). unless (are_there cs xs) NoClass) (taken_by_nothing cs),
            all_join ok (map (AtInstruction m) (instructions_of m) ++ []) [] (all_join ok (map (AtInstruction m) (instructions_of m)) [] (mapped (instructions_of m) (code_links called mained)) tt) tt,
          ),
        );
      }
    where
      super_free : why_class cs n c c.super_class ≡ None
      super_free = free_class cs n c c.super_class object_name says.superclass refl (ap is_some (object_is_first others)) free

      superclass_named : AllByRecursion (λ index. why_class cs n c index ≡ None) ((if c.super_class == 0 then [] else c.super_class ∷ []) ++ [])
      superclass_named = chosen (c.super_class == 0)
        where
          chosen : (b : Bool) → AllByRecursion (λ index. why_class cs n c index ≡ None) ((if b then [] else c.super_class ∷ []) ++ [])
          chosen true = tt
          chosen false = (super_free, tt)

pub boot_is_linkable : ItemsAreFew → PlansHaveEntries → BootSaysPlan → BootIsLinkable
boot_is_linkable few entries says ks calls main count fresh all_named called mained =
    let items : List Item = items_of (boot_plan calls main) in
    let P : ClassFile → Type 0 =
    λ k. AllByRecursion (λ name. DeclaresStatic (core ++ (ks ++ k ∷ [])) name initializer) calls → DeclaresStatic (core ++ (ks ++ k ∷ [])) main main_signature → IsLinkable (core ++ (ks ++ k ∷ [])) (length (core ++ ks)) k in
    subst P (boot_is calls main) (boot_links ks items calls main (says_boot few entries says calls main count) fresh all_named) called mained

pub boot_is_on_no_cycle : ItemsAreFew → PlansHaveEntries → BootSaysPlan → BootIsOnNoCycle
boot_is_on_no_cycle few entries says ks calls main count fresh all_named =
    subst (λ (k : ClassFile). is_on_a_cycle (core ++ (ks ++ k ∷ [])) (length (core ++ ks)) ≡ false) (boot_is calls main)
    (not_on_cycle ks (items_of (boot_plan calls main)) calls main (says_boot few entries says calls main count) fresh all_named)
