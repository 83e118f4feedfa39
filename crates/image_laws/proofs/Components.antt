-- The types of the components of arrays have numbers.
use Rattle.std.proofs.Common.{◌≡◌, ℕ, zero, suc, ◌+◌, ◌<◌, ◌≤◌, Bool, true, false, not, eqb, List, [], ◌∷◌, ◌++◌, ◌⊎◌, inl, inr, Option, Some, None, map, length, append_assoc, refl, sym, ap, ◌∙◌, subst, arith}
use Rattle.std.specs.Prelude.{slice_get, is_some, IfSome, if◌then◌else◌}
use Rattle.std.specs.List.{filter, flat_map, list_any, range_with_len, AllByRecursion}
use Rattle.std.proofs.lemmas.Bool.{false≢true, both_ways, or_cases, or_left, or_right, eqb-true, eq-eqb, cases_Bool, not_from_false}
use Rattle.std.proofs.lemmas.List.Folds.{list_any-append}
use Rattle.std.proofs.lemmas.Option.{slice_get_within}
use Rattle.program_laws.proofs.Rows.{same_self}
use Rattle.descriptors.specs.declared.descriptor.Element.{Element}
use Rattle.descriptors.specs.declared.descriptor.Element.TheVariants as elements
use Rattle.class_pool.specs.declared.entry.Entry.{Entry}
use Rattle.class_pool.specs.declared.class.ClassFile.{ClassFile}
use Rattle.bytecode_model.specs.Types.{Kind, OfClass, OfNumbers, OfReferences, same_kind}
use Rattle.bytecode_model.specs.Program.{type_number}
use Rattle.bytecode_model.specs.Effects.{component_of}
use Rattle.lists.specs.Lists.{onto, index_of}
use Rattle.lists.proofs.Lemmas.{none≢some, some_same, onto_some, map_some, index_found}
use Rattle.class_lookup.specs.Parts.{same_text, name_of}
use Rattle.class_lookup.specs.Hierarchy.{find_class}
use Rattle.program_tables.specs.Lists.{distinct}
use Rattle.program_tables.specs.Instructions.{Named, Constant, Class, Field, Method, instructions_of, named_in}
use Rattle.program_tables.specs.Kinds.{arrays_of, arrays_of_numbers, kind_by, kind_of_type, class_type, kind_of_entry}
use Rattle.program_tables.specs.Numbers.{reference_arrays, used_by, class_kind, arrays_mentioned_by, arrays_mentioned_in, types_of}
use Rattle.program_tables.specs.Resolved.{resolved}
use Rattle.program_laws.proofs.Facts.{all_at}
use Rattle.image_laws.specs.Laws.{ComponentsAreNumbered}

-- ---- kinds

pub same_is : (k l : Kind) → same_kind k l ≡ true → k ≡ l
same_is (OfClass c) (OfClass d) h = ap OfClass (eqb-true c d h)
same_is (OfClass c) (OfNumbers b) h = absurd (false≢true h)
same_is (OfClass c) (OfReferences l) h = absurd (false≢true h)
same_is (OfNumbers a) (OfClass d) h = absurd (false≢true h)
same_is (OfNumbers a) (OfNumbers b) h = ap OfNumbers (eqb-true a b h)
same_is (OfNumbers a) (OfReferences l) h = absurd (false≢true h)
same_is (OfReferences k) (OfClass d) h = absurd (false≢true h)
same_is (OfReferences k) (OfNumbers b) h = absurd (false≢true h)
same_is (OfReferences k) (OfReferences l) h = ap OfReferences (same_is k l h)

-- ---- kinds in a list

abbrev pub has_kind : List Kind → Kind → Bool
has_kind ks k = list_any (same_kind k) ks

pub kinds_left : (xs ys : List Kind) (k : Kind) → has_kind xs k ≡ true → has_kind (xs ++ ys) k ≡ true
kinds_left xs ys k h = list_any-append (same_kind k) xs ys ∙ or_left (has_kind xs k) (has_kind ys k) h

pub kinds_right : (xs ys : List Kind) (k : Kind) → has_kind ys k ≡ true → has_kind (xs ++ ys) k ≡ true
kinds_right xs ys k h = list_any-append (same_kind k) xs ys ∙ or_right (has_kind xs k) (has_kind ys k) h

filter_case : (test : Kind → Bool) (x k : Kind) (xs : List Kind) (b : Bool) → test x ≡ b → test k ≡ true → has_kind (x ∷ xs) k ≡ true → (has_kind xs k ≡ true → has_kind (filter test xs) k ≡ true) → has_kind (if b then x ∷ filter test xs else filter test xs) k ≡ true
filter_case test x k xs true e t h later =
    elim (or_cases (same_kind k x) (has_kind xs k) h) [
      | inl s ↦ or_left (same_kind k x) (has_kind (filter test xs) k) s
      | inr s ↦ or_right (same_kind k x) (has_kind (filter test xs) k) (later s)
    ]
filter_case test x k xs false e t h later =
    elim (or_cases (same_kind k x) (has_kind xs k) h) [
      | inl s ↦ absurd (both_ways (test x) e (ap test (sym (same_is k x s)) ∙ t))
      | inr s ↦ later s
    ]

kinds_filter : (test : Kind → Bool) (xs : List Kind) (k : Kind) → test k ≡ true → has_kind xs k ≡ true → has_kind (filter test xs) k ≡ true
kinds_filter test [] k t h = h
kinds_filter test (x ∷ xs) k t h = filter_case test x k xs (test x) refl t h (kinds_filter test xs k t)

pub kinds_distinct : (xs : List Kind) (k : Kind) → has_kind xs k ≡ true → has_kind (distinct same_kind xs) k ≡ true
kinds_distinct [] k h = h
kinds_distinct (x ∷ xs) k h =
    let rest = filter (λ y. not (same_kind x y)) (distinct same_kind xs) in
    elim (or_cases (same_kind k x) (has_kind xs k) h) [
      | inl s ↦ or_left (same_kind k x) (has_kind rest k) s
      | inr s ↦ elim (cases_Bool (same_kind x k)) [
        | inl t ↦ or_left (same_kind k x) (has_kind rest k) (ap (same_kind k) (same_is x k t) ∙ same_self k)
        | inr t ↦ or_right (same_kind k x) (has_kind rest k) (kinds_filter (λ y. not (same_kind x y)) (distinct same_kind xs) k (not_from_false (same_kind x k) t) (kinds_distinct xs k s))
      ]
    ]

pub kinds_range : (f : ℕ → Kind) (a n c : ℕ) → a ≤ c → c < a + n → has_kind (map f (range_with_len a n)) (f c) ≡ true
kinds_range f a zero c low high = absurd (omega (arith, low, high))
kinds_range f a (suc n) c low high =
    let rest = map f (range_with_len (a + 1) n) in
    elim (cases_Bool (eqb c a)) [
      | inl e ↦ or_left (same_kind (f c) (f a)) (has_kind rest (f c)) (ap (λ x. same_kind (f c) (f x)) (sym (eqb-true c a e)) ∙ same_self (f c))
      | inr e ↦
          let apart : c ≡ a → ⊥ = λ s. both_ways (eqb c a) e (eq-eqb c a s) in
          or_right (same_kind (f c) (f a)) (has_kind rest (f c)) (kinds_range f (a + 1) n c (omega (arith, low, apart)) (omega (arith, high)))
    ]

some_onto : (o : Option ℕ) → is_some o ≡ true → is_some (onto o (λ k. Some (suc k))) ≡ true
some_onto None h = h
some_onto (Some n) h = refl

index_case : (test : Kind → Bool) (x : Kind) (xs : List Kind) (b : Bool) → test x ≡ b → list_any test (x ∷ xs) ≡ true → (list_any test xs ≡ true → is_some (index_of test xs) ≡ true) → is_some (if b then Some 0 else onto (index_of test xs) (λ k. Some (suc k))) ≡ true
index_case test x xs true e h later = refl
index_case test x xs false e h later =
    elim (or_cases (test x) (list_any test xs) h) [
      | inl s ↦ absurd (both_ways (test x) e s)
      | inr s ↦ some_onto (index_of test xs) (later s)
    ]

pub any_index : (test : Kind → Bool) (xs : List Kind) → list_any test xs ≡ true → is_some (index_of test xs) ≡ true
any_index test [] h = absurd (false≢true h)
any_index test (x ∷ xs) h = index_case test x xs (test x) refl h (any_index test xs)

-- ---- classes that are there, and arrays of numbers

abbrev pub IsOver : List ClassFile → Kind → Type 0
IsOver cs (OfClass c) = c < length cs
IsOver cs (OfNumbers a) = (4 ≤ a) × (a < 12)
IsOver cs (OfReferences k) = IsOver cs k

over_arrays : (cs : List ClassFile) (n : ℕ) (k : Kind) → IsOver cs k → IsOver cs (arrays_of n k)
over_arrays cs zero k h = h
over_arrays cs (suc n) k h = over_arrays cs n k h

over_numbers : (cs : List ClassFile) (n code : ℕ) (k : Kind) → 4 ≤ code → code < 12 → arrays_of_numbers n code ≡ Some k → IsOver cs k
over_numbers cs zero code k low high h = absurd (none≢some k h)
over_numbers cs (suc n) code k low high h = subst (IsOver cs) (some_same (arrays_of n (OfNumbers code)) k h) (over_arrays cs n (OfNumbers code) (low, high))

over_element : (cs : List ClassFile) (n : ℕ) (e : Element) (k : Kind) → kind_by cs n e ≡ Some k → IsOver cs k
over_element cs n (elements.Class name) k h =
    let c = map_some (λ c. arrays_of n (OfClass c)) (find_class cs name) k h in
    let f = index_found (λ x. same_text (name_of x) name) cs c.0 c.1 in
    subst (IsOver cs) c.2 (over_arrays cs n (OfClass c.0) (slice_get_within cs c.0 f.0 f.1))
over_element cs n elements.Byte k h = over_numbers cs n 8 k (omega arith) (omega arith) h
over_element cs n elements.Char k h = over_numbers cs n 5 k (omega arith) (omega arith) h
over_element cs n elements.Double k h = over_numbers cs n 7 k (omega arith) (omega arith) h
over_element cs n elements.Float k h = over_numbers cs n 6 k (omega arith) (omega arith) h
over_element cs n elements.Int k h = over_numbers cs n 10 k (omega arith) (omega arith) h
over_element cs n elements.Long k h = over_numbers cs n 11 k (omega arith) (omega arith) h
over_element cs n elements.Short k h = over_numbers cs n 9 k (omega arith) (omega arith) h
over_element cs n elements.Boolean k h = over_numbers cs n 4 k (omega arith) (omega arith) h

pub over_entry : (cs : List ClassFile) (pool : List Entry) (index : ℕ) (k : Kind) → kind_of_entry cs pool index ≡ Some k → IsOver cs k
over_entry cs pool index k h =
    let t = onto_some (class_type pool index) (kind_of_type cs) k h in
    over_element cs t.0.dimensions t.0.element k t.2

over_class : (cs : List ClassFile) (c : ClassFile) (o : Option Named) (k : Kind) → class_kind cs c o ≡ Some k → IsOver cs k
over_class cs c None k h = absurd (none≢some k h)
over_class cs c (Some (Class index)) k h = over_entry cs c.pool index k h
over_class cs c (Some (Constant e)) k h = absurd (none≢some k h)
over_class cs c (Some (Field index s)) k h = absurd (none≢some k h)
over_class cs c (Some (Method ofi index s)) k h = absurd (none≢some k h)

-- ---- components

module _ (cs : List ClassFile) where
  abbrev numbers : List Kind
  numbers = map OfNumbers (range_with_len 4 8)

  abbrev classes : List Kind
  classes = map OfClass (range_with_len 0 (length cs))

  abbrev IsKnown : List Kind → Kind → Type 0
  IsKnown ks k = (has_kind (numbers ++ classes) k ≡ true) ⊎ (has_kind ks k ≡ true)

  -- the component, where it is an array of references, is known
  abbrev Comes : List Kind → Kind → Type 0
  Comes ks (OfClass c) = Unit {0}
  Comes ks (OfNumbers a) = Unit {0}
  Comes ks (OfReferences k) = IsKnown ks k

  known_more : (xs ys : List Kind) → ((k : Kind) → has_kind xs k ≡ true → has_kind ys k ≡ true) → (k : Kind) → IsKnown xs k → IsKnown ys k
  known_more xs ys more k (inl h) = inl h
  known_more xs ys more k (inr h) = inr (more k h)

  comes_more : (xs ys : List Kind) → ((k : Kind) → has_kind xs k ≡ true → has_kind ys k ≡ true) → (k : Kind) → Comes xs k → Comes ys k
  comes_more xs ys more (OfClass c) h = tt
  comes_more xs ys more (OfNumbers a) h = tt
  comes_more xs ys more (OfReferences k) h = known_more xs ys more k h

  all_more : (xs ys ks : List Kind) → ((k : Kind) → has_kind xs k ≡ true → has_kind ys k ≡ true) → AllByRecursion (Comes xs) ks → AllByRecursion (Comes ys) ks
  all_more xs ys [] more h = tt
  all_more xs ys (k ∷ ks) more h = (comes_more xs ys more k h.0, all_more xs ys ks more h.1)

  all_append : (zs xs ys : List Kind) → AllByRecursion (Comes zs) xs → AllByRecursion (Comes zs) ys → AllByRecursion (Comes zs) (xs ++ ys)
  all_append zs [] ys h k = k
  all_append zs (x ∷ xs) ys h k = (h.0, all_append zs xs ys h.1 k)

  all_joined : (xs ys : List Kind) → AllByRecursion (Comes xs) xs → AllByRecursion (Comes ys) ys → AllByRecursion (Comes (xs ++ ys)) (xs ++ ys)
  all_joined xs ys h k =
      all_append (xs ++ ys) xs ys (all_more xs (xs ++ ys) xs (kinds_left xs ys) h) (all_more ys (xs ++ ys) ys (kinds_right xs ys) k)

  all_flat : {A : Type 0} (f : A → List Kind) (xs : List A) → ((x : A) → AllByRecursion (Comes (f x)) (f x)) → AllByRecursion (Comes (flat_map f xs)) (flat_map f xs)
  all_flat f [] h = tt
  all_flat f (x ∷ xs) h = all_joined (f x) (flat_map f xs) (h x) (all_flat f xs h)

  kept_case : (zs : List Kind) (test : Kind → Bool) (x : Kind) (xs : List Kind) (b : Bool) → Comes zs x → AllByRecursion (Comes zs) (filter test xs) → AllByRecursion (Comes zs) (if b then x ∷ filter test xs else filter test xs)
  kept_case zs test x xs true h k = (h, k)
  kept_case zs test x xs false h k = k

  all_filter : (zs : List Kind) (test : Kind → Bool) (xs : List Kind) → AllByRecursion (Comes zs) xs → AllByRecursion (Comes zs) (filter test xs)
  all_filter zs test [] h = tt
  all_filter zs test (x ∷ xs) h = kept_case zs test x xs (test x) h.0 (all_filter zs test xs h.1)

  all_distinct : (zs xs : List Kind) → AllByRecursion (Comes zs) xs → AllByRecursion (Comes zs) (distinct same_kind xs)
  all_distinct zs [] h = tt
  all_distinct zs (x ∷ xs) h = (h.0, all_filter zs (λ y. not (same_kind x y)) (distinct same_kind xs) (all_distinct zs xs h.1))

  known_base : (ks : List Kind) (k : Kind) → IsOver cs k → has_kind ks k ≡ true → IsKnown ks k
  known_base ks k o h = inr h

  last_known : (k : Kind) → IsOver cs k → IsKnown (reference_arrays k ++ OfReferences k ∷ []) k
  last_known (OfClass c) o = inl (kinds_right numbers classes (OfClass c) (kinds_range OfClass 0 (length cs) c (omega arith) (omega (arith, o))))
  last_known (OfNumbers a) o = let low = o.0 in let high = o.1 in inl (kinds_left numbers classes (OfNumbers a) (kinds_range OfNumbers 4 8 a low (omega (arith, high))))
  last_known (OfReferences k) o =
      inr (kinds_left (reference_arrays k ++ OfReferences k ∷ []) (OfReferences (OfReferences k) ∷ []) (OfReferences k)
      (kinds_right (reference_arrays k) (OfReferences k ∷ []) (OfReferences k) (or_left (same_kind k k) false (same_self k))))

  arrays_all : (k : Kind) → IsOver cs k → AllByRecursion (Comes (reference_arrays k)) (reference_arrays k)
  arrays_all (OfClass c) o = tt
  arrays_all (OfNumbers a) o = tt
  arrays_all (OfReferences k) o =
      let all = reference_arrays k ++ OfReferences k ∷ [] in
      all_append all (reference_arrays k) (OfReferences k ∷ []) (all_more (reference_arrays k) all (reference_arrays k) (kinds_left (reference_arrays k) (OfReferences k ∷ [])) (arrays_all k o)) (last_known k o, tt)

  either_all : (b : Bool) (xs ys : List Kind) → AllByRecursion (Comes xs) xs → AllByRecursion (Comes ys) ys → AllByRecursion (Comes (if b then xs else ys)) (if b then xs else ys)
  either_all true xs ys h k = h
  either_all false xs ys h k = k

  used_all : (op : ℕ) (o : Option Kind) → ((k : Kind) → o ≡ Some k → IsOver cs k) → AllByRecursion (Comes (used_by op o)) (used_by op o)
  used_all op None over = tt
  used_all op (Some k) over =
      let own = arrays_all k (over k refl) in
      let cast = if eqb op 193 then reference_arrays k else [] in
      let last = either_all (eqb op 193) (reference_arrays k) [] own tt in
      either_all (eqb op 189) (reference_arrays (OfReferences k)) (if eqb op 192 then reference_arrays k else cast) (arrays_all (OfReferences k) (over k refl))
      (either_all (eqb op 192) (reference_arrays k) cast own last)

  mentioned_all : (c : ClassFile) → AllByRecursion (Comes (arrays_mentioned_in cs c)) (arrays_mentioned_in cs c)
  mentioned_all c =
      all_flat (λ m. flat_map (arrays_mentioned_by cs c) (instructions_of m)) c.methods (λ m.
      all_flat (arrays_mentioned_by cs c) (instructions_of m) (λ p. used_all p.instr.op (class_kind cs c (named_in c p.instr)) (over_class cs c (named_in c p.instr))))

  abbrev arrays : List Kind
  arrays = flat_map (arrays_mentioned_in cs) cs

  distinct_all : AllByRecursion (Comes (distinct same_kind arrays)) (distinct same_kind arrays)
  distinct_all =
      all_more arrays (distinct same_kind arrays) (distinct same_kind arrays) (kinds_distinct arrays) (all_distinct arrays arrays (all_flat (arrays_mentioned_in cs) cs mentioned_all))

  numbers_all : (zs : List Kind) (xs : List ℕ) → AllByRecursion (Comes zs) (map OfNumbers xs)
  numbers_all zs [] = tt
  numbers_all zs (x ∷ xs) = (tt, numbers_all zs xs)

  classes_all : (zs : List Kind) (xs : List ℕ) → AllByRecursion (Comes zs) (map OfClass xs)
  classes_all zs [] = tt
  classes_all zs (x ∷ xs) = (tt, classes_all zs xs)

  types_all : AllByRecursion (Comes (distinct same_kind arrays)) (types_of cs)
  unfolding types_of
  types_all =
      let ks = distinct same_kind arrays in
      all_append ks numbers (classes ++ ks) (numbers_all ks (range_with_len 4 8)) (all_append ks classes ks (classes_all ks (range_with_len 0 (length cs))) distinct_all)

  known_there : (k : Kind) → IsKnown (distinct same_kind arrays) k → has_kind (types_of cs) k ≡ true
  unfolding types_of
  known_there k (inl h) =
      let ks = distinct same_kind arrays in
      ap (λ xs. has_kind xs k) (sym (append_assoc numbers classes ks)) ∙ kinds_left (numbers ++ classes) ks k h
  known_there k (inr h) = kinds_right numbers (classes ++ distinct same_kind arrays) k (kinds_right classes (distinct same_kind arrays) k h)

  numbered : (k : Kind) → Comes (distinct same_kind arrays) k → IfSome (component_of (Some k)) (λ l. is_some (type_number (resolved cs) l) ≡ true)
  numbered (OfClass c) h = tt
  numbered (OfNumbers a) h = tt
  numbered (OfReferences k) h = any_index (same_kind k) (types_of cs) (known_there k h)

  pub component : (t : ℕ) (k : Kind) → slice_get (types_of cs) t ≡ Some k → IfSome (component_of (Some k)) (λ l. is_some (type_number (resolved cs) l) ≡ true)
  component t k h = numbered k (all_at (Comes (distinct same_kind arrays)) (types_of cs) t k types_all h)

pub components : ComponentsAreNumbered
components cs t k h = component cs t k h
