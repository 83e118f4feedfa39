-- No method of an interface is taken without a selection, so the first word of its entry is 0.
use Rattle.std.proofs.Common.{◌≡◌, inl, inr, ℕ, ◌+◌, ◌-◌, Bool, true, false, not, ◌&&◌, ◌||◌, eqb, List, [], ◌∷◌, Option, Some, None, length, refl, sym, ap, ◌∙◌, subst, arith}
use Rattle.std.specs.Prelude.{slice_get, is_some, nat_lt, if◌then◌else◌}
use Rattle.std.specs.Option.{option_map_or}
use Rattle.std.specs.List.{find, AllByRecursion}
use Rattle.std.proofs.lemmas.Bool.{false≢true, both_ways, and_parts, or_cases, eqb-true, cond-false, not-true, not_from_false, cases_Bool}
use Rattle.class_pool.specs.declared.entry.Entry.TheVariants as entries
use Rattle.class_pool.specs.Grammar.{entry_at}
use Rattle.class_pool.specs.declared.class.ClassFile.{ClassFile}
use Rattle.class_rules.specs.Rules.{IsRightMethod}
use Rattle.class_rules.specs.Found.{MethodsHaveCode}
use Rattle.class_rules.specs.Grammar.{IsClass}
use Rattle.core_classes.specs.Core.{boot}
use Rattle.lists.specs.Lists.{onto}
use Rattle.lists.proofs.Lemmas.{none≢some, some_same, index_there}
use Rattle.image_facts.specs.Places.{Places}
use Rattle.class_lookup.specs.Parts.{Signature, signature_of, same_text, name_of, is_interface_class, is_static, is_abstract, has_code, is_init, is_clinit}
use Rattle.class_lookup.specs.Hierarchy.{is_interface, find_class}
use Rattle.class_lookup.specs.Lookup.{method_at}
use Rattle.class_lookup.specs.Selection.{is_method_with, is_instance, special}
use Rattle.class_lookup.specs.Laws.{IsMethod}
use Rattle.program_tables.specs.Core.{is_boot}
use Rattle.program_tables.specs.Instructions.{Placed, Method as MethodNamed, signature_in, takes_interface_method, named_in, index_of_entry}
use Rattle.program_tables.specs.Operands.{class_named, method_named, operand_in}
use Rattle.program_tables.specs.Placed.{duplicate_by}
use Rattle.program_tables.specs.Unresolved.{is_free, why_method, why_named}
use Rattle.program_tables.specs.Unsupported.{unsupported_in}
use Rattle.program_tables.specs.Resolving.{IsResolved}
use Rattle.program_laws.proofs.ClassLaws.{ClassLaws}
use Rattle.program_laws.proofs.Facts.{all_at, map_or_at, set_of}
use Rattle.program_laws.proofs.Hierarchies.{above_interface}
use Rattle.program_laws.proofs.Selections.{code_or_abstract, interface_abstract, no_interface_code}
use Rattle.program_laws.proofs.Numbering.{at_place}
use Rattle.program_laws.proofs.Calls.{IsNamed, method_is_named, own_init}
use Rattle.image_words.specs.Pools.{no_words, is_fixed_call, operand_place, taken_place, interface_word, instructions_in, names_entry, naming, words_of_entry}
use Rattle.image_laws.specs.InterfaceEntries.{HasBoot, IsInterfaceEntry, BootHasNoInterfaceEntry, InterfaceEntriesTakeNothing, InterfaceEntriesBeginWithZero, InterfaceWordsBeginWithZero}
use Rattle.image_laws.proofs.Calls.{not_of_object}
use Rattle.image_laws.proofs.Instructions.{IsLinked, all_linked, kept_all}
use Rattle.image_laws.proofs.Means.{when_map, named_at}

-- ---- what is found

none_found : (test : Placed → Bool) (P : Placed → Type 0) → ((y : Placed) → P y → test y ≡ false) → (xs : List Placed) → AllByRecursion P xs → find test xs ≡ None
none_found test P f [] a = refl
none_found test P f (x ∷ xs) a = cond-false (test x) (Some x) (find test xs) (f x a.0) ∙ none_found test P f xs a.1

some_of : {A : Type 0} (o : Option A) → is_some o ≡ true → (x : A) × (o ≡ Some x)
some_of None h = absurd (false≢true h)
some_of (Some x) h = (x, refl)

-- ---- a method named as one of an interface is one

module _ (laws : ClassLaws) (law : MethodsHaveCode) (cs : List ClassFile) (r : IsResolved cs) (c : ℕ) (k : ClassFile) (owner : ℕ) (s : Signature) where
  of_interface : (op : ℕ) (n : IsNamed cs c k true op owner s) → is_interface cs n.place.0 ≡ true
  of_interface op n =
      let through : is_interface cs n.named ≡ true = sym (map_or_at (is_interface cs) (class_named cs k owner) n.named n.class_is) ∙ n.rightly in
      elim (cases_Bool (is_init s)) [
        | inl i ↦ ap (is_interface cs) (own_init laws cs r n.named s n.place i n.found_as) ∙ through
        | inr i ↦ elim (above_interface laws.methods.order cs r n.named n.place.0 through n.found.above) [
          | inl e ↦ e
          | inr o ↦ absurd (not_of_object cs r n.named s n.place n.found (not_from_false (is_init s) i) o)
        ]
      ]

  a_method : (op : ℕ) (n : IsNamed cs c k true op owner s) → IsMethod cs n.place s
  a_method op n = record { owner = n.found.owner; class = n.found.class; member = n.found.member; there = n.found.there; signature = n.found.signature }

  -- an instance method of an interface is abstract, and invokespecial takes none that is
  no_special : IsNamed cs c k true 183 owner s → ⊥
  no_special n =
      let x = n.found.member in
      let at = at_place cs n.place n.found.owner x n.found.class n.found.there in
      let instance : is_instance cs n.place ≡ true = map_or_at (λ m. not (is_static m)) (method_at cs n.place) x at ∙ n.static in
      let abstract = interface_abstract law cs r n.place s (a_method 183 n) (of_interface 183 n) instance in
      let p = and_parts (is_method_with (λ m. not (is_abstract m)) cs n.place) (option_map_or (λ y. option_map_or (is_method_with (λ m. not (is_abstract m)) cs) (special cs c y n.place) false) (class_named cs k owner) false) n.special in
      both_ways (is_abstract x) (not-true (is_abstract x) (sym (map_or_at (λ m. not (is_abstract m)) (method_at cs n.place) x at) ∙ p.0)) (sym (map_or_at is_abstract (method_at cs n.place) x at) ∙ abstract)

-- ---- a static method of an interface is its initialization method

only_initializers : (a b c d : Bool) → (a && b && not (c && d)) ≡ false → a ≡ true → b ≡ true → c ≡ true
only_initializers true true true d h p q = refl
only_initializers true true false d h p q = absurd (false≢true (sym h))
only_initializers true false c d h p q = absurd (false≢true q)
only_initializers false b c d h p q = absurd (false≢true p)

module _ (laws : ClassLaws) (law : MethodsHaveCode) (cs : List ClassFile) (r : IsResolved cs) (c : ℕ) (k : ClassFile) (owner : ℕ) (s : Signature) where
  static_initializes : IsNamed cs c k true 184 owner s → is_clinit s ≡ true
  static_initializes n =
      let f = n.found in
      let x = f.member in
      let static : is_static x ≡ true = n.static in
      let at = at_place cs n.place f.owner x f.class f.there in
      let right = all_at (IsRightMethod f.owner) f.owner.methods n.place.1 x (all_at IsClass cs n.place.0 f.owner r.grammar f.class).rules.methods f.there in
      let none = no_interface_code f.owner n.place.1 x (all_at (λ k. unsupported_in k ≡ []) cs n.place.0 f.owner r.supported f.class) f.there in
      let interface = sym (map_or_at is_interface_class (slice_get cs n.place.0) f.owner f.class) ∙ of_interface laws law cs r c k owner s 184 n in
      elim (code_or_abstract law cs r n.place s (a_method laws law cs r c k owner s 184 n)) [
        | inr a ↦ absurd ((right.plain (set_of x.flags 0x0400 (sym (map_or_at is_abstract (method_at cs n.place) x at) ∙ a))).not_static (set_of x.flags 0x0008 static))
        | inl e ↦
            ap is_clinit (sym f.signature)
            ∙ only_initializers (is_interface_class f.owner) (has_code x) (is_clinit (signature_of f.owner x)) (is_static x) none interface (sym (map_or_at has_code (method_at cs n.place) x at) ∙ e)
      ]

  -- which only the class that is run first names
  static_is_free : IsNamed cs c k true 184 owner s → is_free cs c ≡ true
  static_is_free n =
      let p = and_parts (not (is_init s) || false) (not (is_clinit s) || is_free cs c) n.callable in
      elim (or_cases (not (is_clinit s)) (is_free cs c) p.1) [
        | inl e ↦ absurd (both_ways (is_clinit s) (not-true (is_clinit s) e) (static_initializes n))
        | inr e ↦ e
      ]

-- ---- the class that is run first is the last

last_case : (a b x : Bool) (d l : ℕ) → (if a then Some d else if b && not x then Some l else None) ≡ None → b ≡ true → x ≡ true
last_case true b x d l h e = absurd (none≢some d (sym h))
last_case false true true d l h e = refl
last_case false true false d l h e = absurd (none≢some l (sym h))
last_case false false x d l h e = absurd (false≢true e)

free_is_boot : ClassLaws → (cs : List ClassFile) → IsResolved cs → (b : HasBoot cs) → (c : ℕ) (k : ClassFile) → slice_get cs c ≡ Some k → is_free cs c ≡ true → k ≡ boot b.0 b.1
free_is_boot laws cs r b c k h free =
    let named : is_boot k ≡ true = sym (map_or_at is_boot (slice_get cs c) k h) ∙ free in
    let there = index_there (λ x. same_text (name_of x) (name_of k)) cs c k h ((laws.comparisons.texts (name_of k) (name_of k)).1 refl) in
    let none = sym (ap (λ o. onto o (λ x. duplicate_by cs c x (find_class cs (name_of x)))) h) ∙ (r.linkable c k h).name in
    let alone = sym (ap (duplicate_by cs c k) there.1) ∙ none in
    let last = eqb-true (c + 1) (length cs) (last_case (nat_lt there.0 c) (is_boot k) (eqb (c + 1) (length cs)) there.0 (length cs - 1) alone named) in
    let same : c ≡ length cs - 1 = omega (arith, last) in
    some_same k (boot b.0 b.1) (sym h ∙ (ap (slice_get cs) same ∙ b.2))

-- ---- no instruction of a class takes a method by such an entry

module _ (none : BootHasNoInterfaceEntry) (laws : ClassLaws) (law : MethodsHaveCode) (cs : List ClassFile) (r : IsResolved cs) (b : HasBoot cs) (c : ℕ) (k : ClassFile) (index owner member : ℕ) (at : IsInterfaceEntry cs c k index owner member) where
  not_free : is_free cs c ≡ true → ⊥
  not_free free =
      none b.0 b.1 index owner member (subst (λ (x : ClassFile). entry_at x.pool index ≡ Some (entries.InterfaceMethod owner member)) (free_is_boot laws cs r b c k at.class free) at.entry)

  not_fixed : (op : ℕ) (s : Signature) → IsNamed cs c k true op owner s → (eqb op 183 || eqb op 184) ≡ true → ⊥
  not_fixed op s n h =
      elim (or_cases (eqb op 183) (eqb op 184) h) [
        | inl e ↦ no_special laws law cs r c k owner s (subst (λ o. IsNamed cs c k true o owner s) (eqb-true op 183 e) n)
        | inr e ↦ not_free (static_is_free laws law cs r c k owner s (subst (λ o. IsNamed cs c k true o owner s) (eqb-true op 184 e) n))
      ]

  named_as : (y : Placed) → names_entry k index y ≡ true → (s : Signature) × (named_in k y.instr ≡ Some (MethodNamed true owner s))
  named_as y h =
      let parts = and_parts (eqb (index_of_entry y.instr) index) (is_some (named_in k y.instr)) h in
      let by = named_at k y.instr index (entries.InterfaceMethod owner member) (eqb-true (index_of_entry y.instr) index parts.0) at.entry in
      let named = some_of (named_in k y.instr) parts.1 in
      let w = when_map (takes_interface_method k.major y.instr.op) (MethodNamed true owner) (signature_in k.pool member) named.0 (sym by ∙ named.1) in
      (w.signature, named.1 ∙ ap Some (sym w.is))

  none_is_fixed : (y : Placed) → (names_entry k index y ≡ true) × IsLinked cs c k y → is_fixed_call y ≡ false
  none_is_fixed y h =
      let op = y.instr.op in
      let w = named_as y h.0 in
      let why : why_method cs c k true op owner w.0 ≡ None = ap (why_named cs c k h.1.method op) (sym w.1) ∙ h.1.resolved in
      let n = method_is_named laws cs r c k true op owner w.0 why in
      elim (cases_Bool (is_fixed_call y)) [
        | inl e ↦ absurd (not_fixed op w.0 n e)
        | inr e ↦ e
      ]

  none_taken : (pl : Places) → taken_place cs pl c k index ≡ 0
  unfolding naming
  none_taken pl =
      let all = kept_all (names_entry k index) (IsLinked cs c k) (instructions_in k) (all_linked cs r c k at.class) in
      ap (λ o. option_map_or (λ p. operand_place pl (operand_in cs c k p.instr)) o 0) (none_found is_fixed_call (λ y. (names_entry k index y ≡ true) × IsLinked cs c k y) none_is_fixed (naming k index) all)

-- ---- the laws

pub taken : BootHasNoInterfaceEntry → ClassLaws → MethodsHaveCode → InterfaceEntriesTakeNothing
taken none laws law cs r b pl c k index owner member at = none_taken none laws law cs r b c k index owner member at pl

pub words : InterfaceEntriesTakeNothing → InterfaceEntriesBeginWithZero
words law cs r b pl c k index owner member at =
    ap (words_of_entry cs pl c k index) at.entry ∙ ap (λ n. n ∷ interface_word cs (onto (signature_in k.pool member) (method_named cs k owner)) ∷ []) (law cs r b pl c k index owner member at)

words_case : (b : Bool) (xs : List ℕ) (second : ℕ) → xs ≡ 0 ∷ second ∷ [] → (n : ℕ) × ((if b then no_words else xs) ≡ 0 ∷ n ∷ [])
words_case true xs second h = (0, refl)
words_case false xs second h = (second, h)

pub entry_word : InterfaceEntriesBeginWithZero → InterfaceWordsBeginWithZero
entry_word law cs r b pl c k index owner member at =
    words_case (eqb (length (naming k index)) 0) (words_of_entry cs pl c k index (entry_at k.pool index)) (interface_word cs (onto (signature_in k.pool member) (method_named cs k owner))) (law cs r b pl c k index owner member at)
