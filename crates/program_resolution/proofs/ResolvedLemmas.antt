-- What it means that nothing refuses the files: their classes, behind the core classes and before the one that is run, are resolved.
use Rattle.std.proofs.Common.{◌≡◌, ℕ, zero, suc, ◌+◌, ◌-◌, ◌<◌, ◌≤◌, Bool, true, false, not, ◌&&◌, ◌==◌, ◌⊎◌, inl, inr, List, [], ◌∷◌, ◌++◌, map, length, Option, Some, None, refl, sym, ap, ap₂, ◌∙◌, subst, arith, length-append}
use Rattle.std.specs.Prelude.{IsTrue, if◌then◌else◌, nat_lt, slice_get, option_map, codes, find}
use Rattle.std.specs.Option.{option_to_list}
use Rattle.std.specs.List.{flat_map, enumerate_from, list_any, range_with_len, AllByRecursion}
use Rattle.std.proofs.lemmas.Bool.{eqb-true}
use Rattle.std.proofs.lemmas.List.{length-map}
use Rattle.std.proofs.lemmas.Option.{slice_get_within}
use Rattle.core_classes.proofs.Lists.{all_join}
use Rattle.lists.specs.Lists.{onto, index_of}
use Rattle.lists.proofs.Lemmas.{index_there}
use Rattle.class_pool.specs.declared.class.ClassFile.{ClassFile}
use Rattle.class_rules.specs.Grammar.{IsClass}
use Rattle.class_making.specs.Plans.{items_of, method_in, class_of}
use Rattle.core_classes.specs.Core as plans
use Rattle.core_classes.specs.Core.{core, boot_plan, boot}
use Rattle.core_classes.specs.Laws.{class_name, IsCalled, CoreClassesAreClasses, CoreHasBytes, CoreIsNamed, BootIsAClass, BootSaysPlan}
use Rattle.class_lookup.specs.Parts.{same_text, name_of, signature_of, same_signature, is_static}
use Rattle.class_lookup.specs.Hierarchy.{find_class, is_on_a_cycle, IsAcyclic}
use Rattle.program_tables.specs.declared.refusal.Why.{Why}
use Rattle.program_tables.specs.declared.refusal.Item.{Item}
use Rattle.program_tables.specs.declared.refusal.Site.{Site}
use Rattle.program_tables.specs.Core.{boot_name, is_boot}
use Rattle.program_tables.specs.Placed.{duplicate_by, duplicate_of, supertype_entries, lacks_superclass, has_bad_superclass, has_bad_superinterface, is_bad_interface, has_overridden_final, is_badly_placed}
use Rattle.program_tables.specs.Unresolved.{why_class, why, mentions_in, entry_of}
use Rattle.program_tables.specs.Unsupported.{unsupported_in}
use Rattle.program_tables.specs.Resolving.{HasBytes, HasCore, IsLinkable, IsResolved}
use Rattle.unresolved_names.specs.Causes.{signature_seen, refused_entry, refused_class, refused_mention, unresolved_supertypes, unresolved_mentions}
use Rattle.core_classes.specs.Linkage.{CoreIsLinkable, CoreStandsFirst, CoreIsSupported, DeclaresStatic, initializer, main_signature, BootIsLinkable, BootIsSupported, BootIsOnNoCycle}
use Rattle.program_resolution.specs.declared.refusal.ProgramRefusal.TheVariants.{Duplicate, Unsupported, Unresolved, BadHierarchy}
use Rattle.program_resolution.specs.Linked.{number_of}
use Rattle.program_resolution.specs.Refusals.{Names, Support, Supertypes, Places, Mentions, causes, causes_in}
use Rattle.program_resolution.proofs.FileLemmas.{all_at}
use Rattle.program_resolution.proofs.AnyLemmas.{second_of}
use Rattle.program_resolution.proofs.NameLemmas.{is_called, none_is_nameless, same_self, declares_static}
use Rattle.program_resolution.proofs.OrderedLemmas.{IsInitialized}

-- ---- lists

pub left_none : {X : Type 0} (xs ys : List X) → xs ++ ys ≡ [] → xs ≡ []
left_none [] ys h = refl
left_none (x ∷ xs) ys h = absurd (let f : (x ∷ (xs ++ ys)) ≡ [] = h in cc)

pub right_none : {X : Type 0} (xs ys : List X) → xs ++ ys ≡ [] → ys ≡ []
right_none [] ys h = h
right_none (x ∷ xs) ys h = absurd (let f : (x ∷ (xs ++ ys)) ≡ [] = h in cc)

-- nothing of each file
pub nothing_from : {X Y : Type 0} (f : ℕ × X → List Y) (n : ℕ) (xs : List X) → flat_map f (enumerate_from n xs) ≡ [] → (i : ℕ) (x : X) → slice_get xs i ≡ Some x → f (n + i, x) ≡ []
nothing_from f n [] h i x at = absurd (let e : None ≡ Some x = at in cc)
nothing_from f n (y ∷ ys) h zero x at =
    let e : y ≡ x = cc in
    let z : n + 0 ≡ n = omega arith in
    ap (λ (k : ℕ). f (k, x)) z ∙ (ap (λ (w : _). f (n, w)) (sym e) ∙ left_none (f (n, y)) (flat_map f (enumerate_from (n + 1) ys)) h)
nothing_from f n (y ∷ ys) h (suc i) x at =
    let z : n + suc i ≡ n + 1 + i = omega arith in
    ap (λ (k : ℕ). f (k, x)) z ∙ nothing_from f (n + 1) ys (right_none (f (n, y)) (flat_map f (enumerate_from (n + 1) ys)) h) i x at

nothing_each : {X Y : Type 0} (f : ℕ × X → List Y) (xs : List X) → flat_map f (enumerate_from 0 xs) ≡ [] → (i : ℕ) (x : X) → slice_get xs i ≡ Some x → f (i, x) ≡ []
nothing_each f xs h i x at = let z : i ≡ 0 + i = omega arith in ap (λ (k : ℕ). f (k, x)) z ∙ nothing_from f 0 xs h i x at

nothing_mapped : {X Y : Type 0} (f : X → Y) (xs : List X) → map f xs ≡ [] → xs ≡ []
nothing_mapped f [] h = refl
nothing_mapped f (x ∷ xs) h = absurd (let e : (f x ∷ map f xs) ≡ [] = h in cc)

no_option : {X : Type 0} (o : Option X) → option_to_list o ≡ [] → o ≡ None
no_option None h = refl
no_option (Some x) h = absurd (let e : (x ∷ []) ≡ [] = h in cc)

no_mapped_option : {X Y : Type 0} (f : X → Y) (o : Option X) → option_to_list (option_map f o) ≡ [] → o ≡ None
no_mapped_option f None h = refl
no_mapped_option f (Some x) h = absurd (let e : (f x ∷ []) ≡ [] = h in cc)

none_refused : {X : Type 0} (f : X → List (ℕ × Why)) (w : X → Option Why) → ((x : X) → f x ≡ [] → w x ≡ None) → (xs : List X) → flat_map f xs ≡ [] → AllByRecursion (λ x. w x ≡ None) xs
none_refused f w g [] h = tt
none_refused f w g (x ∷ xs) h = (g x (left_none (f x) (flat_map f xs) h), none_refused f w g xs (right_none (f x) (flat_map f xs) h))

no_cause : {X : Type 0} (b : Bool) (x : X) → (if b then x ∷ [] else []) ≡ [] → IsTrue (not b)
no_cause true x h = absurd (let e : (x ∷ []) ≡ [] = h in cc)
no_cause false x h = refl

pub get_behind : {X : Type 0} (xs ys : List X) (i : ℕ) → slice_get (xs ++ ys) (length xs + i) ≡ slice_get ys i
get_behind [] ys i = let e : 0 + i ≡ i = omega arith in ap (slice_get ys) e
get_behind (x ∷ xs) ys i = let e : suc (length xs) + i ≡ suc (length xs + i) = omega arith in ap (slice_get (x ∷ (xs ++ ys))) e ∙ get_behind xs ys i

pub get_in_front : {X : Type 0} (xs ys : List X) (i : ℕ) (x : X) → slice_get xs i ≡ Some x → slice_get (xs ++ ys) i ≡ Some x
get_in_front [] ys i x at = absurd (let e : None ≡ Some x = at in cc)
get_in_front (y ∷ xs) ys zero x at = at
get_in_front (y ∷ xs) ys (suc i) x at = get_in_front xs ys i x at

-- where an item of two lists stands
from_two : {X : Type 0} (xs ys : List X) (i : ℕ) (x : X) → slice_get (xs ++ ys) i ≡ Some x → (slice_get xs i ≡ Some x) ⊎ ((j : ℕ) × (i ≡ length xs + j) × (slice_get ys j ≡ Some x))
from_two [] ys i x at = let e : i ≡ 0 + i = omega arith in inr (i, e, at)
from_two (y ∷ xs) ys zero x at = inl at
from_two (y ∷ xs) ys (suc i) x at = elim (from_two xs ys i x at) [
  | inl h ↦ inl h
  | inr (j, e, h) ↦ (let f : suc i ≡ suc (length xs) + j = omega (arith, e) in inr (j, f, h))
]

all_of : {X : Type 0} (P : X → Type 0) (xs : List X) → ((i : ℕ) (x : X) → slice_get xs i ≡ Some x → P x) → AllByRecursion P xs
all_of P [] h = tt
all_of P (x ∷ xs) h = (h 0 x refl, all_of P xs (λ i y at. h (suc i) y at))

not_found : {X : Type 0} (t : X → Bool) (xs : List X) → ((i : ℕ) (x : X) → slice_get xs i ≡ Some x → t x ≡ false) → index_of t xs ≡ None
not_found t [] h = refl
not_found t (x ∷ xs) h =
    ap (λ (b : Bool). let o : Option ℕ = if b then Some 0 else onto (index_of t xs) (λ i. Some (suc i)) in o) (h 0 x refl)
    ∙ ap (λ (o : Option ℕ). onto o (λ i. Some (suc i))) (not_found t xs (λ i y at. h (suc i) y at))

no_index_case : (b : Bool) (o p : Option ℕ) → (if b then Some 0 else onto o (λ k. Some (suc k))) ≡ None → (o ≡ None → p ≡ None) → (if b then Some 0 else onto p (λ k. Some (suc k))) ≡ None
no_index_case true o p h later = absurd (let f : Some 0 ≡ None = h in cc)
no_index_case false None p h later = ap (λ (q : Option ℕ). onto q (λ k. Some (suc k))) (later refl)
no_index_case false (Some n) p h later = absurd (let f : Some (suc n) ≡ None = h in cc)

not_found_in_both : {X : Type 0} (t : X → Bool) (xs ys : List X) → index_of t xs ≡ None → index_of t ys ≡ None → index_of t (xs ++ ys) ≡ None
not_found_in_both t [] ys h i = i
not_found_in_both t (x ∷ xs) ys h i = no_index_case (t x) (index_of t xs) (index_of t (xs ++ ys)) h (λ e. not_found_in_both t xs ys e i)

index_mapped : {X Y : Type 0} (t : Y → Bool) (f : X → Y) (xs : List X) → index_of (λ x. t (f x)) xs ≡ index_of t (map f xs)
index_mapped t f [] = refl
index_mapped t f (x ∷ xs) = ap (λ (o : Option ℕ). let p : Option ℕ = if t (f x) then Some 0 else onto o (λ k. Some (suc k)) in p) (index_mapped t f xs)

-- ---- a class whose name isn't taken

true_case : (full : List ClassFile) (c i : ℕ) (k : ClassFile) (b d : Bool) → (c + 1 == length full) ≡ d → c + 1 < length full → is_boot k ≡ true
    → (if b then Some i else if is_boot k && not (c + 1 == length full) then Some (length full - 1) else None) ≡ None → ⊥
true_case full c i k true d e lt is h = (let f : Some i ≡ None = h in absurd (cc))
true_case full c i k false true e lt is h = (let same = eqb-true (c + 1) (length full) e in omega (arith, lt, same))
true_case full c i k false false e lt is h =
    let some : Some (length full - 1) ≡ None = sym (ap₂ (λ (p q : Bool). let o : Option ℕ = if p && not q then Some (length full - 1) else None in o) is e) ∙ h in
    absurd (cc)

not_boot_case : (full : List ClassFile) (c : ℕ) (k : ClassFile) (b : Bool) → is_boot k ≡ b → slice_get full c ≡ Some k → duplicate_of full c ≡ None → c + 1 < length full → b ≡ false
not_boot_case full c k false is at free lt = refl
not_boot_case full c k true is at free lt =
    let there = index_there (λ x. same_text (name_of x) (name_of k)) full c k at (same_self (name_of k)) in
    let by : duplicate_by full c k (Some there.0) ≡ None =
    sym (ap (λ (o : Option ClassFile). onto o (λ x. duplicate_by full c x (find_class full (name_of x)))) at ∙ ap (duplicate_by full c k) there.1) ∙ free in
    absurd (true_case full c there.0 k (nat_lt there.0 c) (c + 1 == length full) refl lt is by)

not_boot : (full : List ClassFile) (c : ℕ) (k : ClassFile) → slice_get full c ≡ Some k → duplicate_of full c ≡ None → c + 1 < length full → is_boot k ≡ false
not_boot full c k at free lt = not_boot_case full c k (is_boot k) refl at free lt

-- ---- the core classes

pub core_long : CoreIsNamed → length core ≡ 23
core_long named = sym (length-map core class_name) ∙ ap length named

core_is_not_boot : CoreIsNamed → find_class core boot_name ≡ None
core_is_not_boot named = index_mapped (λ t. same_text t boot_name) class_name core ∙ ap (index_of (λ t. same_text t boot_name)) named

-- ---- the laws that are used

pub record Laws : Type 0 where
  pub core_linkable : CoreIsLinkable
  pub core_first : CoreStandsFirst
  pub core_supported : CoreIsSupported
  pub core_grammar : CoreClassesAreClasses
  pub core_bytes : CoreHasBytes
  pub core_named : CoreIsNamed
  pub boot_linkable : BootIsLinkable
  pub boot_supported : BootIsSupported
  pub boot_grammar : BootIsAClass
  pub boot_says : BootSaysPlan
  pub boot_off_cycle : BootIsOnNoCycle

-- ---- the classes of a program

off_cycle : (cs : List ClassFile) (c : ℕ) → is_badly_placed cs c ≡ false → is_on_a_cycle cs c ≡ false
off_cycle cs c h = second_of (lacks_superclass cs c) (is_on_a_cycle cs c) (has_bad_superclass cs c) (has_bad_superinterface cs c) (is_bad_interface cs c) (has_overridden_final cs c) h

none_in_range : (p : ℕ → Bool) (s n : ℕ) → ((c : ℕ) → c < s + n → p c ≡ false) → find p (range_with_len s n) ≡ None
none_in_range p s zero h = refl
none_in_range p s (suc n) h =
    ap (λ (b : Bool). let o : Option ℕ = if b then Some s else find p (range_with_len (s + 1) n) in o) (h s (omega arith)) ∙ none_in_range p (s + 1) n (λ c lt. h c (omega arith))

pub item_there : {X : Type 0} (xs : List X) (i : ℕ) → i < length xs → (x : X) × (slice_get xs i ≡ Some x)
item_there [] i lt = absurd (omega arith)
item_there (x ∷ xs) zero lt = (x, refl)
item_there (x ∷ xs) (suc i) lt = item_there xs i (omega arith)

said : (a b c d : List ℕ) → ◌≡◌ {A = List (List ℕ × List ℕ)} ((a, b) ∷ []) ((c, d) ∷ []) → signature_seen a b ≡ signature_seen c d
said a b c d h =
    let p : ◌≡◌ {A = List ℕ × List ℕ} (a, b) (c, d) = cc in
    ap₂ signature_seen (ap (λ (x : List ℕ × List ℕ). x.0) p) (ap (λ (x : List ℕ × List ℕ). x.1) p)

not_true : (b : Bool) → IsTrue (not b) → b ≡ false
not_true true h = absurd (let f : false ≡ true = h in cc)
not_true false h = refl

module _ (laws : Laws) (ks : List ClassFile) (grammar : AllByRecursion IsClass ks) (calls : List (List ℕ)) (main : List ℕ) (count : length calls ≤ 10000) where
  abbrev last : ClassFile
  last = boot calls main

  abbrev full : List ClassFile
  full = core ++ (ks ++ boot calls main ∷ [])

  long : length full ≡ 23 + length ks + 1
  long = let e = core_long laws.core_named in omega (arith, e, length-append core (ks ++ last ∷ []), length-append ks (last ∷ []))

  below_last : length (core ++ ks) ≡ 23 + length ks
  below_last = let e = core_long laws.core_named in omega (arith, e, length-append core ks)

  file_there : (i : ℕ) (k : ClassFile) → slice_get ks i ≡ Some k → slice_get full (number_of i) ≡ Some k
  file_there i k at =
      ap (λ (n : ℕ). slice_get full (n + i)) (sym (core_long laws.core_named)) ∙ (get_behind core (ks ++ last ∷ []) i ∙ get_in_front ks (last ∷ []) i k at)

  file_is_not_last : (i : ℕ) (k : ClassFile) → slice_get ks i ≡ Some k → number_of i + 1 < length full
  file_is_not_last i k at = let lt = slice_get_within ks i k at in let e = long in omega (arith, lt, e)

  last_is_boot : name_of last ≡ boot_name
  unfolding boot boot_plan
  last_is_boot = (laws.boot_says calls main count).name

  all_named : find_class (ks ++ last ∷ []) [] ≡ None
  all_named =
      not_found_in_both (λ (x : ClassFile). same_text (name_of x) []) ks (last ∷ []) (none_is_nameless ks grammar)
      (ap (λ (t : List ℕ). let o : Option ℕ = if same_text t [] then Some 0 else None in o) last_is_boot)

  core_links : (c : ℕ) (k : ClassFile) → slice_get core c ≡ Some k → IsLinkable full c k
  core_links c k at = laws.core_linkable (ks ++ last ∷ []) all_named c k at

  -- where each class is
  data Stands (c : ℕ) (k : ClassFile) : Type 0 where
    in_core : slice_get core c ≡ Some k → Stands c k
    of_file : (i : ℕ) → c ≡ number_of i → slice_get ks i ≡ Some k → Stands c k
    at_end : c ≡ length (core ++ ks) → last ≡ k → Stands c k

  one_alone : (j : ℕ) (k : ClassFile) → slice_get (last ∷ []) j ≡ Some k → (j ≡ 0) × (last ≡ k)
  one_alone zero k at = (refl, (let e : last ≡ k = cc in e))
  one_alone (suc j) k at = absurd (let e : None ≡ Some k = at in cc)

  stands : (c : ℕ) (k : ClassFile) → slice_get full c ≡ Some k → Stands c k
  stands c k at = elim (from_two core (ks ++ last ∷ []) c k at) [
    | inl h ↦ in_core h
    | inr (j, e, h) ↦ elim (from_two ks (last ∷ []) j k h) [
      | inl g ↦ (let n = core_long laws.core_named in let f : c ≡ number_of j = omega (arith, e, n) in of_file j f g)
      | inr (l, d, g) ↦ (
          let one = one_alone l k g in
          let z = one.0 in
          let n = core_long laws.core_named in
          let b = below_last in
          let f : c ≡ length (core ++ ks) = omega (arith, e, d, z, n, b) in
          at_end f one.1)
    ]
  ]

  -- ---- their names

  module _ (free : causes_in full Names ks ≡ []) where
    name_is_free : (i : ℕ) (k : ClassFile) → slice_get ks i ≡ Some k → duplicate_of full (number_of i) ≡ None
    name_is_free i k at = no_mapped_option (λ (d : ℕ). Duplicate i d) (duplicate_of full (number_of i)) (nothing_each (λ (e : ℕ × ClassFile). causes full Names e.0 e.1) ks free i k at)

    pub no_other_boot : find_class (core ++ ks) boot_name ≡ None
    no_other_boot =
        not_found_in_both (λ (x : ClassFile). same_text (name_of x) boot_name) core ks (core_is_not_boot laws.core_named)
        (not_found (λ (x : ClassFile). same_text (name_of x) boot_name) ks (λ i k at. not_boot full (number_of i) k (file_there i k at) (name_is_free i k at) (file_is_not_last i k at)))

    -- ---- the hierarchy

    pub core_off_cycle : (c : ℕ) (k : ClassFile) → slice_get core c ≡ Some k → is_on_a_cycle full c ≡ false
    core_off_cycle c k at = off_cycle full c (not_true (is_badly_placed full c) (core_links c k at).placed)

    file_stands : causes_in full Places ks ≡ [] → (i : ℕ) (k : ClassFile) → slice_get ks i ≡ Some k → IsTrue (not (is_badly_placed full (number_of i)))
    file_stands well i k at = no_cause (is_badly_placed full (number_of i)) (BadHierarchy i) (nothing_each (λ (e : ℕ × ClassFile). causes full Places e.0 e.1) ks well i k at)

    off_by : causes_in full Places ks ≡ [] → (c : ℕ) (k : ClassFile) → Stands c k → is_on_a_cycle full c ≡ false
    off_by well c k (in_core at) = core_off_cycle c k at
    off_by well c k (of_file i e at) = ap (is_on_a_cycle full) e ∙ off_cycle full (number_of i) (not_true (is_badly_placed full (number_of i)) (file_stands well i k at))
    off_by well c k (at_end e f) = ap (is_on_a_cycle full) e ∙ laws.boot_off_cycle ks calls main count no_other_boot (none_is_nameless ks grammar)

    pub none_on_cycle : causes_in full Places ks ≡ [] → find (is_on_a_cycle full) (range_with_len 0 (length full)) ≡ None
    none_on_cycle well =
        none_in_range (is_on_a_cycle full) 0 (length full)
        (λ c lt. let x = item_there full c (omega arith) in off_by well c x.0 (stands c x.0 x.1))

    -- ---- all that they name

    file_links : causes_in full Supertypes ks ≡ [] → causes_in full Places ks ≡ [] → causes_in full Mentions ks ≡ [] → (i : ℕ) (k : ClassFile) → slice_get ks i ≡ Some k → IsLinkable full (number_of i) k
    unfolding unresolved_supertypes unresolved_mentions refused_class refused_mention
    file_links above well named i k at =
        let c = number_of i in
        record {
          name = name_is_free i k at;
          supertypes =
              none_refused (λ (index : ℕ). refused_entry index (why_class full c k index)) (why_class full c k) (λ index e. no_mapped_option (λ (w : Why). (index, w)) (why_class full c k index) e) (supertype_entries k)
              (nothing_mapped (λ (u : ℕ × Why). Unresolved i u.0 u.1) (unresolved_supertypes full c k) (nothing_each (λ (e : ℕ × ClassFile). causes full Supertypes e.0 e.1) ks above i k at));
          placed = file_stands well i k at;
          mentions =
              none_refused (refused_mention full c k) (why full c k) (λ m e. no_mapped_option (λ (w : Why). (entry_of k m, w)) (why full c k m) e) (mentions_in k)
              (nothing_mapped (λ (u : ℕ × Why). Unresolved i u.0 u.1) (unresolved_mentions full c k) (nothing_each (λ (e : ℕ × ClassFile). causes full Mentions e.0 e.1) ks named i k at));
        }

    file_is_supported : causes_in full Support ks ≡ [] → (i : ℕ) (k : ClassFile) → slice_get ks i ≡ Some k → unsupported_in k ≡ []
    file_is_supported h i k at = nothing_mapped (λ (u : Site × Item). Unsupported i u.0 u.1) (unsupported_in k) (nothing_each (λ (e : ℕ × ClassFile). causes full Support e.0 e.1) ks h i k at)

    -- a class of a core class or of a file that has such a method declares it in the program
    free_before : (c : ℕ) (k : ClassFile) → slice_get (core ++ ks) c ≡ Some k → (slice_get full c ≡ Some k) × (duplicate_of full c ≡ None) × IsClass k
    free_before c k at = elim (from_two core ks c k at) [
      | inl h ↦ (get_in_front core (ks ++ last ∷ []) c k h, (core_links c k h).name, all_at IsClass core c k laws.core_grammar h)
      | inr (j, e, h) ↦ (
          let n = core_long laws.core_named in
          let f : c ≡ number_of j = omega (arith, e, n) in
          (ap (slice_get full) f ∙ file_there j k h, ap (duplicate_of full) f ∙ name_is_free j k h, all_at IsClass ks j k grammar h))
    ]

    called_one : (name : List ℕ) → IsInitialized (core ++ ks) name → DeclaresStatic full name initializer
    called_one name h =
        let b = free_before h.class h.file h.there in
        subst (λ (n : List ℕ). DeclaresStatic full n initializer) h.is (declares_static full h.class h.file initializer b.0 b.2 b.1 h.has)

    pub called : (names : List (List ℕ)) → AllByRecursion (IsInitialized (core ++ ks)) names → AllByRecursion (λ name. DeclaresStatic full name initializer) names
    called [] h = tt
    called (name ∷ names) h = (called_one name h.0, called names h.1)

    pub are_called : (names : List (List ℕ)) → AllByRecursion (IsInitialized (core ++ ks)) names → AllByRecursion IsCalled names
    are_called [] h = tt
    are_called (name ∷ names) h = (subst IsCalled h.0.is (is_called h.0.file (free_before h.0.class h.0.file h.0.there).2), are_called names h.1)

    -- ---- all of it

    pub record Unrefused : Type 0 where
      pub bytes : AllByRecursion (λ k. AllByRecursion HasBytes k.methods) ks
      pub support : causes_in full Support ks ≡ []
      pub supertypes : causes_in full Supertypes ks ≡ []
      pub places : causes_in full Places ks ≡ []
      pub mentions : causes_in full Mentions ks ≡ []
      pub acyclic : IsAcyclic full
      pub initialized : AllByRecursion (IsInitialized (core ++ ks)) calls
      -- main is there
      pub main_place : ℕ
      pub main_class : ClassFile
      pub main_there : slice_get ks main_place ≡ Some main_class
      pub main_name : name_of main_class ≡ main
      pub main_declared : list_any (λ m. is_static m && same_signature (signature_of main_class m) main_signature) main_class.methods ≡ true

    module _ (u : Unrefused) where
      main_found : DeclaresStatic full main main_signature
      main_found =
          subst (λ (n : List ℕ). DeclaresStatic full n main_signature) u.main_name
          (declares_static full (number_of u.main_place) u.main_class main_signature (file_there u.main_place u.main_class u.main_there) (all_at IsClass ks u.main_place u.main_class grammar u.main_there)
          (name_is_free u.main_place u.main_class u.main_there) u.main_declared)

      main_called : IsCalled main
      main_called = subst IsCalled u.main_name (is_called u.main_class (all_at IsClass ks u.main_place u.main_class grammar u.main_there))

      last_is_class : IsClass last × AllByRecursion HasBytes last.methods
      last_is_class = laws.boot_grammar calls main count (are_called calls u.initialized) main_called

      last_links : IsLinkable full (length (core ++ ks)) last
      last_links = laws.boot_linkable ks calls main count no_other_boot (none_is_nameless ks grammar) (called calls u.initialized) main_found

      links : (c : ℕ) (k : ClassFile) → Stands c k → IsLinkable full c k
      links c k (in_core at) = core_links c k at
      links c k (of_file i e at) = subst (λ (n : ℕ). IsLinkable full n k) (sym e) (file_links u.supertypes u.places u.mentions i k at)
      links c k (at_end e f) = subst (λ (n : ℕ). IsLinkable full n k) (sym e) (subst (IsLinkable full (length (core ++ ks))) f last_links)

      has_core : HasCore full
      unfolding boot class_of boot_plan plans.boot_method
      has_core =
          let s = laws.boot_says calls main count in
          laws.core_first ks last (method_in (items_of (boot_plan calls main)) (plans.boot_method calls main)) all_named refl refl (said _ _ (codes "boot") (codes "()V") s.methods)

      pub are_resolved : IsResolved full
      are_resolved = record {
        core = has_core;
        grammar = all_join IsClass core (ks ++ last ∷ []) laws.core_grammar (all_join IsClass ks (last ∷ []) grammar (last_is_class.0, tt));
        bytes =
            all_join (λ k. AllByRecursion HasBytes k.methods) core (ks ++ last ∷ []) laws.core_bytes (all_join (λ k. AllByRecursion HasBytes k.methods) ks (last ∷ []) u.bytes (last_is_class.1, tt));
        supported =
            all_join (λ k. unsupported_in k ≡ []) core (ks ++ last ∷ []) laws.core_supported
            (all_join (λ k. unsupported_in k ≡ []) ks (last ∷ []) (all_of (λ k. unsupported_in k ≡ []) ks (file_is_supported u.support)) (laws.boot_supported calls main count, tt));
        linkable = λ c k at. links c k (stands c k at);
        acyclic = u.acyclic;
      }
