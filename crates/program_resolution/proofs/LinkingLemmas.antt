-- The parts of resolving put together.
use Rattle.std.proofs.Common.{◌≡◌, ℕ, suc, ◌+◌, ◌<◌, ◌≤◌, Bool, true, false, not, ◌&&◌, inr, List, [], ◌∷◌, ◌++◌, length, Option, Some, None, Vec, Global, refl, sym, ap, ap₂, ◌∙◌, subst, arith, append_assoc, length-append}
use Rattle.std.specs.Prelude.{Result, Ok, Err, IfOk, IfErr, cond, if◌then◌else◌, nat_le, find, slice_get, is_some, IfSome}
use Rattle.std.specs.Option.{option_map_or}
use Rattle.std.specs.List.{flat_map, AllByRecursion}
use Rattle.core_classes.proofs.Lists.{all_along}
use Rattle.lists.specs.Lists.{first}
use Rattle.class_pool.specs.declared.class.Code.{Code}
use Rattle.class_pool.specs.declared.class.ClassFile.{ClassFile}
use Rattle.class_pool.specs.Found.{code_of}
use Rattle.class_pool.specs.Utf8.{utf8_bytes}
use Rattle.class_rules.specs.Found.{MethodsHaveCode}
use Rattle.class_rules.specs.Grammar.{IsClass}
use Rattle.class_rules.specs.Rules.{IsRightMethod, IsRightCode}
use Rattle.class_lookup.specs.Parts.{same_text, name_of}
use Rattle.class_lookup.specs.Hierarchy.{is_on_a_cycle, IsAcyclic}
use Rattle.program_tables.specs.Tables.{HasFileLimits}
use Rattle.program_tables.specs.Resolving.{HasBytes}
use Rattle.resolved_program.specs.Resolved.{AreResolved}
use Rattle.core_classes.specs.Core.{core, boot}
use Rattle.core_classes.specs.Laws.{CoreIsNamed}
use Rattle.program_resolution.specs.declared.refusal.ProgramRefusal.{ProgramRefusal}
use Rattle.program_resolution.specs.declared.refusal.ProgramRefusal.TheVariants as answers
use Rattle.program_resolution.specs.Linked.{most_files, main_class, main_name, declares_main, initialized, first_on_cycle, calls_of, linked_classes, files_in}
use Rattle.core_classes.specs.Linkage.{main_signature}
use Rattle.program_resolution.specs.Refusals.{Names, Support, Supertypes, Places, Mentions, passes, causes_in, too_many, without_main, refusals}
use Rattle.program_resolution.specs.Resolving.{AreClassesOf, IsFirstRefusal, IsProgramOf}
use Rattle.program_resolution.specs.Linking.{early_refusals, refusals_of, IsFirstOr, AreToLink, AreAccepted, IsLinked}
use Rattle.program_resolution.proofs.NameLemmas.{main_is_static}
use Rattle.program_resolution.proofs.ResolvedLemmas.{Laws, core_long, item_there, left_none, right_none, core_off_cycle, none_on_cycle, are_resolved}
use Rattle.program_resolution.proofs.RefusalLemmas.{in_files, few_calls, calls_are_initialized, first_early, NoneEarly, none_early, first_of_mentions, rest_alone}

-- ---- the first refusal

first_or : (rs : List ProgramRefusal) (r : ProgramRefusal) → first rs ≡ Some r → IsFirstOr rs r
first_or rs answers.NoMemory h = tt
first_or rs (answers.BadClass a) h = h
first_or rs (answers.UnsupportedVersion a b) h = h
first_or rs (answers.Duplicate a b) h = h
first_or rs (answers.Unsupported a b c) h = h
first_or rs (answers.Unresolved a b c) h = h
first_or rs (answers.BadHierarchy a) h = h
first_or rs answers.NoMain h = h
first_or rs (answers.TooManyClasses a b) h = h

nothing_first : {A : Type 0} (xs : List A) → first xs ≡ None → xs ≡ []
nothing_first [] h = refl
nothing_first (x ∷ xs) h = absurd (let f : Some x ≡ None = h in cc)

pub nothing_found : {A : Type 0} (o p : Option A) → o ≡ p → ((x : A) → o ≡ Some x → ⊥) → None ≡ p
nothing_found None p e h = e
nothing_found (Some x) p e h = absurd (h x refl)

-- of several lists, where nothing is in all of them
record NoneAtAll {A : Type 0} (n s t p m a b : List A) : Type 0 where
  names : n ≡ []
  support : s ≡ []
  supertypes : t ≡ []
  places : p ≡ []
  mentions : m ≡ []
  many : a ≡ []
  main : b ≡ []

none_at_all : {A : Type 0} (n s t p m a b : List A) → (n ++ (s ++ (t ++ (p ++ (m ++ []))))) ++ (a ++ b) ≡ [] → NoneAtAll n s t p m a b
none_at_all n s t p m a b h =
    let early = left_none (n ++ (s ++ (t ++ (p ++ (m ++ []))))) (a ++ b) h in
    let late = right_none (n ++ (s ++ (t ++ (p ++ (m ++ []))))) (a ++ b) h in
    let behind_n = right_none n (s ++ (t ++ (p ++ (m ++ [])))) early in
    let behind_s = right_none s (t ++ (p ++ (m ++ []))) behind_n in
    let behind_t = right_none t (p ++ (m ++ [])) behind_s in
    let behind_p = right_none p (m ++ []) behind_t in
    record {
      names = left_none n (s ++ (t ++ (p ++ (m ++ [])))) early;
      support = left_none s (t ++ (p ++ (m ++ []))) behind_n;
      supertypes = left_none t (p ++ (m ++ [])) behind_s;
      places = left_none p (m ++ []) behind_t;
      mentions = left_none m [] behind_p;
      many = left_none a b late;
      main = right_none a b late;
    }

module _ (cs : List ClassFile) (files : ℕ) (declares : Bool) where
  abbrev pub early : List ProgramRefusal
  early = early_refusals cs files

  abbrev pub mentions : List ProgramRefusal
  mentions = causes_in cs Mentions (files_in cs files)

  abbrev pub together : List ProgramRefusal
  together = (if nat_le files most_files then [] else answers.TooManyClasses files most_files ∷ []) ++ (if declares then [] else answers.NoMain ∷ [])

  nothing_early : first early ≡ None → NoneEarly (causes_in cs Names (files_in cs files)) (causes_in cs Support (files_in cs files)) (causes_in cs Supertypes (files_in cs files)) (causes_in cs Places (files_in cs files))
  nothing_early h = none_early (causes_in cs Names (files_in cs files)) (causes_in cs Support (files_in cs files)) (causes_in cs Supertypes (files_in cs files)) (causes_in cs Places (files_in cs files)) h

  pub early_refuses : (r : ProgramRefusal) → Some r ≡ first early → IsFirstOr (refusals_of cs files declares) r
  unfolding refusals_of
  early_refuses r h =
      first_or (refusals_of cs files declares) r
      (first_early (causes_in cs Names (files_in cs files)) (causes_in cs Support (files_in cs files)) (causes_in cs Supertypes (files_in cs files)) (causes_in cs Places (files_in cs files)) (mentions ++ []) together r (sym h))

  pub mention_refuses : (r : ProgramRefusal) → None ≡ first early → Some r ≡ first mentions → IsFirstOr (refusals_of cs files declares) r
  unfolding refusals_of
  mention_refuses r none h =
      first_or (refusals_of cs files declares) r
      (first_of_mentions (causes_in cs Names (files_in cs files)) (causes_in cs Support (files_in cs files)) (causes_in cs Supertypes (files_in cs files)) (causes_in cs Places (files_in cs files)) mentions together r (nothing_early (sym none)) (sym h))

  rest_is : None ≡ first early → None ≡ first mentions → refusals_of cs files declares ≡ together
  unfolding refusals_of
  rest_is none later =
      rest_alone (causes_in cs Names (files_in cs files)) (causes_in cs Support (files_in cs files)) (causes_in cs Supertypes (files_in cs files)) (causes_in cs Places (files_in cs files)) mentions together (nothing_early (sym none)) (nothing_first mentions (sym later))

  pub all_refuse : (r : ProgramRefusal) → None ≡ first early → None ≡ first mentions → Some r ≡ first together → IsFirstOr (refusals_of cs files declares) r
  all_refuse r none later h = first_or (refusals_of cs files declares) r (ap first (rest_is none later) ∙ sym h)

  pub nothing_refuses : None ≡ first early → None ≡ first mentions → None ≡ first together → refusals_of cs files declares ≡ []
  nothing_refuses none later h = rest_is none later ∙ nothing_first together (sym h)

-- ---- as few as in class files

code_case : (k : ClassFile) (o : Option Code) → ((code : Code) → o ≡ Some code → IsRightCode k.pool code) → IfSome o (λ c. length c.code ≤ 33554432)
code_case k None h = tt
code_case k (Some c) h = let right = h c refl in omega (arith, right.not_long)

class_bounds : MethodsHaveCode → (k : ClassFile) → IsClass k → HasFileLimits k
class_bounds law k is = record {
  pool = omega (arith, is.pool.count);
  code = all_along (IsRightMethod k) (λ m. IfSome (code_of m) (λ c. length c.code ≤ 33554432)) (λ m right. code_case k (code_of m) (law k m right).0) k.methods is.rules.methods;
}

-- ---- main

record MainStands (ks : List ClassFile) (main : List ℕ) : Type 0 where
  place : ℕ
  class : ClassFile
  there : slice_get ks place ≡ Some class
  name : name_of class ≡ main_name ks main
  declares : declares_main class ≡ true

has_main : (b : Bool) → (if b then [] else answers.NoMain ∷ []) ≡ [] → b ≡ true
has_main true h = refl
has_main false h = absurd (let f : (answers.NoMain ∷ []) ≡ [] = h in cc)

pub found_case : {X : Type 0} (b : Bool) (p : X → Bool) (y : X) (ys : List X) (x : X) → cond b (Some y) (find p ys) ≡ Some x → (find p ys ≡ Some x → (i : ℕ) × (slice_get ys i ≡ Some x)) → (i : ℕ) × (slice_get (y ∷ ys) i ≡ Some x)
found_case true p y ys x h later = (0, h)
found_case false p y ys x h later = let r = later h in (suc r.0, r.1)

pub found_there : {X : Type 0} (p : X → Bool) (xs : List X) (x : X) → find p xs ≡ Some x → (i : ℕ) × (slice_get xs i ≡ Some x)
found_there p [] x h = absurd (let f : None ≡ Some x = h in cc)
found_there p (y ∷ ys) x h = found_case (p y) p y ys x h (found_there p ys x)

main_case : (ks : List ClassFile) (main : List ℕ) (o : Option ClassFile) → main_class ks main ≡ o → option_map_or declares_main o false ≡ true → MainStands ks main
main_case ks main None e h = absurd (let f : false ≡ true = h in cc)
main_case ks main (Some k) e h =
    let at = found_there (λ (x : ClassFile). same_text (utf8_bytes (name_of x)) main) ks k e in
    record { place = at.0; class = k; there = at.1; name = ap (λ (o : Option ClassFile). option_map_or name_of o []) (sym e); declares = h }

main_stands : (ks : List ClassFile) (main : List ℕ) → option_map_or declares_main (main_class ks main) false ≡ true → MainStands ks main
main_stands ks main h = main_case ks main (main_class ks main) refl h

-- ---- all classes

pub calls_are : (ks cs : List ClassFile) (count : ℕ) → cs ≡ core ++ ks → count ≡ length ks → (if nat_le count most_files && not (is_some (first_on_cycle cs)) then initialized cs else []) ≡ calls_of ks
calls_are ks cs count e n = ap₂ (λ (xs : List ClassFile) (c : ℕ). let calls : List (List ℕ) = if nat_le c most_files && not (is_some (first_on_cycle xs)) then initialized xs else [] in calls) e n

pub all_few : CoreIsNamed → (ks all : List ClassFile) (last : ClassFile) → all ≡ core ++ (ks ++ last ∷ []) → length ks ≤ 4000000000 → length all < 4294967296
all_few named ks all last e few =
    let n = core_long named in
    let long = ap length e in
    omega (arith, n, long, few, length-append core (ks ++ last ∷ []), length-append ks (last ∷ []))

pub named_by : (main : List ℕ) {ks ks2 : List ClassFile} → ks ≡ ks2 → main_name ks main ≡ main_name ks2 main
named_by main e = ap (λ (ks : List ClassFile). main_name ks main) e

pub declared_by : (main : List ℕ) {ks ks2 : List ClassFile} → ks ≡ ks2 → option_map_or declares_main (main_class ks main) false ≡ option_map_or declares_main (main_class ks2 main) false
declared_by main e = ap (λ (ks : List ClassFile). option_map_or declares_main (main_class ks main) false) e

-- what is made by putting the last class behind the core classes and these
pub all_made : {E : Type 0} (ks front : List ClassFile) (made made2 : List (List ℕ)) (main : List ℕ) (r : Result (Vec ClassFile Global) E) → front ≡ core ++ ks → made ≡ made2 → IfOk r (λ all. all.items ≡ front ++ boot made main ∷ [])
    → IfOk r (λ all. all.items ≡ core ++ (ks ++ boot made2 main ∷ []))
all_made ks front made made2 main (Ok all) e n h = h ∙ (ap₂ (λ (xs : List ClassFile) (calls : List (List ℕ)). xs ++ boot calls main ∷ []) e n ∙ append_assoc core ks (boot made2 main ∷ []))
all_made ks front made made2 main (Err x) e n h = tt

pub few_made : {E : Type 0} → CoreIsNamed → (ks : List ClassFile) (last : ClassFile) (r : Result (Vec ClassFile Global) E) → length ks ≤ 4000000000 → IfOk r (λ all. all.items ≡ core ++ (ks ++ last ∷ [])) → IfOk r (λ all. length all.items < 4294967296)
few_made named ks last (Ok all) few h = all_few named ks all.items last h few
few_made named ks last (Err x) few h = tt

pub if_linked : {X E : Type 0} (P Q : X → Type 0) (r : Result X E) → ((x : X) → P x → Q x) → IfOk r P → IfOk r Q
if_linked P Q (Ok x) f h = f x h
if_linked P Q (Err e) f h = tt

pub if_refused : {X E : Type 0} (P Q : E → Type 0) (r : Result X E) → ((e : E) → P e → Q e) → IfErr r P → IfErr r Q
if_refused P Q (Ok x) f h = tt
if_refused P Q (Err e) f h = f e h

module _ (laws : Laws) (have : MethodsHaveCode) (ks : List ClassFile) (grammar : AllByRecursion IsClass ks) (bytes : AllByRecursion (λ k. AllByRecursion HasBytes k.methods) ks) (main : List ℕ) where
  abbrev full : List ClassFile
  full = core ++ (ks ++ boot (calls_of ks) (main_name ks main) ∷ [])

  abbrev declares : Bool
  declares = option_map_or declares_main (main_class ks main) false

  few : length (calls_of ks) ≤ 10000
  few = few_calls laws.core_named ks

  files_are : files_in full (length ks) ≡ ks
  files_are = in_files laws.core_named ks (boot (calls_of ks) (main_name ks main) ∷ [])

  long : 23 + length ks ≤ length full
  long =
      let n = core_long laws.core_named in
      omega (arith, n, length-append core (ks ++ boot (calls_of ks) (main_name ks main) ∷ []), length-append ks (boot (calls_of ks) (main_name ks main) ∷ []))

  off_core : causes_in full Names ks ≡ [] → (c : ℕ) → c < 23 → is_on_a_cycle full c ≡ false
  off_core free c lt =
      let n = core_long laws.core_named in
      let x = item_there core c (omega (arith, n, lt)) in
      core_off_cycle laws ks grammar (calls_of ks) (main_name ks main) few free c x.0 x.1

  stands_resolved : refusals_of full (length ks) declares ≡ [] → IsAcyclic full → AreResolved full
  unfolding refusals_of AreResolved
  stands_resolved none acyclic =
      let at = λ (xs : List ClassFile). (causes_in full Names xs ++ (causes_in full Support xs ++ (causes_in full Supertypes xs ++ (causes_in full Places xs ++ (causes_in full Mentions xs ++ []))))) ++ (too_many ks ++ without_main ks main) ≡ [] in
      let each = none_at_all (causes_in full Names ks) (causes_in full Support ks) (causes_in full Supertypes ks) (causes_in full Places ks) (causes_in full Mentions ks) (too_many ks) (without_main ks main) (subst at files_are none) in
      let run = main_stands ks main (has_main declares each.main) in
      are_resolved laws ks grammar (calls_of ks) (main_name ks main) few each.names (record {
        bytes = bytes;
        support = each.support;
        supertypes = each.supertypes;
        places = each.places;
        mentions = each.mentions;
        acyclic = acyclic;
        initialized = calls_are_initialized ks;
        main_place = run.place;
        main_class = run.class;
        main_there = run.there;
        main_name = run.name;
        main_declared = main_is_static run.class main_signature run.class.methods run.declares;
      })

  full_to_link : AreToLink full (length ks) declares
  full_to_link = record {
    there = long;
    grammar = subst (AllByRecursion IsClass) (sym files_are) grammar;
    bounds = subst (AllByRecursion HasFileLimits) (sym files_are) (all_along IsClass HasFileLimits (class_bounds have) ks grammar);
    core = λ free. off_core (subst (λ (xs : List ClassFile). causes_in full Names xs ≡ []) files_are free);
    off = λ free well.
        none_on_cycle laws ks grammar (calls_of ks) (main_name ks main) few (subst (λ (xs : List ClassFile). causes_in full Names xs ≡ []) files_are free)
        (subst (λ (xs : List ClassFile). causes_in full Places xs ≡ []) files_are well);
    resolved = stands_resolved;
  }

  module _ (cs : List ClassFile) (count : ℕ) (name : List ℕ) (d : Bool) (named : name ≡ main_name ks main) (are : cs ≡ core ++ (ks ++ boot (calls_of ks) name ∷ [])) (counted : count ≡ length ks) (declared : d ≡ declares) where
    is_full : cs ≡ full
    is_full = are ∙ ap (λ (n : List ℕ). core ++ (ks ++ boot (calls_of ks) n ∷ [])) named

    pub to_link : AreToLink cs count d
    to_link =
        subst (λ (xs : List ClassFile). AreToLink xs count d) (sym is_full)
        (subst (λ (n : ℕ). AreToLink full n d) (sym counted) (subst (λ (b : Bool). AreToLink full (length ks) b) (sym declared) full_to_link))

    pub same_refusals : refusals_of cs count d ≡ refusals ks main
    unfolding refusals_of refusals linked_classes
    same_refusals =
        ap (λ (xs : List ClassFile). refusals_of xs count d) is_full
        ∙ (ap₂ (λ (n : ℕ) (b : Bool). refusals_of full n b) counted declared
        ∙ ap (λ (xs : List ClassFile). flat_map (λ pass. causes_in full pass xs) passes ++ (too_many ks ++ without_main ks main)) files_are)

    pub is_linked : (made : List ClassFile) → AreAccepted cs count d made → IsLinked ks main made
    unfolding linked_classes
    is_linked made h = record { none = sym same_refusals ∙ h.none; program = h.program ∙ is_full }

    pub is_first : (r : ProgramRefusal) → IsFirstOr (refusals_of cs count d) r → IsFirstOr (refusals ks main) r
    is_first r h = subst (λ (rs : List ProgramRefusal). IsFirstOr rs r) same_refusals h

-- ---- what is answered

pub program_is : (files : List (List ℕ)) (main : List ℕ) (ks made : List ClassFile) → AreClassesOf files ks → IsLinked ks main made → IsProgramOf files main made
program_is files main ks made read h = record { classes = ks; read = read; none = h.none; program = h.program }

pub first_is : (files : List (List ℕ)) (main : List ℕ) (ks : List ClassFile) (r : ProgramRefusal) → AreClassesOf files ks → IsFirstOr (refusals ks main) r → IsFirstRefusal files main r
first_is files main ks answers.NoMemory read h = tt
first_is files main ks (answers.BadClass a) read h = inr (record { classes = ks; read = read; first = h })
first_is files main ks (answers.UnsupportedVersion a b) read h = inr (record { classes = ks; read = read; first = h })
first_is files main ks (answers.Duplicate a b) read h = inr (record { classes = ks; read = read; first = h })
first_is files main ks (answers.Unsupported a b c) read h = inr (record { classes = ks; read = read; first = h })
first_is files main ks (answers.Unresolved a b c) read h = inr (record { classes = ks; read = read; first = h })
first_is files main ks (answers.BadHierarchy a) read h = inr (record { classes = ks; read = read; first = h })
first_is files main ks answers.NoMain read h = inr (record { classes = ks; read = read; first = h })
first_is files main ks (answers.TooManyClasses a b) read h = inr (record { classes = ks; read = read; first = h })
