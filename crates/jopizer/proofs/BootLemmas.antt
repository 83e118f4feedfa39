-- No rule fails in the class that is run, so a method in which a rule fails is one of a file.
use Rattle.std.proofs.Common.{◌≡◌, ℕ, ◌+◌, ◌<◌, ◌≤◌, Bool, true, false, inl, inr, List, [], ◌∷◌, ◌++◌, length, Option, Some, None, refl, sym, ap, ap₂, ◌∙◌, subst, arith, append_assoc}
use Rattle.std.specs.Prelude.{slice_get, if◌then◌else◌}
use Rattle.std.specs.Option.{option_map, option_map_or, option_to_list, IsSomeAnd}
use Rattle.std.specs.List.{AllByRecursion}
use Rattle.std.proofs.lemmas.Bool.{cases_lt}
use Rattle.std.proofs.lemmas.List.{length-append, length-map}
use Rattle.std.proofs.lemmas.Option.{slice_get_within}
use Rattle.program_resolution.proofs.LinkingLemmas.{found_there}
use Rattle.class_pool.specs.Utf8.{utf8_bytes}
use Rattle.class_pool.specs.declared.class.ClassFile.{ClassFile}
use Rattle.class_rules.specs.Grammar.{IsClass}
use Rattle.class_making.specs.Laws.{member_signature}
use Rattle.lists.proofs.Lemmas.{some_same}
use Rattle.class_lookup.specs.Parts.{same_text, name_of}
use Rattle.class_lookup.specs.Lookup.{Place}
use Rattle.core_classes.specs.Core.{core, boot, boot_plan}
use Rattle.core_classes.specs.Linkage.{DeclaresStatic, main_signature}
use Rattle.program_tables.specs.Laws.{MembersAreThere}
use Rattle.program_tables.specs.Numbers.{methods_by_number}
use Rattle.program_tables.specs.Placed.{duplicate_of}
use Rattle.bytecode_verifier.specs.CoreLaws.{BootIsVerified}
use Rattle.bytecode_verifier.specs.Failure.{method_failure}
use Rattle.program_resolution.specs.declared.refusal.ProgramRefusal.TheVariants as resolving
use Rattle.program_resolution.specs.Linked.{main_class, main_name, declares_main, calls_of, linked_classes, number_of}
use Rattle.program_resolution.specs.Refusals.{Names, Support, Supertypes, Places, Mentions, causes, causes_in, too_many, without_main, refusals}
use Rattle.program_resolution.specs.Resolving.{IsProgramOf}
use Rattle.program_resolution.proofs.FileLemmas.{all_at}
use Rattle.program_resolution.proofs.NameLemmas.{declares_static, main_is_static}
use Rattle.program_resolution.proofs.RefusalLemmas.{few_calls, calls_are_initialized, are_classes, as_many}
use Rattle.program_resolution.proofs.ResolvedLemmas.{Laws, left_none, right_none, core_long, called, get_behind, get_in_front, nothing_from}

-- ---- lists one behind the other

no_mapped : {X Y : Type 0} (f : X → Y) (o : Option X) → option_to_list (option_map f o) ≡ [] → o ≡ None
no_mapped f None h = refl
no_mapped f (Some x) h = absurd (let e : (f x ∷ []) ≡ [] = h in cc)

-- ---- main

record HasMain (ks : List ClassFile) (main : List ℕ) : Type 0 where
  place : ℕ
  class : ClassFile
  there : slice_get ks place ≡ Some class
  name : name_of class ≡ main_name ks main
  declares : declares_main class ≡ true

has_main : (b : Bool) → (if b then [] else resolving.NoMain ∷ []) ≡ [] → b ≡ true
has_main true h = refl
has_main false h = absurd (let f : (resolving.NoMain ∷ []) ≡ [] = h in cc)

main_case : (ks : List ClassFile) (main : List ℕ) (o : Option ClassFile) → main_class ks main ≡ o → option_map_or declares_main o false ≡ true → HasMain ks main
main_case ks main None e h = absurd (let f : false ≡ true = h in cc)
main_case ks main (Some k) e h =
    let at = found_there (λ (x : ClassFile). same_text (utf8_bytes (name_of x)) main) ks k e in
    record { place = at.0; class = k; there = at.1; name = ap (λ (o : Option ClassFile). option_map_or name_of o []) (sym e); declares = h }

-- ---- the class that is run

module _ (laws : Laws) (verified : BootIsVerified) (members : MembersAreThere) (files : List (List ℕ)) (main : List ℕ) (cs : List ClassFile) (p : IsProgramOf files main cs) where
  abbrev ks : List ClassFile
  ks = p.classes

  abbrev calls : List (List ℕ)
  calls = calls_of ks

  abbrev name : List ℕ
  name = main_name ks main

  abbrev full : List ClassFile
  full = core ++ (ks ++ boot calls name ∷ [])

  is_full : cs ≡ full
  unfolding linked_classes
  is_full = p.program

  few : length calls ≤ 10000
  few = few_calls laws.core_named ks

  grammar : AllByRecursion IsClass ks
  grammar = are_classes files ks p.read

  record NoneEnds : Type 0 where
    free : causes_in full Names ks ≡ []
    main_there : HasMain ks main

  none_ends : NoneEnds
  unfolding refusals linked_classes
  none_ends =
      let rest = causes_in full Support ks ++ (causes_in full Supertypes ks ++ (causes_in full Places ks ++ (causes_in full Mentions ks ++ []))) in
      let early = left_none (causes_in full Names ks ++ rest) (too_many ks ++ without_main ks main) p.none in
      let late = right_none (causes_in full Names ks ++ rest) (too_many ks ++ without_main ks main) p.none in
      record {
        free = left_none (causes_in full Names ks) rest early;
        main_there = main_case ks main (main_class ks main) refl (has_main (option_map_or declares_main (main_class ks main) false) (right_none (too_many ks) (without_main ks main) late));
      }

  file_there : (i : ℕ) (k : ClassFile) → slice_get ks i ≡ Some k → slice_get full (number_of i) ≡ Some k
  file_there i k at =
      ap (λ (n : ℕ). slice_get full (n + i)) (sym (core_long laws.core_named)) ∙ (get_behind core (ks ++ boot calls name ∷ []) i ∙ get_in_front ks (boot calls name ∷ []) i k at)

  name_is_free : (i : ℕ) (k : ClassFile) → slice_get ks i ≡ Some k → duplicate_of full (number_of i) ≡ None
  name_is_free i k at =
      let z : i ≡ 0 + i = omega arith in
      no_mapped (λ (d : ℕ). resolving.Duplicate i d) (duplicate_of full (number_of i))
      (ap (λ (n : ℕ). causes full Names n k) z ∙ nothing_from (λ (e : ℕ × ClassFile). causes full Names e.0 e.1) 0 ks none_ends.free i k at)

  main_declared : DeclaresStatic full name main_signature
  main_declared =
      let m = none_ends.main_there in
      subst (λ (n : List ℕ). DeclaresStatic full n main_signature) m.name
      (declares_static full (number_of m.place) m.class main_signature (file_there m.place m.class m.there) (all_at IsClass ks m.place m.class grammar m.there) (name_is_free m.place m.class m.there)
      (main_is_static m.class main_signature m.class.methods m.declares))

  boot_passes : (n : ℕ) → slice_get (methods_by_number full) n ≡ Some (length (core ++ ks), 0) → method_failure full n ≡ None
  boot_passes n at = verified ks calls name few (called laws ks grammar calls name few none_ends.free calls (calls_are_initialized ks)) main_declared n at

  one_method : length (boot calls name).methods ≡ 1
  unfolding boot_plan
  one_method =
      sym (length-map (boot calls name).methods (member_signature (boot calls name).pool)) ∙ ap (λ (xs : List (List ℕ × List ℕ)). length xs) (laws.boot_says calls name few).methods

  long : length full ≡ 23 + length ks + 1
  long = let e = core_long laws.core_named in omega (arith, e, length-append core (ks ++ boot calls name ∷ []), length-append ks (boot calls name ∷ []))

  below_last : length (core ++ ks) ≡ 23 + length ks
  below_last = let e = core_long laws.core_named in omega (arith, e, length-append core ks)

  last_class : slice_get full (length (core ++ ks)) ≡ Some (boot calls name)
  last_class =
      let z : length (core ++ ks) ≡ length (core ++ ks) + 0 = omega arith in
      ap (λ (xs : List ClassFile). slice_get xs (length (core ++ ks))) (sym (append_assoc core ks (boot calls name ∷ [])))
      ∙ (ap (slice_get ((core ++ ks) ++ boot calls name ∷ [])) z ∙ get_behind (core ++ ks) (boot calls name ∷ []) 0)

  -- a method that stands in no core class and in none of the files is that of the class that is run
  last_case : (q : Place) (o : Option ClassFile) → slice_get full q.0 ≡ o → IsSomeAnd o (λ c. q.1 < length c.methods) → 23 + length ks ≤ q.0 → q ≡ (length (core ++ ks), 0)
  last_case q None e h le = absurd h
  last_case q (Some k) e h le =
      let lt = slice_get_within full q.0 k e in
      let all = long in
      let below = below_last in
      let class : q.0 ≡ length (core ++ ks) = omega arith in
      let same : boot calls name ≡ k = some_same (boot calls name) k (sym last_class ∙ (ap (slice_get full) (sym class) ∙ e)) in
      let one : length k.methods ≡ 1 = ap (λ (c : ClassFile). length c.methods) (sym same) ∙ one_method in
      let index : q.1 ≡ 0 = omega arith in
      ap₂ (λ (c i : ℕ). let p : Place = (c, i) in p) class index

  last_place : (n : ℕ) (q : Place) → slice_get (methods_by_number full) n ≡ Some q → 23 + length ks ≤ q.0 → q ≡ (length (core ++ ks), 0)
  last_place n q at le = last_case q (slice_get full q.0) refl ((members full n q).0 at) le

  pub of_file : (file method n : ℕ) → slice_get (methods_by_number cs) n ≡ Some (number_of file, method) → (method_failure cs n ≡ None → ⊥) → file < length files
  of_file file method n at fails =
      let many = as_many files ks p.read in
      elim (cases_lt file (length files)) [
        | inl lt ↦ lt
        | inr le ↦
            let there : slice_get (methods_by_number full) n ≡ Some (number_of file, method) = ap (λ (xs : List ClassFile). slice_get (methods_by_number xs) n) (sym is_full) ∙ at in
            let q : Place = (number_of file, method) in
            let last = last_place n q there (let b : 23 + length ks ≤ number_of file = omega arith in b) in
            absurd (fails (ap (λ (xs : List ClassFile). method_failure xs n) is_full ∙ boot_passes n (there ∙ ap Some last)))
      ]
