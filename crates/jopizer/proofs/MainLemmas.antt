-- What is linked has the main of its main class, and that has code.
use Rattle.std.proofs.Common.{◌≡◌, ℕ, suc, ◌+◌, Bool, true, false, ◌&&◌, ◌||◌, List, [], ◌∷◌, ◌++◌, map, Option, Some, None, refl, sym, ap, ap₂, ◌∙◌}
use Rattle.std.specs.Prelude.{find, is_some, slice_get, if◌then◌else◌, IsSome}
use Rattle.std.specs.Cmp.Lexicographic as texts
use Rattle.std.specs.Option.{option_map, option_map_or}
use Rattle.std.specs.List.{list_any}
use Rattle.std.proofs.lemmas.Bool.{false≢true, both_ways, false_from_ne_true, and_parts}
use Rattle.lists.proofs.Lemmas.{some_same, index_found}
use Rattle.class_pool.specs.Utf8.{utf8_bytes}
use Rattle.class_pool.specs.declared.class.Code.{Code}
use Rattle.class_pool.specs.declared.class.Member.{Member}
use Rattle.class_pool.specs.declared.class.ClassFile.{ClassFile}
use Rattle.class_pool.specs.Found.{code_of}
use Rattle.class_rules.specs.Grammar.{IsClass}
use Rattle.class_rules.specs.Rules.{IsRightMethod}
use Rattle.class_rules.specs.Found.{MethodsHaveCode}
use Rattle.class_lookup.specs.Parts.{Signature, same_text, name_of, signature_of, same_signature, is_public, is_static, is_abstract, is_native}
use Rattle.class_lookup.specs.Lookup.{Place, method_at, same_place}
use Rattle.bytecode_model.specs.Lists.{onto}
use Rattle.bytecode_model.specs.Program.{Method, body_of}
use Rattle.program_tables.specs.Numbers.{methods_by_number, method_text, member_text}
use Rattle.program_tables.specs.Resolved.{resolved, at_method, body_in}
use Rattle.program_tables.specs.declared.refusal.Site.{Site}
use Rattle.program_tables.specs.declared.refusal.Item.{Item}
use Rattle.program_tables.specs.Unsupported.{unsupported_in}
use Rattle.program_laws.proofs.Facts.{all_at, set_of, has_of}
use Rattle.class_lookup.proofs.Overriding.{place_same}
use Rattle.program_laws.proofs.Numbering.{at_place, number_of as numbered_at}
use Rattle.program_laws.proofs.Selections.{not_native}
use Rattle.core_classes.specs.Core.{core, boot}
use Rattle.core_classes.specs.Laws.{CoreIsNamed}
use Rattle.program_resolution.specs.declared.refusal.ProgramRefusal.TheVariants as resolving
use Rattle.program_resolution.specs.Linked.{main_class, main_name, declares_main, calls_of, linked_classes, number_of}
use Rattle.core_classes.specs.Linkage.{main_signature}
use Rattle.program_resolution.specs.Refusals.{Names, Support, Supertypes, Places, Mentions, causes, causes_in, too_many, without_main, refusals}
use Rattle.program_resolution.specs.Resolving.{IsProgramOf}
use Rattle.program_resolution.proofs.RefusalLemmas.{are_classes}
use Rattle.program_resolution.proofs.ResolvedLemmas.{left_none, right_none, core_long, get_behind, get_in_front, nothing_from}
use Rattle.jopizer.specs.Laws.{main_text}

-- ---- the main class

record MainClass (ks : List ClassFile) (main : List ℕ) : Type 0 where
  place : ℕ
  class : ClassFile
  there : slice_get ks place ≡ Some class
  name : utf8_bytes (name_of class) ≡ main
  declares : declares_main class ≡ true

abbrev FoundBy : {X : Type 0} → (X → Bool) → List X → X → Type 0
FoundBy test xs x = (i : ℕ) × (slice_get xs i ≡ Some x) × (test x ≡ true)

found_case : {X : Type 0} (test : X → Bool) (y x : X) (ys : List X) (b : Bool) → test y ≡ b → (if b then Some y else find test ys) ≡ Some x
    → (find test ys ≡ Some x → FoundBy test ys x) → FoundBy test (y ∷ ys) x
found_case test y x ys true is h later = let same = some_same y x h in (0, ap Some same, ap test (sym same) ∙ is)
found_case test y x ys false is h later = let r = later h in (suc r.0, r.1, r.2)

found : {X : Type 0} (test : X → Bool) (x : X) (xs : List X) → find test xs ≡ Some x → FoundBy test xs x
found test x [] h = absurd (let e : None ≡ Some x = h in cc)
found test x (y ∷ ys) h = found_case test y x ys (test y) refl h (found test x ys)

class_case : (ks : List ClassFile) (main : List ℕ) (o : Option ClassFile) → main_class ks main ≡ o → option_map_or declares_main o false ≡ true → MainClass ks main
class_case ks main None e h = absurd (false≢true h)
class_case ks main (Some k) e h =
    let at = found (λ (x : ClassFile). same_text (utf8_bytes (name_of x)) main) k ks e in
    record { place = at.0; class = k; there = at.1; name = texts.same_text (utf8_bytes (name_of k)) main (sym at.2); declares = h }

-- ---- its main

record MainMethod (k : ClassFile) : Type 0 where
  index : ℕ
  member : Member
  there : slice_get k.methods index ≡ Some member
  static : is_static member ≡ true
  signature : signature_of k member ≡ main_signature

abbrev PassedBy : {X : Type 0} → (X → Bool) → List X → Type 0
PassedBy {X} test xs = (x : X) × FoundBy test xs x

any_case : {X : Type 0} (test : X → Bool) (y : X) (ys : List X) (b : Bool) → test y ≡ b → (b || list_any test ys) ≡ true → (list_any test ys ≡ true → PassedBy test ys)
    → PassedBy test (y ∷ ys)
any_case test y ys true is h later = (y, (0, refl, is))
any_case test y ys false is h later = let r = later h in (r.0, (suc r.1.0, r.1.1, r.1.2))

passed : {X : Type 0} (test : X → Bool) (xs : List X) → list_any test xs ≡ true → PassedBy test xs
passed test [] h = absurd (false≢true h)
passed test (y ∷ ys) h = any_case test y ys (test y) refl h (passed test ys)

later_two : (p q r : Bool) → (p && q && r) ≡ true → (q ≡ true) × (r ≡ true)
later_two true true true h = (refl, refl)
later_two true true false h = absurd (false≢true h)
later_two true false r h = absurd (false≢true h)
later_two false q r h = absurd (false≢true h)

same_signatures : (s t : Signature) → same_signature s t ≡ true → s ≡ t
same_signatures s t h =
    let parts = and_parts (same_text s.name t.name) (same_text s.descriptor t.descriptor) h in
    ap₂ (λ (n d : List ℕ). let x : Signature = record { name = n; descriptor = d } in x) (texts.same_text s.name t.name (sym parts.0))
    (texts.same_text s.descriptor t.descriptor (sym parts.1))

main_method : (k : ClassFile) → declares_main k ≡ true → MainMethod k
main_method k h =
    let one = passed (λ (m : Member). is_public m && is_static m && same_signature (signature_of k m) main_signature) k.methods h in
    let parts = later_two (is_public one.0) (is_static one.0) (same_signature (signature_of k one.0) main_signature) one.1.2 in
    record { index = one.1.0; member = one.0; there = one.1.1; static = parts.0; signature = same_signatures (signature_of k one.0) main_signature parts.1 }

-- a static method that isn't native has code
code_there : MethodsHaveCode → (k : ClassFile) → IsClass k → unsupported_in k ≡ [] → (m : MainMethod k) → (code : Code) × (code_of m.member ≡ Some code)
code_there have k is supported m =
    let right = all_at (IsRightMethod k) k.methods m.index m.member is.rules.methods m.there in
    let native = not_native k m.index m.member supported m.there in
    let concrete = false_from_ne_true (is_abstract m.member) (λ a. (right.plain (set_of m.member.flags 0x0400 a)).not_static (set_of m.member.flags 0x0008 m.static)) in
    (have k m.member right).2 (λ s. both_ways (is_abstract m.member) concrete (has_of m.member.flags 0x0400 s)) (λ s. both_ways (is_native m.member) native (has_of m.member.flags 0x0100 s))

-- ---- its number

abbrev HasMain : List ClassFile → (main : List ℕ) → Type 0
HasMain cs main = (m : ℕ) × IsSome (body_of (resolved cs) m) × (at_method cs m [] (method_text cs) ≡ main_text main)

main_at : (cs : List ClassFile) (main : List ℕ) (c : ℕ) (k : ClassFile) (m : MainMethod k) → slice_get cs c ≡ Some k → utf8_bytes (name_of k) ≡ main
    → (code : Code) × (code_of m.member ≡ Some code) → HasMain cs main
main_at cs main c k m class name code =
    let p : Place = (c, m.index) in
    let n = numbered_at cs p k m.member class m.there in
    let f = index_found (same_place p) (methods_by_number cs) n.0 n.1 in
    let at : slice_get (methods_by_number cs) n.0 ≡ Some p = f.1 ∙ ap Some (sym (place_same p f.0 f.2)) in
    let body : body_of (resolved cs) n.0 ≡ Some (body_in cs k code.0) = ap (λ (o : Option Method). onto o (λ x. x.body)) n.2 ∙ ap (option_map (body_in cs k)) code.1 in (
      n.0,
      ap is_some body,
      ap (λ (o : Option Place). option_map_or (method_text cs) o []) at
          ∙ ap (λ (o : Option ClassFile). option_map_or (λ x. option_map_or (member_text x) (method_at cs p) []) o []) class
          ∙ ap (λ (o : Option Member). option_map_or (member_text k) o []) (at_place cs p k m.member class m.there)
          ∙ ap₂ (λ (t : List ℕ) (s : Signature). t ++ 46 ∷ (utf8_bytes s.name ++ utf8_bytes s.descriptor)) name m.signature,
    )

-- ---- what is linked

nothing_mapped : {X Y : Type 0} (f : X → Y) (xs : List X) → map f xs ≡ [] → xs ≡ []
nothing_mapped f [] h = refl
nothing_mapped f (x ∷ xs) h = absurd (let e : (f x ∷ map f xs) ≡ [] = h in cc)

has_main : (b : Bool) → (if b then [] else resolving.NoMain ∷ []) ≡ [] → b ≡ true
has_main true h = refl
has_main false h = absurd (let e : (resolving.NoMain ∷ []) ≡ [] = h in cc)

module _ (named : CoreIsNamed) (have : MethodsHaveCode) (files : List (List ℕ)) (main : List ℕ) (cs : List ClassFile) (p : IsProgramOf files main cs) where
  abbrev ks : List ClassFile
  ks = p.classes

  abbrev last : ClassFile
  last = boot (calls_of ks) (main_name ks main)

  abbrev full : List ClassFile
  full = core ++ (ks ++ last ∷ [])

  is_full : cs ≡ full
  unfolding linked_classes
  is_full = p.program

  record Unrefused : Type 0 where
    support : causes_in full Support ks ≡ []
    main_there : MainClass ks main

  unrefused : Unrefused
  unfolding refusals linked_classes
  unrefused =
      let rest = causes_in full Supertypes ks ++ (causes_in full Places ks ++ (causes_in full Mentions ks ++ [])) in
      let passes = causes_in full Names ks ++ (causes_in full Support ks ++ rest) in
      let early = left_none passes (too_many ks ++ without_main ks main) p.none in
      let late = right_none passes (too_many ks ++ without_main ks main) p.none in
      record {
        support = left_none (causes_in full Support ks) rest (right_none (causes_in full Names ks) (causes_in full Support ks ++ rest) early);
        main_there = class_case ks main (main_class ks main) refl (has_main (option_map_or declares_main (main_class ks main) false) (right_none (too_many ks) (without_main ks main) late));
      }

  file_there : (i : ℕ) (k : ClassFile) → slice_get ks i ≡ Some k → slice_get full (number_of i) ≡ Some k
  file_there i k at =
      ap (λ (n : ℕ). slice_get full (n + i)) (sym (core_long named)) ∙ (get_behind core (ks ++ last ∷ []) i ∙ get_in_front ks (last ∷ []) i k at)

  supported : (i : ℕ) (k : ClassFile) → slice_get ks i ≡ Some k → unsupported_in k ≡ []
  supported i k at =
      nothing_mapped (λ (u : Site × Item). resolving.Unsupported (0 + i) u.0 u.1) (unsupported_in k) (nothing_from (λ (e : ℕ × ClassFile). causes full Support e.0 e.1) 0 ks unrefused.support i k at)

  pub main_is_there : HasMain cs main
  main_is_there =
      let m = unrefused.main_there in
      let method = main_method m.class m.declares in
      let is = all_at IsClass ks m.place m.class (are_classes files ks p.read) m.there in
      main_at cs main (number_of m.place) m.class method (ap (λ (xs : List ClassFile). slice_get xs (number_of m.place)) is_full ∙ file_there m.place m.class m.there) m.name
      (code_there have m.class is (supported m.place m.class m.there) method)
