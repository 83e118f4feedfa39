-- What fails in a program stands in a file, and how the steps of linking fit together.
use Rattle.std.proofs.Common.{◌≡◌, ℕ, ◌+◌, ◌-◌, ◌<◌, ◌≤◌, List, [], ◌∷◌, ◌++◌, length, Option, Some, None, refl, sym, ap, ap₂, ◌∙◌, subst, arith}
use Rattle.std.specs.Prelude.{slice_get}
use Rattle.std.specs.Option.{option_map_or, IsSomeAnd}
use Rattle.std.specs.List.{AllByRecursion}
use Rattle.std.proofs.lemmas.Option.{slice_get_within}
use Rattle.lists.proofs.Lemmas.{none≢some}
use Rattle.class_pool.specs.declared.class.Code.{Code}
use Rattle.class_pool.specs.declared.class.Member.{Member}
use Rattle.class_pool.specs.declared.class.ClassFile.{ClassFile}
use Rattle.class_pool.specs.Found.{code_of}
use Rattle.class_rules.specs.Grammar.{IsClass}
use Rattle.class_lookup.specs.Lookup.{Place}
use Rattle.program_tables.specs.Laws.{MembersAreThere}
use Rattle.program_tables.specs.Numbers.{methods_by_number}
use Rattle.program_tables.specs.Resolving.{IsResolved}
use Rattle.core_classes.specs.Core.{core, boot}
use Rattle.bytecode_verifier.specs.CoreLaws.{CoreIsVerified}
use Rattle.bytecode_verifier.specs.Failure.{Broken, Failure, at_code, method_failure, FailsFirst}
use Rattle.program_resolution.specs.Linked.{number_of, linked_classes, calls_of, main_name}
use Rattle.program_resolution.specs.Resolving.{IsProgramOf}
use Rattle.program_resolution.proofs.NameLemmas.{none_is_nameless}
use Rattle.program_resolution.proofs.FileLemmas.{all_at}
use Rattle.jopizer.specs.Refused.{BeginsWithCore}

-- ---- a method that fails is there

abbrev inside : {A : Type 0} → List ClassFile → (Place → ClassFile → Member → Code → Option A) → Place → Option A
inside cs say p = elim (slice_get cs p.0) [ None ↦ None | Some c ↦ elim (slice_get c.methods p.1) [ None ↦ None | Some m ↦ elim (code_of m) [ None ↦ None | Some k ↦ say p c m k ] ] ]

there_case : {A : Type 0} (say : Place → Option A) (o : Option Place) (f : A) → option_map_or say o None ≡ Some f → (p : Place) × (o ≡ Some p)
there_case say None f h = absurd (let e : None ≡ Some f = h in cc)
there_case say (Some p) f h = (p, refl)

code_there : {A : Type 0} (cs : List ClassFile) (n : ℕ) (say : Place → ClassFile → Member → Code → Option A) (f : A) → at_code cs n None say ≡ Some f → (p : Place) × (slice_get (methods_by_number cs) n ≡ Some p)
code_there cs n say f h = there_case (inside cs say) (slice_get (methods_by_number cs) n) f h

fails_there : (cs : List ClassFile) (n : ℕ) (f : Failure) → method_failure cs n ≡ Some f → (p : Place) × (slice_get (methods_by_number cs) n ≡ Some p)
unfolding method_failure
fails_there cs n f h = code_there cs n _ f h

pub is_number : (cs : List ClassFile) (n pc : ℕ) (rule : Broken) → FailsFirst cs n pc rule → n < length (methods_by_number cs)
is_number cs n pc rule h = let there = fails_there cs n (pc, rule) h.fails in slice_get_within (methods_by_number cs) n there.0 there.1

-- ---- and it is of a file

behind : {X : Type 0} (P : X → Type 0) (xs ys : List X) → AllByRecursion P (xs ++ ys) → AllByRecursion P ys
behind P [] ys h = h
behind P (x ∷ xs) ys h = behind P xs ys h.1

pub is_of_file : CoreIsVerified → (cs : List ClassFile) → BeginsWithCore cs → IsResolved cs → (n pc : ℕ) (rule : Broken) (p : Place) → FailsFirst cs n pc rule → slice_get (methods_by_number cs) n ≡ Some p → 23 ≤ p.0
is_of_file law cs begins is n pc rule p h at =
    let named = none_is_nameless begins.others (behind IsClass core begins.others (subst (AllByRecursion IsClass) begins.classes is.grammar)) in
    let fine : p.0 < 23 → ⊥ = λ lt.
    (let none = ap (λ (xs : List ClassFile). method_failure xs n) begins.classes ∙ law begins.others named n p (ap (λ (xs : List ClassFile). slice_get (methods_by_number xs) n) (sym begins.classes) ∙ at) lt in
    none≢some (pc, rule) (sym none ∙ h.fails)) in
    omega (arith, fine)

pub place_is : (p : Place) (class index : ℕ) → p.0 ≡ class → p.1 ≡ index → 23 ≤ class → p ≡ (number_of (class - 23), index)
place_is p class index c i le =
    let e : p.0 ≡ 23 + (class - 23) = omega arith in
    ap₂ (λ (m n : ℕ). let q : Place = (m, n) in q) e i

-- ---- its place in the file is a small number

index_case : (cs : List ClassFile) (c i : ℕ) (o : Option ClassFile) → slice_get cs c ≡ o → AllByRecursion IsClass cs → IsSomeAnd o (λ k. i < length k.methods) → i < 65536
index_case cs c i None at all there = absurd there
index_case cs c i (Some k) at all there =
    let few = (all_at IsClass cs c k all at).inside.methods.0 in
    omega (arith, there, few)

pub index_fits : MembersAreThere → (cs : List ClassFile) → IsResolved cs → (n : ℕ) (p : Place) → slice_get (methods_by_number cs) n ≡ Some p → p.1 < 65536
index_fits law cs is n p at = index_case cs p.0 p.1 (slice_get cs p.0) refl is.grammar ((law cs n p).0 at)

-- ---- the core classes come first

pub begins_with_core : (files : List (List ℕ)) (main : List ℕ) (cs : List ClassFile) → IsProgramOf files main cs → BeginsWithCore cs
unfolding linked_classes
begins_with_core files main cs h = record { others = h.classes ++ boot (calls_of h.classes) (main_name h.classes main) ∷ []; classes = h.program }
