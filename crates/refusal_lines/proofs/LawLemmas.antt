-- The classes that are there are those of the program.
use Rattle.std.proofs.Common.{◌≡◌, ℕ, suc, Bool, true, false, not, ◌||◌, if◌then◌else◌, List, [], ◌∷◌, ◌++◌, Option, Some, None, refl, sym, ap, ◌∙◌}
use Rattle.std.specs.Prelude.{find, is_some}
use Rattle.std.specs.List.{list_any}
use Rattle.std.proofs.lemmas.List.Folds.{list_any-append}
use Rattle.std.proofs.lemmas.Cmp.{nat_list_eq_equiv}
use Rattle.class_pool.specs.declared.class.ClassFile.{ClassFile}
use Rattle.lists.specs.Lists.{onto, index_of}
use Rattle.class_lookup.specs.Parts.{same_text, name_of}
use Rattle.core_classes.specs.Core.{core, boot, boot_plan}
use Rattle.core_classes.specs.Laws.{CoreIsNamed, BootSaysPlan}
use Rattle.program_tables.specs.Core.{boot_name}
use Rattle.program_tables.specs.Unresolved as program
use Rattle.program_resolution.specs.Linked.{calls_of, main_name, linked_classes}
use Rattle.program_resolution.proofs.RefusalLemmas.{few_calls}
use Rattle.refusal_lines.specs.Entries.{is_there, missing}
use Rattle.refusal_lines.specs.Laws.{MissingInProgram}

onto_found : (o : Option ℕ) → is_some (onto o (λ k. Some (suc k))) ≡ is_some o
onto_found None = refl
onto_found (Some k) = refl

found_any : {A : Type 0} (p : A → Bool) (xs : List A) → is_some (index_of p xs) ≡ list_any p xs
found_any p [] = refl
found_any p (x ∷ xs) = by (p x) (found_any p xs)
  where
    by : (b : Bool) → is_some (index_of p xs) ≡ list_any p xs → is_some (if b then Some 0 else onto (index_of p xs) (λ k. Some (suc k))) ≡ (b || list_any p xs)
    by true later = refl
    by false later = onto_found (index_of p xs) ∙ later

same_find : {X : Type 0} (p q : X → Bool) (xs : List X) → ((x : X) → p x ≡ q x) → find p xs ≡ find q xs
same_find p q [] h = refl
same_find p q (x ∷ xs) h = by (p x) (q x) (h x) (same_find p q xs h)
  where
    by : (a b : Bool) → a ≡ b → find p xs ≡ find q xs → (if a then Some x else find p xs) ≡ (if b then Some x else find q xs)
    by true true e later = refl
    by true false e later = absurd (cc)
    by false true e later = absurd (cc)
    by false false e later = later

or_nothing : (b : Bool) → (b || false) ≡ b
or_nothing true = refl
or_nothing false = refl

last_named : CoreIsNamed → BootSaysPlan → (files : List ClassFile) (main : List ℕ) → name_of (boot (calls_of files) (main_name files main)) ≡ boot_name
unfolding boot boot_plan
last_named named says files main = (says (calls_of files) (main_name files main) (few_calls named files)).name

last_is : CoreIsNamed → BootSaysPlan → (files : List ClassFile) (main name : List ℕ) → list_any (λ c. same_text (name_of c) name) (boot (calls_of files) (main_name files main) ∷ []) ≡ same_text name boot_name
last_is named says files main name =
    or_nothing (same_text (name_of (boot (calls_of files) (main_name files main))) name)
    ∙ (ap (λ (t : List ℕ). same_text t name) (last_named named says files main) ∙ nat_list_eq_equiv.symm boot_name name)

there_is : CoreIsNamed → BootSaysPlan → (files : List ClassFile) (main name : List ℕ) → is_there core files name ≡ program.is_there (linked_classes files main) name
unfolding linked_classes
there_is named says files main name =
    let p : ClassFile → Bool = λ c. same_text (name_of c) name in
    let last : ClassFile = boot (calls_of files) (main_name files main) in
    sym (found_any p (core ++ (files ++ last ∷ []))
    ∙ (list_any-append p core (files ++ last ∷ [])
    ∙ ap (λ (b : Bool). list_any p core || b) (list_any-append p files (last ∷ []) ∙ ap (λ (b : Bool). list_any p files || b) (last_is named says files main name))))

pub missing_in_program : CoreIsNamed → BootSaysPlan → MissingInProgram
unfolding missing
missing_in_program named says files main names =
    same_find (λ name. not (is_there core files name)) (λ name. not (program.is_there (linked_classes files main) name)) names (λ name. ap not (there_is named says files main name))
