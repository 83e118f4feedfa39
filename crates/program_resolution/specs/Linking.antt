-- What the parts of resolving are given and what they answer.
use Rattle.std.specs.Prelude.{◌≡◌, ℕ, ◌+◌, ◌<◌, ◌≤◌, Bool, false, nat_le, if◌then◌else◌, List, [], ◌∷◌, ◌++◌, length, Some, None, find}
use Rattle.std.specs.List.{flat_map, range_with_len, AllByRecursion}
use Rattle.program_tables.specs.Core.{core_count}
use Rattle.lists.specs.Lists.{first}
use Rattle.class_pool.specs.declared.class.ClassFile.{ClassFile}
use Rattle.class_rules.specs.Grammar.{IsClass}
use Rattle.class_lookup.specs.Hierarchy.{is_on_a_cycle, IsAcyclic}
use Rattle.program_tables.specs.Tables.{HasFileLimits}
use Rattle.resolved_program.specs.Resolved.{AreResolved}
use Rattle.program_resolution.specs.declared.refusal.ProgramRefusal.{ProgramRefusal}
use Rattle.program_resolution.specs.declared.refusal.ProgramRefusal.TheVariants as answers
use Rattle.program_resolution.specs.Linked.{most_files, linked_classes, files_in}
use Rattle.program_resolution.specs.Refusals.{Names, Support, Supertypes, Places, passes, causes_in, refusals}

-- everything that refuses these classes, of which so many behind the core classes are files', where the class that is run declares main or doesn't
unfoldable pub refusals_of : List ClassFile → (files : ℕ) → (declares : Bool) → List ProgramRefusal
refusals_of cs files declares =
    flat_map (λ pass. causes_in cs pass (files_in cs files)) passes
    ++ ((if nat_le files most_files then [] else answers.TooManyClasses files most_files ∷ []) ++ (if declares then [] else answers.NoMain ∷ []))

-- what refuses them before what they name is looked at
abbrev pub early_refusals : List ClassFile → (files : ℕ) → List ProgramRefusal
early_refusals cs files =
    let ks = files_in cs files in
    causes_in cs Names ks ++ (causes_in cs Support ks ++ (causes_in cs Supertypes ks ++ causes_in cs Places ks))

-- the first of what refuses, or there was no memory
abbrev pub IsFirstOr : List ProgramRefusal → ProgramRefusal → Type 0
IsFirstOr refusals answers.NoMemory = Unit {0}
IsFirstOr refusals refusal = first refusals ≡ Some refusal

-- what is known of all classes before it is looked for what refuses them
pub record AreToLink (cs : List ClassFile) (files : ℕ) (declares : Bool) : Type 0 where
  pub there : core_count + files ≤ length cs
  pub grammar : AllByRecursion IsClass (files_in cs files)
  pub bounds : AllByRecursion HasFileLimits (files_in cs files)
  -- no core class is above itself, and no class at all where each file stands well
  pub core : causes_in cs Names (files_in cs files) ≡ [] → (c : ℕ) → c < core_count → is_on_a_cycle cs c ≡ false
  pub off : causes_in cs Names (files_in cs files) ≡ [] → causes_in cs Places (files_in cs files) ≡ []
      → find (is_on_a_cycle cs) (range_with_len 0 (length cs)) ≡ None
  pub resolved : refusals_of cs files declares ≡ [] → IsAcyclic cs → AreResolved cs

-- nothing refuses the classes, and they are the program
pub record AreAccepted (cs : List ClassFile) (files : ℕ) (declares : Bool) (made : List ClassFile) : Type 0 where
  pub none : refusals_of cs files declares ≡ []
  pub program : made ≡ cs

-- nothing refuses the files' classes, and the program is theirs
pub record IsLinked (ks : List ClassFile) (main : List ℕ) (made : List ClassFile) : Type 0 where
  pub none : refusals ks main ≡ []
  pub program : made ≡ linked_classes ks main
