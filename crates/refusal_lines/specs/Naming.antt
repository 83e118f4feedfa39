-- What the line of a refusal names in the files, in the bytes that are written: a class whose name is taken, or what a pool entry names that isn't resolved.
use Rattle.std.specs.Prelude.{◌≡◌, ℕ, List, [], slice_get}
use Rattle.std.specs.Option.{option_map_or}
use Rattle.class_pool.specs.Utf8.{utf8_bytes}
use Rattle.class_pool.specs.Grammar.{entry_at}
use Rattle.class_pool.specs.declared.class.ClassFile.{ClassFile}
use Rattle.class_lookup.specs.Parts.{name_of}
use Rattle.core_classes.specs.Core.{core}
use Rattle.name_laws.specs.Written.{written}
use Rattle.program_resolution.specs.Resolving.{AreClassesOf}
use Rattle.program_resolution.specs.declared.refusal.ProgramRefusal.{ProgramRefusal}
use Rattle.program_resolution.specs.declared.refusal.ProgramRefusal.TheVariants.{Duplicate, Unresolved}
use Rattle.refusal_lines.specs.Entries.{unresolved_bytes}

-- the refusal's name in the files' classes; nothing where it names no class or member
abbrev pub named_bytes : List ClassFile → ProgramRefusal → List ℕ
named_bytes files (Duplicate file earlier) = option_map_or (λ k. utf8_bytes (name_of k)) (slice_get files file) []
named_bytes files (Unresolved file entry why) =
    option_map_or (λ k. option_map_or (unresolved_bytes core files k.pool why) (entry_at k.pool entry) []) (slice_get files file) []
named_bytes files refusal = []

-- the files are these classes, and this is written of the refusal's name in them
pub record IsNamedIn (files : List (List ℕ)) (refusal : ProgramRefusal) (name : List ℕ) : Type 0 where
  pub classes : List ClassFile
  pub read : AreClassesOf files classes
  pub is : name ≡ written (named_bytes classes refusal)

-- only the lines of these two refusals name something, of files that are class files
abbrev pub IsNamedByRefusal : (files : List (List ℕ)) → ProgramRefusal → (name : List ℕ) → Type 0
IsNamedByRefusal files (Duplicate file earlier) name = IsNamedIn files (Duplicate file earlier) name
IsNamedByRefusal files (Unresolved file entry why) name = IsNamedIn files (Unresolved file entry why) name
IsNamedByRefusal files refusal name = name ≡ []
