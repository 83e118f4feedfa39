-- Why files are refused, and in which order: JVM Specification SE 8, 5.3 and 5.4. Passes one after the other; in each pass file by file; of each file
-- its places in their order; at each place the causes that hold there, in the order in which they are tried.
use Rattle.std.specs.Prelude.{ℕ, false, nat_le, if◌then◌else◌, List, [], ◌∷◌, ◌++◌, length, map, option_map}
use Rattle.std.specs.Option.{option_map_or, option_to_list}
use Rattle.std.specs.List.{flat_map, enumerate_from}
use Rattle.class_pool.specs.declared.class.ClassFile.{ClassFile}
use Rattle.program_tables.specs.Placed.{duplicate_of, is_badly_placed}
use Rattle.program_tables.specs.Unsupported.{unsupported_in}
use Rattle.unresolved_names.specs.Causes.{unresolved_supertypes, unresolved_mentions}
use Rattle.program_resolution.specs.declared.refusal.ProgramRefusal.{ProgramRefusal}
use Rattle.program_resolution.specs.declared.refusal.ProgramRefusal.TheVariants.{Duplicate, Unsupported, Unresolved, BadHierarchy, NoMain, TooManyClasses}
use Rattle.program_resolution.specs.Linked.{most_files, main_class, declares_main, linked_classes, number_of}

-- what is looked at in turn, once all files are read: names of classes; what isn't supported; superclasses and superinterfaces, whether they are there; the
-- hierarchy; all else that is named
pub data Pass : Type 0 where
  Names : Pass
  Support : Pass
  Supertypes : Pass
  Places : Pass
  Mentions : Pass

abbrev pub passes : List Pass
passes = Names ∷ Support ∷ Supertypes ∷ Places ∷ Mentions ∷ []

-- what holds of a file in a pass, in the order of its places, and at a place in the order in which it is tried
abbrev pub causes : List ClassFile → Pass → (file : ℕ) → ClassFile → List ProgramRefusal
causes cs Names file k = option_to_list (option_map (Duplicate file) (duplicate_of cs (number_of file)))
causes cs Support file k = map (λ u. Unsupported file u.0 u.1) (unsupported_in k)
causes cs Supertypes file k = map (λ u. Unresolved file u.0 u.1) (unresolved_supertypes cs (number_of file) k)
causes cs Places file k = if is_badly_placed cs (number_of file) then BadHierarchy file ∷ [] else []
causes cs Mentions file k = map (λ u. Unresolved file u.0 u.1) (unresolved_mentions cs (number_of file) k)

-- of all files
abbrev pub causes_in : List ClassFile → Pass → List ClassFile → List ProgramRefusal
causes_in cs pass ks = flat_map (λ e. causes cs pass e.0 e.1) (enumerate_from 0 ks)

-- of the files together: more than there may be; no main
abbrev pub too_many : List ClassFile → List ProgramRefusal
too_many ks = if nat_le (length ks) most_files then [] else TooManyClasses (length ks) most_files ∷ []

abbrev pub without_main : List ClassFile → (main : List ℕ) → List ProgramRefusal
without_main ks main = if option_map_or declares_main (main_class ks main) false then [] else NoMain ∷ []

-- everything that refuses these class files, in order
unfoldable pub refusals : List ClassFile → (main : List ℕ) → List ProgramRefusal
refusals ks main =
    let cs = linked_classes ks main in
    flat_map (λ pass. causes_in cs pass ks) passes ++ (too_many ks ++ without_main ks main)
