-- What a class names and can't be resolved, in the order in which it is tried: JVM Specification SE 8, 5.4.3, 5.4.4 and 6.5.
use Rattle.std.specs.Prelude.{ℕ, ◌==◌, if◌then◌else◌, List, [], Option, option_map}
use Rattle.std.specs.Option.{option_to_list}
use Rattle.std.specs.List.{flat_map}
use Rattle.class_pool.specs.declared.entry.Entry.{Entry}
use Rattle.class_pool.specs.declared.class.ClassFile.{ClassFile}
use Rattle.class_pool.specs.declared.class.Member.{Member}
use Rattle.class_lookup.specs.Parts.{Signature, signature_of}
use Rattle.class_pool.specs.Grammar.{text_at}
use Rattle.program_tables.specs.declared.refusal.Why.{Why}
use Rattle.program_tables.specs.Placed.{supertype_entries}
use Rattle.program_tables.specs.Instructions.{Placed, index_of_entry, named_in}
use Rattle.program_tables.specs.declared.refusal.Why.TheVariants.{NoClass}
use Rattle.program_tables.specs.Kinds.{class_in_entry}
use Rattle.program_tables.specs.Unresolved.{unless, are_there, why_class, why_named, Mention, mentions_in, entry_of, why}

abbrev pub signature_seen : (name descriptor : List ℕ) → Signature
signature_seen name descriptor = record { name = name; descriptor = descriptor }

-- the name and the descriptor at these indexes of a pool
abbrev pub signature_at : List Entry → (name descriptor : ℕ) → Signature
signature_at pool name descriptor = signature_seen (text_at pool name) (text_at pool descriptor)

-- an entry with the reason why what it names isn't resolved, if there is one
abbrev pub refused_entry : (entry : ℕ) → Option Why → List (ℕ × Why)
refused_entry entry reason = option_to_list (option_map (λ w. (entry, w)) reason)

-- a class that a list of supertypes or an exception table names by a Class entry
unfoldable pub refused_class : List ClassFile → (class : ℕ) → ClassFile → (index : ℕ) → List (ℕ × Why)
refused_class cs c k index = refused_entry index (why_class cs c k index)

-- the class that an entry of an exception table names by its index, or 0 (4.7.3)
abbrev pub refused_catch : List ClassFile → (class : ℕ) → ClassFile → (index : ℕ) → List (ℕ × Why)
refused_catch cs c k index = if index == 0 then [] else refused_class cs c k index

-- a class that a frame names, which only has to be there
unfoldable pub refused_frame_class : List ClassFile → ClassFile → (index : ℕ) → List (ℕ × Why)
refused_frame_class cs k index = refused_entry index (unless (are_there cs (class_in_entry k.pool index)) NoClass)

-- what an instruction of the method names
unfoldable pub refused_instruction : List ClassFile → (class : ℕ) → ClassFile → Member → Placed → List (ℕ × Why)
refused_instruction cs c k m p = refused_entry (index_of_entry p.instr) (why_named cs c k (signature_of k m) p.instr.op (named_in k p.instr))

unfoldable pub refused_mention : List ClassFile → (class : ℕ) → ClassFile → Mention → List (ℕ × Why)
refused_mention cs c k m = refused_entry (entry_of k m) (why cs c k m)

-- ---- in a class

-- the superclass, then the superinterfaces in order
unfoldable pub unresolved_supertypes : List ClassFile → (class : ℕ) → ClassFile → List (ℕ × Why)
unresolved_supertypes cs c k = flat_map (refused_class cs c k) (supertype_entries k)

-- all else that the class names
unfoldable pub unresolved_mentions : List ClassFile → (class : ℕ) → ClassFile → List (ℕ × Why)
unresolved_mentions cs c k = flat_map (refused_mention cs c k) (mentions_in k)
