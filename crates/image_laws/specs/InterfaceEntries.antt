-- The first word of an entry for a method of an interface is 0: JVM Specification SE 8, 4.4.2, 6.5.invokespecial and 6.5.invokestatic.
use Rattle.std.specs.Prelude.{◌≡◌, ℕ, ◌-◌, List, [], ◌∷◌, ◌++◌, length, Some, slice_get}
use Rattle.class_pool.specs.declared.entry.Entry.TheVariants as entries
use Rattle.class_pool.specs.Grammar.{entry_at}
use Rattle.class_pool.specs.declared.class.ClassFile.{ClassFile}
use Rattle.lists.specs.Lists.{onto}
use Rattle.image_facts.specs.Places.{Places}
use Rattle.core_classes.specs.Core.{boot}
use Rattle.program_tables.specs.Instructions.{signature_in}
use Rattle.program_tables.specs.Operands.{method_named}
use Rattle.program_tables.specs.Resolving.{IsResolved}
use Rattle.image_words.specs.Pools.{taken_place, interface_word, words_of_entry, entry_words}

-- The class that is run first is the made one, and stands last. It alone may name initialization methods of interfaces, which have code; it does so
-- by entries for methods of classes, while another class of its name could use entries for methods of interfaces.
abbrev pub HasBoot : List ClassFile → Type 0
HasBoot cs = (calls : List (List ℕ)) × (main : List ℕ) × (slice_get cs (length cs - 1) ≡ Some (boot calls main))

-- as where it stands behind the core classes and those of the files
abbrev pub BootStandsLast : Type 0
BootStandsLast = (first files : List ClassFile) (calls : List (List ℕ)) (main : List ℕ) → HasBoot (first ++ (files ++ boot calls main ∷ []))

-- an entry of a class for a method of an interface
pub record IsInterfaceEntry (cs : List ClassFile) (c : ℕ) (k : ClassFile) (index owner member : ℕ) : Type 0 where
  pub class : slice_get cs c ≡ Some k
  pub entry : entry_at k.pool index ≡ Some (entries.InterfaceMethod owner member)

-- the made class has no such entry
abbrev pub BootHasNoInterfaceEntry : Type 0
BootHasNoInterfaceEntry = (calls : List (List ℕ)) (main : List ℕ) (index owner member : ℕ)
    → entry_at (boot calls main).pool index ≡ Some (entries.InterfaceMethod owner member) → ⊥

-- no invokespecial and no invokestatic takes a method by such an entry
abbrev pub InterfaceEntriesTakeNothing : Type 0
InterfaceEntriesTakeNothing = (cs : List ClassFile) → IsResolved cs → HasBoot cs → (pl : Places) (c : ℕ) (k : ClassFile) (index owner member : ℕ)
    → IsInterfaceEntry cs c k index owner member → taken_place cs pl c k index ≡ 0

-- so the first word of what it means is 0
abbrev pub InterfaceEntriesBeginWithZero : Type 0
InterfaceEntriesBeginWithZero = (cs : List ClassFile) → IsResolved cs → HasBoot cs → (pl : Places) (c : ℕ) (k : ClassFile) (index owner member : ℕ)
    → IsInterfaceEntry cs c k index owner member
    → words_of_entry cs pl c k index (entry_at k.pool index) ≡ 0 ∷ interface_word cs (onto (signature_in k.pool member) (method_named cs k owner)) ∷ []

-- and so is the first word in the image, whether an instruction names the entry or not
abbrev pub InterfaceWordsBeginWithZero : Type 0
InterfaceWordsBeginWithZero = (cs : List ClassFile) → IsResolved cs → HasBoot cs → (pl : Places) (c : ℕ) (k : ClassFile) (index owner member : ℕ)
    → IsInterfaceEntry cs c k index owner member
    → (second : ℕ) × (entry_words cs pl c k index ≡ 0 ∷ second ∷ [])
