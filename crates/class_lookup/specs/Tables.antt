-- What the tables of classes say.
use Rattle.std.specs.Prelude.{◌≡◌, ℕ, ◌==◌, List, length, map, Option, None, Some, slice_get, slice_index_or}
use Rattle.std.specs.List.{filter_map, AllZip}
use Rattle.class_pool.specs.declared.class.Member.{Member}
use Rattle.class_pool.specs.declared.class.ClassFile.{ClassFile}
use Rattle.lists.specs.Lists.{index_of}
use Rattle.class_lookup.specs.declared.symbols.Symbols.{Symbols}
use Rattle.class_lookup.specs.declared.names.Names.{Names}
use Rattle.class_lookup.specs.declared.members.Members.{Members}
use Rattle.class_lookup.specs.Parts.{same_text, name_of, same_package, superclass_name, superinterface_names}
use Rattle.class_lookup.specs.Hierarchy.{find_class}
use Rattle.class_lookup.specs.Symbols.{texts, symbol}
use Rattle.class_lookup.specs.Numbered.{HaveNumbers, IsIndexed}

-- the texts of the classes, and the symbol of each entry of their pools
pub record AreSymbols (cs : List ClassFile) (s : Symbols) : Type 0 where
  pub texts : s.texts ≡ texts cs
  pub entries : AllZip (λ c numbers. HaveNumbers s.texts c.pool numbers) cs s.entries.items

-- for each symbol the number of the first of these classes whose name is its text
pub record AreNamed (cs named : List ClassFile) (numbers : List (Option ℕ)) : Type 0 where
  pub long : length numbers ≡ length (texts cs)
  pub each : (text : List ℕ) (n : ℕ) → symbol cs text ≡ Some n → slice_index_or numbers n None ≡ index_of (λ c. same_text (name_of c) text) named

-- classes have one number exactly where they are of one package
pub record ArePackages (cs : List ClassFile) (numbers : List ℕ) : Type 0 where
  pub long : length numbers ≡ length cs
  pub each : (c d : ℕ) (k l : ClassFile) → slice_get cs c ≡ Some k → slice_get cs d ≡ Some l
      → (slice_index_or numbers c 0 == slice_index_or numbers d 0) ≡ same_package k l

pub record AreNames (cs : List ClassFile) (names : Names) : Type 0 where
  pub classes : AreNamed cs cs names.classes.items
  pub supers : names.supers.items ≡ map (λ k. find_class cs (superclass_name k)) cs
  pub interfaces : names.interfaces.items ≡ map (λ k. filter_map (find_class cs) (superinterface_names k)) cs
  pub packages : ArePackages cs names.packages.items

-- for each class the first of its members with each name and descriptor
abbrev pub AreIndexed : (cs : List ClassFile) (members : ClassFile → List Member) (table : List (List ((ℕ × ℕ) × ℕ))) → Type 0
AreIndexed cs members table = AllZip (λ c index. IsIndexed (texts cs) c (members c) index) cs table

pub record AreMemberTables (cs : List ClassFile) (members : Members) : Type 0 where
  pub fields : AreIndexed cs (λ c. c.fields) members.fields.items
  pub methods : AreIndexed cs (λ c. c.methods) members.methods.items
