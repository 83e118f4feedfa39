-- Methods by the symbols of their names and descriptors.
use Rattle.std.specs.Prelude.{◌≡◌, ℕ, List, Option, Some, None}
use Rattle.class_pool.specs.declared.class.ClassFile.{ClassFile}
use Rattle.lists.specs.Lists.{onto}
use Rattle.class_lookup.specs.Parts.{Signature}
use Rattle.class_lookup.specs.Lookup.{Place, declared_method}
use Rattle.class_lookup.specs.Selection.{signature_at}
use Rattle.class_lookup.specs.Symbols.{symbol}
use Rattle.class_hierarchy.specs.declared.members.Named.{Named}

-- the method that the class declares of the name and the descriptor of this one
abbrev pub declared_as : List ClassFile → (method : Place) → (class : ℕ) → Option Place
declared_as cs m c = onto (signature_at cs m) (λ s. declared_method cs s c)

-- there is such a method, with these symbols
pub record HasSymbols (cs : List ClassFile) (m : Named) : Type 0 where
  pub signature : Signature
  pub has : signature_at cs m.place ≡ Some signature
  pub name_is : symbol cs signature.name ≡ Some m.name
  pub descriptor_is : symbol cs signature.descriptor ≡ Some m.descriptor

-- the method of this place, with its symbols; none where there is no method
abbrev pub IsNamedAt : List ClassFile → Place → Option Named → Type 0
IsNamedAt cs p None = signature_at cs p ≡ None
IsNamedAt cs p (Some m) = HasSymbols cs m × (m.place ≡ p)
