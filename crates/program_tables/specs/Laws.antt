-- What holds of the numbers of every list of classes.
use Rattle.std.specs.Prelude.{◌≡◌, ℕ, ◌<◌, List, length, Some, is_some, IsTrue, slice_get}
use Rattle.std.specs.Option.{IsSomeAnd}
use Rattle.class_pool.specs.declared.class.ClassFile.{ClassFile}
use Rattle.bytecode_model.specs.Types.{Kind, OfReferences, same_kind}
use Rattle.bytecode_model.specs.Lists.{onto, index_of}
use Rattle.program_tables.specs.Numbers.{methods_by_number, fields_by_number, types_of}
use Rattle.class_lookup.specs.Lookup.{Place}
use Rattle.program_tables.specs.Resolved.{resolved_method, resolved_methods}

-- the component of an array of references that is among the types is among them too
abbrev pub ComponentsAreTypes : Type 0
ComponentsAreTypes = (cs : List ClassFile) (number : ℕ) (k : Kind) → slice_get (types_of cs) number ≡ Some (OfReferences k)
    → IsTrue (is_some (index_of (same_kind k) (types_of cs)))

-- the method of a number is the one whose place has the number
abbrev pub MethodsStandByNumber : Type 0
MethodsStandByNumber = (cs : List ClassFile) (number : ℕ) → slice_get (resolved_methods cs) number ≡ onto (slice_get (methods_by_number cs) number)
    (resolved_method cs)

-- a member that has a number stands at its place
abbrev pub MembersAreThere : Type 0
MembersAreThere = (cs : List ClassFile) (number : ℕ) (p : Place)
    → (slice_get (methods_by_number cs) number ≡ Some p → IsSomeAnd (slice_get cs p.0) (λ c. p.1 < length c.methods))
    × (slice_get (fields_by_number cs) number ≡ Some p → IsSomeAnd (slice_get cs p.0) (λ c. p.1 < length c.fields))
