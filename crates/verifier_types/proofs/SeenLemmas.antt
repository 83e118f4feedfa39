-- Types are told by what is seen of them.
use Rattle.std.proofs.Common.{◌≡◌, ℕ, zero, suc, refl, sym, ap, ◌∙◌}
use Rattle.bytecode_model.specs.Types.{Kind, OfClass, OfNumbers, OfReferences}
use Rattle.bytecode_typing.specs.Types as typing
use Rattle.program_tables.specs.Kinds.{arrays_of}
use Rattle.program_tables.specs.Tables.{base_kind}
use Rattle.program_tables.specs.declared.kinds.ObjectKind.{ObjectKind}
use Rattle.program_tables.specs.declared.kinds.Base.{Base}
use Rattle.program_tables.specs.declared.kinds.Base.TheVariants.{Class, Numbers}
use Rattle.verifier_types.specs.declared.types.VarType.{VarType}
use Rattle.verifier_types.specs.declared.types.VarType.TheVariants.{Top, Integer, LongInteger, Null, UninitializedThis, Uninitialized, Reference}
use Rattle.verifier_types.specs.Seen.{type_seen}

kind_back : Kind → ObjectKind
kind_back (OfClass c) = record { dimensions = 0; base = Class c }
kind_back (OfNumbers code) = record { dimensions = 0; base = Numbers code }
kind_back (OfReferences k) = record { dimensions = suc (kind_back k).dimensions; base = (kind_back k).base }

kind_again : (d : ℕ) (b : Base) → kind_back (arrays_of d (base_kind b)) ≡ record { dimensions = d; base = b }
unfolding kind_back
kind_again zero (Class c) = refl
kind_again zero (Numbers code) = refl
kind_again (suc d) b = ap (λ (k : ObjectKind). let l : ObjectKind = record { dimensions = suc k.dimensions; base = k.base } in l) (kind_again d b)

type_back : typing.VarType → VarType
type_back typing.Top = Top
type_back typing.Integer = Integer
type_back typing.LongInteger = LongInteger
type_back typing.NullReference = Null
type_back typing.UninitializedThis = UninitializedThis
type_back (typing.Uninitialized p) = Uninitialized p
type_back (typing.ReferenceTo k) = Reference (kind_back k)

type_again : (t : VarType) → type_back (type_seen t) ≡ t
unfolding type_back
type_again Top = refl
type_again Integer = refl
type_again LongInteger = refl
type_again Null = refl
type_again UninitializedThis = refl
type_again (Uninitialized p) = refl
type_again (Reference k) = ap Reference (kind_again k.dimensions k.base)

pub seen_as : (t u : VarType) → type_seen t ≡ type_seen u → t ≡ u
seen_as t u e = sym (type_again t) ∙ (ap type_back e ∙ type_again u)
