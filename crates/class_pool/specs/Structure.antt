-- Which values have bytes: numbers and lengths fit theirs, and the body of an attribute is of its kind.
use Rattle.std.specs.Prelude.{ℕ, ◌<◌, ◌^◌, List, length}
use Rattle.std.specs.List.{AllByRecursion}
use Rattle.class_pool.specs.declared.entry.Entry.{Entry}
use Rattle.class_pool.specs.declared.class.Attribute.{Attribute}
use Rattle.class_pool.specs.declared.class.Body.{Body}
use Rattle.class_pool.specs.declared.class.Body.TheVariants.{Code, ConstantValue, Bytes}
use Rattle.class_pool.specs.declared.class.Code.{Code as CodeParts}
use Rattle.class_pool.specs.declared.class.Member.{Member}
use Rattle.class_pool.specs.declared.class.ClassFile.{ClassFile}
use Rattle.class_pool.specs.declared.kind.Owner.{Owner}
use Rattle.class_pool.specs.declared.kind.Owner.TheVariants as owners
use Rattle.class_pool.specs.declared.kind.Kind.{Kind}
use Rattle.class_pool.specs.declared.kind.Kind.TheVariants as kinds
use Rattle.class_pool.specs.Kind.{kind_of}
use Rattle.class_pool.specs.ClassSpelling.{HandlerParts, NamedParts, body_bytes}

abbrev pub IsHalf : ℕ → Type 0
IsHalf n = n < 2 ^ 16

-- fewer than 65,536 items, each of which has bytes
abbrev pub AreCounted : {X : Type 0} → (X → Type 0) → List X → Type 0
AreCounted fits xs = (length xs < 2 ^ 16) × AllByRecursion fits xs

abbrev pub IsHandler : HandlerParts → Type 0
IsHandler h = IsHalf h.0 × IsHalf h.1 × IsHalf h.2 × IsHalf h.3

abbrev pub IsNamedInRange : NamedParts → Type 0
IsNamedInRange a = IsHalf a.0 × (length a.1 < 2 ^ 32)

pub record HasCodeRange (c : CodeParts) : Type 0 where
  pub max_stack : IsHalf c.max_stack
  pub max_locals : IsHalf c.max_locals
  pub length : length c.code < 2 ^ 32
  pub handlers : AreCounted IsHandler c.handlers
  pub attributes : AreCounted IsNamedInRange c.attributes

-- the body is of this kind
abbrev pub HasKind : Kind → Body → Type 0
HasKind kinds.Code (Code code) = HasCodeRange code
HasKind kinds.ConstantValue (ConstantValue constant) = IsHalf constant
HasKind kinds.Bytes (Bytes bytes) = Unit {0}
HasKind kinds.Code (ConstantValue constant) = ⊥
HasKind kinds.Code (Bytes bytes) = ⊥
HasKind kinds.ConstantValue (Code code) = ⊥
HasKind kinds.ConstantValue (Bytes bytes) = ⊥
HasKind kinds.Bytes (Code code) = ⊥
HasKind kinds.Bytes (ConstantValue constant) = ⊥

pub record IsAttribute (owner : Owner) (pool : List Entry) (a : Attribute) : Type 0 where
  pub name : IsHalf a.name
  pub size : length (body_bytes a.body) < 2 ^ 32
  pub body : HasKind (kind_of owner pool a.name) a.body

pub record HasMemberRange (owner : Owner) (pool : List Entry) (m : Member) : Type 0 where
  pub flags : IsHalf m.flags
  pub name : IsHalf m.name
  pub descriptor : IsHalf m.descriptor
  pub attributes : AreCounted (IsAttribute owner pool) m.attributes

-- what stands behind the pool has bytes
pub record HasPartsInRange (c : ClassFile) : Type 0 where
  pub flags : IsHalf c.flags
  pub this_class : IsHalf c.this_class
  pub super_class : IsHalf c.super_class
  pub interfaces : AreCounted IsHalf c.interfaces
  pub fields : AreCounted (HasMemberRange owners.Field c.pool) c.fields
  pub methods : AreCounted (HasMemberRange owners.Method c.pool) c.methods
  pub attributes : AreCounted (IsAttribute owners.Class c.pool) c.attributes
