-- What is read behind a pool: what a class is, then what it has.
use Rattle.std.specs.Prelude.{ℕ, List, ◌++◌}
use Rattle.class_pool.specs.declared.entry.Entry.{Entry}
use Rattle.class_pool.specs.declared.class.ClassFile.{ClassFile}
use Rattle.class_pool.specs.declared.kind.Owner.TheVariants as owners
use Rattle.class_pool.specs.Spelling.{u2}
use Rattle.class_pool.specs.ClassSpelling.{counted, attribute_bytes, member_bytes}
use Rattle.class_pool.specs.Structure.{IsHalf, AreCounted, IsAttribute, HasMemberRange}
use Rattle.class_file.specs.declared.structure.Identity.{Identity}
use Rattle.class_file.specs.declared.structure.Members.{Members}

abbrev pub identity_bytes : Identity → List ℕ
identity_bytes i = u2 i.flags ++ (u2 i.this_class ++ (u2 i.super_class ++ counted u2 i.interfaces))

abbrev pub members_bytes : Members → List ℕ
members_bytes m = counted member_bytes m.fields ++ (counted member_bytes m.methods ++ counted attribute_bytes m.attributes)

abbrev pub identity_of : ClassFile → Identity
identity_of c = record { flags = c.flags; this_class = c.this_class; super_class = c.super_class; interfaces = c.interfaces }

abbrev pub members_of : ClassFile → Members
members_of c = record { fields = c.fields; methods = c.methods; attributes = c.attributes }

pub record IsIdentity (i : Identity) : Type 0 where
  pub flags : IsHalf i.flags
  pub this_class : IsHalf i.this_class
  pub super_class : IsHalf i.super_class
  pub interfaces : AreCounted IsHalf i.interfaces

pub record AreReadMembers (pool : List Entry) (m : Members) : Type 0 where
  pub fields : AreCounted (HasMemberRange owners.Field pool) m.fields
  pub methods : AreCounted (HasMemberRange owners.Method pool) m.methods
  pub attributes : AreCounted (IsAttribute owners.Class pool) m.attributes
