-- What stands behind the pool of a class file has room for its lengths.
use Rattle.std.proofs.Common.{◌≡◌, List, [], ◌∷◌, sym, subst}
use Rattle.std.specs.List.{AllByRecursion}
use Rattle.class_pool.specs.declared.entry.Entry.{Entry}
use Rattle.class_pool.specs.declared.class.Attribute.{Attribute}
use Rattle.class_pool.specs.declared.class.Body.{Body}
use Rattle.class_pool.specs.declared.class.Body.TheVariants.{Code, ConstantValue, Bytes}
use Rattle.class_pool.specs.declared.class.Member.{Member}
use Rattle.class_pool.specs.declared.kind.Owner.{Owner}
use Rattle.class_pool.specs.declared.kind.Kind.{Kind}
use Rattle.class_pool.specs.declared.kind.Kind.TheVariants as kinds
use Rattle.class_pool.specs.Kind.{kind_of}
use Rattle.class_pool.specs.Structure.{AreCounted, HasKind, IsAttribute, HasMemberRange}
use Rattle.class_file.specs.Writing.Room.{HasRoom, IsRoomy, IsRoomyMember}

has_room : (kind : Kind) (body : Body) → HasKind kind body → HasRoom body
has_room kinds.Code (Code code) h = h
has_room kinds.ConstantValue (Code code) h = absurd h
has_room kinds.Bytes (Code code) h = absurd h
has_room kind (ConstantValue constant) h = tt
has_room kind (Bytes bytes) h = tt

roomy : (owner : Owner) (pool : List Entry) (attributes : List Attribute) → AllByRecursion (IsAttribute owner pool) attributes → AllByRecursion IsRoomy attributes
roomy owner pool [] h = tt
roomy owner pool (a ∷ attributes) h = ((h.0.size, has_room (kind_of owner pool a.name) a.body h.0.body), roomy owner pool attributes h.1)

pub attributes_roomy : (owner : Owner) (pool : List Entry) (attributes found : List Attribute) → found ≡ attributes → AreCounted (IsAttribute owner pool) attributes → AreCounted IsRoomy found
attributes_roomy owner pool attributes found same h = subst (AreCounted IsRoomy) (sym same) (h.0, roomy owner pool attributes h.1)

members : (owner : Owner) (pool : List Entry) (all : List Member) → AllByRecursion (HasMemberRange owner pool) all → AllByRecursion IsRoomyMember all
members owner pool [] h = tt
members owner pool (m ∷ all) h = ((h.0.attributes.0, roomy owner pool m.attributes h.0.attributes.1), members owner pool all h.1)

pub members_roomy : (owner : Owner) (pool : List Entry) (all found : List Member) → found ≡ all → AreCounted (HasMemberRange owner pool) all → AreCounted IsRoomyMember found
members_roomy owner pool all found same h = subst (AreCounted IsRoomyMember) (sym same) (h.0, members owner pool all h.1)
