-- Access to classes and members: JVM Specification SE 8, 5.4.4; and to final fields: 6.5.putfield and 6.5.putstatic.
use Rattle.std.specs.Prelude.{ℕ, Bool, true, false, not, ◌&&◌, ◌||◌, ◌==◌, List, Option, Some, if◌then◌else◌, slice_get}
use Rattle.class_pool.specs.declared.class.Member.{Member}
use Rattle.class_pool.specs.declared.class.ClassFile.{ClassFile}
use Rattle.class_lookup.specs.Parts.{Signature, is_public_class, same_package, is_public, is_private, is_protected, is_static, is_final, is_init, is_clinit}
use Rattle.class_lookup.specs.Hierarchy.{is_subclass}

abbrev pub both : (ClassFile → ClassFile → Bool) → Option ClassFile → Option ClassFile → Bool
both holds (Some c) (Some d) = holds c d
both holds c d = false

-- both classes are of one package (5.3)
abbrev pub are_in_one_package : List ClassFile → (class other : ℕ) → Bool
are_in_one_package cs c d = both same_package (slice_get cs c) (slice_get cs d)

-- the second class is public, or of the package of the first
abbrev pub is_accessible_class : List ClassFile → (class other : ℕ) → Bool
is_accessible_class cs c d = both (λ k l. is_public_class l || same_package k l) (slice_get cs c) (slice_get cs d)

-- the class is the caller, a subclass of it or a superclass of it
abbrev pub is_related : List ClassFile → (caller class : ℕ) → Bool
is_related cs c d = c == d || is_subclass cs d c || is_subclass cs c d

-- a member of the class owner, named through a class by the class caller
abbrev pub is_accessible_member : List ClassFile → (caller named owner : ℕ) → Member → Bool
is_accessible_member cs caller named owner m =
    if is_public m then true
    else if is_private m then caller == owner
    else if is_protected m then are_in_one_package cs caller owner || (is_subclass cs caller owner && (is_static m || is_related cs caller named))
    else are_in_one_package cs caller owner

-- a field of the class owner may be written by a method of the class caller: a final one only by its class's own initialization methods
abbrev pub is_writable_field : (caller owner : ℕ) → (method : Signature) → Member → Bool
is_writable_field caller owner method f = not (is_final f) || (caller == owner && (if is_static f then is_clinit method else is_init method))
