-- Definitions of `program_tables` and `class_lookup`, as words that proofs open only where they need what these say.
-- For proofs alone: each is a definition of those crates under another name, and no public contract's meaning rests on this file.
use Rattle.std.specs.Prelude.{ℕ, Bool, List, Option}
use Rattle.class_pool.specs.declared.class.Member.{Member}
use Rattle.class_pool.specs.declared.class.ClassFile.{ClassFile}
use Rattle.class_lookup.specs.Parts.{Signature}
use Rattle.class_lookup.specs.Lookup.{Place}
use Rattle.class_lookup.specs.Access.{is_accessible_member}
use Rattle.program_tables.specs.declared.refusal.Why.{Why}
use Rattle.program_tables.specs.Instructions.{Named}
use Rattle.program_tables.specs.Unresolved.{may_name_entry, may_use_field, may_use_method, is_named_rightly, is_special, is_right_method, why_class}
use Rattle.program_tables.specs.Unresolved.{why_class_use, why_field_found, why_field, why_method_found, why_method, why_named}

-- a member of the class owner may be used by the class caller through the class named
unfoldable pub accessible_member : List ClassFile → (caller named owner : ℕ) → Member → Bool
accessible_member cs caller named owner m = is_accessible_member cs caller named owner m

unfoldable pub nameable_entry : List ClassFile → (caller : ℕ) → ClassFile → (index : ℕ) → Bool
nameable_entry cs caller c index = may_name_entry cs caller c index

unfoldable pub usable_field : List ClassFile → (caller : ℕ) → ClassFile → (method : Signature) → (op index : ℕ) → Place → Member → Bool
usable_field cs caller c method op index f k = may_use_field cs caller c method op index f k

unfoldable pub found_field_reason : List ClassFile → (caller : ℕ) → ClassFile → (method : Signature) → (op index : ℕ) → Place → Option Member → Option Why
found_field_reason cs caller c method op index f k = why_field_found cs caller c method op index f k

unfoldable pub field_reason : List ClassFile → (caller : ℕ) → ClassFile → (method : Signature) → (op index : ℕ) → Signature → Option Why
field_reason cs caller c method op index s = why_field cs caller c method op index s

unfoldable pub usable_method : List ClassFile → (caller : ℕ) → ClassFile → (index : ℕ) → Place → Member → Bool
usable_method cs caller c index m k = may_use_method cs caller c index m k

unfoldable pub rightly_named : List ClassFile → (caller : ℕ) → ClassFile → (of_interface : Bool) → (op index : ℕ) → Bool
rightly_named cs caller c of_interface op index = is_named_rightly cs caller c of_interface op index

unfoldable pub rightly_special : List ClassFile → (caller : ℕ) → ClassFile → (index : ℕ) → Place → Bool
rightly_special cs caller c index m = is_special cs caller c index m

unfoldable pub right_method : List ClassFile → (caller : ℕ) → ClassFile → (of_interface : Bool) → (op index : ℕ) → Signature → Place → Member → Bool
right_method cs caller c of_interface op index s m k = is_right_method cs caller c of_interface op index s m k

unfoldable pub found_method_reason : List ClassFile → (caller : ℕ) → ClassFile → (of_interface : Bool) → (op index : ℕ) → Signature → Place → Option Member
    → Option Why
found_method_reason cs caller c of_interface op index s m k = why_method_found cs caller c of_interface op index s m k

unfoldable pub method_reason : List ClassFile → (caller : ℕ) → ClassFile → (of_interface : Bool) → (op index : ℕ) → Signature → Option Why
method_reason cs caller c of_interface op index s = why_method cs caller c of_interface op index s

unfoldable pub class_reason : List ClassFile → (caller : ℕ) → ClassFile → (index : ℕ) → Option Why
class_reason cs caller c index = why_class cs caller c index

unfoldable pub class_use_reason : List ClassFile → (caller : ℕ) → ClassFile → (op index : ℕ) → Option Why
class_use_reason cs caller c op index = why_class_use cs caller c op index

unfoldable pub named_reason : List ClassFile → (caller : ℕ) → ClassFile → (method : Signature) → (op : ℕ) → Option Named → Option Why
named_reason cs caller c method op named = why_named cs caller c method op named
