-- What the rules leave of a call once its arguments are taken: JVM Specification SE 8, 4.10.1.9 (invokespecial, invokevirtual and invokeinterface).
-- For contracts within this crate alone: no public contract's meaning rests on this file.
use Rattle.std.specs.Prelude.{ℕ, Bool, true, ◌&&◌, ◌++◌, List, Some}
use Rattle.bytecode_model.specs.Types.{OfClass}
use Rattle.bytecode_model.specs.Program.{Method}
use Rattle.bytecode_typing.specs.Types.{VarType, TypeFrame, is_reference_type, is_initialized, result_types}
use Rattle.bytecode_typing.specs.Rules as rule
use Rattle.bytecode_typing.specs.Rules.{Checked, Leaves, need, on_type}
use Rattle.bytecode_typing.specs.Checks as checks
use Rattle.verifier_types.specs.Site.{Site}

-- f is the frame before the instruction, `stack` what is left under the arguments, and `all` says whether these are initialised
module _ (s : Site) (f : TypeFrame) (named : ℕ) (all : Bool) where
  -- of an `<init>`
  abbrev pub init_left : (stack : List VarType) → Checked
  init_left stack =
      on_type stack (λ t rest. need (is_reference_type t) rule.Stack
      (Leaves (Some (checks.begun s.program s.number s.method s.body s.maps s.place f t rest)) true
      (all && checks.may_begin s.program s.number s.method s.body s.maps s.place f named t) true))

  -- of another method of the current class or of a superclass
  abbrev pub super_left : Method → (stack : List VarType) → Checked
  super_left k stack =
      on_type stack (λ t rest. need (checks.is_own_class s.program s.method named
      && checks.is_seen_as s.program s.number s.method s.body s.maps s.place f (OfClass s.method.owner) t) rule.Stack
      (Leaves (Some (record f { stack = result_types k.result ++ rest })) (checks.may_access s.program s.number s.method s.body s.maps s.place f t)
      (is_initialized t && all) true))

  -- of one that the receiver's class selects
  abbrev pub virtual_left : Method → (stack : List VarType) → Checked
  virtual_left k stack =
      on_type stack (λ t rest. need (checks.is_seen_as s.program s.number s.method s.body s.maps s.place f (OfClass named) t) rule.Stack
      (Leaves (Some (record f { stack = result_types k.result ++ rest })) (checks.may_access s.program s.number s.method s.body s.maps s.place f t)
      (is_initialized t && all) true))
