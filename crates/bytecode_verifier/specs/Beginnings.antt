-- The frame with which a method begins, by the names of classes and as typing gives it: JVM Specification SE 8, 4.10.1.6.
use Rattle.std.specs.Prelude.{◌≡◌, ◌++◌, ℕ, List, [], map, Some, None, Ok, Err}
use Rattle.std.specs.Option.{option_map}
use Rattle.class_pool.specs.declared.class.Code.{Code}
use Rattle.class_pool.specs.declared.class.ClassFile.{ClassFile}
use Rattle.frame_types.specs.declared.types.VarType.{VarType}
use Rattle.frame_types.specs.declared.types.Frames.{Frames}
use Rattle.frame_types.specs.Locals.{first_locals}
use Rattle.frame_types.specs.Frames.{frame_of, frames_of}
use Rattle.program_tables.specs.Resolving.{IsResolved}
use Rattle.bytecode_typing.specs.Types.{type_of}
use Rattle.bytecode_typing.specs.Walk.{this_types, first_types}
use Rattle.bytecode_verifier.specs.Named.{type_by, frame_by}
use Rattle.bytecode_verifier.specs.Methods.{IsCodeOf, method_of, body_of}

-- the code of a method of the classes
pub record BeginsAlike (cs : List ClassFile) (n : ℕ) (k : Code) (h : IsCodeOf cs n k) : Type 0 where
  -- each of its parameters has a type, and the first frame is that of typing; both are none where the local variables pass the method's
  pub locals : List VarType
  pub locals_are : first_locals h.class h.member ≡ Some locals
  -- these types by number are `this` and the parameters
  pub types : map (type_by cs) locals ≡ this_types (method_of cs n k h) ++ map type_of (method_of cs n k h).parameters
  pub same : option_map (frame_by cs) (frame_of k locals []) ≡ first_types (method_of cs n k h) (body_of cs n k h)
  -- so what its frames give as the first one is that of typing
  pub first : (f : Frames) → frames_of h.class h.member k ≡ Ok f → first_types (method_of cs n k h) (body_of cs n k h) ≡ Some (frame_by cs f.first)
  -- and where typing gives none, the rule on its StackMapTable fails at place 0
  pub none : first_types (method_of cs n k h) (body_of cs n k h) ≡ None → frames_of h.class h.member k ≡ Err 0

abbrev pub FirstFramesAgree : Type 0
FirstFramesAgree = (cs : List ClassFile) → IsResolved cs → (n : ℕ) (k : Code) (h : IsCodeOf cs n k) → BeginsAlike cs n k h
