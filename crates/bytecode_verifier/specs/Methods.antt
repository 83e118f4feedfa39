-- The code of a method of a program, and what is found of it.
use Rattle.std.specs.Prelude.{◌≡◌, ℕ, List, Some, Result, Ok, Err, slice_get}
use Rattle.class_pool.specs.declared.class.Code.{Code}
use Rattle.class_pool.specs.declared.class.Member.{Member}
use Rattle.class_pool.specs.declared.class.ClassFile.{ClassFile}
use Rattle.class_pool.specs.Found.{code_of}
use Rattle.class_lookup.specs.Lookup.{Place}
use Rattle.bytecode_model.specs.Program.{Method, Body}
use Rattle.bytecode_typing.specs.Types.{VarType}
use Rattle.frame_types.specs.declared.types.Frames.{Frames}
use Rattle.frame_types.specs.declared.types.MapFault.{MapFault}
use Rattle.frame_types.specs.declared.types.MapFault.TheVariants.{Bad, NoMemory}
use Rattle.frame_types.specs.Frames.{frames_of}
use Rattle.program_tables.specs.Numbers.{methods_by_number}
use Rattle.program_tables.specs.Resolved.{method_in, body_in}
use Rattle.verifier_types.specs.declared.checked.Rule.{Rule}
use Rattle.verifier_types.specs.Site.{rule_seen}
use Rattle.bytecode_verifier.specs.declared.fault.MethodRule.{MethodRule}
use Rattle.bytecode_verifier.specs.declared.maps.MapFrames.{MapFrames}
use Rattle.bytecode_verifier.specs.Failure.{Failure, Walk, broken_seen, maps_in}
use Rattle.bytecode_verifier.specs.Maps.{AreGiven}

-- where the code stands that the method of this number has
pub record IsCodeOf (cs : List ClassFile) (number : ℕ) (k : Code) : Type 0 where
  pub place : Place
  pub class : ClassFile
  pub member : Member
  pub by_number : slice_get (methods_by_number cs) number ≡ Some place
  pub in_classes : slice_get cs place.0 ≡ Some class
  pub in_methods : slice_get class.methods place.1 ≡ Some member
  pub has_code : code_of member ≡ Some k

-- that method, and its body
abbrev pub method_of : (cs : List ClassFile) (n : ℕ) (k : Code) → IsCodeOf cs n k → Method
method_of cs n k h = method_in cs h.place.0 h.class h.member

abbrev pub body_of : (cs : List ClassFile) (n : ℕ) (k : Code) → IsCodeOf cs n k → Body
body_of cs n k h = body_in cs h.class k

-- the frames of the StackMapTable, by names
abbrev pub found_in : (cs : List ClassFile) (n : ℕ) (k : Code) → IsCodeOf cs n k → Result Frames ℕ
found_in cs n k h = frames_of h.class h.member k

-- the frames by place are those, the lists of types of local variables being these and perhaps others behind them, or the fault is the place at which they fail
abbrev pub AreMaps : List (List VarType) → List ClassFile → Result Frames ℕ → Result MapFrames MapFault → Type 0
AreMaps ls cs found (Ok maps) = (fs : Frames) × (found ≡ Ok fs) × AreGiven ls maps (maps_in cs (Ok fs))
AreMaps ls cs found (Err (Bad place)) = found ≡ Err place
AreMaps ls cs found (Err NoMemory) = Unit {0}

-- ---- what the code answers

abbrev pub failure_seen : ℕ × MethodRule → Failure
failure_seen x = (x.0, broken_seen x.1)

abbrev pub walk_failed : ℕ × Rule → Failure
walk_failed x = (x.0, Walk (rule_seen x.1))
