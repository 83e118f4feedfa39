-- The frames of a method, each as what its entry of the StackMapTable changes: JVM Specification SE 8, 4.7.4.
-- Local variables are counted here as a StackMapTable counts them: a Long is one type, which takes two of them.
use Rattle.std.specs.Prelude.{◌≡◌, ℕ, List, [], ◌∷◌, map, Some, Result, Ok, Err}
use Rattle.class_pool.specs.declared.entry.Entry.{Entry}
use Rattle.class_pool.specs.declared.class.Code.{Code}
use Rattle.class_pool.specs.declared.class.Member.{Member}
use Rattle.class_pool.specs.declared.class.ClassFile.{ClassFile}
use Rattle.class_lookup.specs.Parts.{class_text}
use Rattle.frame_types.specs.declared.types.VarType.{VarType}
use Rattle.frame_types.specs.declared.types.VarType.TheVariants as types
use Rattle.frame_types.specs.declared.types.TypeFrame.{TypeFrame}
use Rattle.frame_types.specs.declared.types.Frames.{Frames}
use Rattle.frame_types.specs.declared.types.MapFault.{MapFault}
use Rattle.frame_types.specs.declared.read.Change.{Change}
use Rattle.frame_types.specs.declared.read.Change.TheVariants as changes
use Rattle.frame_types.specs.declared.steps.EntryType.{EntryType}
use Rattle.frame_types.specs.declared.steps.EntryType.TheVariants.{Top, Integer, Long, Null, UninitializedThis, Object, Uninitialized}
use Rattle.frame_types.specs.declared.steps.StepChange.{StepChange}
use Rattle.frame_types.specs.declared.steps.StepChange.TheVariants.{Same, OneItem, Chop, Append, Full}
use Rattle.frame_types.specs.declared.steps.MapStep.{MapStep}
use Rattle.frame_types.specs.declared.steps.FirstLocal.{FirstLocal}
use Rattle.frame_types.specs.Types.{words_of, is_this}
use Rattle.frame_types.specs.Locals.{first_locals}
use Rattle.frame_types.specs.Frames.{changed, frame_of, IsMapFault}

-- a type with the name that its Class entry gives
abbrev pub named : List Entry → EntryType → VarType
named pool Top = types.Top
named pool Integer = types.Integer
named pool Long = types.Long
named pool Null = types.Null
named pool UninitializedThis = types.UninitializedThis
named pool (Object index) = types.Object (class_text pool index)
named pool (Uninitialized place) = types.Uninitialized place

abbrev pub change_named : List Entry → StepChange → Change
change_named pool Same = changes.Same
change_named pool (OneItem item) = changes.OneItem (named pool item)
change_named pool (Chop n) = changes.Chop n
change_named pool (Append more) = changes.Append (map (named pool) more)
change_named pool (Full all stack) = changes.Full (map (named pool) all) (map (named pool) stack)

-- the steps, from these local variables on, give these frames one after another
abbrev pub AreSteps : List Entry → Code → (locals : List VarType) → List MapStep → List (ℕ × TypeFrame) → Type 0
AreSteps pool k locals [] [] = Unit {0}
AreSteps pool k locals (s ∷ ss) (x ∷ xs) =
    (after : List VarType) × (stack : List VarType) × (changed (change_named pool s.change) locals ≡ Some (after, stack)) × (frame_of k after stack ≡ Some x.1)
    × (x.0 ≡ s.place) × (x.1.flag ≡ s.flag) × AreSteps pool k after ss xs
AreSteps pool k locals ss xs = ⊥

-- what the rules on frames ask of the type of a local variable
abbrev pub first_local : VarType → FirstLocal
first_local t = record { words = words_of t; this = is_this t }

-- these are the local variables with which the method begins
abbrev pub BeginsWith : ClassFile → Member → List FirstLocal → Type 0
BeginsWith c m first = (locals : List VarType) × (first_locals c m ≡ Some locals) × (map first_local locals ≡ first)

-- the steps of a method give its frames, from the local variables with which it begins; or it has none
abbrev pub IsStepwise : ClassFile → Member → Code → Result (List MapStep) MapFault → (found : Result Frames ℕ) → Type 0
IsStepwise c m k (Ok at) found = (f : Frames) × (locals : List VarType) × (found ≡ Ok f) × (first_locals c m ≡ Some locals)
    × (frame_of k locals [] ≡ Some f.first) × AreSteps c.pool k locals at f.at
IsStepwise c m k (Err fault) found = IsMapFault fault found
