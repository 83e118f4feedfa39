-- What is proved of verified programs, and of what fails first: JVM Specification SE 8, 4.7.3, 4.7.4, 4.9.1 and 4.10.1.
use Rattle.std.specs.Prelude.{◌≡◌, ◌↔◌, ◌⊎◌, ℕ, ◌<◌, ◌≤◌, true, false, List, Some, None, Contains, IsOk, Err}
use Rattle.std.specs.List.{AllByRecursion}
use Rattle.std.specs.Option.{IsSomeAnd}
use Rattle.opcodes.specs.Start.{first_bad}
use Rattle.class_pool.specs.declared.class.Code.{Code}
use Rattle.class_pool.specs.declared.class.Member.{Member}
use Rattle.class_pool.specs.declared.class.ClassFile.{ClassFile}
use Rattle.frame_types.specs.Frames.{frames_of}
use Rattle.program_tables.specs.Resolved.{resolved}
use Rattle.program_tables.specs.Resolving.{IsResolved}
use Rattle.bytecode_typing.specs.Types.{TypeFrame}
use Rattle.bytecode_typing.specs.Walk.{first_types}
use Rattle.bytecode_typing.specs.Typings as typings
use Rattle.bytecode_typing.specs.Typings.{IsTyping, HasMapFrames, HaveTypings}
use Rattle.bytecode_verifier.specs.Failure.{Broken, Opcode, Table, Map, Walk, is_bad_entry, maps_of, IsVerified, FailsFirst}
use Rattle.bytecode_verifier.specs.Methods.{IsCodeOf, method_of, body_of}

-- the entries of an exception table are in their form
abbrev pub IsTableOf : (code : List ℕ) → List (ℕ × ℕ × ℕ × ℕ) → Type 0
IsTableOf code entries = AllByRecursion (λ h. is_bad_entry code h ≡ false) entries

-- what is asked of a code before its instructions are typed: whole instructions, an exception table whose entries are in their form, and a
-- StackMapTable that gives frames
pub record HasForm (c : ClassFile) (m : Member) (k : Code) : Type 0 where
  pub instructions : first_bad k.code ≡ None
  pub table : IsTableOf k.code k.handlers
  pub frames : IsOk (frames_of c m k)

-- the method has frames of types at each instruction, which keep the rules
abbrev pub HasTyping : (cs : List ClassFile) (n : ℕ) (k : Code) → IsCodeOf cs n k → Type 0
HasTyping cs n k h =
    HasMapFrames (method_of cs n k h) (body_of cs n k h) (maps_of cs n)
    × ((fs : List (ℕ × TypeFrame)) × IsTyping (resolved cs) n (method_of cs n k h) (body_of cs n k h) (maps_of cs n) fs)

-- no method breaks a rule exactly where each code has its form and each method has a typing
abbrev pub VerifiedMeansTyped : Type 0
VerifiedMeansTyped =
    (cs : List ClassFile) → IsResolved cs
    → IsVerified cs ↔ (((n : ℕ) (k : Code) (h : IsCodeOf cs n k) → HasForm h.class h.member k) × HaveTypings (resolved cs) (maps_of cs))

-- ---- what fails first

-- the least start of an entry that is out of its form
pub record IsLeastBadStart (code : List ℕ) (entries : List (ℕ × ℕ × ℕ × ℕ)) (start : ℕ) : Type 0 where
  pub entry : ℕ × ℕ × ℕ × ℕ
  pub there : Contains entries entry
  pub bad : is_bad_entry code entry ≡ true
  pub here : entry.0 ≡ start
  pub least : (other : ℕ × ℕ × ℕ × ℕ) → Contains entries other → is_bad_entry code other ≡ true → start ≤ other.0

-- the rule fails first in the code of a method at this place: the rules before it hold, and the walk's fail in the order that typing gives them
abbrev pub BreaksAt : (cs : List ClassFile) (n : ℕ) (k : Code) → IsCodeOf cs n k → (pc : ℕ) → Broken → Type 0
BreaksAt cs n k h pc Opcode = first_bad k.code ≡ Some pc
BreaksAt cs n k h pc Table = (first_bad k.code ≡ None) × IsLeastBadStart k.code k.handlers pc
BreaksAt cs n k h pc Map =
    (first_bad k.code ≡ None) × IsTableOf k.code k.handlers
    × (((first_types (method_of cs n k h) (body_of cs n k h) ≡ None) × (pc ≡ 0))
    ⊎ (IsSomeAnd (first_types (method_of cs n k h) (body_of cs n k h)) (λ f. Unit {0}) × (frames_of h.class h.member k ≡ Err pc)))
BreaksAt cs n k h pc (Walk r) =
    HasForm h.class h.member k
    × IsSomeAnd (first_types (method_of cs n k h) (body_of cs n k h)) (λ f. Unit {0})
    × typings.BreaksOffAt (resolved cs) n (method_of cs n k h) (body_of cs n k h) (maps_of cs n) pc r

-- the least method whose code breaks a rule; those before it have their form and typings
pub record BreaksFirst (cs : List ClassFile) (n pc : ℕ) (r : Broken) : Type 0 where
  pub code : Code
  pub there : IsCodeOf cs n code
  pub breaks : BreaksAt cs n code there pc r
  pub before : (i : ℕ) → i < n → (k : Code) (h : IsCodeOf cs i k) → HasForm h.class h.member k × HasTyping cs i k h

-- what fails first in a program is the first failure of its least method without a typing
abbrev pub FirstFailureMeansFirst : Type 0
FirstFailureMeansFirst = (cs : List ClassFile) → IsResolved cs → (n pc : ℕ) (r : Broken) → FailsFirst cs n pc r ↔ BreaksFirst cs n pc r
