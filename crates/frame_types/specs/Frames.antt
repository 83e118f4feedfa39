-- The frames of a method: JVM Specification SE 8, 4.7.4 and 4.10.1.6.
-- Local variables are counted here as a StackMapTable counts them: a Long is one type, which takes two of them.
use Rattle.std.specs.Prelude.{◌≡◌, ℕ, ◌+◌, ◌-◌, ◌&&◌, nat_le, if◌then◌else◌, List, [], ◌∷◌, ◌++◌, length, take, Option, Some, None, Result, Ok, Err}
use Rattle.std.specs.List.{list_all, list_any}
use Rattle.lists.specs.Lists.{onto}
use Rattle.bytecode_model.specs.Slots.{spread, padded}
use Rattle.class_pool.specs.declared.class.Code.{Code}
use Rattle.class_pool.specs.declared.class.Member.{Member}
use Rattle.class_pool.specs.declared.class.ClassFile.{ClassFile}
use Rattle.frame_types.specs.declared.types.VarType.{VarType}
use Rattle.frame_types.specs.declared.types.VarType.TheVariants.{Top}
use Rattle.frame_types.specs.declared.types.TypeFrame.{TypeFrame}
use Rattle.frame_types.specs.declared.types.Frames.{Frames}
use Rattle.frame_types.specs.declared.types.MapFault.{MapFault}
use Rattle.frame_types.specs.declared.types.MapFault.TheVariants as faults
use Rattle.frame_types.specs.declared.read.Change.{Change}
use Rattle.frame_types.specs.declared.read.Change.TheVariants.{Same, OneItem, Chop, Append, Full}
use Rattle.frame_types.specs.declared.read.MapEntry.{MapEntry}
use Rattle.frame_types.specs.Types.{is_long, stack_words, is_this, is_start, names_new}
use Rattle.frame_types.specs.Table.{entries_of}
use Rattle.frame_types.specs.Locals.{first_locals}

-- what an entry makes of the local variables of the frame before it: the local variables and the operand stack; none where it takes away absent ones
abbrev pub changed : Change → (locals : List VarType) → Option (List VarType × List VarType)
changed Same locals = Some (locals, [])
changed (OneItem item) locals = Some (locals, item ∷ [])
changed (Chop n) locals = if nat_le n (length locals) then Some (take (length locals - n) locals, []) else None
changed (Append more) locals = Some (locals ++ more, [])
changed (Full all stack) locals = Some (all, stack)

-- the local variables are at most the method's, and the rest of those are Top; the stack has room; each `new` that is named is there. The flag is set
-- exactly where one of the local variables is UninitializedThis.
abbrev pub frame_of : Code → (locals stack : List VarType) → Option TypeFrame
frame_of k locals stack =
    if nat_le (stack_words stack) k.max_stack && (list_all (names_new k.code) locals && list_all (names_new k.code) stack)
    then onto (padded Top k.max_locals (spread is_long Top locals)) (λ all. Some (record { locals = all; stack = stack; flag = list_any is_this locals }))
    else None

-- the entry at a place: the local variables behind it, and its frame
abbrev pub mapped : Code → (place : ℕ) → Change → (locals : List VarType) → Option (List VarType × TypeFrame)
mapped k place change locals =
    if is_start k.code place then onto (changed change locals) (λ x. onto (frame_of k x.0 x.1) (λ f. Some (x.0, f))) else None

-- the place at which the rule fails first, or what it gives
abbrev pub or_fails_at : {X Y : Type 0} → (place : ℕ) → Option X → (X → Result Y ℕ) → Result Y ℕ
or_fails_at place None go = Err place
or_fails_at place (Some x) go = go x

abbrev pub with_frames : List (ℕ × TypeFrame) → Result (List (ℕ × TypeFrame)) ℕ → Result (List (ℕ × TypeFrame)) ℕ
with_frames front (Ok fs) = Ok (front ++ fs)
with_frames front (Err place) = Err place

-- The first entry stands at its offset from `next`, each later one at its offset from the place behind the one before.
abbrev pub frames_from : Code → (next : ℕ) → (locals : List VarType) → List MapEntry → Result (List (ℕ × TypeFrame)) ℕ
frames_from k next locals [] = Ok []
frames_from k next locals (e ∷ es) =
    or_fails_at (next + e.offset) (mapped k (next + e.offset) e.change locals)
    (λ x. with_frames ((next + e.offset, x.1) ∷ []) (frames_from k (next + e.offset + 1) x.0 es))

abbrev pub with_first : TypeFrame → Result (List (ℕ × TypeFrame)) ℕ → Result Frames ℕ
with_first first (Ok fs) = Ok (record { first = first; at = fs })
with_first first (Err place) = Err place

-- The frames of a class's method that has this code. What is no list of frames, and a first frame that the method has no room for, fail at place 0.
unfoldable pub frames_of : ClassFile → Member → Code → Result Frames ℕ
frames_of c m k =
    or_fails_at 0 (entries_of c.pool k) (λ entries.
    or_fails_at 0 (first_locals c m) (λ locals.
    or_fails_at 0 (frame_of k locals []) (λ first.
    with_first first (frames_from k 0 locals entries))))

-- ---- answers

-- a fault names the place at which the rule fails first, or says that memory ran out
abbrev pub IsMapFault : {Y : Type 0} → MapFault → Result Y ℕ → Type 0
IsMapFault (faults.Bad place) found = found ≡ Err place
IsMapFault faults.NoMemory found = Unit {0}
