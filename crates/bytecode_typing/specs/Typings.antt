-- The typings of a method: a frame of types before each instruction, which keeps the rules. Where the method has none, one place and rule fail first.
use Rattle.std.specs.Prelude.{◌≡◌, ℕ, ◌==◌, ◌<◌, ◌≤◌, if◌then◌else◌, List, [], ◌∷◌, ◌++◌, length, Option, Some, None, IfSome, slice_get}
use Rattle.std.specs.Option.{IsSomeAnd}
use Rattle.opcodes.specs.Start.{IsStart, starts_of}
use Rattle.bytecode_model.specs.Lists.{onto}
use Rattle.bytecode_model.specs.Program.{Program, Method, Body}
use Rattle.bytecode_typing.specs.Types.{TypeFrame, stack_words}
use Rattle.bytecode_typing.specs.Rules.{Rule}
use Rattle.bytecode_typing.specs.Walk.{Breaks, Passes, verdict_at, first_types, Walked, Failed, Frames, walked}
use Rattle.bytecode_typing.specs.Typed.{Typing}

-- Method m, of number n, with its body, and the frames that its StackMapTable gives by place.
module _ (P : Program) (n : ℕ) (m : Method) (b : Body) (maps : ℕ → Option TypeFrame) where
  -- Each of these places, at which instructions follow one another, has its frame: that of the StackMapTable, or the one that falls in. No rule fails
  -- there, and the frame behind an instruction falls into the next; `behind` is the one behind the last.
  abbrev pub IsTypingOf : (places : List ℕ) → (falling : Option TypeFrame) → (frames : List (ℕ × TypeFrame)) → (behind : Option TypeFrame) → Type 0
  IsTypingOf [] falling [] behind = falling ≡ behind
  IsTypingOf (pc ∷ pcs) falling (x ∷ xs) behind =
      (x.0 ≡ pc) × ((after : Option TypeFrame) × (verdict_at P n m b maps pc falling ≡ Passes x.1 after) × IsTypingOf pcs after xs behind)
  IsTypingOf pcs falling xs behind = ⊥

  -- a typing of the whole method
  pub record IsTyping (frames : List (ℕ × TypeFrame)) : Type 0 where
    pub behind : Option TypeFrame
    pub typing : IsTypingOf (starts_of b.code) (first_types m b) frames behind

  -- the instructions before pc have a typing, and at pc this rule is the first that fails
  pub record BreaksOffAt (pc : ℕ) (rule : Rule) : Type 0 where
    pub before : List ℕ
    pub later : List ℕ
    pub places : starts_of b.code ≡ before ++ (pc ∷ later)
    pub frames : List (ℕ × TypeFrame)
    pub falling : Option TypeFrame
    pub typing : IsTypingOf before (first_types m b) frames falling
    pub breaks : verdict_at P n m b maps pc falling ≡ Breaks rule

-- ---- the typing of a program

abbrev pub frame_among : List (ℕ × TypeFrame) → ℕ → Option TypeFrame
frame_among [] pc = None
frame_among (x ∷ xs) pc = if x.0 == pc then Some x.1 else frame_among xs pc

abbrev pub frames_of : Walked → ℕ → Option TypeFrame
frames_of (Failed place rule) pc = None
frames_of (Frames fs) pc = frame_among fs pc

-- the frames that the walks find, where the StackMapTables give these
abbrev pub typing_found : Program → (maps : Typing) → Typing
typing_found P maps n pc = onto (slice_get P.methods n) (λ m. onto m.body (λ b. frames_of (walked P n m b (maps n)) pc))

-- what the rules `opcode` and `map`, which are tried before these, give of a method, and its class file: there is code; the first frame has its place among the
-- method's local variables; and the frames of the StackMapTable stand where instructions begin and are no deeper than the operand stack
pub record HasMapFrames (m : Method) (b : Body) (maps : ℕ → Option TypeFrame) : Type 0 where
  pub code : 0 < length b.code
  pub first : IsSomeAnd (first_types m b) (λ f. Unit {0})
  pub frames : (pc : ℕ) → IfSome (maps pc) (λ f. IsStart b.code pc × (stack_words f.stack ≤ b.max_stack))

-- each method with code has a typing
abbrev pub HaveTypings : Program → (maps : Typing) → Type 0
HaveTypings P maps =
    (n : ℕ) (m : Method) (b : Body) → slice_get P.methods n ≡ Some m → m.body ≡ Some b
    → HasMapFrames m b (maps n) × ((fs : List (ℕ × TypeFrame)) × IsTyping P n m b (maps n) fs)
