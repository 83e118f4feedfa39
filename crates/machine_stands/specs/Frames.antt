-- The words of frames (JVM Specification SE 8, 2.6), as they stand on the stack of the machine.
use Rattle.std.specs.Prelude.{◌≡◌, ℕ, ◌+◌, ◌-◌, List, [], ◌∷◌, ◌++◌, length, reverse, IsSomeAnd}
use Rattle.jop_core.specs.declared.places.TheConstants.{STACK}
use Rattle.bytecode_model.specs.declared.Value.{Value}
use Rattle.bytecode_model.specs.declared.Value.TheVariants.{Int, Long, Ref, Null, Unset}
use Rattle.bytecode_model.specs.State.{Frame}
use Rattle.bytecode_model.specs.Program.{Program, instr_at}
use Rattle.image_facts.specs.Words.{int_word, high_word, low_word}
use Rattle.image_facts.specs.Places.{Places, pool_of}

-- the word of a value that takes one: an unset one has any
abbrev pub IsWordOf : (place : ℕ → ℕ) → Value → (word : ℕ) → Type 0
IsWordOf place (Int n) word = word ≡ int_word n
IsWordOf place (Long n) word = ⊥
IsWordOf place (Ref p) word = word ≡ place p
IsWordOf place Null word = word ≡ 0
IsWordOf place Unset word = Unit {0}

-- the local variables: a long's low word has the place of the unset one behind it
abbrev pub AreLocals : (place : ℕ → ℕ) → List Value → (words : List ℕ) → Type 0
AreLocals place [] [] = Unit {0}
AreLocals place (Long n ∷ Unset ∷ vs) (high ∷ low ∷ ws) = (high ≡ high_word n) × (low ≡ low_word n) × AreLocals place vs ws
AreLocals place (v ∷ vs) (w ∷ ws) = IsWordOf place v w × AreLocals place vs ws
AreLocals place vs ws = ⊥

-- the operands, the top one first: a long's low word is above its high one
abbrev pub AreOperands : (place : ℕ → ℕ) → List Value → (words : List ℕ) → Type 0
AreOperands place [] [] = Unit {0}
AreOperands place (Long n ∷ vs) (low ∷ high ∷ ws) = (low ≡ low_word n) × (high ≡ high_word n) × AreOperands place vs ws
AreOperands place (v ∷ vs) (w ∷ ws) = IsWordOf place v w × AreOperands place vs ws
AreOperands place vs ws = ⊥

-- the words of a frame: of its local variables, the five that it saves, and of its operands, the top one first
pub record FrameWords : Type 0 where
  pub locals : List ℕ
  pub saved : List ℕ
  pub operands : List ℕ

-- the words of frames, of which the top one comes first, from STACK on
abbrev pub stacked : List FrameWords → List ℕ
stacked [] = []
stacked (w ∷ ws) = stacked ws ++ (w.locals ++ (w.saved ++ reverse w.operands))

-- SP where the words of these frames are all of the stack, the two top ones of which are in A and B, and VP of a frame above these
abbrev pub sp_over : List FrameWords → ℕ
sp_over ws = STACK + length (stacked ws) - 3

abbrev pub vp_over : List FrameWords → ℕ
vp_over ws = STACK + length (stacked ws)

-- A frame saves what its caller goes on with: SP, the place behind the invoke instruction, VP, and the places of its pool and its method. Those of
-- boot's frame are any words.
abbrev pub Saves : Program → Places → (callers : List Frame) → List FrameWords → (saved : List ℕ) → Type 0
Saves P pl [] ws saved = length saved ≡ 5
Saves P pl (c ∷ cs) [] saved = ⊥
Saves P pl (c ∷ cs) (w ∷ ws) saved =
    IsSomeAnd (instr_at P c.method c.pc) (λ i. saved ≡ sp_over (w ∷ ws) ∷ (c.pc + i.length) ∷ vp_over ws ∷ pool_of P pl c.method ∷ pl.method c.method ∷ [])

pub record AreWordsOfFrame (P : Program) (pl : Places) (place : ℕ → ℕ) (f : Frame) (callers : List Frame) (w : FrameWords)
    (below : List FrameWords) : Type 0 where
  pub locals : AreLocals place f.locals w.locals
  pub saved : Saves P pl callers below w.saved
  pub operands : AreOperands place f.operands w.operands

-- these are the words of the frames, of which the top one comes first
abbrev pub AreWordsOfFrames : Program → Places → (place : ℕ → ℕ) → List Frame → List FrameWords → Type 0
AreWordsOfFrames P pl place [] [] = Unit {0}
AreWordsOfFrames P pl place (f ∷ callers) (w ∷ below) = AreWordsOfFrame P pl place f callers w below × AreWordsOfFrames P pl place callers below
AreWordsOfFrames P pl place fs ws = ⊥
