-- Rows that push a value.
use Rattle.std.proofs.Common.{◌≡◌, ℕ, ◌+◌, false, ℤ, List, ◌∷◌, Option, refl, ap}
use Rattle.opcodes.specs.declared.instruction.Instr.{Instr}
use Rattle.jop_core.specs.State as machine
use Rattle.micro_sketch.specs.Sketch.{Sketch}
use Rattle.micro_sketch.specs.Row.{words_of}
use Rattle.micro_sketch.specs.Opcodes as plain
use Rattle.micro_sketch.specs.Opcodes.{PlainOp, IsReady}
use Rattle.bytecode_model.specs.declared.Value.{Value}
use Rattle.bytecode_model.specs.declared.Value.TheVariants.{Long}
use Rattle.bytecode_model.specs.Types.{is_long}
use Rattle.bytecode_model.specs.State.{State}
use Rattle.bytecode_model.specs.Program.{Program}
use Rattle.bytecode_model.specs.Rows as rows
use Rattle.bytecode_model.specs.Rows.{Row}
use Rattle.bytecode_model.specs.Effects.{Go, effect}
use Rattle.image_facts.specs.Words.{high_word, low_word}
use Rattle.image_facts.specs.Places.{Places, object_place}
use Rattle.machine_stands.specs.Frames.{IsWordOf}
use Rattle.machine_stands.specs.StandsFor.{StandsFor, limits_of}
use Rattle.machine_stands.specs.Comes.{ComesTo}
use Rattle.opcode_steps.proofs.ValueLemmas.Scenes.{Laws, Scene, HasBytes, FromScene, moved, comes}

module _ (laws : Laws) (P : Program) (pl : Places) (n size : ℕ) (m : machine.MachineState) (answer : Option ℕ) (s s' : State) (st : StandsFor P pl n size m s) (i : Instr) (r : Row) (op : PlainOp) (j : ℕ) (x : Sketch) where
  -- one of one word
  pub pushes_one : (v : Value) (word : ℕ) → Scene P pl n size m answer s s' st i r op j x → IsReady op x → plain.effect op x ≡ moved (word ∷ words_of x) x.deep j x
      → effect P (limits_of P pl n size) s st.top (st.top.pc + i.length) r ≡ Go (st.top.pc + i.length) st.top.locals (v ∷ st.top.operands)
      → is_long v ≡ false → IsWordOf (object_place P pl s.objects) v word → ComesTo P pl n size m s s'
  pushes_one v word at ready makes goes short is =
      comes laws P pl n size m answer s s' st i r op j x st.top.locals (v ∷ st.top.operands) (word ∷ words_of x) x.deep st.words.locals (word ∷ st.words.operands) at ready makes goes st.are_frames.0.locals
      (laws.pushed (object_place P pl s.objects) v st.top.operands word st.words.operands short is st.are_frames.0.operands) (ap (λ (ws : List ℕ). word ∷ ws) at.shows.words) at.shows.deep

  -- a long
  pub pushes_long : (v : ℤ) (low high : ℕ) → Scene P pl n size m answer s s' st i r op j x → IsReady op x → plain.effect op x ≡ moved (low ∷ high ∷ words_of x) x.deep j x
      → effect P (limits_of P pl n size) s st.top (st.top.pc + i.length) r ≡ Go (st.top.pc + i.length) st.top.locals (Long v ∷ st.top.operands)
      → low ≡ low_word v → high ≡ high_word v → ComesTo P pl n size m s s'
  pushes_long v low high at ready makes goes is_low is_high =
      comes laws P pl n size m answer s s' st i r op j x st.top.locals (Long v ∷ st.top.operands) (low ∷ high ∷ words_of x) x.deep st.words.locals (low ∷ high ∷ st.words.operands) at ready makes goes
      st.are_frames.0.locals (is_low, is_high, st.are_frames.0.operands) (ap (λ (ws : List ℕ). low ∷ high ∷ ws) at.shows.words) at.shows.deep

-- a constant that stands in the instruction
pub pushes_constant : Laws → (i : List ℕ → ℕ → Instr) (v : List ℕ → ℕ → Value) (op : PlainOp) (j : ℕ) (Where : List ℕ → ℕ → Type 0) (word : Sketch → ℕ) → ((x : Sketch) → IsReady op x)
    → ((x : Sketch) → plain.effect op x ≡ moved (word x ∷ words_of x) x.deep j x) → ((code : List ℕ) (pc : ℕ) → is_long (v code pc) ≡ false)
    → ((code : List ℕ) (pc : ℕ) (x : Sketch) (place : ℕ → ℕ) → HasBytes code pc j x → IsWordOf place (v code pc) (word x)) → FromScene i (λ code pc. rows.Push (v code pc)) op j Where
pushes_constant laws i v op j Where word ready makes short is P pl n size m answer s s' st x there at =
    let code = st.body.code in
    let pc = st.top.pc in
    pushes_one laws P pl n size m answer s s' st (i code pc) (rows.Push (v code pc)) op j x (v code pc) (word x) at (ready x) (makes x) refl (short code pc) (is code pc x (object_place P pl s.objects) at.bytes)

pub pushes_long_constant : Laws → (i : List ℕ → ℕ → Instr) (v : ℤ) (op : PlainOp) (j : ℕ) (Where : List ℕ → ℕ → Type 0) (low high : ℕ) → ((x : Sketch) → IsReady op x)
    → ((x : Sketch) → plain.effect op x ≡ moved (low ∷ high ∷ words_of x) x.deep j x) → low ≡ low_word v → high ≡ high_word v → FromScene i (λ code pc. rows.Push (Long v)) op j Where
pushes_long_constant laws i v op j Where low high ready makes is_low is_high P pl n size m answer s s' st x there at =
    pushes_long laws P pl n size m answer s s' st (i st.body.code st.top.pc) (rows.Push (Long v)) op j x v low high at (ready x) (makes x) refl is_low is_high

-- nothing is pushed
pub does_nothing : Laws → (i : List ℕ → ℕ → Instr) (op : PlainOp) (Where : List ℕ → ℕ → Type 0) → ((x : Sketch) → IsReady op x) → ((x : Sketch) → plain.effect op x ≡ moved (words_of x) x.deep 0 x)
    → FromScene i (λ code pc. rows.Nothing) op 0 Where
does_nothing laws i op Where ready makes P pl n size m answer s s' st x there at =
    comes laws P pl n size m answer s s' st (i st.body.code st.top.pc) rows.Nothing op 0 x st.top.locals st.top.operands (words_of x) x.deep st.words.locals st.words.operands at (ready x) (makes x) refl
    st.are_frames.0.locals st.are_frames.0.operands at.shows.words at.shows.deep
