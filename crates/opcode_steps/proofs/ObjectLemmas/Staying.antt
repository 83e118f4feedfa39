-- The words of frames stay what they are, where the objects that their values refer to stay in their places.
use Rattle.std.proofs.Common.{◌≡◌, ℕ, ◌<◌, List, [], ◌∷◌, Option, Some, None, sym, ◌∙◌}
use Rattle.std.specs.Prelude.{IsSomeAnd}
use Rattle.bytecode_model.specs.declared.Value.{Value}
use Rattle.bytecode_model.specs.declared.Value.TheVariants.{Int, Long, Ref, Null, Unset}
use Rattle.bytecode_model.specs.State.{Frame}
use Rattle.bytecode_model.specs.Program.{Program, Body, body_of}
use Rattle.bytecode_model.specs.WellFormed as formed
use Rattle.bytecode_model.specs.WellFormed.{IsValue, AreValues}
use Rattle.image_facts.specs.Places.{Places}
use Rattle.machine_stands.specs.Frames.{AreLocals, AreOperands, FrameWords, AreWordsOfFrames}

-- the first so many objects have the same places
abbrev pub StayBelow : (objects : ℕ) (place place' : ℕ → ℕ) → Type 0
StayBelow objects place place' = (p : ℕ) → p < objects → place' p ≡ place p

module _ (objects : ℕ) (place place' : ℕ → ℕ) (same : StayBelow objects place place') where
  refers : (p w : ℕ) → p < objects → w ≡ place p → w ≡ place' p
  refers p w less is = is ∙ sym (same p less)

  pub locals_stay : (vs : List Value) (ws : List ℕ) → AreValues objects vs → AreLocals place vs ws → AreLocals place' vs ws
  locals_stay [] [] fit h = tt
  locals_stay [] (w ∷ ws) fit h = absurd h
  locals_stay (Int n ∷ vs) [] fit h = absurd h
  locals_stay (Ref p ∷ vs) [] fit h = absurd h
  locals_stay (Null ∷ vs) [] fit h = absurd h
  locals_stay (Unset ∷ vs) [] fit h = absurd h
  locals_stay (Int n ∷ vs) (w ∷ ws) fit h = (h.0, locals_stay vs ws fit.1 h.1)
  locals_stay (Ref p ∷ vs) (w ∷ ws) fit h = (refers p w fit.0 h.0, locals_stay vs ws fit.1 h.1)
  locals_stay (Null ∷ vs) (w ∷ ws) fit h = (h.0, locals_stay vs ws fit.1 h.1)
  locals_stay (Unset ∷ vs) (w ∷ ws) fit h = (h.0, locals_stay vs ws fit.1 h.1)
  locals_stay (Long n ∷ []) [] fit h = absurd h
  locals_stay (Long n ∷ []) (w ∷ ws) fit h = absurd h.0
  locals_stay (Long n ∷ Int k ∷ vs) [] fit h = absurd h
  locals_stay (Long n ∷ Long k ∷ vs) [] fit h = absurd h
  locals_stay (Long n ∷ Ref k ∷ vs) [] fit h = absurd h
  locals_stay (Long n ∷ Null ∷ vs) [] fit h = absurd h
  locals_stay (Long n ∷ Unset ∷ vs) [] fit h = absurd h
  locals_stay (Long n ∷ Int k ∷ vs) (w ∷ ws) fit h = absurd h.0
  locals_stay (Long n ∷ Long k ∷ vs) (w ∷ ws) fit h = absurd h.0
  locals_stay (Long n ∷ Ref k ∷ vs) (w ∷ ws) fit h = absurd h.0
  locals_stay (Long n ∷ Null ∷ vs) (w ∷ ws) fit h = absurd h.0
  locals_stay (Long n ∷ Unset ∷ vs) (w ∷ []) fit h = absurd h.0
  locals_stay (Long n ∷ Unset ∷ vs) (high ∷ low ∷ ws) fit h = (h.0, h.1, locals_stay vs ws fit.1.1 h.2)

  pub operands_stay : (vs : List Value) (ws : List ℕ) → AreValues objects vs → AreOperands place vs ws → AreOperands place' vs ws
  operands_stay [] [] fit h = tt
  operands_stay [] (w ∷ ws) fit h = absurd h
  operands_stay (Int n ∷ vs) [] fit h = absurd h
  operands_stay (Long n ∷ vs) [] fit h = absurd h
  operands_stay (Ref p ∷ vs) [] fit h = absurd h
  operands_stay (Null ∷ vs) [] fit h = absurd h
  operands_stay (Unset ∷ vs) [] fit h = absurd h
  operands_stay (Int n ∷ vs) (w ∷ ws) fit h = (h.0, operands_stay vs ws fit.1 h.1)
  operands_stay (Ref p ∷ vs) (w ∷ ws) fit h = (refers p w fit.0 h.0, operands_stay vs ws fit.1 h.1)
  operands_stay (Null ∷ vs) (w ∷ ws) fit h = (h.0, operands_stay vs ws fit.1 h.1)
  operands_stay (Unset ∷ vs) (w ∷ ws) fit h = (h.0, operands_stay vs ws fit.1 h.1)
  operands_stay (Long n ∷ vs) (w ∷ []) fit h = absurd h.0
  operands_stay (Long n ∷ vs) (low ∷ high ∷ ws) fit h = (h.0, h.1, operands_stay vs ws fit.1 h.2)

  of_body : (P : Program) (f : Frame) (o : Option Body) → IsSomeAnd o (formed.IsFrame P objects f) → AreValues objects f.locals × AreValues objects f.operands
  of_body P f None h = absurd h
  of_body P f (Some b) h = (h.local_values, h.operand_values)

  pub frames_stay : (P : Program) (pl : Places) (fs : List Frame) (ws : List FrameWords) → formed.AreFrames P objects fs → AreWordsOfFrames P pl place fs ws → AreWordsOfFrames P pl place' fs ws
  frames_stay P pl [] [] fit h = tt
  frames_stay P pl [] (w ∷ below) fit h = absurd h
  frames_stay P pl (f ∷ callers) [] fit h = absurd h
  frames_stay P pl (f ∷ callers) (w ∷ below) fit h =
      let values = of_body P f (body_of P f.method) fit.0 in (
        record { locals = locals_stay f.locals w.locals values.0 h.0.locals; saved = h.0.saved; operands = operands_stay f.operands w.operands values.1 h.0.operands },
        frames_stay P pl callers below fit.1 h.1,
      )
