-- How many words frames have on the stack.
use Rattle.std.proofs.Common.{◌≡◌, ℕ, suc, ◌+◌, ◌≤◌, List, [], ◌∷◌, ◌++◌, Option, Some, None, length, reverse, refl, ap, arith, length-append}
use Rattle.std.specs.Prelude.{sum_by, IsSomeAnd}
use Rattle.std.proofs.lemmas.List.{length-reverse}
use Rattle.std.proofs.lemmas.List.Sums.{sum_by-cons}
use Rattle.bytecode_model.specs.declared.Value.{Value}
use Rattle.bytecode_model.specs.declared.Value.TheVariants.{Int, Long, Ref, Null, Unset}
use Rattle.bytecode_model.specs.State.{Frame}
use Rattle.bytecode_model.specs.Program.{Program, body_of, instr_at}
use Rattle.bytecode_model.specs.Sizes.{value_words, body_words, frame_words, frames_words}
use Rattle.bytecode_model.specs.WellFormed as formed
use Rattle.image_facts.specs.Places.{Places}
use Rattle.machine_stands.specs.Frames.{AreLocals, AreOperands, FrameWords, stacked, Saves, AreWordsOfFrames}

pub some_is : {A : Type 0} (o : Option A) (Q : A → Type 0) → IsSomeAnd o Q → (a : A) × (o ≡ Some a) × Q a
some_is None Q h = absurd h
some_is (Some a) Q h = (a, refl, h)

pub locals_count : (place : ℕ → ℕ) (vs : List Value) (ws : List ℕ) → AreLocals place vs ws → length ws ≡ length vs
locals_count place [] [] h = refl
locals_count place [] (w ∷ ws) h = absurd h
locals_count place (v ∷ vs) [] h = absurd (none_left v vs h)
  where
    none_left : (v : Value) (vs : List Value) → AreLocals place (v ∷ vs) [] → ⊥
    none_left (Int n) vs h = h
    none_left (Long n) [] h = h
    none_left (Long n) (Int k ∷ vs) h = h
    none_left (Long n) (Long k ∷ vs) h = h
    none_left (Long n) (Ref k ∷ vs) h = h
    none_left (Long n) (Null ∷ vs) h = h
    none_left (Long n) (Unset ∷ vs) h = h
    none_left (Ref p) vs h = h
    none_left Null vs h = h
    none_left Unset vs h = h
locals_count place (Int n ∷ vs) (w ∷ ws) h = ap suc (locals_count place vs ws h.1)
locals_count place (Ref p ∷ vs) (w ∷ ws) h = ap suc (locals_count place vs ws h.1)
locals_count place (Null ∷ vs) (w ∷ ws) h = ap suc (locals_count place vs ws h.1)
locals_count place (Unset ∷ vs) (w ∷ ws) h = ap suc (locals_count place vs ws h.1)
locals_count place (Long n ∷ []) (w ∷ ws) h = absurd h.0
locals_count place (Long n ∷ Int k ∷ vs) (w ∷ ws) h = absurd h.0
locals_count place (Long n ∷ Long k ∷ vs) (w ∷ ws) h = absurd h.0
locals_count place (Long n ∷ Ref k ∷ vs) (w ∷ ws) h = absurd h.0
locals_count place (Long n ∷ Null ∷ vs) (w ∷ ws) h = absurd h.0
locals_count place (Long n ∷ Unset ∷ vs) (w ∷ []) h = absurd h.0
locals_count place (Long n ∷ Unset ∷ vs) (w ∷ x ∷ ws) h = ap (λ k. suc (suc k)) (locals_count place vs ws h.2)

pub operands_count : (place : ℕ → ℕ) (vs : List Value) (ws : List ℕ) → AreOperands place vs ws → length ws ≡ sum_by value_words vs
operands_count place [] [] h = refl
operands_count place [] (w ∷ ws) h = absurd h
operands_count place (Int n ∷ vs) [] h = absurd h
operands_count place (Long n ∷ vs) [] h = absurd h
operands_count place (Ref p ∷ vs) [] h = absurd h
operands_count place (Null ∷ vs) [] h = absurd h
operands_count place (Unset ∷ vs) [] h = absurd h
operands_count place (Long n ∷ vs) (w ∷ []) h = absurd h.0
operands_count place (Long n ∷ vs) (w ∷ x ∷ ws) h = omega (arith, operands_count place vs ws h.2, sum_by-cons value_words (Long n) vs)
operands_count place (Int n ∷ vs) (w ∷ ws) h = omega (arith, operands_count place vs ws h.1, sum_by-cons value_words (Int n) vs)
operands_count place (Ref p ∷ vs) (w ∷ ws) h = omega (arith, operands_count place vs ws h.1, sum_by-cons value_words (Ref p) vs)
operands_count place (Null ∷ vs) (w ∷ ws) h = omega (arith, operands_count place vs ws h.1, sum_by-cons value_words Null vs)
operands_count place (Unset ∷ vs) (w ∷ ws) h = omega (arith, operands_count place vs ws h.1, sum_by-cons value_words Unset vs)

pub saved_count : (P : Program) (pl : Places) (callers : List Frame) (below : List FrameWords) (saved : List ℕ) → Saves P pl callers below saved → length saved ≡ 5
saved_count P pl [] below saved h = h
saved_count P pl (c ∷ cs) [] saved h = absurd h
saved_count P pl (c ∷ cs) (w ∷ ws) saved h = ap length (some_is (instr_at P c.method c.pc) _ h).2

pub frame_count : (w : FrameWords) (below : List FrameWords) → length w.saved ≡ 5 → length (stacked (w ∷ below)) ≡ length (stacked below) + length w.locals + 5 + length w.operands
frame_count w below h =
    omega (arith, h, length-append (stacked below) (w.locals ++ (w.saved ++ reverse w.operands)), length-append w.locals (w.saved ++ reverse w.operands), length-append w.saved (reverse w.operands), length-reverse w.operands)

-- the words of frames are at most those that the frames take
pub frames_count : (P : Program) (pl : Places) (place : ℕ → ℕ) (n : ℕ) (fs : List Frame) (ws : List FrameWords) → AreWordsOfFrames P pl place fs ws → formed.AreFrames P n fs
    → length (stacked ws) ≤ frames_words P fs
frames_count P pl place n [] [] h g = omega arith
frames_count P pl place n [] (w ∷ ws) h g = absurd h
frames_count P pl place n (f ∷ fs) [] h g = absurd h
frames_count P pl place n (f ∷ fs) (w ∷ ws) h g =
    let b = some_is (body_of P f.method) (formed.IsFrame P n f) g.0 in
    let is : frame_words P f ≡ body_words b.0 = ap (λ o. elim o [ None ↦ 0 | Some b ↦ body_words b ]) b.1 in
    omega (
      arith,
      frame_count w ws (saved_count P pl fs ws w.saved h.0.saved),
      locals_count place f.locals w.locals h.0.locals,
      operands_count place f.operands w.operands h.0.operands,
      b.2.locals,
      b.2.depth,
      is,
      sum_by-cons (frame_words P) f fs,
      frames_count P pl place n fs ws h.1 g.1,
    )
