-- Rows that write, to where the machine stands for the next state.
use Rattle.std.proofs.Common.{◌≡◌, ℕ, ◌-◌, List, [], ◌∷◌, ◌++◌, None, reverse, refl, sym, ◌∙◌, ap, subst}
use Rattle.std.proofs.lemmas.List.{append-nil}
use Rattle.bytecode_model.specs.State.{Frame, State}
use Rattle.bytecode_model.specs.Sizes.{frames_words}
use Rattle.bytecode_model.specs.Steps.{with_top}
use Rattle.image_facts.specs.Places.{end_of, pool_of}
use Rattle.machine_stands.specs.Frames.{FrameWords, AreLocals, AreOperands, AreWordsOfFrames}
use Rattle.machine_stands.specs.Comes.{params}
use Rattle.machine_stands.specs.Again.{registers_of, GoesOn, RowsCome}
use Rattle.machine_stands.specs.Shown.{SketchesShow}
use Rattle.opcode_steps.specs.Heap.Going.{WritesGoOn}

pub writes_go_on : SketchesShow → RowsCome → WritesGoOn
writes_go_on shown come P pl n size m answer s s' h i r statics objects pc locals operands f mode row next stay made runs =
    let st = h.stands in
    let top : Frame = record st.top { pc = pc; locals = locals; operands = operands } in
    let t : State = with_top (record s { statics = statics; objects = objects }) st.callers top in
    let words : FrameWords = record { locals = made.local_words; saved = st.words.saved; operands = made.operand_words } in
    let shows = shown P pl n size m answer s s' h (params m i.count 0) (None ∷ []) mode refl refl in
    let registers : (end sum : ℕ) → List ℕ = λ end sum. pool_of P pl st.top.method ∷ pl.method st.top.method ∷ end ∷ size ∷ sum ∷ (n - 80) ∷ pl.raise_list ∷ shows.raised ∷ [] in
    let low : f.low ≡ registers_of P pl n size t top shows.raised =
    made.low ∙ shows.low ∙ ap (λ (k : ℕ). registers k (frames_words P s.frames)) (sym stay.end) ∙ ap (λ (fs : List Frame). registers (end_of P pl objects) (frames_words P fs)) st.frames in
    let on : GoesOn P pl n size m s t st f = record {
      top = top;
      words = words;
      raised = shows.raised;
      mode = refl;
      frames = refl;
      method = refl;
      saved = refl;
      locals = subst (λ (place : ℕ → ℕ). AreLocals place locals made.local_words) (sym stay.places) made.are_locals;
      operands = subst (λ (place : ℕ → ℕ). AreOperands place operands made.operand_words) (sym stay.places) made.are_operands;
      callers = subst (λ (place : ℕ → ℕ). AreWordsOfFrames P pl place st.callers st.below) (sym stay.places) st.are_frames.1;
      stack = made.stack;
      deep = made.deep;
      low = low;
      memory = made.memory;
      as_many = made.as_many;
      jpc = made.jpc;
    } in
    come P pl n size m answer s s' h i [] f mode row.at (ap (λ (u : State). u.answers) next ∙ sym (append-nil s.answers)) made.answers
    (ap (λ (u : State). u.output) next ∙ sym (ap (λ (ws : List ℕ). s.output ++ reverse ws) made.output ∙ append-nil s.output))
    (subst (λ (u : State). GoesOn P pl n size m s u st f) (sym next) on) runs
