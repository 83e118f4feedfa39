-- Rows whose effect is to go on in the frame, or to raise.
use Rattle.std.proofs.Common.{◌≡◌, ℕ, List, [], ◌∷◌, ◌++◌, None, length, reverse, refl, sym, ◌∙◌, ap, subst}
use Rattle.std.proofs.lemmas.List.{append-nil}
use Rattle.lists.proofs.Lemmas.{some_same}
use Rattle.bytecode_model.specs.State.{Frame, State}
use Rattle.bytecode_model.specs.Effects.{Effect}
use Rattle.bytecode_model.specs.Steps.{applied, with_top, raising}
use Rattle.machine_stands.specs.Frames.{FrameWords}
use Rattle.machine_stands.specs.StandsFor.{limits_of}
use Rattle.machine_stands.specs.Again.{registers_of, GoesOn, RowsCome}
use Rattle.machine_stands.specs.Stopping.{RaisesOn, RaisesCome}
use Rattle.machine_stands.specs.Shown.{SketchesShow}
use Rattle.machine_stands.specs.Comes.{params}
use Rattle.machine_stands.specs.Going.{FramesGoOn, FramesRaise}

pub frame_goes_on : SketchesShow → RowsCome → FramesGoOn
frame_goes_on shown come P pl n size m answer s s' h i r pc locals operands f mode row goes made runs =
    let st = h.stands in
    let limits = limits_of P pl n size in
    let top : Frame = record st.top { pc = pc; locals = locals; operands = operands } in
    let words : FrameWords = record { locals = made.local_words; saved = st.words.saved; operands = made.operand_words } in
    let shows = shown P pl n size m answer s s' h (params m i.count 0) (None ∷ []) mode refl refl in
    let next : with_top s st.callers top ≡ s' = some_same (with_top s st.callers top) s' (sym (ap (λ (e : Effect). applied P limits answer s st.top st.callers e) goes) ∙ row.step) in
    let low : f.low ≡ registers_of P pl n size (with_top s st.callers top) top shows.raised =
    made.low ∙ shows.low ∙ ap (λ (fs : List Frame). registers_of P pl n size (record s { frames = fs }) st.top shows.raised) st.frames in
    let on : GoesOn P pl n size m s (with_top s st.callers top) st f = record {
      top = top;
      words = words;
      raised = shows.raised;
      mode = refl;
      frames = refl;
      method = refl;
      saved = refl;
      locals = made.are_locals;
      operands = made.are_operands;
      callers = st.are_frames.1;
      stack = made.stack;
      deep = made.deep;
      low = low;
      memory = made.memory ∙ st.memory;
      as_many = ap (λ (ws : List ℕ). length ws) made.memory;
      jpc = made.jpc;
    } in
    come P pl n size m answer s s' h i [] f mode row.at (sym (append-nil s.answers ∙ ap (λ (u : State). u.answers) next)) made.answers
    (sym (ap (λ (ws : List ℕ). s.output ++ reverse ws) made.output ∙ append-nil s.output ∙ ap (λ (u : State). u.output) next))
    (subst (λ (u : State). GoesOn P pl n size m s u st f) next on) runs

pub frame_raises : RaisesCome → FramesRaise
frame_raises come P pl n size m answer s s' h i r object f mode row goes leaves runs =
    let st = h.stands in
    let next : raising s st.top st.callers object ≡ s' = some_same (raising s st.top st.callers object) s' (sym (ap (λ (e : Effect). applied P (limits_of P pl n size) answer s st.top st.callers e) goes) ∙ row.step) in
    let on : RaisesOn P pl n size m s (raising s st.top st.callers object) st i object f = record {
      mode = refl;
      frames = refl;
      rest = record { objects = refl; statics = refl; answers = refl; output = refl };
      left = leaves.left;
      few = leaves.few;
      stack = leaves.stack;
      from = leaves.from;
      to = leaves.to;
      object = leaves.place;
    } in
    come P pl n size m answer s s' h i object f mode row.at (subst (λ (u : State). RaisesOn P pl n size m s u st i object f) next on) runs
