-- How a row ends, from what it computes.
use Rattle.std.proofs.Common.{◌≡◌, ℕ, ◌+◌, true, [], ◌∷◌, None, refl, sym, subst}
use Rattle.micro_sketch.specs.Sketch.{Sketch}
use Rattle.micro_sketch.specs.View.{env_of}
use Rattle.micro_sketch.specs.Row as row
use Rattle.micro_sketch.specs.Row.{StandsAt, unchanged}
use Rattle.micro_sketch.specs.Rows.{Makes}
use Rattle.micro_sketch.specs.RowLaws.{StandsEntered}
use Rattle.machine_stands.specs.Comes.{params}
use Rattle.machine_stands.specs.Seen.{seen}
use Rattle.machine_stands.specs.Again.{MadeRowsRun}
use Rattle.machine_stands.specs.Shown.{SketchesShow}
use Rattle.machine_stands.specs.Going.{MakesFrame, FramesGoOn}
use Rattle.opcode_steps.specs.Heap.Raising.{MakesRaise, MadeRaisesRun, FaultsAreRaised, raised_by}
use Rattle.opcode_steps.specs.Heap.Going.{WritesFrame, WritesGoOn}
use Rattle.opcode_steps.specs.Heap.Ending.{RowsAreMade, RaisesAreMade, RowsGoOn, RowsWrite, RowsRaise}

pub rows_made : StandsEntered → RowsAreMade
rows_made enters n p op x e m f allowed stands opcode is ok =
    let Q : Sketch → Type 0 = λ z. allowed z ≡ true → Makes (f z) z in
    subst Q (sym (enters n p op x e m (subst (λ (k : ℕ). StandsAt n p k x e m) opcode stands))) (is x) ok

pub raises_made : StandsEntered → RaisesAreMade
raises_made enters n p op x e m f allowed stands opcode is ok =
    let Q : Sketch → Type 0 = λ z. allowed z ≡ true → MakesRaise (f z) z in
    subst Q (sym (enters n p op x e m (subst (λ (k : ℕ). StandsAt n p k x e m) opcode stands))) (is x) ok

pub record EndLaws : Type 0 where
  pub shows : SketchesShow
  pub runs : MadeRowsRun
  pub goes : FramesGoOn
  pub writes : WritesGoOn
  pub raise_runs : MadeRaisesRun
  pub raises : FaultsAreRaised

pub rows_go_on : EndLaws → RowsGoOn
rows_go_on laws P pl n size m answer s s' h i r ops ws words jpc mode at goes are stack end makes =
    let st = h.stands in
    let p = params m i.count 0 in
    let x = seen p (None ∷ []) m st.words st.below in
    let shows = laws.shows P pl n size m answer s s' h p (None ∷ []) mode refl refl in
    let f : row.Effect = record (unchanged x) { words = words; jpc = jpc } in
    let made : MakesFrame P pl n size m s st (st.top.pc + i.length) st.top.locals ops x f = record {
      local_words = st.words.locals;
      operand_words = ws;
      are_locals = st.are_frames.0.locals;
      are_operands = are;
      stack = stack;
      deep = shows.deep;
      low = refl;
      memory = refl;
      jpc = end;
      answers = refl;
      output = refl;
    } in
    laws.goes P pl n size m answer s s' h i r (st.top.pc + i.length) st.top.locals ops f mode at goes made (laws.runs n p m.opcode f x (env_of m) m shows.stands makes)

pub rows_write : EndLaws → RowsWrite
rows_write laws P pl n size m answer s s' h i r statics objects ops ws words memory jpc mode at next stay are stack end there many makes =
    let st = h.stands in
    let p = params m i.count 0 in
    let x = seen p (None ∷ []) m st.words st.below in
    let shows = laws.shows P pl n size m answer s s' h p (None ∷ []) mode refl refl in
    let f : row.Effect = record (unchanged x) { words = words; memory = memory; jpc = jpc } in
    let made : WritesFrame P pl n size m s st statics objects (st.top.pc + i.length) st.top.locals ops x f = record {
      local_words = st.words.locals;
      operand_words = ws;
      are_locals = st.are_frames.0.locals;
      are_operands = are;
      stack = stack;
      deep = shows.deep;
      low = refl;
      memory = there;
      as_many = many;
      jpc = end;
      answers = refl;
      output = refl;
    } in
    laws.writes P pl n size m answer s s' h i r statics objects (st.top.pc + i.length) st.top.locals ops f mode at next stay made (laws.runs n p m.opcode f x (env_of m) m shows.stands makes)

pub rows_raise : EndLaws → RowsRaise
rows_raise laws P pl n size m answer s s' h i r f words left jpc mode linked at goes stack few from to makes =
    let st = h.stands in
    let p = params m i.count 0 in
    let x = seen p (None ∷ []) m st.words st.below in
    let shows = laws.shows P pl n size m answer s s' h p (None ∷ []) mode refl refl in
    laws.raises P pl n size m answer s s' h i r f words left jpc mode linked at goes stack few from to (laws.raise_runs n p m.opcode (raised_by f words jpc x) x (env_of m) m shows.stands makes)
