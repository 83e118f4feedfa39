-- From an opcode's entry: what the step of the machine does, where some words of the sketch come to a boundary.
use Rattle.std.proofs.Common.{◌≡◌, ℕ, List, ◌++◌, refl, sym, ap, ◌∙◌, subst, arith}
use Rattle.std.specs.declared.option.Option.{Option}
use Rattle.micro_flow.specs.declared.CostParams.{CostParams}
use Rattle.micro_flow.specs.Costs.{CostsAreSmall}
use Rattle.jop_core.specs.State.{MachineState}
use Rattle.jop_core.specs.Cycle.{entry_of}
use Rattle.micro_sketch.specs.Sketch.{Sketch}
use Rattle.micro_sketch.specs.Stands.{Env, PortFits, stalls, stalls_for}
use Rattle.micro_sketch.specs.View.{sketch_of}
use Rattle.micro_sketch.specs.Row.{StandsAt, Effect, DidRow, SeenAtOpcode, RowsLeadOn}
use Rattle.micro_sketch.specs.Rows.{Makes, Finishes, end_of, finishes, expecting, Run, LandsAt}
use Rattle.micro_sketch.specs.RowLaws.{StandsExpecting, FinishRuns, FinishComesSoon, RunComesSoon, RunLands, RunGives, SilentRunLands, SilentStep, RowIsSilent, RowIsDone, SilentRowIsDone, RowRunsOn, AreRowLaws}
use Rattle.micro_sketch.proofs.OnChip.{length_stack}
use Rattle.micro_sketch.proofs.Costs.{within_cost}
use Rattle.micro_sketch.proofs.Views.{lengths, stands, view_shape}
use Rattle.micro_sketch.proofs.Making.{enters}
use Rattle.micro_sketch.proofs.Breaking.{breaks_silently, breaks_at_once}
use Rattle.micro_sketch.proofs.Rowing.{done_run, comes_to_boundary, arrives, reads_nothing, writes_nothing, silent_takes_nothing, silent_puts_nothing, no_entry_raises}

pub stands_expecting : StandsExpecting
stands_expecting n p op x e s answers h = record {
  same = h.same;
  shape = record { low = h.shape.low; total = h.shape.total };
  entry = record { at = h.entry.at; idle = h.entry.idle; turns = h.entry.turns; going = h.entry.going; none = h.entry.none; read = h.entry.read; write = h.entry.write };
  opcode = h.opcode;
  operand = h.operand;
  idle = h.idle;
  running = h.running;
  fine = h.fine;
  loads = h.loads;
  loaded = h.loaded;
  silent = h.silent;
  under = h.under;
  above = h.above;
}

pub no_stalls : (y : Sketch) (r : ℕ) → y.loads ≡ 0 → y.words ≡ 0 → stalls y r ≡ 0
no_stalls y r loads words = let none : stalls_for 0 0 r ≡ 0 = omega arith in ap (λ k. stalls_for k y.words r) loads ∙ ap (λ k. stalls_for 0 k r) words ∙ none

pub finish_runs : FinishRuns
finish_runs n p op x e s h g = done_run n g.words g.guesses x e h.shape h.idle h.entry.idle g.done

-- a boundary comes soon, whatever the input answers

pub run_comes_soon : CostsAreSmall → RunComesSoon
run_comes_soon costs n p op x e s range h runs answers given =
    let z = expecting answers x in
    let r = runs answers in
    let at = stands_expecting n p op x e s answers h in
    let cost = costs p range op in
    comes_to_boundary p (entry_of op) cost.cycles n z r.run.after e s h.same at.entry r.run.reaches r.run.done cost.is (omega (arith, cost.small, r.short))

-- the run of some words
abbrev finish_run : (n : ℕ) (p : CostParams) (op : ℕ) (x : Sketch) (e : Env) (s : MachineState) → StandsAt n p op x e s → Finishes x → Run n x e
finish_run n p op x e s h g = record { after = end_of x g; reaches = finish_runs n p op x e s h g; done = g.done }

pub finish_comes_soon : CostsAreSmall → FinishComesSoon
finish_comes_soon costs n p op x e s range h finishes =
    run_comes_soon costs n p op x e s range h
    (λ answers.
    let g = finishes answers in
    let z = expecting answers x in
    record { run = finish_run n p op z e s (stands_expecting n p op x e s answers h) g; short = omega (arith, no_stalls (end_of z g) p.r g.loads g.loaded) })

-- where the machine then stands

pub run_lands : RunLands
run_lands n p op x e old new t0 t1 h g far more answered =
    let y = g.after in
    let r = g.reaches in
    let landed = arrives n x y e old new t0 t1 h.same r g.done far more answered in
    record {
      env = r.env;
      same = landed.state_is;
      shape = r.shape;
      idle = subst (λ b. PortFits b r.env) g.done.idle r.port;
      read = r.read;
      write = r.write;
      clock = omega (arith, r.clock, landed.cycles_are);
      cost = λ c is. omega (arith, landed.cycles_are, within_cost p op c n x y e h.entry r g.done is);
    }

pub run_gives : RunGives
run_gives n x e old new t0 t1 same r far more answered =
    let landed = arrives n x r.after e old new t0 t1 same r.reaches r.done far more answered in
    record { left = landed.answers_left; put = landed.output_is }

pub silent_lands : SilentRunLands
silent_lands n p op x e old new t0 t1 h silent r far =
    let none = silent_takes_nothing n x e old new t0 t1 h.same silent far in
    run_lands n p op x e old new t0 t1 h r far x.answers (ap (λ (z : List (Option ℕ)). z ++ x.answers) (sym none))

pub silent_step : SilentStep
silent_step n p op x e old new t0 t1 h silent far =
    record { taken = silent_takes_nothing n x e old new t0 t1 h.same silent far; put = silent_puts_nothing n x e old new t0 t1 h.same silent far }

-- A run with an effect, which leads to the next opcode.

pub row_is_silent : RowIsSilent
row_is_silent n p op f x e s h m answers output = record {
  after = end_of x (finishes f x m);
  reaches = finish_runs n p op x e s h (finishes f x m);
  done = m.done;
  answers = m.follows.answers ∙ answers;
  output = m.follows.output ∙ output ∙ sym h.silent;
}

did_row : (n : ℕ) (p : CostParams) (op : ℕ) (f : Effect) (x : Sketch) (e : Env) (cycles : ℕ) (new : MachineState) (m : Makes f x) → LandsAt n p op (end_of x (finishes f x m)) e cycles new → DidRow n p op f x e cycles new
did_row n p op f x e cycles new m l =
    let kept = m.follows.kept in
    record {
      after = end_of x (finishes f x m);
      env = l.env;
      same = l.same;
      shape = l.shape;
      done = m.done;
      follows = m.follows;
      idle = l.idle;
      read = l.read;
      write = l.write;
      clock = l.clock;
      cost = λ c is. omega (arith, l.cost c is, no_stalls (end_of x (finishes f x m)) p.r kept.loads kept.loaded);
    }

-- where its device gave the answers that x expected
pub row_is_done : RowIsDone
row_is_done n p op f x e old new t0 t1 h m far more answered =
    did_row n p op f x e far.cycles new m (run_lands n p op x e old new t0 t1 h (finish_run n p op x e old h (finishes f x m)) far more answered)

-- and whichever it gave, where the row is silent
pub silent_row_is_done : SilentRowIsDone
silent_row_is_done n p op f x e old new t0 t1 h m silent far =
    did_row n p op f x e far.cycles new m (silent_lands n p op x e old new t0 t1 h silent (finish_run n p op x e old h (finishes f x m)) far)

-- After a row the machine stands at the entry of an opcode.

pub row_runs_on : RowRunsOn
row_runs_on n p op cycles f x e new d = (
  ap (λ (s : MachineState). s.halt) d.same ∙ d.follows.running,
  λ raises. no_entry_raises d.after.opcode (sym (ap (λ (s : MachineState). s.mpc) d.same ∙ d.follows.mpc) ∙ raises),
)

-- and is about to run it
pub rows_lead_on : RowsLeadOn
rows_lead_on n p q op cycles f x e old new h d r w under above = let kept = d.follows.kept in record {
  same = d.same;
  shape = record { low = d.shape.low; total = d.shape.total };
  entry = record {
    at = sym d.follows.mpc;
    idle = d.idle;
    turns = refl;
    going = refl;
    none = no_stalls d.after q.r kept.loads kept.loaded;
    read = r ∙ h.entry.read ∙ sym d.read;
    write = w ∙ h.entry.write ∙ sym d.write;
  };
  opcode = refl;
  operand = d.follows.operand;
  idle = d.done.idle;
  running = d.follows.running;
  fine = d.done.fine;
  loads = kept.loads;
  loaded = kept.loaded;
  silent = refl;
  under = under;
  above = above;
}

-- A machine that is about to run an opcode is seen so.
pub seen_at_opcode : SeenAtOpcode
seen_at_opcode n d u p op answers s h =
    let sizes = lengths n d u s h.viewable in
    let shape = view_shape n d u answers s h.viewable in
    record {
      same = stands n d u answers s h.viewable;
      shape = record { low = shape.low; total = shape.total };
      entry = record { at = sym h.mpc; idle = h.idle; turns = refl; going = refl; none = no_stalls (sketch_of d u answers s) p.r refl refl; read = h.read; write = h.write };
      opcode = h.opcode;
      operand = h.operand;
      idle = refl;
      running = h.running;
      fine = refl;
      loads = refl;
      loaded = refl;
      silent = refl;
      under = omega (arith, h.under, sizes.2);
      above = omega (arith, h.above, shape.total, sizes.1, sizes.2);
    }

pub row_laws : CostsAreSmall → AreRowLaws
row_laws costs = record {
  stack_has_words = length_stack;
  seen = seen_at_opcode;
  enters = enters;
  expects = stands_expecting;
  finish_runs = finish_runs;
  finish_comes_soon = finish_comes_soon costs;
  run_comes_soon = run_comes_soon costs;
  run_lands = run_lands;
  run_gives = run_gives;
  silent_lands = silent_lands;
  silent_step = silent_step;
  row_is_silent = row_is_silent;
  row_is_done = row_is_done;
  silent_row_is_done = silent_row_is_done;
  row_runs_on = row_runs_on;
  rows_lead_on = rows_lead_on;
  reads_nothing = reads_nothing;
  writes_nothing = writes_nothing;
  breaks_silently = breaks_silently;
  breaks_at_once = breaks_at_once;
}
