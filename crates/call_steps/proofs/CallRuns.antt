-- Calls, from what a machine at their entry stands for.
use Rattle.std.proofs.Common.{◌≡◌, ℕ, true, false, sym, subst, arith}
use Rattle.micro_sketch.proofs.RowSteps.{no_stalls}
use Rattle.micro_flow.specs.declared.CostParams.{CostParams}
use Rattle.jop_core.specs.State.{MachineState}
use Rattle.micro_sketch.specs.Sketch.{Sketch}
use Rattle.micro_sketch.specs.Stands.{Env}
use Rattle.micro_sketch.specs.Row.{StandsAt}
use Rattle.micro_sketch.specs.Rows.{entered, head_of, tail_of, RunsToRaise}
use Rattle.call_steps.specs.Calls.{Invokestatic, CanCall, fits, RunsCall, overflow}
use Rattle.call_steps.specs.Laws.{CallsRun, CallsRaise}
use Rattle.call_steps.proofs.Parts.{PartLaws, low_of}
use Rattle.call_steps.proofs.CallMade.{call_made, call_raises}

entry_runs : PartLaws → (n : ℕ) (p : CostParams) (x : Sketch) (e : Env) (s : MachineState) → let z = entered 184 x in StandsAt n p 184 z e s → (c : CanCall n Invokestatic z) → fits Invokestatic z ≡ true
    → RunsCall n p Invokestatic z e c
entry_runs laws n p x e s h c fit =
    let z = entered 184 x in
    let js = z.above in
    let m = call_made laws n z (low_of z.low) z.top z.next (head_of js) (head_of (tail_of js)) (head_of (tail_of (tail_of js))) z.under (tail_of (tail_of (tail_of js))) e c fit h.shape h.entry.idle in
    record {
      more = m.more;
      count = m.count;
      runs = record { after = m.after; reaches = m.reaches; done = m.done; switches = m.switches; cost = λ k is. laws.costs p 184 k n z m.after e h.entry m.reaches m.done is };
    }

entry_raises : PartLaws → (n : ℕ) (p : CostParams) (x : Sketch) (e : Env) (s : MachineState) → let z = entered 184 x in StandsAt n p 184 z e s → CanCall n Invokestatic z → fits Invokestatic z ≡ false
    → RunsToRaise n p 184 (overflow z) z e
entry_raises laws n p x e s h c fit =
    let z = entered 184 x in
    let js = z.above in
    let m = call_raises laws n z (low_of z.low) z.top z.next (head_of js) (head_of (tail_of js)) (head_of (tail_of (tail_of js))) z.under (tail_of (tail_of (tail_of js))) e c fit h.shape h.entry.idle in
    record {
      after = m.after;
      reaches = m.reaches;
      done = m.done;
      raises = m.raises;
      cost = λ k is. omega (arith, laws.costs p 184 k n z m.after e h.entry m.reaches m.done is, no_stalls m.after p.r m.raises.kept.loads m.raises.kept.loaded);
    }

pub calls_run : PartLaws → CallsRun
calls_run laws n p Invokestatic x e s h c fit =
    let P : Sketch → Type 0 = λ z. StandsAt n p 184 z e s → (d : CanCall n Invokestatic z) → fits Invokestatic z ≡ true → RunsCall n p Invokestatic z e d in
    subst P (sym (laws.rows.enters n p 184 x e s h)) (entry_runs laws n p x e s) h c fit

pub calls_raise : PartLaws → CallsRaise
calls_raise laws n p Invokestatic x e s h c fit =
    let P : Sketch → Type 0 = λ z. StandsAt n p 184 z e s → CanCall n Invokestatic z → fits Invokestatic z ≡ false → RunsToRaise n p 184 (overflow z) z e in
    subst P (sym (laws.rows.enters n p 184 x e s h)) (entry_raises laws n p x e s) h c fit
