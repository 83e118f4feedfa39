-- Returns, from what a machine at their entry stands for.
use Rattle.std.proofs.Common.{ℕ, ◌==◌, ◌&&◌, true, [], ◌∷◌, refl, sym, ap, subst, arith}
use Rattle.micro_sketch.proofs.RowSteps.{no_stalls}
use Rattle.micro_flow.specs.declared.CostParams.{CostParams}
use Rattle.jop_core.specs.declared.halt.Halt.TheVariants.{Ended}
use Rattle.jop_core.specs.State.{MachineState}
use Rattle.micro_sketch.specs.Sketch.{Sketch, same_bool}
use Rattle.micro_sketch.specs.Stands.{Env}
use Rattle.micro_sketch.specs.Row.{StandsAt}
use Rattle.micro_sketch.specs.Rows.{entered, head_of, tail_of, Finishes, end_of, Halts, RunsSwitch}
use Rattle.call_steps.specs.Returns as returns
use Rattle.call_steps.specs.Returns.{ReturnOp, Return, Ireturn, Areturn, Lreturn, return_code, CanReturn, IsLast}
use Rattle.call_steps.specs.Laws.{ReturnsRun, ReturnsEnd}
use Rattle.call_steps.proofs.Parts.{PartLaws, low_of}
use Rattle.call_steps.proofs.Returning.{ReturnMade, return_made}

made : PartLaws → (n : ℕ) (op : ReturnOp) (p : CostParams) (x : Sketch) (e : Env) (s : MachineState) → let z = entered (return_code op) x in StandsAt n p (return_code op) z e s → (c : CanReturn op z) → ReturnMade n op z e c
made laws n Return p x e s h c =
    let z = entered 177 x in
    let js = z.above in
    return_made laws n Return z (low_of z.low) 0 0 z.top z.next (head_of js) (head_of (tail_of js)) (head_of (tail_of (tail_of js))) z.under (tail_of (tail_of (tail_of js))) e c h.shape h.entry.idle
made laws n Ireturn p x e s h c =
    let z = entered 172 x in
    let js = z.above in
    return_made laws n Ireturn z (low_of z.low) z.top 0 z.next (head_of z.under) (head_of js) (head_of (tail_of js)) 0 (tail_of z.under) (tail_of (tail_of js)) e c h.shape h.entry.idle
made laws n Areturn p x e s h c =
    let z = entered 176 x in
    let js = z.above in
    return_made laws n Areturn z (low_of z.low) z.top 0 z.next (head_of z.under) (head_of js) (head_of (tail_of js)) 0 (tail_of z.under) (tail_of (tail_of js)) e c h.shape h.entry.idle
made laws n Lreturn p x e s h c =
    let z = entered 173 x in
    let js = z.above in
    return_made laws n Lreturn z (low_of z.low) z.top z.next (head_of z.under) (head_of (tail_of z.under)) (head_of js) 0 0 (tail_of (tail_of z.under)) (tail_of js) e c h.shape h.entry.idle

entry_runs : PartLaws → (n : ℕ) (p : CostParams) (op : ReturnOp) (x : Sketch) (e : Env) (s : MachineState) → let z = entered (return_code op) x in StandsAt n p (return_code op) z e s → (c : CanReturn op z)
    → RunsSwitch n p (return_code op) (returns.return op z c) z e
entry_runs laws n p op x e s h c =
    let m = made laws n op p x e s h c in
    record { after = m.after; reaches = m.reaches; done = m.done; switches = m.switches; cost = λ k is. laws.costs p (return_code op) k n (entered (return_code op) x) m.after e h.entry m.reaches m.done is }

pub returns_run : PartLaws → ReturnsRun
returns_run laws n p op x e s h c =
    let P : Sketch → Type 0 = λ z. StandsAt n p (return_code op) z e s → (d : CanReturn op z) → RunsSwitch n p (return_code op) (returns.return op z d) z e in
    subst P (sym (laws.rows.enters n p (return_code op) x e s h)) (entry_runs laws n p op x e s) h c

-- some words from x on halt the machine
record Ends (x : Sketch) : Type 0 where
  finish : Finishes x
  halts : Halts Ended x (end_of x finish)

last_ends : (x : Sketch) → IsLast x → Ends (entered 177 x)
last_ends x last = record {
  finish = record {
    words = 0;
    guesses = true ∷ [];
    done = record { fine = ap (λ (k : ℕ). same_bool true (k == 64) && true) last; done = refl; idle = refl };
    loads = refl;
    loaded = refl;
  };
  halts = record {
    halt = refl;
    words = refl;
    deep = refl;
    low = refl;
    memory = refl;
    answers = refl;
    output = refl;
    kept = record { vp = refl; method = refl; cache = refl; hits = refl; misses = refl; loads = refl; loaded = refl };
  };
}

pub returns_end : PartLaws → ReturnsEnd
returns_end laws n p x e s h last =
    let g = subst Ends (sym (laws.rows.enters n p 177 x e s h)) (last_ends x last) in
    let y = end_of x g.finish in
    let r = laws.rows.finish_runs n p 177 x e s h g.finish in
    record {
      after = y;
      reaches = r;
      done = g.finish.done;
      halts = g.halts;
      cost = λ k is. omega (arith, laws.costs p 177 k n x y e h.entry r g.finish.done is, no_stalls y p.r g.finish.loads g.finish.loaded);
    }
