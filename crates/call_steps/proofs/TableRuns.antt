-- Calls by a receiver, from what a machine at their entry stands for.
use Rattle.std.proofs.Common.{◌≡◌, ℕ, ◌<◌, ◌++◌, List, [], ◌∷◌, true, false, refl, sym, ◌∙◌, subst, arith}
use Rattle.micro_sketch.proofs.RowSteps.{no_stalls}
use Rattle.micro_flow.specs.declared.CostParams.{CostParams}
use Rattle.jop_core.specs.State.{MachineState}
use Rattle.micro_sketch.specs.Sketch.{Sketch}
use Rattle.micro_sketch.specs.Stands.{Env}
use Rattle.micro_sketch.specs.Row.{StandsAt}
use Rattle.micro_sketch.specs.Rows.{entered, head_of, tail_of, RunsToRaise}
use Rattle.micro_sketch.specs.Operand.{past}
use Rattle.call_steps.specs.Entry.{CanEnter, raises_at, RunsEntry, Enters}
use Rattle.call_steps.specs.Tables.{TableCall, Invokevirtual, Invokespecial, Invokeinterface, table_code, method_for, behind, HasReceiver, has_none, NullRaises, ChangeRaises, TableCallsRun}
use Rattle.call_steps.proofs.Parts.{low_of}
use Rattle.call_steps.proofs.InvokeMade.{EntryMade}
use Rattle.call_steps.proofs.InvokeRaises.{RaiseMade}
use Rattle.call_steps.proofs.TableRows.{starting}
use Rattle.call_steps.proofs.TableMade.{TableLaws, null_raises, change_raises, table_call_made, table_call_raises}

-- a run to the raise routine takes at most the opcode's cost
raised : TableLaws → (n : ℕ) (p : CostParams) (op : ℕ) (x : Sketch) (e : Env) (s : MachineState) (jpc number : ℕ) → StandsAt n p op x e s → RaiseMade n x e jpc number → RunsToRaise n p op (raises_at x jpc number) x e
raised laws n p op x e s jpc number h m = record {
  after = m.after;
  reaches = m.reaches;
  done = m.done;
  raises = m.raises;
  cost = λ k is. omega (arith, laws.parts.costs p op k n x m.after e h.entry m.reaches m.done is, no_stalls m.after p.r m.raises.kept.loads m.raises.kept.loaded);
}

made : TableLaws → (n : ℕ) (p : CostParams) (op : ℕ) (x : Sketch) (e : Env) (s : MachineState) (m jpc : ℕ) (arguments others : List ℕ) → StandsAt n p op x e s → EntryMade n x e m jpc arguments others → RunsEntry n p op x e m jpc arguments others
made laws n p op x e s m jpc arguments others h g = record {
  more = g.more;
  count = g.count;
  runs = record { after = g.after; reaches = g.reaches; done = g.done; switches = g.switches; cost = λ k is. laws.parts.costs p op k n x g.after e h.entry g.reaches g.done is };
}

-- ---- at the opcode's entry

-- z with its words shown
abbrev start_of : TableCall → Sketch → Sketch
start_of op z = let js = z.above in starting op z (low_of z.low) z.top z.next (head_of js) (head_of (tail_of js)) (head_of (tail_of (tail_of js))) z.under (tail_of (tail_of (tail_of js)))

starts : (op : TableCall) (x : Sketch) → start_of op (entered (table_code op) x) ≡ entered (table_code op) x
starts Invokevirtual x = refl
starts Invokespecial x = refl
starts Invokeinterface x = refl

-- what holds of it holds of the sketch that it shows
at_start : TableLaws → (n : ℕ) (p : CostParams) (op : TableCall) (x : Sketch) (e : Env) (s : MachineState) → StandsAt n p (table_code op) x e s → (Q : Sketch → Type 0) → Q (start_of op (entered (table_code op) x)) → Q x
at_start laws n p op x e s h Q q = subst Q (starts op x ∙ sym (laws.parts.rows.enters n p (table_code op) x e s h)) q

pub nulls_raise : TableLaws → NullRaises
nulls_raise laws n p op x e s h c null =
    let code = table_code op in
    let z = entered code x in
    let js = z.above in
    let P : Sketch → Type 0 = λ y. StandsAt n p code y e s → (d : HasReceiver n op y) → d.receiver ≡ 0 → RunsToRaise n p code (raises_at y (past 2 y).jpc 6) y e in
    at_start laws n p op x e s h P
    (λ g d zero. raised laws n p code (start_of op z) e s (past 2 (start_of op z)).jpc 6 g
    (null_raises laws n op z (low_of z.low) z.top z.next (head_of js) (head_of (tail_of js)) (head_of (tail_of (tail_of js))) z.under (tail_of (tail_of (tail_of js))) e d zero g.shape g.entry.idle)) h c null

pub changes_raise : TableLaws → ChangeRaises
changes_raise laws n p op x e s h c some none =
    let code = table_code op in
    let z = entered code x in
    let js = z.above in
    let P : Sketch → Type 0 = λ y. StandsAt n p code y e s → (d : HasReceiver n op y) → 0 < d.receiver → has_none op y d.receiver ≡ true → RunsToRaise n p code (raises_at y (past 2 y).jpc 4) y e in
    at_start laws n p op x e s h P
    (λ g d there not_one. raised laws n p code (start_of op z) e s (past 2 (start_of op z)).jpc 4 g
    (change_raises laws n op z (low_of z.low) z.top z.next (head_of js) (head_of (tail_of js)) (head_of (tail_of (tail_of js))) z.under (tail_of (tail_of (tail_of js))) e d there not_one g.shape g.entry.idle))
    h c some none

pub table_calls_run : TableLaws → TableCallsRun
table_calls_run laws n p op x e s h c some there can =
    let code = table_code op in
    let z = entered code x in
    let js = z.above in
    let P : Sketch → Type 0 = λ y. StandsAt n p code y e s → (d : HasReceiver n op y) → 0 < d.receiver → has_none op y d.receiver ≡ false → CanEnter n y (method_for op y d.receiver) (d.upper ++ d.receiver ∷ []) d.others
    → Enters n p code y e (method_for op y d.receiver) (behind op y) (d.upper ++ d.receiver ∷ []) d.others in
    at_start laws n p op x e s h P
    (λ g d more one can_be.
    let y = start_of op z in
    record {
      fitting = λ fit. made laws n p code y e s (method_for op y d.receiver) (behind op y) (d.upper ++ d.receiver ∷ []) d.others g
          (table_call_made laws n op z (low_of z.low) z.top z.next (head_of js) (head_of (tail_of js)) (head_of (tail_of (tail_of js))) z.under (tail_of (tail_of (tail_of js))) e d more one can_be fit g.shape g.entry.idle);
      overflowing = λ fit. raised laws n p code y e s (behind op y) 8 g
          (table_call_raises laws n op z (low_of z.low) z.top z.next (head_of js) (head_of (tail_of js)) (head_of (tail_of (tail_of js))) z.under (tail_of (tail_of (tail_of js))) e d more one can_be fit g.shape g.entry.idle);
    })
    h c some there can
