-- The row of a plain opcode, or the way to the raise routine, from the sketch as it stands at the entry.
use Rattle.std.proofs.Common.{◌≡◌, ◌≢◌, ℕ, ◌==◌, true, false, sym, subst, ◌∙◌, eq-eqb, eqb-true}
use Rattle.micro_flow.specs.declared.CostParams.{CostParams}
use Rattle.jop_core.specs.State.{MachineState}
use Rattle.micro_sketch.specs.Sketch.{Sketch}
use Rattle.micro_sketch.specs.Stands.{Env}
use Rattle.micro_sketch.specs.Row.{StandsAt, Effect}
use Rattle.micro_sketch.specs.Rows.{Makes, finishes, end_of}
use Rattle.micro_sketch.specs.RowLaws.{AreRowLaws}
use Rattle.micro_sketch.specs.Opcodes.{PlainOp, OfNumber, OfLocal, OfStack, OfLong, OfDivision, OfBranch, OfSwitch, OfWide, code_of, effect, IsReady, raises}
use Rattle.micro_sketch.specs.NumberOps.{number_code, number_effect}
use Rattle.micro_sketch.specs.LocalOps.{local_code, local_effect, local_ready}
use Rattle.micro_sketch.specs.StackOps.{stack_code, stack_effect}
use Rattle.micro_sketch.specs.LongOps.{long_code, long_effect, long_ready}
use Rattle.micro_sketch.specs.DivisionOps.{Idiv, Irem, CanDivide, HasOperands}
use Rattle.micro_sketch.specs.BranchOps.{branch_code, branch_effect}
use Rattle.micro_sketch.specs.SwitchOps.{Tableswitch, Lookupswitch, switch_effect, switch_ready}
use Rattle.micro_sketch.specs.WideOps.{wide_effect, wide_ready}
use Rattle.micro_sketch.proofs.PlainRows.Shaping.{Row}
use Rattle.micro_sketch.proofs.PlainRows.RowRuns.{RowRun, RaiseRun}
use Rattle.micro_sketch.proofs.PlainRows.Numbers.{number_row}
use Rattle.micro_sketch.proofs.PlainRows.Locals.{local_row}
use Rattle.micro_sketch.proofs.PlainRows.Stacks.{stack_row}
use Rattle.micro_sketch.proofs.PlainRows.LongRows.{long_row}
use Rattle.micro_sketch.proofs.PlainRows.DivideRunning.{DivisionLaws}
use Rattle.micro_sketch.proofs.PlainRows.DivideRows.{idiv_divides, irem_divides}
use Rattle.micro_sketch.proofs.PlainRows.DivideRaises.{idiv_to_raise, irem_to_raise}
use Rattle.micro_sketch.proofs.PlainRows.Branches.{branch_row}
use Rattle.micro_sketch.proofs.PlainRows.Wides.{wide_row}
use Rattle.micro_sketch.proofs.PlainRows.Switches.{tableswitch}
use Rattle.micro_sketch.proofs.PlainRows.Lookups.{lookupswitch}

not_zero_by : (d : ℕ) → (d == 0) ≡ false → d ≢ 0
not_zero_by d other same = let yes : (d == 0) ≡ true = eq-eqb d 0 same in let clash : true ≡ false = sym yes ∙ other in cc

can_divide : (x : Sketch) → HasOperands x → (x.top == 0) ≡ false → CanDivide x
can_divide x h other = record { dividend = h.dividend; divisor = h.divisor; not_zero = not_zero_by x.top other }

module _ (laws : AreRowLaws) (divides : DivisionLaws) where
  -- a row by computing, from the sketch as it stands at the entry
  computed : (n : ℕ) (p : CostParams) (code : ℕ) (f : Sketch → Effect) (x : Sketch) (e : Env) (s : MachineState) → StandsAt n p code x e s → Row code f x → RowRun n (f x) x e
  computed n p code f x e s stands row =
      let P : Sketch → Type 0 = λ z. Makes (f z) z in
      let m = subst P (sym (laws.enters n p code x e s stands)) row in
      let g = finishes (f x) x m in
      record { after = end_of x g; reaches = laws.finish_runs n p code x e s stands g; done = g.done; follows = m.follows }

  -- where no opcode raises
  pub row_run : (n : ℕ) (p : CostParams) (op : PlainOp) (x : Sketch) (e : Env) (s : MachineState) → StandsAt n p (code_of op) x e s → IsReady op x → raises op x ≡ false → RowRun n (effect op x) x e
  row_run n p (OfNumber op) x e s stands ready calm = computed n p (number_code op) (number_effect op) x e s stands (number_row op x)
  row_run n p (OfLocal op) x e s stands ready calm =
      let Q : Sketch → Type 0 = λ z. local_ready op z in
      computed n p (local_code op) (local_effect op) x e s stands (local_row op x (subst Q (laws.enters n p (local_code op) x e s stands) ready))
  row_run n p (OfStack op) x e s stands ready calm = computed n p (stack_code op) (stack_effect op) x e s stands (stack_row op x ready)
  row_run n p (OfLong op) x e s stands ready calm =
      let Q : Sketch → Type 0 = λ z. long_ready op z in
      computed n p (long_code op) (long_effect op) x e s stands (long_row op x ready (subst Q (laws.enters n p (long_code op) x e s stands) ready))
  row_run n p (OfDivision Idiv) x e s stands ready calm = idiv_divides divides n p x e s stands (can_divide x ready calm)
  row_run n p (OfDivision Irem) x e s stands ready calm = irem_divides divides n p x e s stands (can_divide x ready calm)
  row_run n p (OfBranch op) x e s stands ready calm = computed n p (branch_code op) (branch_effect op) x e s stands (branch_row op x)
  row_run n p (OfSwitch Tableswitch) x e s stands ready calm =
      let Q : Sketch → Type 0 = λ z. switch_ready Tableswitch z in
      computed n p 170 (switch_effect Tableswitch) x e s stands (tableswitch x (subst Q (laws.enters n p 170 x e s stands) ready))
  row_run n p (OfSwitch Lookupswitch) x e s stands ready calm =
      let Q : Sketch → Type 0 = λ z. switch_ready Lookupswitch z in
      computed n p 171 (switch_effect Lookupswitch) x e s stands (lookupswitch x (subst Q (laws.enters n p 171 x e s stands) ready))
  row_run n p (OfWide op) x e s stands ready calm =
      let Q : Sketch → Type 0 = λ z. wide_ready op z in
      computed n p 196 (wide_effect op) x e s stands (wide_row op x (subst Q (laws.enters n p 196 x e s stands) ready))

  -- and where one does
  pub raise_run : (n : ℕ) (p : CostParams) (op : PlainOp) (x : Sketch) (e : Env) (s : MachineState) → StandsAt n p (code_of op) x e s → IsReady op x → raises op x ≡ true → RaiseRun n x e
  raise_run n p (OfNumber op) x e s stands ready hot = cc
  raise_run n p (OfLocal op) x e s stands ready hot = cc
  raise_run n p (OfStack op) x e s stands ready hot = cc
  raise_run n p (OfLong op) x e s stands ready hot = cc
  raise_run n p (OfDivision Idiv) x e s stands ready hot = idiv_to_raise divides n p x e s stands ready.list (eqb-true x.top 0 hot)
  raise_run n p (OfDivision Irem) x e s stands ready hot = irem_to_raise divides n p x e s stands ready.list (eqb-true x.top 0 hot)
  raise_run n p (OfBranch op) x e s stands ready hot = cc
  raise_run n p (OfSwitch op) x e s stands ready hot = cc
  raise_run n p (OfWide op) x e s stands ready hot = cc
