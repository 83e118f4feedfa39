-- The row of an opcode of devices, from the sketch as it stands at the entry.
use Rattle.std.proofs.Common.{ℕ, sym, subst}
use Rattle.micro_flow.specs.declared.CostParams.{CostParams}
use Rattle.jop_core.specs.State.{MachineState}
use Rattle.micro_sketch.specs.Sketch.{Sketch}
use Rattle.micro_sketch.specs.Stands.{Env}
use Rattle.micro_sketch.specs.Row.{StandsAt}
use Rattle.micro_sketch.specs.Rows.{Makes}
use Rattle.micro_sketch.specs.RowLaws.{AreRowLaws}
use Rattle.opcode_steps.specs.Devices.Opcodes.{DeviceOp, code_of, effect}
use Rattle.opcode_steps.proofs.DeviceLemmas.Rows.{row_of}

module _ (laws : AreRowLaws) where
  pub device_made : (n : ℕ) (p : CostParams) (op : DeviceOp) (x : Sketch) (e : Env) (s : MachineState) → StandsAt n p (code_of op) x e s → Makes (effect op x) x
  device_made n p op x e s stands =
      let P : Sketch → Type 0 = λ z. Makes (effect op z) z in
      subst P (sym (laws.enters n p (code_of op) x e s stands)) (row_of op x)
