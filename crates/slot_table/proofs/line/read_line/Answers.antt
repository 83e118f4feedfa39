use Rattle.std.proofs.lemmas.Bool.{iff_false}
use Rattle.std.proofs.lemmas.Result.{err_from_is_err_and}
use Rattle.slot_table.specs.declared.slot.Slot.{Slot}
use Rattle.slot_table.specs.Grammar.{IsSlotLine, IsNoSlotLine}
use Rattle.slot_table.proofs.NameLemmas.{on_bad}
use Rattle.slot_table.proofs.line.read_line.Goals as goal

pub returns-in_err-slot-clause-bad : goal.returns-in_err-slot-clause-bad
returns-in_err-slot-clause-bad c =
    let p = err_from_is_err_and c.from_residual.result c.from_residual.ensures.1 in
    rw (p.1, p.2)
    (on_bad c.in_err-slot.field-0.0 ((s : Slot) → ¬ IsSlotLine c.args.line.now s) (IsNoSlotLine c.args.line.now) (λ none. (iff_false c.is_silent.ensures c.if-is_silent.false, none)) c.in_err-slot.ensures.bad)
