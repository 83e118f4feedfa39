use Rattle.std.proofs.Common.{ℕ, List}
use Rattle.std.proofs.lemmas.Result.{err_from_is_err_and}
use Rattle.slot_table.specs.declared.slot.Slot.{Slot}
use Rattle.slot_table.specs.Grammar.{IsSlotLine}
use Rattle.slot_table.specs.Parts.{IsWordOf}
use Rattle.slot_table.proofs.NameLemmas.{on_bad}
use Rattle.slot_table.proofs.Lines.{no_parts, other_slot_word}
use Rattle.slot_table.proofs.line.read_slot.Goals as goal

pub returns-in_err-class-clause-bad : goal.returns-in_err-class-clause-bad
returns-in_err-class-clause-bad c =
    let p = err_from_is_err_and c.from_residual.result c.from_residual.ensures.1 in
    rw (p.1, p.2)
    (on_bad c.in_err-class.field-0.0 ((class : List ℕ) (method : List ℕ) → ¬ IsWordOf c.in-Some.name.now class method) ((s : Slot) → ¬ IsSlotLine c.args.line.now s)
    (other_slot_word c.args.line.now c.in-Some.name.now c.in-Some.length c.in-Some.ensures) c.in_err-class.ensures.bad)

pub returns-in_default-clause-bad : goal.returns-in_default-clause-bad
returns-in_default-clause-bad c = no_parts c.args.line.now c.in_default.ensures
