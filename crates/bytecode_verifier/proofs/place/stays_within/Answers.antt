use Rattle.std.proofs.Common.{not, sym, ap, ◌∙◌, ◌+◌, eqb, length}
use Rattle.std.specs.Prelude.{nat_lt}
use Rattle.std.proofs.lemmas.Bool.{eq-eqb, ne_eqb}
use Rattle.bytecode_model.specs.Table.{row_of}
use Rattle.bytecode_typing.specs.Walk.{falls_through}
use Rattle.bytecode_verifier.proofs.FormLemmas.{falls_as, first_of_three, second_of_three, third_of_three}
use Rattle.bytecode_verifier.proofs.place.stays_within.Goals.{then-instr-via-then-instr, then-instr-via-else-instr+then-stops}
use Rattle.bytecode_verifier.proofs.place.stays_within.Goals as goal

pub returns-then-instr : goal.returns-then-instr
returns-then-instr c = λ o.
    let code = c.args.code.now in
    let i = c.args.instr.now in
    let last = nat_lt (c.args.place + i.length) (length code) in
    elim c.then-instr.branch [
      | then-instr-via-then-instr w ↦ first_of_three (eqb i.op 171) (not (falls_through (row_of code i o))) last (eq-eqb i.op 171 w.if-instr.true)
      | then-instr-via-else-instr+then-stops w ↦
          second_of_three (eqb i.op 171) (not (falls_through (row_of code i o))) last
          (ap not (falls_as code i o w.family_of.result w.family_of.ensures) ∙ (sym (w.stops.ensures code o) ∙ w.if-stops.true))
    ]

pub returns : goal.returns
returns c = λ o.
    let code = c.args.code.now in
    let i = c.args.instr.now in
    third_of_three (eqb i.op 171) (not (falls_through (row_of code i o))) (nat_lt (c.args.place + i.length) (length code)) (ne_eqb i.op 171 c.if-instr.false)
    (ap not (falls_as code i o c.family_of.result c.family_of.ensures) ∙ (sym (c.stops.ensures code o) ∙ c.if-stops.false))
