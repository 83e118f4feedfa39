use Rattle.std.proofs.Common.{◌≡◌, ◌++◌, sym, ◌∙◌, arith}
use Rattle.std.specs.Prelude.{codes}
use Rattle.slot_table.proofs.Lines.{word_is, no_space, no_number, no_length, are_parts}
use Rattle.slot_table.proofs.line.parts.Goals as goal

pub returns-in_err-name : goal.returns-in_err-name
returns-in_err-name c =
    let is : c.args.line.now ≡ codes "slot " ++ c.in_ok-strip_prefix.field-0.now = word_is c.args.line.now c.in_ok-strip_prefix.field-0.now c.in_ok-strip_prefix.ensures.cases.0 c.in_ok-strip_prefix.ensures.cases.1 in
    rw c.from_residual-in_err-name.ensures (no_space c.args.line.now c.in_ok-strip_prefix.field-0.now is c.in_err-name.ensures)

pub returns-in_err-length : goal.returns-in_err-length
returns-in_err-length c =
    let is : c.args.line.now ≡ codes "slot " ++ c.in_ok-strip_prefix.field-0.now = word_is c.args.line.now c.in_ok-strip_prefix.field-0.now c.in_ok-strip_prefix.ensures.cases.0 c.in_ok-strip_prefix.ensures.cases.1 in
    rw c.from_residual-in_err-length.ensures (no_number c.args.line.now c.in_ok-strip_prefix.field-0.now c.in_ok-name.name.now c.in_ok-name.length.now is c.in_ok-name.ensures c.in_err-length.ensures)

pub returns-then-length-eq0 : goal.returns-then-length-eq0
returns-then-length-eq0 c =
    let is : c.args.line.now ≡ codes "slot " ++ c.in_ok-strip_prefix.field-0.now = word_is c.args.line.now c.in_ok-strip_prefix.field-0.now c.in_ok-strip_prefix.ensures.cases.0 c.in_ok-strip_prefix.ensures.cases.1 in
    no_length c.args.line.now c.in_ok-strip_prefix.field-0.now c.in_ok-name.name.now c.in_ok-name.length.now is c.in_ok-name.ensures (sym c.in_ok-length.ensures.1 ∙ c.if-length-eq0.true)

pub returns : goal.returns
returns c =
    let is : c.args.line.now ≡ codes "slot " ++ c.in_ok-strip_prefix.field-0.now = word_is c.args.line.now c.in_ok-strip_prefix.field-0.now c.in_ok-strip_prefix.ensures.cases.0 c.in_ok-strip_prefix.ensures.cases.1 in
    let value = c.in_ok-length.ensures.1 in
    let fits = c.in_ok-length.ensures.0.1 in
    are_parts c.args.line.now c.in_ok-strip_prefix.field-0.now c.in_ok-name.name.now c.in_ok-name.length.now c.in_ok-length.length is c.in_ok-name.ensures c.in_ok-length.ensures.0.0 (sym value) c.if-length-eq0.false (omega (arith, value, fits))
