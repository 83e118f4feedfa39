use Rattle.std.proofs.Common.{◌<◌, List, length, Contains, sym, subst}
use Rattle.report_lines.specs.declared.methods.MethodText.{MethodText}
use Rattle.bound_report.specs.declared.contents.rows.ReportRow.{ReportRow}
use Rattle.report_lines.specs.Text.{IsTextBy}
use Rattle.report_lines.specs.Told.{name_told, source_told}
use Rattle.report_lines.proofs.TellLemmas.{if_ok, row_known, report_is}
use Rattle.report_lines.proofs.report_text.Goals as goal

pub text_by-requires-clause-known : goal.text_by-requires-clause-known
text_by-requires-clause-known c =
    let K : List MethodText → Type 0 = λ xs. (r : ReportRow) → Contains c.args.rows.now r → r.method < length xs in
    subst K (sym c.deref.ensures.value)
    (row_known c.methods_stand_by_number.ensures c.args.program.now c.in_ok-methods.methods.items c.args.rows.now c.in_ok-methods.ensures c.requires.known)

pub returns : goal.returns
returns c =
    let rows = c.args.rows.now in
    let t = c.args.totals in
    if_ok c.text_by.result _ _
    (λ text is.
    let P : List MethodText → Type 0 = λ xs. IsTextBy (source_told xs) (name_told xs) rows t text.items in
    report_is c.methods_stand_by_number.ensures c.args.program.now c.in_ok-methods.methods.items rows c.in_ok-methods.ensures c.requires.known t text.items (subst P c.deref.ensures.value is))
    c.text_by.ensures
