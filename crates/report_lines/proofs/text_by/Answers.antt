use Rattle.std.proofs.Common.{ℕ, ◌<◌, List, length, Contains, sym, subst, arith}
use Rattle.bound_report.specs.declared.contents.rows.ReportRow.{ReportRow}
use Rattle.report_lines.specs.Told.{name_told, source_told}
use Rattle.report_lines.proofs.TellLemmas.{entry_row, entry_small, if_ok, text_of_entries}
use Rattle.report_lines.proofs.text_by.Goals as goal

pub text_of-requires-clause-known : goal.text_of-requires-clause-known
text_of-requires-clause-known c = λ e there.
    let within = subst (λ (es : List ReportRow). Contains es e) c.deref.ensures.value there in
    let q = entry_row (source_told c.args.methods.now) c.args.rows.now c.in_ok-entries.entries.items c.in_ok-entries.ensures e within in
    subst (λ (m : ℕ). m < length c.args.methods.now) (sym q.2) (c.requires.known q.0 q.1)

pub text_of-requires-clause-small : goal.text_of-requires-clause-small
text_of-requires-clause-small c = λ e there.
    let within = subst (λ (es : List ReportRow). Contains es e) c.deref.ensures.value there in
    let small = entry_small (source_told c.args.methods.now) c.args.rows.now e (c.in_ok-entries.ensures.each e within) in
    omega (arith, small, c.requires.small)

pub returns : goal.returns
returns c =
    let methods = c.args.methods.now in
    if_ok c.text_of.result _ _
    (λ text is. text_of_entries (source_told methods) (name_told methods) c.args.rows.now c.in_ok-entries.entries.items c.deref.result.now c.args.totals text.items c.deref.ensures.value c.in_ok-entries.ensures is)
    c.text_of.ensures
