use Rattle.std.proofs.Common.{◌≡◌, ℕ, rules}
use Rattle.std.proofs.lemmas.Fn.{always_returns_same}
use Rattle.std.specs.declared.cmp.Reverse.{Reverse}
use Rattle.bound_report.specs.declared.contents.rows.ReportRow.{ReportRow}
use Rattle.report_lines.proofs.entries.sort_entries.Goals as goal

-- what the order goes by
abbrev sort_key : ReportRow → Reverse ℕ × ℕ × ℕ
sort_key e = (record { 0 = e.cycles }, e.method, e.place)

pub returns-clause-sorted : goal.returns-clause-sorted
returns-clause-sorted c =
    c.sort_unstable_by_key.ensures.sorted sort_key (always_returns_same _ (λ a r. r ≡ sort_key a.0.now) _ (λ a r f' called. search rules))
