use Rattle.std.specs.Prelude.{decimal, flat_map}
use Rattle.report_lines.specs.Text.{entry_line, other_lines}
use Rattle.report_lines.specs.Told.{name_told, source_told}
use Rattle.report_lines.proofs.TellLemmas.{text_is_all}
use Rattle.report_lines.proofs.lines.text_of.Goals as goal

pub returns : goal.returns
returns c =
    let methods = c.args.methods.now in
    let t = c.args.totals in
    text_is_all (decimal t.bound) (flat_map (entry_line (source_told methods) (name_told methods) t.bound) c.args.entries.now) (other_lines t)
    c.new-text.result.items c.put_bound.new.text.items c.put_entries.new.text.items c.put_others.new.text.items
    c.new-text.ensures.items c.in_ok-put_bound.ensures c.in_ok-put_entries.ensures c.in_ok-put_others.ensures
