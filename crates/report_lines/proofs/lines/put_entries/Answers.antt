use Rattle.std.proofs.Common.{Some, ◌∙◌, ap}
use Rattle.std.proofs.lemmas.Grind.{take_at_read}
use Rattle.std.proofs.lemmas.List.Elements.{Contains-get_or}
use Rattle.std.proofs.lemmas.Option.{slice_get-get_or}
use Rattle.report_lines.proofs.TellLemmas.{line_more}
use Rattle.report_lines.proofs.lines.put_entries.Goals as goal

pub bounds-methods-entry : goal.bounds-methods-entry
bounds-methods-entry c = c.requires.known _ (Contains-get_or c.args.entries.now c.loop-entry.entry-index _ c.loop-entry-test.true)

pub put_entry-requires : goal.put_entry-requires
put_entry-requires c = c.requires.small _ (Contains-get_or c.args.entries.now c.loop-entry.entry-index _ c.loop-entry-test.true)

pub loop-entry-preserved : goal.loop-entry-preserved
loop-entry-preserved c =
    let methods = c.args.methods.now in
    let entries = c.args.entries.now in
    let i = c.loop-entry.entry-index in
    let method = c.index-methods-entry.result in
    let is = c.index-methods-entry.is in
    let at = slice_get-get_or methods _ method (c.requires.known _ (Contains-get_or entries i _ c.loop-entry-test.true)) ∙ ap Some cc in
    line_more methods c.args.bound entries i _ method c.args.text.now.items c.loop-entry.text.items c.put_entry.new.text.items (take_at_read entries i _ c.loop-entry-test.true).1 at
    c.loop-entry.invariant c.in_ok-put_entry.ensures
