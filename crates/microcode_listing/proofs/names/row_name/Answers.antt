use Rattle.std.proofs.Common.{rules, sym, ap, ◌∙◌}
use Rattle.std.specs.Prelude.{slice_get}
use Rattle.std.proofs.lemmas.Option.{slice_get_past}
use Rattle.microcode_listing.specs.Names.{row_names, row_text}
use Rattle.microcode_listing.proofs.Texts.{row_at}
use Rattle.microcode_listing.proofs.names.row_name.Goals as goal

pub returns-then-number-lt148 : goal.returns-then-number-lt148
returns-then-number-lt148 c = search (rules, row_at)

pub returns-else-number-lt148 : goal.returns-else-number-lt148
unfolding row_text
returns-else-number-lt148 c = sym (slice_get_past row_names c.row_number-number.result c.if-number-lt148.false) ∙ ap (slice_get row_names) c.row_number-number.ensures
