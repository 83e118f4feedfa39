use Rattle.std.proofs.Common.{rules, [], sym}
use Rattle.std.proofs.lemmas.List.{get_or_past}
use Rattle.microcode_listing.specs.Names.{operation_names, operation_text}
use Rattle.microcode_listing.proofs.Texts.{operation_at}
use Rattle.microcode_listing.proofs.names.operation_name.Goals as goal

pub returns-then-code-lt48 : goal.returns-then-code-lt48
returns-then-code-lt48 c = search (rules, operation_at)

pub returns-else-code-lt48 : goal.returns-else-code-lt48
unfolding operation_text
returns-else-code-lt48 c = sym (get_or_past operation_names c.args.code [] c.if-code-lt48.false)
