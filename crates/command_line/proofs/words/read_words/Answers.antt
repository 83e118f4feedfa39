use Rattle.std.proofs.Common.{◌∙◌, sym}
use Rattle.command_line.proofs.WordLemmas.{verb_first}
use Rattle.command_line.proofs.Ranges.{ranges, there, follow}
use Rattle.command_line.proofs.words.read_words.Goals as goal

pub returns-clause-ranges : goal.returns-clause-ranges
returns-clause-ranges c =
    ranges c.args.words.now c.read_options.result (c.read_options.ensures ∙ verb_first c.args.words.now _ c.in-Some.verb c.in-len1-up.len_at_least (sym c.verb_named.ensures ∙ c.in-Some.is))

pub returns-clause-there : goal.returns-clause-there
returns-clause-there c =
    there c.args.words.now c.read_options.result (c.read_options.ensures ∙ verb_first c.args.words.now _ c.in-Some.verb c.in-len1-up.len_at_least (sym c.verb_named.ensures ∙ c.in-Some.is))

pub returns-clause-order : goal.returns-clause-order
returns-clause-order c =
    follow c.args.words.now c.read_options.result (c.read_options.ensures ∙ verb_first c.args.words.now _ c.in-Some.verb c.in-len1-up.len_at_least (sym c.verb_named.ensures ∙ c.in-Some.is))
