use Rattle.std.proofs.Common.{sym, ◌∙◌}
use Rattle.lists.specs.Lists.{first}
use Rattle.program_resolution.proofs.LinkingLemmas.{mentions, nothing_found, mention_refuses, all_refuse, nothing_refuses}
use Rattle.program_resolution.proofs.resolving.pass_mentions.Goals as goal

pub returns-in-Some-clause-refused : goal.returns-in-Some-clause-refused
returns-in-Some-clause-refused c =
    mention_refuses c.args.classes.now c.args.files c.args.declares_main c.in-Some.refusal (sym c.requires.early)
    (sym c.in-Some.is ∙ c.in_ok-refusal.ensures)

pub returns-in-Some-refusal_of_all-clause-refused : goal.returns-in-Some-refusal_of_all-clause-refused
returns-in-Some-refusal_of_all-clause-refused c =
    let cs = c.args.classes.now in
    let n = c.args.files in
    let d = c.args.declares_main in
    all_refuse cs n d c.in-Some-refusal_of_all.refusal (sym c.requires.early) (nothing_found c.in_ok-refusal.field-0 (first (mentions cs n d)) c.in_ok-refusal.ensures c.in_default.not-Some)
    (sym c.in-Some-refusal_of_all.is ∙ c.refusal_of_all.ensures)

pub returns-in-None-clause-passed : goal.returns-in-None-clause-passed
returns-in-None-clause-passed c =
    let cs = c.args.classes.now in
    let n = c.args.files in
    let d = c.args.declares_main in
    nothing_refuses cs n d (sym c.requires.early) (nothing_found c.in_ok-refusal.field-0 (first (mentions cs n d)) c.in_ok-refusal.ensures c.in_default.not-Some)
    (sym c.in-None.is ∙ c.refusal_of_all.ensures)
