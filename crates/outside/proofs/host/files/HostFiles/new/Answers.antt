use Rattle.std.proofs.Common.{◌∙◌, ap, map, arith}
use Rattle.std.proofs.lemmas.List.{take_all}
use Rattle.outside.proofs.Known.{told_named}
use Rattle.outside.proofs.host.files.HostFiles.new.Goals as goal

pub returns-clause-told : goal.returns-clause-told
returns-clause-told g c = told_named _ _ _ _ _ (c.loop-word.invariant ∙ ap (map _) (take_all _ _ (omega arith)))
