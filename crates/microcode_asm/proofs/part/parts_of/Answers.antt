use Rattle.std.proofs.Common.{rules, tests, eqb, not, Ok}
use Rattle.std.proofs.lemmas.Iterator.Splits.{YieldsList-from_slice_split}
use Rattle.std.proofs.lemmas.Iterator.Search.{YieldsList-from_take_while}
use Rattle.std.proofs.lemmas.Iterator.Consumers.{YieldsList-from_filter, YieldsList-at, map_from_collect}
use Rattle.microcode_asm.specs.Parts.{is_comment, is_empty}
use Rattle.microcode_asm.proofs.part.parts_of.Goals as goal

pub returns : goal.returns
returns c =
    map_from_collect {E = Unit {0}} (Ok c.in_ok-parts.parts) c.in_ok-parts.ensures.ran
    (YieldsList-from_take_while _ (λ part. not (is_comment part))
    (YieldsList-at c.take_while.ensures.source
    (YieldsList-from_filter _ (λ part. not (is_empty part))
    (YieldsList-at c.filter.ensures.source
    (YieldsList-from_slice_split _ (λ byte. eqb byte 32) c.args.line.now c.split.ensures.rest c.split.ensures.done c.split.ensures.closure (λ x b q k. search (rules, tests))))
    c.filter.ensures.closure (λ x b q k. search (rules, tests))))
    c.take_while.ensures.closure c.take_while.ensures.done (λ x b q k. search (rules, tests)))
