use Rattle.std.proofs.Common.{get_or, ap, ◌∙◌}
use Rattle.std.proofs.lemmas.List.{take_all}
use Rattle.bound_rules.specs.Costs.{greatest_of}
use Rattle.bound_finder.specs.declared.known.Known.{Known}
use Rattle.bound_finder.specs.Known.{known_at}
use Rattle.bound_finder.specs.Telling.{with_back}
use Rattle.bound_finder.proofs.Greater.{greatest_more}
use Rattle.bound_finder.proofs.Told.{known_read, is_told, is_small}
use Rattle.bound_finder.proofs.telling.told_of.Goals as goal

pub loop-x-preserved : goal.loop-x-preserved
loop-x-preserved c =
    let table = c.args.table.now in
    let targets = c.args.targets.now in
    let back = c.args.back in
    let i = c.loop-x.x-index in
    let x = get_or targets i 0 in
    let lt = c.loop-x-test.true in
    let known = known_read table x _ (c.requires.known i 0 lt) in
    record {
      inside = greatest_more (λ y. (known_at table y).asked) targets i c.loop-x.inside _ c.greater-inside.result lt c.loop-x.invariant.inside (ap (λ (k : Known). k.asked) known) c.greater-inside.ensures;
      full = greatest_more (λ y. with_back back (known_at table y).full) targets i c.loop-x.full c.with_back.result c.greater-full.result lt c.loop-x.invariant.full (c.with_back.ensures ∙ ap (λ (k : Known). with_back back k.full) known) c.greater-full.ensures;
    }

pub returns : goal.returns
returns c =
    let table = c.args.table.now in
    let targets = c.args.targets.now in
    let back = c.args.back in
    let all = take_all c.loop-x.x-index targets c.loop-x-test.false in
    let inside = c.loop-x.invariant.inside ∙ ap (greatest_of (λ y. (known_at table y).asked)) all in
    let full = c.loop-x.invariant.full ∙ ap (greatest_of (λ y. with_back back (known_at table y).full)) all in
    record {
      told = is_told table back targets c.is_some.result c.unwrap_or.result c.unwrap_or-2.result c.loop-x.inside c.loop-x.full inside full c.is_some.ensures c.unwrap_or.ensures c.unwrap_or-2.ensures;
      small = is_small table back targets c.unwrap_or.result c.unwrap_or-2.result c.loop-x.inside c.loop-x.full inside full c.unwrap_or.ensures c.unwrap_or-2.ensures c.requires.known c.requires.limited;
    }
