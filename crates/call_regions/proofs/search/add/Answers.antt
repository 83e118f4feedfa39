use Rattle.std.proofs.Common.{refl, sym, ◌∙◌}
use Rattle.std.proofs.lemmas.Bool.{both_ways}
use Rattle.call_regions.proofs.Lists.{from_among, among_from}
use Rattle.call_regions.proofs.Growing.{on_ok, finds_queued, finds_one}
use Rattle.call_regions.proofs.search.add.Goals as goal

pub returns-then-contains : goal.returns-then-contains
returns-then-contains c =
    let s = c.args.s.now in
    finds_queued c.args.f.now c.args.cache.block_words c.args.cache.blocks s c.args.t c.requires.search (from_among s.queue c.args.t (sym c.contains.ensures ∙ c.if-contains.true))

pub returns : goal.returns
returns c =
    let s = c.args.s.now in
    on_ok c.insert.result
    (λ queue.
    finds_one c.args.f.now c.args.cache.block_words c.args.cache.blocks s c.find.new.s _ c.args.t
    (λ has. both_ways c.contains.result c.if-contains.false (c.contains.ensures ∙ among_from s.queue c.args.t has))
    c.requires.search c.in_ok-find.ensures queue refl refl)
    c.insert.ensures
