use Rattle.std.proofs.Common.{◌+◌, refl, sym, ap, ◌∙◌}
use Rattle.std.proofs.lemmas.Bool.{both_ways}
use Rattle.method_cache.specs.Contents.{blocks_for}
use Rattle.call_regions.specs.Tables.{words_of}
use Rattle.call_regions.proofs.Lists.{from_among, among_from}
use Rattle.call_regions.proofs.Growing.{adds_known, adds_new}
use Rattle.call_regions.proofs.search.find.Goals as goal

pub returns-in_ok-insert : goal.returns-in_ok-insert
returns-in_ok-insert c =
    let s = c.args.s.now in
    let w = c.args.cache.block_words in
    let blocks = c.blocks-then-not-contains.ensures in
    adds_new c.args.f.now w s _ c.args.t c.requires.search
    (λ has. both_ways c.contains.result c.if-not-contains.true (c.contains.ensures ∙ among_from s.methods c.args.t has))
    (record { method = c.method.result.now; is = c.method.ensures; coded = blocks.form })
    refl c.in_ok-insert.ensures
    (ap (λ n. s.blocks + n) (c.from.ensures ∙ blocks.blocks ∙ sym (ap (λ o. blocks_for w (words_of o)) c.method.ensures)))

pub returns-else-not-contains : goal.returns-else-not-contains
returns-else-not-contains c =
    let s = c.args.s.now in
    adds_known c.args.f.now c.args.cache.block_words s c.args.t c.requires.search (from_among s.methods c.args.t (sym c.contains.ensures ∙ c.if-not-contains.false))
