use Rattle.std.proofs.Common.{List, subst, arith}
use Rattle.std.proofs.lemmas.Option.{slice_get_within}
use Rattle.std.proofs.lemmas.List.Elements.{All-contains}
use Rattle.method_flow.specs.declared.flow.Call.{Call}
use Rattle.call_regions.specs.Searching.{FindsAll}
use Rattle.call_regions.specs.Tables.{IsOfTable, IsTargetOf}
use Rattle.call_regions.proofs.Lists.{from_get}
use Rattle.call_regions.proofs.Exploring.{explores_none, explores_more, explored, queue_is_short}
use Rattle.call_regions.proofs.search.add_reached.Goals as goal

pub loop-at-init : goal.loop-at-init
loop-at-init c = explores_none c.args.f.now c.args.cache.block_words c.args.cache.blocks c.args.s.now c.requires.search

pub calls_of-requires : goal.calls_of-requires
calls_of-requires c =
    let s = c.loop-at.s in
    let search = c.loop-at.invariant.search in
    let y = c.in-Some.method in
    let code = All-contains (IsOfTable c.args.f.now) s.methods y search.coded (search.within y (from_get s.queue c.loop-at.at y c.in-Some.ensures.some.1)) in
    slice_get_within c.args.f.now.methods y code.method code.is

pub loop-at-preserved : goal.loop-at-preserved
loop-at-preserved c =
    let f = c.args.f.now in
    let w = c.args.cache.block_words in
    let most = c.args.cache.blocks in
    let has = c.calls_of.ensures.calls in
    let here = c.in-Some.ensures.some in
    let P : List Call → Type 0 = λ ks. FindsAll f w most (IsTargetOf f ks) c.loop-at.s c.add_targets.new.s in
    explores_more f w most c.args.s.now c.loop-at.s c.add_targets.new.s c.loop-at.at c.in-Some.method has.code c.loop-at.invariant here.0 here.1 (subst P has.are c.in_ok-add_targets.ensures)

pub returns-in_default : goal.returns-in_default
returns-in_default c = explored c.args.f.now c.args.cache.block_words c.args.cache.blocks c.args.s.now c.loop-at.s c.loop-at.at c.loop-at.invariant c.in_default.ensures.none

pub returns : goal.returns
returns c =
    let short = queue_is_short c.args.f.now c.args.cache.block_words c.args.cache.blocks c.requires.size c.loop-at.s c.loop-at.invariant.search in
    let end = c.loop-at-test.false in
    explored c.args.f.now c.args.cache.block_words c.args.cache.blocks c.args.s.now c.loop-at.s c.loop-at.at c.loop-at.invariant (λ fits. omega arith)
