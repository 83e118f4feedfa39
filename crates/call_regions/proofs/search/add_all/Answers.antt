use Rattle.std.proofs.Common.{◌≡◌, ℕ, ◌+◌, List, take, get_or, Contains, sym, subst, inl, inr}
use Rattle.std.proofs.lemmas.Bool.{both_ways}
use Rattle.std.proofs.lemmas.List.{take_all}
use Rattle.lists.specs.Members.{nil_contains}
use Rattle.call_regions.specs.Searching.{FindsAll}
use Rattle.call_regions.proofs.Growing.{finds_none, finds_part, finds_then}
use Rattle.call_regions.proofs.Lists.{from_take, take_has, take_keeps, take_cases}
use Rattle.call_regions.proofs.search.add_all.Goals as goal

pub loop-t-init : goal.loop-t-init
loop-t-init c = finds_none c.args.f.now c.args.cache.block_words c.args.cache.blocks _ c.args.s.now c.requires.search (λ x has. nil_contains x has)

pub loop-t-preserved : goal.loop-t-preserved
loop-t-preserved c =
    let ts = c.args.targets.now in
    let i = c.loop-t.t-index in
    let lt = c.loop-t-test.true in
    finds_then c.args.f.now c.args.cache.block_words c.args.cache.blocks (Contains (take i ts)) (λ x. x ≡ get_or ts i 0) (Contains (take (i + 1) ts)) c.args.s.now c.loop-t.s c.add.new.s
    c.loop-t.invariant (c.fits.ensures.0 c.if-not-fits.false) c.in_ok-add.ensures
    (λ x has. take_keeps ts i x lt has)
    (λ x same. let P : ℕ → Type 0 = λ z. Contains (take (i + 1) ts) z in subst P (sym same) (take_has ts i 0 lt))
    (λ x has. elim (take_cases ts i 0 x lt has) [ inl there ↦ inl there | inr same ↦ inr (sym same) ])

pub returns-then-not-fits : goal.returns-then-not-fits
returns-then-not-fits c =
    let ts = c.args.targets.now in
    let i = c.loop-t.t-index in
    finds_part c.args.f.now c.args.cache.block_words c.args.cache.blocks (Contains (take i ts)) (Contains ts) c.args.s.now c.loop-t.s c.loop-t.invariant
    (λ x has. from_take i ts x has)
    (λ fits. both_ways c.fits.result c.if-not-fits.true (c.fits.ensures.1 fits))

pub returns : goal.returns
returns c =
    let ts = c.args.targets.now in
    let all = take_all c.loop-t.t-index ts c.loop-t-test.false in
    let P : List ℕ → Type 0 = λ xs. FindsAll c.args.f.now c.args.cache.block_words c.args.cache.blocks (Contains xs) c.args.s.now c.loop-t.s in
    subst P all c.loop-t.invariant
