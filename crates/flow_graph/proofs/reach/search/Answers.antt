use Rattle.std.proofs.Common.{◌≡◌, ℕ, ◌<◌, true, false, List, [], length, sym, ◌∙◌, subst, arith}
use Rattle.std.proofs.lemmas.List.{nil_from_length, get_or_default}
use Rattle.flow_graph.specs.Reach.{IsSearch, flag_at}
use Rattle.flow_graph.proofs.Searching.{search_ends, search_skips, search_start, search_takes, smaller, stacked_within}
use Rattle.flow_graph.proofs.reach.search.Goals as goal

pub loop-x-init : goal.loop-x-init
loop-x-init c = search_start c.args.edges.now c.args.nodes c.in_ok-stack.stack.items c.in_ok-flags.flags.items c.requires.entry c.in_ok-stack.ensures.items (c.in_ok-flags.ensures.items_if_clones_equal (λ y h. h))

pub loop-x-smaller-in-Continue-branch-3 : goal.loop-x-smaller-in-Continue-branch-3
loop-x-smaller-in-Continue-branch-3 c =
    let es = c.args.edges.now in
    let x = c.in-Some.x in
    let flags = c.loop-x.flags.items in
    let s = c.loop-x.invariant in
    let left = c.pop.new.self.items in
    let lt = stacked_within c.args.nodes x c.loop-x.stack.items left c.in-Some.ensures.items s.stack_within in
    let long = s.long in
    let inside : x < length flags = omega arith in
    let fresh : flag_at flags x ≡ false = sym (c.index.ensures ∙ get_or_default flags x c.index.result.now false inside) ∙ c.if-not-index.true in
    smaller es x flags c.loop-x.stack.items left c.push_targets.new.stack.items inside fresh c.in-Some.ensures.items c.in_ok-push_targets.ensures

pub loop-x-preserved-in-Continue-branch-3 : goal.loop-x-preserved-in-Continue-branch-3
loop-x-preserved-in-Continue-branch-3 c =
    let es = c.args.edges.now in
    let n = c.args.nodes in
    let x = c.in-Some.x in
    let flags = c.loop-x.flags.items in
    let s = c.loop-x.invariant in
    let left = c.pop.new.self.items in
    let P : List ℕ → Type 0 = λ ls. IsSearch es n ls flags in
    search_takes es n flags left x c.push_targets.new.stack.items c.requires.within (subst P c.in-Some.ensures.items s) c.in_ok-push_targets.ensures

pub loop-x-preserved : goal.loop-x-preserved
loop-x-preserved c =
    let es = c.args.edges.now in
    let n = c.args.nodes in
    let x = c.in-Some.x in
    let flags = c.loop-x.flags.items in
    let s = c.loop-x.invariant in
    let left = c.pop.new.self.items in
    let lt = stacked_within n x c.loop-x.stack.items left c.in-Some.ensures.items s.stack_within in
    let long = s.long in
    let inside : x < length flags = omega arith in
    let at : flag_at flags x ≡ true = sym (c.index.ensures ∙ get_or_default flags x c.index.result.now false inside) ∙ c.if-not-index.false in
    let P : List ℕ → Type 0 = λ ls. IsSearch es n ls flags in
    search_skips es n flags left x (subst P c.in-Some.ensures.items s) at

pub returns : goal.returns
returns c =
    let ok = c.loop-x.stack.ok in
    let cases = c.in_default.ensures.cases in
    let empty : c.loop-x.stack.items ≡ [] = nil_from_length c.loop-x.stack.items (omega (arith, ok.0, cases.0)) in
    let P : List ℕ → Type 0 = λ ls. IsSearch c.args.edges.now c.args.nodes ls c.loop-x.flags.items in
    search_ends c.args.edges.now c.args.nodes c.loop-x.flags.items (subst P empty c.loop-x.invariant)
