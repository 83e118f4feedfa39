use Rattle.std.proofs.Common.{◌≡◌, ℕ, ◌+◌, ◌*◌, suc, ◌<◌, ◌≤◌, Bool, true, false, List, [], ◌∷◌, ◌++◌, length, map, All, set, replicate, refl, sym, ap, ◌∙◌, subst, inl, inr, arith}
use Rattle.std.specs.Prelude.{slice_index_or}
use Rattle.std.proofs.lemmas.List.{nil_from_length, length-append, length-map, get_or_default}
use Rattle.loop_nest.proofs.Searching.{few_sources, fewer_left}
use Rattle.loop_nest.specs.Digraph.{sources_of}
use Rattle.loop_rules.specs.Further.Search.{IsSearch, IsTaken, back_from, flag_at}
use Rattle.loop_rules.proofs.FurtherLemmas.Searching.{unflagged, unflagged-set, search_begins, search_skips, search_takes, search_ends, sources_below, stacked_within}
use Rattle.loop_rules.proofs.further.search.search.Goals as goal

-- as many nodes are left to be looked at as are flagged, or fewer
smaller : (Stop : ℕ → Type 0) (x m : ℕ) (flags : List Bool) (stack left stack' next stops stops' : List ℕ) → x < length flags → flag_at flags x ≡ false → length next ≤ m → stack ≡ left ++ x ∷ []
    → IsTaken Stop next x stops stops' left stack' → unflagged (set flags x true) * suc m + length stack' < unflagged flags * suc m + length stack
smaller Stop x m flags stack left stack' next stops stops' lt fresh short is taken =
    let a = ap length is in
    let l = length-append left (x ∷ []) in
    let e : length stack ≡ suc (length left) = omega arith in
    let below : length stack' ≤ length left + length next = at_most taken in
    let most = fewer_left (unflagged (set flags x true)) (unflagged flags) m (length left) (length next) (unflagged-set x flags lt fresh) short in
    rw e (omega (arith, below, most))
  where
    at_most : IsTaken Stop next x stops stops' left stack' → length stack' ≤ length left + length next
    at_most (inl t) = let same = ap (λ (us : List ℕ). length us) t.2 in omega arith
    at_most (inr t) = let more = ap (λ (us : List ℕ). length us) t.2 in let k = length-append left next in omega arith

few : (es : List (ℕ × ℕ)) (x : ℕ) (backs : List ℕ) → length (map (back_from backs) (sources_of es x)) ≤ length es
few es x backs = let short = few_sources es x in let same = length-map (sources_of es x) (back_from backs) in omega arith

pub loop-x-init : goal.loop-x-init
loop-x-init g c =
    search_begins c.args.g.now c.args.backs.now (g.S.Stops.stops_at c.args.stops.now) c.args.end c.in_ok-stack.stack.items c.in_ok-flags.flags.items c.new-found.result.items c.requires.end c.in_ok-stack.ensures.items
    (c.in_ok-flags.ensures.items_if_clones_equal (λ y h. h) ∙ ap (λ (n : ℕ). replicate n false) c.nodes-nodes.ensures.nodes) c.new-found.ensures.items

pub index-requires : goal.index-requires
index-requires g c =
    let lt = stacked_within c.args.g.now.nodes c.in-Some.x c.loop-x.stack.items c.pop.new.self.items c.in-Some.ensures.items c.loop-x.invariant.stack_within in
    omega (arith, c.loop-x.invariant.long, c.loop-x.flags.ok.0)

pub index_mut-requires : goal.index_mut-requires
index_mut-requires g c =
    let lt = stacked_within c.args.g.now.nodes c.in-Some.x c.loop-x.stack.items c.pop.new.self.items c.in-Some.ensures.items c.loop-x.invariant.stack_within in
    omega (arith, c.loop-x.invariant.long, c.loop-x.flags.ok.0)

pub take-requires-clause-node : goal.take-requires-clause-node
take-requires-clause-node g c =
    let lt = stacked_within c.args.g.now.nodes c.in-Some.x c.loop-x.stack.items c.pop.new.self.items c.in-Some.ensures.items c.loop-x.invariant.stack_within in
    omega (arith, c.requires.sources.long)

pub take-requires-clause-within : goal.take-requires-clause-within
take-requires-clause-within g c =
    let gr = c.args.g.now in
    let x = c.in-Some.x in
    let lt = stacked_within gr.nodes x c.loop-x.stack.items c.pop.new.self.items c.in-Some.ensures.items c.loop-x.invariant.stack_within in
    let long = c.requires.backs.long in
    let below = sources_below gr x c.nodes-nodes.ensures.valid in
    subst (λ (us : List ℕ). All (λ y. y < length c.args.backs.now) us) (sym (c.requires.sources.each x lt)) (λ k d lt'. let b = below k d lt' in omega arith)

pub loop-x-smaller-in-Continue-branch-3 : goal.loop-x-smaller-in-Continue-branch-3
loop-x-smaller-in-Continue-branch-3 g c =
    let es = c.args.g.now.edges in
    let x = c.in-Some.x in
    let flags = c.loop-x.flags.items in
    let s = c.loop-x.invariant in
    let left = c.pop.new.self.items in
    let lt = stacked_within c.args.g.now.nodes x c.loop-x.stack.items left c.in-Some.ensures.items s.stack_within in
    let long = s.long in
    let inside : x < length flags = omega arith in
    let fresh : flag_at flags x ≡ false = sym (c.index.ensures ∙ get_or_default flags x c.index.result.now false inside) ∙ c.if-not-index.true in
    let next : map (back_from c.args.backs.now) (slice_index_or c.args.sources.now x []) ≡ map (back_from c.args.backs.now) (sources_of es x) = ap (map (back_from c.args.backs.now)) (c.requires.sources.each x lt) in
    let taken = subst (λ (us : List ℕ). IsTaken (g.S.Stops.stops_at c.args.stops.now) us x c.loop-x.found.items c.take.new.found.items left c.take.new.stack.items) next c.in_ok-take.ensures in
    smaller (g.S.Stops.stops_at c.args.stops.now) x (length es) flags c.loop-x.stack.items left c.take.new.stack.items (map (back_from c.args.backs.now) (sources_of es x)) c.loop-x.found.items c.take.new.found.items inside fresh (few es x c.args.backs.now) c.in-Some.ensures.items taken

pub loop-x-preserved-in-Continue-branch-3 : goal.loop-x-preserved-in-Continue-branch-3
loop-x-preserved-in-Continue-branch-3 g c =
    let gr = c.args.g.now in
    let Stop = g.S.Stops.stops_at c.args.stops.now in
    let x = c.in-Some.x in
    let flags = c.loop-x.flags.items in
    let s = c.loop-x.invariant in
    let left = c.pop.new.self.items in
    let lt = stacked_within gr.nodes x c.loop-x.stack.items left c.in-Some.ensures.items s.stack_within in
    let next : map (back_from c.args.backs.now) (slice_index_or c.args.sources.now x []) ≡ map (back_from c.args.backs.now) (sources_of gr.edges x) = ap (map (back_from c.args.backs.now)) (c.requires.sources.each x lt) in
    let taken = subst (λ (us : List ℕ). IsTaken Stop us x c.loop-x.found.items c.take.new.found.items left c.take.new.stack.items) next c.in_ok-take.ensures in
    let before = subst (λ (us : List ℕ). IsSearch gr c.args.backs.now Stop c.args.end us flags c.loop-x.found.items) c.in-Some.ensures.items s in
    search_takes gr c.args.backs.now Stop c.args.end c.requires.backs flags c.loop-x.found.items left x c.nodes-nodes.ensures.valid before left c.take.new.stack.items c.take.new.found.items refl taken

pub loop-x-preserved : goal.loop-x-preserved
loop-x-preserved g c =
    let gr = c.args.g.now in
    let Stop = g.S.Stops.stops_at c.args.stops.now in
    let x = c.in-Some.x in
    let flags = c.loop-x.flags.items in
    let s = c.loop-x.invariant in
    let left = c.pop.new.self.items in
    let lt = stacked_within gr.nodes x c.loop-x.stack.items left c.in-Some.ensures.items s.stack_within in
    let long = s.long in
    let inside : x < length flags = omega arith in
    let before = subst (λ (us : List ℕ). IsSearch gr c.args.backs.now Stop c.args.end us flags c.loop-x.found.items) c.in-Some.ensures.items s in
    search_skips gr c.args.backs.now Stop c.args.end flags c.loop-x.found.items left x before (sym (c.index.ensures ∙ get_or_default flags x c.index.result.now false inside) ∙ c.if-not-index.false)

pub returns : goal.returns
returns g c =
    let gr = c.args.g.now in
    let Stop = g.S.Stops.stops_at c.args.stops.now in
    let ok = c.loop-x.stack.ok in
    let cases = c.in_default.ensures.cases in
    let empty : c.loop-x.stack.items ≡ [] = nil_from_length c.loop-x.stack.items (omega (arith, ok.0, cases.0)) in
    search_ends gr c.args.backs.now Stop c.args.end c.loop-x.flags.items c.loop-x.found.items
    (subst (λ (us : List ℕ). IsSearch gr c.args.backs.now Stop c.args.end us c.loop-x.flags.items c.loop-x.found.items) empty c.loop-x.invariant)
