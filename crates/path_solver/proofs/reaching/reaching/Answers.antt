use Rattle.std.proofs.Common.{◌≡◌, ℕ, ◌+◌, ◌*◌, suc, ◌<◌, ◌≤◌, Bool, true, false, List, [], ◌∷◌, ◌++◌, length, get_or, set, replicate, Contains, All, sym, ap, ◌∙◌, subst, arith}
use Rattle.loop_nest.specs.Digraph.{sources_of, AreSources}
use Rattle.std.proofs.lemmas.List.{nil_from_length, length-append, get_or_default}
use Rattle.std.proofs.lemmas.List.Elements.{All-contains, Contains-push}
use Rattle.loop_nest.proofs.Searching.{fewer_left, few_sources, same_everywhere}
use Rattle.path_solver.specs.Reaching.{IsBackwardSearch}
use Rattle.path_solver.proofs.Sources.{unset, unset-set, targets_within}
use Rattle.path_solver.proofs.Backward.{search_start, search_skips, search_takes, search_ends}
use Rattle.path_solver.proofs.reaching.reaching.Goals as goal

within : (n x : ℕ) (stack left : List ℕ) → stack ≡ left ++ x ∷ [] → All (λ y. y < n) stack → x < n
within n x stack left is all = let P : List ℕ → Type 0 = λ ls. Contains ls x in All-contains (λ y. y < n) stack x all (subst P (sym is) (Contains-push left x))

smaller : (u m : ℕ) (flags : List Bool) (stack left new next : List ℕ) → u < length flags → get_or flags u false ≡ false → length next ≤ m → stack ≡ left ++ u ∷ [] → new ≡ left ++ next → unset (set flags u true) * suc m + length new < unset flags * suc m + length stack
smaller u m flags stack left new next lt fresh few is more =
    let a = ap length is in
    let b = ap length more in
    let l = length-append left (u ∷ []) in
    let k = length-append left next in
    let e : length stack ≡ suc (length left) = omega arith in
    let f : length new ≡ length left + length next = omega arith in
    rw (e, f) (fewer_left (unset (set flags u true)) (unset flags) m (length left) (length next) (unset-set u flags lt fresh) few)

pub by_target-requires : goal.by_target-requires
by_target-requires c =
    let g = c.args.g.now in
    let P : List (ℕ × ℕ) → Type 0 = λ es. All (λ (e : ℕ × ℕ). e.1 < g.nodes) es in
    let Q : ℕ → Type 0 = λ n. All (λ (e : ℕ × ℕ). e.1 < n) c.edges.result.now in
    subst Q (sym c.nodes-nodes.ensures.nodes) (subst P (sym c.edges.ensures.edges) (targets_within g c.nodes-nodes.ensures.valid))

pub loop-u-init : goal.loop-u-init
loop-u-init c =
    let g = c.args.g.now in
    let flags = c.in_ok-reaching.reaching in
    let all : flags.items ≡ replicate c.nodes-nodes.result false = c.in_ok-reaching.ensures.items_if_clones_equal (λ y h. h) in
    let none : (u : ℕ) → get_or flags.items u false ≡ false = λ u. ap (λ (bs : List Bool). get_or bs u false) all ∙ same_everywhere c.nodes-nodes.result u false in
    let ok = flags.ok in
    let few = c.in_ok-reaching.ensures.len in
    let nodes = c.nodes-nodes.ensures.nodes in
    let long : length flags.items ≡ g.nodes = omega (arith, ok.0) in
    let P : List ℕ → Type 0 = λ ls. IsBackwardSearch g ls flags.items in
    subst P (sym (c.in_ok-stack.ensures.items ∙ c.exits.ensures.exits)) (search_start g flags.items c.nodes-nodes.ensures.valid long none)

pub loop-u-smaller-in-Continue-branch-4 : goal.loop-u-smaller-in-Continue-branch-4
loop-u-smaller-in-Continue-branch-4 c =
    let g = c.args.g.now in
    let u = c.in-Some.u in
    let flags = c.loop-u.reaching.items in
    let s = c.loop-u.invariant in
    let left = c.pop.new.self.items in
    let lt = within g.nodes u c.loop-u.stack.items left c.in-Some.ensures.items s.stack_within in
    let long = s.long in
    let nodes = c.nodes-nodes.ensures.nodes in
    let inside : u < length flags = omega arith in
    let short : u < c.nodes-nodes.result = omega arith in
    let fresh : get_or flags u false ≡ false = get_or_default flags u false c.index.result.now inside ∙ sym c.index.ensures ∙ c.if-not-index.true in
    let S : List (ℕ × ℕ) → Type 0 = λ es. AreSources es c.nodes-nodes.result c.in_ok-sources.sources in
    let next : c.of.result.now ≡ sources_of g.edges u = c.of.ensures ∙ (subst S c.edges.ensures.edges c.in_ok-sources.ensures).each u short in
    let more : c.extend_from_slice.new.self.items ≡ left ++ sources_of g.edges u = c.in_ok-extend_from_slice.ensures.items ∙ ap (λ ls. left ++ ls) next in
    smaller u (length g.edges) flags c.loop-u.stack.items left c.extend_from_slice.new.self.items (sources_of g.edges u) inside fresh (few_sources g.edges u) c.in-Some.ensures.items more

pub loop-u-preserved-in-Continue-branch-4 : goal.loop-u-preserved-in-Continue-branch-4
loop-u-preserved-in-Continue-branch-4 c =
    let g = c.args.g.now in
    let u = c.in-Some.u in
    let flags = c.loop-u.reaching.items in
    let s = c.loop-u.invariant in
    let left = c.pop.new.self.items in
    let lt = within g.nodes u c.loop-u.stack.items left c.in-Some.ensures.items s.stack_within in
    let nodes = c.nodes-nodes.ensures.nodes in
    let short : u < c.nodes-nodes.result = omega arith in
    let S : List (ℕ × ℕ) → Type 0 = λ es. AreSources es c.nodes-nodes.result c.in_ok-sources.sources in
    let next : c.of.result.now ≡ sources_of g.edges u = c.of.ensures ∙ (subst S c.edges.ensures.edges c.in_ok-sources.ensures).each u short in
    let more : c.extend_from_slice.new.self.items ≡ left ++ sources_of g.edges u = c.in_ok-extend_from_slice.ensures.items ∙ ap (λ ls. left ++ ls) next in
    let P : List ℕ → Type 0 = λ ls. IsBackwardSearch g ls flags in
    let R : List ℕ → Type 0 = λ ls. IsBackwardSearch g ls (set flags u true) in
    subst R (sym more) (search_takes left u c.nodes-nodes.ensures.valid (subst P c.in-Some.ensures.items s))

pub loop-u-preserved : goal.loop-u-preserved
loop-u-preserved c =
    let P : List ℕ → Type 0 = λ ls. IsBackwardSearch c.args.g.now ls c.loop-u.reaching.items in
    let s = c.loop-u.invariant in
    let lt = within c.args.g.now.nodes c.in-Some.u c.loop-u.stack.items c.pop.new.self.items c.in-Some.ensures.items s.stack_within in
    let long = s.long in
    let inside : c.in-Some.u < length c.loop-u.reaching.items = omega arith in
    search_skips c.pop.new.self.items c.in-Some.u (subst P c.in-Some.ensures.items s) (get_or_default c.loop-u.reaching.items c.in-Some.u false c.index.result.now inside ∙ sym c.index.ensures ∙ c.if-not-index.false)

pub returns : goal.returns
returns c =
    let ok = c.loop-u.stack.ok in
    let cases = c.in_default.ensures.cases in
    let empty : c.loop-u.stack.items ≡ [] = nil_from_length c.loop-u.stack.items (omega (arith, ok.0, cases.0)) in
    let P : List ℕ → Type 0 = λ ls. IsBackwardSearch c.args.g.now ls c.loop-u.reaching.items in
    search_ends (subst P empty c.loop-u.invariant)
