use Rattle.std.proofs.Common.{◌≡◌, ◌≢◌, ℕ, ◌+◌, ◌*◌, suc, ◌<◌, ◌≤◌, Option, Some, List, [], ◌∷◌, ◌++◌, length, set, Contains, All, refl, sym, ap, ◌∙◌, subst, inr, arith}
use Rattle.loop_nest.specs.Digraph.{sources_of}
use Rattle.std.proofs.lemmas.Bool.{both_ways}
use Rattle.std.proofs.lemmas.List.{nil_from_length, length-append}
use Rattle.std.proofs.lemmas.List.Elements.{All-contains, Contains-push}
use Rattle.loop_nest.specs.Search.{mark_at, IsSearch, IsMarkedWith}
use Rattle.loop_nest.proofs.Searching.{unmarked, unmarked-set, fewer_left, few_sources, search_start, search_skips, search_takes, search_ends, marked_more}
use Rattle.loop_nest.proofs.members.mark.Goals as goal

within : (n x : ℕ) (stack left : List ℕ) → stack ≡ left ++ x ∷ [] → All (λ y. y < n) stack → x < n
within n x stack left is all = let P : List ℕ → Type 0 = λ ls. Contains ls x in All-contains (λ y. y < n) stack x all (subst P (sym is) (Contains-push left x))

smaller : (number x m : ℕ) (marks : List (Option ℕ)) (stack left new srcs : List ℕ) → x < length marks → mark_at marks x ≢ Some number → length srcs ≤ m → stack ≡ left ++ x ∷ [] → new ≡ left ++ srcs → unmarked number (set marks x (Some number)) * suc m + length new < unmarked number marks * suc m + length stack
smaller number x m marks stack left new srcs lt fresh few is more =
    let a = ap length is in
    let b = ap length more in
    let l = length-append left (x ∷ []) in
    let k = length-append left srcs in
    let e : length stack ≡ suc (length left) = omega arith in
    let f : length new ≡ length left + length srcs = omega arith in
    rw (e, f) (fewer_left (unmarked number (set marks x (Some number))) (unmarked number marks) m (length left) (length srcs) (unmarked-set number x marks lt fresh) few)

pub loop-x-init : goal.loop-x-init
loop-x-init c =
    let marks = c.args.marks.now in
    let n = c.args.number in
    let same : IsMarkedWith n marks marks = record { long = refl; each = λ x. inr refl } in
    let P : List ℕ → Type 0 = λ ls. IsSearch c.args.g.now c.args.h c.args.starts.now n ls (set marks c.args.h (Some n)) in
    record {
      search = subst P (sym c.in_ok-stack.ensures.items) (search_start c.args.g.now c.args.h c.args.starts.now n marks c.requires.header c.requires.long c.requires.fresh c.requires.within);
      marked = marked_more n c.args.h marks marks same;
    }

pub slice_copy_out-is_mark_of : goal.slice_copy_out-is_mark_of
slice_copy_out-is_mark_of c =
    let s = c.loop-x.invariant.search in
    let lt = within c.args.g.now.nodes c.in-Some.x c.loop-x.stack.items c.pop.new.self.items c.in-Some.ensures.items s.stack_within in
    let long = s.long in
    omega arith

pub bounds-marks-x : goal.bounds-marks-x
bounds-marks-x c =
    let s = c.loop-x.invariant.search in
    let lt = within c.args.g.now.nodes c.in-Some.x c.loop-x.stack.items c.pop.new.self.items c.in-Some.ensures.items s.stack_within in
    let long = s.long in
    omega arith

pub of-requires : goal.of-requires
of-requires c =
    let s = c.loop-x.invariant.search in
    let lt = within c.args.g.now.nodes c.in-Some.x c.loop-x.stack.items c.pop.new.self.items c.in-Some.ensures.items s.stack_within in
    let long = c.requires.sources.long in
    omega arith

pub loop-x-smaller-in-Continue-branch-2 : goal.loop-x-smaller-in-Continue-branch-2
loop-x-smaller-in-Continue-branch-2 c =
    let g = c.args.g.now in
    let x = c.in-Some.x in
    let marks = c.loop-x.marks in
    let s = c.loop-x.invariant.search in
    let left = c.pop.new.self.items in
    let lt = within g.nodes x c.loop-x.stack.items left c.in-Some.ensures.items s.stack_within in
    let long = s.long in
    let inside : x < length marks = omega arith in
    let fresh : mark_at marks x ≢ Some c.args.number = λ e. both_ways c.is_mark_of.result c.if-not-is_mark_of.true (c.is_mark_of.ensures.1 e) in
    let srcs : c.of.result.now ≡ sources_of g.edges x = c.of.ensures ∙ c.requires.sources.each x lt in
    let more : c.extend_from_slice.new.self.items ≡ left ++ sources_of g.edges x = c.in_ok-extend_from_slice.ensures.items ∙ ap (λ ls. left ++ ls) srcs in
    smaller c.args.number x (length g.edges) marks c.loop-x.stack.items left c.extend_from_slice.new.self.items (sources_of g.edges x) inside fresh (few_sources g.edges x) c.in-Some.ensures.items more

pub loop-x-preserved-in-Continue-branch-2 : goal.loop-x-preserved-in-Continue-branch-2
loop-x-preserved-in-Continue-branch-2 c =
    let g = c.args.g.now in
    let h = c.args.h in
    let n = c.args.number in
    let x = c.in-Some.x in
    let marks = c.loop-x.marks in
    let s = c.loop-x.invariant.search in
    let left = c.pop.new.self.items in
    let ends = c.args.starts.now in
    let lt = within g.nodes x c.loop-x.stack.items left c.in-Some.ensures.items s.stack_within in
    let fresh : mark_at marks x ≢ Some n = λ e. both_ways c.is_mark_of.result c.if-not-is_mark_of.true (c.is_mark_of.ensures.1 e) in
    let srcs : c.of.result.now ≡ sources_of g.edges x = c.of.ensures ∙ c.requires.sources.each x lt in
    let more : c.extend_from_slice.new.self.items ≡ left ++ sources_of g.edges x = c.in_ok-extend_from_slice.ensures.items ∙ ap (λ ls. left ++ ls) srcs in
    let P : List ℕ → Type 0 = λ ls. IsSearch g h ends n ls marks in
    let R : List ℕ → Type 0 = λ ls. IsSearch g h ends n ls (set marks x (Some n)) in
    record {
      search = subst R (sym more) (search_takes left x c.requires.valid (subst P c.in-Some.ensures.items s) fresh);
      marked = marked_more n x c.args.marks.now marks c.loop-x.invariant.marked;
    }

pub loop-x-preserved : goal.loop-x-preserved
loop-x-preserved c =
    let P : List ℕ → Type 0 = λ ls. IsSearch c.args.g.now c.args.h c.args.starts.now c.args.number ls c.loop-x.marks in
    record {
      search = search_skips c.pop.new.self.items c.in-Some.x (subst P c.in-Some.ensures.items c.loop-x.invariant.search) (c.is_mark_of.ensures.0 c.if-not-is_mark_of.false);
      marked = c.loop-x.invariant.marked;
    }

pub returns-clause-found : goal.returns-clause-found
returns-clause-found c = λ x.
    let ok = c.loop-x.stack.ok in
    let cases = c.in_default.ensures.cases in
    let empty : c.loop-x.stack.items ≡ [] = nil_from_length c.loop-x.stack.items (omega (arith, ok.0, cases.0)) in
    let P : List ℕ → Type 0 = λ ls. IsSearch c.args.g.now c.args.h c.args.starts.now c.args.number ls c.loop-x.marks in
    search_ends (subst P empty c.loop-x.invariant.search) x
