use Rattle.std.proofs.Common.{◌≡◌, ℕ, ◌+◌, ◌<◌, false, List, length, get_or, set, drop, replicate, All, Option, None, sym, ap, ◌∙◌, subst, arith, rules}
use Rattle.std.proofs.lemmas.Bool.{both_ways}
use Rattle.std.proofs.lemmas.List.{length-map, get_or_default, take_at}
use Rattle.std.proofs.lemmas.List.Elements.{All-get_or}
use Rattle.loop_nest.specs.Digraph.{sources_of}
use Rattle.loop_nest.specs.Walks.{IsHeader}
use Rattle.loop_nest.specs.Search.{mark_at, AreUnmarked, AreFound, IsMarkedWith}
use Rattle.loop_nest.specs.Order.{AreDominatorsFirst}
use Rattle.loop_nest.specs.Nest.{NaturalLoop, headers_of, outers_of}
use Rattle.loop_nest.specs.Nesting.{AreHeadersBelow, HaveOuters, AreInnermost}
use Rattle.loop_nest.proofs.Searching.{same_everywhere}
use Rattle.loop_nest.proofs.Bodies.{targets_within, starts_within, members_found, headers_kept, outer_set, numbers_kept}
use Rattle.loop_nest.proofs.Innermost.{before_place, outers_none, marks_none, unmarked_before, outers_skip, marks_skip, outers_more, marks_more, outers_all, marks_all}
use Rattle.loop_nest.proofs.finding.innermost_loops.Goals as goal
use Rattle.loop_nest.proofs.finding.innermost_loops.Goals.{then-flags-h+in_ok-mark, else-flags-h}

pub by_target-requires-2 : goal.by_target-requires-2
by_target-requires-2 c =
    let P : ℕ → Type 0 = λ n. All (λ (e : ℕ × ℕ). e.1 < n) c.args.back_edges.now in
    subst P (sym c.nodes-nodes.ensures.nodes) (targets_within c.args.g.now c.args.back_edges.now c.nodes-nodes.ensures.valid c.requires.back_edges)

pub loop-h-init : goal.loop-h-init
loop-h-init c =
    let ord = c.deref-h-items.result.now in
    let ls = c.args.loops.now in
    let marks = c.in_ok-marks.marks in
    let n = c.nodes-nodes.result in
    let all : marks.items ≡ replicate n None = c.in_ok-marks.ensures.items_if_clones_equal (λ y h. search rules) in
    let none : (x : ℕ) → mark_at marks.items x ≡ None = λ x. ap (λ (os : List (Option ℕ)). get_or os x None) all ∙ same_everywhere n x None in
    let ok = marks.ok in
    let few = c.in_ok-marks.ensures.len in
    let nodes = c.nodes-nodes.ensures.nodes in
    record {
      headers = c.requires.headers;
      outers = outers_none c.args.g.now ord (headers_of ls) (outers_of ls);
      innermost = marks_none c.args.g.now ord (headers_of ls) marks.items (omega (arith, ok.0)) none;
    }

pub bounds-loops-number : goal.bounds-loops-number
bounds-loops-number c =
    let g = c.args.g.now in
    let h = get_or c.deref-h-items.result.now c.loop-h.h-index 0 in
    let P : List ℕ → Type 0 = λ xs. AreDominatorsFirst g xs in
    let first = subst P (sym c.deref-h-items.ensures.value) c.in_ok-order.ensures in
    let below : h < g.nodes = All-get_or (λ (u : ℕ). u < g.nodes) c.deref-h-items.result.now c.loop-h.h-index 0 c.loop-h-test.true first.within in
    let header : IsHeader g h = (c.requires.flags.each h).0 c.if-flags-h.true in
    (c.loop-h.invariant.headers.numbered h below header).0

pub mark-requires-clause-within : goal.mark-requires-clause-within
mark-requires-clause-within c =
    let g = c.args.g.now in
    let bs = c.args.back_edges.now in
    let h = get_or c.deref-h-items.result.now c.loop-h.h-index 0 in
    let P : List ℕ → Type 0 = λ xs. AreDominatorsFirst g xs in
    let first = subst P (sym c.deref-h-items.ensures.value) c.in_ok-order.ensures in
    let below : h < g.nodes = All-get_or (λ (u : ℕ). u < g.nodes) c.deref-h-items.result.now c.loop-h.h-index 0 c.loop-h-test.true first.within in
    let nodes = c.nodes-nodes.ensures.nodes in
    let is : c.of.result.now ≡ sources_of bs h = c.of.ensures ∙ c.in_ok-starts.ensures.each h (omega arith) in
    let Q : List ℕ → Type 0 = λ xs. All (λ x. x < g.nodes) xs in
    subst Q (sym is) (starts_within g bs h c.nodes-nodes.ensures.valid c.requires.back_edges)

pub mark-requires-clause-fresh : goal.mark-requires-clause-fresh
mark-requires-clause-fresh c =
    let g = c.args.g.now in
    let ord = c.deref-h-items.result.now in
    let i = c.loop-h.h-index in
    let h = get_or ord i 0 in
    let ls = c.loop-h.loops in
    let m = get_or c.args.numbers.now h 0 in
    let inv = c.loop-h.invariant in
    let P : List ℕ → Type 0 = λ xs. AreDominatorsFirst g xs in
    let first = subst P (sym c.deref-h-items.ensures.value) c.in_ok-order.ensures in
    let below : h < g.nodes = All-get_or (λ (u : ℕ). u < g.nodes) ord i 0 c.loop-h-test.true first.within in
    let header : IsHeader g h = (c.requires.flags.each h).0 c.if-flags-h.true in
    let n = inv.headers.numbered h below header in
    let many = length-map ls (λ (y : NaturalLoop). y.header) in
    let Q : List (Option ℕ) → Type 0 = λ os. AreUnmarked m os in
    subst Q (sym c.deref_mut.ensures.value) (unmarked_before g c.nodes-nodes.ensures.valid c.requires.reached ord first i c.loop-h-test.true (headers_of ls) (outers_of ls) c.loop-h.marks.items inv.outers inv.innermost m (omega (arith, n.0)) n.1 header)

pub loop-h-preserved : goal.loop-h-preserved
loop-h-preserved c =
    let g = c.args.g.now in
    let wf = c.nodes-nodes.ensures.valid in
    let reached = c.requires.reached in
    let bs = c.args.back_edges.now in
    let ord = c.deref-h-items.result.now in
    let i = c.loop-h.h-index in
    let h = get_or ord i 0 in
    let ls = c.loop-h.loops in
    let marks = c.loop-h.marks.items in
    let numbers = c.args.numbers.now in
    let inv = c.loop-h.invariant in
    let P : List ℕ → Type 0 = λ xs. AreDominatorsFirst g xs in
    let first = subst P (sym c.deref-h-items.ensures.value) c.in_ok-order.ensures in
    let below : h < g.nodes = All-get_or (λ (u : ℕ). u < g.nodes) ord i 0 c.loop-h-test.true first.within in
    let H : List NaturalLoop → Type 0 = λ xs. AreHeadersBelow g g.nodes xs numbers in
    let O : List ℕ → List (Option ℕ) → Type 0 = λ hs os. HaveOuters g (before_place ord (i + 1)) hs os in
    let I : List ℕ → List (Option ℕ) → Type 0 = λ hs os. AreInnermost g (before_place ord (i + 1)) hs os in
    elim c.if-flags-h.branch [
      | then-flags-h+in_ok-mark w ↦
          let header : IsHeader g h = (c.requires.flags.each h).0 w.if-flags-h.true in
          let m = get_or numbers h 0 in
          let n = inv.headers.numbered h below header in
          let lt : m < length ls = n.0 in
          let many = length-map ls (λ (y : NaturalLoop). y.header) in
          let many_outers = length-map ls (λ (y : NaturalLoop). y.outer) in
          let l = w.index-loops-number.result in
          let is = w.index-loops-number.is in
          let long = inv.innermost.long in
          let mark : w.index.result.now ≡ mark_at marks h = w.index.ensures ∙ get_or_default marks h w.index.result.now None (omega arith) in
          let loops : c.if-flags-h.loops ≡ set ls m (record l { outer = mark_at marks h }) =
          w.loops-is
          ∙ ap (λ (y : NaturalLoop). set ls m y) (w.set_outer.ensures ∙ ap (λ (y : NaturalLoop). record y { outer = w.index.result.now }) (sym is) ∙ ap (λ (o : Option ℕ). record l { outer = o }) mark) in
          let new' = w.mark.new.marks in
          let marked : IsMarkedWith m marks new' =
          let M : List (Option ℕ) → Type 0 = λ os. IsMarkedWith m os new' in subst M w.deref_mut.ensures.value w.in_ok-mark.ensures.others in
          let size = marked.long in
          let ok = c.loop-h.marks.ok in
          let marks_are : c.if-flags-h.marks.items ≡ new' = ap (λ v. v.items) w.marks-is ∙ take_at new' (drop (length new') marks) c.loop-h.marks.len (omega (arith, ok.0)) in
          let nodes = c.nodes-nodes.ensures.nodes in
          let starts : w.of.result.now ≡ sources_of bs h = w.of.ensures ∙ c.in_ok-starts.ensures.each h (omega arith) in
          let F : List ℕ → Type 0 = λ xs. AreFound g h xs m new' in
          let found = members_found g bs h m new' c.requires.back_edges header (subst F starts w.in_ok-mark.ensures.found) in
          let hs = headers_of ls in
          let kept = headers_kept m ls l (mark_at marks h) lt is in
          let OL : List NaturalLoop → Type 0 = λ xs. O (headers_of xs) (outers_of xs) in
          let OH : List ℕ → Type 0 = λ xs. O xs (outers_of (set ls m (record l { outer = mark_at marks h }))) in
          let OO : List (Option ℕ) → Type 0 = λ os. O hs os in
          let IL : List NaturalLoop → Type 0 = λ xs. I (headers_of xs) c.if-flags-h.marks.items in
          let IH : List ℕ → Type 0 = λ xs. I xs c.if-flags-h.marks.items in
          let IM : List (Option ℕ) → Type 0 = λ os. I hs os in
          record {
            headers = subst H (sym loops) (numbers_kept m ls l (mark_at marks h) lt is g g.nodes numbers inv.headers);
            outers = subst OL (sym loops) (subst OH (sym kept) (subst OO (sym (outer_set m ls l (mark_at marks h) lt is)) (
                outers_more g wf reached ord first i c.loop-h-test.true hs (outers_of ls) marks inv.outers inv.innermost m (omega arith) n.1 header inv.headers.rising (omega arith))));
            innermost = subst IL (sym loops) (subst IH (sym kept) (subst IM (sym marks_are) (
                marks_more g wf reached ord first i c.loop-h-test.true hs (outers_of ls) marks inv.outers inv.innermost m (omega arith) n.1 header new' found marked)));
          }
      | else-flags-h w ↦
          let none : IsHeader g h → ⊥ = λ header. both_ways (get_or c.args.flags.now h false) w.if-flags-h.false ((c.requires.flags.each h).1 header) in
          let loops : c.if-flags-h.loops ≡ ls = w.loops-is in
          let OL : List NaturalLoop → Type 0 = λ xs. O (headers_of xs) (outers_of xs) in
          let IL : List NaturalLoop → Type 0 = λ xs. I (headers_of xs) c.if-flags-h.marks.items in
          let IM : List (Option ℕ) → Type 0 = λ os. I (headers_of ls) os in
          record {
            headers = subst H (sym loops) inv.headers;
            outers = subst OL (sym loops) (outers_skip g wf reached ord first i c.loop-h-test.true (headers_of ls) (outers_of ls) marks inv.outers inv.innermost none inv.headers.headers);
            innermost = subst IL (sym loops) (subst IM (sym (ap (λ v. v.items) w.marks-is)) (marks_skip g wf reached ord first i c.loop-h-test.true (headers_of ls) (outers_of ls) marks inv.outers inv.innermost none));
          }
    ]

pub returns : goal.returns
returns c =
    let g = c.args.g.now in
    let ord = c.deref-h-items.result.now in
    let ls = c.loop-h.loops in
    let inv = c.loop-h.invariant in
    let P : List ℕ → Type 0 = λ xs. AreDominatorsFirst g xs in
    let first = subst P (sym c.deref-h-items.ensures.value) c.in_ok-order.ensures in
    record {
      numbers = c.args.numbers.now;
      headers = inv.headers;
      outers = outers_all g c.nodes-nodes.ensures.valid c.requires.reached ord first c.loop-h.h-index c.loop-h-test.false (headers_of ls) (outers_of ls) inv.headers.headers inv.outers;
      innermost = marks_all g c.nodes-nodes.ensures.valid c.requires.reached ord first c.loop-h.h-index c.loop-h-test.false (headers_of ls) c.loop-h.marks.items inv.innermost;
    }
