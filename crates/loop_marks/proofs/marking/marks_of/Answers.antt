-- The loop at the index, with its flags and the numbers of its nodes.
use Rattle.std.proofs.Common.{◌≡◌, ◌↔◌, ℕ, true, List, map, get_or, Contains, ap, ◌∙◌, subst}
use Rattle.loop_nest.specs.Nest.{NaturalLoop}
use Rattle.loop_marks.specs.Reach.{flag_at}
use Rattle.loop_marks.specs.Marking.{Marks}
use Rattle.loop_marks.proofs.Marked.{marks_sized, marks_are}
use Rattle.loop_marks.proofs.marking.marks_of.Goals as goal

pub returns-clause-sized : goal.returns-clause-sized
returns-clause-sized c g low =
    let nodes = c.args.nodes.now in
    let ls = c.args.nest.now in
    let i = c.args.index in
    let l = c.index-loops-index.result in
    let is : l ≡ get_or ls i l = c.index-loops-index.is ∙ ap (λ (xs : List NaturalLoop). get_or xs i l) c.loops.ensures in
    let k : Marks = record { header = get_or nodes c.header.result 0; nodes = c.in_ok-own.own.items; members = c.in_ok-members.members.items; inner = c.in_ok-inner.inner.items } in
    let head : k.header ≡ get_or nodes l.header 0 = ap (λ (u : ℕ). get_or nodes u 0) c.header.ensures in
    let are : k.nodes ≡ map (λ u. get_or nodes u 0) l.members = c.in_ok-own.ensures ∙ ap (λ (us : List ℕ). map (λ u. get_or nodes u 0) us) c.members.ensures in
    marks_sized nodes ls l i c.requires.index is c.requires.headers c.requires.within k head are g low

pub returns-clause-marks : goal.returns-clause-marks
returns-clause-marks c g d moved nest =
    let nodes = c.args.nodes.now in
    let ls = c.args.nest.now in
    let i = c.args.index in
    let l = c.index-loops-index.result in
    let is : l ≡ get_or ls i l = c.index-loops-index.is ∙ ap (λ (xs : List NaturalLoop). get_or xs i l) c.loops.ensures in
    let k : Marks = record { header = get_or nodes c.header.result 0; nodes = c.in_ok-own.own.items; members = c.in_ok-members.members.items; inner = c.in_ok-inner.inner.items } in
    let head : k.header ≡ get_or nodes l.header 0 = ap (λ (u : ℕ). get_or nodes u 0) c.header.ensures in
    let are : k.nodes ≡ map (λ u. get_or nodes u 0) l.members = c.in_ok-own.ensures ∙ ap (λ (us : List ℕ). map (λ u. get_or nodes u 0) us) c.members.ensures in
    let flagged : (x : ℕ) → (flag_at k.members x ≡ true) ↔ Contains k.nodes x = λ x. subst (λ (us : List ℕ). (flag_at k.members x ≡ true) ↔ Contains us x) c.deref.ensures.value (c.in_ok-members.ensures x) in
    marks_are nodes ls l i c.requires.index is k head are g d moved nest flagged (c.in_ok-inner.ensures g d moved nest)
