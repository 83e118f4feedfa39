use Rattle.std.proofs.Common.{ℕ, List, Vec, Global, Option, sym, subst}
use Rattle.std.specs.Prelude.{MatchOption}
use Rattle.memory_bound.specs.Setting.{bounds_in, lengths_in}
use Rattle.memory_bound.specs.Found.{BeginInstructions}
use Rattle.memory_bound.specs.Words.{SomeExceeds, AreNodeWords}
use Rattle.memory_bound.proofs.Heaping.{if_ok_as, shape_starts, know_heaps, by_walk, by_node}
use Rattle.memory_bound.proofs.examining.heap_of.Goals as goal

pub returns-in-Some : goal.returns-in-Some
returns-in-Some c =
    let b = bounds_in c.args.task.now in
    let l = lengths_in c.args.task.now in
    let m = c.args.m in
    let s = c.args.s.now in
    let ns = c.as_slice-nodes.result.now in
    if_ok_as c.greatest.result _ _ c.greatest.ensures (λ o h P flow sites of found have are.
    let starts = subst (λ (us : List ℕ). BeginInstructions P m us) (sym c.as_slice-nodes.ensures) (shape_starts P m s (c.starts_are_reached.ensures P flow sites) of) in
    let told = subst (λ (z : Option (Vec ℕ Global)). MatchOption z (SomeExceeds P b l m ns) (λ v. AreNodeWords P b l m ns v.items)) c.in-Some.is
    (c.in_ok-words.ensures.words P flow sites starts (know_heaps P b l c.args.table.now m found have)) in
    let node_words = subst (λ (ws : List ℕ). AreNodeWords P b l m s.nodes ws) (sym c.deref.ensures.value) (subst (λ (us : List ℕ). AreNodeWords P b l m us c.in-Some.words.items) c.as_slice-nodes.ensures told) in
    by_walk c.heap_laws.ensures P b l m s of have c.args.bounds.now are c.deref.result.now node_words o h)

pub returns-in-None : goal.returns-in-None
returns-in-None c = λ P flow sites of found have are.
    let b = bounds_in c.args.task.now in
    let l = lengths_in c.args.task.now in
    let m = c.args.m in
    let s = c.args.s.now in
    let ns = c.as_slice-nodes.result.now in
    let starts = subst (λ (us : List ℕ). BeginInstructions P m us) (sym c.as_slice-nodes.ensures) (shape_starts P m s (c.starts_are_reached.ensures P flow sites) of) in
    let told = subst (λ (z : Option (Vec ℕ Global)). MatchOption z (SomeExceeds P b l m ns) (λ v. AreNodeWords P b l m ns v.items)) c.in-None.is
    (c.in_ok-words.ensures.words P flow sites starts (know_heaps P b l c.args.table.now m found have)) in
    by_node c.heap_laws.ensures P b l m s of have c.args.bounds.now are (subst (λ (us : List ℕ). SomeExceeds P b l m us) c.as_slice-nodes.ensures told)
