use Rattle.std.proofs.Common.{◌≡◌, ℕ, true, false, not, ap, ◌∙◌, inl, inr}
use Rattle.std.proofs.lemmas.Bool.{both_ways, cases_Bool}
use Rattle.lists.specs.Tests.{not_true}
use Rattle.loop_nest.specs.Digraph.{sources_of}
use Rattle.loop_marks.specs.Reach.{flag_at}
use Rattle.loop_marks.proofs.Turning.{at_edges, edge_at}
use Rattle.loop_marks.proofs.Resting.{one_flagged, not_itself, rest_is}
use Rattle.loop_marks.proofs.iterations.comes_back.Goals as goal

pub returns-clause-none : goal.returns-clause-none
returns-clause-none c none u edge =
    let g = c.args.routes.now in
    let h = c.args.marks.now.header in
    let fs = c.args.without.now.items in
    let P : ℕ → Type 0 = λ x. flag_at fs x ≡ false in
    let are_sources : c.sources.result.now ≡ sources_of g.edges h = c.sources.ensures.sources ∙ ap (λ (n : ℕ). sources_of g.edges n) c.header.ensures in
    let all : c.none_flagged.result ≡ true = elim (cases_Bool c.none_flagged.result) [ inl all' ↦ all' | inr other ↦ absurd (both_ways (not c.none_flagged.result) none (ap not other)) ] in
    at_edges P g h c.sources.result.now are_sources (c.none_flagged.ensures.0 all) u edge

pub returns-clause-rest : goal.returns-clause-rest
returns-clause-rest c x t is =
    let g = c.args.routes.now in
    let h = c.args.marks.now.header in
    let fs = c.args.without.now.items in
    let us = c.sources.result.now in
    let are_sources : us ≡ sources_of g.edges h = c.sources.ensures.sources ∙ ap (λ (n : ℕ). sources_of g.edges n) c.header.ensures in
    let one = one_flagged fs us (λ all. both_ways c.none_flagged.result (not_true c.none_flagged.result t) (c.none_flagged.ensures.1 all)) in
    rest_is g h x one.0 fs is (edge_at g h us are_sources one.0 one.1) one.2 c.loops_are_entered_at_headers.ensures.back

pub returns-clause-out : goal.returns-clause-out
returns-clause-out c x t is =
    let g = c.args.routes.now in
    let h = c.args.marks.now.header in
    let fs = c.args.without.now.items in
    let us = c.sources.result.now in
    let are_sources : us ≡ sources_of g.edges h = c.sources.ensures.sources ∙ ap (λ (n : ℕ). sources_of g.edges n) c.header.ensures in
    let one = one_flagged fs us (λ all. both_ways c.none_flagged.result (not_true c.none_flagged.result t) (c.none_flagged.ensures.1 all)) in
    not_itself g h x one.0 fs is (edge_at g h us are_sources one.0 one.1) one.2 c.loops_are_entered_at_headers.ensures.back
