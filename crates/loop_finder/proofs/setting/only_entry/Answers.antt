-- The sources of the edges to the header that are no members.
use Rattle.std.proofs.Common.{ℕ, Option, ap, ◌∙◌, sym, subst}
use Rattle.std.specs.Prelude.{MatchOption}
use Rattle.std.proofs.lemmas.Bool.{both_ways}
use Rattle.loop_nest.specs.Digraph.{sources_of}
use Rattle.loop_finder.specs.Setting.{IsOnlyEntry}
use Rattle.loop_finder.proofs.Entering.{none_enters, one_enters, others_enter}
use Rattle.loop_finder.proofs.setting.only_entry.Goals as goal

pub returns-in_err-first-clause-entry : goal.returns-in_err-first-clause-entry
returns-in_err-first-clause-entry c are =
    let g = c.args.routes.now in
    let k = c.args.marks.now in
    let is = c.sources-sources.ensures.sources ∙ ap (λ (v : ℕ). sources_of g.edges v) c.header.ensures in
    subst (λ (o : Option ℕ). MatchOption o ((u : ℕ) → IsOnlyEntry g k.header u → ⊥) (IsOnlyEntry g k.header)) (sym c.from_residual.ensures) (none_enters g k are c.sources-sources.result.now is c.in_err-first.ensures)

pub returns-then-are_within_but-clause-entry : goal.returns-then-are_within_but-clause-entry
returns-then-are_within_but-clause-entry c are =
    let g = c.args.routes.now in
    let is = c.sources-sources.ensures.sources ∙ ap (λ (v : ℕ). sources_of g.edges v) c.header.ensures in
    let first = c.in_ok-first.ensures in
    one_enters g c.args.marks.now are c.sources-sources.result.now is c.in_ok-first.first first.0 first.1 (c.are_within_but.ensures.0 c.if-are_within_but.true)

pub returns-else-are_within_but-clause-entry : goal.returns-else-are_within_but-clause-entry
returns-else-are_within_but-clause-entry c are =
    let g = c.args.routes.now in
    let is = c.sources-sources.ensures.sources ∙ ap (λ (v : ℕ). sources_of g.edges v) c.header.ensures in
    let first = c.in_ok-first.ensures in
    others_enter g c.args.marks.now are c.sources-sources.result.now is c.in_ok-first.first first.0 first.1 (λ all. both_ways c.are_within_but.result c.if-are_within_but.false (c.are_within_but.ensures.1 all))
