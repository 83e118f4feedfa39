use Rattle.std.proofs.Common.{◌++◌, ℕ, List, take_all, ap, ◌∙◌}
use Rattle.std.specs.List.{flat_map}
use Rattle.image_facts.specs.Says.{handler_words}
use Rattle.program_tables.specs.Resolved.{handler_of, resolved}
use Rattle.image_builder.proofs.ListLemmas.{flat_at}
use Rattle.image_layout.proofs.MethodLemmas.{handlers_joined}
use Rattle.image_layout.proofs.methods.add_handlers.Goals as goal

pub loop-entry-preserved : goal.loop-entry-preserved
loop-entry-preserved c =
    λ k at.
    let cs = c.args.program.now in
    flat_at (λ e. handler_words (resolved cs) (handler_of cs k e)) c.args.entries.now c.loop-entry.entry-index _ c.args.words.now.items c.loop-entry.words.items c.add_handler.new.words.items c.loop-entry-test.true (c.loop-entry.invariant k at)
    (c.in_ok-add_handler.ensures k at)

pub returns : goal.returns
returns c =
    λ k at.
    let cs = c.args.program.now in
    let es = c.args.entries.now in
    let old = c.args.words.now.items in
    c.loop-entry.invariant k at
    ∙ (ap (λ es. old ++ flat_map (λ e. handler_words (resolved cs) (handler_of cs k e)) es) (take_all c.loop-entry.entry-index es c.loop-entry-test.false)
    ∙ ap (λ (ws : List ℕ). old ++ ws) (handlers_joined (handler_words (resolved cs)) (handler_of cs k) es))
