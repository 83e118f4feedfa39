use Rattle.std.proofs.Common.{sym, ap, ◌∙◌}
use Rattle.image_words.specs.Layout.{outline_of}
use Rattle.image_words.specs.Pools.{words_of_entry}
use Rattle.image_layout.proofs.EntryLemmas.{use_named, use_taken, entry_used, entry_unused}
use Rattle.image_layout.proofs.entries.entry_words.Goals as goal

pub returns-in_ok-words : goal.returns-in_ok-words
returns-in_ok-words c =
    λ k at there used.
    let cs = c.args.program.now in
    let n = c.args.number in
    let i = c.args.index in
    let taken = c.unwrap_or-taken.ensures ∙ use_taken cs n k i c.args.used used in
    entry_used cs n k i c.args.used.named c.in_ok-words.words (use_named cs n k i c.args.used used) c.if-used.true
    (c.in_ok-words.ensures k at there taken ∙ ap (words_of_entry cs (outline_of cs) n k i) (sym there))

pub returns-else-used : goal.returns-else-used
returns-else-used c =
    λ k at there used.
    entry_unused c.args.program.now c.args.number k c.args.index c.args.used.named (use_named c.args.program.now c.args.number k c.args.index c.args.used used) c.if-used.false
