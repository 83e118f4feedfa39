use Rattle.std.proofs.Common.{◌+◌, ℕ, ap, ap₂, sym, ◌∙◌}
use Rattle.std.specs.Prelude.{is_some}
use Rattle.image_layout.proofs.EntryLemmas.{has_number, called, there_numbered}
use Rattle.image_layout.proofs.entries.call_word.Goals as goal

pub unwrap-of-requires : goal.unwrap-of-requires
unwrap-of-requires c =
    let n = there_numbered c.args.program.now c.args.method c.requires in
    ap is_some (c.method_number.ensures ∙ n.1)

pub argument_words-requires : goal.argument_words-requires
argument_words-requires c =
    (has_number c.methods_stand_by_number.ensures c.members_are_there.ensures c.args.program.now c.args.method c.unwrap-of.result (sym c.method_number.ensures ∙ c.unwrap-of.ensures)).below

pub returns : goal.returns
returns c =
    let cs = c.args.program.now in
    let h = has_number c.methods_stand_by_number.ensures c.members_are_there.ensures cs c.args.method c.unwrap-of.result (sym c.method_number.ensures ∙ c.unwrap-of.ensures) in
    called cs c.args.method c.unwrap-of.result c.in_ok-argument_words.field-0 c.in_ok-word.word c.args.number h c.in_ok-argument_words.ensures
    (c.in_ok-word.ensures ∙ ap₂ (λ (a : ℕ) (b : ℕ). a + b) c.in_ok-arguments.ensures c.in_ok-count.ensures)
