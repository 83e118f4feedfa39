use Rattle.std.proofs.Common.{lit<, sym, ◌∙◌, arith}
use Rattle.machine_stands.proofs.ShownFramesLemmas.Stack.{word_on_chip, word_in_b, word_in_a}
use Rattle.machine_stands.proofs.shown_frames.frames.stack_word.Goals as goal

pub on_chip-requires : goal.on_chip-requires
on_chip-requires g c = (lit< tt, omega (arith, c.requires.stack.high, c.if-place-sp.true, c.sp-sp.ensures))

pub returns-then-place-sp : goal.returns-then-place-sp
returns-then-place-sp g c = c.on_chip.ensures ∙ sym (word_on_chip g.row.N c.args.machine.now c.requires.stack c.args.place c.requires.low (omega (arith, c.if-place-sp.true, c.sp-sp.ensures)))

pub returns-then-place-sp-2 : goal.returns-then-place-sp-2
returns-then-place-sp-2 g c = c.b.ensures ∙ sym (word_in_b g.row.N c.args.machine.now c.requires.stack c.args.place (omega (arith, c.if-place-sp-2.true, c.sp-sp.ensures)))

pub returns-else-place-sp-2 : goal.returns-else-place-sp-2
returns-else-place-sp-2 g c =
    c.a.ensures
    ∙ sym (word_in_a g.row.N c.args.machine.now c.requires.stack c.args.place (omega (arith, c.requires.high, c.if-place-sp.false, c.if-place-sp-2.false, c.sp-sp.ensures)))
