use Rattle.std.proofs.Common.{◌≡◌, w32, to_z, of_z, sym, ◌∙◌, arith}
use Rattle.std.proofs.lemmas.Int.{ints}
use Rattle.program_sites.proofs.MadeLemmas.Words.{new_is, numbers_are, references_are, others_make_none}
use Rattle.program_sites.proofs.made.making.words_by.Goals as goal

pub returns-then-op : goal.returns-then-op
returns-then-op c = λ code r is. new_is c.args.program.now code c.args.instr.now _ r is c.if-op.true c.new_words.result c.new_words.ensures

pub returns-then-op-2 : goal.returns-then-op-2
returns-then-op-2 c = λ code r is.
    let i = c.args.instr.now in
    let same : to_z w32 (of_z w32 c.args.instr.now.first) ≡ c.args.instr.now.first = omega (arith, ints) in
    numbers_are c.args.program.now code i _ r is c.if-op-2.true c.element_words.result (λ e. c.element_words.ensures.long (same ∙ e)) (λ out. c.element_words.ensures.other (λ e. out (sym same ∙ e)))

pub returns-then-op-3 : goal.returns-then-op-3
returns-then-op-3 c = λ code r is. references_are c.args.program.now code c.args.instr.now _ r is c.if-op-3.true

pub returns-else-op-3 : goal.returns-else-op-3
returns-else-op-3 c = λ code r is. others_make_none c.args.program.now code c.args.instr.now _ r is c.if-op.false c.if-op-2.false c.if-op-3.false
