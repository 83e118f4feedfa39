use Rattle.std.specs.Prelude.{unsigned_abs}
use Rattle.std.proofs.Common.{rules, ◌≡◌, ◌&&◌, sym, ap, ◌∙◌}
use Rattle.std.proofs.lemmas.Bool.{ne_eqb}
use Rattle.class_pool.specs.Grammar.{entry_at}
use Rattle.program_tables.specs.Entries.{meaning_at}
use Rattle.program_tables.specs.Instructions.{index_of_entry}
use Rattle.program_tables.proofs.TakenLemmas.{not_taken, usual_taken, special_taken, guard_taken}
use Rattle.resolved_program.proofs.program.Program.with_operand.Goals as goal

pub returns-then-not-takes-clause-operand : goal.returns-then-not-takes-clause-operand
returns-then-not-takes-clause-operand c = λ k at.
    let index = index_of_entry c.args.instr.now in
    not_taken c.args.self.now c.args.class k c.args.instr.now.op index (entry_at k.pool index) (sym (c.if-not-takes.ensures k at))

pub returns-then-not-takes-clause-guarded : goal.returns-then-not-takes-clause-guarded
returns-then-not-takes-clause-guarded c = λ k at.
    let cs = c.args.self.now in
    let index = index_of_entry c.args.instr.now in
    ap (λ b. b && (meaning_at cs c.args.class k index).guarded) (c.if-not-takes.ensures k at) ∙ guard_taken cs c.args.class k c.args.instr.now.op index (entry_at k.pool index)

pub returns-then-instr-clause-operand : goal.returns-then-instr-clause-operand
returns-then-instr-clause-operand c = λ k at.
    let abs : c.unsigned_abs.result ≡ unsigned_abs c.args.instr.now.first = search rules in
    let cs = c.args.self.now in
    let index = index_of_entry c.args.instr.now in
    ap (λ m. m.special) (c.meaning-meaning.ensures k at ∙ ap (meaning_at cs c.args.class k) abs)
    ∙ special_taken cs c.args.class k c.args.instr.now.op index (entry_at k.pool index) (sym (c.if-not-takes.ensures k at)) c.if-instr.true

pub returns-then-instr-clause-guarded : goal.returns-then-instr-clause-guarded
returns-then-instr-clause-guarded c = λ k at.
    let abs : c.unsigned_abs.result ≡ unsigned_abs c.args.instr.now.first = search rules in
    let cs = c.args.self.now in
    let index = index_of_entry c.args.instr.now in
    ap (λ m. m.guarded) (c.meaning-meaning.ensures k at ∙ ap (meaning_at cs c.args.class k) abs)
    ∙ (ap (λ b. b && (meaning_at cs c.args.class k index).guarded) (c.if-not-takes.ensures k at) ∙ guard_taken cs c.args.class k c.args.instr.now.op index (entry_at k.pool index))

pub returns-else-instr-clause-operand : goal.returns-else-instr-clause-operand
returns-else-instr-clause-operand c = λ k at.
    let abs : c.unsigned_abs.result ≡ unsigned_abs c.args.instr.now.first = search rules in
    let cs = c.args.self.now in
    let index = index_of_entry c.args.instr.now in
    ap (λ m. m.usual) (c.meaning-meaning.ensures k at ∙ ap (meaning_at cs c.args.class k) abs)
    ∙ usual_taken cs c.args.class k c.args.instr.now.op index (entry_at k.pool index) (sym (c.if-not-takes.ensures k at)) (ne_eqb c.args.instr.now.op 183 c.if-instr.false)

pub returns-else-instr-clause-guarded : goal.returns-else-instr-clause-guarded
returns-else-instr-clause-guarded c = λ k at.
    let abs : c.unsigned_abs.result ≡ unsigned_abs c.args.instr.now.first = search rules in
    let cs = c.args.self.now in
    let index = index_of_entry c.args.instr.now in
    ap (λ m. m.guarded) (c.meaning-meaning.ensures k at ∙ ap (meaning_at cs c.args.class k) abs)
    ∙ (ap (λ b. b && (meaning_at cs c.args.class k index).guarded) (c.if-not-takes.ensures k at) ∙ guard_taken cs c.args.class k c.args.instr.now.op index (entry_at k.pool index))
