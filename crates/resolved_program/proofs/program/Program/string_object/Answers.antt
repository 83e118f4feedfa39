use Rattle.std.proofs.Common.{ap, ◌∙◌}
use Rattle.class_pool.specs.Grammar.{entry_at}
use Rattle.program_tables.specs.Entries.{meaning_at}
use Rattle.resolved_program.specs.Strings.{object_in}
use Rattle.resolved_program.proofs.StringLemmas.{object_meant}
use Rattle.resolved_program.proofs.program.Program.string_object.Goals as goal

pub returns : goal.returns
returns c = λ k at.
    let cs = c.args.self.now in
    let class = c.args.class in
    c.object_in.ensures
    ∙ (ap (λ m. object_in m.usual) (c.meaning.ensures k at ∙ ap (meaning_at cs class k) c.from.ensures) ∙ object_meant cs class k c.args.index (entry_at k.pool c.args.index))
