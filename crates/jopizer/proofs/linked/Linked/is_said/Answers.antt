use Rattle.std.proofs.Common.{List, ◌∙◌, subst}
use Rattle.class_pool.specs.declared.class.ClassFile.{ClassFile}
use Rattle.image_laws.specs.Laws.{CatchesAreNumbered, TablesAreAtStarts}
use Rattle.program_tables.specs.Resolved.{resolved}
use Rattle.program_tables.specs.Resolving.{IsResolved}
use Rattle.jopizer.proofs.OneLemmas.{is_within}
use Rattle.jopizer.proofs.linked.Linked.is_said.Goals as goal

pub returns : goal.returns
returns c =
    let same = c.program-program.ensures.program in
    c.images_say_programs.ensures c.args.self.now.classes
    (subst IsResolved (c.program.ensures.program ∙ same) c.is_resolved.ensures)
    (is_within c.args.self.now.classes c.program-program.ensures.linked.linked.within)
    (subst (λ (cs : List ClassFile). CatchesAreNumbered (resolved cs)) same c.tables_are_sound.ensures.catches)
    (subst (λ (cs : List ClassFile). TablesAreAtStarts (resolved cs)) same c.tables_are_sound.ensures.tables)
