use Rattle.std.proofs.Common.{subst}
use Rattle.program_tables.specs.Resolving.{IsResolved}
use Rattle.jopizer.proofs.TableLemmas.{CodeLaws}
use Rattle.jopizer.proofs.CatchLemmas.{TypingLaws, catches, tables}
use Rattle.jopizer.proofs.laws.tables_are_sound.Goals as goal

pub returns : goal.returns
returns c =
    let code : CodeLaws = record {
      starts = c.starts_follow_one_another.ensures;
      bad = c.first_bad_is_a_start.ensures;
      parts = c.instructions_partition_the_code.ensures;
      within = c.instructions_end_within.ensures;
    } in
    let laws : TypingLaws = record {
      walks = c.the_walk_finds_a_typing.ensures;
      frames = c.frames_stand_at_instructions.ensures;
      codes = c.methods_have_code.ensures;
      stand = c.methods_stand_by_number.ensures;
      code = code;
    } in
    let resolved = subst IsResolved c.program.ensures.program c.is_resolved.ensures in
    record {
      catches = catches laws c.args.program.now resolved c.program.ensures.verified;
      tables = tables laws c.args.program.now resolved c.program.ensures.verified;
    }
