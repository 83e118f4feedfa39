use Rattle.boundary.proofs.Told.{told}
use Rattle.boundary.proofs.start.verified_programs_are_told.Goals as goal

pub returns : goal.returns
returns c =
    told
    (record {
      walks = c.the_walk_finds_a_typing.ensures;
      frames = c.frames_stand_at_instructions.ensures;
      codes = c.methods_have_code.ensures;
      stand = c.methods_stand_by_number.ensures;
      typed = c.programs_with_typings_are_typed.ensures;
      lawful = c.resolved_programs_are_lawful.ensures;
      places = record {
        starts = c.starts_follow_one_another.ensures;
        bad = c.first_bad_is_a_start.ensures;
        partition = c.instructions_partition_the_code.ensures;
        within = c.instructions_end_within.ensures;
      };
    })
    c.image_words_lie.ensures.words c.image_words_grow.ensures.end c.images_say_programs.ensures
