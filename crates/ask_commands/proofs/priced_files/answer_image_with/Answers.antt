use Rattle.std.proofs.Common.{refl, subst, inl, inr}
use Rattle.program_tables.specs.Resolving.{IsResolved}
use Rattle.endings.specs.declared.image.Image.{Image}
use Rattle.endings.specs.Opening.{Opens}
use Rattle.endings.specs.Line.{text_of_word}
use Rattle.outside.specs.Files.{contents}
use Rattle.ask_commands.proofs.priced_files.answer_image_with.Goals as goal

pub returns-in-Linked : goal.returns-in-Linked
returns-in-Linked c =
    let O : Image → Type 0 = λ image. Opens (text_of_word (contents c.args.operands.now) 0) image in
    let opens = subst O c.in-Linked.is c.requires.opens in
    inl (
      opens.0,
      inr (record {
        linked = _;
        is_linked = opens.1;
        is_file = opens.2;
        are_resolved = subst IsResolved c.program.ensures.program (subst IsResolved c.program-in-Linked.ensures.program c.is_resolved.ensures);
        setting = λ chip memory. record { says = c.is_said.ensures; lawful = c.is_typed.ensures.lawful; typed = c.is_typed.ensures.typed; origin = inl refl };
        answers = c.answer_linked_with.ensures;
      }),
    )
