use Rattle.std.proofs.Common.{sym, ◌∙◌}
use Rattle.class_lookup.proofs.Numbering.{with_answer}
use Rattle.class_lookup.proofs.texts.Texts.insert_searched.Goals as goal

pub returns-then-next-ge-MOST_TEXTS-clause-texts : goal.returns-then-next-ge-MOST_TEXTS-clause-texts
returns-then-next-ge-MOST_TEXTS-clause-texts c = with_answer c.args.self.now c.args.text.now c.ok_or.result (sym c.searched.ensures ∙ c.ok_or.ensures.ok_part)
