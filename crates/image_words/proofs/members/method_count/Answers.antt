use Rattle.std.proofs.Common.{sym, ap, ◌∙◌, length}
use Rattle.image_words.proofs.MemberLemmas.{own_count}
use Rattle.image_words.proofs.members.method_count.Goals as goal

pub returns-in-Some : goal.returns-in-Some
returns-in-Some c = own_count c.args.classes.now c.args.class c.in-Some.class.now (sym c.in-Some.ensures) ∙ sym (ap length c.as_slice.ensures)
