use Rattle.std.proofs.Common.{length}
use Rattle.certificates.proofs.PartLemmas.{first_part_at, whole_part, part_is}
use Rattle.priced_cert.proofs.words.first_part.Goals as goal

pub returns-in-Some : goal.returns-in-Some
returns-in-Some c =
    part_is c.args.text.now c.split_at.result.0.now c.split_at.result.1.now c.in-Some.end c.split_at.ensures.front c.split_at.ensures.back
    (first_part_at c.args.text.now c.in-Some.end c.in-Some.ensures)

pub returns-in-None : goal.returns-in-None
returns-in-None c =
    part_is c.args.text.now c.split_at-in-None.result.0.now c.split_at-in-None.result.1.now (length c.args.text.now) c.split_at-in-None.ensures.front c.split_at-in-None.ensures.back
    (whole_part c.args.text.now c.in-None.ensures)
