use Rattle.class_file.proofs.MemberLaws as members
use Rattle.class_file.proofs.laws.one_inside.Goals as goal

pub returns : goal.returns
returns c = members.one_inside
