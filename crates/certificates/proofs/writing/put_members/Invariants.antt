use Rattle.std.proofs.Common.{◌≡◌, ◌++◌, take}
use Rattle.certificates.specs.CertLines.{members_text}
use Rattle.certificates.proofs.writing.put_members.Given as goal

abbrev pub invariant-loop-u : goal.invariant-loop-u
invariant-loop-u l = l.out.items ≡ l.initial.out.items ++ members_text (take l.u-index l.members)
