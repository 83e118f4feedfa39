use Rattle.std.proofs.Common.{arith, sym, ◌∙◌, ◌≡◌, Some, None}
use Rattle.image_file.proofs.BareFiles.{IsBare-ok, image_in-bare}
use Rattle.image_file.proofs.bare.read_bare.Goals as goal

pub returns-clause-image : goal.returns-clause-image
returns-clause-image c = IsBare-ok c.args.bytes.now c.read.result (λ k. omega (arith, c.type_inv.bytes k)) c.read.ensures.image

pub returns-clause-bad : goal.returns-clause-bad
returns-clause-bad c = λ bad image is. let none : None ≡ Some image = sym (c.read.ensures.bad bad) ∙ image_in-bare c.args.bytes.now image is in absurd (cc)
