use Rattle.std.proofs.Common.{rules, ap}
use Rattle.priced_cert.proofs.Showing.{takes_root}
use Rattle.priced_cert.proofs.parting.Parting.take_root.Goals as goal

pub returns : goal.returns
returns c =
    let adds = c.in_ok-add_plain.ensures in
    takes_root c.args.self.now c.add_plain.new.self c.args.line.now c.requires (search rules) adds.1 adds.0 (ap (λ v. v.items) adds.2) (ap (λ v. v.items) adds.3) adds.4
