use Rattle.std.proofs.Common.{rules, ap, ◌∙◌}
use Rattle.priced_cert.proofs.Showing.{takes_other}
use Rattle.priced_cert.proofs.parting.Parting.take_other.Goals as goal

pub returns : goal.returns
returns c =
    let adds = c.in_ok-add_plain.ensures in
    takes_other c.args.self.now c.add_plain.new.self c.args.line.now c.requires.stage c.requires.kind (c.has_section_without_price.ensures.0 (search rules)) (adds.1 ∙ c.requires.stage) adds.0
    (ap (λ v. v.items) adds.2) (ap (λ v. v.items) adds.3) adds.4
