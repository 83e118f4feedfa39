use Rattle.std.proofs.Common.{◌++◌, ◌∷◌, [], Some, ap, ◌∙◌}
use Rattle.priced_cert.proofs.Showing.{takes_section}
use Rattle.priced_cert.proofs.parting.Parting.take_section.Goals as goal

pub returns : goal.returns
returns c =
    let closed = c.in_ok-close.ensures in
    let adds = c.in_ok-add_plain.ensures in
    takes_section c.args.self.now c.add_plain.new.self c.args.line.now c.requires.stage c.requires.kind (adds.1 ∙ (closed.stage ∙ c.requires.stage))
    (adds.0 ∙ ap (λ v. v.items ++ (c.args.line.now ++ 10 ∷ [])) closed.plain) (ap (λ v. v.items) adds.2 ∙ ap (λ v. v.items) closed.root_prices) (ap (λ v. v.items) adds.3 ∙ closed.closed)
    (adds.4 ∙ ap Some (c.new-2.ensures ∙ c.new.ensures.items))
