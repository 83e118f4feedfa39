use Rattle.std.proofs.Common.{◌++◌, ◌∷◌, [], ap, ◌∙◌}
use Rattle.priced_cert.proofs.Showing.{takes_bound}
use Rattle.priced_cert.proofs.parting.Parting.take_bound.Goals as goal

pub returns : goal.returns
returns c =
    let closed = c.in_ok-close.ensures in
    let adds = c.in_ok-add_plain.ensures in
    takes_bound c.args.self.now c.add_plain.new.self c.args.line.now c.requires.stage c.requires.kind adds.1 (adds.0 ∙ ap (λ v. v.items ++ (c.args.line.now ++ 10 ∷ [])) closed.plain)
    (ap (λ v. v.items) adds.2 ∙ ap (λ v. v.items) closed.root_prices) (ap (λ v. v.items) adds.3 ∙ closed.closed) (adds.4 ∙ closed.current)
