use Rattle.std.proofs.Common.{List, Some, ap, refl, subst, rules}
use Rattle.priced_cert.specs.declared.prices.Price.{Price}
use Rattle.priced_cert.specs.Prices.{IsBehind}
use Rattle.priced_cert.proofs.Showing.{takes_price}
use Rattle.priced_cert.proofs.parting.Parting.take_section_price.Goals as goal

pub returns : goal.returns
returns c =
    takes_price c.args.self.now _ c.args.line.now c.in-Some.current c.in-Some-price_behind.next c.requires.stage c.requires.kind (search rules) c.in-Some-price_behind.ensures.0
    (subst (λ (ys : List Price). IsBehind ys c.in-Some-price_behind.next) c.as_slice.ensures c.in-Some-price_behind.ensures.1) c.requires.stage refl refl refl (ap Some c.in_ok-push.ensures)
