use Rattle.std.proofs.Common.{List, refl, subst}
use Rattle.priced_cert.specs.declared.prices.RootPrice.{RootPrice}
use Rattle.priced_cert.specs.Prices.{IsBehindInRoot}
use Rattle.priced_cert.proofs.Showing.{takes_root_price}
use Rattle.priced_cert.proofs.parting.Parting.take_root_price.Goals as goal

pub returns : goal.returns
returns c =
    takes_root_price c.args.self.now _ c.args.line.now c.in-Some.next c.requires.stage c.requires.kind c.requires.none c.in-Some.ensures.0
    (subst (λ (ys : List RootPrice). IsBehindInRoot ys c.in-Some.next) c.deref.ensures.value c.in-Some.ensures.1) c.requires.stage refl c.in_ok-push.ensures.items refl refl
