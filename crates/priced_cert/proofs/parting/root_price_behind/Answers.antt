use Rattle.std.proofs.Common.{rules, sym}
use Rattle.std.proofs.lemmas.Bool.{both_ways}
use Rattle.priced_cert.proofs.ReadingLemmas.{not_behind_in_root}
use Rattle.priced_cert.proofs.parting.root_price_behind.Goals as goal

pub returns-in-Some : goal.returns-in-Some
returns-in-Some c =
    not_behind_in_root c.args.prices.now c.args.line.now c.in-Some.last.now c.in_ok-next.next c.in_ok-next.ensures.0 c.in_ok-next.ensures.1 (sym c.in-Some.ensures.value)
    (λ s. both_ways c.is_less.result (search rules) (c.is_less.ensures.1 s))
