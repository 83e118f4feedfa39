use Rattle.fact_rules.proofs.Examples.{priced, returns_with_price, refused_prices, last_lines, callers_count, return_certificates}
use Rattle.fact_rules.proofs.laws.worked_examples.Goals as goal

pub returns : goal.returns
returns c = record {
  priced = priced;
  returns = returns_with_price c.worked_examples.ensures.return_sections;
  refused = refused_prices;
  lines = last_lines;
  certificates = return_certificates c.worked_examples.ensures.return_sections;
  callers = callers_count;
}
