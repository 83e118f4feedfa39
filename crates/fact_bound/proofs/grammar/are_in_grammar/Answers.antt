use Rattle.fact_bound.proofs.grammar.are_in_grammar.Goals as goal

pub returns : goal.returns
returns c = λ is. record {
  text = c.are_sections_in_text.ensures.text c.if-not-are_sections_in_text.false;
  kinds = c.are_sections_in_text.ensures.kinds c.if-not-are_sections_in_text.false;
  apart = c.are_apart.ensures c.if-not-are_apart.false;
  each = c.if-prices-sections.false;
  prices = c.are_all_prices.ensures is;
}
