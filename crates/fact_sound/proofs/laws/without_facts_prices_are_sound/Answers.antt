use Rattle.fact_sound.proofs.Sound.{without_facts_prices_are_sound}
use Rattle.fact_sound.proofs.laws.without_facts_prices_are_sound.Goals as goal

pub returns : goal.returns
returns c = without_facts_prices_are_sound c.prices_are_sound.ensures c.no_facts_are_asked.ensures
