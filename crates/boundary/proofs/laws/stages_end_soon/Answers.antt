use Rattle.boundary.proofs.Ending.{stages_end_soon}
use Rattle.boundary.proofs.laws.stages_end_soon.Goals as goal

pub returns : goal.returns
returns c = stages_end_soon c.stages_advance.ensures (record {
  opcodes = c.costs_are_small.ensures.opcodes;
  raise = c.costs_are_small.ensures.raise;
  packed = c.packed_has_words.ensures;
  whole = c.instructions_end_within.ensures;
  fixed = c.fixed_words_are_read.ensures.words;
  well = c.fitting_states_are_well_formed.ensures;
})
