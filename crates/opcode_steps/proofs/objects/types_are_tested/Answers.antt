use Rattle.opcode_steps.proofs.ObjectLemmas.Scenes.{StateLaws}
use Rattle.opcode_steps.proofs.ObjectLemmas.Families.{types_simulate}
use Rattle.opcode_steps.proofs.objects.types_are_tested.Goals as goal

-- the laws that the body calls
state_laws : goal.After-opcodes_keep_their_costs → StateLaws
state_laws c = record {
  rows = c.rows_are_steps.ensures;
  costs = c.opcodes_keep_their_costs.ensures;
  plain = c.rows_are_read.ensures.plain;
  shows = c.sketches_show.ensures;
  runs = c.rows_come.ensures.runs;
  comes = c.rows_come.ensures.comes;
  goes = c.frames_go_on.ensures.goes;
  raises = c.frames_go_on.ensures.raises;
  one = c.operands_have_words.ensures.one;
  pushed = c.operands_have_words.ensures.pushed;
  words = c.fixed_words_are_read.ensures.words;
  list = c.fixed_words_are_read.ensures.raise_list;
  pools = c.fixed_words_are_read.ensures.pools;
  objects = record { read = c.words_are_read_and_written.ensures.words; ahead = c.words_lie.ensures.ahead; lie = c.image_words_lie.ensures.objects };
}

pub returns : goal.returns
returns c = types_simulate (state_laws c)
