use Rattle.memory_bound.proofs.CausesOne.{causes_are_one, no_cause}
use Rattle.memory_bound.proofs.laws.need_causes_are_one.Goals as goal

pub returns : goal.returns
returns c = record {
  one = λ P bounds lengths a b.
      causes_are_one c.graphs_are_moved.ensures.graphs c.parts_are_sound.ensures c.ends_are_one.ensures c.graphs_are_one.ensures.whole c.first_lacking_is_one.ensures.line
      c.first_lacking_is_one.ensures.length c.first_lacking_is_one.ensures.none P bounds lengths a b;
  none = λ P bounds lengths.
      no_cause c.graphs_are_moved.ensures.graphs c.parts_are_sound.ensures c.ends_are_one.ensures c.graphs_are_one.ensures.whole c.first_lacking_is_one.ensures.line
      c.first_lacking_is_one.ensures.length c.first_lacking_is_one.ensures.none P bounds lengths;
}
