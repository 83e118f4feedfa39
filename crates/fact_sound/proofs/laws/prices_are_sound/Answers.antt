use Rattle.activations.specs.Setting.{Setting, IsSetting}
use Rattle.bound_laws.proofs.SoundnessLemmas.Known.{Known}
use Rattle.fact_sound.proofs.Sound.{prices_are_sound}
use Rattle.fact_sound.proofs.laws.prices_are_sound.Goals as goal

pub returns : goal.returns
returns c =
    prices_are_sound c.activations_are_trees.ensures c.activations_are_walks.ensures c.invokes_keep_the_greatest.ensures known c.stays_keep_both.ensures c.all_are_met_priced.ensures
    c.priced_headers_have_bounds.ensures c.no_priced_value_no_end.ensures c.priced_live_edges_stay.ensures c.priced_sections_bound_walks.ensures.with_root_prices
  where
    known : (g : Setting) → IsSetting g → Known g
    known g setting =
        let words = c.places_tell_words.ensures g setting in
        record {
          setting = setting;
          words = words.0;
          are_words = words.1;
          live_graphs = λ m b is. c.live_graphs_exist.ensures g.program g.types setting.typed m b is;
          packed = c.packed_has_words.ensures;
          sums = c.loads_keep_the_sum.ensures;
          follow = c.look_ups_follow.ensures;
          stalls = c.stalls_follow.ensures;
          steps = c.steps_are_told.ensures;
          paid = c.stays_are_paid.ensures;
          walks = c.stays_are_walks.ensures;
          ending = c.ending_is_a_walk.ensures;
          section_laws = record {
            apart = c.regions_are_apart.ensures;
            entered = c.loops_are_entered_at_headers.ensures;
            costs = c.costs_are_charged.ensures;
            starts = c.entries_pay_loads.ensures.starts;
            edges = c.entries_pay_loads.ensures.edges;
          };
          coded = c.methods_have_code.ensures;
        }
