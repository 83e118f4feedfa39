use Rattle.std.proofs.Common.{◌≡◌, ◌<◌, ℕ, List, length, inl, inr, refl, sym, ap, ◌∙◌, arith}
use Rattle.std.specs.Prelude.{slice_index}
use Rattle.std.proofs.lemmas.Bool.{cases_lt}
use Rattle.lists.specs.Numbers.{is_among}
use Rattle.lists.proofs.Tables.{entry_read}
use Rattle.class_lookup.specs.Hierarchy.{is_on_a_cycle}
use Rattle.class_hierarchy.proofs.CycleLemmas.{falling_is_on_none}
use Rattle.class_hierarchy.proofs.cycles.first_level.Goals as goal

pub loop-class-preserved : goal.loop-class-preserved
loop-class-preserved c = λ k lt.
    let cs = c.args.classes.now in
    let at = c.loop-class.class in
    let ranks = c.args.ranks.now in
    elim (cases_lt k at) [
      | inl l ↦ c.loop-class.invariant k l
      | inr g ↦
          let same : k ≡ at = omega (arith, lt, g) in
          let end = c.class_count-class-end.ensures in
          let within : at < length c.args.above.now = omega (arith, c.loop-class-test.true, end, c.requires.long) in
          let up = c.as_slice.ensures ∙ (sym (entry_read c.args.above.now at c.index-above-class.result within c.index-above-class.is) ∙ c.requires.direct at) in
          ap (is_on_a_cycle cs) same
          ∙ falling_is_on_none cs (slice_index ranks) (λ x d h. c.if-not-never_rise.ensures refl x d (ap (λ (xs : List ℕ). is_among xs d) (c.requires.direct x) ∙ h)) at
          (λ d h. let below = c.if-not-are_below.ensures refl d (ap (λ (xs : List ℕ). is_among xs d) up ∙ h) in omega (arith, below, c.from-limit.ensures, c.rank_of.ensures))
    ]
