use Rattle.std.proofs.Common.{◌≡◌, ℕ, Bool, true, false, List, set, replicate, ap, ◌∙◌, subst}
use Rattle.fact_names.specs.Reach.{AreAround, AreLedTo}
use Rattle.fact_names.proofs.Looping.{around_is, ok_weaker, targets_within}
use Rattle.fact_names.proofs.loops.around.Goals as goal

pub led_to-requires-clause-within : goal.led_to-requires-clause-within
led_to-requires-clause-within c = targets_within c.args.g.now c.nodes.ensures.valid c.args.targets.now c.requires.targets

pub returns : goal.returns
returns c =
    let g = c.args.g.now in
    let h = c.args.header in
    let barred : c.deref.result.now ≡ set (replicate g.nodes false) h true =
    c.deref.ensures.value ∙ ap (λ (fs : List Bool). set fs h true) (c.in_ok-barred.ensures.items_if_clones_equal (λ y h. h) ∙ ap (λ (n : ℕ). replicate n false) c.nodes.ensures.nodes)
    in
    ok_weaker c.led_to.result (λ flags. AreLedTo c.args.targets.now c.deref.result.now 0 flags.items) (λ flags. AreAround g h flags.items)
    (λ flags a. around_is g c.nodes.ensures.valid h c.requires.header c.args.targets.now c.requires.targets flags.items (subst (λ (fs : List Bool). AreLedTo c.args.targets.now fs 0 flags.items) barred a))
    c.led_to.ensures
