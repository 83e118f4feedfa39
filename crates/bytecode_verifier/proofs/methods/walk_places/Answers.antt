use Rattle.std.proofs.Common.{refl, sym, ap, ◌∙◌, subst, get_or}
use Rattle.std.specs.Option.{option_map}
use Rattle.program_tables.specs.Resolved.{resolved}
use Rattle.verifier_types.specs.Frame.{frame_seen}
use Rattle.verifier_types.specs.Locals.{lists_seen}
use Rattle.verifier_types.specs.Site.{rule_seen}
use Rattle.bytecode_verifier.specs.declared.place.Step.TheVariants.{Goes}
use Rattle.bytecode_verifier.specs.Handled.{IsHeld}
use Rattle.bytecode_verifier.specs.Place.{step_seen, IsHeldBehind}
use Rattle.bytecode_verifier.proofs.ListedLemmas.{lists_again, lists_after}
use Rattle.bytecode_verifier.proofs.PlaceLemmas.{method_behind}
use Rattle.bytecode_verifier.proofs.WalkLemmas.{walk_passes, walk_breaks, walk_ends}
use Rattle.bytecode_verifier.proofs.methods.walk_places.Goals.{then-held, else-held}
use Rattle.bytecode_verifier.proofs.methods.walk_places.Goals as goal

pub loop-place-init : goal.loop-place-init
loop-place-init c = (lists_again c.args.lists.now, λ m b maps h. (refl, tt))

pub returns-in-Breaks : goal.returns-in-Breaks
returns-in-Breaks c = λ m b maps h.
    let now = c.loop-place.lists in
    let inv = c.loop-place.invariant.1 m b maps h in
    let told = c.in_ok-rule.ensures.step m b maps (method_behind c.args.lists.now now c.args.checking.now c.args.number m b maps c.loop-place.invariant.0 h) inv.1 in
    walk_breaks (resolved c.args.checking.now.program.now) c.args.number m b maps c.args.starts.now c.loop-place.place-index 0 (option_map (frame_seen (lists_seen now)) c.loop-place.falling) (rule_seen c.in-Breaks.rule) c.loop-place-test.true
    (ap (step_seen (lists_seen c.verdict_at.new.lists)) (sym c.in-Breaks.is) ∙ told.0)
    ∙ inv.0

pub loop-place-preserved : goal.loop-place-preserved
loop-place-preserved c =
    let P = resolved c.args.checking.now.program.now in
    let place = get_or c.args.starts.now c.loop-place.place-index 0 in
    let now = c.loop-place.lists in
    let next = c.verdict_at.new.lists in
    let ls = lists_seen next in (
      lists_after c.args.lists.now now next c.loop-place.invariant.0 c.in_ok-rule.ensures.lists,
      λ m b maps h.
          let inv = c.loop-place.invariant.1 m b maps h in
          let told = c.in_ok-rule.ensures.step m b maps (method_behind c.args.lists.now now c.args.checking.now c.args.number m b maps c.loop-place.invariant.0 h) inv.1 in
          let behind : IsHeldBehind ls P maps place (Goes c.in-Goes.frame c.in-Goes.held) b.handlers = subst (λ step. IsHeldBehind ls P maps place step b.handlers) c.in-Goes.is told.1 in (
            walk_passes P c.args.number m b maps c.args.starts.now c.loop-place.place-index 0 (option_map (frame_seen (lists_seen now)) c.loop-place.falling) (option_map (frame_seen ls) c.in-Goes.frame) c.loop-place-test.true
                (ap (step_seen ls) (sym c.in-Goes.is) ∙ told.0)
                ∙ inv.0,
            elim c.if-held.branch [
              | then-held w ↦
                  subst (λ o. IsHeld P maps o (option_map (frame_seen ls) c.in-Goes.frame) b.handlers) (sym w.asked-is)
                  (subst (λ x. IsHeldBehind ls P maps place (Goes c.in-Goes.frame x) b.handlers) w.if-held.true behind)
              | else-held w ↦ subst (λ o. IsHeld P maps o (option_map (frame_seen ls) c.in-Goes.frame) b.handlers) (sym w.asked-is) tt
            ],
          ),
    )

pub returns : goal.returns
returns c = λ m b maps h.
    walk_ends (resolved c.args.checking.now.program.now) c.args.number m b maps c.args.starts.now c.loop-place.place-index (option_map (frame_seen (lists_seen c.loop-place.lists)) c.loop-place.falling) c.loop-place-test.false
    ∙ (c.loop-place.invariant.1 m b maps h).0
