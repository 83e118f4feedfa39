use Rattle.std.proofs.Common.{◌≡◌, ◌++◌, ◌+◌, ◌<◌, [], ◌∷◌, ℕ, List, map, drop, drop-cons, add-one, get_or, sym, ap, ◌∙◌, subst, length, ◌≤◌, rules}
use Rattle.std.proofs.Math.ListN.{drop_of_length-le}
use Rattle.std.proofs.lemmas.List.{append-nil}
use Rattle.frame_types.specs.declared.steps.MapStep.{MapStep}
use Rattle.verifier_types.specs.declared.frame.TypeFrame as codes
use Rattle.bytecode_verifier.specs.Maps.{frames_seen}
use Rattle.bytecode_verifier.specs.Named.{frames_by}
use Rattle.bytecode_verifier.proofs.ListLemmas.{pushed}
use Rattle.bytecode_verifier.proofs.ListedLemmas.{lists_again, lists_after}
use Rattle.bytecode_verifier.proofs.SteppedLemmas.{IsUpTo, next_of, one_step, last_step}
use Rattle.bytecode_verifier.proofs.names.placed_frames.Goals as goal

pub frame_behind-requires : goal.frame_behind-requires
frame_behind-requires c = c.loop-step.invariant.0.room ∙ c.requires

pub loop-step-init : goal.loop-step-init
loop-step-init c =
    let empty : c.new-found.result.items ≡ [] = search rules in
    let t = c.args.lists.now in
    let at = c.args.steps.now in (
      lists_again t,
      ap (λ (l : List (ℕ × codes.TypeFrame)). map (λ (x : ℕ × codes.TypeFrame). x.0) l ++ map (λ (s : MapStep). s.place) at) empty,
      λ k code locals xs there room h steps.
          let cs = c.args.of.now.program.now in record {
            before = locals;
            rest = xs;
            steps = steps;
            locals = h;
            frames = λ more. ap (λ (l : List (ℕ × codes.TypeFrame)). frames_seen (t.lists ++ more) l ++ frames_by cs xs) empty;
          },
    )

pub loop-step-preserved : goal.loop-step-preserved
loop-step-preserved c =
    let inv = c.loop-step.invariant in
    let at = c.args.steps.now in
    let i = c.loop-step.step-index in
    let s = c.step-item.result in
    let cs = c.args.of.now.program.now in
    let test : i < length at = c.loop-step-test.true in
    let is : s ≡ get_or at i s = c.step-item.is in
    let left : drop i at ≡ s ∷ drop (i + 1) at = drop-cons at i s test ∙ (ap (λ n. get_or at i s ∷ drop n at) (sym (add-one i)) ∙ ap (λ x. x ∷ drop (i + 1) at) (sym is)) in (
      lists_after _ _ _ inv.0 c.in_ok-frame.ensures.lists,
      ap (λ (l : List (ℕ × codes.TypeFrame)). map (λ (x : ℕ × codes.TypeFrame). x.0) l ++ map (λ (y : MapStep). y.place) (drop (i + 1) at)) c.in_ok-push.ensures.items
          ∙ (pushed (λ (x : ℕ × codes.TypeFrame). x.0) (λ (y : MapStep). y.place) c.loop-step.found.items (s.place, c.in_ok-frame.frame) at i s test (ap (λ (y : MapStep). y.place) is) ∙ inv.1),
      λ k code locals xs there room held steps.
          let h : IsUpTo cs k.pool code c.loop-step.lists c.loop-step.current (s ∷ drop (i + 1) at) c.loop-step.found.items xs =
          subst (λ (l : List MapStep). IsUpTo cs k.pool code c.loop-step.lists c.loop-step.current l c.loop-step.found.items xs) left (inv.2 k code locals xs there room held steps) in
          let n = next_of k.pool code h.before s (drop (i + 1) at) h.rest h.steps in
          let u = c.frame_behind.new.lists in
          subst (λ (l : List (ℕ × codes.TypeFrame)). IsUpTo cs k.pool code u c.frame_behind.new.current (drop (i + 1) at) l xs) (sym c.in_ok-push.ensures.items)
          (one_step cs k.pool code c.loop-step.lists u c.loop-step.current c.frame_behind.new.current s (drop (i + 1) at) c.loop-step.found.items xs c.in_ok-frame.frame c.in_ok-frame.ensures.lists h n
          (c.in_ok-frame.ensures.locals k code h.before n.after n.stack n.next.1 there room n.change n.frame h.locals)
          (λ more. c.in_ok-frame.ensures.frame k code h.before n.after n.stack n.next.1 more there room n.change n.frame n.flag h.locals)),
    )

pub returns-clause-lists : goal.returns-clause-lists
returns-clause-lists c = c.loop-step.invariant.0

pub returns-clause-frames : goal.returns-clause-frames
returns-clause-frames c = λ k code locals xs more at room held steps.
    let end : length c.args.steps.now ≤ c.loop-step.step-index = c.loop-step-test.false in
    last_step c.args.of.now.program.now k.pool code c.loop-step.lists c.loop-step.current _ c.loop-step.found.items xs more (drop_of_length-le c.args.steps.now end) (c.loop-step.invariant.2 k code locals xs at room held steps)

pub returns-clause-places : goal.returns-clause-places
returns-clause-places c =
    let at = c.args.steps.now in
    let end : length at ≤ c.loop-step.step-index = c.loop-step-test.false in
    let found = map (λ (x : ℕ × codes.TypeFrame). x.0) c.loop-step.found.items in
    sym (ap (λ (l : List MapStep). found ++ map (λ (y : MapStep). y.place) l) (drop_of_length-le at end) ∙ append-nil found) ∙ c.loop-step.invariant.1
