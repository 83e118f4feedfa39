use Rattle.std.proofs.Common.{length, refl, sym, ap, ◌∙◌, ◌<◌, arith}
use Rattle.program_tables.specs.Meanings.{handler_seen}
use Rattle.program_tables.specs.Resolved.{resolved}
use Rattle.verifier_types.specs.Frame.{frame_seen}
use Rattle.verifier_types.specs.Locals.{LocalTable, lists_seen}
use Rattle.bytecode_verifier.specs.Handled.{takes}
use Rattle.bytecode_verifier.specs.Maps.{frames_at}
use Rattle.bytecode_verifier.proofs.HeldLemmas.{asked_before, one_more, all_asked, one_refuses}
use Rattle.bytecode_verifier.proofs.handlers.are_handled.Goals as goal

pub loop-index-init : goal.loop-index-init
loop-index-init c =
    let t = c.args.lists.now in (
      refl,
      λ held.
          asked_before (resolved t.classes) (frames_at (lists_seen t) c.args.maps.now) c.args.asked c.args.place (frame_seen (lists_seen t) c.args.frame.now) c.args.handlers.now.items.items _ c.begun_before-first.ensures.bound c.begun_before-first.ensures.earlier held,
    )

pub returns-then-not-takes-clause-handled : goal.returns-then-not-takes-clause-handled
returns-then-not-takes-clause-handled c = λ held.
    let t = c.args.lists.now in
    let P = resolved t.classes in
    let test = takes P (frames_at (lists_seen t) c.args.maps.now) c.args.place (frame_seen (lists_seen t) c.args.frame.now) in
    let inside : c.loop-index.index < length c.args.handlers.now.items.items = (let a = c.loop-index-test.true in let b = c.begun-end.ensures.bound in omega (arith, a, b)) in
    let same = ap (λ (u : LocalTable). takes (resolved u.classes) (frames_at (lists_seen u) c.args.maps.now) c.args.place (frame_seen (lists_seen u) c.args.frame.now) (handler_seen c.index.result.now)) c.loop-index.invariant.0 in
    sym (one_refuses P (frames_at (lists_seen t) c.args.maps.now) c.args.place (frame_seen (lists_seen t) c.args.frame.now) c.args.handlers.now.items.items c.loop-index.index c.index.result.now inside
    (ap (λ h. test (handler_seen h)) (sym c.index.ensures) ∙ (sym (c.takes.ensures.taken ∙ same) ∙ c.if-not-takes.true)))

pub returns-then-not-takes-clause-kept : goal.returns-then-not-takes-clause-kept
returns-then-not-takes-clause-kept c = c.takes.ensures.kept ∙ c.loop-index.invariant.0

pub loop-index-preserved : goal.loop-index-preserved
loop-index-preserved c =
    let t = c.args.lists.now in
    let P = resolved t.classes in
    let test = takes P (frames_at (lists_seen t) c.args.maps.now) c.args.place (frame_seen (lists_seen t) c.args.frame.now) in
    let inside : c.loop-index.index < length c.args.handlers.now.items.items = (let a = c.loop-index-test.true in let b = c.begun-end.ensures.bound in omega (arith, a, b)) in
    let same = ap (λ (u : LocalTable). takes (resolved u.classes) (frames_at (lists_seen u) c.args.maps.now) c.args.place (frame_seen (lists_seen u) c.args.frame.now) (handler_seen c.index.result.now)) c.loop-index.invariant.0 in (
      c.takes.ensures.kept ∙ c.loop-index.invariant.0,
      λ held.
          one_more P (frames_at (lists_seen t) c.args.maps.now) c.args.place (frame_seen (lists_seen t) c.args.frame.now) c.args.handlers.now.items.items c.loop-index.index c.index.result.now inside (c.loop-index.invariant.1 held)
          (ap (λ h. test (handler_seen h)) (sym c.index.ensures) ∙ (sym (c.takes.ensures.taken ∙ same) ∙ c.if-not-takes.false)),
    )

pub returns-clause-handled : goal.returns-clause-handled
returns-clause-handled c = λ held.
    let t = c.args.lists.now in
    sym (all_asked (resolved t.classes) (frames_at (lists_seen t) c.args.maps.now) c.args.place (frame_seen (lists_seen t) c.args.frame.now) c.args.handlers.now.items.items c.loop-index.index c.begun-end.result c.loop-index-test.false c.begun-end.ensures.point.1
    (c.loop-index.invariant.1 held))
