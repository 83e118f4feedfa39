use Rattle.std.proofs.Common.{◌≡◌, refl, sym, ap, ◌∙◌, subst, Some, None}
use Rattle.std.specs.Prelude.{IfSome}
use Rattle.std.specs.Option.{option_map}
use Rattle.bytecode_model.specs.Table.{row_of}
use Rattle.bytecode_typing.specs.Walk.{incoming, merges}
use Rattle.program_tables.specs.Meanings.{operand_seen}
use Rattle.program_tables.specs.Resolved.{resolved}
use Rattle.verifier_types.specs.Frame.{frame_seen, frame_at_seen}
use Rattle.bytecode_verifier.specs.Handled.{IsHeld}
use Rattle.verifier_types.specs.Locals.{lists_seen}
use Rattle.bytecode_verifier.specs.Maps.{frames_at}
use Rattle.bytecode_verifier.specs.Place.{IsNamedAs, behind}
use Rattle.bytecode_verifier.specs.Settled.{verdict_seen}
use Rattle.bytecode_verifier.specs.declared.settle.Verdict.TheVariants.{Passes}
use Rattle.bytecode_verifier.proofs.HeldLemmas.{referred_seen, held_when}
use Rattle.bytecode_verifier.proofs.KeptLemmas.{held_behind}
use Rattle.bytecode_verifier.proofs.PlaceLemmas.{same_row, verdict_none, verdict_lost, verdict_merge, verdict_row}
use Rattle.bytecode_verifier.proofs.place.verdict_at.Goals as goal

pub returns-in-None-clause-step : goal.returns-in-None-clause-step
returns-in-None-clause-step c = λ m b maps h held.
    let x = c.args.checking.now in
    let ls = lists_seen c.args.lists.now in
    let falling = option_map (frame_seen ls) c.args.falling in
    let map = frame_at_seen ls c.frame_at-map.result in
    let at : map ≡ frames_at ls x.maps.now c.args.place = c.frame_at-map.ensures ls ∙ ap (frames_at ls x.maps.now) c.from.ensures in
    let here : None ≡ incoming map falling = ap (option_map (λ y. frame_seen ls y.0)) (sym c.in-None.is) ∙ c.in_ok-found.ensures.frame in
    (verdict_none c.args.lists.now x c.args.number c.args.place m b maps falling map h at here, tt)

pub returns-in-None-instruction-clause-step : goal.returns-in-None-instruction-clause-step
returns-in-None-instruction-clause-step c = λ m b maps h held.
    let x = c.args.checking.now in
    let ls = lists_seen c.args.lists.now in
    let f = frame_seen ls c.in-Some.found.0 in
    let falling = option_map (frame_seen ls) c.args.falling in
    let map = frame_at_seen ls c.frame_at-map.result in
    let at : map ≡ frames_at ls x.maps.now c.args.place = c.frame_at-map.ensures ls ∙ ap (frames_at ls x.maps.now) c.from.ensures in
    let here : Some f ≡ incoming map falling = ap (option_map (λ y. frame_seen ls y.0)) (sym c.in-Some.is) ∙ c.in_ok-found.ensures.frame in
    (verdict_lost c.args.lists.now x c.args.number c.args.place m b maps falling map h at f here c.in-None-instruction.ensures.instr, tt)

pub returns-then-not-merged-clause-step : goal.returns-then-not-merged-clause-step
returns-then-not-merged-clause-step c = λ m b maps h held.
    let x = c.args.checking.now in
    let ls = lists_seen c.args.lists.now in
    let i = c.in-Some-instruction.x in
    let f = frame_seen ls c.in-Some.found.0 in
    let falling = option_map (frame_seen ls) c.args.falling in
    let map = frame_at_seen ls c.frame_at-map.result in
    let at : map ≡ frames_at ls x.maps.now c.args.place = c.frame_at-map.ensures ls ∙ ap (frames_at ls x.maps.now) c.from.ensures in
    let here : Some f ≡ incoming map falling = ap (option_map (λ y. frame_seen ls y.0)) (sym c.in-Some.is) ∙ c.in_ok-found.ensures.frame in
    let joins = subst (λ o. IfSome o (λ y. y.1 ≡ merges (resolved c.args.lists.now.classes) map falling)) c.in-Some.is c.in_ok-found.ensures.merged in
    let stays = sym c.if-not-stays_within.false ∙ c.stays_within.ensures (operand_seen i.operand) in
    (verdict_merge c.args.lists.now x c.args.number c.args.place m b maps falling f i map h at here c.in-Some-instruction.ensures.instr c.in-Some-instruction.ensures.operand stays (sym c.if-not-merged.true ∙ joins), tt)

pub returns-in-Breaks-clause-step : goal.returns-in-Breaks-clause-step
returns-in-Breaks-clause-step c = λ m b maps h held.
    let x = c.args.checking.now in
    let ls = lists_seen c.args.lists.now in
    let lss = lists_seen c.settle_row.new.lists in
    let i = c.in-Some-instruction.x in
    let f = frame_seen ls c.in-Some.found.0 in
    let falling = option_map (frame_seen ls) c.args.falling in
    let map = frame_at_seen ls c.frame_at-map.result in
    let at : map ≡ frames_at ls x.maps.now c.args.place = c.frame_at-map.ensures ls ∙ ap (frames_at ls x.maps.now) c.from.ensures in
    let here : Some f ≡ incoming map falling = ap (option_map (λ y. frame_seen ls y.0)) (sym c.in-Some.is) ∙ c.in_ok-found.ensures.frame in
    let joins = subst (λ o. IfSome o (λ y. y.1 ≡ merges (resolved c.args.lists.now.classes) map falling)) c.in-Some.is c.in_ok-found.ensures.merged in
    let stays = sym c.if-not-stays_within.false ∙ c.stays_within.ensures (operand_seen i.operand) in
    let named : IsNamedAs x c.args.number c.args.place i = record { operand = sym c.in-Some-instruction.ensures.operand; guarded = sym c.in-Some-instruction.ensures.guarded } in
    let referred = referred_seen ls c.as_ref.result c.args.falling c.as_ref.ensures.value in
    let asked : IsHeld (resolved x.program.now) maps c.still_asked-asked.result (Some f) b.handlers =
    c.still_asked-asked.ensures (resolved x.program.now) maps b.handlers f (here ∙ ap (incoming map) (sym referred)) (subst (λ o. IsHeld (resolved x.program.now) maps c.args.asked o b.handlers) (sym referred) held) in
    let row = same_row c.args.lists.now c.joined.new.lists x c.args.number c.args.place m b maps c.still_asked-asked.result c.in-Some.found.0 c.in_ok-rule.field-0 (frame_seen lss c.settle_row.new.frame) i.instr (row_of x.code.now i.instr (operand_seen i.operand)) c.joined.ensures.kept
    (λ k. c.in_ok-rule.ensures.verdict c.args.number m b maps k named) in
    let found = (ap (λ v. behind (verdict_seen v f (frame_seen lss c.settle_row.new.frame))) (sym c.in-Breaks.is) ∙ ap behind (row h asked)) in (
      verdict_row c.args.lists.now x c.args.number c.args.place m b maps falling f i map _ h at here c.in-Some-instruction.ensures.instr c.in-Some-instruction.ensures.operand stays (sym c.if-not-merged.false ∙ joins)
          found,
      tt,
    )

pub returns-in-Passes-true-clause-step : goal.returns-in-Passes-true-clause-step
returns-in-Passes-true-clause-step c = λ m b maps h held.
    let x = c.args.checking.now in
    let ls = lists_seen c.args.lists.now in
    let lss = lists_seen c.settle_row.new.lists in
    let i = c.in-Some-instruction.x in
    let f = frame_seen ls c.in-Some.found.0 in
    let falling = option_map (frame_seen ls) c.args.falling in
    let map = frame_at_seen ls c.frame_at-map.result in
    let at : map ≡ frames_at ls x.maps.now c.args.place = c.frame_at-map.ensures ls ∙ ap (frames_at ls x.maps.now) c.from.ensures in
    let here : Some f ≡ incoming map falling = ap (option_map (λ y. frame_seen ls y.0)) (sym c.in-Some.is) ∙ c.in_ok-found.ensures.frame in
    let joins = subst (λ o. IfSome o (λ y. y.1 ≡ merges (resolved c.args.lists.now.classes) map falling)) c.in-Some.is c.in_ok-found.ensures.merged in
    let stays = sym c.if-not-stays_within.false ∙ c.stays_within.ensures (operand_seen i.operand) in
    let named : IsNamedAs x c.args.number c.args.place i = record { operand = sym c.in-Some-instruction.ensures.operand; guarded = sym c.in-Some-instruction.ensures.guarded } in
    let referred = referred_seen ls c.as_ref.result c.args.falling c.as_ref.ensures.value in
    let asked : IsHeld (resolved x.program.now) maps c.still_asked-asked.result (Some f) b.handlers =
    c.still_asked-asked.ensures (resolved x.program.now) maps b.handlers f (here ∙ ap (incoming map) (sym referred)) (subst (λ o. IsHeld (resolved x.program.now) maps c.args.asked o b.handlers) (sym referred) held) in
    let row = same_row c.args.lists.now c.joined.new.lists x c.args.number c.args.place m b maps c.still_asked-asked.result c.in-Some.found.0 c.in_ok-rule.field-0 (frame_seen lss c.settle_row.new.frame) i.instr (row_of x.code.now i.instr (operand_seen i.operand)) c.joined.ensures.kept
    (λ k. c.in_ok-rule.ensures.verdict c.args.number m b maps k named) in
    let found = (ap (λ v. behind (verdict_seen v f (frame_seen lss c.settle_row.new.frame))) (sym (c.in-Passes-true.is ∙ ap Passes c.in-Passes-true.field-0-test)) ∙ ap behind (row h asked)) in (
      verdict_row c.args.lists.now x c.args.number c.args.place m b maps falling f i map _ h at here c.in-Some-instruction.ensures.instr c.in-Some-instruction.ensures.operand stays (sym c.if-not-merged.false ∙ joins)
          found,
      held_when lss (resolved x.program.now) maps c.args.place (Some c.settle_row.new.frame) b.handlers c.is_kept.result (λ kept.
          held_behind (resolved x.program.now) c.args.number m b maps c.args.place f i.instr (row_of x.code.now i.instr (operand_seen i.operand)) (frame_seen lss c.settle_row.new.frame)
          (c.is_kept.ensures kept x.code.now i.instr (operand_seen i.operand) refl) found),
    )

pub returns-in-Passes-false-clause-step : goal.returns-in-Passes-false-clause-step
returns-in-Passes-false-clause-step c = λ m b maps h held.
    let x = c.args.checking.now in
    let ls = lists_seen c.args.lists.now in
    let lss = lists_seen c.settle_row.new.lists in
    let i = c.in-Some-instruction.x in
    let f = frame_seen ls c.in-Some.found.0 in
    let falling = option_map (frame_seen ls) c.args.falling in
    let map = frame_at_seen ls c.frame_at-map.result in
    let at : map ≡ frames_at ls x.maps.now c.args.place = c.frame_at-map.ensures ls ∙ ap (frames_at ls x.maps.now) c.from.ensures in
    let here : Some f ≡ incoming map falling = ap (option_map (λ y. frame_seen ls y.0)) (sym c.in-Some.is) ∙ c.in_ok-found.ensures.frame in
    let joins = subst (λ o. IfSome o (λ y. y.1 ≡ merges (resolved c.args.lists.now.classes) map falling)) c.in-Some.is c.in_ok-found.ensures.merged in
    let stays = sym c.if-not-stays_within.false ∙ c.stays_within.ensures (operand_seen i.operand) in
    let named : IsNamedAs x c.args.number c.args.place i = record { operand = sym c.in-Some-instruction.ensures.operand; guarded = sym c.in-Some-instruction.ensures.guarded } in
    let referred = referred_seen ls c.as_ref.result c.args.falling c.as_ref.ensures.value in
    let asked : IsHeld (resolved x.program.now) maps c.still_asked-asked.result (Some f) b.handlers =
    c.still_asked-asked.ensures (resolved x.program.now) maps b.handlers f (here ∙ ap (incoming map) (sym referred)) (subst (λ o. IsHeld (resolved x.program.now) maps c.args.asked o b.handlers) (sym referred) held) in
    let row = same_row c.args.lists.now c.joined.new.lists x c.args.number c.args.place m b maps c.still_asked-asked.result c.in-Some.found.0 c.in_ok-rule.field-0 (frame_seen lss c.settle_row.new.frame) i.instr (row_of x.code.now i.instr (operand_seen i.operand)) c.joined.ensures.kept
    (λ k. c.in_ok-rule.ensures.verdict c.args.number m b maps k named) in
    let found = (ap (λ v. behind (verdict_seen v f (frame_seen lss c.settle_row.new.frame))) (sym (c.in-Passes-false.is ∙ ap Passes c.in-Passes-false.field-0-test)) ∙ ap behind (row h asked)) in (
      verdict_row c.args.lists.now x c.args.number c.args.place m b maps falling f i map _ h at here c.in-Some-instruction.ensures.instr c.in-Some-instruction.ensures.operand stays (sym c.if-not-merged.false ∙ joins)
          found,
      tt,
    )
