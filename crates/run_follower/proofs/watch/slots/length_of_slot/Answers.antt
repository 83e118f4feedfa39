-- A slot's call stands at the place of its number, and nothing else is one.
use Rattle.std.proofs.Common.{◌≡◌, ◌+◌, ◌-◌, ◌*◌, ◌/◌, sym, ◌∙◌, arith}
use Rattle.std.specs.Prelude.{slice_get}
use Rattle.std.proofs.lemmas.Grind.{common_steps}
use Rattle.std.proofs.lemmas.Option.{gets}
use Rattle.run_follower.proofs.WatchLemmas.SlotSums.{no_length, length_is}
use Rattle.run_follower.proofs.watch.slots.length_of_slot.Goals as goal
use Rattle.run_follower.proofs.watch.slots.length_of_slot.Goals.{then-at-executive-via-then-at-executive, then-at-executive-via-else-at-executive+then-at-lt-FIRST_CALL}

pub returns-then-at-executive : goal.returns-then-at-executive
returns-then-at-executive c =
    no_length c.args.executive c.args.lengths.now c.args.at (λ j main at.
    elim c.then-at-executive.branch [
      | then-at-executive-via-then-at-executive w ↦ w.if-at-executive.true main
      | then-at-executive-via-else-at-executive+then-at-lt-FIRST_CALL w ↦ omega arith
    ]
    )

pub returns-then-bytes-ne0 : goal.returns-then-bytes-ne0
returns-then-bytes-ne0 c = no_length c.args.executive c.args.lengths.now c.args.at (λ j main at. omega arith)

pub returns : goal.returns
returns c =
    let place : c.args.at.pc ≡ 9 + 3 * (0 + (c.args.at.pc - 9) / 3) = omega arith in
    let read : c.copied.result ≡ slice_get c.args.lengths.now ((c.args.at.pc - 9) / 3) = grind (arith, common_steps, gets) in
    read ∙ sym (length_is c.args.executive 0 ((c.args.at.pc - 9) / 3) c.args.lengths.now c.args.at c.if-at-executive.false place)
