use Rattle.std.proofs.Common.{◌++◌, refl, length-append, arith}
use Rattle.image_words.proofs.SlotLemmas.{pushed}
use Rattle.image_words.proofs.class_slots.ClassSlots.push.Goals as goal

pub returns-clause-first : goal.returns-clause-first
returns-clause-first c = λ cs signatures above e are.
    let old = c.args.self.now in
    let slot = c.in_ok-slot.ensures in
    let both = length-append above old.added.items in
    let start = are.start in
    pushed cs signatures above c.args.place old _ refl c.in_ok-push.ensures.items are
    (c.put_first.ensures cs signatures (above ++ old.added.items) c.args.place e (omega (arith, slot, both, start)) are.first)
