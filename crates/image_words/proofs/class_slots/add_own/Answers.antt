use Rattle.std.proofs.Common.{◌≡◌, ◌++◌, ◌∷◌, [], ℕ, List, Option, Some, None, length, sym, ap, ◌∙◌, arith}
use Rattle.class_lookup.specs.Lookup.{Place}
use Rattle.image_words.specs.Tables.{above_slots}
use Rattle.image_words.specs.declared.class_slots.ClassSlots.{ClassSlots}
use Rattle.image_words.proofs.MemberLemmas.{slot_more, slot_left, slots_whole}
use Rattle.image_words.proofs.SlotLemmas.{own_next, own_some, own_none, own_each, so_far_same}
use Rattle.image_words.proofs.class_slots.add_own.Goals as goal
use Rattle.image_words.proofs.class_slots.add_own.Goals.{then-has_slot+in_ok-slot+in_ok-push, else-has_slot+in_ok-push-2}

pub loop-index-preserved : goal.loop-index-preserved
loop-index-preserved c =
    let cs = c.args.classes.now in
    let signatures = c.args.signatures.now in
    let class = c.args.class in
    let i = c.loop-index.index in
    let old = c.loop-index.slots in
    let new = c.if-has_slot.slots in
    let before = c.loop-index.invariant in
    elim c.if-has_slot.branch [
      | then-has_slot+in_ok-slot+in_ok-push w ↦
          let s = w.push.new.self in
          let slot = w.in_ok-slot.slot in
          let has = sym c.has_slot.ensures ∙ w.if-has_slot.true in
          let at = w.in_ok-slot.ensures.slot in
          let start = before.so_far.start in
          let many = ap length before.added in
          record {
            added = ap (λ (x : ClassSlots). x.added.items) w.slots-is ∙ (w.in_ok-slot.ensures.added ∙ (ap (λ (xs : List Place). xs ++ (class, i) ∷ []) before.added ∙ slot_more cs class i has));
            own = own_next cs class i old.own.items new.own.items (Some slot) before.own
                (ap (λ (x : ClassSlots). x.own.items) w.slots-is ∙ (w.in_ok-push.ensures.items ∙ ap (λ (xs : List (Option ℕ)). xs ++ Some slot ∷ []) w.in_ok-slot.ensures.own))
                (own_some cs class i slot has (omega (arith, at, start, many)));
            so_far = so_far_same cs signatures (above_slots cs class) s new (ap (λ (x : ClassSlots). x.start) w.slots-is) (ap (λ (x : ClassSlots). x.added.items) w.slots-is) (ap (λ (x : ClassSlots). x.first.items) w.slots-is)
                (w.in_ok-slot.ensures.first cs signatures (above_slots cs class) w.number_at.ensures before.so_far);
          }
      | else-has_slot+in_ok-push-2 w ↦
          let has = sym c.has_slot.ensures ∙ w.if-has_slot.false in
          record {
            added = ap (λ (x : ClassSlots). x.added.items) w.slots-is ∙ (before.added ∙ slot_left cs class i has);
            own = own_next cs class i old.own.items new.own.items None before.own (ap (λ (x : ClassSlots). x.own.items) w.slots-is ∙ w.in_ok-push-2.ensures.items) (own_none cs class i has);
            so_far = so_far_same cs signatures (above_slots cs class) old new (ap (λ (x : ClassSlots). x.start) w.slots-is) (ap (λ (x : ClassSlots). x.added.items) w.slots-is) (ap (λ (x : ClassSlots). x.first.items) w.slots-is) before.so_far;
          }
    ]

pub returns-clause-added : goal.returns-clause-added
returns-clause-added c =
    let test = c.loop-index-test.false in
    let end = c.loop-index.auto.index-end in
    let same : c.loop-index.index ≡ c.method_count-index-end.result = omega (arith, test, end) in
    c.loop-index.invariant.added ∙ slots_whole c.args.classes.now c.args.class c.loop-index.index (c.method_count-index-end.ensures ∙ sym same)

pub returns-clause-own : goal.returns-clause-own
returns-clause-own c = λ i.
    let test = c.loop-index-test.false in
    let count = c.method_count-index-end.ensures in
    own_each c.args.classes.now c.args.class c.loop-index.index c.loop-index.slots.own.items c.loop-index.invariant.own (omega (arith, test, count)) i
