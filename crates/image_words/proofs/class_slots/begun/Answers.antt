use Rattle.std.proofs.Common.{◌≡◌, ◌+◌, [], length, Some, None, replicate, sym, ap, ◌∙◌, arith}
use Rattle.std.proofs.lemmas.Option.{slice_get-get_or}
use Rattle.image_words.specs.Tables.{above_slots, AreSoFar}
use Rattle.image_words.specs.declared.class_slots.ClassSlots.{ClassSlots}
use Rattle.image_words.proofs.FillLemmas.{superclass_within}
use Rattle.image_words.proofs.SlotLemmas.{begun_below, begun_top, three_ok}
use Rattle.image_words.proofs.class_slots.begun.Goals as goal

pub bounds-table-upper : goal.bounds-table-upper
bounds-table-upper c =
    let within = superclass_within c.args.classes.now c.args.class c.in-Some.upper (sym c.superclass.ensures ∙ c.in-Some.is) in
    let long = c.requires.above.long in
    omega (arith, within, long)

pub returns-in-Some-clause-so_far : goal.returns-in-Some-clause-so_far
returns-in-Some-clause-so_far c =
    let cs = c.args.classes.now in
    let signatures = c.args.signatures.now in
    let class = c.args.class in
    let upper = c.in-Some.upper in
    let h = sym c.superclass.ensures ∙ c.in-Some.is in
    let within = superclass_within cs class upper h in
    let long = c.requires.above.long in
    let s = c.index-table-upper.result in
    let at = slice_get-get_or c.args.table.now upper s (omega (arith, within, long)) ∙ ap Some (sym c.index-table-upper.is) in
    let are = c.requires.above.above upper s h at in
    three_ok c.below.result (λ (x : ClassSlots). x.start ≡ s.start + length s.added.items) (λ (x : ClassSlots). x.added.items ≡ []) (λ (x : ClassSlots). x.first.items ≡ s.first.items) (λ (x : ClassSlots). AreSoFar cs signatures (above_slots cs class) x)
    c.below.ensures.start c.below.ensures.added c.below.ensures.first (λ x start added first. begun_below cs signatures class upper s x h are start added first)

pub returns-in-None-clause-so_far : goal.returns-in-None-clause-so_far
returns-in-None-clause-so_far c =
    let cs = c.args.classes.now in
    let signatures = c.args.signatures.now in
    let class = c.args.class in
    let h = sym c.superclass.ensures ∙ c.in-None.is in
    three_ok c.new.result (λ (x : ClassSlots). x.start ≡ 0) (λ (x : ClassSlots). x.added.items ≡ []) (λ (x : ClassSlots). x.first.items ≡ replicate c.count.result None) (λ (x : ClassSlots). AreSoFar cs signatures (above_slots cs class) x)
    c.new.ensures.start c.new.ensures.added c.new.ensures.first (λ x start added first. begun_top cs signatures class x h start added (first ∙ ap (λ n. replicate n None) c.count.ensures))
