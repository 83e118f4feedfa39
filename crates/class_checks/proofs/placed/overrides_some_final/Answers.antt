use Rattle.std.proofs.Common.{◌≡◌, ◌+◌, ◌∷◌, ◌++◌, [], ◌&&◌, not, List, drop, drop_of_length-le, sym, ap, ◌∙◌}
use Rattle.std.specs.List.{list_any}
use Rattle.class_lookup.specs.Parts.{is_final}
use Rattle.class_lookup.specs.Lookup.{Place, same_place}
use Rattle.class_lookup.specs.Selection.{is_method_with, overriding}
use Rattle.class_checks.proofs.PlacedLemmas.{is_joining, passes, passes_first, passes_over, passes_through, passes_here, passes_none, any_same, any_at, split_at}
use Rattle.class_checks.proofs.placed.overrides_some_final.Goals as goal
use Rattle.class_checks.proofs.placed.overrides_some_final.Goals.{then-joins+else-is_other_final+in_ok-push, else-joins}

pub loop-upper-init : goal.loop-upper-init
loop-upper-init c =
    let cs = c.args.classes.now in
    let m = c.args.place in
    let ms = c.args.places.now in
    any_same (λ (a : Place). is_method_with is_final cs a && (not (same_place m a) && list_any (same_place m) (overriding cs a ms))) (passes cs m [] ms) (λ a. sym (passes_first cs m ms a)) ms
    ∙ ap (λ (xs : List Place). list_any (passes cs m xs ms) ms) (sym c.new-joined.ensures.items)

pub returns-then-is_other_final : goal.returns-then-is_other_final
returns-then-is_other_final c =
    let cs = c.args.classes.now in
    let m = c.args.place in
    let ms = c.args.places.now in
    let p = c.upper-item.result in
    let i = c.loop-upper.upper-index in
    let joined = c.loop-upper.joined.items in
    let lt = c.loop-upper-test.true in
    let split : drop i ms ≡ p ∷ drop (i + 1) ms = split_at ms i p lt ∙ ap (λ (x : Place). x ∷ drop (i + 1) ms) (sym c.upper-item.is) in
    let here = passes_here cs m p joined (drop (i + 1) ms) (ap (λ (xs : List Place). is_joining cs m xs p) (sym c.deref.ensures.value) ∙ sym c.if-joins.ensures) (sym c.if-is_other_final.ensures) in
    sym (c.loop-upper.invariant
    ∙ any_at (passes cs m joined (drop i ms)) ms i p lt (ap (passes cs m joined (drop i ms)) (sym c.upper-item.is) ∙ (ap (λ (xs : List Place). passes cs m joined xs p) split ∙ here)))

pub loop-upper-preserved : goal.loop-upper-preserved
loop-upper-preserved c =
    let cs = c.args.classes.now in
    let m = c.args.place in
    let ms = c.args.places.now in
    let p = c.upper-item.result in
    let i = c.loop-upper.upper-index in
    let joined = c.loop-upper.joined.items in
    let rest = drop (i + 1) ms in
    let split : drop i ms ≡ p ∷ rest = split_at ms i p c.loop-upper-test.true ∙ ap (λ (x : Place). x ∷ rest) (sym c.upper-item.is) in
    let so_far = c.loop-upper.invariant ∙ ap (λ (xs : List Place). list_any (passes cs m joined xs) ms) split in
    elim c.if-joins.branch [
      | then-joins+else-is_other_final+in_ok-push w ↦
          so_far
          ∙ (any_same (passes cs m joined (p ∷ rest)) (passes cs m (joined ++ p ∷ []) rest)
          (passes_through cs m p joined rest (ap (λ (xs : List Place). is_joining cs m xs p) (sym c.deref.ensures.value) ∙ sym w.if-joins.ensures) (sym w.if-is_other_final.ensures)) ms
          ∙ ap (λ (xs : List Place). list_any (passes cs m xs rest) ms) (sym (ap (λ v. v.items) w.joined-is ∙ w.in_ok-push.ensures.items)))
      | else-joins w ↦
          so_far
          ∙ (any_same (passes cs m joined (p ∷ rest)) (passes cs m joined rest)
          (passes_over cs m p joined rest (ap (λ (xs : List Place). is_joining cs m xs p) (sym c.deref.ensures.value) ∙ sym w.if-joins.ensures)) ms
          ∙ ap (λ (xs : List Place). list_any (passes cs m xs rest) ms) (sym (ap (λ v. v.items) w.joined-is)))
    ]

pub returns : goal.returns
returns c =
    let ms = c.args.places.now in
    sym (c.loop-upper.invariant ∙ passes_none c.args.classes.now c.args.place c.loop-upper.joined.items (drop c.loop-upper.upper-index ms) ms (drop_of_length-le ms c.loop-upper-test.false))
