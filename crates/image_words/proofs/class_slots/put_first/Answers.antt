use Rattle.std.proofs.Common.{Some, not, sym, ap, ◌∙◌, arith}
use Rattle.std.proofs.lemmas.Option.{slice_get-get_or, slice_get_within}
use Rattle.lists.proofs.Lemmas.{some_same}
use Rattle.image_words.proofs.IndexLemmas.{none_is}
use Rattle.image_words.proofs.SignatureLemmas.{first_kept, first_set, cell_filled}
use Rattle.image_words.proofs.class_slots.put_first.Goals as goal
use Rattle.image_words.proofs.class_slots.put_first.Goals.{else-number-len-via-then-number-len+else-is_none, else-number-len-via-else-number-len}

pub returns-then-is_none : goal.returns-then-is_none
returns-then-is_none c = λ cs signatures places y e long first.
    let cells = c.args.first.now.items in
    let number = c.in-Some.number in
    let test = c.if-number-len.true in
    let len = c.len.ensures in
    let empty = none_is c.index.result.now (c.is_none.ensures ∙ ap not c.if-is_none.true) in
    first_set cs signatures places y c.args.number number c.args.slot cells e first long c.in-Some.is
    (slice_get-get_or cells number c.index.result.now (omega (arith, test, len)) ∙ ap Some (sym c.index.ensures ∙ empty))

pub returns-else-number-len : goal.returns-else-number-len
returns-else-number-len c = λ cs signatures places y e long first.
    let cells = c.args.first.now.items in
    first_kept cs signatures places y c.args.number cells e first (λ n o at h.
    let len = c.len.ensures in
    let lt = slice_get_within cells n o h in
    elim c.else-number-len.branch [
      | else-number-len-via-then-number-len+else-is_none w ↦ cell_filled cells c.in-Some.number n c.args.number w.index.result.now o c.in-Some.is at w.index.ensures h (w.is_none.ensures ∙ ap not w.if-is_none.false)
      | else-number-len-via-else-number-len w ↦
          let same = some_same c.in-Some.number n (sym c.in-Some.is ∙ at) in
          let test = w.if-number-len.false in
          absurd (omega (arith, same, test, len, lt))
    ])

pub returns-in_default : goal.returns-in_default
returns-in_default c = λ cs signatures places y e long first.
    first_kept cs signatures places y c.args.number c.args.first.now.items e first (λ n o at h. absurd (c.in_default.not-Some n at))
