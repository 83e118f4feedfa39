use Rattle.std.proofs.Common.{◌++◌, ℕ, List, get_or, take, sym, ap, ◌∙◌}
use Rattle.std.specs.Prelude.{decimal}
use Rattle.std.proofs.lemmas.List.{append_assoc}
use Rattle.answer_lines.specs.WorkLines.{bytes_text}
use Rattle.answer_lines.proofs.WorkTexts.{space_at, byte_more}
use Rattle.answer_lines.proofs.summary.put_bytes.Goals as goal

pub loop-place-preserved : goal.loop-place-preserved
loop-place-preserved c =
    let before : List ℕ = c.args.text.now.items in
    let place : ℕ = c.loop-place.place in
    let bytes : List ℕ = c.args.bytes.now in
    let piece : List ℕ = space_at place ++ decimal (get_or bytes place 0) in
    c.in_ok-put_byte.ensures
    ∙ (ap (λ (text : List ℕ). text ++ piece) c.loop-place.invariant
    ∙ (append_assoc before (bytes_text (take place bytes)) piece ∙ ap (λ (text : List ℕ). before ++ text) (sym (byte_more bytes place c.loop-place-test.true))))
