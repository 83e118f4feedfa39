use Rattle.std.proofs.Common.{◌≡◌, ◌++◌, take}
use Rattle.answer_lines.specs.WorkLines.{bytes_text}
use Rattle.answer_lines.proofs.summary.put_bytes.Given as goal

abbrev pub invariant-loop-place : goal.invariant-loop-place
invariant-loop-place l = l.text.items ≡ l.fn.text.items ++ bytes_text (take l.place l.bytes)
