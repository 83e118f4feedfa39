use Rattle.std.proofs.Common.{◌≡◌, ◌+◌, ◌<◌, ℕ, List, Ok, length, sym, ap, ◌∙◌, subst}
use Rattle.opcodes.specs.Instruction.{decoded}
use Rattle.code_scan.proofs.Marking.{never_bad}
use Rattle.code_scan.proofs.NamedPlaces.{row_here}
use Rattle.known_ints.specs.Rows.{TellsValue}
use Rattle.known_ints.proofs.parts.value_at.Goals as goal

pub decode-requires-clause-inside : goal.decode-requires-clause-inside
decode-requires-clause-inside c =
    let inside = (c.starts_follow_one_another.ensures c.args.method.now.code).within_code c.args.place c.requires in
    subst (λ (xs : List ℕ). c.args.place < length xs) (sym c.code.ensures.code) inside

pub returns-in-Ok : goal.returns-in-Ok
returns-in-Ok c P m of next r line =
    let i = c.in-Ok.instr in
    let k = c.args.method.now in
    let p = c.args.place in
    let is : decoded k.code p ≡ Ok i = ap (λ (xs : List ℕ). decoded xs p) (sym c.code.ensures.code) ∙ sym c.in-Ok.ensures.exact in
    let h = row_here c.lines_are_read.ensures P m k of p c.requires i is in
    let same : h.0 ≡ r = (c.lines_follow_one_another.ensures.one P m p (p + i.length) next h.0 r h.1 line).1 in
    subst (TellsValue c.value_row.result) same (c.value_row.ensures h.2.0 (P.operand m p) h.0 h.2.1)

pub returns-in-Err : goal.returns-in-Err
returns-in-Err c P m of =
    let code = c.args.method.now.code in
    let stays = c.code.ensures.whole.instructions c.args.place c.requires in
    absurd (never_bad code c.args.place c.in-Err.field-0 stays (c.in-Err.ensures.exact ∙ ap (λ (xs : List ℕ). decoded xs c.args.place) c.code.ensures.code))
