use Rattle.std.proofs.Common.{◌≡◌, ◌<◌, List, ℕ, Ok, length, sym, ap, ◌∙◌, subst}
use Rattle.opcodes.specs.Instruction.{decoded}
use Rattle.code_scan.proofs.Listing.{told_line}
use Rattle.code_scan.proofs.Marking.{never_bad}
use Rattle.code_scan.proofs.lines.int_line.Goals as goal

pub decode-requires-clause-inside : goal.decode-requires-clause-inside
decode-requires-clause-inside c =
    let inside = (c.starts_follow_one_another.ensures c.args.method.now.code).within_code c.args.place c.requires in
    subst (λ (xs : List ℕ). c.args.place < length xs) (sym c.code.ensures.code) inside

pub returns-in-Ok-clause-line : goal.returns-in-Ok-clause-line
returns-in-Ok-clause-line c =
    let i = c.in-Ok.instr in
    let code = c.args.method.now.code in
    let is : decoded code c.args.place ≡ Ok i = ap (λ (xs : List ℕ). decoded xs c.args.place) (sym c.code.ensures.code) ∙ sym c.in-Ok.ensures.exact in
    told_line c.lines_are_read.ensures c.args.method.now c.args.place c.requires i is c.int_row.result c.int_row.ensures.tells

pub returns-in-Err-clause-line : goal.returns-in-Err-clause-line
returns-in-Err-clause-line c P m of =
    let code = c.args.method.now.code in
    let stays = c.code.ensures.whole.instructions c.args.place c.requires in
    absurd (never_bad code c.args.place c.in-Err.field-0 stays (c.in-Err.ensures.exact ∙ ap (λ (xs : List ℕ). decoded xs c.args.place) c.code.ensures.code))
