use Rattle.std.specs.Prelude.{◌++◌, codes, decimal}
use Rattle.netlist_text.specs.Text.{given_word}
use Rattle.netlist_text.proofs.Texts.{behind, behind_two}
use Rattle.netlist_text.proofs.rams.put_zero.Goals as goal

pub returns : goal.returns
returns c =
    let start = c.args.out.now.items in
    let number = decimal c.args.k in
    let last = given_word (codes "] = ") c.args.width 0 in
    let head = codes "; k" ++ number in
    let next = behind_two start head (codes " = k") number c.in_ok-put_number.ensures c.in_ok-put_number-2.ensures in
    let array = behind_two start (head ++ codes " = k" ++ number) (codes " + 1) m") number next c.in_ok-put_number-3.ensures in
    let place = behind_two start (head ++ codes " = k" ++ number ++ codes " + 1) m" ++ number) (codes "[k") number array c.in_ok-put_number-4.ensures in
    behind start (head ++ codes " = k" ++ number ++ codes " + 1) m" ++ number ++ codes "[k" ++ number) last place c.in_ok-put_given.ensures
