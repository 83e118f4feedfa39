use Rattle.std.specs.Prelude.{◌++◌, codes, decimal}
use Rattle.netlist_text.specs.Text.{net_text, clash_text}
use Rattle.netlist_text.proofs.Texts.{behind, behind_two}
use Rattle.netlist_text.proofs.rams.put_read.Goals as goal

pub returns : goal.returns
returns c =
    let start = c.args.out.now.items in
    let m = c.args.m.now in
    let number = decimal c.args.k in
    let either = codes " ? " ++ decimal m.write.word.width ++ codes "'bx : m" ++ number ++ codes "[" ++ net_text m.read.place ++ codes "];\n" in
    let head = codes "        if (" ++ net_text m.read.when in
    let register = behind_two start head (codes ") q") number c.in_ok-put_behind.ensures c.in_ok-put_number.ensures in
    let given = behind start (head ++ codes ") q" ++ number) (codes " <= ") register c.in_ok-put.ensures in
    let clash = behind start (head ++ codes ") q" ++ number ++ codes " <= ") (clash_text m) given c.in_ok-put_clash.ensures in
    behind start (head ++ codes ") q" ++ number ++ codes " <= " ++ clash_text m) either clash c.in_ok-put_either.ensures
