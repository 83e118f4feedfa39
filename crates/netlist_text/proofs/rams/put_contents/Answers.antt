use Rattle.std.proofs.Common.{◌≡◌, ◌++◌, ap, ◌∙◌}
use Rattle.std.specs.Prelude.{codes}
use Rattle.netlist_text.specs.Text.{each_from, zeros_text, first_text}
use Rattle.netlist_text.proofs.Texts.{behind}
use Rattle.netlist_text.proofs.rams.put_contents.Goals as goal

pub returns : goal.returns
returns c =
    let start = c.args.out.now.items in
    let m = c.args.m.now in
    let zeros = zeros_text c.args.k m in
    let text = first_text c.args.k m.write.word.width in
    let words = each_from text 0 m.first in
    let words_put : c.put_first_words.new.out.items ≡ c.put_zeros.new.out.items ++ words =
    c.in_ok-put_first_words.ensures ∙ ap (λ l. c.put_zeros.new.out.items ++ each_from text 0 l) c.as_slice.ensures in
    behind start (zeros ++ words) (codes "    end\n") (behind start zeros words c.in_ok-put_zeros.ensures words_put) c.in_ok-put.ensures
