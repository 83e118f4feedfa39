use Rattle.netlist_text.specs.Text.{first_text}
use Rattle.netlist_text.proofs.Texts.{appended_or}
use Rattle.netlist_text.proofs.rams.put_first_words.Goals as goal

pub loop-place-preserved : goal.loop-place-preserved
loop-place-preserved c =
    appended_or (first_text c.args.k c.args.width) c.args.first.now c.loop-place.place 0 c.args.out.now.items c.loop-place.out.items
    c.put_first.new.out.items c.loop-place-test.true c.loop-place.invariant c.in_ok-put_first.ensures
