use Rattle.std.proofs.Common.{◌++◌}
use Rattle.std.specs.Prelude.{codes, decimal}
use Rattle.method_bounds.specs.Lines.{name_in}
use Rattle.method_bounds.proofs.Texts.{both_put, on_ok}
use Rattle.method_bounds.proofs.lines.put_missing.Goals as goal

pub returns : goal.returns
returns c =
    on_ok c.put_place.result _ _
    (λ last. both_put c.args.text.now.items c.put_named.new.text.items c.put_place.new.text.items (codes "missing bound ") (name_in c.args.f.now c.args.m) (codes " " ++ decimal c.args.place) c.in_ok-put_named.ensures last)
    c.put_place.ensures
