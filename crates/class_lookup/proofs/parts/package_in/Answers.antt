use Rattle.std.proofs.Common.{take, sym, ap, ◌∙◌}
use Rattle.class_lookup.proofs.PackageLemmas.{before_last, at_end}
use Rattle.class_lookup.proofs.parts.package_in.Goals as goal

pub returns : goal.returns
returns c =
    let name = c.args.name.now in
    ap (λ n. take n name) (sym (at_end name c.loop-i.i c.loop-i.length c.loop-i-test.false) ∙ c.loop-i.invariant.0) ∙ before_last name
