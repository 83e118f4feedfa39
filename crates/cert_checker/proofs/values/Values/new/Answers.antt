use Rattle.std.proofs.Common.{◌≡◌, length, map, replicate, None, true, false, ap, ◌∙◌}
use Rattle.std.proofs.lemmas.List.{length-replicate}
use Rattle.cert_checker.specs.Setting.{valued_of}
use Rattle.cert_checker.proofs.Valuing.{first_none}
use Rattle.cert_checker.proofs.values.Values.new.Goals as goal

pub invariant_of-result : goal.invariant_of-result
invariant_of-result c =
    let n = c.args.methods in
    let inside : c.in_ok-inside.inside.items ≡ replicate n None = c.in_ok-inside.ensures in
    let others : c.in_ok-others.others.items ≡ replicate n None = c.in_ok-others.ensures in
    let count : length c.in_ok-inside.inside.items ≡ n = ap length inside ∙ length-replicate n None in
    let empty = ap (map valued_of) c.new.ensures.items in (
      first_none true n (length c.in_ok-inside.inside.items) (map valued_of c.new.result.items) c.in_ok-inside.inside.items empty count inside,
      first_none false n (length c.in_ok-inside.inside.items) (map valued_of c.new.result.items) c.in_ok-others.others.items empty count others,
    )
