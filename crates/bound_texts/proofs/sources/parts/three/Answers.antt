use Rattle.std.proofs.Common.{ℕ, List, length, ap, arith}
use Rattle.std.specs.Prelude.{◌==◌}
use Rattle.std.proofs.lemmas.List.Splits.{length-slice_split}
use Rattle.bound_texts.proofs.sources.parts.three.Goals as goal

pub returns-in-Some : goal.returns-in-Some
returns-in-Some c line e =
    let is_space = λ (byte : ℕ). byte == 32 in
    let more = length-slice_split is_space c.in-Some.field-0.1.now in
    let all = ap (λ (ps : List (List ℕ)). length ps) e in
    let rest = ap (λ (ps : List (List ℕ)). length ps) c.in-Some.ensures in
    (λ two. omega (arith, more, all, rest, two), λ three. omega (arith, more, all, rest, three))
