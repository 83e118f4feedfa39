use Rattle.std.proofs.Common.{◌≡◌, ℕ, ◌<◌, length, get_or, sym, ap, ◌∙◌, arith}
use Rattle.std.proofs.lemmas.List.{get_or_default}
use Rattle.std.proofs.lemmas.List.Elements.{All-get_or}
use Rattle.loop_nest.specs.Entered.{class_of}
use Rattle.loop_nest.proofs.passes.look.Goals as goal

pub loop-preserved : goal.loop-preserved
loop-preserved c =
    let into = c.args.into.now in
    let at = c.loop.at in
    let inv = c.loop.invariant in
    let is : class_of into at ≡ get_or into at 0 = get_or_default into at at 0 inv.inside in
    record {
      inside = All-get_or (λ (a : ℕ). a < length into) into at 0 inv.inside c.requires.within;
      same = λ k f. ap k (sym is) ∙ f.same at inv.inside ∙ inv.same k f;
      high = λ e.
          let up = e.rising at inv.inside (λ s. c.if-next-at.false (sym is ∙ s)) in
          let old = inv.high e in
          let k = ap e.height is in
          omega arith;
    }
