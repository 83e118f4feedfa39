use Rattle.std.proofs.Common.{◌≡◌, ℕ, false, List, length, refl, ap, ◌∙◌, subst, arith}
use Rattle.circuit_build.specs.Wiring.{Wiring}
use Rattle.circuit_build.proofs.Further.{further_row}
use Rattle.circuit_build.proofs.Steps.{kept, next, so}
use Rattle.circuit_build.proofs.logic.Logic.rows.Goals as goal

pub loop-k-init : goal.loop-k-init
loop-k-init g c = record {
  wires = λ h. refl;
  gives = kept refl (λ ws. (ap (λ (l : List ℕ). length l) c.list-rows.ensures, λ j h. absurd (omega (arith, h))));
}

pub loop-k-preserved : goal.loop-k-preserved
loop-k-preserved g c = record {
  wires = λ h.
      let same : c.push.new.self ≡ c.loop-k.self = c.push.ensures.wires h in
      same ∙ c.loop-k.invariant.wires (subst (λ (s : Wiring). s.lacks ≡ false) same h);
  gives =
      so (next c.loop-k.invariant.gives c.push.ensures.gives)
      (λ ws f. further_row (λ j row. g.F.Fn.post c.args.row (j, tt) row) c.loop-k.rows.items c.push.new.list.items c.loop-k.k c.row.result f.1 f.0 c.row.ensures);
}

pub returns : goal.returns
returns g c = record {
  wires = c.loop-k.invariant.wires;
  gives =
      so c.loop-k.invariant.gives
      (λ ws f.
      let same : c.loop-k.k ≡ c.args.count = omega (arith, c.loop-k-test.false, c.loop-k.auto.k-end) in
      (f.0 ∙ same, λ k h. f.1 k (omega (arith, h, c.loop-k-test.false))));
}
