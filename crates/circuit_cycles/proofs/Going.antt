-- A load of a circuit that stands for a machine.
use Rattle.std.proofs.Common.{◌+◌, sym, ap, subst, ◌∙◌}
use Rattle.circuit_cycles.specs.Core.{next}
use Rattle.circuit_cycles.specs.Stands.{HasRing, IsLoading, load_left}
use Rattle.circuit_cycles.specs.Laws.{LoadsGoOn}
use Rattle.circuit_cycles.proofs.Phases.{steps}

pub loading_goes_on : LoadsGoOn
loading_goes_on shape given c s stands idle on =
    let load : IsLoading shape c s = subst (λ b. HasRing b shape c s) on stands.ring in
    let step = steps shape given c s idle stands.has_shape stands.registers.main stands.is_ring stands.is_cache load on in
    record {
      ring = step.ring;
      left = ap (load_left shape c) load.size ∙ step.left ∙ ap (λ k. load_left shape (next shape given c) k + 1) (sym load.size);
    }
