use Rattle.std.proofs.Common.{◌≡◌, drop, true}
use Rattle.descriptors.specs.Names.{is_path}
use Rattle.descriptors.proofs.names.is_class_name.Given as goal

abbrev pub invariant-loop-unit : goal.invariant-loop-unit
invariant-loop-unit l = is_path l.fresh (drop l.unit-index l.units) ≡ is_path true l.units
