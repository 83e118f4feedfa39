use Rattle.std.proofs.Common.{ℕ, Some, None}
use Rattle.std.specs.Prelude.{slice_get, if◌then◌else◌}
use Rattle.lists.specs.Lists.{onto}
use Rattle.class_lookup.specs.Parts.{name_of}
use Rattle.program_resolution.specs.Linked.{is_initialized}
use Rattle.class_checks.proofs.PlaceItemLemmas.{more_found}
use Rattle.program_resolution.proofs.initialization.initialized.Goals as goal

pub loop-class-preserved : goal.loop-class-preserved
loop-class-preserved c =
    more_found (λ (n : ℕ). onto (slice_get c.args.classes.now n) (λ k. if is_initialized k then Some (name_of k) else None)) c.as_slice-class-items.result.now c.loop-class.class-index c.loop-class.names.items c.put_name.new.names.items
    c.in_ok-name.name c.loop-class-test.true c.loop-class.invariant c.in_ok-name.ensures c.in_ok-put_name.ensures
