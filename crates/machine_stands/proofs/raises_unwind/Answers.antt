use Rattle.machine_stands.proofs.Unwinding.{RaiseLaws, raise_is_seen, handler_comes, drop_comes, uncaught_comes}
use Rattle.machine_stands.proofs.raises_unwind.Goals as goal

-- the laws that the body calls
laws : goal.After-runs_add_up → RaiseLaws
laws c = record {
  seen = c.machines_are_seen_as_sketches.ensures;
  standing = record { starts = c.starts_follow_one_another.ensures; bytes = c.packed_has_bytes.ensures; words = c.rows_are_steps.ensures.stack_has_words };
  packed = c.packed_has_words.ensures;
  runs = c.runs_add_up.ensures;
  costs = c.raise_keeps_its_cost.ensures;
}

pub returns-clause-seen : goal.returns-clause-seen
returns-clause-seen c = raise_is_seen (laws c)

pub returns-clause-handlers : goal.returns-clause-handlers
returns-clause-handlers c = handler_comes (laws c)

pub returns-clause-drops : goal.returns-clause-drops
returns-clause-drops c = drop_comes (laws c)

pub returns-clause-uncaught : goal.returns-clause-uncaught
returns-clause-uncaught c = uncaught_comes (laws c)
