-- The activations that haven't ended, held by the numbers of frames with which they began.
use Rattle.std.specs.Prelude.{nat_lt, if◌then◌else◌, List, Option, Some, None, slice_set, slice_index_or}
use Rattle.run_follower.specs.declared.here.Here.{Here}
use Rattle.run_follower.specs.declared.watch.activation.Begun.{Begun}
use Rattle.run_follower.specs.declared.watch.activation.Activation.{Activation}

-- The last boundary, and the activation that began with each number of frames and hasn't ended. No two that haven't ended began with as many frames.
pub record Open : Type 0 where
  pub last : Option Here
  pub begun : List (Option Begun)

abbrev pub ended_by : Here → Option Begun → Option Activation
ended_by here None = None
ended_by here (Some b) = Some record { begun = b.here; method = b.method; ended = here }

-- the one that ends at a boundary
abbrev pub ended_at : List (Option Begun) → Here → Option Activation
ended_at begun here = ended_by here (slice_index_or begun here.frames None)

-- with the one that begins between two boundaries
abbrev pub begun_into : (last here : Here) → List (Option Begun) → List (Option Begun)
begun_into last here begun = if nat_lt last.frames here.frames then slice_set begun last.frames (Some record { here = last; method = here.method }) else begun

abbrev pub begun_since : (last : Option Here) → Here → List (Option Begun) → List (Option Begun)
begun_since None here begun = begun
begun_since (Some last) here begun = begun_into last here begun

abbrev pub open_after : Open → Here → Open
open_after s here = record { last = Some here; begun = begun_since s.last here (slice_set s.begun here.frames None) }
