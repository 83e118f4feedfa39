-- What a further boundary of the same activation finds: nothing that is held ends there.
use Rattle.std.specs.Prelude.{◌≡◌, List, Option, Some, None, slice_index_or}
use Rattle.run_follower.specs.declared.here.Here.{Here}
use Rattle.run_follower.specs.declared.watch.activation.Begun.{Begun}

-- none that hasn't ended began with as many frames as the last boundary has
abbrev pub NoneBeganAt : (last : Option Here) → List (Option Begun) → Type 0
NoneBeganAt None begun = Unit {0}
NoneBeganAt (Some last) begun = slice_index_or begun last.frames None ≡ None
