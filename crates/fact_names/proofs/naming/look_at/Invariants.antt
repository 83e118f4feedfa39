use Rattle.std.proofs.Common.{◌≡◌, length, take}
use Rattle.fact_names.specs.Found.{ArePlacesOf}
use Rattle.fact_names.proofs.Meaning.{AreLookedTo}
use Rattle.fact_names.proofs.naming.look_at.Given as goal

abbrev pub invariant-loop-i : goal.invariant-loop-i
invariant-loop-i l =
    ArePlacesOf l.k l.places.starts.items l.places.loops × (length l.found ≡ length l.lines) × AreLookedTo l.k l.method l.lines (take l.i-index l.own) l.fn.found l.found
