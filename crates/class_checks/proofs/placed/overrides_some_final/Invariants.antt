use Rattle.std.proofs.Common.{◌≡◌, ◌&&◌, not, drop}
use Rattle.std.specs.List.{list_any}
use Rattle.class_lookup.specs.Parts.{is_final}
use Rattle.class_lookup.specs.Lookup.{same_place}
use Rattle.class_lookup.specs.Selection.{is_method_with, overriding}
use Rattle.class_checks.proofs.PlacedLemmas.{passes}
use Rattle.class_checks.proofs.placed.overrides_some_final.Given as goal

abbrev pub invariant-loop-upper : goal.invariant-loop-upper
invariant-loop-upper l =
    list_any (λ a. is_method_with is_final l.classes a && (not (same_place l.place a) && list_any (same_place l.place) (overriding l.classes a l.places))) l.places
    ≡ list_any (passes l.classes l.place l.joined.items (drop l.upper-index l.places)) l.places
