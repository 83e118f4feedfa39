-- How what a device has written goes on over several calls.
use Rattle.std.specs.Prelude.{◌≡◌, ℕ, List, [], ◌++◌}
use Rattle.std.specs.List.{flat_map}
use Rattle.std.proofs.Common.{refl, sym, ap, ◌∙◌, append_assoc}
use Rattle.std.proofs.lemmas.Grind.{flat_map-append}
use Rattle.base.specs.Growing.{Grew-refl, Grew-trans}
use Rattle.device_traits.specs.Told.{Told, DeviceNote, Noted, NotedInPart}

pub Noted-refl : (told : Told) → Noted told told []
Noted-refl told = record { line = refl; written = Grew-refl told.noted }

pub Noted-trans : (t0 t1 t2 : Told) (earlier later notes : List DeviceNote) → Noted t0 t1 earlier → Noted t1 t2 later → notes ≡ earlier ++ later
    → Noted t0 t2 notes
Noted-trans t0 t1 t2 earlier later notes first second all = record {
  line = second.line ∙ first.line;
  written = Grew-trans _ _ _ (flat_map t0.line earlier) (flat_map t1.line later) (flat_map t0.line notes) first.written second.written
      (ap (flat_map t0.line) all ∙ flat_map-append t0.line earlier later ∙ ap (λ line. flat_map t0.line earlier ++ flat_map line later) (sym first.line));
}

pub NotedInPart-after : (t0 t1 t2 : Told) (notes : List DeviceNote) (last : DeviceNote) → Noted t0 t1 notes → NotedInPart t1 t2 [] last
    → NotedInPart t0 t2 notes last
NotedInPart-after t0 t1 t2 notes last first second = record {
  line = second.line ∙ first.line;
  written = record {
    grown = λ ys e.
        let later = second.written.grown ys e in
        let earlier = first.written.grown later.0 later.1 in (
          earlier.0,
          earlier.1,
          later.2,
          later.3,
          ap (λ (line : DeviceNote → List ℕ). line last) (sym first.line) ∙ later.4,
          later.5,
          later.6 ∙ ap (λ text. text ++ later.2) earlier.2 ∙ append_assoc earlier.0 (flat_map t0.line notes) later.2,
        );
  };
}
