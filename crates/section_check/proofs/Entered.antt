-- In a well placed section no node is in two regions, and loops are entered at their headers.
use Rattle.std.proofs.Common.{◌≡◌, ◌≢◌, ℕ, true, List, Option, refl, inl, inr}
use Rattle.std.proofs.lemmas.Bool.{cases_eq}
use Rattle.loop_nest.specs.Digraph.{Digraph}
use Rattle.section_check.specs.Section.{CertifiedLoop, Certified}
use Rattle.section_check.specs.Placing.{IsEntryAt, LiesIn, AreWellPlaced}
use Rattle.section_check.specs.Placing.IsFaulty.{crosses_another, lies_in_region}
use Rattle.section_check.specs.Placing.IsMisplaced.{heads_faulty, enters_aside}
use Rattle.section_check.specs.Entering.{RegionsAreApart, LoopsAreEnteredAtHeaders}

-- a region lies in no other
not_within : (g : Digraph) (c : Certified) (bounds : List ℕ) (loads : List (Option ℕ)) → AreWellPlaced g c bounds loads
    → (i k : ℕ) (l m : CertifiedLoop) → IsEntryAt c.loops i l → IsEntryAt c.loops k m → k ≢ i → l.region ≡ true → m.region ≡ true → LiesIn l m → ⊥
not_within g c bounds loads placed i k l m at_l at_m other region_l region_m lies =
    placed l.header (heads_faulty (record {
      place = i;
      headed = l;
      at = at_l;
      header = refl;
      faulty = lies_in_region region_l (record { place = k; other = m; at = at_m; apart = other; region = region_m; within = lies });
    }))

pub regions_are_apart : RegionsAreApart
regions_are_apart g c bounds loads placed i k l m at_l at_m region_l region_m u in_l in_m =
    elim (cases_eq i k) [
      | inl same ↦ same
      | inr other ↦
          absurd (placed l.header (heads_faulty (record {
            place = i;
            headed = l;
            at = at_l;
            header = refl;
            faulty = crosses_another (record {
              other = m;
              among = (k, at_m.0, at_m.1);
              crossed = record {
                common = u;
                first = in_l;
                second = in_m;
                not_in = not_within g c bounds loads placed i k l m at_l at_m (λ e. let same : i ≡ k = cc in other same) region_l region_m;
                not_around = not_within g c bounds loads placed k i m l at_m at_l other region_m region_l;
              };
            });
          })))
    ]

pub loops_are_entered_at_headers : LoopsAreEnteredAtHeaders
loops_are_entered_at_headers g c bounds loads placed l u v among e inside outside =
    elim (cases_eq v l.header) [
      | inl same ↦ same
      | inr aside ↦ absurd (placed u (enters_aside v e (record { entered = l; among = among; inside = inside; outside = outside; aside = aside })))
    ]
