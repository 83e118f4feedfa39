-- What the followers come to over a list of boundaries.
use Rattle.std.specs.Prelude.{◌≡◌, ℕ, ◌^◌, ◌<◌, ◌≤◌, nat_lt, Bool, List, length, map, filter, All, Some, slice_get}
use Rattle.std.specs.List.Sorted.{IsStrictlyIncreasing}
use Rattle.run_follower.specs.declared.here.Here.{Here}
use Rattle.run_follower.specs.Following.{followed}
use Rattle.run_follower.specs.declared.watch.activation.Activation.{Activation}
use Rattle.run_follower.specs.declared.watch.profile.Profile.{Profile}
use Rattle.run_follower.specs.declared.watch.slots.Slots.{Slots}
use Rattle.run_follower.specs.Watch.Watched.{activations, of_method, profile_of, slots_from, slots_of}
use Rattle.run_follower.specs.Watch.Counting.{slots_after, no_slots, capped_slots, totals_after, no_totals, capped_profile}

-- it begins with fewer frames than so many
abbrev pub begins_below : ℕ → Activation → Bool
begins_below frames x = nat_lt x.begun.frames frames

-- Boundaries with at most so many frames, of which the counts of cycles and of misses, and their own number, fit 64 bits.
pub record AreCountsWithin (most : ℕ) (heres : List Here) : Type 0 where
  pub frames : All (λ (a : Here). a.frames ≤ most) heres
  pub clocks : All (λ (a : Here). a.clock < 2 ^ 64) heres
  pub misses : All (λ (a : Here). a.misses < 2 ^ 64) heres
  pub few : length heres ≤ 2 ^ 64

-- ---- slots

abbrev pub counted : (executive : ℕ) → (lengths : List ℕ) → (frames : ℕ) → List Here → Slots
counted main ls frames heres = (followed slots_after (no_slots main ls frames) heres).slots

abbrev pub SlotsAreTold : Type 0
SlotsAreTold = (main frames : ℕ) (ls : List ℕ) (heres : List Here)
    → counted main ls frames heres ≡ capped_slots (slots_from main 0 ls (filter (begins_below frames) (activations heres)))

abbrev pub SlotsAreExact : Type 0
SlotsAreExact = (main frames : ℕ) (ls : List ℕ) (heres : List Here) → AreCountsWithin frames heres → All (λ l. l < 2 ^ 64) ls
    → counted main ls frames heres ≡ slots_of main ls heres

-- ---- totals of methods

abbrev pub rows_of : (methods frames : ℕ) → List Here → List Profile
rows_of methods frames heres = (followed totals_after (no_totals methods frames) heres).rows

abbrev pub EachHasARow : Type 0
EachHasARow = (methods frames : ℕ) (heres : List Here) → length (rows_of methods frames heres) ≡ methods

abbrev pub ProfilesAreTold : Type 0
ProfilesAreTold = (methods frames : ℕ) (heres : List Here) (m : ℕ) → m < methods
    → slice_get (rows_of methods frames heres) m ≡ Some (capped_profile (profile_of (of_method m (filter (begins_below frames) (activations heres)))))

abbrev pub ProfilesAreExact : Type 0
ProfilesAreExact = (methods frames : ℕ) (heres : List Here) → AreCountsWithin frames heres → (m : ℕ) → m < methods
    → slice_get (rows_of methods frames heres) m ≡ Some (profile_of (of_method m (activations heres)))

-- clocks of 64 bits that rise are few
abbrev pub RisingAreFew : Type 0
RisingAreFew = (heres : List Here) → IsStrictlyIncreasing (map (λ (a : Here). a.clock) heres) → All (λ (a : Here). a.clock < 2 ^ 64) heres
    → length heres ≤ 2 ^ 64
