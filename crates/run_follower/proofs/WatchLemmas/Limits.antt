-- Where the boundaries are within limits, every activation is held and no number is passed.
use Rattle.std.proofs.Common.{◌≡◌, ℕ, zero, suc, ◌+◌, ◌^◌, ◌<◌, ◌≤◌, nat_lt, Bool, true, false, cond, List, [], ◌∷◌, ◌++◌, length, map, filter, get_or, All, Option, Some, None, refl, sym, ap, ap₂, ◌∙◌, subst, arith}
use Rattle.std.specs.Prelude.{find}
use Rattle.std.specs.List.Sorted.{IsStrictlyIncreasing}
use Rattle.std.proofs.lemmas.Bool.{cond-true, lt-ltb, ltb-true}
use Rattle.std.proofs.lemmas.List.{length-append, length-map}
use Rattle.std.proofs.lemmas.List.Elements.{All-nil, All-cons, All-head, All-tail, All-append, All-weaker, All-filter, All-map, All-get_or, filter-append}
use Rattle.std.proofs.lemmas.List.Sums.{sum_by-le, length-filter, count_by-le-length}
use Rattle.run_follower.specs.declared.here.Here.{Here}
use Rattle.run_follower.specs.declared.watch.activation.Activation.{Activation}
use Rattle.run_follower.specs.declared.watch.profile.Profile.{Profile}
use Rattle.run_follower.specs.Watch.Watched.{has_frames, ended_with, begun_between, activations_from, activations, cycles_of, misses_of, of_method, is_of_method, is_slot, profile_of, slots_from}
use Rattle.run_follower.specs.Watch.Counting.{count_limit, capped_slots, capped_profile, length_from}
use Rattle.run_follower.specs.Watch.Promises.{begins_below, SlotsAreExact, ProfilesAreExact, RisingAreFew}
use Rattle.run_follower.proofs.WatchLemmas.Combined.{combined_within}
use Rattle.run_follower.proofs.WatchLemmas.SlotSums.{gain_of, summed, total_is, total_of_slots, ended_by_one, late_by_one, idle_by_one, IsCapped, capped_is, slots_told}
use Rattle.run_follower.proofs.WatchLemmas.ProfileSums as profiles

-- ---- every activation is held

ended_count : (a : Here) (m : ℕ) (c : Option Here) → length (ended_with a m c) ≤ 1
ended_count a m None = omega arith
ended_count a m (Some c) = omega arith

begun_count_case : (a : Here) (m : ℕ) (c : Option Here) (deeper : Bool) → length (cond deeper (ended_with a m c) []) ≤ 1
begun_count_case a m c true = ended_count a m c
begun_count_case a m c false = omega arith

begun_count : (a b : Here) (later : List Here) → length (begun_between a b later) ≤ 1
begun_count a b later = begun_count_case a b.method (find (has_frames a.frames) later) (nat_lt a.frames b.frames)

count_from : (a : Here) (later : List Here) → length (activations_from a later) ≤ length later
count_from a [] = omega arith
count_from a (b ∷ later) =
    let here = begun_count a b later in
    let rest = count_from b later in
    let all = length-append (begun_between a b later) (activations_from b later) in
    omega (arith, here, rest, all)

-- fewer than there are boundaries
pub few_activations : (n : ℕ) (heres : List Here) → length heres ≤ n + 1 → length (activations heres) ≤ n
few_activations n [] h = omega arith
few_activations n (a ∷ later) h = let few = count_from a later in omega arith

held_case : (most : ℕ) (a : Here) (m : ℕ) (c : Option Here) → a.frames < most → filter (begins_below most) (ended_with a m c) ≡ ended_with a m c
held_case most a m None lt = refl
held_case most a m (Some c) lt = cond-true (nat_lt a.frames most) (record { begun = a; method = m; ended = c } ∷ []) [] (lt-ltb a.frames most lt)

begun_held : (most : ℕ) (a b : Here) (c : Option Here) (deeper : Bool) → nat_lt a.frames b.frames ≡ deeper → b.frames ≤ most
    → filter (begins_below most) (cond deeper (ended_with a b.method c) []) ≡ cond deeper (ended_with a b.method c) []
begun_held most a b c true d le = let lt = ltb-true a.frames b.frames d in held_case most a b.method c (omega arith)
begun_held most a b c false d le = refl

abbrev HasAtMost : ℕ → Here → Type 0
HasAtMost most a = a.frames ≤ most

held_from : (most : ℕ) (a : Here) (later : List Here) → All (HasAtMost most) later → filter (begins_below most) (activations_from a later) ≡ activations_from a later
held_from most a [] h = refl
held_from most a (b ∷ later) h =
    filter-append (begins_below most) (begun_between a b later) (activations_from b later)
    ∙ ap₂ (λ (xs ys : List Activation). xs ++ ys)
    (begun_held most a b (find (has_frames a.frames) later) (nat_lt a.frames b.frames) refl (All-head (HasAtMost most) b later h))
    (held_from most b later (All-tail (HasAtMost most) b later h))

pub all_held : (most : ℕ) (heres : List Here) → All (HasAtMost most) heres → filter (begins_below most) (activations heres) ≡ activations heres
all_held most [] h = refl
all_held most (a ∷ later) h = held_from most a later (All-tail (HasAtMost most) a later h)

-- ---- what holds of all boundaries holds of those at which activations end

found_case : (P : Here → Type 0) (x : Here) (rest : Option Here) (y : Here) (b : Bool) → P x → (rest ≡ Some y → P y) → cond b (Some x) rest ≡ Some y → P y
found_case P x rest y true p later e = let same : x ≡ y = cc in subst P same p
found_case P x rest y false p later e = later e

found_holds : (P : Here → Type 0) (p : Here → Bool) (xs : List Here) (y : Here) → All P xs → find p xs ≡ Some y → P y
found_holds P p [] y h e = absurd (let f : None ≡ Some y = e in cc)
found_holds P p (x ∷ xs) y h e = found_case P x (find p xs) y (p x) (All-head P x xs h) (found_holds P p xs y (All-tail P x xs h)) e

abbrev EndsWith : (Here → Type 0) → Activation → Type 0
EndsWith P x = P x.ended

ended_case : (P : Here → Type 0) (a : Here) (m : ℕ) (c : Option Here) → ((y : Here) → c ≡ Some y → P y) → All (EndsWith P) (ended_with a m c)
ended_case P a m None h = All-nil (EndsWith P)
ended_case P a m (Some c) h = All-cons (EndsWith P) record { begun = a; method = m; ended = c } [] (h c refl) (All-nil (EndsWith P))

deeper_case : (P : Here → Type 0) (xs : List Activation) (deeper : Bool) → All (EndsWith P) xs → All (EndsWith P) (cond deeper xs [])
deeper_case P xs true h = h
deeper_case P xs false h = All-nil (EndsWith P)

ends_from : (P : Here → Type 0) (a : Here) (later : List Here) → All P later → All (EndsWith P) (activations_from a later)
ends_from P a [] h = All-nil (EndsWith P)
ends_from P a (b ∷ later) h =
    let rest = All-tail P b later h in
    let ended = ended_case P a b.method (find (has_frames a.frames) later) (λ y e. found_holds P (has_frames a.frames) later y rest e) in
    All-append (EndsWith P) (begun_between a b later) (activations_from b later) (deeper_case P (ended_with a b.method (find (has_frames a.frames) later)) (nat_lt a.frames b.frames) ended) (ends_from P b later rest)

pub ends_hold : (P : Here → Type 0) (heres : List Here) → All P heres → All (EndsWith P) (activations heres)
ends_hold P [] h = All-nil (EndsWith P)
ends_hold P (a ∷ later) h = ends_from P a later (All-tail P a later h)

-- ---- slots

each : (P : Activation → Type 0) → ((x : Activation) → P x) → (xs : List Activation) → All P xs
each P h [] = All-nil P
each P h (x ∷ xs) = All-cons P x xs (h x) (each P h xs)

-- no length passes 64 bits
fits_case : (m l : ℕ) (rest : Option ℕ) (here : Bool) → m < 2 ^ 64 → (rest ≡ Some l → l < 2 ^ 64) → cond here (Some m) rest ≡ Some l → l < 2 ^ 64
fits_case m l rest true fits later e = let same : m ≡ l = cc in omega arith
fits_case m l rest false fits later e = later e

length_fits : (main k : ℕ) (ls : List ℕ) (a : Here) (l : ℕ) → All (λ l. l < 2 ^ 64) ls → length_from main k ls a ≡ Some l → l < 2 ^ 64
length_fits main k [] a l h e = absurd (let f : None ≡ Some l = e in cc)
length_fits main k (m ∷ ls) a l h e =
    fits_case m l (length_from main (k + 1) ls a) (is_slot main k a) (All-head (λ l. l < 2 ^ 64) m ls h) (length_fits main (k + 1) ls a l (All-tail (λ l. l < 2 ^ 64) m ls h)) e

idle_fits : (n : ℕ) (o : Option ℕ) → ((l : ℕ) → o ≡ Some l → l < 2 ^ 64) → (gain_of n o).idle ≤ count_limit
idle_fits n None h = omega arith
idle_fits n (Some l) h = let fits = h l refl in omega arith

one_ended : (n : ℕ) (o : Option ℕ) → (gain_of n o).ended ≤ 1
one_ended n None = omega arith
one_ended n (Some l) = omega arith

late_case : (late : Bool) → (let n : ℕ = cond late 1 0 in n) ≤ 1
late_case true = omega arith
late_case false = omega arith

one_late : (n : ℕ) (o : Option ℕ) → (gain_of n o).late ≤ 1
one_late n None = omega arith
one_late n (Some l) = late_case (nat_lt l n)

summed_capped : (main : ℕ) (ls : List ℕ) (xs : List Activation) → All (λ l. l < 2 ^ 64) ls → length xs ≤ count_limit → IsCapped (summed main ls xs)
summed_capped main ls xs h few =
    let ended = combined_within (ended_by_one main ls) 1 xs (each (λ x. ended_by_one main ls x ≤ 1) (λ x. one_ended (cycles_of x) (length_from main 0 ls x.begun)) xs) in
    let late = combined_within (late_by_one main ls) 1 xs (each (λ x. late_by_one main ls x ≤ 1) (λ x. one_late (cycles_of x) (length_from main 0 ls x.begun)) xs) in
    let idle =
    combined_within (idle_by_one main ls) count_limit xs
    (each (λ x. idle_by_one main ls x ≤ count_limit) (λ x. idle_fits (cycles_of x) (length_from main 0 ls x.begun) (λ l e. length_fits main 0 ls x.begun l h e)) xs) in
    record { ended = omega (arith, ended, few); late = omega (arith, late, few); idle = omega (arith, idle, few) }

pub slots_exact : SlotsAreExact
slots_exact main frames ls heres within fit =
    let xs : List Activation = activations heres in
    let few : length xs ≤ count_limit = few_activations count_limit heres (let few = within.few in omega arith) in
    let same : slots_from main 0 ls xs ≡ summed main ls xs = sym (total_of_slots main ls xs) ∙ total_is main ls xs in
    slots_told main frames ls heres
    ∙ ap (λ (xs : List Activation). capped_slots (slots_from main 0 ls xs)) (all_held frames heres within.frames)
    ∙ capped_is (slots_from main 0 ls xs) (subst IsCapped (sym same) (summed_capped main ls xs fit few))

-- ---- totals of methods

length_filtered : (p : Activation → Bool) (xs : List Activation) → length (filter p xs) ≤ length xs
length_filtered p xs = omega (arith, length-filter p xs, count_by-le-length p xs)

profile_capped : (xs : List Activation) → length xs ≤ count_limit → All (λ (x : Activation). x.ended.clock < 2 ^ 64) xs → All (λ (x : Activation). x.ended.misses < 2 ^ 64) xs → profiles.IsCapped (profile_of xs)
profile_capped xs few clocks misses =
    let total = sum_by-le cycles_of count_limit xs (All-weaker (λ (x : Activation). x.ended.clock < 2 ^ 64) (λ x. cycles_of x ≤ count_limit) (λ x h. omega arith) xs clocks) in
    let missed = sum_by-le misses_of count_limit xs (All-weaker (λ (x : Activation). x.ended.misses < 2 ^ 64) (λ x. misses_of x ≤ count_limit) (λ x h. omega arith) xs misses) in
    record { count = few; total = omega (arith, total, few); misses = omega (arith, missed, few) }

profile_is : (p : Profile) → profiles.IsCapped p → capped_profile p ≡ p
profile_is p h =
    let c = h.count in
    let t = h.total in
    let m = h.misses in
    profiles.same_profiles _ _ _ _ p.count p.most p.total p.misses (omega arith) (omega arith) (omega arith) (omega arith)

pub profiles_exact : ProfilesAreExact
profiles_exact methods frames heres within m lt =
    let all : List Activation = activations heres in
    let xs : List Activation = of_method m all in
    let few : length all ≤ count_limit = few_activations count_limit heres (let few = within.few in omega arith) in
    let fewer : length xs ≤ count_limit = omega (arith, few, length_filtered (is_of_method m) all) in
    let clocks = All-filter (is_of_method m) (λ (x : Activation). x.ended.clock < 2 ^ 64) all (ends_hold (λ (a : Here). a.clock < 2 ^ 64) heres within.clocks) in
    let misses = All-filter (is_of_method m) (λ (x : Activation). x.ended.misses < 2 ^ 64) all (ends_hold (λ (a : Here). a.misses < 2 ^ 64) heres within.misses) in
    profiles.profiles_told methods frames heres m lt
    ∙ ap (λ (xs : List Activation). Some (capped_profile (profile_of (of_method m xs)))) (all_held frames heres within.frames)
    ∙ ap Some (profile_is (profile_of xs) (profile_capped xs fewer clocks misses))

-- ---- clocks that rise

rises : (ns : List ℕ) → IsStrictlyIncreasing ns → (k : ℕ) → k < length ns → k ≤ get_or ns k 0
rises ns up zero lt = omega arith
rises ns up (suc k) lt =
    let below = rises ns up k (omega arith) in
    let step = up k (omega arith) in
    let same : get_or ns (k + 1) 0 ≡ get_or ns (suc k) 0 = ap (λ (k : ℕ). get_or ns k 0) (let e : k + 1 ≡ suc k = omega arith in e) in
    omega (arith, below, step, same)

few_rise : (n : ℕ) (ns : List ℕ) → length ns ≡ n → IsStrictlyIncreasing ns → All (λ k. k < 2 ^ 64) ns → n ≤ 2 ^ 64
few_rise zero ns long up below = omega arith
few_rise (suc n) ns long up below =
    let last = rises ns up n (omega arith) in
    let fits = All-get_or (λ k. k < 2 ^ 64) ns n 0 (omega arith) below in
    omega (arith, last, fits)

abbrev clock_of : Here → ℕ
clock_of a = a.clock

pub rising_few : RisingAreFew
rising_few heres up below = few_rise (length heres) (map clock_of heres) (length-map heres clock_of) up (All-map (λ k. k < 2 ^ 64) clock_of heres below)
