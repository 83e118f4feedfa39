-- The activations among the boundaries of a run, by search over their list, and what is told of them.
use Rattle.std.specs.Prelude.{ℕ, ◌+◌, ◌*◌, ◌-◌, nat_lt, ◌==◌, ◌&&◌, Bool, if◌then◌else◌, List, [], ◌∷◌, ◌++◌, length, map, Option, Some, None}
use Rattle.std.specs.List.{filter, find, sum_by}
use Rattle.run_follower.specs.declared.here.Here.{Here}
use Rattle.run_follower.specs.declared.watch.activation.Activation.{Activation}
use Rattle.run_follower.specs.declared.watch.profile.Profile.{Profile}
use Rattle.run_follower.specs.declared.watch.slots.Slots.{Slots}

-- there are so many frames at a boundary
abbrev pub has_frames : ℕ → Here → Bool
has_frames n c = c.frames == n

-- an activation with the boundary at which it ended, if it has
abbrev pub ended_with : (begun : Here) → (method : ℕ) → Option Here → List Activation
ended_with a m None = []
ended_with a m (Some c) = record { begun = a; method = m; ended = c } ∷ []

-- the one that begins between two boundaries, if a frame is made there: it ends at the first boundary with as many frames as where it began
abbrev pub begun_between : Here → Here → (later : List Here) → List Activation
begun_between a b later = if nat_lt a.frames b.frames then ended_with a b.method (find (has_frames a.frames) later) else []

-- those of a run, in the order of their beginnings
abbrev pub activations_from : Here → List Here → List Activation
activations_from a [] = []
activations_from a (b ∷ later) = begun_between a b later ++ activations_from b later

abbrev pub activations : List Here → List Activation
activations [] = []
activations (a ∷ later) = activations_from a later

abbrev pub cycles_of : Activation → ℕ
cycles_of x = x.ended.clock - x.begun.clock

abbrev pub misses_of : Activation → ℕ
misses_of x = x.ended.misses - x.begun.misses

-- ---- the profile

abbrev pub greatest : List ℕ → ℕ
greatest [] = 0
greatest (n ∷ ns) = if nat_lt (greatest ns) n then n else greatest ns

abbrev pub is_of_method : (method : ℕ) → Activation → Bool
is_of_method m x = x.method == m

abbrev pub of_method : (method : ℕ) → List Activation → List Activation
of_method m xs = filter (is_of_method m) xs

abbrev pub profile_of : List Activation → Profile
profile_of xs = record { count = length xs; most = greatest (map cycles_of xs); total = sum_by cycles_of xs; misses = sum_by misses_of xs }

-- ---- the slots

-- the call of the slot of this number stands there, in the executive's method
abbrev pub is_slot : (executive : ℕ) → (slot : ℕ) → Here → Bool
is_slot main k a = (a.method == main) && (a.pc == 9 + 3 * k)

abbrev pub is_of_slot : (executive : ℕ) → (slot : ℕ) → Activation → Bool
is_of_slot main k x = is_slot main k x.begun

-- late where its use passes the length
abbrev pub is_late : (length : ℕ) → Activation → Bool
is_late l x = nat_lt l (cycles_of x)

abbrev pub idle_of : (length : ℕ) → Activation → ℕ
idle_of l x = l - cycles_of x

abbrev pub plus : Slots → Slots → Slots
plus s t = record { ended = s.ended + t.ended; late = s.late + t.late; idle = s.idle + t.idle }

-- of the activations of a slot of this length
abbrev pub one_slot : (length : ℕ) → List Activation → Slots
one_slot l xs = record { ended = length xs; late = length (filter (is_late l) xs); idle = sum_by (idle_of l) xs }

-- of the slots from one on, with these lengths
abbrev pub slots_from : (executive : ℕ) → (slot : ℕ) → (lengths : List ℕ) → List Activation → Slots
slots_from main k [] xs = record { ended = 0; late = 0; idle = 0 }
slots_from main k (l ∷ ls) xs = plus (one_slot l (filter (is_of_slot main k) xs)) (slots_from main (k + 1) ls xs)

abbrev pub slots_of : (executive : ℕ) → (lengths : List ℕ) → List Here → Slots
slots_of main ls heres = slots_from main 0 ls (activations heres)
