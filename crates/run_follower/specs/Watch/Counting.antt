-- What the followers hold, and what one boundary more does to it.
use Rattle.std.specs.Prelude.{ℕ, ◌+◌, ◌-◌, ◌^◌, min, max, nat_lt, if◌then◌else◌, List, [], ◌∷◌, replicate, Option, Some, None, slice_set, slice_index_or}
use Rattle.run_follower.specs.declared.here.Here.{Here}
use Rattle.run_follower.specs.declared.watch.activation.Activation.{Activation}
use Rattle.run_follower.specs.declared.watch.profile.Profile.{Profile}
use Rattle.run_follower.specs.declared.watch.slots.Slots.{Slots}
use Rattle.run_follower.specs.Watch.Watched.{cycles_of, misses_of, plus, is_slot}
use Rattle.run_follower.specs.Watch.Opened.{Open, open_after, ended_at}

-- the greatest numbers that a count and a sum can hold
abbrev pub count_limit : ℕ
count_limit = 2 ^ 64 - 1

abbrev pub sum_limit : ℕ
sum_limit = 2 ^ 128 - 1

abbrev pub nothing_open : (frames : ℕ) → Open
nothing_open frames = record { last = None; begun = replicate frames None }

-- ---- slots

pub record SlotCount : Type 0 where
  pub watch : Open
  pub executive : ℕ
  pub lengths : List ℕ
  pub slots : Slots

abbrev pub no_slots : (executive : ℕ) → (lengths : List ℕ) → (frames : ℕ) → SlotCount
no_slots main ls frames = record { watch = nothing_open frames; executive = main; lengths = ls; slots = record { ended = 0; late = 0; idle = 0 } }

-- each number at most the greatest that can be held
abbrev pub capped_slots : Slots → Slots
capped_slots s = record { ended = min s.ended count_limit; late = min s.late count_limit; idle = min s.idle sum_limit }

abbrev pub plus_capped : Slots → Slots → Slots
plus_capped s t = capped_slots (plus s t)

-- one use of a slot of this length
abbrev pub one_use : (length cycles : ℕ) → Slots
one_use l n = record { ended = 1; late = if nat_lt l n then 1 else 0; idle = l - n }

-- the length of the slot that is called there, of the slots from one on
abbrev pub length_from : (executive : ℕ) → (slot : ℕ) → (lengths : List ℕ) → Here → Option ℕ
length_from main k [] a = None
length_from main k (l ∷ ls) a = if is_slot main k a then Some l else length_from main (k + 1) ls a

abbrev pub slots_by : Slots → (cycles : ℕ) → Option ℕ → Slots
slots_by s n None = s
slots_by s n (Some l) = plus_capped s (one_use l n)

abbrev pub slots_more : (executive : ℕ) → (lengths : List ℕ) → Slots → Activation → Slots
slots_more main ls s x = slots_by s (cycles_of x) (length_from main 0 ls x.begun)

abbrev pub slots_with : SlotCount → Option Activation → Slots
slots_with s None = s.slots
slots_with s (Some x) = slots_more s.executive s.lengths s.slots x

abbrev pub slots_after : SlotCount → Here → SlotCount
slots_after s here = record s { watch = open_after s.watch here; slots = slots_with s (ended_at s.watch.begun here) }

-- ---- totals of methods

pub record Totals : Type 0 where
  pub watch : Open
  pub rows : List Profile

abbrev pub no_profile : Profile
no_profile = record { count = 0; most = 0; total = 0; misses = 0 }

abbrev pub no_totals : (methods frames : ℕ) → Totals
no_totals methods frames = record { watch = nothing_open frames; rows = replicate methods no_profile }

abbrev pub capped_profile : Profile → Profile
capped_profile p = record { count = min p.count count_limit; most = p.most; total = min p.total sum_limit; misses = min p.misses sum_limit }

abbrev pub joined : Profile → Profile → Profile
joined p q = record { count = p.count + q.count; most = max p.most q.most; total = p.total + q.total; misses = p.misses + q.misses }

abbrev pub joined_capped : Profile → Profile → Profile
joined_capped p q = capped_profile (joined p q)

abbrev pub one_activation : Activation → Profile
one_activation x = record { count = 1; most = cycles_of x; total = cycles_of x; misses = misses_of x }

abbrev pub rows_more : List Profile → Activation → List Profile
rows_more rows x = slice_set rows x.method (joined_capped (slice_index_or rows x.method no_profile) (one_activation x))

abbrev pub rows_with : List Profile → Option Activation → List Profile
rows_with rows None = rows
rows_with rows (Some x) = rows_more rows x

abbrev pub totals_after : Totals → Here → Totals
totals_after s here = record { watch = open_after s.watch here; rows = rows_with s.rows (ended_at s.watch.begun here) }
