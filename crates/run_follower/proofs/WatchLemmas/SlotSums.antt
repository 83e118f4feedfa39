-- What a slot counter comes to, and that it is what is told of the slots.
use Rattle.std.proofs.Common.{◌≡◌, ℕ, zero, suc, ◌+◌, ◌*◌, ◌<◌, ◌≤◌, nat_eq, Bool, true, false, cond, List, [], ◌∷◌, ◌++◌, length, filter, set, replicate, Option, Some, None, refl, sym, ap, ap₂, ◌∙◌, arith}
use Rattle.std.specs.Prelude.{slice_get}
use Rattle.std.specs.Option.{option_to_list}
use Rattle.std.proofs.lemmas.Bool.{cond-true, cond-false, and_parts, and_from, and_right, eq-eqb, ne_eqb, eqb-true, false_from_ne_true}
use Rattle.std.proofs.lemmas.List.Sums.{sum_by-cons}
use Rattle.run_follower.specs.declared.here.Here.{Here}
use Rattle.run_follower.specs.Following.{followed}
use Rattle.run_follower.specs.declared.watch.activation.Begun.{Begun}
use Rattle.run_follower.specs.declared.watch.activation.Activation.{Activation}
use Rattle.run_follower.specs.declared.watch.slots.Slots.{Slots}
use Rattle.run_follower.specs.Watch.Watched.{cycles_of, activations_from, is_slot, is_of_slot, is_late, idle_of, plus, one_slot, slots_from}
use Rattle.run_follower.specs.Watch.Opened.{ended_at}
use Rattle.run_follower.specs.Watch.Counting.{no_slots, count_limit, sum_limit, SlotCount, capped_slots, one_use, length_from, slots_by, slots_more, slots_with, slots_after}
use Rattle.run_follower.specs.Watch.Promises.{begins_below, SlotsAreTold}
use Rattle.run_follower.proofs.WatchLemmas.Combined.{adding, combined, combined-filter}
use Rattle.run_follower.proofs.WatchLemmas.Endings.{held_at, endings, IsEmpty, first_held, first_ended, first_length, combined-all}

pub same_slots : (a b c d e f : ℕ) → a ≡ d → b ≡ e → c ≡ f → (let s : Slots = record { ended = a; late = b; idle = c } in s) ≡ record { ended = d; late = e; idle = f }
same_slots a b c d e f h k l =
    ap₂ (λ (a b : ℕ). let s : Slots = record { ended = a; late = b; idle = c } in s) h k ∙ ap (λ (c : ℕ). let s : Slots = record { ended = d; late = e; idle = c } in s) l

abbrev no_slot : Slots
no_slot = record { ended = 0; late = 0; idle = 0 }

-- ---- one activation after another

-- what one activation adds
abbrev pub gain_of : (cycles : ℕ) → Option ℕ → Slots
gain_of n None = no_slot
gain_of n (Some l) = one_use l n

abbrev pub gain : (executive slot : ℕ) → (lengths : List ℕ) → Activation → Slots
gain main k ls x = gain_of (cycles_of x) (length_from main k ls x.begun)

abbrev pub tally : (executive : ℕ) → (lengths : List ℕ) → Slots → List Activation → Slots
tally main ls s [] = s
tally main ls s (x ∷ xs) = tally main ls (slots_more main ls s x) xs

abbrev state : (executive : ℕ) → (lengths : List ℕ) → Here → List (Option Begun) → Slots → SlotCount
state main ls a held s = record { watch = record { last = Some a; begun = held }; executive = main; lengths = ls; slots = s }

step_case : (main : ℕ) (ls : List ℕ) (s : SlotCount) (xs : List Activation) (o : Option Activation) → s.executive ≡ main → s.lengths ≡ ls
    → tally main ls (slots_with s o) xs ≡ tally main ls s.slots (option_to_list o ++ xs)
step_case main ls s xs None e k = refl
step_case main ls s xs (Some x) e k =
    ap₂ (λ (m : ℕ) (ks : List ℕ). tally main ls (slots_more m ks s.slots x) xs) e k

pub followed_is : (main : ℕ) (ls : List ℕ) (a : Here) (held : List (Option Begun)) (s : Slots) (later : List Here)
    → (followed slots_after (state main ls a held s) later).slots ≡ tally main ls s (endings a held later)
followed_is main ls a held s [] = refl
followed_is main ls a held s (b ∷ later) =
    followed_is main ls b (held_at a b held) (slots_with (state main ls a held s) (ended_at held b)) later
    ∙ step_case main ls (state main ls a held s) (endings b (held_at a b held) later) (ended_at held b) refl refl

-- ---- the sum of what they add

pub record IsCapped (s : Slots) : Type 0 where
  pub ended : s.ended ≤ count_limit
  pub late : s.late ≤ count_limit
  pub idle : s.idle ≤ sum_limit

pub capped_is : (s : Slots) → IsCapped s → capped_slots s ≡ s
capped_is s h =
    let e = h.ended in
    let l = h.late in
    let i = h.idle in
    same_slots _ _ _ s.ended s.late s.idle (omega arith) (omega arith) (omega arith)

capped : (s : Slots) → IsCapped (capped_slots s)
capped s = record { ended = omega arith; late = omega arith; idle = omega arith }

more_is : (s : Slots) (n : ℕ) (o : Option ℕ) → IsCapped s → slots_by s n o ≡ capped_slots (plus s (gain_of n o))
more_is s n None h =
    let e = h.ended in
    let l = h.late in
    let i = h.idle in
    same_slots s.ended s.late s.idle _ _ _ (omega arith) (omega arith) (omega arith)
more_is s n (Some l) h = refl

capped_twice : (s t u : Slots) → capped_slots (plus (capped_slots (plus s t)) u) ≡ capped_slots (plus s (plus t u))
capped_twice s t u = same_slots _ _ _ _ _ _ (omega arith) (omega arith) (omega arith)

abbrev pub total : (executive : ℕ) → (lengths : List ℕ) → List Activation → Slots
total main ls [] = no_slot
total main ls (x ∷ xs) = plus (gain main 0 ls x) (total main ls xs)

pub tally_is : (main : ℕ) (ls : List ℕ) (s : Slots) (xs : List Activation) → IsCapped s → tally main ls s xs ≡ capped_slots (plus s (total main ls xs))
tally_is main ls s [] h =
    let e = h.ended in
    let l = h.late in
    let i = h.idle in
    same_slots s.ended s.late s.idle _ _ _ (omega arith) (omega arith) (omega arith)
tally_is main ls s (x ∷ xs) h =
    let more : slots_more main ls s x ≡ capped_slots (plus s (gain main 0 ls x)) = more_is s (cycles_of x) (length_from main 0 ls x.begun) h in
    ap (λ (s : Slots). tally main ls s xs) more
    ∙ tally_is main ls (capped_slots (plus s (gain main 0 ls x))) xs (capped (plus s (gain main 0 ls x)))
    ∙ capped_twice s (gain main 0 ls x) (total main ls xs)

-- ---- by numbers

abbrev pub ended_by_one : (executive : ℕ) → (lengths : List ℕ) → Activation → ℕ
ended_by_one main ls x = (gain main 0 ls x).ended

abbrev pub late_by_one : (executive : ℕ) → (lengths : List ℕ) → Activation → ℕ
late_by_one main ls x = (gain main 0 ls x).late

abbrev pub idle_by_one : (executive : ℕ) → (lengths : List ℕ) → Activation → ℕ
idle_by_one main ls x = (gain main 0 ls x).idle

abbrev pub summed : (executive : ℕ) → (lengths : List ℕ) → List Activation → Slots
summed main ls xs = record {
  ended = combined (λ a b. a + b) (ended_by_one main ls) xs;
  late = combined (λ a b. a + b) (late_by_one main ls) xs;
  idle = combined (λ a b. a + b) (idle_by_one main ls) xs;
}

pub total_is : (main : ℕ) (ls : List ℕ) (xs : List Activation) → total main ls xs ≡ summed main ls xs
total_is main ls [] = refl
total_is main ls (x ∷ xs) = ap (plus (gain main 0 ls x)) (total_is main ls xs)

pub summed-endings : (main : ℕ) (ls : List ℕ) (places : ℕ) (a : Here) (held : List (Option Begun)) (later : List Here) → length held ≡ places → IsEmpty held
    → summed main ls (endings a held later) ≡ summed main ls (filter (begins_below places) (activations_from a later))
summed-endings main ls places a held later long empty =
    same_slots _ _ _ _ _ _ (each (ended_by_one main ls)) (each (late_by_one main ls)) (each (idle_by_one main ls))
  where
    each : (f : Activation → ℕ) → combined (λ a b. a + b) f (endings a held later) ≡ combined (λ a b. a + b) f (filter (begins_below places) (activations_from a later))
    each f = combined-all adding f places a held later long empty ∙ sym (combined-filter adding (begins_below places) f (activations_from a later))

-- ---- slot by slot

slots_none : (main k : ℕ) (ls : List ℕ) → slots_from main k ls [] ≡ no_slot
slots_none main k [] = refl
slots_none main k (l ∷ ls) = ap (plus (one_slot l [])) (slots_none main (k + 1) ls)

-- an activation of the slot before the first
slots_past : (main j k : ℕ) (ls : List ℕ) (x : Activation) (xs : List Activation) → is_of_slot main j x ≡ true → j < k → slots_from main k ls (x ∷ xs) ≡ slots_from main k ls xs
slots_past main j k [] x xs at lt = refl
slots_past main j k (l ∷ ls) x xs at lt =
    let place : x.begun.pc ≡ 9 + 3 * j = eqb-true x.begun.pc (9 + 3 * j) (and_parts (nat_eq x.begun.method main) (nat_eq x.begun.pc (9 + 3 * j)) at).1 in
    let other : is_of_slot main k x ≡ false = and_right (nat_eq x.begun.method main) (nat_eq x.begun.pc (9 + 3 * k)) (ne_eqb x.begun.pc (9 + 3 * k) (λ same. omega arith)) in
    ap₂ plus (ap (one_slot l) (cond-false (is_of_slot main k x) (x ∷ filter (is_of_slot main k) xs) (filter (is_of_slot main k) xs) other)) (slots_past main j (k + 1) ls x xs at (omega arith))

late_case : (l : ℕ) (x : Activation) (xs : List Activation) (late : Bool) → length (cond late (x ∷ filter (is_late l) xs) (filter (is_late l) xs)) ≡ cond late 1 0 + length (filter (is_late l) xs)
late_case l x xs true = omega arith
late_case l x xs false = omega arith

one_more : (l : ℕ) (x : Activation) (xs : List Activation) → one_slot l (x ∷ xs) ≡ plus (one_use l (cycles_of x)) (one_slot l xs)
one_more l x xs = same_slots _ _ _ _ _ _ (omega arith) (late_case l x xs (is_late l x)) (sum_by-cons (idle_of l) x xs)

plus_assoc : (s t u : Slots) → plus (plus s t) u ≡ plus s (plus t u)
plus_assoc s t u = same_slots _ _ _ _ _ _ (omega arith) (omega arith) (omega arith)

plus_swap : (s t u : Slots) → plus s (plus t u) ≡ plus t (plus s u)
plus_swap s t u = same_slots _ _ _ _ _ _ (omega arith) (omega arith) (omega arith)

head_case : (main k l : ℕ) (ls : List ℕ) (x : Activation) (xs : List Activation) (at : Bool) → is_of_slot main k x ≡ at → slots_from main (k + 1) ls (x ∷ xs) ≡ plus (gain main (k + 1) ls x) (slots_from main (k + 1) ls xs)
    → plus (one_slot l (cond at (x ∷ filter (is_of_slot main k) xs) (filter (is_of_slot main k) xs))) (slots_from main (k + 1) ls (x ∷ xs))
    ≡ plus (gain_of (cycles_of x) (cond at (Some l) (length_from main (k + 1) ls x.begun))) (slots_from main k (l ∷ ls) xs)
head_case main k l ls x xs true at later =
    ap₂ plus (one_more l x (filter (is_of_slot main k) xs)) (slots_past main k (k + 1) ls x xs at (omega arith))
    ∙ plus_assoc (one_use l (cycles_of x)) (one_slot l (filter (is_of_slot main k) xs)) (slots_from main (k + 1) ls xs)
head_case main k l ls x xs false at later =
    ap (plus (one_slot l (filter (is_of_slot main k) xs))) later
    ∙ plus_swap (one_slot l (filter (is_of_slot main k) xs)) (gain main (k + 1) ls x) (slots_from main (k + 1) ls xs)

slots_more_is : (main k : ℕ) (ls : List ℕ) (x : Activation) (xs : List Activation) → slots_from main k ls (x ∷ xs) ≡ plus (gain main k ls x) (slots_from main k ls xs)
slots_more_is main k [] x xs = refl
slots_more_is main k (l ∷ ls) x xs = head_case main k l ls x xs (is_of_slot main k x) refl (slots_more_is main (k + 1) ls x xs)

pub total_of_slots : (main : ℕ) (ls : List ℕ) (xs : List Activation) → total main ls xs ≡ slots_from main 0 ls xs
total_of_slots main ls [] = sym (slots_none main 0 ls)
total_of_slots main ls (x ∷ xs) = ap (plus (gain main 0 ls x)) (total_of_slots main ls xs) ∙ sym (slots_more_is main 0 ls x xs)

-- ---- the slot that is called at a boundary

no_length_from : (main k : ℕ) (ls : List ℕ) (a : Here) → ((j : ℕ) → is_slot main j a ≡ false) → length_from main k ls a ≡ None
no_length_from main k [] a h = refl
no_length_from main k (l ∷ ls) a h = cond-false (is_slot main k a) (Some l) (length_from main (k + 1) ls a) (h k) ∙ no_length_from main (k + 1) ls a h

pub no_length : (main : ℕ) (ls : List ℕ) (a : Here) → ((j : ℕ) → a.method ≡ main → a.pc ≡ 9 + 3 * j → ⊥) → None ≡ length_from main 0 ls a
no_length main ls a h =
    sym (
    no_length_from main 0 ls a (λ j.
    false_from_ne_true (is_slot main j a) (λ at.
    let both = and_parts (nat_eq a.method main) (nat_eq a.pc (9 + 3 * j)) at in
    h j (eqb-true a.method main both.0) (eqb-true a.pc (9 + 3 * j) both.1)
    )
    )
    )

pub length_is : (main k j : ℕ) (ls : List ℕ) (a : Here) → a.method ≡ main → a.pc ≡ 9 + 3 * (k + j) → length_from main k ls a ≡ slice_get ls j
length_is main k j [] a m p = refl
length_is main k zero (l ∷ ls) a m p = cond-true (is_slot main k a) (Some l) (length_from main (k + 1) ls a) (and_from _ _ (eq-eqb a.method main m) (eq-eqb a.pc (9 + 3 * k) (omega arith)))
length_is main k (suc j) (l ∷ ls) a m p =
    cond-false (is_slot main k a) (Some l) (length_from main (k + 1) ls a) (and_right _ _ (ne_eqb a.pc (9 + 3 * k) (λ same. omega arith)))
    ∙ length_is main (k + 1) j ls a m (omega arith)

-- ---- all of it

pub slots_told : SlotsAreTold
slots_told main frames ls [] = ap capped_slots (sym (slots_none main 0 ls))
slots_told main frames ls (a ∷ later) =
    let held : List (Option Begun) = set (replicate frames None) a.frames None in
    let among : List Activation = filter (begins_below frames) (activations_from a later) in
    let start : slots_with (no_slots main ls frames) (ended_at (replicate frames None) a) ≡ no_slot = ap (slots_with (no_slots main ls frames)) (first_ended frames a) in
    let sum : total main ls (endings a held later) ≡ slots_from main 0 ls among =
    total_is main ls (endings a held later)
    ∙ summed-endings main ls frames a held later (first_length frames a) (first_held frames a)
    ∙ sym (total_is main ls among)
    ∙ total_of_slots main ls among in
    followed_is main ls a held (slots_with (no_slots main ls frames) (ended_at (replicate frames None) a)) later
    ∙ ap (λ (s : Slots). tally main ls s (endings a held later)) start
    ∙ tally_is main ls no_slot (endings a held later) record { ended = omega arith; late = omega arith; idle = omega arith }
    ∙ ap (λ (s : Slots). capped_slots (plus no_slot s)) sum
    ∙ ap capped_slots (from_none (slots_from main 0 ls among))
  where
    from_none : (s : Slots) → plus no_slot s ≡ s
    from_none s = same_slots _ _ _ s.ended s.late s.idle (omega arith) (omega arith) (omega arith)
