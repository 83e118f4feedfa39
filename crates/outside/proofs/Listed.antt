-- What taking a number off the list of failing calls leaves, and what a failed call does to the counts of the words.
use Rattle.std.proofs.Common.{◌≡◌, ◌≢◌, ℕ, ◌+◌, ◌-◌, ◌<◌, ◌≤◌, ◌==◌, List, [], ◌∷◌, ◌++◌, length, map, drop, get_or, slice_get, slice_set, count_by, is_some, IsErr, min, ◌^◌, Contains, true, false, None, Some, Ok, Err, OnErr, Vec, refl, sym, ap, ◌∙◌, ⊎_elim, subst, arith, length-drop}
use Rattle.std.proofs.lemmas.Bool.{cases_eq}
use Rattle.std.proofs.lemmas.Bool.Decides.{nat_tests}
use Rattle.std.proofs.lemmas.Grind.{get_or_default_zero}
use Rattle.std.proofs.lemmas.List.{get_or-drop, get_or-set_same, get_or-set_other, length-map}
use Rattle.std.proofs.lemmas.List.Sums.{count_by-le-length, sum_by-append}
use Rattle.std.proofs.lemmas.Option.{none-some, slice_get-map, slice_get_cases, slice_get_read}
use Rattle.std.proofs.Math.ListN.{length-set}
use Rattle.std.specs.Option.{option_map}
use Rattle.std.specs.declared.alloc.Global.{Global}
use Rattle.std.specs.declared.option.Option.{Option}
use Rattle.std.specs.declared.result.Result.{Result}
use Rattle.outside.specs.Memory.{SameLaterCalls, entry_bytes, entry_faults, entry_told}
use Rattle.outside.specs.Outside.{Counted, HasCause}

-- an element of the rest of a list, by its place in the whole list
Contains-drop : (xs : List ℕ) (n j k : ℕ) → n ≤ j → j < length xs → get_or xs j k ≡ k → Contains (drop n xs) k
Contains-drop xs n j k from within is =
    (j - n, omega (arith, length-drop n xs), get_or-drop n xs (j - n) k ∙ subst (λ (t : ℕ). get_or xs t k ≡ k) (omega arith) is)

-- a number in the place of the one at `at`, and another one first
abbrev pub replaced : List ℕ → ℕ → ℕ → ℕ → List ℕ
replaced xs first at number = slice_set (slice_set xs at (get_or xs first 0)) first number

length-replaced : (xs : List ℕ) (first at number : ℕ) → length (replaced xs first at number) ≡ length xs
length-replaced xs first at number = length-set (slice_set xs at (get_or xs first 0)) first number ∙ length-set xs at (get_or xs first 0)

-- away from the two places all is as it was
same_elsewhere : (xs : List ℕ) (first at number j d : ℕ) → j ≢ first → j ≢ at → get_or (replaced xs first at number) j d ≡ get_or xs j d
same_elsewhere xs first at number j d away other =
    get_or-set_other (slice_set xs at (get_or xs first 0)) first j number d away ∙ get_or-set_other xs at j (get_or xs first 0) d other

moved_first : (xs : List ℕ) (first at number d : ℕ) → at ≢ first → at < length xs → get_or (replaced xs first at number) at d ≡ get_or xs first 0
moved_first xs first at number d away within =
    get_or-set_other (slice_set xs at (get_or xs first 0)) first at number d away ∙ get_or-set_same xs at (get_or xs first 0) d within

still_there : (xs : List ℕ) (first at number k : ℕ) → first ≤ at → at < length xs → k ≢ get_or xs at 0 → Contains (drop first xs) k → Contains (drop (first + 1) (replaced xs first at number)) k
still_there xs first at number k before within other found =
    let long : length (drop first xs) ≡ length xs - first = length-drop first xs in
    let here : get_or xs (first + found.0) k ≡ k = sym (get_or-drop first xs found.0 k) ∙ found.2 in
    let aside : first + found.0 ≢ at = λ e. other (sym here ∙ subst (λ (t : ℕ). get_or xs t k ≡ get_or xs at 0) (sym e) (get_or_default_zero xs at k within)) in
    ⊎_elim
    (λ (e : first + found.0 ≡ first).
    let away : at ≢ first = λ q. aside (e ∙ sym q) in
    let moved : get_or (replaced xs first at number) at k ≡ k = moved_first xs first at number k away within ∙ sym (get_or_default_zero xs first k (omega arith)) ∙ subst (λ (t : ℕ). get_or xs t k ≡ k) e here in
    Contains-drop (replaced xs first at number) (first + 1) at k (omega arith) (omega (arith, length-replaced xs first at number)) moved)
    (λ (away : first + found.0 ≡ first → ⊥).
    Contains-drop (replaced xs first at number) (first + 1) (first + found.0) k (omega arith) (omega (arith, length-replaced xs first at number)) (same_elsewhere xs first at number (first + found.0) k away aside ∙ here))
    (cases_eq (first + found.0) first)

was_there : (xs : List ℕ) (first at number k : ℕ) → first ≤ at → at < length xs → k ≢ get_or xs at 0 → Contains (drop (first + 1) (replaced xs first at number)) k → Contains (drop first xs) k
was_there xs first at number k before within other found =
    let long : length (drop (first + 1) (replaced xs first at number)) ≡ length (replaced xs first at number) - (first + 1) = length-drop (first + 1) (replaced xs first at number) in
    let same : length (replaced xs first at number) ≡ length xs = length-replaced xs first at number in
    let here : get_or (replaced xs first at number) (first + 1 + found.0) k ≡ k = sym (get_or-drop (first + 1) (replaced xs first at number) found.0 k) ∙ found.2 in
    let away : first + 1 + found.0 ≢ first = λ e. absurd (omega arith) in
    ⊎_elim
    (λ (e : first + 1 + found.0 ≡ at).
    let moved : get_or xs first 0 ≡ k = sym (moved_first xs first at number k (λ q. away (e ∙ q)) within) ∙ subst (λ (t : ℕ). get_or (replaced xs first at number) t k ≡ k) e here in
    Contains-drop xs first first k (omega arith) (omega arith) (get_or_default_zero xs first k (omega arith) ∙ moved))
    (λ (aside : first + 1 + found.0 ≡ at → ⊥).
    Contains-drop xs first (first + 1 + found.0) k (omega arith) (omega arith) (sym (same_elsewhere xs first at number (first + 1 + found.0) k away aside) ∙ here))
    (cases_eq (first + 1 + found.0) at)

pub SameLaterCalls-replaced : (xs : List ℕ) (first at number : ℕ) → first ≤ at → at < length xs → SameLaterCalls (get_or xs at 0) (drop first xs) (drop (first + 1) (replaced xs first at number))
SameLaterCalls-replaced xs first at number before within = record {
  stay = λ k other. (was_there xs first at number k before within other, still_there xs first at number k before within other);
}

-- the place of a word after a failed call on it
count-push : (word : ℕ) (failed : List ℕ) → count_by (λ k. k == word) (failed ++ word ∷ []) ≡ count_by (λ k. k == word) failed + 1
count-push word failed = grind (arith, sum_by-append, nat_tests)

on_any : {T E P : Type 0} (result : Result T E) → P → OnErr result P
on_any (Ok x) p = tt
on_any (Err e) p = p

raised : {T E : Type 0} (entry : Option (List ℕ)) (calls : ℕ) (result : Result T E) → HasCause (entry_faults (Some entry) calls) (entry_faults (Some entry) (calls + 1)) result
raised None calls result = record { later = omega arith; failed = on_any result (omega arith) }
raised (Some bytes) calls result = record { later = omega arith; failed = on_any result (omega arith) }

-- A call that failed by its number raised the count of its word, or the count stood at its end.
pub HasCause-listed : {T E : Type 0} (entries : List (Option (List ℕ))) (word : ℕ) (old new : List ℕ) (result : Result T E) → word < length entries → new ≡ old ++ word ∷ []
    → HasCause (entry_faults (slice_get entries word) (count_by (λ k. k == word) old)) (entry_faults (slice_get entries word) (count_by (λ k. k == word) new)) result
HasCause-listed entries word old new result there is =
    let more : count_by (λ k. k == word) new ≡ count_by (λ k. k == word) old + 1 = rw is (count-push word old) in
    ⊎_elim
    (λ found. rw (found.2, more) (raised found.0 (count_by (λ k. k == word) old) result))
    (λ past. absurd (omega (arith, past.0)))
    (slice_get_cases entries word).1

-- A call that failed by its number is one more of its word.
counted : {T E : Type 0} (entry : Option (List ℕ)) (calls : ℕ) (result : Result T E) → IsErr result → calls + 1 < 2 ^ 64 → Counted result (entry_faults (Some entry) calls) (entry_faults (Some entry) (calls + 1))
counted entry calls (Ok x) failed fits = cc
counted None calls (Err e) failed fits = omega arith
counted (Some bytes) calls (Err e) failed fits = omega arith

pub Counted-listed : {T E : Type 0} (entries : List (Option (List ℕ))) (word : ℕ) (old new : List ℕ) (result : Result T E) → word < length entries → IsErr result → new ≡ old ++ word ∷ [] → length new < 2 ^ 64
    → Counted result (entry_faults (slice_get entries word) (count_by (λ k. k == word) old)) (entry_faults (slice_get entries word) (count_by (λ k. k == word) new))
Counted-listed entries word old new result there failed is fits =
    let more : count_by (λ k. k == word) new ≡ count_by (λ k. k == word) old + 1 = rw is (count-push word old) in
    let few : count_by (λ k. k == word) new ≤ length new = count_by-le-length (λ k. k == word) new in
    ⊎_elim
    (λ found. rw (found.2, more) (counted found.0 (count_by (λ k. k == word) old) result failed (omega arith)))
    (λ past. absurd (omega (arith, past.0)))
    (slice_get_cases entries word).1

-- The count of a word whose entry has no bytes stands at its end.
pub counted-no_bytes : (entry : Option (Option (List ℕ))) (old new : ℕ) → entry ≡ Some None → entry_faults entry new ≡ min (entry_faults entry old + 1) (2 ^ 64 - 1)
counted-no_bytes entry old new is = rw is refl

-- The count of a word whose entry has no bytes counts as risen at each call.
pub HasCause-no_bytes : {T E : Type 0} (entry : Option (Option (List ℕ))) (old new : ℕ) (result : Result T E) → entry ≡ Some None → HasCause (entry_faults entry old) (entry_faults entry new) result
HasCause-no_bytes entry old new result is = rw is (record { later = omega arith; failed = on_any result (omega arith) })

-- what is seen of an entry
seen : (entries : List (Option (Vec ℕ Global))) (word : ℕ) (entry : Option (Vec ℕ Global)) → word < length (map entry_bytes entries) → entry ≡ get_or entries word entry
    → slice_get (map entry_bytes entries) word ≡ Some (entry_bytes entry)
seen entries word entry there is = slice_get-map entry_bytes entries word ∙ ap (option_map entry_bytes) (slice_get_read entries (length entries) word entry refl (omega (arith, length-map entries entry_bytes)) is)

pub without_bytes : (entries : List (Option (Vec ℕ Global))) (word : ℕ) (entry : Option (Vec ℕ Global)) → word < length (map entry_bytes entries) → entry ≡ get_or entries word entry → is_some entry ≡ false
    → slice_get (map entry_bytes entries) word ≡ Some None
without_bytes entries word None there is none = seen entries word None there is
without_bytes entries word (Some bytes) there is none = cc

pub with_bytes : (entries : List (Option (Vec ℕ Global))) (word : ℕ) (entry : Option (Vec ℕ Global)) → word < length (map entry_bytes entries) → entry ≡ get_or entries word entry → is_some entry ≡ true
    → entry_told (slice_get (map entry_bytes entries) word) ≢ None
with_bytes entries word None there is some = cc
with_bytes entries word (Some bytes) there is some = λ e. none-some bytes.items (sym e ∙ ap entry_told (seen entries word (Some bytes) there is))
