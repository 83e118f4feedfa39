-- Lists of methods of the table, each once, and what their calls may run.
use Rattle.std.proofs.Common.{◌≡◌, ◌≢◌, ◌⊎◌, ℕ, ◌+◌, ◌<◌, List, [], ◌∷◌, ◌++◌, length, get_or, take, drop, All, Contains, Option, Some, None, MatchOption, refl, sym, ap, ◌∙◌, subst, arith}
use Rattle.std.specs.Prelude.{slice_get}
use Rattle.std.proofs.lemmas.List.{length-append, length-take, get_or_append_left, get_or_push, get_or_default, get_or-take, take-append-drop, take_more}
use Rattle.std.proofs.lemmas.List.Elements.{All-contains, Contains-push, Contains-push_cases, Contains-append_left}
use Rattle.std.proofs.lemmas.List.Quantifiers.{all_pairs_push}
use Rattle.std.proofs.lemmas.Option.{slice_get-get_or, slice_get_within, get_or_from_slice_get}
use Rattle.lists.proofs.Lemmas.{some_same}
use Rattle.method_cache.specs.Regions.Region.{AreDistinct}
use Rattle.method_flow.specs.Flow.{Flow, Coded}
use Rattle.method_flow.specs.declared.flow.Call.{Call}
use Rattle.call_regions.specs.Tables.{IsOfTable, IsTargetOf, HasCalls, Runs}

-- ---- what was answered

pub match_some : {T : Type 0} (o : Option T) (x : T) (A : Type 0) (B : T → Type 0) → o ≡ Some x → MatchOption o A B → B x
match_some {T} o x A B is h = let P : Option T → Type 0 = λ r. MatchOption r A B in subst P is h

pub match_none : {T : Type 0} (o : Option T) (A : Type 0) (B : T → Type 0) → o ≡ None → MatchOption o A B → A
match_none {T} o A B is h = let P : Option T → Type 0 = λ r. MatchOption r A B in subst P is h

-- ---- lists

pub All-front : {X : Type 0} (P : X → Type 0) (xs ys : List X) → All P (xs ++ ys) → All P xs
All-front P xs ys all k d lt = subst P (get_or_append_left xs ys d k lt) (all k d (omega (arith, length-append xs ys)))

pub All-last : {X : Type 0} (P : X → Type 0) (xs : List X) (x : X) → All P (xs ++ x ∷ []) → P x
All-last P xs x all = All-contains P (xs ++ x ∷ []) x all (Contains-push xs x)

pub distinct_none : AreDistinct []
distinct_none i j d less below = absurd (omega arith)

pub distinct_push : (xs : List ℕ) (x : ℕ) → AreDistinct xs → (Contains xs x → ⊥) → AreDistinct (xs ++ x ∷ [])
distinct_push xs x apart new' = all_pairs_push (λ a b. a ≢ b) xs x apart (λ k d lt same. new' (k, lt, get_or_default xs k x d lt ∙ same))

pub distinct_front : (xs : List ℕ) (x : ℕ) → AreDistinct (xs ++ x ∷ []) → AreDistinct xs
distinct_front xs x apart i j d less below same =
    apart i j d less (omega (arith, length-append xs (x ∷ [])))
    (get_or_append_left xs (x ∷ []) d i (omega arith) ∙ same ∙ sym (get_or_append_left xs (x ∷ []) d j below))

pub distinct_last : (xs : List ℕ) (x : ℕ) → AreDistinct (xs ++ x ∷ []) → Contains xs x → ⊥
distinct_last xs x apart c =
    let lt = c.1 in
    apart c.0 (length xs) x lt (omega (arith, length-append xs (x ∷ [])))
    (get_or_append_left xs (x ∷ []) x c.0 lt ∙ c.2 ∙ sym (get_or_push xs x x (length xs) refl))

pub take_cases : {X : Type 0} (xs : List X) (i : ℕ) (d x : X) → i < length xs → Contains (take (i + 1) xs) x → Contains (take i xs) x ⊎ (get_or xs i d ≡ x)
take_cases {X} xs i d x lt c =
    let P : List X → Type 0 = λ ys. Contains ys x in
    Contains-push_cases (take i xs) (get_or xs i d) x (subst P (take_more xs i d lt) c)

-- the item at a place
pub from_get : {X : Type 0} (xs : List X) (i : ℕ) (x : X) → slice_get xs i ≡ Some x → Contains xs x
from_get xs i x at = (i, slice_get_within xs i x at, get_or_from_slice_get xs i x x at)

pub get_contained : {X : Type 0} (xs : List X) (x : X) → Contains xs x → (i : ℕ) × (slice_get xs i ≡ Some x)
get_contained xs x c = (c.0, slice_get-get_or xs c.0 x c.1 ∙ ap Some c.2)

pub from_take : {X : Type 0} (n : ℕ) (xs : List X) (x : X) → Contains (take n xs) x → Contains xs x
from_take n xs x c =
    let P : List _ → Type 0 = λ ys. Contains ys x in
    subst P (take-append-drop n xs) (Contains-append_left (take n xs) (drop n xs) x c)

pub from_taken : {X : Type 0} (n : ℕ) (xs : List X) (x : X) → Contains (take n xs) x → (j : ℕ) × (j < n) × (slice_get xs j ≡ Some x)
from_taken n xs x c =
    let short = length-take n xs in
    let lt = c.1 in
    let below : c.0 < n = omega arith in
    let within : c.0 < length xs = omega arith in (c.0, below, slice_get-get_or xs c.0 x within ∙ ap Some (sym (get_or-take n xs c.0 x below) ∙ c.2))

-- ---- calls

-- a method runs just the targets of its calls
pub runs_one : (f : Flow) (y t : ℕ) (k : Coded) → slice_get f.methods y ≡ Some k → Runs f y t → IsTargetOf f k.calls t
runs_one f y t k is r =
    let same : r.from.code.method ≡ k = some_same r.from.code.method k (sym r.from.code.is ∙ is) in
    let P : Coded → Type 0 = λ j. Contains j.calls r.from.call in
    record { call = r.from.call; among = subst P same r.from.among; lists = r.from.lists }

pub target_runs : (f : Flow) (y t : ℕ) (calls : List Call) → HasCalls f y calls → IsTargetOf f calls t → Runs f y t
target_runs f y t calls has target =
    let C : List Call → Type 0 = λ ks. Contains ks target.call in
    record { place = target.call.place; from = record { code = has.code; call = target.call; among = subst C has.are target.among; at = refl; lists = target.lists } }

pub runs_target : (f : Flow) (y t : ℕ) (calls : List Call) → HasCalls f y calls → Runs f y t → IsTargetOf f calls t
runs_target f y t calls has runs =
    let T : List Call → Type 0 = λ ks. IsTargetOf f ks t in
    subst T (sym has.are) (runs_one f y t has.code.method has.code.is runs)
