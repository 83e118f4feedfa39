-- What the totals of methods come to, and that each row is the method's profile.
use Rattle.std.proofs.Common.{◌≡◌, ℕ, ◌+◌, ◌<◌, ◌≤◌, max, nat_lt, Bool, true, false, cond, List, [], ◌∷◌, ◌++◌, length, map, filter, get_or, set, replicate, Option, Some, None, refl, sym, ap, ap₂, ◌∙◌, subst, inl, inr, arith}
use Rattle.std.specs.Prelude.{slice_get}
use Rattle.std.specs.Option.{option_to_list}
use Rattle.std.proofs.lemmas.Bool.{cond-true, cond-false, cases_lt, lt-ltb, le-ltb, eqb-true, eqb-false}
use Rattle.std.proofs.lemmas.List.{length-set, length-replicate, get_or-replicate, get_or-set_same, get_or-set_other}
use Rattle.std.proofs.lemmas.List.Sums.{sum_by-cons}
use Rattle.std.proofs.lemmas.Option.{slice_get-get_or}
use Rattle.run_follower.specs.declared.here.Here.{Here}
use Rattle.run_follower.specs.Following.{followed}
use Rattle.run_follower.specs.declared.watch.activation.Begun.{Begun}
use Rattle.run_follower.specs.declared.watch.activation.Activation.{Activation}
use Rattle.run_follower.specs.declared.watch.profile.Profile.{Profile}
use Rattle.run_follower.specs.Watch.Watched.{cycles_of, misses_of, activations_from, greatest, is_of_method, of_method, profile_of}
use Rattle.run_follower.specs.Watch.Opened.{ended_at}
use Rattle.run_follower.specs.Watch.Counting.{count_limit, sum_limit, Totals, no_profile, no_totals, capped_profile, joined, joined_capped, one_activation, rows_more, rows_with, totals_after}
use Rattle.run_follower.specs.Watch.Promises.{begins_below, EachHasARow, ProfilesAreTold}
use Rattle.run_follower.proofs.WatchLemmas.Combined.{adding, greatest_of, IsCombining, combined, combined-filter}
use Rattle.run_follower.proofs.WatchLemmas.Endings.{held_at, endings, IsEmpty, first_held, first_ended, first_length, combined-all}

pub same_profiles : (a b c d a' b' c' d' : ℕ) → a ≡ a' → b ≡ b' → c ≡ c' → d ≡ d'
    → (let p : Profile = record { count = a; most = b; total = c; misses = d } in p) ≡ record { count = a'; most = b'; total = c'; misses = d' }
same_profiles a b c d a' b' c' d' h k l m =
    ap₂ (λ (a b : ℕ). let p : Profile = record { count = a; most = b; total = c; misses = d } in p) h k
    ∙ ap₂ (λ (c d : ℕ). let p : Profile = record { count = a'; most = b'; total = c; misses = d } in p) l m

-- ---- one activation after another

abbrev pub rows_by : List Profile → List Activation → List Profile
rows_by rows [] = rows
rows_by rows (x ∷ xs) = rows_by (rows_more rows x) xs

abbrev state : Here → List (Option Begun) → List Profile → Totals
state a held rows = record { watch = record { last = Some a; begun = held }; rows = rows }

step_case : (rows : List Profile) (xs : List Activation) (o : Option Activation) → rows_by (rows_with rows o) xs ≡ rows_by rows (option_to_list o ++ xs)
step_case rows xs None = refl
step_case rows xs (Some x) = refl

pub followed_rows : (a : Here) (held : List (Option Begun)) (rows : List Profile) (later : List Here) → (followed totals_after (state a held rows) later).rows ≡ rows_by rows (endings a held later)
followed_rows a held rows [] = refl
followed_rows a held rows (b ∷ later) =
    followed_rows b (held_at a b held) (rows_with rows (ended_at held b)) later
    ∙ step_case rows (endings b (held_at a b held) later) (ended_at held b)

length-rows_by : (rows : List Profile) (xs : List Activation) → length (rows_by rows xs) ≡ length rows
length-rows_by rows [] = refl
length-rows_by rows (x ∷ xs) = length-rows_by (rows_more rows x) xs ∙ length-set rows x.method (joined_capped (get_or rows x.method no_profile) (one_activation x))

-- ---- the row of a method

pub record IsCapped (p : Profile) : Type 0 where
  pub count : p.count ≤ count_limit
  pub total : p.total ≤ sum_limit
  pub misses : p.misses ≤ sum_limit

-- what one activation adds to the row
abbrev pub gain : (method : ℕ) → Activation → Profile
gain m x = cond (is_of_method m x) (one_activation x) no_profile

abbrev pub total_row : (method : ℕ) → List Activation → Profile
total_row m [] = no_profile
total_row m (x ∷ xs) = joined (gain m x) (total_row m xs)

capped : (p : Profile) → IsCapped (capped_profile p)
capped p = record { count = omega arith; total = omega arith; misses = omega arith }

pub joined_nothing : (p : Profile) → IsCapped p → p ≡ capped_profile (joined p no_profile)
joined_nothing p h =
    let c = h.count in
    let t = h.total in
    let m = h.misses in
    same_profiles p.count p.most p.total p.misses _ _ _ _ (omega arith) (omega arith) (omega arith) (omega arith)

capped_twice : (p q r : Profile) → capped_profile (joined (capped_profile (joined p q)) r) ≡ capped_profile (joined p (joined q r))
capped_twice p q r = same_profiles _ _ _ _ _ _ _ _ (omega arith) (omega arith) (omega arith) (omega arith)

row_case : (m : ℕ) (rows : List Profile) (x : Activation) (same : Bool) → is_of_method m x ≡ same → m < length rows → IsCapped (get_or rows m no_profile)
    → get_or (rows_more rows x) m no_profile ≡ capped_profile (joined (get_or rows m no_profile) (cond same (one_activation x) no_profile))
row_case m rows x true same lt h =
    let e : x.method ≡ m = eqb-true x.method m same in
    ap (λ (k : ℕ). get_or (set rows k (joined_capped (get_or rows k no_profile) (one_activation x))) m no_profile) e
    ∙ get_or-set_same rows m (joined_capped (get_or rows m no_profile) (one_activation x)) no_profile lt
row_case m rows x false same lt h =
    let ne = eqb-false x.method m same in
    get_or-set_other rows x.method m (joined_capped (get_or rows x.method no_profile) (one_activation x)) no_profile (λ e. ne (sym e))
    ∙ joined_nothing (get_or rows m no_profile) h

pub row_is : (m : ℕ) (rows : List Profile) (xs : List Activation) → m < length rows → IsCapped (get_or rows m no_profile)
    → get_or (rows_by rows xs) m no_profile ≡ capped_profile (joined (get_or rows m no_profile) (total_row m xs))
row_is m rows [] lt h = joined_nothing (get_or rows m no_profile) h
row_is m rows (x ∷ xs) lt h =
    let more : get_or (rows_more rows x) m no_profile ≡ capped_profile (joined (get_or rows m no_profile) (gain m x)) = row_case m rows x (is_of_method m x) refl lt h in
    let long = length-set rows x.method (joined_capped (get_or rows x.method no_profile) (one_activation x)) in
    row_is m (rows_more rows x) xs (omega (arith, long, lt)) (subst IsCapped (sym more) (capped (joined (get_or rows m no_profile) (gain m x))))
    ∙ ap (λ (p : Profile). capped_profile (joined p (total_row m xs))) more
    ∙ capped_twice (get_or rows m no_profile) (gain m x) (total_row m xs)

-- ---- by numbers

abbrev pub summed : (method : ℕ) → List Activation → Profile
summed m xs = record {
  count = combined (λ a b. a + b) (λ x. (gain m x).count) xs;
  most = combined max (λ x. (gain m x).most) xs;
  total = combined (λ a b. a + b) (λ x. (gain m x).total) xs;
  misses = combined (λ a b. a + b) (λ x. (gain m x).misses) xs;
}

pub total_row_is : (m : ℕ) (xs : List Activation) → total_row m xs ≡ summed m xs
total_row_is m [] = refl
total_row_is m (x ∷ xs) = ap (joined (gain m x)) (total_row_is m xs)

pub summed-endings : (m places : ℕ) (a : Here) (held : List (Option Begun)) (later : List Here) → length held ≡ places → IsEmpty held
    → summed m (endings a held later) ≡ summed m (filter (begins_below places) (activations_from a later))
summed-endings m places a held later long empty =
    same_profiles _ _ _ _ _ _ _ _ (each adding (λ x. (gain m x).count)) (each greatest_of (λ x. (gain m x).most)) (each adding (λ x. (gain m x).total)) (each adding (λ x. (gain m x).misses))
  where
    each : {op : ℕ → ℕ → ℕ} → IsCombining op → (f : Activation → ℕ) → combined op f (endings a held later) ≡ combined op f (filter (begins_below places) (activations_from a later))
    each h f = combined-all h f places a held later long empty ∙ sym (combined-filter h (begins_below places) f (activations_from a later))

-- ---- the profile

greatest_case : (n m : ℕ) → cond (nat_lt m n) n m ≡ max n m
greatest_case n m =
    elim (cases_lt m n) [
      | inl lt ↦ let e : max n m ≡ n = omega arith in cond-true (nat_lt m n) n m (lt-ltb m n lt) ∙ sym e
      | inr le ↦ let e : max n m ≡ m = omega arith in cond-false (nat_lt m n) n m (le-ltb m n le) ∙ sym e
    ]

one_more : (x : Activation) (xs : List Activation) → profile_of (x ∷ xs) ≡ joined (one_activation x) (profile_of xs)
one_more x xs = same_profiles _ _ _ _ _ _ _ _ (omega arith) (greatest_case (cycles_of x) (greatest (map cycles_of xs))) (sum_by-cons cycles_of x xs) (sum_by-cons misses_of x xs)

pub nothing_joined : (p : Profile) → joined no_profile p ≡ p
nothing_joined p = same_profiles _ _ _ _ p.count p.most p.total p.misses (omega arith) (omega arith) (omega arith) (omega arith)

more_case : (m : ℕ) (x : Activation) (xs : List Activation) (same : Bool) → joined (cond same (one_activation x) no_profile) (profile_of (of_method m xs)) ≡ profile_of (cond same (x ∷ of_method m xs) (of_method m xs))
more_case m x xs true = sym (one_more x (of_method m xs))
more_case m x xs false = nothing_joined (profile_of (of_method m xs))

pub total_of_profile : (m : ℕ) (xs : List Activation) → total_row m xs ≡ profile_of (of_method m xs)
total_of_profile m [] = refl
total_of_profile m (x ∷ xs) = ap (joined (gain m x)) (total_of_profile m xs) ∙ more_case m x xs (is_of_method m x)

-- ---- all of it

no_rows : (methods m : ℕ) → m < methods → get_or (replicate methods no_profile) m no_profile ≡ no_profile
no_rows methods m lt = get_or-replicate methods m no_profile no_profile lt

nothing_capped : IsCapped no_profile
nothing_capped = record { count = omega arith; total = omega arith; misses = omega arith }

run_of : (methods frames : ℕ) (a : Here) (later : List Here) (m : ℕ) → m < methods
    → get_or (rows_by (replicate methods no_profile) (endings a (set (replicate frames None) a.frames None) later)) m no_profile
    ≡ capped_profile (profile_of (of_method m (filter (begins_below frames) (activations_from a later))))
run_of methods frames a later m lt =
    let held : List (Option Begun) = set (replicate frames None) a.frames None in
    let rows : List Profile = replicate methods no_profile in
    let among : List Activation = filter (begins_below frames) (activations_from a later) in
    let none : get_or rows m no_profile ≡ no_profile = no_rows methods m lt in
    let long : length rows ≡ methods = length-replicate methods no_profile in
    row_is m rows (endings a held later) (omega (arith, long, lt)) (subst IsCapped (sym none) nothing_capped)
    ∙ ap (λ (p : Profile). capped_profile (joined p (total_row m (endings a held later)))) none
    ∙ ap capped_profile (nothing_joined (total_row m (endings a held later)))
    ∙ ap capped_profile (total_row_is m (endings a held later) ∙ summed-endings m frames a held later (first_length frames a) (first_held frames a) ∙ sym (total_row_is m among) ∙ total_of_profile m among)

pub each_has_a_row : EachHasARow
each_has_a_row methods frames [] = length-replicate methods no_profile
each_has_a_row methods frames (a ∷ later) =
    let rows : List Profile = rows_with (replicate methods no_profile) (ended_at (replicate frames None) a) in
    ap length (followed_rows a (set (replicate frames None) a.frames None) rows later)
    ∙ length-rows_by rows (endings a (set (replicate frames None) a.frames None) later)
    ∙ ap (λ (o : Option Activation). length (rows_with (replicate methods no_profile) o)) (first_ended frames a)
    ∙ length-replicate methods no_profile

pub profiles_told : ProfilesAreTold
profiles_told methods frames [] m lt = slice_get-get_or (replicate methods no_profile) m no_profile (let long = length-replicate methods no_profile in omega (arith, long, lt)) ∙ ap Some (no_rows methods m lt)
profiles_told methods frames (a ∷ later) m lt =
    let held : List (Option Begun) = set (replicate frames None) a.frames None in
    let rows : List Profile = replicate methods no_profile in
    let long : length (rows_by rows (endings a held later)) ≡ methods = length-rows_by rows (endings a held later) ∙ length-replicate methods no_profile in
    let all : (followed totals_after (no_totals methods frames) (a ∷ later)).rows ≡ rows_by rows (endings a held later) =
    followed_rows a held (rows_with rows (ended_at (replicate frames None) a)) later
    ∙ ap (λ (o : Option Activation). rows_by (rows_with rows o) (endings a held later)) (first_ended frames a) in
    ap (λ (rows : List Profile). slice_get rows m) all
    ∙ slice_get-get_or (rows_by rows (endings a held later)) m no_profile (omega (arith, long, lt))
    ∙ ap Some (run_of methods frames a later m lt)
