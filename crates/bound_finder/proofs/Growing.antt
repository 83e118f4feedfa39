-- What is known of methods stays as one more is found.
use Rattle.std.proofs.Common.{◌≡◌, ℕ, ◌<◌, List, [], ◌∷◌, ◌++◌, length, take, drop, set, Contains, Some, refl, ap, ◌∙◌, subst, arith}
use Rattle.std.specs.Prelude.{slice_get}
use Rattle.std.proofs.lemmas.List.{get_or-set_same, get_or-set_other, length_push, get_or_append_left, get_or_push, take-append-le, take-append-drop}
use Rattle.std.proofs.lemmas.List.Elements.{Contains-append_left}
use Rattle.std.proofs.lemmas.Option.{slice_get-get_or, slice_get_within, get_or_from_slice_get}
use Rattle.lists.specs.Members.{at_head, in_tail}
use Rattle.bytecode_model.specs.Program.{Program}
use Rattle.method_flow.specs.Keeping.{BoundOf}
use Rattle.method_flow.specs.Recursion.{MayCall}
use Rattle.method_flow.specs.declared.timing.Timing.{Timing}
use Rattle.bound_rules.specs.Told.{Valued, value_in}
use Rattle.bound_finder.specs.declared.known.Known.{Known}
use Rattle.bound_finder.specs.Known.{unknown, known_at, IsKnownOf, Agrees, HasNumbers}
use Rattle.bound_finder.specs.Found.{HasSection}
use Rattle.bound_finder.specs.Methods.{values_by}
use Rattle.bound_finder.specs.Ready.{AreBehindCalls}

-- ---- a table in which one entry is written

pub known_same : (table : List Known) (m x : ℕ) (k : Known) → (x ≡ m → ⊥) → known_at (set table m k) x ≡ known_at table x
known_same table m x k ne = get_or-set_other table m x k unknown ne

pub known_new : (table : List Known) (m : ℕ) (k : Known) → m < length table → known_at (set table m k) m ≡ k
known_new table m k inside = get_or-set_same table m k unknown inside

-- what is known of a method stays where the entries of all that it may call do
pub known_stays : (P : Program) (t : Timing) (bound_of : BoundOf) (table other : List Known) (m : ℕ) (k : Known) → ((x : ℕ) → MayCall P m x → known_at other x ≡ known_at table x) → IsKnownOf P t bound_of table m k
    → IsKnownOf P t bound_of other m k
known_stays P t bound_of table other m k same h = record {
  told = h.told;
  agrees = λ N agree are. h.agrees N (λ x call. let A : Known → Type 0 = λ o. Agrees P t N x o in subst A (same x call) (agree x call)) are;
  exceeds = λ N agree are. h.exceeds N (λ x call. let A : Known → Type 0 = λ o. Agrees P t N x o in subst A (same x call) (agree x call)) are;
  found = λ small N has here. h.found small N (λ x call. let A : Known → Type 0 = λ o. HasNumbers P t N x o in subst A (same x call) (has x call)) here;
}

-- and so does its section
pub section_stays : (P : Program) (t : Timing) (bound_of : BoundOf) (table other : List Known) (m : ℕ) (k : Known) → ((x : ℕ) → MayCall P m x → known_at other x ≡ known_at table x) → HasSection P t bound_of table m k
    → HasSection P t bound_of other m k
section_stays P t bound_of table other m k same h = record {
  section = h.section;
  of_method = h.of_method;
  shows = λ earlier cover. h.shows earlier (λ x call. let C : Known → Type 0 = λ o. value_in o.fits x earlier ≡ Some o.asked in subst C (same x call) (cover x call));
}

abbrev value_of_known : List Known → ℕ → Valued
value_of_known table m = record { method = m; inside = (known_at table m).fits; value = (known_at table m).asked }

pub values_same : (table : List Known) (m : ℕ) (k : Known) (done : List ℕ) → (Contains done m → ⊥) → values_by (set table m k) done ≡ values_by table done
values_same table m k [] apart = refl
values_same table m k (x ∷ xs) apart =
    let V : Known → Valued = λ o. record { method = x; inside = o.fits; value = o.asked } in
    let ne : x ≡ m → ⊥ = λ e. apart (let C : ℕ → Type 0 = λ y. Contains (x ∷ xs) y in subst C e (at_head x xs)) in
    let here : value_of_known (set table m k) x ≡ value_of_known table x = ap V (known_same table m x k ne) in
    let rest = values_same table m k xs (λ c. apart (in_tail x m xs c)) in
    ap (λ (v : Valued). v ∷ values_by (set table m k) xs) here ∙ ap (λ (vs : List Valued). value_of_known table x ∷ vs) rest

-- ---- one method more behind others

pub at_last : (done : List ℕ) (m : ℕ) → slice_get (done ++ m ∷ []) (length done) ≡ Some m
at_last done m =
    let long = length_push done m in
    let below : length done < length (done ++ m ∷ []) = omega arith in
    slice_get-get_or (done ++ m ∷ []) (length done) m below ∙ ap (λ (x : ℕ). Some x) (get_or_push done m m (length done) refl)

pub at_front : (done : List ℕ) (m i x : ℕ) → slice_get done i ≡ Some x → slice_get (done ++ m ∷ []) i ≡ Some x
at_front done m i x is =
    let below = slice_get_within done i x is in
    let long = length_push done m in
    let inside : i < length (done ++ m ∷ []) = omega arith in
    slice_get-get_or (done ++ m ∷ []) i x inside ∙ ap (λ (y : ℕ). Some y) (get_or_append_left done (m ∷ []) x i below ∙ get_or_from_slice_get done i x x is)

module _ (P : Program) (done : List ℕ) (m : ℕ) (behind : AreBehindCalls P (done ++ m ∷ [])) where
  -- what stood behind its calls stands so before
  pub front_behind : AreBehindCalls P done
  front_behind i x y is call =
      let below = slice_get_within done i x is in
      let C : List ℕ → Type 0 = λ xs. Contains xs y in
      subst C (take-append-le i done (m ∷ []) (omega arith)) (behind i x y (at_front done m i x is) call)

  -- all that the last one may call stands before it
  pub last_behind : (y : ℕ) → MayCall P m y → Contains done y
  last_behind y call =
      let C : List ℕ → Type 0 = λ xs. Contains xs y in
      let whole : take (length done) (done ++ m ∷ []) ≡ done = take-append-le (length done) done (m ∷ []) (omega arith) ∙ all_taken done in
      subst C whole (behind (length done) m y (at_last done m) call)
    where
      all_taken : (xs : List ℕ) → take (length xs) xs ≡ xs
      all_taken [] = refl
      all_taken (x ∷ xs) = ap (λ (ys : List ℕ). x ∷ ys) (all_taken xs)

  pub called_before : (x y : ℕ) → Contains done x → MayCall P x y → Contains done y
  called_before x y has call =
      let is : slice_get done has.0 ≡ Some x = slice_get-get_or done has.0 x has.1 ∙ ap (λ (z : ℕ). Some z) has.2 in
      let before = front_behind has.0 x y is call in
      taken_in done has.0 y before
    where
      taken_in : (xs : List ℕ) (i y : ℕ) → Contains (take i xs) y → Contains xs y
      taken_in xs i y c =
          let D : List ℕ → Type 0 = λ zs. Contains zs y in
          subst D (take-append-drop i xs) (Contains-append_left (take i xs) (drop i xs) y c)
