-- The places of items that lie one behind another.
use Rattle.std.proofs.Common.{◌≡◌, ℕ, ◌+◌, ◌<◌, ◌≤◌, List, [], ◌∷◌, ◌++◌, map, take, length, get_or, sum, sym, ap, ap₂, ◌∙◌, subst, arith}
use Rattle.std.specs.Prelude.{sum_by}
use Rattle.std.specs.List.{range_with_len}
use Rattle.std.proofs.lemmas.List.{take_more}
use Rattle.std.proofs.lemmas.List.FromFn.{map-range_with_len_more, get_or-map-range_with_len, length-map-range_with_len}
use Rattle.std.proofs.lemmas.List.Sums.{sum-map, sum_by_push}
use Rattle.image_builder.specs.declared.sums.Run.{Run}
use Rattle.image_builder.specs.Runs.{place_behind, IsRun}
use Rattle.image_builder.proofs.ListLemmas.{take_all, sum_taken}

pub run_at : (start : ℕ) (sizes : List ℕ) (run : Run) (i d : ℕ) → i < length run.places.items → d ≡ get_or run.places.items i d → IsRun start sizes run → d ≡ start + sum (take i sizes)
run_at start sizes run i d lt is run_is =
    let long = ap length run_is.places ∙ length-map-range_with_len (place_behind start sizes) 0 (length sizes) in
    is ∙ (ap (λ ps. get_or ps i d) run_is.places ∙ get_or-map-range_with_len (place_behind start sizes) 0 (length sizes) i i d (omega (arith, lt, long)) (omega arith))

pub run_past : (start : ℕ) (sizes : List ℕ) (run : Run) (i : ℕ) → length run.places.items ≤ i → IsRun start sizes run → run.end ≡ start + sum (take i sizes)
run_past start sizes run i past run_is =
    let long = ap length run_is.places ∙ length-map-range_with_len (place_behind start sizes) 0 (length sizes) in
    run_is.end ∙ ap (λ (xs : List ℕ). start + sum xs) (sym (take_all sizes i (omega (arith, past, long))))

pub places_more : (start : ℕ) (sizes : List ℕ) (i end : ℕ) (old new : List ℕ) → i < length sizes → old ≡ map (place_behind start sizes) (range_with_len 0 i) → end ≡ start + sum (take i sizes)
    → new ≡ old ++ end ∷ [] → new ≡ map (place_behind start sizes) (range_with_len 0 (i + 1))
places_more start sizes i end old new lt h e g =
    g ∙ (ap₂ (λ (xs : List ℕ) (x : ℕ). xs ++ x ∷ []) h e ∙ sym (map-range_with_len_more (place_behind start sizes) 0 i i (omega arith)))

pub end_more : (start : ℕ) (sizes : List ℕ) (i end new : ℕ) → i < length sizes → end ≡ start + sum (take i sizes) → new ≡ end + get_or sizes i 0 → new ≡ start + sum (take (i + 1) sizes)
end_more start sizes i end new lt e g =
    let more = ap sum (take_more sizes i 0 lt) ∙ sum_by_push (λ (n : ℕ). n) (take i sizes) (get_or sizes i 0) in
    omega (arith, e, g, more)

pub run_place : {A : Type 0} (f : A → ℕ) (xs : List A) (start : ℕ) (run : Run) (i r : ℕ) → IsRun start (map f xs) run → ((start : ℕ) (sizes : List ℕ) → IsRun start sizes run → r ≡ start + sum (take i sizes)) → r ≡ start + sum_by f (take i xs)
run_place f xs start run i r is at = at start (map f xs) is ∙ ap (λ n. start + n) (sum_taken f xs i)

pub run_end : {A : Type 0} (f : A → ℕ) (xs : List A) (start : ℕ) (run : Run) → IsRun start (map f xs) run → run.end ≡ start + sum_by f xs
run_end f xs start run is = is.end ∙ ap (λ n. start + n) (sum-map f xs)

pub run_of : (start other : ℕ) (sizes others : List ℕ) (run : Run) → IsRun start sizes run → start ≡ other → sizes ≡ others → IsRun other others run
run_of start other sizes others run is h e = subst (λ (xs : List ℕ). IsRun other xs run) e (subst (λ (n : ℕ). IsRun n sizes run) h is)
