-- Going through a list for the first item that has a part.
use Rattle.std.proofs.Common.{◌≡◌, ℕ, suc, ◌+◌, ◌<◌, ◌≤◌, List, length, get_or, drop, Option, Some, None, sym, ap, ◌∙◌, add-one, drop-cons}
use Rattle.std.proofs.lemmas.List.{drop_all}
use Rattle.class_pool.specs.Found.{otherwise, first_of}

-- what is found from a place on is found in all
pub record IsSame {X Y : Type 0} (part : X → Option Y) (xs : List X) (i : ℕ) : Type 0 where
  pub same : first_of part (drop i xs) ≡ first_of part xs

step : {X Y : Type 0} (part : X → Option Y) (xs : List X) (i : ℕ) (x : X) → i < length xs → x ≡ get_or xs i x → first_of part (drop i xs) ≡ otherwise (part x) (first_of part (drop (i + 1) xs))
step part xs i x lt is = rw (add-one, drop-cons xs i x) (ap (λ y. otherwise (part y) (first_of part (drop (suc i) xs))) (sym is))

pub first_here : {X Y : Type 0} (part : X → Option Y) (xs : List X) (i : ℕ) (x : X) (y : Y) → i < length xs → x ≡ get_or xs i x → part x ≡ Some y → IsSame part xs i → first_of part xs ≡ Some y
first_here part xs i x y lt is has so_far = sym so_far.same ∙ step part xs i x lt is ∙ ap (λ o. otherwise o (first_of part (drop (i + 1) xs))) has

pub first_later : {X Y : Type 0} (part : X → Option Y) (xs : List X) (i : ℕ) (x : X) → i < length xs → x ≡ get_or xs i x → part x ≡ None → IsSame part xs i → IsSame part xs (i + 1)
first_later part xs i x lt is lacks so_far =
    record { same = sym (ap (λ o. otherwise o (first_of part (drop (i + 1) xs))) lacks) ∙ sym (step part xs i x lt is) ∙ so_far.same }

pub first_none : {X Y : Type 0} (part : X → Option Y) (xs : List X) (i : ℕ) → length xs ≤ i → IsSame part xs i → first_of part xs ≡ None
first_none part xs i le so_far = sym so_far.same ∙ ap (first_of part) (drop_all i xs le)
