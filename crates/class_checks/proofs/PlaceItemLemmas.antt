-- Items of lists looked at in turn.
use Rattle.std.proofs.Common.{◌≡◌, ℕ, zero, suc, ◌+◌, ◌<◌, List, [], ◌∷◌, ◌++◌, length, take, get_or, Option, Some, None, refl, sym, ap, ap₂, ◌∙◌, arith}
use Rattle.std.specs.Prelude.{slice_get}
use Rattle.std.specs.Option.{option_to_list}
use Rattle.std.proofs.lemmas.List.Elements.{filter_map-append}
use Rattle.std.specs.List.{filter_map, cons_option}
use Rattle.std.proofs.lemmas.Grind.{take_at_read}

pub got : {X : Type 0} (xs : List X) (i : ℕ) (x : X) → i < length xs → x ≡ get_or xs i x → slice_get xs i ≡ Some x
got [] i x lt is = absurd (omega arith)
got (y ∷ xs) zero x lt is = ap (λ (z : _). Some z) (sym is)
got (y ∷ xs) (suc i) x lt is = got xs i x (omega arith) is

-- ---- what several items give

one_given : {Y : Type 0} (o : Option Y) → cons_option o [] ≡ option_to_list o
one_given None = refl
one_given (Some y) = refl

pub more_found : {Y : Type 0} (f : ℕ → Option Y) (xs : List ℕ) (i : ℕ) (old new : List Y) (o : Option Y) → i < length xs → old ≡ filter_map f (take i xs) → o ≡ f (get_or xs i 0) → new ≡ old ++ option_to_list o
    → new ≡ filter_map f (take (i + 1) xs)
more_found f xs i old new o lt so_far is e =
    let x = get_or xs i 0 in
    e
    ∙ (ap₂ (λ (a : List _) (b : Option _). a ++ option_to_list b) so_far is
    ∙ sym (ap (filter_map f) (take_at_read xs i 0 lt).1 ∙ (filter_map-append f (take i xs) (x ∷ []) ∙ ap (λ (ys : List _). filter_map f (take i xs) ++ ys) (one_given (f x)))))
