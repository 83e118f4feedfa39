-- The least start of the entries of an exception table that are out of their form.
use Rattle.std.proofs.Common.{◌≡◌, ℕ, ◌+◌, ◌<◌, Bool, true, List, ◌∷◌, length, drop, get_or, drop-cons, add-one, map, Option, Some, None, refl, sym, ap, ◌∙◌, arith}
use Rattle.std.specs.Prelude.{min, if◌then◌else◌}
use Rattle.std.specs.List.{filter}
use Rattle.bytecode_verifier.specs.Failure.{lesser, least}

abbrev pub Entry : Type 0
Entry = ℕ × ℕ × ℕ × ℕ

abbrev pub least_start : (Entry → Bool) → List Entry → Option ℕ
least_start bad hs = least (map (λ h. h.0) (filter bad hs))

min_twice : (a b c : ℕ) → min (min a b) c ≡ min a (min b c)
min_twice a b c = omega arith

pub lesser_twice : (a b c : Option ℕ) → lesser (lesser a b) c ≡ lesser a (lesser b c)
lesser_twice None b c = refl
lesser_twice (Some a) None c = refl
lesser_twice (Some a) (Some b) None = refl
lesser_twice (Some a) (Some b) (Some c) = ap Some (min_twice a b c)

step : (bad : Entry → Bool) (xs : List Entry) (i : ℕ) (d : Entry) → i < length xs
    → least_start bad (drop i xs) ≡ least (map (λ h. h.0) (if bad (get_or xs i d) then get_or xs i d ∷ filter bad (drop (i + 1) xs) else filter bad (drop (i + 1) xs)))
step bad xs i d h = ap (least_start bad) (drop-cons xs i d h ∙ ap (λ n. get_or xs i d ∷ drop n xs) (sym (add-one i)))

pub bad_here : (bad : Entry → Bool) (xs : List Entry) (i : ℕ) (d : Entry) (found : Option ℕ) → i < length xs → bad (get_or xs i d) ≡ true
    → lesser (lesser found (Some (get_or xs i d).0)) (least_start bad (drop (i + 1) xs)) ≡ lesser found (least_start bad (drop i xs))
bad_here bad xs i d found h e =
    lesser_twice found (Some (get_or xs i d).0) (least_start bad (drop (i + 1) xs))
    ∙ ap (lesser found) (sym (step bad xs i d h ∙ ap (λ b. least (map (λ h. h.0) (if b then get_or xs i d ∷ filter bad (drop (i + 1) xs) else filter bad (drop (i + 1) xs)))) e))
