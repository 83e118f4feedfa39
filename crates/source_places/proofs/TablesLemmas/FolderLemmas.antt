-- The part of a name up to its last /.
use Rattle.std.proofs.Common.{◌≡◌, ℕ, ◌+◌, ◌<◌, Bool, true, false, ◌||◌, cond, List, [], ◌∷◌, ◌++◌, length, get_or, take, refl, sym, ap, ap₂, ◌∙◌}
use Rattle.std.specs.Prelude.{◌==◌}
use Rattle.std.specs.List.{list_any}
use Rattle.std.proofs.lemmas.Bool.{or_right}
use Rattle.std.proofs.lemmas.List.Folds.{list_any-append}
use Rattle.std.proofs.lemmas.Grind.{take_at_read}
use Rattle.source_places.specs.Tables.Source.{folder_in}

abbrev is_slash : ℕ → Bool
is_slash u = u == 47

has_more : (x : ℕ) (us : List ℕ) → list_any is_slash (us ++ x ∷ []) ≡ (list_any is_slash us || (is_slash x || false))
has_more x us = list_any-append is_slash us (x ∷ [])

-- a slash behind a name
with_slash : (us : List ℕ) (x : ℕ) → is_slash x ≡ true → folder_in (us ++ x ∷ []) ≡ us ++ x ∷ []
with_slash [] x h = ap (λ (t : Bool). cond (t || false) (x ∷ []) []) h
with_slash (u ∷ us) x h =
    let some : list_any is_slash (u ∷ (us ++ x ∷ [])) ≡ true = has_more x (u ∷ us) ∙ or_right (list_any is_slash (u ∷ us)) (is_slash x || false) (ap (λ (t : Bool). t || false) h) in
    ap₂ (λ (t : Bool) (r : List ℕ). cond t (u ∷ r) []) some (with_slash us x h)

-- another unit behind a name
with_other : (us : List ℕ) (x : ℕ) → is_slash x ≡ false → folder_in (us ++ x ∷ []) ≡ folder_in us
with_other [] x h = ap (λ (t : Bool). cond (t || false) (x ∷ []) []) h
with_other (u ∷ us) x h =
    let same : list_any is_slash (u ∷ (us ++ x ∷ [])) ≡ list_any is_slash (u ∷ us) = has_more x (u ∷ us) ∙ ap (λ (t : Bool). list_any is_slash (u ∷ us) || (t || false)) h ∙ or_false (list_any is_slash (u ∷ us)) in
    ap₂ (λ (t : Bool) (r : List ℕ). cond t (u ∷ r) []) same (with_other us x h)
  where
    or_false : (t : Bool) → (t || false) ≡ t
    or_false true = refl
    or_false false = refl

pub slash_next : (name : List ℕ) (i : ℕ) → i < length name → is_slash (get_or name i 0) ≡ true → take (i + 1) name ≡ folder_in (take (i + 1) name)
slash_next name i lt h =
    let next : take (i + 1) name ≡ take i name ++ get_or name i 0 ∷ [] = (take_at_read name i 0 lt).1 in
    next ∙ sym (ap folder_in next ∙ with_slash (take i name) (get_or name i 0) h)

pub other_next : (name : List ℕ) (i : ℕ) (n : ℕ) → i < length name → is_slash (get_or name i 0) ≡ false → take n name ≡ folder_in (take i name) → take n name ≡ folder_in (take (i + 1) name)
other_next name i n lt h so_far =
    let next : take (i + 1) name ≡ take i name ++ get_or name i 0 ∷ [] = (take_at_read name i 0 lt).1 in
    so_far ∙ sym (ap folder_in next ∙ with_other (take i name) (get_or name i 0) h)
