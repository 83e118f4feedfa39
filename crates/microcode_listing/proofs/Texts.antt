-- The names of the tables are those that the definitions say.
use Rattle.std.proofs.Common.{◌≡◌, ℕ, zero, suc, ◌<◌, List, [], ◌∷◌, map, length, get_or, Some, Bor, refl, sym, ap, ◌∙◌, subst, arith}
use Rattle.std.specs.Prelude.{slice_get}
use Rattle.std.proofs.lemmas.Option.{slice_get-get_or}
use Rattle.microcode_listing.specs.Names.{operation_names, row_names, operation_text, row_number, row_text}

abbrev Text : Type 0
Text = Bor (List ℕ)

named : (xs : List Text) (i : ℕ) (d : Text) → i < length (map (λ x. x.now) xs) → (get_or xs i d).now ≡ get_or (map (λ x. x.now) xs) i []
named [] i d below = absurd (omega (arith, below))
named (x ∷ xs) zero d below = refl
named (x ∷ xs) (suc i) d below = named xs i d (omega (arith, below))

name_at : (xs : List Text) (i : ℕ) (d : Text) (names : List (List ℕ)) → map (λ x. x.now) xs ≡ names → i < length names → (get_or xs i d).now ≡ get_or names i []
name_at xs i d names e below =
    named xs i d (subst (λ (l : List (List ℕ)). i < length l) (sym e) below) ∙ ap (λ (l : List (List ℕ)). get_or l i []) e

pub operation_at : (entries : List Text) (d : Text) → map (λ x. x.now) entries ≡ operation_names → (code : ℕ) → code < 48 → (get_or entries code d).now ≡ operation_text code
unfolding operation_text
operation_at entries d e code below = name_at entries code d operation_names e below

pub row_at : (entries : List Text) (d : Text) → map (λ x. x.now) entries ≡ row_names → (number address : ℕ) → number < 148 → number ≡ row_number address → Some (get_or entries number d).now ≡ row_text address
unfolding row_text
row_at entries d e number address below is =
    ap Some (name_at entries number d row_names e below) ∙ (sym (slice_get-get_or row_names number [] below) ∙ ap (slice_get row_names) is)
