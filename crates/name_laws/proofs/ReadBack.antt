-- Names that are read.
use Rattle.std.proofs.Common.{◌≡◌, ◌≢◌, ℕ, Bool, true, false, nat_eq, List, [], ◌∷◌, refl, sym, ap, ◌∙◌}
use Rattle.std.specs.Prelude.{if◌then◌else◌, ◌&&◌}
use lib.Pointwise.{pointwise}
use Rattle.std.proofs.lemmas.Bool.{eqb-true, eq-eqb}
use Rattle.lists.specs.Tests.{and_left, and_right}
use Rattle.name_laws.specs.Written.{written, unescaped, name_in}
use Rattle.name_laws.specs.Laws.{WrittenAlikeAreOne, WrittenAreRead}
use Rattle.name_laws.proofs.Escapes.{name_read}

pub same_text : (xs : List ℕ) → pointwise nat_eq xs xs ≡ true
same_text [] = refl
same_text (x ∷ xs) = ap (λ (b : Bool). b && pointwise nat_eq xs xs) (eq-eqb x x refl) ∙ same_text xs

pub text_same : (xs ys : List ℕ) → pointwise nat_eq xs ys ≡ true → xs ≡ ys
text_same [] [] h = refl
text_same [] (y ∷ ys) h = absurd (let f : false ≡ true = h in cc)
text_same (x ∷ xs) [] h = absurd (let f : false ≡ true = h in cc)
text_same (x ∷ xs) (y ∷ ys) h =
    ap (λ (z : ℕ). z ∷ xs) (eqb-true x y (and_left (nat_eq x y) (pointwise nat_eq xs ys) h))
    ∙ ap (λ (zs : List ℕ). y ∷ zs) (text_same xs ys (and_right (nat_eq x y) (pointwise nat_eq xs ys) h))

pub alike_are_one : WrittenAlikeAreOne
alike_are_one a b same = sym (name_read a) ∙ ap unescaped same ∙ name_read b

read_back : (name : List ℕ) → name_in (written name) ≡ name
read_back name =
    ap (λ (n : List ℕ). if pointwise nat_eq (written n) (written name) then n else []) (name_read name)
    ∙ ap (λ (b : Bool). if b then name else []) (same_text (written name))

pub chosen_name : (text name : List ℕ) (b : Bool) → pointwise nat_eq (written name) text ≡ b → (if b then name else []) ≢ [] → written (if b then name else []) ≡ text
chosen_name text name true is some = text_same (written name) text is
chosen_name text name false is some = absurd (some refl)

pub are_read : WrittenAreRead
are_read = record {
  read = read_back;
  written_so = λ text some. chosen_name text (unescaped text) (pointwise nat_eq (written (unescaped text)) text) refl some;
}

-- ---- a text of which a name is told

pub named_so : (text name again : List ℕ) → name ≡ unescaped text → again ≡ written name → pointwise nat_eq again text ≡ true → name ≡ name_in text
named_so text name again is so same =
    let lift = ap (λ (n : List ℕ). pointwise nat_eq (written n) text) (sym is) ∙ ap (λ (t : List ℕ). pointwise nat_eq t text) (sym so) ∙ same in
    is ∙ sym (ap (λ (b : Bool). if b then unescaped text else []) lift)

pub not_named : (text name again : List ℕ) → name ≡ unescaped text → again ≡ written name → pointwise nat_eq again text ≡ false → [] ≡ name_in text
not_named text name again is so other =
    let lift = ap (λ (n : List ℕ). pointwise nat_eq (written n) text) (sym is) ∙ ap (λ (t : List ℕ). pointwise nat_eq t text) (sym so) ∙ other in
    sym (ap (λ (b : Bool). if b then unescaped text else []) lift)
