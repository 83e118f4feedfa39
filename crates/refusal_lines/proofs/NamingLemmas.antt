-- The first of the classes that isn't there, of lists one behind another.
use Rattle.std.proofs.Common.{◌≡◌, ℕ, ◌+◌, ◌<◌, ◌≤◌, true, false, List, [], ◌∷◌, ◌++◌, length, take, drop, get_or, take_all, append-nil, Option, Some, None, refl, sym, ap, ◌∙◌}
use Rattle.std.specs.Prelude.{option_map}
use Rattle.std.specs.Option.{option_or}
use Rattle.std.specs.List.{flat_map}
use Rattle.std.proofs.lemmas.List.Folds.{find-append}
use Rattle.std.proofs.lemmas.Grind.{take_at_read, flat_map-append}
use Rattle.std.proofs.lemmas.List.{take-append-drop}
use Rattle.class_pool.specs.declared.class.ClassFile.{ClassFile}
use Rattle.descriptors.specs.Names.{is_class_name}
use Rattle.program_tables.specs.Kinds.{classes_in_field_descriptor}
use Rattle.refusal_lines.specs.Entries.{missing, class_in_name}

pub missing-append : (before files : List ClassFile) (xs ys : List (List ℕ)) → missing before files (xs ++ ys) ≡ option_or (missing before files xs) (missing before files ys)
unfolding missing
missing-append before files xs ys = find-append _ xs ys

-- ---- in two lists

pub first_has : (f : List ℕ → List ℕ) (before files : List ClassFile) (xs ys : List (List ℕ)) (bytes : List ℕ) → Some bytes ≡ option_map f (missing before files xs)
    → Some bytes ≡ option_map f (missing before files (xs ++ ys))
first_has f before files xs ys bytes one = by (missing before files xs) one ∙ ap (option_map f) (sym (missing-append before files xs ys))
  where
    by : (o : Option (List ℕ)) → Some bytes ≡ option_map f o → Some bytes ≡ option_map f (option_or o (missing before files ys))
    by None e = absurd (cc)
    by (Some n) e = e

pub second_has : (f : List ℕ → List ℕ) (before files : List ClassFile) (xs ys : List (List ℕ)) (found : Option (List ℕ)) → None ≡ option_map f (missing before files xs)
    → found ≡ option_map f (missing before files ys) → found ≡ option_map f (missing before files (xs ++ ys))
second_has f before files xs ys found none one = one ∙ (by (missing before files xs) none ∙ ap (option_map f) (sym (missing-append before files xs ys)))
  where
    by : (o : Option (List ℕ)) → None ≡ option_map f o → option_map f (missing before files ys) ≡ option_map f (option_or o (missing before files ys))
    by None e = refl
    by (Some n) e = absurd (cc)

pub first_found : (before files : List ClassFile) (xs ys : List (List ℕ)) (name : List ℕ) → Some name ≡ missing before files xs → Some name ≡ missing before files (xs ++ ys)
first_found before files xs ys name one = ap (λ (o : Option (List ℕ)). option_or o (missing before files ys)) one ∙ sym (missing-append before files xs ys)

pub second_found : (before files : List ClassFile) (xs ys : List (List ℕ)) (found : Option (List ℕ)) → None ≡ missing before files xs → found ≡ missing before files ys
    → found ≡ missing before files (xs ++ ys)
second_found before files xs ys found none one = one ∙ (ap (λ (o : Option (List ℕ)). option_or o (missing before files ys)) none ∙ sym (missing-append before files xs ys))

-- ---- in the lists that items give

take_next : {X : Type 0} (xs : List X) (i : ℕ) (x d : X) → i < length xs → x ≡ get_or xs i d → take (i + 1) xs ≡ take i xs ++ x ∷ []
take_next xs i x d lt is = (take_at_read xs i d lt).1 ∙ ap (λ z. take i xs ++ z ∷ []) (sym is)

one_more : {X : Type 0} (g : X → List (List ℕ)) (xs : List X) (i : ℕ) (x d : X) → i < length xs → x ≡ get_or xs i d → flat_map g (take (i + 1) xs) ≡ flat_map g (take i xs) ++ g x
one_more g xs i x d lt is = ap (flat_map g) (take_next xs i x d lt is) ∙ (flat_map-append g (take i xs) (x ∷ []) ∙ ap (λ ys. flat_map g (take i xs) ++ ys) (append-nil (g x)))

-- an item more of which all are there
pub still_none : {X : Type 0} (before files : List ClassFile) (g : X → List (List ℕ)) (xs : List X) (i : ℕ) (x d : X) → i < length xs → x ≡ get_or xs i d
    → missing before files (flat_map g (take i xs)) ≡ None → None ≡ missing before files (g x) → missing before files (flat_map g (take (i + 1) xs)) ≡ None
still_none before files g xs i x d lt is so_far here =
    ap (missing before files) (one_more g xs i x d lt is) ∙ sym (second_found before files (flat_map g (take i xs)) (g x) None (sym so_far) here)

-- nothing before an item, and something of it
pub found_here : {X : Type 0} (before files : List ClassFile) (g : X → List (List ℕ)) (xs : List X) (i : ℕ) (x d : X) (name : List ℕ) → i < length xs → x ≡ get_or xs i d
    → missing before files (flat_map g (take i xs)) ≡ None → Some name ≡ missing before files (g x) → Some name ≡ missing before files (flat_map g xs)
found_here before files g xs i x d name lt is so_far here =
    let so_many : Some name ≡ missing before files (flat_map g (take (i + 1) xs)) =
    second_found before files (flat_map g (take i xs)) (g x) (Some name) (sym so_far) here ∙ ap (missing before files) (sym (one_more g xs i x d lt is)) in
    let all : flat_map g (take (i + 1) xs) ++ flat_map g (drop (i + 1) xs) ≡ flat_map g xs =
    sym (flat_map-append g (take (i + 1) xs) (drop (i + 1) xs)) ∙ ap (flat_map g) (take-append-drop (i + 1) xs) in
    first_found before files (flat_map g (take (i + 1) xs)) (flat_map g (drop (i + 1) xs)) name so_many ∙ ap (missing before files) all

pub none_at_all : {X : Type 0} (before files : List ClassFile) (g : X → List (List ℕ)) (xs : List X) (i : ℕ) → length xs ≤ i
    → missing before files (flat_map g (take i xs)) ≡ None → None ≡ missing before files (flat_map g xs)
none_at_all before files g xs i past so_far = sym so_far ∙ ap (λ ys. missing before files (flat_map g ys)) (take_all i xs past)

-- ---- the text of a Class entry

pub name_of_class : (text : List ℕ) → is_class_name text ≡ true → class_in_name text ≡ text ∷ []
unfolding class_in_name
name_of_class text is = rw is

pub name_of_array : (text : List ℕ) → is_class_name text ≡ false → class_in_name text ≡ classes_in_field_descriptor text
unfolding class_in_name
name_of_array text is = rw is
