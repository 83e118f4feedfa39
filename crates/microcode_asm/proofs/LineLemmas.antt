-- What one line more gives.
use Rattle.std.proofs.Common.{◌≡◌, ℕ, ◌+◌, ◌≤◌, Bool, true, false, ◌||◌, List, [], ◌∷◌, ◌++◌, length, append_assoc, append-nil, refl, sym, ◌∙◌, ap, arith, Option, Some, None, cond, eqb}
use Rattle.std.specs.Prelude.{is_some}
use Rattle.std.specs.Option.{option_or}
use Rattle.std.specs.List.{list_any, flat_map}
use Rattle.std.proofs.lemmas.List.{length-append}
use Rattle.microcode.specs.declared.isa.Turns.{Turns}
use Rattle.microcode_asm.specs.Statements.{Statement, nothing, word, branch, entry, raise, constant, turns, size_of, Line}
use Rattle.microcode_asm.specs.Programs.{LabelPlaces, address, word_count, turns_behind, turns_after, is_constant}
use Rattle.microcode_asm.specs.Roms.{words_of, named_from, value_or, constant_in, turns_here, turns_from}
use Rattle.microcode_asm.proofs.LabelLemmas.{size_le}

-- ---- addresses

first_or : (b : Bool) (x : ℕ) (r s t : Option ℕ) → r ≡ option_or s t → cond b (Some x) r ≡ option_or (cond b (Some x) s) t
first_or true x r s t h = refl
first_or false x r s t h = h

pub named_more : (n : ℕ) (test : Line → Bool) (xs : List Line) (line : Line) → named_from n test (xs ++ line ∷ []) ≡ option_or (named_from n test xs) (cond (test line) (Some (address (n + word_count xs))) None)
named_more n test [] line =
    let same : n ≡ n + 0 = omega arith in
    ap (λ k. cond (test line) (Some (address k)) None) same
named_more n test (x ∷ xs) line =
    let there : (n + size_of x.statement) + word_count xs ≡ n + (size_of x.statement + word_count xs) = omega arith in
    first_or (test x) (address n) (named_from (n + size_of x.statement) test (xs ++ line ∷ [])) (named_from (n + size_of x.statement) test xs) (cond (test line) (Some (address (n + (size_of x.statement + word_count xs)))) None)
    (named_more (n + size_of x.statement) test xs line ∙ ap (λ k. option_or (named_from (n + size_of x.statement) test xs) (cond (test line) (Some (address k)) None)) there)

some_by : (b : Bool) (x : ℕ) (r : Option ℕ) (c : Bool) → is_some r ≡ c → is_some (cond b (Some x) r) ≡ (b || c)
some_by true x r c h = refl
some_by false x r c h = h

pub named_some : (n : ℕ) (test : Line → Bool) (xs : List Line) → is_some (named_from n test xs) ≡ list_any test xs
named_some n test [] = refl
named_some n test (x ∷ xs) = some_by (test x) (address n) (named_from (n + size_of x.statement) test xs) (list_any test xs) (named_some (n + size_of x.statement) test xs)

-- ---- constants

value_or_more : (number : ℕ) (s : Statement) (r a b : Option ℕ) → r ≡ option_or a b → value_or number r s ≡ option_or (value_or number a s) b
value_or_more number nothing r a b h = h
value_or_more number (word bits) r a b h = h
value_or_more number (branch how label) r a b h = h
value_or_more number (entry op) r a b h = h
value_or_more number raise r a b h = h
value_or_more number (constant n v) r a b h = first_or (eqb n number) v r a b h
value_or_more number (turns t) r a b h = h

pub constant_more : (number : ℕ) (xs : List Line) (line : Line) → constant_in number (xs ++ line ∷ []) ≡ option_or (constant_in number xs) (value_or number None line.statement)
constant_more number [] line = refl
constant_more number (x ∷ xs) line =
    value_or_more number x.statement (constant_in number (xs ++ line ∷ [])) (constant_in number xs) (value_or number None line.statement) (constant_more number xs line)

value_or_some : (number : ℕ) (s : Statement) (labels : List (List ℕ)) (r : Option ℕ) (c : Bool) → is_some r ≡ c → is_some (value_or number r s) ≡ (is_constant number (record { labels = labels; statement = s }) || c)
value_or_some number nothing labels r c h = h
value_or_some number (word bits) labels r c h = h
value_or_some number (branch how label) labels r c h = h
value_or_some number (entry op) labels r c h = h
value_or_some number raise labels r c h = h
value_or_some number (constant n v) labels r c h = some_by (eqb n number) v r c h
value_or_some number (turns t) labels r c h = h

pub constant_some : (number : ℕ) (xs : List Line) → is_some (constant_in number xs) ≡ list_any (is_constant number) xs
constant_some number [] = refl
constant_some number (x ∷ xs) = value_or_some number x.statement x.labels (constant_in number xs) (list_any (is_constant number) xs) (constant_some number xs)

-- ---- turns

pub after_more : (t : Option Turns) (xs : List Line) (line : Line) → turns_after t (xs ++ line ∷ []) ≡ turns_behind (turns_after t xs) line.statement
after_more t [] line = refl
after_more t (x ∷ xs) line = after_more (turns_behind t x.statement) xs line

pub turns_more : (place : LabelPlaces) (n : ℕ) (t : Option Turns) (xs : List Line) (line : Line)
    → turns_from place n t (xs ++ line ∷ []) ≡ turns_from place n t xs ++ turns_here place (n + word_count xs) (turns_after t xs) line.statement
turns_more place n t [] line =
    let same : n ≡ n + 0 = omega arith in
    append-nil (turns_here place n t line.statement) ∙ ap (λ k. turns_here place k t line.statement) same
turns_more place n t (x ∷ xs) line =
    let there : (n + size_of x.statement) + word_count xs ≡ n + (size_of x.statement + word_count xs) = omega arith in
    let behind = turns_behind t x.statement in
    let first = turns_here place n t x.statement in
    let middle = turns_from place (n + size_of x.statement) behind xs in
    ap (λ (l : List (ℕ × Turns)). first ++ l) (turns_more place (n + size_of x.statement) behind xs line ∙ ap (λ k. middle ++ turns_here place k (turns_after behind xs) line.statement) there)
    ∙ sym (append_assoc first middle (turns_here place (n + (size_of x.statement + word_count xs)) (turns_after behind xs) line.statement))

-- ---- words and labels

words_count : (place : LabelPlaces) (s : Statement) → length (words_of place s) ≡ size_of s
words_count place nothing = refl
words_count place (word bits) = refl
words_count place (branch how label) = refl
words_count place (entry op) = refl
words_count place raise = refl
words_count place (constant n v) = refl
words_count place (turns t) = refl

pub count_words : (place : LabelPlaces) (xs : List Line) → length (flat_map (λ (line : Line). words_of place line.statement) xs) ≡ word_count xs
count_words place [] = refl
count_words place (x ∷ xs) =
    omega (arith, length-append (words_of place x.statement) (flat_map (λ (line : Line). words_of place line.statement) xs), words_count place x.statement, count_words place xs)

pub few_words : (xs : List Line) → word_count xs ≤ length xs
few_words [] = omega arith
few_words (x ∷ xs) = omega (arith, size_le x.statement, few_words xs)

pub flat_more : {B : Type 0} (f : Line → List B) (xs : List Line) (line : Line) → flat_map f (xs ++ line ∷ []) ≡ flat_map f xs ++ f line
flat_more f [] line = append-nil (f line)
flat_more f (x ∷ xs) line = ap (λ l. f x ++ l) (flat_more f xs line) ∙ sym (append_assoc (f x) (flat_map f xs) (f line))
