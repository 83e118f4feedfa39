-- Words, one after another.
use Rattle.std.proofs.Common.{◌≡◌, ℕ, ◌+◌, ◌-◌, ◌<◌, ◌≤◌, Bool, true, false, List, [], ◌∷◌, length, get_or, take, drop, Some, None, refl, sym, ap, ◌∙◌, arith, add-one, drop-cons, take_all}
use Rattle.std.proofs.lemmas.Bool.{false≢true}
use Rattle.std.specs.Prelude.{◌==◌, Err, if◌then◌else◌}
use Rattle.std.specs.declared.option.Option.{Option}
use Rattle.std.specs.declared.result.Result.{Result}
use Rattle.std.specs.Borrow.{Bor}
use Rattle.command_line.specs.declared.command.Command.{Command}
use Rattle.command_line.specs.declared.table.Verb.{Verb}
use Rattle.command_line.specs.declared.table.Name.{Name}
use Rattle.command_line.specs.Table.{value_of_name, name_of, verb_named}
use Rattle.command_line.specs.Command.{texts, is_option, meaning, with_value, is_taken, is_flag, exactly_at, at_most_at, at_least_at, past_number, operands_at, words_at, none_given, command_of}

pub if_false : {A : Type 0} (b : Bool) (x y : A) → b ≡ false → y ≡ (if b then x else y)
if_false true x y h = absurd (false≢true (sym h))
if_false false x y h = refl

pub if_true : {A : Type 0} (b : Bool) (x y : A) → b ≡ true → x ≡ (if b then x else y)
if_true true x y h = refl
if_true false x y h = absurd (false≢true h)

-- ---- the words behind a place

pub length_texts : (ws : List (Bor (List ℕ))) → length (texts ws) ≡ length ws
length_texts [] = refl
length_texts (w ∷ ws) = omega (arith, length_texts ws)

pub texts_drop : (ws : List (Bor (List ℕ))) (i : ℕ) (d : Bor (List ℕ)) → i < length ws → texts (drop i ws) ≡ (get_or ws i d).now ∷ texts (drop (i + 1) ws)
texts_drop ws i d lt = ap texts (drop-cons ws i d lt) ∙ ap (λ j. (get_or ws i d).now ∷ texts (drop j ws)) (sym (add-one i))

-- ---- operands

pub exactly_step : (k n : ℕ) (w : List ℕ) (r : List (List ℕ)) → (n == 0) ≡ false → (length w == 0) ≡ false → exactly_at (k + 1) (n - 1) r ≡ exactly_at k n (w ∷ r)
exactly_step k n w r h g =
    if_false (length w == 0) (Some k) (exactly_at (k + 1) (n - 1) r) g ∙ if_false (n == 0) (Some k) (if length w == 0 then Some k else exactly_at (k + 1) (n - 1) r) h

pub exactly_past : (k n : ℕ) (w : List ℕ) (r : List (List ℕ)) → (n == 0) ≡ true → Some k ≡ exactly_at k n (w ∷ r)
exactly_past k n w r h = if_true (n == 0) (Some k) (if length w == 0 then Some k else exactly_at (k + 1) (n - 1) r) h

same_both : (b : Bool) (k : ℕ) → Some k ≡ (if b then Some k else Some k)
same_both true k = refl
same_both false k = refl

pub exactly_empty : (k n : ℕ) (w : List ℕ) (r : List (List ℕ)) → (length w == 0) ≡ true → Some k ≡ exactly_at k n (w ∷ r)
exactly_empty k n w r h = same_both (n == 0) k ∙ ap (λ x. if n == 0 then Some k else x) (if_true (length w == 0) (Some k) (exactly_at (k + 1) (n - 1) r) h)

pub at_most_step : (k n : ℕ) (w : List ℕ) (r : List (List ℕ)) → (n == 0) ≡ false → (length w == 0) ≡ false → at_most_at (k + 1) (n - 1) r ≡ at_most_at k n (w ∷ r)
at_most_step k n w r h g =
    if_false (length w == 0) (Some k) (at_most_at (k + 1) (n - 1) r) g ∙ if_false (n == 0) (Some k) (if length w == 0 then Some k else at_most_at (k + 1) (n - 1) r) h

pub at_most_past : (k n : ℕ) (w : List ℕ) (r : List (List ℕ)) → (n == 0) ≡ true → Some k ≡ at_most_at k n (w ∷ r)
at_most_past k n w r h = if_true (n == 0) (Some k) (if length w == 0 then Some k else at_most_at (k + 1) (n - 1) r) h

pub at_most_empty : (k n : ℕ) (w : List ℕ) (r : List (List ℕ)) → (length w == 0) ≡ true → Some k ≡ at_most_at k n (w ∷ r)
at_most_empty k n w r h = same_both (n == 0) k ∙ ap (λ x. if n == 0 then Some k else x) (if_true (length w == 0) (Some k) (at_most_at (k + 1) (n - 1) r) h)

pub at_least_step : (k n : ℕ) (w : List ℕ) (r : List (List ℕ)) → (length w == 0) ≡ false → at_least_at (k + 1) (n - 1) r ≡ at_least_at k n (w ∷ r)
at_least_step k n w r h = if_false (length w == 0) (Some k) (at_least_at (k + 1) (n - 1) r) h

pub at_least_empty : (k n : ℕ) (w : List ℕ) (r : List (List ℕ)) → (length w == 0) ≡ true → Some k ≡ at_least_at k n (w ∷ r)
at_least_empty k n w r h = if_true (length w == 0) (Some k) (at_least_at (k + 1) (n - 1) r) h

-- ---- options

-- where word k begins as an option does
abbrev pub option_at : Verb → (k : ℕ) → List (Option ℕ) → Option Name → List (List ℕ) → Result Command ℕ
option_at verb k values None rest = Err k
option_at verb k values (Some name) rest =
    if is_taken values name then Err k
    else if is_flag (value_of_name name) then words_at None verb (k + 1) (with_value values name 1) rest
    else words_at (Some name) verb (k + 1) values rest

by_option : (verb : Verb) (k : ℕ) (values : List (Option ℕ)) (o : Option Name) (rest : List (List ℕ))
    → option_at verb k values o rest ≡ elim o [
      | None ↦ Err k
      | Some name ↦
          if is_taken values name then Err k
          else if is_flag (value_of_name name) then words_at None verb (k + 1) (with_value values name 1) rest
          else words_at (Some name) verb (k + 1) values rest
    ]
by_option verb k values None rest = refl
by_option verb k values (Some name) rest = refl

pub option_word : (verb : Verb) (k : ℕ) (values : List (Option ℕ)) (word : List ℕ) (rest : List (List ℕ)) → is_option word ≡ true
    → option_at verb k values (name_of verb word) rest ≡ words_at None verb k values (word ∷ rest)
option_word verb k values word rest h =
    by_option verb k values (name_of verb word) rest
    ∙ if_true (is_option word) (
    elim (name_of verb word) [
      | None ↦ Err k
      | Some name ↦
          if is_taken values name then Err k
          else if is_flag (value_of_name name) then words_at None verb (k + 1) (with_value values name 1) rest
          else words_at (Some name) verb (k + 1) values rest
    ]
    ) (operands_at verb values k word rest) h

pub operand_word : (verb : Verb) (k : ℕ) (values : List (Option ℕ)) (word : List ℕ) (rest : List (List ℕ)) → is_option word ≡ false
    → operands_at verb values k word rest ≡ words_at None verb k values (word ∷ rest)
operand_word verb k values word rest h = if_false (is_option word) (
    elim (name_of verb word) [
      | None ↦ Err k
      | Some name ↦
          if is_taken values name then Err k
          else if is_flag (value_of_name name) then words_at None verb (k + 1) (with_value values name 1) rest
          else words_at (Some name) verb (k + 1) values rest
    ]
    ) (operands_at verb values k word rest) h

-- an option that the command lacks, or that was given
pub no_option : (verb : Verb) (k : ℕ) (values : List (Option ℕ)) (o : Option Name) (rest : List (List ℕ)) → o ≡ None → Err k ≡ option_at verb k values o rest
no_option verb k values o rest h = ap (λ q. option_at verb k values q rest) (sym h)

pub twice : (verb : Verb) (k : ℕ) (values : List (Option ℕ)) (o : Option Name) (name : Name) (rest : List (List ℕ)) → o ≡ Some name → is_taken values name ≡ true → Err k ≡ option_at verb k values o rest
twice verb k values o name rest h g =
    if_true (is_taken values name) (Err k) (if is_flag (value_of_name name) then words_at None verb (k + 1) (with_value values name 1) rest else words_at (Some name) verb (k + 1) values rest) g
    ∙ ap (λ q. option_at verb k values q rest) (sym h)

pub flagged : (verb : Verb) (k : ℕ) (values : List (Option ℕ)) (o : Option Name) (name : Name) (rest : List (List ℕ)) → o ≡ Some name → is_taken values name ≡ false → is_flag (value_of_name name) ≡ true
    → words_at None verb (k + 1) (with_value values name 1) rest ≡ option_at verb k values o rest
flagged verb k values o name rest h g f =
    if_true (is_flag (value_of_name name)) (words_at None verb (k + 1) (with_value values name 1) rest) (words_at (Some name) verb (k + 1) values rest) f
    ∙ (if_false (is_taken values name) (Err k) (if is_flag (value_of_name name) then words_at None verb (k + 1) (with_value values name 1) rest else words_at (Some name) verb (k + 1) values rest) g
    ∙ ap (λ q. option_at verb k values q rest) (sym h))

pub valued : (verb : Verb) (k : ℕ) (values : List (Option ℕ)) (o : Option Name) (name : Name) (rest : List (List ℕ)) → o ≡ Some name → is_taken values name ≡ false → is_flag (value_of_name name) ≡ false
    → words_at (Some name) verb (k + 1) values rest ≡ option_at verb k values o rest
valued verb k values o name rest h g f =
    if_false (is_flag (value_of_name name)) (words_at None verb (k + 1) (with_value values name 1) rest) (words_at (Some name) verb (k + 1) values rest) f
    ∙ (if_false (is_taken values name) (Err k) (if is_flag (value_of_name name) then words_at None verb (k + 1) (with_value values name 1) rest else words_at (Some name) verb (k + 1) values rest) g
    ∙ ap (λ q. option_at verb k values q rest) (sym h))

pub value_by : (verb : Verb) (k : ℕ) (values : List (Option ℕ)) (name : Name) (word : List ℕ) (rest : List (List ℕ)) (o : Option ℕ) → meaning (value_of_name name) k word ≡ o
    → elim o [ None ↦ Err k | Some n ↦ words_at None verb (k + 1) (with_value values name n) rest ] ≡ words_at (Some name) verb k values (word ∷ rest)
value_by verb k values name word rest o h = ap (λ (q : Option ℕ). elim q as (λ _. Result Command ℕ) [ None ↦ Err k | Some n ↦ words_at None verb (k + 1) (with_value values name n) rest ]) (sym h)

pub value_means : (verb : Verb) (k : ℕ) (values : List (Option ℕ)) (name : Name) (word : List ℕ) (rest : List (List ℕ)) (n : ℕ) → meaning (value_of_name name) k word ≡ Some n
    → words_at None verb (k + 1) (with_value values name n) rest ≡ words_at (Some name) verb k values (word ∷ rest)
value_means verb k values name word rest n h = value_by verb k values name word rest (Some n) h

pub value_means_none : (verb : Verb) (k : ℕ) (values : List (Option ℕ)) (name : Name) (word : List ℕ) (rest : List (List ℕ)) → meaning (value_of_name name) k word ≡ None
    → Err k ≡ words_at (Some name) verb k values (word ∷ rest)
value_means_none verb k values name word rest h = value_by verb k values name word rest None h

-- a number behind which more words stand
pub number_followed : (k n : ℕ) (o : Option ℕ) (rest : List (Bor (List ℕ))) → o ≡ Some n → (length rest == 0) ≡ false → Some (k + 1) ≡ past_number k o (texts rest)
number_followed k n None rest h more = absurd (cc)
number_followed k n (Some m) [] h more = absurd (cc)
number_followed k n (Some m) (word ∷ rest) h more = refl

-- the word at i is one too many, or is empty
pub past_at : (ws : List (Bor (List ℕ))) (i k n : ℕ) → i < length ws → (n == 0) ≡ true → Some k ≡ exactly_at k n (texts (drop i ws))
past_at [] i k n lt none = absurd (omega (arith, lt))
past_at (w ∷ ws) i k n lt none = exactly_past k n (get_or (w ∷ ws) i w).now (texts (drop (i + 1) (w ∷ ws))) none ∙ ap (exactly_at k n) (sym (texts_drop (w ∷ ws) i w lt))

pub empty_at_place : (ws : List (Bor (List ℕ))) (i k n : ℕ) (d : Bor (List ℕ)) → i < length ws → (length (get_or ws i d).now == 0) ≡ true → Some k ≡ exactly_at k n (texts (drop i ws))
empty_at_place ws i k n d lt empty = exactly_empty k n (get_or ws i d).now (texts (drop (i + 1) ws)) empty ∙ ap (exactly_at k n) (sym (texts_drop ws i d lt))

-- the same, of so many at most
pub past_most_at : (ws : List (Bor (List ℕ))) (i k n : ℕ) → i < length ws → (n == 0) ≡ true → Some k ≡ at_most_at k n (texts (drop i ws))
past_most_at [] i k n lt none = absurd (omega (arith, lt))
past_most_at (w ∷ ws) i k n lt none = at_most_past k n (get_or (w ∷ ws) i w).now (texts (drop (i + 1) (w ∷ ws))) none ∙ ap (at_most_at k n) (sym (texts_drop (w ∷ ws) i w lt))

pub empty_most_at : (ws : List (Bor (List ℕ))) (i k n : ℕ) (d : Bor (List ℕ)) → i < length ws → (length (get_or ws i d).now == 0) ≡ true → Some k ≡ at_most_at k n (texts (drop i ws))
empty_most_at ws i k n d lt empty = at_most_empty k n (get_or ws i d).now (texts (drop (i + 1) ws)) empty ∙ ap (at_most_at k n) (sym (texts_drop ws i d lt))

-- ---- an option with its value

abbrev pub behind : List (Bor (List ℕ)) → List (Bor (List ℕ))
behind ws = take (length ws - 1) (drop 1 ws)

pub behind_first : (w : Bor (List ℕ)) (ws : List (Bor (List ℕ))) → behind (w ∷ ws) ≡ ws
behind_first w ws =
    let count : length (w ∷ ws) - 1 ≡ length ws = omega arith in
    ap (λ j. take j ws) count ∙ take_all (length ws) ws (omega arith)

-- the value is the first of these words
value_more : (verb : Verb) (ws : List (Bor (List ℕ))) (k n : ℕ) (values : List (Option ℕ)) (name : Name) (e : Bor (List ℕ)) → 1 ≤ length ws → meaning (value_of_name name) k (get_or ws 0 e).now ≡ Some n
    → words_at None verb (k + 1) (with_value values name n) (texts (behind ws)) ≡ words_at (Some name) verb k values (texts ws)
value_more verb [] k n values name e some means = absurd (omega (arith, some))
value_more verb (w ∷ ws) k n values name e some means =
    ap (λ (r : List (Bor (List ℕ))). words_at None verb (k + 1) (with_value values name n) (texts r)) (behind_first w ws) ∙ value_means verb k values name w.now (texts ws) n means

pub valued_more : (verb : Verb) (ws : List (Bor (List ℕ))) (k n : ℕ) (values : List (Option ℕ)) (name : Name) (d e : Bor (List ℕ)) → 1 ≤ length ws → 1 ≤ length (behind ws)
    → is_option (get_or ws 0 d).now ≡ true → name_of verb (get_or ws 0 d).now ≡ Some name → is_taken values name ≡ false → is_flag (value_of_name name) ≡ false
    → meaning (value_of_name name) (k + 1) (get_or (behind ws) 0 e).now ≡ Some n
    → words_at None verb (k + 2) (with_value values name n) (texts (behind (behind ws))) ≡ words_at None verb k values (texts ws)
valued_more verb [] k n values name d e some more option named new flag means = absurd (omega (arith, some))
valued_more verb (w ∷ ws) k n values name d e some more option named new flag means =
    let two : k + 2 ≡ k + 1 + 1 = omega arith in
    ap (λ j. words_at None verb j (with_value values name n) (texts (behind (behind (w ∷ ws))))) two
    ∙ value_more verb (behind (w ∷ ws)) (k + 1) n values name e more means
    ∙ ap (λ (r : List (Bor (List ℕ))). words_at (Some name) verb (k + 1) values (texts r)) (behind_first w ws)
    ∙ valued verb k values (name_of verb w.now) name (texts ws) named new flag
    ∙ option_word verb k values w.now (texts ws) option

pub count_behind : (ws : List (Bor (List ℕ))) → 1 ≤ length ws → length (behind ws) + 1 ≡ length ws
count_behind [] some = absurd (omega (arith, some))
count_behind (w ∷ ws) some = omega (arith, ap length (behind_first w ws))

-- ---- the first word

pub verb_first : (ws : List (Bor (List ℕ))) (d : Bor (List ℕ)) (verb : Verb) → 1 ≤ length ws → verb_named (get_or ws 0 d).now ≡ Some verb → words_at None verb 1 none_given (texts (behind ws)) ≡ command_of (texts ws)
verb_first [] d verb some named = absurd (omega (arith, some))
verb_first (w ∷ ws) d verb some named =
    ap (λ (r : List (Bor (List ℕ))). words_at None verb 1 none_given (texts r)) (behind_first w ws)
    ∙ ap (λ (o : Option Verb). elim o as (λ _. Result Command ℕ) [ None ↦ Err 0 | Some v ↦ words_at None v 1 none_given (texts ws) ]) (sym named)
