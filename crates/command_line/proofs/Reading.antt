-- A command's words are read as that command.
use Rattle.std.proofs.Common.{◌≡◌, ℕ, zero, suc, ◌+◌, ◌-◌, ◌<◌, ◌≤◌, true, false, List, [], ◌∷◌, ◌++◌, length, get_or, Some, None, Ok, inl, inr, refl, sym, ap, ◌∙◌, subst, arith, append_assoc, length-append}
use Rattle.std.specs.Prelude.{◌==◌, Err, is_some, unwrap_or, Contains, All, Any}
use Rattle.std.specs.declared.option.Option.{Option}
use Rattle.std.specs.declared.result.Result.{Result}
use Rattle.std.specs.List.{flat_map, list_any}
use Rattle.std.specs.Option.{option_to_list}
use Rattle.std.proofs.lemmas.Bool.Decides.{nat_tests}
use Rattle.std.proofs.lemmas.List.Folds.{list_any_at}
use Rattle.std.proofs.lemmas.List.Sums.{list_all-from_AllPass}
use Rattle.command_line.specs.declared.table.Verb.{Verb}
use Rattle.command_line.specs.declared.table.Name.{Name}
use Rattle.command_line.specs.declared.command.Command.{Command}
use Rattle.command_line.specs.Table.{name_word, names_of, name_of, required_of, OptionValue, Nothing, AWord, ANumber, OneOf, value_of_name, OperandCount, Exactly, AtMost, AtLeast, Number, operands_of}
use Rattle.command_line.specs.Command.{given, with_value, none_given, is_taken, has_required, is_flag, made, exactly_at, at_most_at, at_least_at, past_number, number_from, operands_stop, operand_number, unless_stopped, words_at, command_of}
use Rattle.command_line.specs.Grammar.{Chosen, words_chosen, Means, AreChosen, IsNoneOf, AreOnce, values_from, AreOperands, BeginsWithNoOption, IsCommand}
use Rattle.command_line.proofs.Numbers.{number-some}
use Rattle.command_line.proofs.WordLemmas.{if_true, option_word, operand_word, flagged, valued, value_means, exactly_step, at_most_step, at_least_step}
use Rattle.command_line.proofs.Stored.{IsFull, full_with, given-same, given-other, same_or_other, none_taken, untaken_with, option_of_word, named_by_word, verb_of_word}
use Rattle.command_line.proofs.Meanings.{means-meaning}

-- ---- options

-- none of the options was given before, nor one that excludes it
abbrev pub AreNew : List (Option ℕ) → List Chosen → Type 0
AreNew values [] = Unit {0}
AreNew values (c ∷ cs) = (is_taken values c.name ≡ false) × AreNew values cs

new_later : (values : List (Option ℕ)) (a : Name) (n : ℕ) (cs : List Chosen) → AreNew values cs → IsNoneOf a cs → AreNew (with_value values a n) cs
new_later values a n [] new none = tt
new_later values a n (c ∷ cs) new none = (untaken_with values a c.name n new.0 none.0, new_later values a n cs new.1 none.1)

-- one option, with what it takes
one_flag : (verb : Verb) (k : ℕ) (values : List (Option ℕ)) (name : Name) (v : OptionValue) (n : ℕ) (rest : List (List ℕ)) → Contains (names_of verb) name → is_taken values name ≡ false → value_of_name name ≡ v → Means v (k + 1) None n
    → words_at None verb (k + 1) (with_value values name n) rest ≡ words_at None verb k values (name_word name ∷ rest)
one_flag verb k values name Nothing n rest has new is means =
    ap (λ m. words_at None verb (k + 1) (with_value values name m) rest) means
    ∙ flagged verb k values (name_of verb (name_word name)) name rest (named_by_word verb name has) new (ap is_flag is)
    ∙ option_word verb k values (name_word name) rest (option_of_word name)
one_flag verb k values name AWord n rest has new is means = absurd means
one_flag verb k values name (ANumber from to) n rest has new is means = absurd means
one_flag verb k values name (OneOf ns) n rest has new is means = absurd means

takes_value : (v : OptionValue) (k : ℕ) (word : List ℕ) (n : ℕ) → Means v k (Some word) n → is_flag v ≡ false
takes_value Nothing k word n h = absurd h
takes_value AWord k word n h = refl
takes_value (ANumber from to) k word n h = refl
takes_value (OneOf ns) k word n h = refl

pub one_valued : (verb : Verb) (k : ℕ) (values : List (Option ℕ)) (name : Name) (word : List ℕ) (n : ℕ) (rest : List (List ℕ)) → Contains (names_of verb) name → is_taken values name ≡ false → Means (value_of_name name) (k + 1) (Some word) n
    → words_at None verb (k + 2) (with_value values name n) rest ≡ words_at None verb k values (name_word name ∷ word ∷ rest)
one_valued verb k values name word n rest has new means =
    let two : k + 2 ≡ k + 1 + 1 = omega arith in
    ap (λ j. words_at None verb j (with_value values name n) rest) two
    ∙ value_means verb (k + 1) values name word rest n (means-meaning (value_of_name name) (k + 1) word n means)
    ∙ valued verb k values (name_of verb (name_word name)) name (word ∷ rest) (named_by_word verb name has) new (takes_value (value_of_name name) (k + 1) word n means)
    ∙ option_word verb k values (name_word name) (word ∷ rest) (option_of_word name)

one : (verb : Verb) (k : ℕ) (values : List (Option ℕ)) (name : Name) (value : Option (List ℕ)) (n : ℕ) (rest : List (List ℕ)) → Contains (names_of verb) name → is_taken values name ≡ false → Means (value_of_name name) (k + 1) value n
    → words_at None verb (k + length (name_word name ∷ option_to_list value)) (with_value values name n) rest ≡ words_at None verb k values ((name_word name ∷ option_to_list value) ++ rest)
one verb k values name None n rest has new means = one_flag verb k values name (value_of_name name) n rest has new refl means
one verb k values name (Some word) n rest has new means = one_valued verb k values name word n rest has new means

pub options_read : (verb : Verb) (k : ℕ) (values : List (Option ℕ)) (cs : List Chosen) (rest : List (List ℕ)) → AreChosen verb k cs → AreOnce cs → AreNew values cs
    → words_at None verb (k + length (flat_map words_chosen cs)) (values_from values cs) rest ≡ words_at None verb k values (flat_map words_chosen cs ++ rest)
options_read verb k values [] rest chosen once new =
    let same : k + 0 ≡ k = omega arith in
    ap (λ j. words_at None verb j values rest) same
options_read verb k values (c ∷ cs) rest chosen once new =
    let place : k + length (words_chosen c ++ flat_map words_chosen cs) ≡ k + length (words_chosen c) + length (flat_map words_chosen cs) = omega (arith, length-append (words_chosen c) (flat_map words_chosen cs)) in
    ap (λ j. words_at None verb j (values_from (with_value values c.name c.means) cs) rest) place
    ∙ options_read verb (k + length (words_chosen c)) (with_value values c.name c.means) cs rest chosen.2 once.1 (new_later values c.name c.means cs new.1 once.0)
    ∙ one verb k values c.name c.value c.means (flat_map words_chosen cs ++ rest) chosen.0 new.0 chosen.1
    ∙ ap (words_at None verb k values) (sym (append_assoc (words_chosen c) (flat_map words_chosen cs) rest))

-- ---- the options that have to be given

given_stays : (values : List (Option ℕ)) (cs : List Chosen) (name : Name) → IsFull values → is_some (given values name) ≡ true → is_some (given (values_from values cs) name) ≡ true
given_stays values [] name full h = h
given_stays values (c ∷ cs) name full h = given_stays (with_value values c.name c.means) cs name (full_with values c.name c.means full) (elim (same_or_other c.name name) [
  | inl same ↦ subst (λ (b : Name). is_some (given (with_value values c.name c.means) b) ≡ true) same (ap is_some (given-same values c.name c.means full))
  | inr other ↦ ap is_some (given-other values c.name name c.means other) ∙ h
])

chosen_given : (values : List (Option ℕ)) (cs : List Chosen) (name : Name) (k : ℕ) (x : Chosen) → IsFull values → k < length cs → get_or cs k x ≡ x → x.name ≡ name → is_some (given (values_from values cs) name) ≡ true
chosen_given values [] name k x full lt is named = absurd (omega (arith, lt))
chosen_given values (c ∷ cs) name zero x full lt is named =
    let same : c.name ≡ name = ap (λ (y : Chosen). y.name) is ∙ named in
    given_stays (with_value values c.name c.means) cs name (full_with values c.name c.means full) (subst (λ (b : Name). is_some (given (with_value values c.name c.means) b) ≡ true) same (ap is_some (given-same values c.name c.means full)))
chosen_given values (c ∷ cs) name (suc k) x full lt is named = chosen_given (with_value values c.name c.means) cs name k x (full_with values c.name c.means full) (omega (arith, lt)) is named

pub required_given : (verb : Verb) (cs : List Chosen) → All (λ group. Any (λ (c : Chosen). Contains group c.name) cs) (required_of verb) → has_required verb (values_from none_given cs) ≡ true
required_given verb cs h = list_all-from_AllPass (λ group. list_any (λ name. is_some (given (values_from none_given cs) name)) group) (required_of verb) (λ i d lt.
    let chosen = h i d lt in
    let is = chosen_given none_given cs chosen.1.name chosen.0 chosen.1 refl chosen.2 chosen.3 refl in
    let at = chosen.4 in
    list_any_at (λ name. is_some (given (values_from none_given cs) name)) (get_or (required_of verb) i d) at.0 chosen.1.name at.1
    (subst (λ (name : Name). is_some (given (values_from none_given cs) name) ≡ true) (sym at.2) is))

-- ---- operands

some_words : (w : List ℕ) (ws : List (List ℕ)) → All (λ word. 0 < length word) (w ∷ ws) → ((length w == 0) ≡ false) × All (λ word. 0 < length word) ws
some_words w ws all =
    let first : 0 < length w = all 0 w (omega arith) in
    (grind (arith, nat_tests), λ k d lt. all (suc k) d (omega (arith, lt)))

exactly_none : (k n : ℕ) (ws : List (List ℕ)) → length ws ≡ n → All (λ word. 0 < length word) ws → exactly_at k n ws ≡ None
exactly_none k n [] many all = ap (λ j. exactly_at k j []) (sym many)
exactly_none k n (w ∷ ws) many all =
    let some = some_words w ws all in
    let more : (n == 0) ≡ false = grind (arith, nat_tests) in
    sym (exactly_step k n w ws more some.0) ∙ exactly_none (k + 1) (n - 1) ws (omega (arith, many)) some.1

at_most_none : (k n : ℕ) (ws : List (List ℕ)) → length ws ≤ n → All (λ word. 0 < length word) ws → at_most_at k n ws ≡ None
at_most_none k n [] few all = refl
at_most_none k n (w ∷ ws) few all =
    let some = some_words w ws all in
    let more : (n == 0) ≡ false = grind (arith, nat_tests) in
    sym (at_most_step k n w ws more some.0) ∙ at_most_none (k + 1) (n - 1) ws (omega (arith, few)) some.1

at_least_none : (k n : ℕ) (ws : List (List ℕ)) → n ≤ length ws → All (λ word. 0 < length word) ws → at_least_at k n ws ≡ None
at_least_none k n [] many all =
    let none : n ≡ 0 = omega (arith, many) in
    ap (λ j. at_least_at k j []) none
at_least_none k n (w ∷ ws) many all = let some = some_words w ws all in sym (at_least_step k n w ws some.0) ∙ at_least_none (k + 1) (n - 1) ws (omega (arith, many)) some.1

unstopped : (o : OperandCount) (k : ℕ) (w : List ℕ) (ws : List (List ℕ)) (n : ℕ) → AreOperands o (w ∷ ws) n → (operands_stop o k w ws ≡ None) × (operand_number o w ws ≡ n)
unstopped (Exactly m) k w ws n h = (exactly_none k m (w ∷ ws) h.0 h.1, sym h.2)
unstopped (AtMost m) k w ws n h = let many = h.3 in (at_most_none k m (w ∷ ws) h.1 h.2, omega (arith, many))
unstopped (AtLeast m) k w ws n h = (at_least_none k m (w ∷ ws) h.0 h.1, sym h.2)
unstopped (Number from to) k w ws n h =
    let same : w ≡ h.0 = cc in
    let last : ws ≡ [] = cc in
    let read : number_from from to w ≡ Some n = ap (number_from from to) same ∙ sym (number-some from to h.0 n h.2) in
    (ap (past_number k (number_from from to w)) last ∙ ap (λ o. past_number k o []) read, ap (λ (o : Option ℕ). unwrap_or o 0) read)

pub operands_read : (verb : Verb) (k : ℕ) (values : List (Option ℕ)) (words : List (List ℕ)) (n : ℕ) → has_required verb values ≡ true → BeginsWithNoOption words → AreOperands (operands_of verb) words n
    → words_at None verb k values words ≡ Ok (made verb values k n)
operands_read verb k values [] n required first operands = absurd first
operands_read verb k values (w ∷ ws) n required first operands =
    let on = unstopped (operands_of verb) k w ws n operands in
    sym (operand_word verb k values w ws first)
    ∙ sym (if_true (has_required verb values) (unless_stopped (operands_stop (operands_of verb) k w ws) (made verb values k (operand_number (operands_of verb) w ws))) (Err k) required)
    ∙ ap (λ stop. unless_stopped stop (made verb values k (operand_number (operands_of verb) w ws))) on.0
    ∙ ap (λ j. Ok (made verb values k j)) on.1

-- ---- the whole

none_before : (cs : List Chosen) → AreNew none_given cs
none_before [] = tt
none_before (c ∷ cs) = (none_taken c.name, none_before cs)

pub commands_read : (words : List (List ℕ)) (command : Command) → IsCommand words command → command_of words ≡ Ok command
commands_read words command is =
    ap command_of is.words_are
    ∙ ap (λ (o : Option Verb). elim o as (λ _. Result Command ℕ) [ None ↦ Err 0 | Some verb ↦ words_at None verb 1 none_given (flat_map words_chosen is.options ++ is.operands) ]) (verb_of_word is.verb)
    ∙ sym (options_read is.verb 1 none_given is.options is.operands is.chosen is.once (none_before is.options))
    ∙ operands_read is.verb (1 + length (flat_map words_chosen is.options)) (values_from none_given is.options) is.operands is.number (required_given is.verb is.options is.required) is.first is.are_operands
    ∙ ap (λ c. Ok c) (sym is.command_is)
