-- What is read of words is a command that they are.
use Rattle.std.proofs.Common.{◌≡◌, ℕ, suc, ◌+◌, ◌-◌, ◌<◌, ◌≤◌, true, false, List, [], ◌∷◌, ◌++◌, length, get_or, Some, None, Ok, inl, inr, refl, sym, ap, ◌∙◌, subst, arith, append_assoc, length-append}
use Rattle.std.specs.Prelude.{◌==◌, Err, is_some, unwrap_or, Contains, All, Any, if◌then◌else◌}
use Rattle.std.specs.declared.option.Option.{Option}
use Rattle.std.specs.declared.result.Result.{Result}
use Rattle.std.specs.List.{flat_map, list_any}
use Rattle.std.proofs.lemmas.Bool.{cases_Bool}
use Rattle.std.proofs.lemmas.Bool.Decides.{nat_tests}
use Rattle.std.proofs.lemmas.List.Elements.{All-cons, All-nil}
use Rattle.std.proofs.lemmas.List.Folds.{Any-from_list_any}
use Rattle.std.proofs.lemmas.List.Sums.{AllPass-from_list_all}
use Rattle.command_line.specs.declared.table.Verb.{Verb}
use Rattle.command_line.specs.declared.table.Name.{Name}
use Rattle.command_line.specs.declared.command.Command.{Command}
use Rattle.command_line.specs.Table.{name_word, names_of, verb_word, verb_named, name_of, required_of, OptionValue, Nothing, AWord, ANumber, OneOf, value_of_name, OperandCount, Exactly, AtMost, AtLeast, Number, operands_of}
use Rattle.command_line.specs.Command.{is_option, given, with_value, none_given, is_taken, has_required, is_flag, meaning, made, exactly_at, at_most_at, at_least_at, past_number, number_from, operands_stop, operand_number, unless_stopped, operands_at, words_at, command_of}
use Rattle.command_line.specs.Grammar.{Chosen, words_chosen, Means, AreChosen, IsNoneOf, AreOnce, values_from, AreOperands, BeginsWithNoOption, IsCommand}
use Rattle.command_line.proofs.Numbers.{number-means}
use Rattle.command_line.proofs.WordLemmas.{if_true, if_false, option_at, option_word, operand_word, value_by, exactly_step, exactly_past, exactly_empty, at_most_step, at_most_past, at_most_empty, at_least_step, at_least_empty}
use Rattle.command_line.proofs.Stored.{IsFull, full_with, given-other, same_or_other, not_given, untaken_before, word_of_name, word_of_verb}
use Rattle.command_line.proofs.Meanings.{length_some, meaning-means}
use Rattle.command_line.proofs.Reading.{AreNew}

-- ---- operands

exactly_words : (k n : ℕ) (ws : List (List ℕ)) → exactly_at k n ws ≡ None → (length ws ≡ n) × All (λ word. 0 < length word) ws
exactly_words k n [] h = elim (cases_Bool (n == 0)) [
  | inl e ↦ (grind (arith, nat_tests), All-nil (λ (word : List ℕ). 0 < length word))
  | inr e ↦ let so : Some k ≡ exactly_at k n [] = if_false (n == 0) None (Some k) e in absurd (cc)
]
exactly_words k n (w ∷ ws) h = elim (cases_Bool (n == 0)) [
  | inl e ↦ let so = exactly_past k n w ws e in absurd (cc)
  | inr e ↦ elim (cases_Bool (length w == 0)) [
    | inl f ↦ let so = exactly_empty k n w ws f in absurd (cc)
    | inr f ↦
        let later = exactly_words (k + 1) (n - 1) ws (exactly_step k n w ws e f ∙ h) in
        let many = later.0 in
        let more : 0 < n = grind (arith, nat_tests) in
        (omega (arith, many, more), All-cons (λ (word : List ℕ). 0 < length word) w ws (length_some w f) later.1)
  ]
]

at_most_words : (k n : ℕ) (ws : List (List ℕ)) → at_most_at k n ws ≡ None → (length ws ≤ n) × All (λ word. 0 < length word) ws
at_most_words k n [] h = (omega arith, All-nil (λ (word : List ℕ). 0 < length word))
at_most_words k n (w ∷ ws) h = elim (cases_Bool (n == 0)) [
  | inl e ↦ let so = at_most_past k n w ws e in absurd (cc)
  | inr e ↦ elim (cases_Bool (length w == 0)) [
    | inl f ↦ let so = at_most_empty k n w ws f in absurd (cc)
    | inr f ↦
        let later = at_most_words (k + 1) (n - 1) ws (at_most_step k n w ws e f ∙ h) in
        let few = later.0 in
        let more : 0 < n = grind (arith, nat_tests) in
        (omega (arith, few, more), All-cons (λ (word : List ℕ). 0 < length word) w ws (length_some w f) later.1)
  ]
]

at_least_words : (k n : ℕ) (ws : List (List ℕ)) → at_least_at k n ws ≡ None → (n ≤ length ws) × All (λ word. 0 < length word) ws
at_least_words k n [] h = elim (cases_Bool (n == 0)) [
  | inl e ↦ (grind (arith, nat_tests), All-nil (λ (word : List ℕ). 0 < length word))
  | inr e ↦ let so : Some k ≡ at_least_at k n [] = if_false (n == 0) None (Some k) e in absurd (cc)
]
at_least_words k n (w ∷ ws) h = elim (cases_Bool (length w == 0)) [
  | inl f ↦ let so = at_least_empty k n w ws f in absurd (cc)
  | inr f ↦
      let later = at_least_words (k + 1) (n - 1) ws (at_least_step k n w ws f ∙ h) in
      let many = later.0 in
      (omega (arith, many), All-cons (λ (word : List ℕ). 0 < length word) w ws (length_some w f) later.1)
]

number_words : (from to k : ℕ) (w : List ℕ) (ws : List (List ℕ)) (o : Option ℕ) → number_from from to w ≡ o → past_number k o ws ≡ None → AreOperands (Number from to) (w ∷ ws) (unwrap_or o 0)
number_words from to k w ws None read h = absurd (cc)
number_words from to k w [] (Some n) read h = (w, refl, number-means from to w n read)
number_words from to k w (more ∷ ws) (Some n) read h = absurd (cc)

operand_words : (o : OperandCount) (k : ℕ) (w : List ℕ) (ws : List (List ℕ)) → operands_stop o k w ws ≡ None → AreOperands o (w ∷ ws) (operand_number o w ws)
operand_words (Exactly m) k w ws h = let is = exactly_words k m (w ∷ ws) h in (is.0, is.1, refl)
operand_words (AtMost m) k w ws h = let is = at_most_words k m (w ∷ ws) h in (omega arith, is.0, is.1, omega arith)
operand_words (AtLeast m) k w ws h = let is = at_least_words k m (w ∷ ws) h in (is.0, is.1, refl)
operand_words (Number from to) k w ws h = number_words from to k w ws (number_from from to w) refl h

-- ---- options and operands behind them

record Told (verb : Verb) (k : ℕ) (values : List (Option ℕ)) (words : List (List ℕ)) (command : Command) : Type 0 where
  options : List Chosen
  operands : List (List ℕ)
  number : ℕ
  words_are : words ≡ flat_map words_chosen options ++ operands
  chosen : AreChosen verb k options
  once : AreOnce options
  new : AreNew values options
  required : has_required verb (values_from values options) ≡ true
  first : BeginsWithNoOption operands
  are_operands : AreOperands (operands_of verb) operands number
  command_is : command ≡ made verb (values_from values options) (k + length (flat_map words_chosen options)) number

abbrev TellsAt : Option Name → Verb → (k : ℕ) → List (Option ℕ) → List (List ℕ) → Command → Type 0
TellsAt None verb k values words command = Told verb k values words command
TellsAt (Some name) verb k values words command =
    (word : List ℕ) × (rest : List (List ℕ)) × (n : ℕ) × (words ≡ word ∷ rest) × (meaning (value_of_name name) k word ≡ Some n) × Told verb (k + 1) (with_value values name n) rest command

unless_parts : (stop : Option ℕ) (made command : Command) → unless_stopped stop made ≡ Ok command → (stop ≡ None) × (made ≡ command)
unless_parts None made command h = (refl, cc)
unless_parts (Some k) made command h = absurd (cc)

told_operands : (verb : Verb) (k : ℕ) (values : List (Option ℕ)) (w : List ℕ) (ws : List (List ℕ)) (command : Command) → is_option w ≡ false → operands_at verb values k w ws ≡ Ok command → Told verb k values (w ∷ ws) command
told_operands verb k values w ws command none h = elim (cases_Bool (has_required verb values)) [
  | inl e ↦
      let parts = unless_parts (operands_stop (operands_of verb) k w ws) (made verb values k (operand_number (operands_of verb) w ws)) command
      (if_true (has_required verb values) (unless_stopped (operands_stop (operands_of verb) k w ws) (made verb values k (operand_number (operands_of verb) w ws))) (Err k) e ∙ h) in
      let same : k + 0 ≡ k = omega arith in
      record {
        options = [];
        operands = w ∷ ws;
        number = operand_number (operands_of verb) w ws;
        words_are = refl;
        chosen = tt;
        once = tt;
        new = tt;
        required = e;
        first = none;
        are_operands = operand_words (operands_of verb) k w ws parts.0;
        command_is = sym parts.1 ∙ ap (λ j. made verb values j (operand_number (operands_of verb) w ws)) (sym same);
      }
  | inr e ↦
      let so : Err k ≡ operands_at verb values k w ws = if_false (has_required verb values) (unless_stopped (operands_stop (operands_of verb) k w ws) (made verb values k (operand_number (operands_of verb) w ws))) (Err k) e in
      absurd (cc)
]

-- what was new behind an option was new before it, and isn't excluded by it
new_before : (values : List (Option ℕ)) (a : Name) (n : ℕ) (cs : List Chosen) → IsFull values → AreNew (with_value values a n) cs → AreNew values cs × IsNoneOf a cs
new_before values a n [] full new = (tt, tt)
new_before values a n (c ∷ cs) full new =
    let later = new_before values a n cs full new.1 in
    let before = untaken_before values a c.name n full new.0 in
    ((before.0, later.0), (before.1, later.1))

add_option : (verb : Verb) (k : ℕ) (values : List (Option ℕ)) (c : Chosen) (words rest : List (List ℕ)) (command : Command) → IsFull values → words ≡ words_chosen c ++ rest → Contains (names_of verb) c.name
    → Means (value_of_name c.name) (k + 1) c.value c.means → is_taken values c.name ≡ false → Told verb (k + length (words_chosen c)) (with_value values c.name c.means) rest command → Told verb k values words command
add_option verb k values c words rest command full are has means new t =
    let before = new_before values c.name c.means t.options full t.new in
    let place : k + length (words_chosen c) + length (flat_map words_chosen t.options) ≡ k + length (words_chosen c ++ flat_map words_chosen t.options) = omega (arith, length-append (words_chosen c) (flat_map words_chosen t.options)) in
    record {
      options = c ∷ t.options;
      operands = t.operands;
      number = t.number;
      words_are = are ∙ ap (λ r. words_chosen c ++ r) t.words_are ∙ sym (append_assoc (words_chosen c) (flat_map words_chosen t.options) t.operands);
      chosen = (has, means, t.chosen);
      once = (before.1, t.once);
      new = (new, before.0);
      required = t.required;
      first = t.first;
      are_operands = t.are_operands;
      command_is = t.command_is ∙ ap (λ j. made verb (values_from (with_value values c.name c.means) t.options) j t.number) place;
    }

-- the option of word k, and what is read behind it
told_option : (verb : Verb) (k : ℕ) (values : List (Option ℕ)) (word : List ℕ) (rest : List (List ℕ)) (command : Command) (o : Option Name) → IsFull values → name_of verb word ≡ o → option_at verb k values o rest ≡ Ok command
    → ((vs : List (Option ℕ)) → IsFull vs → words_at None verb (k + 1) vs rest ≡ Ok command → Told verb (k + 1) vs rest command)
    → ((name : Name) → words_at (Some name) verb (k + 1) values rest ≡ Ok command → TellsAt (Some name) verb (k + 1) values rest command)
    → Told verb k values (word ∷ rest) command
told_option verb k values word rest command None full named h plain valued = absurd (cc)
told_option verb k values word rest command (Some name) full named h plain valued =
    let is = word_of_name verb word name named in
    elim (cases_Bool (is_taken values name)) [
      | inl e ↦
          let so : Err k ≡ option_at verb k values (Some name) rest =
          if_true (is_taken values name) (Err k) (if is_flag (value_of_name name) then words_at None verb (k + 1) (with_value values name 1) rest else words_at (Some name) verb (k + 1) values rest) e in
          absurd (cc)
      | inr e ↦
          let on = if_false (is_taken values name) (Err k) (if is_flag (value_of_name name) then words_at None verb (k + 1) (with_value values name 1) rest else words_at (Some name) verb (k + 1) values rest) e ∙ h in
          elim (cases_Bool (is_flag (value_of_name name))) [
            | inl f ↦
                let t = plain (with_value values name 1) (full_with values name 1 full) (if_true (is_flag (value_of_name name)) (words_at None verb (k + 1) (with_value values name 1) rest) (words_at (Some name) verb (k + 1) values rest) f ∙ on) in
                add_option verb k values (record { name = name; value = None; means = 1 }) (word ∷ rest) rest command full (ap (λ (w : List ℕ). w ∷ rest) is.0) is.1 (flag_means (value_of_name name) (k + 1) f) e t
            | inr f ↦
                let t = valued name (if_false (is_flag (value_of_name name)) (words_at None verb (k + 1) (with_value values name 1) rest) (words_at (Some name) verb (k + 1) values rest) f ∙ on) in
                let two : k + 1 + 1 ≡ k + 2 = omega arith in
                add_option verb k values (record { name = name; value = Some t.0; means = t.2 }) (word ∷ rest) t.1 command full (ap (λ (w : List ℕ). w ∷ rest) is.0 ∙ ap (λ r. name_word name ∷ r) t.3) is.1
                (meaning-means (value_of_name name) (k + 1) t.0 t.2 t.4) e (subst (λ j. Told verb j (with_value values name t.2) t.1 command) two t.5)
          ]
    ]
  where
    flag_means : (v : OptionValue) (k : ℕ) → is_flag v ≡ true → Means v k None 1
    flag_means Nothing k f = refl
    flag_means AWord k f = absurd (cc)
    flag_means (ANumber from to) k f = absurd (cc)
    flag_means (OneOf ns) k f = absurd (cc)

told_value : (verb : Verb) (k : ℕ) (values : List (Option ℕ)) (name : Name) (word : List ℕ) (rest : List (List ℕ)) (command : Command) (o : Option ℕ) → IsFull values → meaning (value_of_name name) k word ≡ o → words_at (Some name) verb k values (word ∷ rest) ≡ Ok command
    → ((vs : List (Option ℕ)) → IsFull vs → words_at None verb (k + 1) vs rest ≡ Ok command → Told verb (k + 1) vs rest command)
    → TellsAt (Some name) verb k values (word ∷ rest) command
told_value verb k values name word rest command None full means h plain = let so = value_by verb k values name word rest None means in absurd (cc)
told_value verb k values name word rest command (Some n) full means h plain = (word, rest, n, refl, means, plain (with_value values name n) (full_with values name n full) (value_by verb k values name word rest (Some n) means ∙ h))

told_word : (verb : Verb) (k : ℕ) (values : List (Option ℕ)) (word : List ℕ) (rest : List (List ℕ)) (command : Command) → IsFull values → words_at None verb k values (word ∷ rest) ≡ Ok command
    → ((vs : List (Option ℕ)) → IsFull vs → words_at None verb (k + 1) vs rest ≡ Ok command → Told verb (k + 1) vs rest command)
    → ((name : Name) → words_at (Some name) verb (k + 1) values rest ≡ Ok command → TellsAt (Some name) verb (k + 1) values rest command)
    → Told verb k values (word ∷ rest) command
told_word verb k values word rest command full h plain valued = elim (cases_Bool (is_option word)) [
  | inl e ↦ told_option verb k values word rest command (name_of verb word) full refl (option_word verb k values word rest e ∙ h) plain valued
  | inr e ↦ told_operands verb k values word rest command e (operand_word verb k values word rest e ∙ h)
]

told : (named : Option Name) (verb : Verb) (k : ℕ) (values : List (Option ℕ)) (words : List (List ℕ)) (command : Command) → IsFull values → words_at named verb k values words ≡ Ok command → TellsAt named verb k values words command
told None verb k values [] command full h = absurd (cc)
told (Some name) verb k values [] command full h = absurd (cc)
told None verb k values (word ∷ rest) command full h = told_word verb k values word rest command full h (λ vs f e. told None verb (k + 1) vs rest command f e) (λ name e. told (Some name) verb (k + 1) values rest command full e)
told (Some name) verb k values (word ∷ rest) command full h = told_value verb k values name word rest command (meaning (value_of_name name) k word) full refl h (λ vs f e. told None verb (k + 1) vs rest command f e)

-- ---- the options that have to be given

given_by : (values : List (Option ℕ)) (cs : List Chosen) (name : Name) → IsFull values → is_some (given (values_from values cs) name) ≡ true → is_some (given values name) ≡ false → Any (λ (c : Chosen). c.name ≡ name) cs
given_by values [] name full h new = absurd (cc)
given_by values (c ∷ cs) name full h new = elim (same_or_other c.name name) [
  | inl same ↦ (0, c, omega arith, refl, same)
  | inr other ↦
      let later = given_by (with_value values c.name c.means) cs name (full_with values c.name c.means full) h (ap is_some (given-other values c.name name c.means other) ∙ new) in
      (suc later.0, later.1, omega (arith, later.2), later.3, later.4)
]

required_are : (verb : Verb) (cs : List Chosen) → has_required verb (values_from none_given cs) ≡ true → All (λ group. Any (λ (c : Chosen). Contains group c.name) cs) (required_of verb)
required_are verb cs h = λ i d lt.
    let group = get_or (required_of verb) i d in
    let all = AllPass-from_list_all (λ names. list_any (λ name. is_some (given (values_from none_given cs) name)) names) (required_of verb) h i d lt in
    let some = Any-from_list_any (λ name. is_some (given (values_from none_given cs) name)) group all in
    let by = given_by none_given cs some.1 refl some.4 (not_given some.1) in
    (by.0, by.1, by.2, by.3, subst (λ (name : Name). Contains group name) (sym by.4) (some.0, some.2, some.3))

-- ---- the whole

by_verb : (o : Option Verb) (word : List ℕ) (rest : List (List ℕ)) (command : Command) → verb_named word ≡ o → elim o as (λ _. Result Command ℕ) [ None ↦ Err 0 | Some verb ↦ words_at None verb 1 none_given rest ] ≡ Ok command → IsCommand (word ∷ rest) command
by_verb None word rest command named h = absurd (cc)
by_verb (Some verb) word rest command named h =
    let t = told None verb 1 none_given rest command refl h in
    record {
      verb = verb;
      options = t.options;
      operands = t.operands;
      number = t.number;
      words_are = ap (λ (w : List ℕ). w ∷ rest) (word_of_verb word verb named) ∙ ap (λ r. verb_word verb ∷ r) t.words_are;
      chosen = t.chosen;
      once = t.once;
      required = required_are verb t.options t.required;
      first = t.first;
      are_operands = t.are_operands;
      command_is = t.command_is;
    }

pub commands_told : (words : List (List ℕ)) (command : Command) → command_of words ≡ Ok command → IsCommand words command
commands_told [] command h = absurd (cc)
commands_told (word ∷ rest) command h = by_verb (verb_named word) word rest command refl h
