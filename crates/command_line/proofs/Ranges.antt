-- The numbers of a command that is read.
use Rattle.std.proofs.Common.{◌≡◌, ℕ, zero, suc, ◌+◌, ◌<◌, ◌≤◌, ◌^◌, Bool, true, false, List, [], ◌∷◌, length, Some, None, Ok, Err, ◌⊎◌, inl, inr, refl, sym, ap, ◌∙◌, subst, arith, length-append}
use Rattle.std.specs.Prelude.{◌&&◌, ◌||◌, is_some, unwrap_or, Contains, IfOk, if◌then◌else◌}
use Rattle.std.specs.declared.option.Option.{Option}
use Rattle.std.specs.declared.result.Result.{Result}
use Rattle.std.specs.List.{flat_map}
use Rattle.std.specs.Option.{option_to_list}
use Rattle.std.specs.Borrow.{Bor}
use Rattle.command_line.specs.declared.table.Verb.{Verb}
use Rattle.command_line.specs.declared.table.Verb.TheVariants.{Link, Run, Trace, Profile, Bound, Report, Plan, Cycle, Check, Loops, Headers, Need, Rtl, Asm, Work}
use Rattle.command_line.specs.declared.table.Name.{Name}
use Rattle.command_line.specs.declared.table.Name.TheVariants.{Main, Method, All, Shapes, Cycles, Stack, Memory, Blocks, BlockWords, Read, Write, Micro, Rounds, Further, Facts}
use Rattle.command_line.specs.declared.command.Command.{Command}
use Rattle.command_line.specs.declared.command.Command.TheVariants as commands
use Rattle.command_line.specs.Table.{name_word, usual, OptionValue, Nothing, AWord, ANumber, OneOf, value_of_name, operands_of}
use Rattle.command_line.specs.Command.{texts, given, with_value, none_given, has_required, value, settings_of, made, command_of}
use Rattle.command_line.specs.Grammar.{Chosen, words_chosen, Means, AreChosen, values_from, AreOperands, IsCommand}
use Rattle.command_line.specs.Range.{AreSettings, HasNumbersInRange, AreThere, OperandsFollow}
use Rattle.command_line.proofs.WordLemmas.{length_texts}
use Rattle.command_line.proofs.Stored.{IsFull, full_with, given-same, given-other, same_or_other}
use Rattle.command_line.proofs.Reading.{required_given}
use Rattle.command_line.proofs.Telling.{commands_told}

-- what the value of an option can mean among n words
abbrev CanMean : OptionValue → (n : ℕ) → ℕ → Type 0
CanMean Nothing n m = Unit {0}
CanMean AWord n m = m < n
CanMean (ANumber from to) n m = (from ≤ m) × (m ≤ to)
CanMean (OneOf ns) n m = Contains ns m

abbrev AreKept : List (Option ℕ) → (n : ℕ) → Type 0
AreKept values n = (name : Name) (m : ℕ) → given values name ≡ Some m → CanMean (value_of_name name) n m

means_can : (v : OptionValue) (k : ℕ) (word : Option (List ℕ)) (m n : ℕ) → (is_some word ≡ true → k < n) → Means v k word m → CanMean v n m
means_can Nothing k word m n there h = tt
means_can AWord k None m n there h = absurd h
means_can AWord k (Some word) m n there h = let below = there refl in omega (arith, h.1, below)
means_can (ANumber from to) k None m n there h = absurd h
means_can (ANumber from to) k (Some word) m n there h = (h.2, h.3)
means_can (OneOf ns) k None m n there h = absurd h
means_can (OneOf ns) k (Some word) m n there h = h.2

value_there : (name : List ℕ) (value : Option (List ℕ)) (k n : ℕ) → k + length (name ∷ option_to_list value) ≤ n → is_some value ≡ true → k + 1 < n
value_there name None k n fits h = absurd (cc)
value_there name (Some word) k n fits h = omega (arith, fits)

kept_with : (values : List (Option ℕ)) (a : Name) (x n : ℕ) → IsFull values → CanMean (value_of_name a) n x → AreKept values n → AreKept (with_value values a x) n
kept_with values a x n full can kept name m h = elim (same_or_other a name) [
  | inl same ↦
      let at : given (with_value values a x) name ≡ Some x = subst (λ (b : Name). given (with_value values a x) b ≡ Some x) same (given-same values a x full) in
      let is : x ≡ m = cc in
      let P : ℕ → Type 0 = λ y. CanMean (value_of_name name) n y in
      let Q : Name → Type 0 = λ b. CanMean (value_of_name b) n x in
      subst P is (subst Q same can)
  | inr other ↦ kept name m (sym (given-other values a name x other) ∙ h)
]

kept_chosen : (verb : Verb) (k : ℕ) (values : List (Option ℕ)) (cs : List Chosen) (n : ℕ) → IsFull values → k + length (flat_map words_chosen cs) ≤ n → AreChosen verb k cs → AreKept values n → AreKept (values_from values cs) n
kept_chosen verb k values [] n full fits chosen kept = kept
kept_chosen verb k values (c ∷ cs) n full fits chosen kept =
    let both = length-append (words_chosen c) (flat_map words_chosen cs) in
    let first : k + length (words_chosen c) ≤ n = omega (arith, both, fits) in
    let can = means_can (value_of_name c.name) (k + 1) c.value c.means n (value_there (name_word c.name) c.value k n first) chosen.1 in
    kept_chosen verb (k + length (words_chosen c)) (with_value values c.name c.means) cs n (full_with values c.name c.means full) (omega (arith, both, fits)) chosen.2 (kept_with values c.name c.means n full can kept)

none_kept : (n : ℕ) → AreKept none_given n
none_kept n Main m h = absurd (cc)
none_kept n Method m h = absurd (cc)
none_kept n All m h = absurd (cc)
none_kept n Shapes m h = absurd (cc)
none_kept n Cycles m h = absurd (cc)
none_kept n Stack m h = absurd (cc)
none_kept n Memory m h = absurd (cc)
none_kept n Blocks m h = absurd (cc)
none_kept n BlockWords m h = absurd (cc)
none_kept n Read m h = absurd (cc)
none_kept n Write m h = absurd (cc)
none_kept n Micro m h = absurd (cc)
none_kept n Rounds m h = absurd (cc)
none_kept n Further m h = absurd (cc)
none_kept n Facts m h = absurd (cc)

-- what an option means, given or not
meant : (o : Option ℕ) (d : ℕ) (P : ℕ → Type 0) → P d → ((m : ℕ) → o ≡ Some m → P m) → P (unwrap_or o d)
meant None d P usual some = usual
meant (Some m) d P usual some = some m refl

abbrev IsStackSize : ℕ → Type 0
IsStackSize n = (n ≡ 256) ⊎ (n ≡ 512) ⊎ (n ≡ 1024)

stack_size : (n : ℕ) → Contains (256 ∷ 512 ∷ 1024 ∷ []) n → IsStackSize n
stack_size n (zero, lt, is) = inl (sym is)
stack_size n (suc zero, lt, is) = inr (inl (sym is))
stack_size n (suc (suc zero), lt, is) = inr (inr (sym is))
stack_size n (suc (suc (suc k)), lt, is) = absurd (omega (arith, lt))

settings_are : (values : List (Option ℕ)) (n : ℕ) → AreKept values n → AreSettings (settings_of values)
settings_are values n kept =
    let memory = meant (given values Memory) (usual Memory) (λ m. (16 ≤ m) × (m ≤ 16777216)) (omega arith, omega arith) (kept Memory) in
    let blocks = meant (given values Blocks) (usual Blocks) (λ m. (1 ≤ m) × (m ≤ 256)) (omega arith, omega arith) (kept Blocks) in
    let block_words = meant (given values BlockWords) (usual BlockWords) (λ m. (1 ≤ m) × (m ≤ 1024)) (omega arith, omega arith) (kept BlockWords) in
    record {
      cycles = meant (given values Cycles) (usual Cycles) (λ m. m < 2 ^ 63) (omega arith) (λ m h. let can = kept Cycles m h in omega (arith, can.1));
      stack = meant (given values Stack) (usual Stack) IsStackSize (inr (inr refl)) (λ m h. stack_size m (kept Stack m h));
      memory_least = memory.0;
      memory_most = memory.1;
      blocks_least = blocks.0;
      blocks_most = blocks.1;
      block_words_least = block_words.0;
      block_words_most = block_words.1;
      read_most = meant (given values Read) (usual Read) (λ m. m ≤ 63) (omega arith) (λ m h. (kept Read m h).1);
      write_most = meant (given values Write) (usual Write) (λ m. m ≤ 63) (omega arith) (λ m h. (kept Write m h).1);
    }

named_there : (values : List (Option ℕ)) (name : Name) (n : ℕ) → value_of_name name ≡ AWord → usual name ≡ 0 → 0 < n → AreKept values n → value values name < n
named_there values name n takes none some kept = meant (given values name) (usual name) (λ m. m < n) (omega (arith, none, some)) (λ m h. let P : OptionValue → Type 0 = λ v. CanMean v n m in subst P takes (kept name m h))

-- an option that is required, and was given
given_one : (o : Option ℕ) (d : ℕ) (P : ℕ → Type 0) → (is_some o || false) && true ≡ true → ((m : ℕ) → o ≡ Some m → P m) → P (unwrap_or o d)
given_one None d P required some = absurd (cc)
given_one (Some m) d P required some = some m refl

rounds_are : (values : List (Option ℕ)) (n : ℕ) → AreKept values n → (is_some (given values Rounds) || false) && true ≡ true → (1 ≤ value values Rounds) × (value values Rounds ≤ 32767)
rounds_are values n kept required = given_one (given values Rounds) (usual Rounds) (λ m. (1 ≤ m) × (m ≤ 32767)) required (kept Rounds)

-- one of two commands, by whether an option was given
either : (P : Command → Type 0) (given : Bool) (one other : Command) → P one → P other → P (if given then one else other)
either P true one other is_one is_other = is_one
either P false one other is_one is_other = is_other

-- the bounds of all methods, or the bound of one: in each shape, by facts, or without
bound_by : (P : Command → Type 0) (values : List (Option ℕ)) (k : ℕ) → P (commands.BoundAll (settings_of values) k (k + 1))
    → P (commands.BoundShapes (settings_of values) (value values Method) k (k + 1))
    → P (commands.BoundWith (settings_of values) (value values Method) (value values Facts) k (k + 1))
    → P (commands.Bound (settings_of values) (value values Method) k (k + 1)) → P (made Bound values k 0)
bound_by P values k all shapes facts alone =
    let s = settings_of values in
    let m = value values Method in
    let by = commands.BoundWith s m (value values Facts) k (k + 1) in
    let one = if is_some (given values Facts) then by else commands.Bound s m k (k + 1) in
    let each = commands.BoundShapes s m k (k + 1) in
    either P (is_some (given values All)) (commands.BoundAll s k (k + 1)) (if is_some (given values Shapes) then each else one) all
    (either P (is_some (given values Shapes)) each one shapes (either P (is_some (given values Facts)) by (commands.Bound s m k (k + 1)) facts alone))

-- the check of a certificate, by facts or without
check_by : (P : Command → Type 0) (values : List (Option ℕ)) (k : ℕ)
    → P (commands.CheckWith (settings_of values) (value values Facts) k (k + 1) (k + 2)) → P (commands.Check (settings_of values) k (k + 1) (k + 2))
    → P (made Check values k 0)
check_by P values k facts alone =
    let s = settings_of values in
    either P (is_some (given values Facts)) (commands.CheckWith s (value values Facts) k (k + 1) (k + 2)) (commands.Check s k (k + 1) (k + 2)) facts alone

made_in_range : (verb : Verb) (values : List (Option ℕ)) (k m n : ℕ) (operands : List (List ℕ)) → AreKept values n → has_required verb values ≡ true → AreOperands (operands_of verb) operands m → HasNumbersInRange (made verb values k m)
made_in_range Link values k m n operands kept required are = tt
made_in_range Run values k m n operands kept required are = settings_are values n kept
made_in_range Trace values k m n operands kept required are = settings_are values n kept
made_in_range Profile values k m n operands kept required are = settings_are values n kept
made_in_range Bound values k m n operands kept required are =
    let settings = settings_are values n kept in
    bound_by HasNumbersInRange values k settings settings settings settings
made_in_range Report values k m n operands kept required are = settings_are values n kept
made_in_range Plan values k m n operands kept required are = let rounds = rounds_are values n kept required in (settings_are values n kept, rounds.0, rounds.1)
made_in_range Cycle values k m n operands kept required are = let rounds = rounds_are values n kept required in (settings_are values n kept, rounds.0, rounds.1)
made_in_range Check values k m n operands kept required are = let settings = settings_are values n kept in check_by HasNumbersInRange values k settings settings
made_in_range Loops values k m n operands kept required are = tt
made_in_range Headers values k m n operands kept required are = let some = are.0 in let few = are.1 in let is = are.3 in (omega (arith, some, is), omega (arith, few, is))
made_in_range Need values k m n operands kept required are = tt
made_in_range Rtl values k m n operands kept required are = settings_are values n kept
made_in_range Asm values k m n operands kept required are = tt
made_in_range Work values k m n operands kept required are = (are.2.2, are.2.3)

made_there : (verb : Verb) (values : List (Option ℕ)) (k m n : ℕ) (operands : List (List ℕ)) → n ≡ k + length operands → AreKept values n → AreOperands (operands_of verb) operands m → AreThere n (made verb values k m)
made_there Link values k m n operands all kept are =
    let some = are.0 in
    let below : k < n = omega (arith, all, some) in
    (named_there values Main n refl refl (omega (arith, below)) kept, below)
made_there Run values k m n operands all kept are = let many = are.0 in omega (arith, all, many)
made_there Trace values k m n operands all kept are = let many = are.0 in omega (arith, all, many)
made_there Profile values k m n operands all kept are =
    let many = are.0 in
    (omega (arith, all, many), omega (arith, all, many))
made_there Bound values k m n operands all kept are =
    let many = are.0 in
    let below : k + 1 < n = omega (arith, all, many) in
    let first : k < n = omega (arith, below) in
    let named = named_there values Method n refl refl (omega (arith, below)) kept in
    let facts = named_there values Facts n refl refl (omega (arith, below)) kept in
    bound_by (AreThere n) values k (first, below) (named, first, below) (named, facts, first, below) (named, first, below)
made_there Report values k m n operands all kept are =
    let many = are.0 in
    let below : k + 1 < n = omega (arith, all, many) in
    (named_there values Method n refl refl (omega (arith, below)) kept, omega (arith, below), below)
made_there Plan values k m n operands all kept are =
    let many = are.0 in
    (omega (arith, all, many), omega (arith, all, many), omega (arith, all, many))
made_there Cycle values k m n operands all kept are =
    let many = are.0 in
    (omega (arith, all, many), omega (arith, all, many))
made_there Check values k m n operands all kept are =
    let many = are.0 in
    let below : k + 2 < n = omega (arith, all, many) in
    let first : k < n = omega (arith, below) in
    let second : k + 1 < n = omega (arith, below) in
    let facts = named_there values Facts n refl refl (omega (arith, below)) kept in
    check_by (AreThere n) values k (facts, first, second, below) (first, second, below)
made_there Loops values k m n operands all kept are = let many = are.0 in omega (arith, all, many)
made_there Headers values k m n operands all kept are = let is = are.3 in omega (arith, all, is)
made_there Need values k m n operands all kept are =
    let many = are.0 in
    (omega (arith, all, many), omega (arith, all, many), omega (arith, all, many))
made_there Rtl values k m n operands all kept are = let many = are.0 in omega (arith, all, many)
made_there Asm values k m n operands all kept are = let many = are.0 in omega (arith, all, many)
made_there Work values k m n operands all kept are = tt

made_follow : (verb : Verb) (values : List (Option ℕ)) (k m : ℕ) → OperandsFollow (made verb values k m)
made_follow Link values k m = tt
made_follow Run values k m = tt
made_follow Trace values k m = tt
made_follow Profile values k m = refl
made_follow Bound values k m =
    bound_by OperandsFollow values k refl refl refl refl
made_follow Report values k m = refl
made_follow Plan values k m = (refl, refl)
made_follow Cycle values k m = refl
made_follow Check values k m = check_by OperandsFollow values k (refl, refl) (refl, refl)
made_follow Loops values k m = tt
made_follow Headers values k m = tt
made_follow Need values k m = (refl, refl)
made_follow Rtl values k m = tt
made_follow Asm values k m = tt
made_follow Work values k m = tt

commands_in_range : (words : List (List ℕ)) (command : Command) → IsCommand words command → HasNumbersInRange command × AreThere (length words) command
commands_in_range words command is =
    let k = 1 + length (flat_map words_chosen is.options) in
    let all : length words ≡ k + length is.operands = ap length is.words_are ∙ omega (arith, length-append (flat_map words_chosen is.options) is.operands) in
    let required = required_given is.verb is.options is.required in
    let kept = kept_chosen is.verb 1 none_given is.options (length words) refl (omega (arith, all)) is.chosen (none_kept (length words)) in
    let values = values_from none_given is.options in
    let P : Command → Type 0 = λ c. HasNumbersInRange c × AreThere (length words) c in
    subst P (sym is.command_is) (made_in_range is.verb values k is.number (length words) is.operands kept required is.are_operands, made_there is.verb values k is.number (length words) is.operands all kept is.are_operands)

read_in_range : (ws : List (Bor (List ℕ))) (command : Command) → Ok command ≡ command_of (texts ws) → HasNumbersInRange command × AreThere (length ws) command
read_in_range ws command is =
    let both = commands_in_range (texts ws) command (commands_told (texts ws) command (sym is)) in
    (both.0, subst (λ n. AreThere n command) (length_texts ws) both.1)

pub ranges : (ws : List (Bor (List ℕ))) (r : Result Command ℕ) → r ≡ command_of (texts ws) → IfOk r HasNumbersInRange
ranges ws (Ok command) is = (read_in_range ws command is).0
ranges ws (Err k) is = tt

pub there : (ws : List (Bor (List ℕ))) (r : Result Command ℕ) → r ≡ command_of (texts ws) → IfOk r (AreThere (length ws))
there ws (Ok command) is = (read_in_range ws command is).1
there ws (Err k) is = tt

commands_follow : (words : List (List ℕ)) (command : Command) → IsCommand words command → OperandsFollow command
commands_follow words command is = subst OperandsFollow (sym is.command_is) (made_follow is.verb (values_from none_given is.options) (1 + length (flat_map words_chosen is.options)) is.number)

pub follow : (ws : List (Bor (List ℕ))) (r : Result Command ℕ) → r ≡ command_of (texts ws) → IfOk r OperandsFollow
follow ws (Ok command) is = commands_follow (texts ws) command (commands_told (texts ws) command (sym is))
follow ws (Err k) is = tt
