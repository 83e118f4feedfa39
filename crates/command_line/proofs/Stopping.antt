-- Where words stop: a command can go on before that word, and with it none.
use Rattle.std.proofs.Common.{◌≡◌, ℕ, zero, suc, ◌+◌, ◌-◌, ◌<◌, Bool, true, false, List, [], ◌∷◌, ◌++◌, length, take, replicate, Some, None, Ok, ◌⊎◌, inl, inr, refl, sym, ap, ◌∙◌, subst, arith, append_assoc, length-append}
use Rattle.std.proofs.Math.Seq.{take-append_seam, take-append-add}
use Rattle.std.specs.Prelude.{◌==◌, ◌&&◌, ◌||◌, Err, codes, is_some, Contains, if◌then◌else◌}
use Rattle.std.specs.declared.option.Option.{Option}
use Rattle.std.specs.declared.result.Result.{Result}
use Rattle.std.proofs.lemmas.Bool.{cases_Bool}
use Rattle.std.proofs.lemmas.Bool.Decides.{nat_tests}
use Rattle.command_line.specs.declared.table.Verb.{Verb}
use Rattle.command_line.specs.declared.table.Verb.TheVariants.{Link, Run, Trace, Profile, Bound, Report, Plan, Cycle, Check, Loops, Headers, Need, Rtl, Asm, Work}
use Rattle.command_line.specs.declared.table.Name.{Name}
use Rattle.command_line.specs.declared.table.Name.TheVariants.{Main, Method, All, Shapes, Cycles, Stack, Memory, Blocks, BlockWords, Read, Write, Micro, Rounds, Further, Facts}
use Rattle.command_line.specs.declared.command.Command.{Command}
use Rattle.command_line.specs.Table.{name_word, rivals, names_of, verb_named, name_of, value_of_name, OperandCount, Exactly, AtMost, AtLeast, Number, operands_of}
use Rattle.command_line.specs.Command.{is_option, given, with_value, none_given, is_taken, has_required, is_flag, meaning, made, exactly_at, at_most_at, at_least_at, past_number, number_from, operands_stop, operand_number, unless_stopped, words_at, command_of}
use Rattle.command_line.specs.Grammar.{IsCommand, StopsAt, Answers, CommandsAreRead}
use Rattle.command_line.proofs.WordLemmas.{if_true, if_false, option_at, option_word, operand_word, value_by, exactly_step, exactly_past, exactly_empty, at_most_step, at_most_past, at_most_empty, at_least_step, at_least_empty}
use Rattle.command_line.proofs.Stored.{IsFull, full_with, given-same, given-other, same_or_other, not_given, untaken, in_has, word_of_name}
use Rattle.command_line.proofs.Meanings.{meaning-means}
use Rattle.command_line.proofs.Reading.{one_valued, commands_read}
use Rattle.command_line.proofs.Telling.{commands_told}

-- ---- operands

-- a list of words, of which a test tells where it stops: before that word it can go on to an end without a stop, and with it the answer stays
record ListStops (stop : List (List ℕ) → Option ℕ) (k : ℕ) (words : List (List ℕ)) (j : ℕ) : Type 0 where
  front : List (List ℕ)
  rest : List (List ℕ)
  are : words ≡ front ++ rest
  place : j ≡ k + length front
  more : List (List ℕ)
  on : stop (front ++ more) ≡ None
  stuck : (w : List ℕ) (r : List (List ℕ)) → rest ≡ w ∷ r → (after : List (List ℕ)) → stop (front ++ (w ∷ after)) ≡ Some j

list_push : (stop later : List (List ℕ) → Option ℕ) (k : ℕ) (w : List ℕ) (ws : List (List ℕ)) (j : ℕ) → ((r : List (List ℕ)) → later r ≡ stop (w ∷ r)) → ListStops later (k + 1) ws j → ListStops stop k (w ∷ ws) j
list_push stop later k w ws j same s = record {
  front = w ∷ s.front;
  rest = s.rest;
  are = ap (λ r. w ∷ r) s.are;
  place = omega (arith, s.place);
  more = s.more;
  on = sym (same (s.front ++ s.more)) ∙ s.on;
  stuck = λ v r is after. sym (same (s.front ++ (v ∷ after))) ∙ s.stuck v r is after;
}

list_here : (stop : List (List ℕ) → Option ℕ) (k : ℕ) (words more : List (List ℕ)) (j : ℕ) → j ≡ k → stop more ≡ None → ((w : List ℕ) (r : List (List ℕ)) → words ≡ w ∷ r → (after : List (List ℕ)) → stop (w ∷ after) ≡ Some j) → ListStops stop k words j
list_here stop k words more j is on stuck = record { front = []; rest = words; are = refl; place = omega (arith, is); more = more; on = on; stuck = stuck }

-- the first word is the one
here_by : (stop : List (List ℕ) → Option ℕ) (k : ℕ) (w : List ℕ) (ws more : List (List ℕ)) (j : ℕ) → j ≡ k → stop more ≡ None → ((after : List (List ℕ)) → stop (w ∷ after) ≡ Some k) → ListStops stop k (w ∷ ws) j
here_by stop k w ws more j is on stuck =
    list_here stop k (w ∷ ws) more j is on (λ v r same after. let first : v ≡ w = cc in ap (λ (u : List ℕ). stop (u ∷ after)) first ∙ stuck after ∙ ap (λ (i : ℕ). Some i) (sym is))

-- so many words that aren't empty
enough : (k n : ℕ) → exactly_at k n (replicate n (codes "b")) ≡ None
enough k zero = refl
enough k (suc n) =
    let more : (suc n == 0) ≡ false = grind (arith, nat_tests) in
    let same : suc n - 1 ≡ n = omega arith in
    sym (exactly_step k (suc n) (codes "b") (replicate n (codes "b")) more refl) ∙ ap (λ m. exactly_at (k + 1) m (replicate n (codes "b"))) same ∙ enough (k + 1) n

exactly_stops : (k n : ℕ) (ws : List (List ℕ)) (j : ℕ) → exactly_at k n ws ≡ Some j → ListStops (exactly_at k n) k ws j
exactly_stops k n [] j h = elim (cases_Bool (n == 0)) [
  | inl e ↦ let so = if_true (n == 0) None (Some k) e in absurd (cc)
  | inr e ↦
      let so = if_false (n == 0) None (Some k) e in
      let is : j ≡ k = cc in
      list_here (exactly_at k n) k [] (replicate n (codes "b")) j is (enough k n) (λ w r none. absurd (cc))
]
exactly_stops k n (w ∷ ws) j h = elim (cases_Bool (n == 0)) [
  | inl e ↦
      let so = exactly_past k n w ws e in
      let is : j ≡ k = cc in
      here_by (exactly_at k n) k w ws [] j is (sym (if_true (n == 0) None (Some k) e)) (λ after. sym (exactly_past k n w after e))
  | inr e ↦ elim (cases_Bool (length w == 0)) [
    | inl f ↦
        let so = exactly_empty k n w ws f in
        let is : j ≡ k = cc in
        here_by (exactly_at k n) k w ws (replicate n (codes "b")) j is (enough k n) (λ after. sym (exactly_empty k n w after f))
    | inr f ↦ list_push (exactly_at k n) (exactly_at (k + 1) (n - 1)) k w ws j (λ r. exactly_step k n w r e f) (exactly_stops (k + 1) (n - 1) ws j (exactly_step k n w ws e f ∙ h))
  ]
]

at_most_stops : (k n : ℕ) (ws : List (List ℕ)) (j : ℕ) → at_most_at k n ws ≡ Some j → ListStops (at_most_at k n) k ws j
at_most_stops k n [] j h = absurd (cc)
at_most_stops k n (w ∷ ws) j h = elim (cases_Bool (n == 0)) [
  | inl e ↦
      let so = at_most_past k n w ws e in
      let is : j ≡ k = cc in
      here_by (at_most_at k n) k w ws [] j is refl (λ after. sym (at_most_past k n w after e))
  | inr e ↦ elim (cases_Bool (length w == 0)) [
    | inl f ↦
        let so = at_most_empty k n w ws f in
        let is : j ≡ k = cc in
        here_by (at_most_at k n) k w ws [] j is refl (λ after. sym (at_most_empty k n w after f))
    | inr f ↦ list_push (at_most_at k n) (at_most_at (k + 1) (n - 1)) k w ws j (λ r. at_most_step k n w r e f) (at_most_stops (k + 1) (n - 1) ws j (at_most_step k n w ws e f ∙ h))
  ]
]

enough_least : (k n : ℕ) → at_least_at k n (replicate n (codes "b")) ≡ None
enough_least k zero = refl
enough_least k (suc n) =
    let same : suc n - 1 ≡ n = omega arith in
    sym (at_least_step k (suc n) (codes "b") (replicate n (codes "b")) refl) ∙ ap (λ m. at_least_at (k + 1) m (replicate n (codes "b"))) same ∙ enough_least (k + 1) n

at_least_stops : (k n : ℕ) (ws : List (List ℕ)) (j : ℕ) → at_least_at k n ws ≡ Some j → ListStops (at_least_at k n) k ws j
at_least_stops k n [] j h = elim (cases_Bool (n == 0)) [
  | inl e ↦ let so = if_true (n == 0) None (Some k) e in absurd (cc)
  | inr e ↦
      let so = if_false (n == 0) None (Some k) e in
      let is : j ≡ k = cc in
      list_here (at_least_at k n) k [] (replicate n (codes "b")) j is (enough_least k n) (λ w r none. absurd (cc))
]
at_least_stops k n (w ∷ ws) j h = elim (cases_Bool (length w == 0)) [
  | inl f ↦
      let so = at_least_empty k n w ws f in
      let is : j ≡ k = cc in
      here_by (at_least_at k n) k w ws (replicate n (codes "b")) j is (enough_least k n) (λ after. sym (at_least_empty k n w after f))
  | inr f ↦ list_push (at_least_at k n) (at_least_at (k + 1) (n - 1)) k w ws j (λ r. at_least_step k n w r f) (at_least_stops (k + 1) (n - 1) ws j (at_least_step k n w ws f ∙ h))
]

list_same : (stop other : List (List ℕ) → Option ℕ) (k : ℕ) (ws : List (List ℕ)) (j : ℕ) → ((r : List (List ℕ)) → stop r ≡ other r) → ListStops stop k ws j → ListStops other k ws j
list_same stop other k ws j same s = record {
  front = s.front;
  rest = s.rest;
  are = s.are;
  place = s.place;
  more = s.more;
  on = sym (same (s.front ++ s.more)) ∙ s.on;
  stuck = λ v r is after. sym (same (s.front ++ (v ∷ after))) ∙ s.stuck v r is after;
}

-- the first operand is none, or the operands stop at a later word
abbrev OperandStops : OperandCount → (k : ℕ) → List ℕ → List (List ℕ) → ℕ → Type 0
OperandStops o k w ws j = ((j ≡ k) × ((after : List (List ℕ)) → operands_stop o k w after ≡ Some j)) ⊎ ListStops (operands_stop o k w) (k + 1) ws j

number_stops : (from to k : ℕ) (w : List ℕ) (ws : List (List ℕ)) (j : ℕ) (o : Option ℕ) → number_from from to w ≡ o → past_number k o ws ≡ Some j → OperandStops (Number from to) k w ws j
number_stops from to k w ws j None read h =
    let is : j ≡ k = cc in
    inl (is, λ after. ap (λ o. past_number k o after) read ∙ ap (λ (i : ℕ). Some i) (sym is))
number_stops from to k w [] j (Some n) read h = absurd (cc)
number_stops from to k w (v ∷ ws) j (Some n) read h =
    let is : j ≡ k + 1 = cc in
    inr (list_here (λ r. past_number k (number_from from to w) r) (k + 1) (v ∷ ws) [] j is (ap (λ o. past_number k o []) read) (λ u r same after. ap (λ o. past_number k o (u ∷ after)) read ∙ ap (λ (i : ℕ). Some i) (sym is)))

operand_stops : (o : OperandCount) (k : ℕ) (w : List ℕ) (ws : List (List ℕ)) (j : ℕ) → operands_stop o k w ws ≡ Some j → OperandStops o k w ws j
operand_stops (Exactly n) k w ws j h = elim (cases_Bool (n == 0)) [
  | inl e ↦ let so = exactly_past k n w ws e in let is : j ≡ k = cc in inl (is, λ after. sym (exactly_past k n w after e) ∙ ap (λ (i : ℕ). Some i) (sym is))
  | inr e ↦ elim (cases_Bool (length w == 0)) [
    | inl f ↦ let so = exactly_empty k n w ws f in let is : j ≡ k = cc in inl (is, λ after. sym (exactly_empty k n w after f) ∙ ap (λ (i : ℕ). Some i) (sym is))
    | inr f ↦ inr (list_same (exactly_at (k + 1) (n - 1)) (λ r. exactly_at k n (w ∷ r)) (k + 1) ws j (λ r. exactly_step k n w r e f) (exactly_stops (k + 1) (n - 1) ws j (exactly_step k n w ws e f ∙ h)))
  ]
]
operand_stops (AtMost n) k w ws j h = elim (cases_Bool (n == 0)) [
  | inl e ↦ let so = at_most_past k n w ws e in let is : j ≡ k = cc in inl (is, λ after. sym (at_most_past k n w after e) ∙ ap (λ (i : ℕ). Some i) (sym is))
  | inr e ↦ elim (cases_Bool (length w == 0)) [
    | inl f ↦ let so = at_most_empty k n w ws f in let is : j ≡ k = cc in inl (is, λ after. sym (at_most_empty k n w after f) ∙ ap (λ (i : ℕ). Some i) (sym is))
    | inr f ↦ inr (list_same (at_most_at (k + 1) (n - 1)) (λ r. at_most_at k n (w ∷ r)) (k + 1) ws j (λ r. at_most_step k n w r e f) (at_most_stops (k + 1) (n - 1) ws j (at_most_step k n w ws e f ∙ h)))
  ]
]
operand_stops (AtLeast n) k w ws j h = elim (cases_Bool (length w == 0)) [
  | inl f ↦ let so = at_least_empty k n w ws f in let is : j ≡ k = cc in inl (is, λ after. sym (at_least_empty k n w after f) ∙ ap (λ (i : ℕ). Some i) (sym is))
  | inr f ↦ inr (list_same (at_least_at (k + 1) (n - 1)) (λ r. at_least_at k n (w ∷ r)) (k + 1) ws j (λ r. at_least_step k n w r f) (at_least_stops (k + 1) (n - 1) ws j (at_least_step k n w ws f ∙ h)))
]
operand_stops (Number from to) k w ws j h = number_stops from to k w ws j (number_from from to w) refl h

-- ---- how words can go on

abbrev fault : Result Command ℕ → Option ℕ
fault (Ok command) = None
fault (Err k) = Some k

fault_none : (r : Result Command ℕ) → fault r ≡ None → (command : Command) × (r ≡ Ok command)
fault_none (Ok command) h = (command, refl)
fault_none (Err k) h = absurd (cc)

fault_unless : (stop : Option ℕ) (command : Command) → stop ≡ fault (unless_stopped stop command)
fault_unless None command = refl
fault_unless (Some k) command = refl

abbrev fault_at : Option Name → Verb → ℕ → List (Option ℕ) → List (List ℕ) → Option ℕ
fault_at named verb k values words = fault (words_at named verb k values words)

abbrev Finish : Option Name → Verb → ℕ → List (Option ℕ) → Type 0
Finish named verb k values = (more : List (List ℕ)) × (fault_at named verb k values more ≡ None)

-- each option has its place, and those that were given are the command's
abbrev AreOf : Verb → List (Option ℕ) → Type 0
AreOf verb values = IsFull values × ((name : Name) → is_some (given values name) ≡ true → Contains (names_of verb) name)

none_of : (verb : Verb) → AreOf verb none_given
none_of verb = (refl, λ name h. let none = not_given name in absurd (cc))

of_with : (verb : Verb) (values : List (Option ℕ)) (a : Name) (n : ℕ) → AreOf verb values → Contains (names_of verb) a → AreOf verb (with_value values a n)
of_with verb values a n are has = (
  full_with values a n are.0,
  λ name h. elim (same_or_other a name) [
    | inl same ↦ subst (λ (x : Name). Contains (names_of verb) x) same has
    | inr other ↦ are.1 name (ap is_some (sym (given-other values a name n other)) ∙ h)
  ],
)

any_value : (name : Name) (k : ℕ) → is_flag (value_of_name name) ≡ false → (word : List ℕ) × (n : ℕ) × (meaning (value_of_name name) k word ≡ Some n)
any_value Main k h = (codes "A", k, refl)
any_value Method k h = (codes "A", k, refl)
any_value All k h = absurd (cc)
any_value Shapes k h = absurd (cc)
any_value Cycles k h = (codes "1", 1, refl)
any_value Stack k h = (codes "256", 256, refl)
any_value Memory k h = (codes "16", 16, refl)
any_value Blocks k h = (codes "1", 1, refl)
any_value BlockWords k h = (codes "1", 1, refl)
any_value Read k h = (codes "1", 1, refl)
any_value Write k h = (codes "1", 1, refl)
any_value Micro k h = absurd (cc)
any_value Rounds k h = (codes "1", 1, refl)
any_value Further k h = absurd (cc)
any_value Facts k h = (codes "A", k, refl)

and_false : (b : Bool) → (b && true) ≡ false → b ≡ false
and_false true h = h
and_false false h = h

or_false : (b : Bool) → (b || false) ≡ false → b ≡ false
or_false true h = h
or_false false h = h

-- these operands end a command, before them an option with some value where it is required and lacks
finish_required : (verb : Verb) (k : ℕ) (values : List (Option ℕ)) (name : Name) (operands : List (List ℕ)) → IsFull values → Contains (names_of verb) name → is_flag (value_of_name name) ≡ false
    → (has_required verb values ≡ false → is_taken values name ≡ false)
    → ((vs : List (Option ℕ)) → is_some (given vs name) ≡ true → has_required verb vs ≡ true)
    → ((i : ℕ) (vs : List (Option ℕ)) → has_required verb vs ≡ true → fault_at None verb i vs operands ≡ None)
    → Finish None verb k values
finish_required verb k values name operands full has takes new enough ends = elim (cases_Bool (has_required verb values)) [
  | inl e ↦ (operands, ends k values e)
  | inr e ↦
      let v = any_value name (k + 1) takes in
      let read = one_valued verb k values name v.0 v.1 operands has (new e) (meaning-means (value_of_name name) (k + 1) v.0 v.1 v.2) in
      let last = ends (k + 2) (with_value values name v.1) (enough (with_value values name v.1) (ap is_some (given-same values name v.1 full))) in
      (name_word name ∷ v.0 ∷ operands, ap fault (sym read) ∙ last)
]

-- `--all` isn't an option of `report`
report_rival : (values : List (Option ℕ)) (other : Name) → AreOf Report values → is_some (given values Method) ≡ false → Contains (rivals Method) other → is_some (given values other) ≡ false
report_rival values other are none (zero, lt, is) = subst (λ (x : Name). is_some (given values x) ≡ false) is none
report_rival values other are none (suc zero, lt, is) = elim (cases_Bool (is_some (given values All))) [
  | inl e ↦ let never = in_has Report All (are.1 All e) in absurd (cc)
  | inr e ↦ subst (λ (x : Name). is_some (given values x) ≡ false) is e
]
report_rival values other are none (suc (suc k), lt, is) = absurd (omega (arith, lt))

report_new : (values : List (Option ℕ)) → AreOf Report values → has_required Report values ≡ false → is_taken values Method ≡ false
report_new values are lacks =
    let none : is_some (given values Method) ≡ false = or_false (is_some (given values Method)) (and_false (is_some (given values Method) || false) lacks) in
    untaken values Method (λ other is. report_rival values other are none is)

finish : (verb : Verb) (k : ℕ) (values : List (Option ℕ)) → AreOf verb values → Finish None verb k values
finish Link k values are =
    finish_required Link k values Main (codes "b" ∷ []) are.0 (0, omega arith, refl) refl (λ lacks. and_false (is_taken values Main) lacks) (λ vs h. ap (λ b. (b || false) && true) h)
    (λ i vs h. ap fault (sym (if_true (has_required Link vs) (Ok (made Link vs i 0)) (Err i) h)))
finish Bound k values are =
    finish_required Bound k values Method (codes "b" ∷ codes "b" ∷ []) are.0 (0, omega arith, refl) refl (λ lacks. and_false (is_taken values Method) lacks) (λ vs h. ap (λ b. (b || (is_some (given vs All) || false)) && true) h)
    (λ i vs h. ap fault (sym (if_true (has_required Bound vs) (Ok (made Bound vs i 0)) (Err i) h)))
finish Report k values are =
    finish_required Report k values Method (codes "b" ∷ codes "b" ∷ []) are.0 (0, omega arith, refl) refl (report_new values are) (λ vs h. ap (λ b. (b || false) && true) h)
    (λ i vs h. ap fault (sym (if_true (has_required Report vs) (Ok (made Report vs i 0)) (Err i) h)))
finish Plan k values are =
    finish_required Plan k values Rounds (codes "b" ∷ codes "b" ∷ codes "b" ∷ []) are.0 (0, omega arith, refl) refl (λ lacks. and_false (is_taken values Rounds) lacks) (λ vs h. ap (λ b. (b || false) && true) h)
    (λ i vs h. ap fault (sym (if_true (has_required Plan vs) (Ok (made Plan vs i 0)) (Err i) h)))
finish Cycle k values are =
    finish_required Cycle k values Rounds (codes "b" ∷ codes "b" ∷ []) are.0 (0, omega arith, refl) refl (λ lacks. and_false (is_taken values Rounds) lacks) (λ vs h. ap (λ b. (b || false) && true) h)
    (λ i vs h. ap fault (sym (if_true (has_required Cycle vs) (Ok (made Cycle vs i 0)) (Err i) h)))
finish Run k values are = (codes "b" ∷ [], refl)
finish Trace k values are = (codes "b" ∷ [], refl)
finish Profile k values are = (codes "b" ∷ codes "b" ∷ [], refl)
finish Check k values are = (codes "b" ∷ codes "b" ∷ codes "b" ∷ [], refl)
finish Loops k values are = (codes "b" ∷ [], refl)
finish Headers k values are = (codes "b" ∷ [], refl)
finish Need k values are = (codes "b" ∷ codes "b" ∷ codes "b" ∷ [], refl)
finish Rtl k values are = (codes "b" ∷ [], refl)
finish Asm k values are = (codes "b" ∷ [], refl)
finish Work k values are = (codes "1" ∷ [], refl)

-- an option that waits for its value is the command's
abbrev IsValued : Verb → Option Name → Type 0
IsValued verb None = Unit {0}
IsValued verb (Some name) = (is_flag (value_of_name name) ≡ false) × Contains (names_of verb) name

finish_any : (named : Option Name) (verb : Verb) (k : ℕ) (values : List (Option ℕ)) → AreOf verb values → IsValued verb named → Finish named verb k values
finish_any None verb k values are valued = finish verb k values are
finish_any (Some name) verb k values are valued =
    let v = any_value name k valued.0 in
    let f = finish verb (k + 1) (with_value values name v.1) (of_with verb values name v.1 are valued.1) in
    (v.0 ∷ f.0, ap fault (sym (value_by verb k values name v.0 f.0 (Some v.1) v.2)) ∙ f.1)

-- ---- where words stop

abbrev Stops : Option Name → Verb → ℕ → List (Option ℕ) → List (List ℕ) → ℕ → Type 0
Stops named verb k values words j = ListStops (fault_at named verb k values) k words j

stops_value : (verb : Verb) (k : ℕ) (values : List (Option ℕ)) (name : Name) (w : List ℕ) (ws : List (List ℕ)) (j : ℕ) (o : Option ℕ) → AreOf verb values → IsValued verb (Some name) → meaning (value_of_name name) k w ≡ o
    → fault_at (Some name) verb k values (w ∷ ws) ≡ Some j → ((vs : List (Option ℕ)) → AreOf verb vs → fault_at None verb (k + 1) vs ws ≡ Some j → Stops None verb (k + 1) vs ws j) → Stops (Some name) verb k values (w ∷ ws) j
stops_value verb k values name w ws j None are valued means h plain =
    let so = ap fault (value_by verb k values name w ws None means) in
    let is : j ≡ k = cc in
    let f = finish_any (Some name) verb k values are valued in
    here_by (fault_at (Some name) verb k values) k w ws f.0 j is f.1 (λ after. ap fault (sym (value_by verb k values name w after None means)))
stops_value verb k values name w ws j (Some n) are valued means h plain =
    list_push (fault_at (Some name) verb k values) (fault_at None verb (k + 1) (with_value values name n)) k w ws j (λ r. ap fault (value_by verb k values name w r (Some n) means))
    (plain (with_value values name n) (of_with verb values name n are valued.1) (ap fault (value_by verb k values name w ws (Some n) means) ∙ h))

stops_option : (verb : Verb) (k : ℕ) (values : List (Option ℕ)) (w : List ℕ) (ws : List (List ℕ)) (j : ℕ) (o : Option Name) → AreOf verb values → name_of verb w ≡ o → ((r : List (List ℕ)) → option_at verb k values o r ≡ words_at None verb k values (w ∷ r))
    → fault_at None verb k values (w ∷ ws) ≡ Some j
    → ((vs : List (Option ℕ)) → AreOf verb vs → fault_at None verb (k + 1) vs ws ≡ Some j → Stops None verb (k + 1) vs ws j)
    → ((name : Name) → IsValued verb (Some name) → fault_at (Some name) verb (k + 1) values ws ≡ Some j → Stops (Some name) verb (k + 1) values ws j)
    → Stops None verb k values (w ∷ ws) j
stops_option verb k values w ws j None are named step h plain valued =
    let so = ap fault (step ws) in
    let is : j ≡ k = cc in
    let f = finish verb k values are in
    here_by (fault_at None verb k values) k w ws f.0 j is f.1 (λ after. ap fault (sym (step after)))
stops_option verb k values w ws j (Some name) are named step h plain valued =
    let has = (word_of_name verb w name named).1 in
    elim (cases_Bool (is_taken values name)) [
      | inl e ↦
          let at = λ (r : List (List ℕ)). if_true (is_taken values name) (Err k) (if is_flag (value_of_name name) then words_at None verb (k + 1) (with_value values name 1) r else words_at (Some name) verb (k + 1) values r) e ∙ step r in
          let so = ap fault (at ws) in
          let is : j ≡ k = cc in
          let f = finish verb k values are in
          here_by (fault_at None verb k values) k w ws f.0 j is f.1 (λ after. ap fault (sym (at after)))
      | inr e ↦
          let on = λ (r : List (List ℕ)). if_false (is_taken values name) (Err k) (if is_flag (value_of_name name) then words_at None verb (k + 1) (with_value values name 1) r else words_at (Some name) verb (k + 1) values r) e ∙ step r in
          elim (cases_Bool (is_flag (value_of_name name))) [
            | inl f ↦
                let at = λ (r : List (List ℕ)). ap fault (if_true (is_flag (value_of_name name)) (words_at None verb (k + 1) (with_value values name 1) r) (words_at (Some name) verb (k + 1) values r) f ∙ on r) in
                list_push (fault_at None verb k values) (fault_at None verb (k + 1) (with_value values name 1)) k w ws j at (plain (with_value values name 1) (of_with verb values name 1 are has) (at ws ∙ h))
            | inr f ↦
                let at = λ (r : List (List ℕ)). ap fault (if_false (is_flag (value_of_name name)) (words_at None verb (k + 1) (with_value values name 1) r) (words_at (Some name) verb (k + 1) values r) f ∙ on r) in
                list_push (fault_at None verb k values) (fault_at (Some name) verb (k + 1) values) k w ws j at (valued name (f, has) (at ws ∙ h))
          ]
    ]

stops_operands : (verb : Verb) (k : ℕ) (values : List (Option ℕ)) (w : List ℕ) (ws : List (List ℕ)) (j : ℕ) → AreOf verb values → is_option w ≡ false → fault_at None verb k values (w ∷ ws) ≡ Some j → Stops None verb k values (w ∷ ws) j
stops_operands verb k values w ws j are none h =
    let stop = operands_stop (operands_of verb) k w in
    let command = λ (r : List (List ℕ)). made verb values k (operand_number (operands_of verb) w r) in
    let f = finish verb k values are in
    elim (cases_Bool (has_required verb values)) [
      | inl e ↦
          let at = λ (r : List (List ℕ)). fault_unless (stop r) (command r) ∙ ap fault (if_true (has_required verb values) (unless_stopped (stop r) (command r)) (Err k) e ∙ operand_word verb k values w r none) in
          elim (operand_stops (operands_of verb) k w ws j (at ws ∙ h)) [
            | inl first ↦ here_by (fault_at None verb k values) k w ws f.0 j first.0 f.1 (λ after. sym (at after) ∙ first.1 after ∙ ap (λ (i : ℕ). Some i) first.0)
            | inr later ↦ list_push (fault_at None verb k values) (operands_stop (operands_of verb) k w) k w ws j at later
          ]
      | inr e ↦
          let at = λ (r : List (List ℕ)). if_false (has_required verb values) (unless_stopped (stop r) (command r)) (Err k) e ∙ operand_word verb k values w r none in
          let so = ap fault (at ws) in
          let is : j ≡ k = cc in
          here_by (fault_at None verb k values) k w ws f.0 j is f.1 (λ after. ap fault (sym (at after)))
    ]

stops_word : (verb : Verb) (k : ℕ) (values : List (Option ℕ)) (w : List ℕ) (ws : List (List ℕ)) (j : ℕ) → AreOf verb values → fault_at None verb k values (w ∷ ws) ≡ Some j
    → ((vs : List (Option ℕ)) → AreOf verb vs → fault_at None verb (k + 1) vs ws ≡ Some j → Stops None verb (k + 1) vs ws j)
    → ((name : Name) → IsValued verb (Some name) → fault_at (Some name) verb (k + 1) values ws ≡ Some j → Stops (Some name) verb (k + 1) values ws j)
    → Stops None verb k values (w ∷ ws) j
stops_word verb k values w ws j are h plain valued = elim (cases_Bool (is_option w)) [
  | inl e ↦ stops_option verb k values w ws j (name_of verb w) are refl (λ r. option_word verb k values w r e) h plain valued
  | inr e ↦ stops_operands verb k values w ws j are e h
]

stops_end : (named : Option Name) (verb : Verb) (k : ℕ) (values : List (Option ℕ)) (j : ℕ) → AreOf verb values → IsValued verb named → Some k ≡ Some j → Stops named verb k values [] j
stops_end named verb k values j are valued h =
    let is : j ≡ k = cc in
    let f = finish_any named verb k values are valued in
    list_here (fault_at named verb k values) k [] f.0 j is f.1 (λ w r none. absurd (cc))

stops : (named : Option Name) (verb : Verb) (k : ℕ) (values : List (Option ℕ)) (words : List (List ℕ)) (j : ℕ) → AreOf verb values → IsValued verb named → fault_at named verb k values words ≡ Some j → Stops named verb k values words j
stops None verb k values [] j are valued h = stops_end None verb k values j are valued h
stops (Some name) verb k values [] j are valued h = stops_end (Some name) verb k values j are valued h
stops None verb k values (w ∷ ws) j are valued h = stops_word verb k values w ws j are h (λ vs f e. stops None verb (k + 1) vs ws j f tt e) (λ name f e. stops (Some name) verb (k + 1) values ws j are f e)
stops (Some name) verb k values (w ∷ ws) j are valued h = stops_value verb k values name w ws j (meaning (value_of_name name) k w) are valued refl h (λ vs f e. stops None verb (k + 1) vs ws j f tt e)

-- ---- the whole

abbrev by_verb : Option Verb → List (List ℕ) → Result Command ℕ
by_verb None rest = Err 0
by_verb (Some verb) rest = words_at None verb 1 none_given rest

by_verb_is : (o : Option Verb) (rest : List (List ℕ)) → by_verb o rest ≡ elim o as (λ _. Result Command ℕ) [ None ↦ Err 0 | Some verb ↦ words_at None verb 1 none_given rest ]
by_verb_is None rest = refl
by_verb_is (Some verb) rest = refl

abbrev CommandStops : List (List ℕ) → ℕ → Type 0
CommandStops words j = ListStops (λ ws. fault (command_of ws)) 0 words j

stops_verb : (w : List ℕ) (ws : List (List ℕ)) (j : ℕ) (o : Option Verb) → ((r : List (List ℕ)) → by_verb o r ≡ command_of (w ∷ r)) → fault (command_of (w ∷ ws)) ≡ Some j → CommandStops (w ∷ ws) j
stops_verb w ws j None step h =
    let so = ap fault (step ws) in
    let is : j ≡ 0 = cc in
    here_by (λ ws. fault (command_of ws)) 0 w ws (codes "run" ∷ codes "b" ∷ []) j is refl (λ after. ap fault (sym (step after)))
stops_verb w ws j (Some verb) step h =
    list_push (λ ws. fault (command_of ws)) (fault_at None verb 1 none_given) 0 w ws j (λ r. ap fault (step r)) (stops None verb 1 none_given ws j (none_of verb) tt (ap fault (step ws) ∙ h))

command_stops : (words : List (List ℕ)) (j : ℕ) → fault (command_of words) ≡ Some j → CommandStops words j
command_stops [] j h = let is : j ≡ 0 = cc in list_here (λ ws. fault (command_of ws)) 0 [] (codes "run" ∷ codes "b" ∷ []) j is refl (λ w r none. absurd (cc))
command_stops (w ∷ ws) j h = stops_verb w ws j (verb_named w) (λ r. by_verb_is (verb_named w) r) h

stuck_at : (front rest after : List (List ℕ)) (j : ℕ) (command : Command) → 0 < length rest → ((w : List ℕ) (r : List (List ℕ)) → rest ≡ w ∷ r → (after : List (List ℕ)) → fault (command_of (front ++ (w ∷ after))) ≡ Some j)
    → IsCommand (take (length front + 1) (front ++ rest) ++ after) command → ⊥
stuck_at front [] after j command some stuck is = absurd (omega (arith, some))
stuck_at front (w ∷ r) after j command some stuck is =
    let taken : take (length front + 1) (front ++ (w ∷ r)) ++ after ≡ front ++ (w ∷ after) = ap (λ t. t ++ after) (take-append-add front (w ∷ r) 1) ∙ append_assoc front (w ∷ []) after in
    let read = commands_read (take (length front + 1) (front ++ (w ∷ r)) ++ after) command is in
    let told : fault (command_of (front ++ (w ∷ after))) ≡ None = ap (λ ws. fault (command_of ws)) (sym taken) ∙ ap fault read in
    let never = stuck w r refl after in
    absurd (cc)

pub commands_stop : (words : List (List ℕ)) (j : ℕ) → command_of words ≡ Err j → StopsAt words j
commands_stop words j h =
    let s = command_stops words j (ap fault h) in
    let at : j ≡ length s.front = omega (arith, s.place) in
    let all : length words ≡ length s.front + length s.rest = ap length s.are ∙ length-append s.front s.rest in
    let taken : take j words ≡ s.front = ap (λ i. take i words) at ∙ ap (take (length s.front)) s.are ∙ take-append_seam s.front s.rest in
    let end = fault_none (command_of (s.front ++ s.more)) s.on in
    record {
      within = omega (arith, at, all);
      before = (s.more, end.0, subst (λ ws. IsCommand ws end.0) (ap (λ t. t ++ s.more) (sym taken)) (commands_told (s.front ++ s.more) end.0 end.1));
      stuck = λ below on.
          let more : 0 < length s.rest = omega (arith, below, at, all) in
          let same : take (j + 1) words ++ on.0 ≡ take (length s.front + 1) (s.front ++ s.rest) ++ on.0 = ap (λ i. take (i + 1) words ++ on.0) at ∙ ap (λ ws. take (length s.front + 1) ws ++ on.0) s.are in
          stuck_at s.front s.rest on.0 j on.1 more s.stuck (subst (λ ws. IsCommand ws on.1) same on.2);
      early = λ few command is. let read = commands_read words command is in absurd (cc);
    }

answers : (words : List (List ℕ)) (r : Result Command ℕ) → command_of words ≡ r → Answers words r
answers words (Ok command) h = commands_told words command h
answers words (Err j) h = commands_stop words j h

pub commands_are_read : CommandsAreRead
commands_are_read words = answers words (command_of words) refl
