-- What options were given to mean, by their names; and what words name.
use Rattle.std.proofs.Common.{◌≡◌, ℕ, zero, suc, ◌<◌, Bool, true, false, List, [], ◌∷◌, length, get_or, Some, None, ◌⊎◌, inl, inr, refl, sym, ap, ◌∙◌, subst, arith, eq-eqb}
use Rattle.std.specs.Prelude.{◌==◌, bytes_eq, is_some, Contains, if◌then◌else◌}
use Rattle.std.specs.declared.option.Option.{Option}
use Rattle.std.specs.List.{find}
use Rattle.std.proofs.lemmas.List.{get_or-set_same, get_or-set_other, length-set}
use Rattle.std.proofs.lemmas.List.Folds.{Any-from_list_any, list_any_at}
use Rattle.std.proofs.lemmas.Bool.{cases_Bool}
use Rattle.std.proofs.lemmas.Slice.Eq.{bytes_eq-Decides}
use Rattle.command_line.specs.declared.table.Verb.{Verb}
use Rattle.command_line.specs.declared.table.Verb.TheVariants.{Link, Run, Trace, Profile, Bound, Report, Plan, Cycle, Check, Loops, Headers, Need, Rtl, Asm, Work}
use Rattle.command_line.specs.declared.table.Name.{Name}
use Rattle.command_line.specs.declared.table.Name.TheVariants.{Main, Method, All, Shapes, Cycles, Stack, Memory, Blocks, BlockWords, Read, Write, Micro, Rounds, Further, Facts}
use Rattle.command_line.specs.Table.{name_word, all_names, place_of, same_name, rivals, names_of, verb_word, all_verbs, verb_named, name_named, has_name, kept_by, name_of}
use Rattle.command_line.specs.Command.{is_option, none_given, given, with_value, is_taken}
use Rattle.command_line.proofs.WordLemmas.{if_true}

-- ---- places

name_at : (a : Name) → get_or all_names (place_of a) Main ≡ a
name_at Main = refl
name_at Method = refl
name_at All = refl
name_at Shapes = refl
name_at Cycles = refl
name_at Stack = refl
name_at Memory = refl
name_at Blocks = refl
name_at BlockWords = refl
name_at Read = refl
name_at Write = refl
name_at Micro = refl
name_at Rounds = refl
name_at Further = refl
name_at Facts = refl

same_place : (a b : Name) → place_of a ≡ place_of b → a ≡ b
same_place a b e = sym (name_at a) ∙ ap (λ i. get_or all_names i Main) e ∙ name_at b

place_below : (a : Name) → place_of a < 15
place_below Main = omega arith
place_below Method = omega arith
place_below All = omega arith
place_below Shapes = omega arith
place_below Cycles = omega arith
place_below Stack = omega arith
place_below Memory = omega arith
place_below Blocks = omega arith
place_below BlockWords = omega arith
place_below Read = omega arith
place_below Write = omega arith
place_below Micro = omega arith
place_below Rounds = omega arith
place_below Further = omega arith
place_below Facts = omega arith

eq_true : (x y : ℕ) → (x == y) ≡ true → x ≡ y
eq_true x y e = grind arith

-- ---- what is stored

abbrev pub IsFull : List (Option ℕ) → Type 0
IsFull values = length values ≡ 15

pub full_with : (values : List (Option ℕ)) (a : Name) (n : ℕ) → IsFull values → IsFull (with_value values a n)
full_with values a n full = length-set values (place_of a) (Some n) ∙ full

pub given-same : (values : List (Option ℕ)) (a : Name) (n : ℕ) → IsFull values → given (with_value values a n) a ≡ Some n
given-same values a n full = get_or-set_same values (place_of a) (Some n) None (omega (arith, full, place_below a))

pub given-other : (values : List (Option ℕ)) (a b : Name) (n : ℕ) → (a ≡ b → ⊥) → given (with_value values a n) b ≡ given values b
given-other values a b n other = get_or-set_other values (place_of a) (place_of b) (Some n) None (λ e. other (same_place a b (sym e)))

pub same_or_other : (a b : Name) → (a ≡ b) ⊎ (a ≡ b → ⊥)
same_or_other a b = elim (cases_Bool (place_of a == place_of b)) [
  | inl e ↦ inl (same_place a b (eq_true (place_of a) (place_of b) e))
  | inr e ↦ inr (λ same. let so : (place_of a == place_of b) ≡ true = eq-eqb (place_of a) (place_of b) (ap place_of same) in absurd (cc))
]

-- ---- what is taken

pub not_given : (name : Name) → is_some (given none_given name) ≡ false
not_given Main = refl
not_given Method = refl
not_given All = refl
not_given Shapes = refl
not_given Cycles = refl
not_given Stack = refl
not_given Memory = refl
not_given Blocks = refl
not_given BlockWords = refl
not_given Read = refl
not_given Write = refl
not_given Micro = refl
not_given Rounds = refl
not_given Further = refl
not_given Facts = refl

own_rival : (a : Name) → Contains (rivals a) a
own_rival Main = (0, omega arith, refl)
own_rival Method = (0, omega arith, refl)
own_rival All = (0, omega arith, refl)
own_rival Shapes = (0, omega arith, refl)
own_rival Cycles = (0, omega arith, refl)
own_rival Stack = (0, omega arith, refl)
own_rival Memory = (0, omega arith, refl)
own_rival Blocks = (0, omega arith, refl)
own_rival BlockWords = (0, omega arith, refl)
own_rival Read = (0, omega arith, refl)
own_rival Write = (0, omega arith, refl)
own_rival Micro = (0, omega arith, refl)
own_rival Rounds = (0, omega arith, refl)
own_rival Further = (0, omega arith, refl)
own_rival Facts = (0, omega arith, refl)

-- an option that nothing excludes
alone : (a b : Name) → Contains (a ∷ []) b → Contains (rivals a) a → Contains (rivals b) a
alone a b (zero, lt, is) own = subst (λ (x : Name). Contains (rivals x) a) is own
alone a b (suc k, lt, is) own = absurd (omega (arith, lt))

rival_back : (a b : Name) → Contains (rivals a) b → Contains (rivals b) a
rival_back Method b (zero, lt, is) = subst (λ (x : Name). Contains (rivals x) Method) is (own_rival Method)
rival_back Method b (suc zero, lt, is) = subst (λ (x : Name). Contains (rivals x) Method) is (1, omega arith, refl)
rival_back Method b (suc (suc k), lt, is) = absurd (omega (arith, lt))
rival_back All b (zero, lt, is) = subst (λ (x : Name). Contains (rivals x) All) is (own_rival All)
rival_back All b (suc zero, lt, is) = subst (λ (x : Name). Contains (rivals x) All) is (1, omega arith, refl)
rival_back All b (suc (suc zero), lt, is) = subst (λ (x : Name). Contains (rivals x) All) is (1, omega arith, refl)
rival_back All b (suc (suc (suc zero)), lt, is) = subst (λ (x : Name). Contains (rivals x) All) is (1, omega arith, refl)
rival_back All b (suc (suc (suc (suc k))), lt, is) = absurd (omega (arith, lt))
rival_back Shapes b (zero, lt, is) = subst (λ (x : Name). Contains (rivals x) Shapes) is (own_rival Shapes)
rival_back Shapes b (suc zero, lt, is) = subst (λ (x : Name). Contains (rivals x) Shapes) is (2, omega arith, refl)
rival_back Shapes b (suc (suc zero), lt, is) = subst (λ (x : Name). Contains (rivals x) Shapes) is (1, omega arith, refl)
rival_back Shapes b (suc (suc (suc zero)), lt, is) = subst (λ (x : Name). Contains (rivals x) Shapes) is (1, omega arith, refl)
rival_back Shapes b (suc (suc (suc (suc zero))), lt, is) = subst (λ (x : Name). Contains (rivals x) Shapes) is (2, omega arith, refl)
rival_back Shapes b (suc (suc (suc (suc (suc k)))), lt, is) = absurd (omega (arith, lt))
rival_back Facts b (zero, lt, is) = subst (λ (x : Name). Contains (rivals x) Facts) is (own_rival Facts)
rival_back Facts b (suc zero, lt, is) = subst (λ (x : Name). Contains (rivals x) Facts) is (3, omega arith, refl)
rival_back Facts b (suc (suc zero), lt, is) = subst (λ (x : Name). Contains (rivals x) Facts) is (4, omega arith, refl)
rival_back Facts b (suc (suc (suc k)), lt, is) = absurd (omega (arith, lt))
rival_back Blocks b (zero, lt, is) = subst (λ (x : Name). Contains (rivals x) Blocks) is (own_rival Blocks)
rival_back Blocks b (suc zero, lt, is) = subst (λ (x : Name). Contains (rivals x) Blocks) is (2, omega arith, refl)
rival_back Blocks b (suc (suc k), lt, is) = absurd (omega (arith, lt))
rival_back BlockWords b (zero, lt, is) = subst (λ (x : Name). Contains (rivals x) BlockWords) is (own_rival BlockWords)
rival_back BlockWords b (suc zero, lt, is) = subst (λ (x : Name). Contains (rivals x) BlockWords) is (3, omega arith, refl)
rival_back BlockWords b (suc (suc k), lt, is) = absurd (omega (arith, lt))
rival_back Main b h = alone Main b h (own_rival Main)
rival_back Cycles b h = alone Cycles b h (own_rival Cycles)
rival_back Stack b h = alone Stack b h (own_rival Stack)
rival_back Memory b h = alone Memory b h (own_rival Memory)
rival_back Read b h = alone Read b h (own_rival Read)
rival_back Write b h = alone Write b h (own_rival Write)
rival_back Micro b h = alone Micro b h (own_rival Micro)
rival_back Rounds b h = alone Rounds b h (own_rival Rounds)
rival_back Further b h = alone Further b h (own_rival Further)

not_taken : (values : List (Option ℕ)) (name other : Name) → is_taken values name ≡ false → Contains (rivals name) other → is_some (given values other) ≡ false
not_taken values name other h is = elim (cases_Bool (is_some (given values other))) [
  | inl e ↦
      let so : is_taken values name ≡ true = list_any_at (λ o. is_some (given values o)) (rivals name) is.0 other is.1 (subst (λ (x : Name). is_some (given values x) ≡ true) (sym is.2) e) in
      absurd (cc)
  | inr e ↦ e
]

pub untaken : (values : List (Option ℕ)) (name : Name) → ((other : Name) → Contains (rivals name) other → is_some (given values other) ≡ false) → is_taken values name ≡ false
untaken values name none = elim (cases_Bool (is_taken values name)) [
  | inl e ↦
      let some = Any-from_list_any (λ o. is_some (given values o)) (rivals name) e in
      let is = some.4 in
      let never = none some.1 (some.0, some.2, some.3) in
      absurd (cc)
  | inr e ↦ e
]

pub none_taken : (name : Name) → is_taken none_given name ≡ false
none_taken name = untaken none_given name (λ other is. not_given other)

-- what is new stays so behind an option that doesn't exclude it
pub untaken_with : (values : List (Option ℕ)) (a b : Name) (n : ℕ) → is_taken values b ≡ false → (Contains (rivals a) b → ⊥) → is_taken (with_value values a n) b ≡ false
untaken_with values a b n new none = untaken (with_value values a n) b (λ other is. elim (same_or_other a other) [
  | inl same ↦ absurd (none (rival_back b a (subst (λ (x : Name). Contains (rivals b) x) (sym same) is)))
  | inr differs ↦ ap is_some (given-other values a other n differs) ∙ not_taken values b other new is
])

given_before : (values : List (Option ℕ)) (a other : Name) (n : ℕ) → IsFull values → is_some (given (with_value values a n) other) ≡ false → is_some (given values other) ≡ false
given_before values a other n full h = elim (same_or_other a other) [
  | inl same ↦
      let so : is_some (given (with_value values a n) other) ≡ true = subst (λ (x : Name). is_some (given (with_value values a n) x) ≡ true) same (ap is_some (given-same values a n full)) in
      absurd (cc)
  | inr differs ↦ ap is_some (sym (given-other values a other n differs)) ∙ h
]

-- what is new behind an option was new before it, and isn't excluded by it
pub untaken_before : (values : List (Option ℕ)) (a b : Name) (n : ℕ) → IsFull values → is_taken (with_value values a n) b ≡ false → (is_taken values b ≡ false) × (Contains (rivals a) b → ⊥)
untaken_before values a b n full new =
    let here : is_some (given (with_value values a n) a) ≡ true = ap is_some (given-same values a n full) in (
      untaken values b (λ other is. given_before values a other n full (not_taken (with_value values a n) b other new is)),
      λ rival. let never = not_taken (with_value values a n) b a new (rival_back a b rival) in absurd (cc),
    )

-- ---- words that name

find_true : {X : Type 0} (p : X → Bool) (xs : List X) (x : X) → find p xs ≡ Some x → p x ≡ true
find_true p [] x h = absurd (cc)
find_true {X} p (y ∷ ys) x h = elim (cases_Bool (p y)) [
  | inl e ↦
      let found : Some y ≡ find p (y ∷ ys) = if_true (p y) (Some y) (find p ys) e in
      let same : y ≡ x = cc in
      subst (λ (z : X). p z ≡ true) same e
  | inr e ↦
      let later : find p (y ∷ ys) ≡ find p ys = ap (λ b. if b then Some y else find p ys) e in
      find_true p ys x (sym later ∙ h)
]

has_in : (verb : Verb) (name : Name) → has_name verb name ≡ true → Contains (names_of verb) name
has_in verb name has =
    let some = Any-from_list_any (same_name name) (names_of verb) has in
    let same : some.1 ≡ name = sym (same_place name some.1 (eq_true (place_of name) (place_of some.1) some.4)) in
    let P : Name → Type 0 = λ x. get_or (names_of verb) some.0 x ≡ x in
    (some.0, some.2, subst P same some.3)

pub in_has : (verb : Verb) (name : Name) → Contains (names_of verb) name → has_name verb name ≡ true
in_has verb name is = list_any_at (same_name name) (names_of verb) is.0 name is.1 (eq-eqb (place_of name) (place_of (get_or (names_of verb) is.0 name)) (ap place_of (sym is.2)))

name_of_word : (name : Name) → name_named (name_word name) ≡ Some name
name_of_word Main = refl
name_of_word Method = refl
name_of_word All = refl
name_of_word Shapes = refl
name_of_word Cycles = refl
name_of_word Stack = refl
name_of_word Memory = refl
name_of_word Blocks = refl
name_of_word BlockWords = refl
name_of_word Read = refl
name_of_word Write = refl
name_of_word Micro = refl
name_of_word Rounds = refl
name_of_word Further = refl
name_of_word Facts = refl

pub option_of_word : (name : Name) → is_option (name_word name) ≡ true
option_of_word Main = refl
option_of_word Method = refl
option_of_word All = refl
option_of_word Shapes = refl
option_of_word Cycles = refl
option_of_word Stack = refl
option_of_word Memory = refl
option_of_word Blocks = refl
option_of_word BlockWords = refl
option_of_word Read = refl
option_of_word Write = refl
option_of_word Micro = refl
option_of_word Rounds = refl
option_of_word Further = refl
option_of_word Facts = refl

pub named_by_word : (verb : Verb) (name : Name) → Contains (names_of verb) name → name_of verb (name_word name) ≡ Some name
named_by_word verb name is = ap (kept_by verb) (name_of_word name) ∙ sym (if_true (has_name verb name) (Some name) None (in_has verb name is))

kept_parts : (verb : Verb) (o : Option Name) (name : Name) → kept_by verb o ≡ Some name → (o ≡ Some name) × Contains (names_of verb) name
kept_parts verb None name h = absurd (cc)
kept_parts verb (Some a) name h = elim (cases_Bool (has_name verb a)) [
  | inl e ↦
      let kept : Some a ≡ kept_by verb (Some a) = if_true (has_name verb a) (Some a) None e in
      let same : a ≡ name = cc in
      (ap (λ (x : Name). Some x) same, subst (λ (x : Name). Contains (names_of verb) x) same (has_in verb a e))
  | inr e ↦
      let lost : kept_by verb (Some a) ≡ None = ap (λ b. if b then Some a else None) e in
      absurd (cc)
]

pub word_of_name : (verb : Verb) (word : List ℕ) (name : Name) → name_of verb word ≡ Some name → (word ≡ name_word name) × Contains (names_of verb) name
word_of_name verb word name h =
    let parts = kept_parts verb (name_named word) name h in
    ((bytes_eq-Decides word (name_word name)).0 (find_true (λ a. bytes_eq word (name_word a)) all_names name parts.0), parts.1)

pub verb_of_word : (verb : Verb) → verb_named (verb_word verb) ≡ Some verb
verb_of_word Link = refl
verb_of_word Run = refl
verb_of_word Trace = refl
verb_of_word Profile = refl
verb_of_word Bound = refl
verb_of_word Report = refl
verb_of_word Plan = refl
verb_of_word Cycle = refl
verb_of_word Check = refl
verb_of_word Loops = refl
verb_of_word Headers = refl
verb_of_word Need = refl
verb_of_word Rtl = refl
verb_of_word Asm = refl
verb_of_word Work = refl

pub word_of_verb : (word : List ℕ) (verb : Verb) → verb_named word ≡ Some verb → word ≡ verb_word verb
word_of_verb word verb h = (bytes_eq-Decides word (verb_word verb)).0 (find_true (λ v. bytes_eq word (verb_word v)) all_verbs verb h)
