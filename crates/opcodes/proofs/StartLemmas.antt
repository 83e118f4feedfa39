-- The starts of a code.
use Rattle.std.proofs.Common.{◌≡◌, ℕ, zero, suc, ◌+◌, ◌-◌, ◌<◌, ◌≤◌, Bool, true, false, not, List, [], ◌∷◌, ◌++◌, length, length-append, ◌==◌, eqb-true, IfSome, get_or, refl, sym, ◌∙◌, ap, subst, arith, Option, Some, None, Result, Ok, Err, cond, ◌⊎◌, inl, inr, Contains}
use Rattle.std.specs.Prelude.{is_ok, find}
use Rattle.std.proofs.lemmas.List.{append_assoc, append-nil}
use Rattle.std.specs.List.Sorted.{IsStrictlyIncreasing}
use Rattle.std.proofs.lemmas.Bool.{cases_lt, cases_Bool, cases_order, false≢true, cond_below, cond_above, eqb-false}
use Rattle.opcodes.specs.declared.instruction.Instr.{Instr}
use Rattle.opcodes.specs.declared.instruction.DecodeFault.{DecodeFault}
use Rattle.opcodes.specs.Instruction.{decoded}
use Rattle.opcodes.specs.Start.{place_behind, next_start, starts_from, starts_of, IsStart, first_bad, AreStarts, IsFirstBad, IsPartition}
use Rattle.opcodes.proofs.WithinLemmas.{decoded_length}

-- ---- lists

here : {X : Type 0} (x : X) (xs : List X) → Contains (x ∷ xs) x
here x xs = (zero, omega arith, refl)

there : {X : Type 0} (y x : X) (xs : List X) → Contains xs x → Contains (y ∷ xs) x
there y x xs (k, h, e) = (suc k, omega arith, e)

either : {X : Type 0} (y x : X) (xs : List X) → Contains (y ∷ xs) x → (y ≡ x) ⊎ Contains xs x
either y x xs (zero, h, e) = inl e
either y x xs (suc k, h, e) = inr (k, omega arith, e)

nowhere : {X : Type 0} (x : X) → Contains [] x → ⊥
nowhere x (k, h, e) = omega arith

found_is : (test : ℕ → Bool) (xs : List ℕ) (x : ℕ) → find test xs ≡ Some x → Contains xs x × (test x ≡ true)
found_is test [] x e = absurd (cc)
found_is test (y ∷ ys) x e = elim (cases_Bool (test y)) [
  | inl passes ↦
      let first : Some y ≡ Some x = sym (ap (λ (b : Bool). cond b (Some y) (find test ys)) passes) ∙ e in
      let same : y ≡ x = cc in
      (subst (λ (z : ℕ). Contains (y ∷ ys) z) same (here y ys), subst (λ (z : ℕ). test z ≡ true) same passes)
  | inr fails ↦
      let rest = found_is test ys x (sym (ap (λ (b : Bool). cond b (Some y) (find test ys)) fails) ∙ e) in
      (there y x ys rest.0, rest.1)
]

none_passes : (test : ℕ → Bool) (xs : List ℕ) → find test xs ≡ None → (x : ℕ) → Contains xs x → test x ≡ false
none_passes test [] e x w = absurd (nowhere x w)
none_passes test (y ∷ ys) e x w = elim (cases_Bool (test y)) [
  | inl passes ↦ let first : Some y ≡ None = sym (ap (λ (b : Bool). cond b (Some y) (find test ys)) passes) ∙ e in absurd (cc)
  | inr fails ↦ elim (either y x ys w) [
    | inl same ↦ subst (λ (z : ℕ). test z ≡ false) same fails
    | inr later ↦ none_passes test ys (sym (ap (λ (b : Bool). cond b (Some y) (find test ys)) fails) ∙ e) x later
  ]
]

-- ---- the next start

-- what the place behind an instruction is
pub record LeadsTo (code : List ℕ) (pc next : ℕ) : Type 0 where
  pub instr : Instr
  pub whole : decoded code pc ≡ Ok instr
  pub behind : next ≡ pc + instr.length
  pub later : pc < next
  pub inside : next < length code

module _ (code : List ℕ) (pc : ℕ) where
  behind_is : (r : Result Instr DecodeFault) → decoded code pc ≡ r → (next : ℕ) → place_behind code pc r ≡ Some next → LeadsTo code pc next
  behind_is (Err fault) whole next e = absurd (cc)
  behind_is (Ok instr) whole next e = elim (cases_lt (pc + instr.length) (length code)) [
    | inl h ↦
        let some : Some (pc + instr.length) ≡ Some next = cond_below (pc + instr.length) (length code) (Some (pc + instr.length)) None h ∙ e in
        let same : pc + instr.length ≡ next = cc in
        let more = decoded_length code pc instr whole in
        record { instr = instr; whole = whole; behind = sym same; later = omega arith; inside = omega arith }
    | inr h ↦
        let none : None ≡ Some next = cond_above (pc + instr.length) (length code) (Some (pc + instr.length)) None None h refl ∙ e in
        absurd (cc)
  ]

  leads_to : (next : ℕ) → next_start code pc ≡ Some next → LeadsTo code pc next
  leads_to next e = behind_is (decoded code pc) refl next e

  next_is : (instr : Instr) → decoded code pc ≡ Ok instr → pc + instr.length < length code → next_start code pc ≡ Some (pc + instr.length)
  next_is instr e h = ap (place_behind code pc) e ∙ sym (cond_below (pc + instr.length) (length code) (Some (pc + instr.length)) None h)

  -- the next start, if there is one
  next_cases : (next_start code pc ≡ None) ⊎ ((next : ℕ) × (next_start code pc ≡ Some next))
  next_cases = cases (next_start code pc) where
    cases : (o : Option ℕ) → (o ≡ None) ⊎ ((next : ℕ) × (o ≡ Some next))
    cases None = inl refl
    cases (Some next) = inr (next, refl)

abbrev is_bad : List ℕ → ℕ → Bool
is_bad code pc = not (is_ok (decoded code pc))

abbrev some_place : ℕ → Option ℕ
some_place place = Some place

ok_is : (r : Result Instr DecodeFault) → is_ok r ≡ true → (instr : Instr) × (r ≡ Ok instr)
ok_is (Ok instr) e = (instr, refl)
ok_is (Err fault) e = absurd (false≢true e)

same_length : (a b : Instr) → ◌≡◌ {A = Result Instr DecodeFault} (Ok a) (Ok b) → a.length ≡ b.length
same_length a b e = let same : a ≡ b = cc in ap (λ (i : Instr). i.length) same

-- ---- the starts from a place on

abbrev on_from : ℕ → List ℕ → ℕ → List ℕ
on_from most code pc = starts_from most code (Some pc)

-- the list behind a place, by the next start
no_more : (most : ℕ) (code : List ℕ) → starts_from most code None ≡ []
no_more zero code = refl
no_more (suc most) code = refl

behind-none : (most : ℕ) (code : List ℕ) (pc : ℕ) → next_start code pc ≡ None → starts_from most code (next_start code pc) ≡ []
behind-none most code pc e = ap (starts_from most code) e ∙ no_more most code

behind-some : (most : ℕ) (code : List ℕ) (pc next : ℕ) → next_start code pc ≡ Some next → starts_from most code (next_start code pc) ≡ on_from most code next
behind-some most code pc next e = ap (starts_from most code) e

starts_here : (code : List ℕ) (most at : ℕ) → 0 < most → Contains (on_from most code at) at
starts_here code zero at h = absurd (omega arith)
starts_here code (suc most) at h = here at (starts_from most code (next_start code at))

-- a start behind the first is one from the next start on
module _ (code : List ℕ) where
  onward : (most pc at : ℕ) → Contains (on_from (suc most) code pc) at
      → (pc ≡ at) ⊎ ((next : ℕ) × (next_start code pc ≡ Some next) × Contains (on_from most code next) at)
  onward most pc at w = elim (either pc at (starts_from most code (next_start code pc)) w) [
    | inl same ↦ inl same
    | inr later ↦ elim (next_cases code pc) [
      | inl e ↦ absurd (nowhere at (subst (λ (xs : List ℕ). Contains xs at) (behind-none most code pc e) later))
      | inr (next, e) ↦ inr (next, e, subst (λ (xs : List ℕ). Contains xs at) (behind-some most code pc next e) later)
    ]
  ]

  -- each start lies at or behind the first of them, and within the code
  bounds : (most pc at : ℕ) → pc < length code → Contains (on_from most code pc) at → (pc ≤ at) × (at < length code)
  bounds zero pc at h w = absurd (nowhere at w)
  bounds (suc most) pc at h w = elim (onward most pc at w) [
    | inl same ↦ (omega (arith, same), omega (arith, same))
    | inr (next, e, later) ↦
        let step = leads_to code pc next e in
        let rest = bounds most next at step.inside later in
        (omega (arith, step.later, rest.0), rest.1)
  ]

  -- the next start of a start is a start, where the number of starts is no limit
  closed : (most pc at next : ℕ) → pc < length code → length code ≤ pc + most → Contains (on_from most code pc) at
      → next_start code at ≡ Some next → Contains (on_from most code pc) next
  closed zero pc at next h enough w e = absurd (nowhere at w)
  closed (suc most) pc at next h enough w e = elim (onward most pc at w) [
    | inl same ↦
        let here_too : next_start code pc ≡ Some next = ap (next_start code) same ∙ e in
        let step = leads_to code pc next here_too in
        there pc next (starts_from most code (next_start code pc))
        (subst (λ (xs : List ℕ). Contains xs next) (sym (behind-some most code pc next here_too))
        (starts_here code most next (omega (arith, step.later, step.inside))))
    | inr (second, f, later) ↦
        let step = leads_to code pc second f in
        there pc next (starts_from most code (next_start code pc))
        (subst (λ (xs : List ℕ). Contains xs next) (sym (behind-some most code pc second f))
        (closed most second at next step.inside (omega (arith, step.later)) later e))
  ]

  -- a test that holds at the first, and at the place behind each instruction where it holds, holds at each start
  least : (test : ℕ → Bool) → ((pc : ℕ) (instr : Instr) → test pc ≡ true → decoded code pc ≡ Ok instr → pc + instr.length < length code → test (pc + instr.length) ≡ true)
      → (most pc at : ℕ) → test pc ≡ true → Contains (on_from most code pc) at → test at ≡ true
  least test onto zero pc at h w = absurd (nowhere at w)
  least test onto (suc most) pc at h w = elim (onward most pc at w) [
    | inl same ↦ subst (λ (z : ℕ). test z ≡ true) same h
    | inr (next, e, later) ↦
        let step = leads_to code pc next e in
        least test onto most next at (subst (λ (z : ℕ). test z ≡ true) (sym step.behind) (onto pc step.instr h step.whole (omega (arith, step.behind, step.inside)))) later
  ]

  -- two instructions do not overlap
  apart : (most pc at other : ℕ) (instr : Instr) → pc < length code → Contains (on_from most code pc) at → Contains (on_from most code pc) other
      → decoded code at ≡ Ok instr → at < other → at + instr.length ≤ other
  apart zero pc at other instr h w v e below = absurd (nowhere at w)
  apart (suc most) pc at other instr h w v e below = elim (onward most pc other v) [
    | inl same ↦ absurd (omega (arith, same, (bounds (suc most) pc at h w).0))
    | inr (next, f, later) ↦
        let step = leads_to code pc next f in
        elim (onward most pc at w) [
          | inl same ↦
              let equal : ◌≡◌ {A = Result Instr DecodeFault} (Ok instr) (Ok step.instr) = sym e ∙ ap (decoded code) (sym same) ∙ step.whole in
              let lengths : instr.length ≡ step.instr.length = same_length instr step.instr equal in
              omega (arith, same, lengths, step.behind, (bounds most next other step.inside later).0)
          | inr (second, g, later_too) ↦
              let equal : second ≡ next = cc in
              apart most next at other instr step.inside (subst (λ (z : ℕ). Contains (on_from most code z) at) equal later_too) later e below
        ]
  ]

  -- where each start is a whole instruction, each place from the first start on belongs to one
  covered : (most pc place : ℕ) → pc < length code → length code ≤ pc + most
      → ((at : ℕ) → Contains (on_from most code pc) at → is_ok (decoded code at) ≡ true)
      → pc ≤ place → place < length code
      → (at : ℕ) × (instr : Instr) × Contains (on_from most code pc) at × (decoded code at ≡ Ok instr) × (at ≤ place) × (place < at + instr.length)
  covered zero pc place h enough whole low high = absurd (omega arith)
  covered (suc most) pc place h enough whole low high =
      let found = ok_is (decoded code pc) (whole pc (here pc (starts_from most code (next_start code pc)))) in
      let instr = found.0 in
      elim (cases_lt place (pc + instr.length)) [
        | inl below ↦ (pc, instr, here pc (starts_from most code (next_start code pc)), found.1, low, below)
        | inr past ↦
            let next = pc + instr.length in
            let e = next_is code pc instr found.1 (omega arith) in
            let more = decoded_length code pc instr found.1 in
            let onto : (at : ℕ) → Contains (on_from most code next) at → Contains (on_from (suc most) code pc) at =
            λ at w. there pc at (starts_from most code (next_start code pc)) (subst (λ (xs : List ℕ). Contains xs at) (sym (behind-some most code pc next e)) w) in
            let rest = covered most next place (omega arith) (omega arith) (λ at w. whole at (onto at w)) past high in
            (rest.0, rest.1, onto rest.0 rest.2, rest.3, rest.4, rest.5)
      ]

  -- the first start that isn't whole is any start that isn't
  only_bad : (most pc at : ℕ) → Contains (on_from most code pc) at → is_ok (decoded code at) ≡ false
      → find (is_bad code) (on_from most code pc) ≡ Some at
  only_bad zero pc at w bad = absurd (nowhere at w)
  only_bad (suc most) pc at w bad = elim (onward most pc at w) [
    | inl same ↦
        let bad_here : is_ok (decoded code pc) ≡ false = ap (λ (z : ℕ). is_ok (decoded code z)) same ∙ bad in
        ap (λ (b : Bool). cond (not b) (Some pc) (find (is_bad code) (starts_from most code (next_start code pc)))) bad_here ∙ ap (λ (z : ℕ). some_place z) same
    | inr (next, e, later) ↦
        let step = leads_to code pc next e in
        ap (λ (b : Bool). cond (not b) (Some pc) (find (is_bad code) (starts_from most code (next_start code pc)))) (ap is_ok step.whole)
        ∙ ap (find (is_bad code)) (behind-some most code pc next e)
        ∙ only_bad most next at later bad
  ]

-- ---- rising

rising-cons : (x y : ℕ) (ys : List ℕ) → x < y → IsStrictlyIncreasing (y ∷ ys) → IsStrictlyIncreasing (x ∷ y ∷ ys)
rising-cons x y ys below h zero k = below
rising-cons x y ys below h (suc k) more =
    let e : suc (k + 1) ≡ suc k + 1 = omega arith in
    subst (λ (n : ℕ). get_or (y ∷ ys) k 0 < get_or (x ∷ y ∷ ys) n 0) e (h k (omega arith))

rising : (most : ℕ) (code : List ℕ) (pc : ℕ) → IsStrictlyIncreasing (on_from most code pc)
rising zero code pc = λ k h. absurd (omega arith)
rising (suc zero) code pc = λ k h. absurd (omega arith)
rising (suc (suc most)) code pc = elim (next_cases code pc) [
  | inl e ↦ subst (λ (xs : List ℕ). IsStrictlyIncreasing (pc ∷ xs)) (sym (behind-none (suc most) code pc e)) (λ k h. absurd (omega arith))
  | inr (next, e) ↦
      subst (λ (xs : List ℕ). IsStrictlyIncreasing (pc ∷ xs)) (sym (behind-some (suc most) code pc next e))
      (rising-cons pc next (starts_from most code (next_start code next)) (leads_to code pc next e).later (rising (suc most) code next))
]

-- ---- the starts of a code

starts_are : (code : List ℕ) → ((0 < length code) × (starts_of code ≡ on_from (length code) code 0)) ⊎ ((length code ≡ 0) × (starts_of code ≡ []))
unfolding starts_of
starts_are code = elim (cases_lt 0 (length code)) [
  | inl h ↦ inl (h, ap (starts_from (length code) code) (sym (cond_below 0 (length code) (Some 0) None h)))
  | inr h ↦ inr (omega arith, ap (starts_from (length code) code) (sym (cond_above 0 (length code) (Some 0) None None h refl)) ∙ no_more (length code) code)
]

none_in : (code : List ℕ) → starts_of code ≡ [] → (pc : ℕ) → IsStart code pc → ⊥
none_in code e pc w = nowhere pc (subst (λ (xs : List ℕ). Contains xs pc) e w)

pub AreStarts-starts_of : (code : List ℕ) → AreStarts code
AreStarts-starts_of code = elim (starts_are code) [
  | inl (some, e) ↦
      let to : (pc : ℕ) → IsStart code pc → Contains (on_from (length code) code 0) pc = λ pc w. subst (λ (xs : List ℕ). Contains xs pc) e w in
      let from : (pc : ℕ) → Contains (on_from (length code) code 0) pc → IsStart code pc = λ pc w. subst (λ (xs : List ℕ). Contains xs pc) (sym e) w in
      record {
        first = λ h. from 0 (starts_here code (length code) 0 h);
        next = λ pc instr w whole h. from (pc + instr.length) (closed code (length code) 0 pc (pc + instr.length) some (omega arith) (to pc w) (next_is code pc instr whole h));
        no_other = λ test zero onto pc w. least code test onto (length code) 0 pc zero (to pc w);
        within_code = λ pc w. (bounds code (length code) 0 pc some (to pc w)).1;
        rising = subst IsStrictlyIncreasing (sym e) (rising (length code) code 0);
      }
  | inr (empty, e) ↦ record {
    first = λ h. absurd (omega arith);
    next = λ pc instr w whole h. absurd (none_in code e pc w);
    no_other = λ test zero onto pc w. absurd (none_in code e pc w);
    within_code = λ pc w. absurd (none_in code e pc w);
    rising = subst IsStrictlyIncreasing (sym e) (λ k h. absurd (omega arith));
  }
]

first_is : (code : List ℕ) → first_bad code ≡ find (is_bad code) (starts_of code)
unfolding first_bad
first_is code = refl

not_true : (b : Bool) → not b ≡ true → b ≡ true → ⊥
not_true true e w = false≢true e
not_true false e w = false≢true w

not_false : (b : Bool) → not b ≡ false → b ≡ true
not_false true e = refl
not_false false e = absurd (false≢true (sym e))

is_false : (b : Bool) → (b ≡ true → ⊥) → b ≡ false
is_false true none = absurd (none refl)
is_false false none = refl

pub IsFirstBad-first_bad : (code : List ℕ) → IsFirstBad code
IsFirstBad-first_bad code pc = (
  λ e.
      let found = found_is (is_bad code) (starts_of code) pc (sym (first_is code) ∙ e) in
      (found.0, not_true (is_ok (decoded code pc)) found.1),
  λ w. elim (starts_are code) [
    | inl (some, e) ↦
        first_is code
        ∙ ap (find (is_bad code)) e
        ∙ only_bad code (length code) 0 pc (subst (λ (xs : List ℕ). Contains xs pc) e w.0) (is_false (is_ok (decoded code pc)) w.1)
    | inr (empty, e) ↦ absurd (none_in code e pc w.0)
  ],
)

pub IsPartition-starts_of : (code : List ℕ) → IsPartition code
IsPartition-starts_of code none place h = elim (starts_are code) [
  | inl (some, e) ↦
      let to : (pc : ℕ) → IsStart code pc → Contains (on_from (length code) code 0) pc = λ pc w. subst (λ (xs : List ℕ). Contains xs pc) e w in
      let from : (pc : ℕ) → Contains (on_from (length code) code 0) pc → IsStart code pc = λ pc w. subst (λ (xs : List ℕ). Contains xs pc) (sym e) w in
      let whole : (at : ℕ) → Contains (on_from (length code) code 0) at → is_ok (decoded code at) ≡ true =
      λ at w. not_false (is_ok (decoded code at)) (none_passes (is_bad code) (starts_of code) (sym (first_is code) ∙ none) at (from at w)) in
      let found = covered code (length code) 0 place some (omega arith) whole (omega arith) h in (
        found.0,
        record { instr = found.1; start = from found.0 found.2; whole = found.3; from = found.4; to = found.5 },
        λ other b. elim (cases_order other found.0) [
          | inl same ↦ same
          | inr (inl below) ↦ absurd (omega (arith, b.to, found.4, apart code (length code) 0 other found.0 b.instr some (to other b.start) found.2 b.whole below))
          | inr (inr above) ↦ absurd (omega (arith, b.from, found.5, apart code (length code) 0 found.0 other found.1 some found.2 (to other b.start) found.3 above))
        ],
      )
  | inr (empty, e) ↦ absurd (omega arith)
]

-- ---- the starts found one after another

-- the starts found, and then those from the next one on, are those of the code
pub record AreSoFar (code found : List ℕ) (next : Option ℕ) : Type 0 where
  pub all : found ++ starts_from (length code - length found) code next ≡ starts_of code
  pub inside : IfSome next (λ pc. (length found ≤ pc) × (pc < length code))

module _ (code : List ℕ) where
  most : (next : Option ℕ) → [] ++ starts_from (length code - 0) code next ≡ starts_from (length code) code next
  most next =
      let same : length code - 0 ≡ length code = omega arith in
      ap (λ (k : ℕ). starts_from k code next) same

  pub begins_empty : (length code == 0) ≡ true → AreSoFar code [] None
  unfolding starts_of
  begins_empty e =
      let none : length code ≡ 0 = eqb-true (length code) 0 e in
      record {
        all = most None ∙ ap (starts_from (length code) code) (cond_above 0 (length code) (Some 0) None None (omega arith) refl);
        inside = tt;
      }

  pub begins : (length code == 0) ≡ false → AreSoFar code [] (Some 0)
  unfolding starts_of
  begins e =
      let some : 0 < length code = omega (arith, eqb-false (length code) 0 e) in
      record {
        all = most (Some 0) ∙ ap (starts_from (length code) code) (cond_below 0 (length code) (Some 0) None some);
        inside = (omega arith, some);
      }

  -- one more start
  pub goes_on : (found : List ℕ) (pc : ℕ) (next : Option ℕ) → next ≡ next_start code pc → AreSoFar code found (Some pc) → AreSoFar code (found ++ pc ∷ []) next
  goes_on found pc next is h = record {
    all = all_of (length code - length found) refl;
    inside = inside_of next is;
  } where
    all_of : (most : ℕ) → length code - length found ≡ most → (found ++ pc ∷ []) ++ starts_from (length code - length (found ++ pc ∷ [])) code next ≡ starts_of code
    all_of zero e = absurd (omega (arith, h.inside.0, h.inside.1))
    all_of (suc most) e =
        let left : length code - length (found ++ pc ∷ []) ≡ most = omega (arith, length-append found (pc ∷ [])) in
        ap (λ (k : ℕ). (found ++ pc ∷ []) ++ starts_from k code next) left
        ∙ append_assoc found (pc ∷ []) (starts_from most code next)
        ∙ ap (λ (o : Option ℕ). found ++ pc ∷ starts_from most code o) is
        ∙ ap (λ (k : ℕ). found ++ starts_from k code (Some pc)) (sym e) ∙ h.all

    inside_of : (o : Option ℕ) → o ≡ next_start code pc → IfSome o (λ place. (length (found ++ pc ∷ []) ≤ place) × (place < length code))
    inside_of None e = tt
    inside_of (Some place) e =
        let step = leads_to code pc place (sym e) in
        (omega (arith, step.later, h.inside.0, length-append found (pc ∷ [])), step.inside)

  -- at the end
  pub are_all : (found : List ℕ) → AreSoFar code found None → found ≡ starts_of code
  are_all found h = sym (append-nil found) ∙ ap (λ (ps : List ℕ). found ++ ps) (sym (no_more (length code - length found) code)) ∙ h.all
