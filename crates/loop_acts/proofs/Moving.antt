-- How many steps come first to a distance.
use Rattle.std.proofs.Common.{◌≡◌, ◌≢◌, ℕ, zero, suc, ◌+◌, ◌-◌, ◌*◌, ◌/◌, ◌%◌, ◌<◌, ◌≤◌, ◌↔◌, Some, None, sym, ap, ◌∙◌, subst, arith}
use Rattle.std.specs.declared.option.Option.{Option}
use Rattle.std.proofs.Math.Nat.{lt-div-mul-add, div-mul-le_self, mul-le-mul_right, mul-lt-mul_of_pos_right, suc-mul, mul-mod_left}
use Rattle.std.proofs.lemmas.Nat.{le-div, div-add-mod'}
use Rattle.loop_acts.specs.Values.{IsFirstMove, IsMove}

pub same_move : (step room : ℕ) (A B : ℕ → Type 0) → ((x : ℕ) → A x ↔ B x) → (o : Option ℕ) → IsMove step room A o → IsMove step room B o
same_move step room A B same (Some n) is = record {
  within = is.within;
  out = (same (n * step)).0 is.out;
  before = λ k less out. is.before k less ((same (k * step)).1 out);
}
same_move step room A B same None none = λ n is. none n (record {
  within = is.within;
  out = (same (n * step)).1 is.out;
  before = λ k less out. is.before k less ((same (k * step)).0 out);
})

-- ---- a distance that is passed

pub steps_reach : (d t : ℕ) → 0 < t → d ≤ (d + (t - 1)) / t * t
steps_reach d t some = let past = lt-div-mul-add {a = d + (t - 1)} {b = t} some in omega arith

pub steps_least : (d t k : ℕ) → 0 < t → k < (d + (t - 1)) / t → k * t < d
steps_least d t k some less =
    let all = div-mul-le_self (d + (t - 1)) t in
    let more : suc k * t ≤ (d + (t - 1)) / t * t = mul-le-mul_right t (omega arith) in
    let one = suc-mul k t in
    omega arith

pub over_found : (d t room n : ℕ) → 0 < t → d ≤ n * t → ((k : ℕ) → k < n → k * t < d) → n ≤ room / t → IsFirstMove t room (λ x. d ≤ x) n
over_found d t room n some reaches least inside =
    let all = div-mul-le_self room t in
    let up : n * t ≤ room / t * t = mul-le-mul_right t inside in
    record {
      within = omega arith;
      out = reaches;
      before = λ k less out. let low = least k less in absurd (omega arith);
    }

pub over_none : (d t room n : ℕ) → 0 < t → d ≤ n * t → ((k : ℕ) → k < n → k * t < d) → room / t < n → (m : ℕ) → ¬ IsFirstMove t room (λ x. d ≤ x) m
over_none d t room n some reaches least past m is =
    let small : m ≤ room / t = le-div m room t some is.within in
    let low = least m (omega arith) in
    let out = is.out in
    absurd (omega arith)

-- ---- a distance that is met

pub onto_found : (d t room : ℕ) → 0 < t → d ≤ room → d % t ≡ 0 → IsFirstMove t room (λ x. x ≡ d) (d / t)
onto_found d t room some inside even =
    let all = div-add-mod' d t in
    let is : d / t * t ≡ d = omega arith in
    record {
      within = omega arith;
      out = is;
      before = λ k less out. let low : k * t < d / t * t = mul-lt-mul_of_pos_right less some in absurd (omega arith);
    }

pub onto_far : (d t room : ℕ) → room < d → (m : ℕ) → ¬ IsFirstMove t room (λ x. x ≡ d) m
onto_far d t room far m is = let out = is.out in let within = is.within in absurd (omega arith)

pub onto_between : (d t room : ℕ) → d % t ≢ 0 → (m : ℕ) → ¬ IsFirstMove t room (λ x. x ≡ d) m
onto_between d t room odd m is = odd (ap (λ x. x % t) (sym is.out) ∙ mul-mod_left m t)

-- ---- another distance than 0

pub away_found : (t room : ℕ) → 0 < t → t ≤ room → IsFirstMove t room (λ x. x ≢ 0) 1
away_found t room some inside =
    let one = suc-mul 0 t in
    let none : 0 * t ≡ 0 = omega arith in
    record {
      within = omega arith;
      out = λ e. absurd (omega arith);
      before = λ k less out. let first : k ≡ 0 = omega arith in out (ap (λ j. j * t) first ∙ none);
    }

pub away_none : (t room : ℕ) → room < t → (m : ℕ) → ¬ IsFirstMove t room (λ x. x ≢ 0) m
away_none t room far zero is = is.out (omega arith)
away_none t room far (suc m) is = let one = suc-mul m t in let within = is.within in absurd (omega arith)

-- ---- at once, and never

pub at_once : (t room : ℕ) (Out : ℕ → Type 0) → Out 0 → IsFirstMove t room Out 0
at_once t room Out out =
    let none : 0 * t ≡ 0 = omega arith in
    record { within = omega arith; out = subst Out (sym none) out; before = λ k less. absurd (omega arith) }

pub never : (t room : ℕ) (Out : ℕ → Type 0) → ((x : ℕ) → ¬ Out x) → (m : ℕ) → ¬ IsFirstMove t room Out m
never t room Out none m is = none (m * t) is.out
