-- What is found in a code is so of its method.
use Rattle.std.proofs.Common.{◌≡◌, ◌↔◌, ℕ, Bool, true, List, get_or, Option, Some, None, MatchOption, sym, subst}
use Rattle.bytecode_model.specs.Program.{Program}
use Rattle.method_flow.specs.Flow.{Coded, IsCodedOf}
use Rattle.code_scan.specs.Marks.{mark_at}
use Rattle.code_scan.specs.Naming.{IsNamedIn, EndsAt, NamesAreRead, EndsAreRead}
use Rattle.code_scan.specs.Scans.{IsBefore, IsScanOf}

pub is_scan : NamesAreRead → EndsAreRead → (P : Program) (m : ℕ) (k : Coded) → IsCodedOf P m k → (named : List Bool) (before : List (Option ℕ)) (code : List ℕ) → code ≡ k.code
    → ((q : ℕ) → (mark_at named q ≡ true) ↔ IsNamedIn k q) → ((q : ℕ) → MatchOption (get_or before q None) ((p : ℕ) → EndsAt code p q → ⊥) (λ p. EndsAt code p q)) → IsScanOf P m (record { named = named; before = before })
is_scan names ends P m k of named before code same marks found = record {
  named = λ q. (λ e. (names P m k of q).1 ((marks q).0 e), λ h. (marks q).1 ((names P m k of q).0 h));
  before = λ q. by q (get_or before q None) (found q);
}
  where
    at : (p q : ℕ) → EndsAt code p q → EndsAt k.code p q
    at p q h = subst (λ (xs : List ℕ). EndsAt xs p q) same h

    from : (p q : ℕ) → EndsAt k.code p q → EndsAt code p q
    from p q h = subst (λ (xs : List ℕ). EndsAt xs p q) (sym same) h

    by : (q : ℕ) (o : Option ℕ) → MatchOption o ((p : ℕ) → EndsAt code p q → ⊥) (λ p. EndsAt code p q) → IsBefore P m q o
    by q None none = λ p r line. none p (from p q ((ends P m k of p q).0 (r, line)))
    by q (Some p) h = (ends P m k of p q).1 (at p q h)
