-- The tables of methods, one by one; and what holds where nothing is known of fields but constants.
use Rattle.std.proofs.Common.{◌≡◌, ℕ, ◌+◌, ◌<◌, ℤ, List, [], ◌∷◌, ◌++◌, length, Option, Some, None, sym, ap, ◌∙◌, subst, inl, inr, arith}
use Rattle.std.specs.Prelude.{slice_get}
use Rattle.std.proofs.lemmas.Bool.{cases_lt}
use Rattle.std.proofs.lemmas.List.{get_or_append_left, get_or_past, get_or_push, length-append}
use Rattle.std.proofs.lemmas.Option.{get_or_from_slice_get, slice_get-get_or, slice_get_past, slice_get_within}
use Rattle.lists.proofs.Lemmas.{none≢some}
use Rattle.bytecode_model.specs.Program.{Program}
use Rattle.method_flow.specs.Flow.{Flow, IsFlowOf}
use Rattle.loop_rules.specs.Further.Known.{Known}
use Rattle.loop_rules.specs.Further.Found.{Table, only_constants}
use Rattle.loop_rules.specs.Further.Arrays.{AreArraysRead, AreMethodArrays, AreTables, ReadsArray}
use Rattle.known_ints.specs.Laws.{ConstantsAreApart, NoArraysAreRead}
use Rattle.known_ints.specs.Tables.{AreTablesBelow, IsTableOf, arrays_of}

-- ---- nothing is known of fields but constants

pub constants_apart : ConstantsAreApart
constants_apart constants f n is = absurd (none≢some n is)

pub none_read : NoArraysAreRead
none_read P constants m p c = ((λ e. absurd (none≢some c (sym (get_or_past [] p None (omega arith)) ∙ e))), (λ h. absurd (no h.0 h.2)))
  where
    no : (n : ℕ) → ¬ ReadsArray P (only_constants constants) m p n
    no n (inl (f, q, line, holds)) = none≢some n holds
    no n (inr (named, owner, index, q, line, holds)) = none≢some n holds

pub none_told : (m : ℕ) → [] ≡ arrays_of [] m
none_told m = sym (get_or_past [] m [] (omega arith))

-- ---- functions

pub same_functions : (f g : ℕ → Option ℤ) → ((k : ℕ) → f k ≡ g k) → f ≡ g
same_functions f g h = λ i k. h k i

-- ---- tables

pub told_of : (P : Program) (known : Known) (f : Flow) → IsFlowOf P f → (xss : List (List (Option ℤ))) → AreMethodArrays P known xss → (m : ℕ) → m < length f.methods
    → AreArraysRead P known m (arrays_of xss m)
told_of P known f flow xss are m lt = are.each m (arrays_of xss m) (slice_get-get_or xss m [] ((are.coded m).0 ((flow.coded m).1 lt)))

module _ (P : Program) (known : Known) where
  pub no_tables : (ts : List Table) → ts ≡ [] → AreTablesBelow P known 0 ts
  no_tables ts none = record {
    long = long;
    each = λ m t is. absurd (none≢some t (sym (slice_get_past ts m (let l = long in omega arith)) ∙ is));
  }
    where
      long : length ts ≡ 0
      long = ap (λ (xs : List Table). length xs) none

  pub more_tables : (n : ℕ) (ts new : List Table) (t : Table) → AreTablesBelow P known n ts → IsTableOf P known n t → new ≡ ts ++ t ∷ [] → AreTablesBelow P known (n + 1) new
  more_tables n ts new t h here is = subst (λ (xs : List Table). AreTablesBelow P known (n + 1) xs) (sym is) (record {
    long = longer ∙ ap (λ (k : ℕ). k + 1) h.long;
    each = each;
  })
    where
      longer : length (ts ++ t ∷ []) ≡ length ts + 1
      longer = length-append ts (t ∷ [])

      each : (i : ℕ) (u : Table) → slice_get (ts ++ t ∷ []) i ≡ Some u → IsTableOf P known i u
      each i u at =
          let within = slice_get_within (ts ++ t ∷ []) i u at in
          let read = get_or_from_slice_get (ts ++ t ∷ []) i u u at in
          elim (cases_lt i (length ts)) [
            | inl lt ↦ h.each i u (slice_get-get_or ts i u lt ∙ ap Some (sym (get_or_append_left ts (t ∷ []) u i lt) ∙ read))
            | inr ge ↦
                let last : i ≡ length ts = (let l = longer in omega arith) in
                let value : t ≡ u = sym (get_or_push ts t u i (sym last)) ∙ read in
                let number : n ≡ i = sym h.long ∙ sym last in
                subst (λ (z : Table). IsTableOf P known i z) value (subst (λ (k : ℕ). IsTableOf P known k t) number here)
          ]

  pub all_tables : (f : Flow) → IsFlowOf P f → (n : ℕ) (ts : List Table) → n ≡ length f.methods → AreTablesBelow P known n ts → AreTables P known ts
  all_tables f flow n ts all h = record {
    coded = λ m. ((λ has. subst (λ (k : ℕ). m < k) long ((flow.coded m).0 has)), (λ lt. (flow.coded m).1 (subst (λ (k : ℕ). m < k) (sym long) lt)));
    ints = λ m t is. (h.each m t is).ints;
    lengths = λ m t is. (h.each m t is).lengths;
  }
    where
      long : length f.methods ≡ length ts
      long = sym all ∙ sym h.long
