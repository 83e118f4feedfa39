-- The constants that instructions leave, method by method, and the sites of methods.
use Rattle.std.proofs.Common.{◌≡◌, ℕ, ◌+◌, ◌<◌, ◌≤◌, ℤ, List, [], ◌∷◌, ◌++◌, length, map, Contains, Option, Some, None, refl, sym, ap, ◌∙◌, subst, inl, inr, arith}
use Rattle.std.specs.Prelude.{slice_get, IsSome}
use Rattle.std.proofs.lemmas.Bool.{cases_lt}
use Rattle.std.proofs.lemmas.Option.{slice_get_within, get_or_from_slice_get, slice_get-get_or}
use Rattle.std.proofs.lemmas.List.{length_push, get_or_append_left, get_or_push}
use Rattle.lists.specs.Lists.{onto}
use Rattle.lists.proofs.Lemmas.{none≢some, some_is}
use Rattle.opcodes.specs.Start.{IsStart, starts_of}
use Rattle.class_pool.specs.declared.class.ClassFile.{ClassFile}
use Rattle.class_pool.specs.declared.class.Code.{Code}
use Rattle.bytecode_model.specs.Program.{Program, Body, body_of}
use Rattle.bytecode_model.specs.Rows as rows
use Rattle.bytecode_model.specs.Rows.{Row}
use Rattle.code_lines.specs.Lines.{IsLine}
use Rattle.program_tables.specs.Laws.{MethodsStandByNumber}
use Rattle.program_tables.specs.Numbers.{methods_by_number, static_fields}
use Rattle.program_tables.specs.Resolved.{resolved}
use Rattle.loop_rules.specs.Tests.{Constants}
use Rattle.loop_rules.specs.Sites.{SitesOf, AreSitesOf, AreIntSites, int_at}
use Rattle.program_sites.specs.Ints.Rows.{put_at}
use Rattle.program_sites.specs.Ints.Places.{AreLeft}
use Rattle.program_sites.specs.Ints.Constants.{constant_int, AreConstants, AreConstantsBelow, AreMethodSites, AreSitesBelow}
use Rattle.program_sites.proofs.IntsLemmas.Coding.{code_at, body_of_code, code_of_body, coded_first, none_past}
use Rattle.program_sites.proofs.IntsLemmas.Filling.{int_at-map}
use Rattle.program_sites.proofs.IntsLemmas.Lining.{puts_are}

-- ---- constants

pub first_constants : (cs : List ClassFile) (xs : List (Option ℤ)) → xs ≡ map (constant_int cs) (static_fields cs) → AreConstantsBelow cs 0 xs
first_constants cs xs is f c =
    let at : int_at xs f ≡ onto (slice_get (static_fields cs) f) (constant_int cs) = ap (λ (ys : List (Option ℤ)). int_at ys f) is ∙ int_at-map (constant_int cs) (static_fields cs) f in
    (λ e. (sym at ∙ e, λ m p next lt line. absurd (omega arith)), λ h. at ∙ h.0)

module _ (stand : MethodsStandByNumber) (cs : List ClassFile) where
  -- a method with lines has code
  coded_line : (m p next : ℕ) (r : Row) → IsLine (resolved cs) m p next r → (k : Code) × (code_at cs m ≡ Some k)
  coded_line m p next r line =
      let b = some_is (body_of (resolved cs) m) (λ (x : Body). IsStart x.code p) line.start in
      code_of_body stand cs m b.0 b.1

  pub more_constants : (n : ℕ) (k : Code) (old new : List (Option ℤ)) → code_at cs n ≡ Some k → AreConstantsBelow cs n old → AreLeft (put_at (resolved cs) n) (starts_of k.code) old new
      → AreConstantsBelow cs (n + 1) new
  more_constants n k old new is h left f c =
      let b = body_of_code stand cs n k is in
      let puts = puts_are (resolved cs) n b.body b.is_body f in
      let same : (starts_of b.body.code) ≡ (starts_of k.code) = ap starts_of b.code in (
        λ e.
            let o = (left.1 f c).0 e in
            let below = (h f c).0 o.0 in
            let here = puts.0 (λ p has. o.1 p (subst (λ (ps : List ℕ). Contains ps p) same has)) in (
              below.0,
              λ m p next lt line.
                  elim (cases_lt m n) [
                    | inl less ↦ below.1 m p next less line
                    | inr ge ↦ let at : m ≡ n = omega arith in here p next (subst (λ (x : ℕ). IsLine (resolved cs) x p next (rows.PutStatic f)) at line)
                  ],
            ),
        λ all.
            let old_one = (h f c).1 (all.0, λ m p next lt. all.1 m p next (omega arith)) in
            let none = puts.1 (λ p next. all.1 n p next (omega arith)) in
            (left.1 f c).1 (old_one, λ p has. none p (subst (λ (ps : List ℕ). Contains ps p) (sym same) has)),
      )

  -- a method without code writes nothing
  pub same_constants : (n : ℕ) (xs : List (Option ℤ)) → code_at cs n ≡ None → AreConstantsBelow cs n xs → AreConstantsBelow cs (n + 1) xs
  same_constants n xs none h f c = (
    λ e. let o = (h f c).0 e in (
      o.0,
      λ m p next lt line.
          elim (cases_lt m n) [
            | inl less ↦ o.1 m p next less line
            | inr ge ↦
                let at : m ≡ n = omega arith in
                let k = coded_line m p next (rows.PutStatic f) line in
                absurd (none≢some k.0 (sym none ∙ ap (code_at cs) (sym at) ∙ k.1))
          ],
    ),
    λ all. (h f c).1 (all.0, λ m p next lt. all.1 m p next (omega arith)),
  )

  pub all_constants : (n : ℕ) (xs : List (Option ℤ)) → length (methods_by_number cs) ≤ n → AreConstantsBelow cs n xs → AreConstants cs xs
  all_constants n xs past h f c = (
    λ e. let o = (h f c).0 e in (
      o.0,
      λ m p next line.
          elim (cases_lt m n) [
            | inl less ↦ o.1 m p next less line
            | inr ge ↦
                let k = coded_line m p next (rows.PutStatic f) line in
                absurd (none≢some k.0 (sym (none_past cs m (omega arith)) ∙ k.1))
          ],
    ),
    λ all. (h f c).1 (all.0, λ m p next lt. all.1 m p next),
  )

-- ---- the sites of methods

there_is : {A : Type 0} (o : Option A) → IsSome o → (x : A) × (o ≡ Some x)
there_is None h = absurd (let bad : ⊥ = cc in bad)
there_is (Some x) h = (x, refl)

pub is_there : {A : Type 0} (o : Option A) (x : A) → o ≡ Some x → IsSome o
is_there {A} o x is = subst (λ (z : Option A). IsSome z) (sym is) refl

module _ (P : Program) (constants : Constants) where
  pub no_sites : AreSitesBelow P constants 0 []
  no_sites = record { long = refl; coded = λ m lt. absurd (omega arith); each = λ m x is. absurd (none≢some x is) }

  pub more_sites : (n : ℕ) (ms : List SitesOf) (x : SitesOf) → AreSitesBelow P constants n ms → IsSome (body_of P n) → AreSitesOf P constants n x → AreSitesBelow P constants (n + 1) (ms ++ x ∷ [])
  more_sites n ms x h has here = record {
    long = length_push ms x ∙ ap (λ (k : ℕ). k + 1) h.long;
    coded = λ m lt.
        elim (cases_lt m n) [
          | inl less ↦ h.coded m less
          | inr ge ↦ let at : n ≡ m = omega arith in subst (λ (k : ℕ). IsSome (body_of P k)) at has
        ];
    each = λ i y is.
        let within = slice_get_within (ms ++ x ∷ []) i y is in
        let longer = length_push ms x in
        let read = get_or_from_slice_get (ms ++ x ∷ []) i y y is in
        elim (cases_lt i (length ms)) [
          | inl lt ↦
              let same = get_or_append_left ms (x ∷ []) y i lt in
              h.each i y (slice_get-get_or ms i y lt ∙ ap Some (sym same ∙ read))
          | inr ge ↦
              let at : i ≡ length ms = omega arith in
              let same = get_or_push ms x y i (sym at) in
              let value : x ≡ y = sym same ∙ read in
              let number : n ≡ i = sym h.long ∙ sym at in
              subst (λ (z : SitesOf). AreSitesOf P constants i z) value (subst (λ (k : ℕ). AreSitesOf P constants k x) number here)
        ];
  }

-- where no method is left that has code
pub all_sites : MethodsStandByNumber → (cs : List ClassFile) (constants : Constants) (n : ℕ) (ms : List SitesOf) → code_at cs n ≡ None → AreSitesBelow (resolved cs) constants n ms
    → AreMethodSites (resolved cs) constants ms
all_sites stand cs constants n ms none h = record {
  coded = λ m. (
    λ has.
        elim (cases_lt m n) [
          | inl less ↦ subst (λ (k : ℕ). m < k) (sym h.long) less
          | inr ge ↦
              let b = there_is (body_of (resolved cs) m) has in
              let k = code_of_body stand cs m b.0 b.1 in
              absurd (coded_first cs n m none ge k.0 k.1)
        ],
    λ lt. h.coded m (subst (λ (k : ℕ). m < k) h.long lt),
  );
  each = h.each;
}

pub are_int_sites : (cs : List ClassFile) (methods : List SitesOf) (constants : List (Option ℤ)) → AreConstants cs constants → AreMethodSites (resolved cs) (int_at constants) methods
    → AreIntSites (resolved cs) (record { methods = methods; constants = constants })
are_int_sites cs methods constants are sites = record { coded = sites.coded; each = sites.each; never_put = λ f c is. ((are f c).0 is).1 }
