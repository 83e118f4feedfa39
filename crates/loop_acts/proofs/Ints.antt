-- What is known of ints is what the rules speak of.
use Rattle.std.proofs.Common.{◌≡◌, ℕ, ℤ, true, false, Bool, List, Option, Some, None, refl, sym, ap, ◌∙◌, subst}
use Rattle.std.specs.Prelude.{MatchOption, if◌then◌else◌}
use Rattle.std.proofs.lemmas.Bool.{false≢true}
use Rattle.lists.proofs.Lemmas.{none≢some, some_same, onto_some}
use Rattle.lists.specs.Lists.{onto}
use Rattle.bytecode_model.specs.declared.Value.TheVariants.{Int}
use Rattle.bytecode_model.specs.Program.{Program}
use Rattle.bytecode_model.specs.Rows as rows
use Rattle.bytecode_model.specs.Rows.{Row}
use Rattle.code_lines.specs.Lines.{IsLine, IsNamed, IsPushedBefore}
use Rattle.code_lines.specs.Laws.{LinesAreOne, OneStandsBefore}
use Rattle.code_scan.specs.Scans.{Scanned, is_named, line_before, IsBefore, IsScanOf}
use Rattle.loop_rules.specs.declared.further.table.KnownInt.{KnownInt}
use Rattle.loop_rules.specs.Further.Known.{Known, Pushes}
use Rattle.loop_rules.specs.Further.Found.{AreKnownInts, IsFollowing, known_at}
use Rattle.loop_rules.specs.Tests.{Constants, IsLimit, PushesLimit}
use Rattle.loop_rules.specs.Tests.IsLimit.{constant, field}
use Rattle.loop_rules.specs.Sites.{SitesOf, int_at, IsPushAt, IsReadAt, AreSitesOf, AreNeverPut}
use Rattle.loop_acts.specs.Rules.{Given, rules_by}
use Rattle.loop_acts.specs.Rules.Given.{plainly, further_on}
use Rattle.loop_acts.specs.declared.reading.MethodInts.{MethodInts}
use Rattle.loop_acts.specs.declared.reading.MethodInts.TheVariants.{OfSites, OfTable}
use Rattle.loop_acts.specs.Reading.{AreIntsBy, AreIntsIn, limit_at, pushed_before, told_before, value_before}
use Rattle.loop_acts.proofs.Rows.{int_in, field_in, IsPush}

abbrev int_from : ℕ → ℤ → Option KnownInt
int_from q c = Some (record { from = q; value = c })

module _ (P : Program) (constants : Constants) (m : ℕ) (s : Scanned) (x : SitesOf) (one : LinesAreOne) (before_one : OneStandsBefore) (scan : IsScanOf P m s) (sites : AreSitesOf P constants m x) (never : AreNeverPut P constants) where
  is_free : (q : ℕ) → is_named s q ≡ false → ¬ IsNamed P m q
  is_free q e named = false≢true (sym e ∙ (scan.named q).1 named)

  -- the line directly before a place
  line_found : (q p : ℕ) → line_before s q ≡ Some p → (r : Row) × IsLine P m p q r
  line_found q p e = subst (IsBefore P m q) e (scan.before q)

  before_is : (p q : ℕ) (r : Row) → IsLine P m p q r → line_before s q ≡ Some p
  before_is p q r line = by (line_before s q) refl (scan.before q)
    where
      by : (o : Option ℕ) → line_before s q ≡ o → IsBefore P m q o → line_before s q ≡ Some p
      by None e none = absurd (none p r line)
      by (Some z) e h = e ∙ ap Some (before_one P m z p q h.0 r h.1 line)

  -- ---- limits

  limits : (p : ℕ) (c : ℤ) → limit_at x p ≡ Some c → (next : ℕ) × (r : Row) × IsLine P m p next r × IsLimit P constants r c
  limits p c e = by (int_at x.pushed p) (sites.pushed p) e
    where
      read : (o : Option ℤ) → MatchOption o ((d : ℤ) → ¬ IsReadAt P constants m p d) (IsReadAt P constants m p) → o ≡ Some c → (next : ℕ) × (r : Row) × IsLine P m p next r × IsLimit P constants r c
      read None none e = absurd (none≢some c e)
      read (Some d) h e =
          let same = some_same d c e in
          (h.0, rows.GetStatic h.1, h.2, subst (IsLimit P constants (rows.GetStatic h.1)) same (field h.3 (never h.1 d h.3)))

      by : (o : Option ℤ) → MatchOption o ((d : ℤ) → ¬ IsPushAt P m p d) (IsPushAt P m p) → (elim o [ Some d ↦ Some d | None ↦ int_at x.fields p ]) ≡ Some c
          → (next : ℕ) × (r : Row) × IsLine P m p next r × IsLimit P constants r c
      by None none e = read (int_at x.fields p) (sites.fields p) e
      by (Some d) h e =
          let same = some_same d c e in
          (h.0, rows.Push (Int d), h.1, subst (IsLimit P constants (rows.Push (Int d))) same constant)

  limit_is : (p next : ℕ) (r : Row) (c : ℤ) → IsLine P m p next r → IsLimit P constants r c → limit_at x p ≡ Some c
  limit_is p next r c line constant = by (int_at x.pushed p) (sites.pushed p)
    where
      by : (o : Option ℤ) → MatchOption o ((d : ℤ) → ¬ IsPushAt P m p d) (IsPushAt P m p) → (elim o [ Some d ↦ Some d | None ↦ int_at x.fields p ]) ≡ Some c
      by None none = absurd (none c (next, line))
      by (Some d) h = ap (λ (z : ℤ). Some z) (ap int_in (one P m p h.0 next (rows.Push (Int d)) (rows.Push (Int c)) h.1 line).1)
  limit_is p next r c line (field {f = f} is put) = by (int_at x.pushed p) (sites.pushed p)
    where
      read : (o : Option ℤ) → MatchOption o ((d : ℤ) → ¬ IsReadAt P constants m p d) (IsReadAt P constants m p) → o ≡ Some c
      read None none = absurd (none c (next, f, line, is))
      read (Some d) h =
          let same : h.1 ≡ f = ap field_in (one P m p h.0 next (rows.GetStatic h.1) (rows.GetStatic f) h.2 line).1 in
          sym h.3 ∙ (ap constants same ∙ is)

      by : (o : Option ℤ) → MatchOption o ((d : ℤ) → ¬ IsPushAt P m p d) (IsPushAt P m p) → (elim o [ Some d ↦ Some d | None ↦ int_at x.fields p ]) ≡ Some c
      by None none = read (int_at x.fields p) (sites.fields p)
      by (Some d) h = absurd (subst IsPush (one P m p h.0 next (rows.Push (Int d)) (rows.GetStatic f) h.1 line).1 tt)

  -- ---- constants that are stored

  pub pushed_is : (p : ℕ) → MatchOption (pushed_before s x p) ((c : ℤ) → ¬ IsPushedBefore P m p c) (IsPushedBefore P m p)
  pushed_is p = by (is_named s p) refl
    where
      Is : Option ℤ → Type 0
      Is o = MatchOption o ((c : ℤ) → ¬ IsPushedBefore P m p c) (IsPushedBefore P m p)

      at_line : is_named s p ≡ false → (q : ℕ) (r : Row) → IsLine P m q p r → (o : Option ℤ) → MatchOption o ((c : ℤ) → ¬ IsPushAt P m q c) (IsPushAt P m q) → Is o
      at_line e q r line None none = λ c h.
          let same : h.before ≡ q = before_one P m h.before q p (rows.Push (Int c)) r h.push line in
          none c (p, subst (λ (z : ℕ). IsLine P m z p (rows.Push (Int c))) same h.push)
      at_line e q r line (Some c) h =
          let same : h.0 ≡ p = (one P m q h.0 p (rows.Push (Int c)) r h.1 line).0 in
          record { before = q; push = subst (λ (z : ℕ). IsLine P m q z (rows.Push (Int c))) same h.1; alone = is_free p e }

      behind : is_named s p ≡ false → (o : Option ℕ) → IsBefore P m p o → Is (onto o (int_at x.pushed))
      behind e None none = λ c h. none h.before (rows.Push (Int c)) h.push
      behind e (Some q) h = at_line e q h.0 h.1 (int_at x.pushed q) (sites.pushed q)

      by : (b : Bool) → is_named s p ≡ b → Is (if b then None else onto (line_before s p) (int_at x.pushed))
      by true e = λ c h. h.alone ((scan.named p).0 e)
      by false e = behind e (line_before s p) (scan.before p)

  -- the limit that the line directly before a place pushes
  before_limits : (p : ℕ) (k : KnownInt) → told_before s x p ≡ Some k → PushesLimit P constants m k.from p k.value
  before_limits p k e =
      let given = λ (q : ℕ). onto (limit_at x q) (int_from q) in
      let a = onto_some (line_before s p) given k e in
      let b = onto_some (limit_at x a.0) (int_from a.0) k a.2 in
      let same : record { from = a.0; value = b.0 } ≡ k = some_same (record { from = a.0; value = b.0 }) k b.2 in
      let line = line_found p a.0 a.1 in
      let limit = limits a.0 b.0 b.1 in
      let next : limit.0 ≡ p = (one P m a.0 limit.0 p limit.1 line.0 limit.2 line.1).0 in
      subst (λ (y : KnownInt). PushesLimit P constants m y.from p y.value) same (limit.1, subst (λ (q : ℕ). IsLine P m a.0 q limit.1) next limit.2, limit.3)

  limits_before : (p : ℕ) (k : KnownInt) → PushesLimit P constants m k.from p k.value → told_before s x p ≡ Some k
  limits_before p k h =
      let given = λ (q : ℕ). onto (limit_at x q) (int_from q) in
      ap (λ (o : Option ℕ). onto o given) (before_is k.from p h.0 h.1)
      ∙ ap (λ (o : Option ℤ). onto o (int_from k.from)) (limit_is k.from p h.0 k.value h.1 h.2)

-- ---- by a table

module _ (P : Program) (known : Known) (m : ℕ) (ints : List (Option KnownInt)) (are : AreKnownInts P known m ints) where
  abbrev Stored : (p : ℕ) → ℤ → Type 0
  Stored p c = IsFollowing P m p × (from : ℕ) × Pushes P known m from p c

  table_stored : (p : ℕ) → MatchOption (value_before ints p) ((c : ℤ) → ¬ Stored p c) (Stored p)
  table_stored p = by (known_at ints p) refl
    where
      by : (o : Option KnownInt) → known_at ints p ≡ o → MatchOption (onto o (λ (k : KnownInt). Some k.value)) ((c : ℤ) → ¬ Stored p c) (Stored p)
      by None e = λ c h. none≢some (record { from = h.1; value = c }) (sym e ∙ (are p (record { from = h.1; value = c })).1 (h.0, h.2))
      by (Some k) e = let h = (are p k).0 e in (h.0, k.from, h.1)

-- ---- by either

pub ints_are : (P : Program) (given : Given) (m : ℕ) (s : Scanned) (x : MethodInts) → LinesAreOne → OneStandsBefore → IsScanOf P m s → AreIntsBy P m x given → AreIntsIn P (rules_by P given) m s x
ints_are P (plainly constants) m s (OfSites x) one before_one scan h = record {
  limits = λ p k. (before_limits P constants m s x.now one before_one scan h.0 h.1 p k, limits_before P constants m s x.now one before_one scan h.0 h.1 p k);
  stored = pushed_is P constants m s x.now one before_one scan h.0 h.1;
}
ints_are P (further_on known) m s (OfTable ints) one before_one scan h = record { limits = h; stored = table_stored P known m ints.now h }
ints_are P (plainly constants) m s (OfTable ints) one before_one scan h = absurd h
ints_are P (further_on known) m s (OfSites x) one before_one scan h = absurd h
