-- The tests that are read off a code are those of the loop rules.
use Rattle.std.proofs.Common.{◌≡◌, ℕ, ℤ, pos, Bool, true, false, List, [], ◌∷◌, Option, Some, None, refl, sym, ap, ◌∙◌, subst}
use Rattle.std.specs.Prelude.{MatchOption, if◌then◌else◌}
use Rattle.std.proofs.lemmas.Bool.{false≢true}
use Rattle.lists.proofs.Lemmas.{none≢some, some_same, onto_some}
use Rattle.lists.specs.Lists.{onto}
use Rattle.bytecode_model.specs.Program.{Program}
use Rattle.bytecode_model.specs.Rows as rows
use Rattle.bytecode_model.specs.Rows.{Row}
use Rattle.bytecode_model.specs.Types.{IntType, Numbers}
use Rattle.code_lines.specs.Lines.{IsLine, IsNamed}
use Rattle.code_lines.specs.Laws.{LinesAreOne, OneStandsBefore}
use Rattle.code_scan.specs.declared.lines.IntLine.{IntLine}
use Rattle.code_scan.specs.declared.rows.Comparison.{Comparison}
use Rattle.code_scan.specs.declared.rows.IntRow.{IntRow}
use Rattle.code_scan.specs.declared.rows.IntRow.TheVariants as told
use Rattle.code_scan.specs.Rows.{Tells, test_of}
use Rattle.code_scan.specs.Lines.{IsIntLine}
use Rattle.code_scan.specs.Scans.{Scanned, is_named, line_before, IsBefore, IsScanOf}
use Rattle.loop_rules.specs.declared.further.table.KnownInt.{KnownInt}
use Rattle.loop_rules.specs.Tests.{IsTest}
use Rattle.loop_rules.specs.Tests.IsTest.{with_zero, with_limit}
use Rattle.loop_acts.specs.Rules.{Rules}
use Rattle.loop_acts.specs.declared.reading.MethodInts.{MethodInts}
use Rattle.loop_acts.specs.declared.effects.Test.{Test}
use Rattle.loop_acts.specs.Acts.{taken_by}
use Rattle.loop_acts.specs.Reading.{AreIntsIn, AreLinesOf, line_at, loaded, loaded_before, limit_before, test_with, test_of_zero, test_behind, test_of_ints}
use Rattle.loop_acts.proofs.Rows.{tells_load, load_told, zero_told, ints_told}

loaded_row : (t : IntRow) (k : ℕ) → loaded t ≡ Some k → t ≡ told.Load k
loaded_row (told.Load j) k e = ap told.Load (some_same j k e)
loaded_row _ k e = absurd (none≢some k e)

module _ (P : Program) (rules : Rules) (m : ℕ) (lines : List (Option IntLine)) (s : Scanned) (x : MethodInts) (one : LinesAreOne) (before_one : OneStandsBefore) (al : AreLinesOf P m lines) (scan : IsScanOf P m s) (ints : AreIntsIn P rules m s x) where
  -- the line that is told of a place at which one begins
  pub line_told : (p next : ℕ) (r : Row) → IsLine P m p next r → (l : IntLine) × (line_at lines p ≡ Some l) × (l.place ≡ p) × (l.next ≡ next) × Tells l.row r
  line_told p next r line = by (line_at lines p) refl (al p)
    where
      by : (o : Option IntLine) → line_at lines p ≡ o → MatchOption o ((next : ℕ) (r : Row) → ¬ IsLine P m p next r) (λ l. (l.place ≡ p) × IsIntLine P m l)
          → (l : IntLine) × (line_at lines p ≡ Some l) × (l.place ≡ p) × (l.next ≡ next) × Tells l.row r
      by None e none = absurd (none next r line)
      by (Some l) e is =
          let there : IsLine P m p l.next is.1.0 = subst (λ (q : ℕ). IsLine P m q l.next is.1.0) is.0 is.1.1 in
          let same = one P m p l.next next is.1.0 r there line in
          (l, e, is.0, same.0, subst (Tells l.row) same.1 is.1.2)

  pub free_is : (q : ℕ) → ¬ IsNamed P m q → is_named s q ≡ false
  free_is q free = by (is_named s q) refl
    where
      by : (b : Bool) → is_named s q ≡ b → is_named s q ≡ false
      by true e = absurd (free ((scan.named q).0 e))
      by false e = e

  pub is_free : (q : ℕ) → is_named s q ≡ false → ¬ IsNamed P m q
  is_free q e named = false≢true (sym e ∙ (scan.named q).1 named)

  -- the line directly before a place
  pub line_found : (q p : ℕ) → line_before s q ≡ Some p → (r : Row) × IsLine P m p q r
  line_found q p e = subst (IsBefore P m q) e (scan.before q)

  pub before_is : (p q : ℕ) (r : Row) → IsLine P m p q r → line_before s q ≡ Some p
  before_is p q r line = by (line_before s q) refl (scan.before q)
    where
      by : (o : Option ℕ) → line_before s q ≡ o → IsBefore P m q o → line_before s q ≡ Some p
      by None e none = absurd (none p r line)
      by (Some z) e h = e ∙ ap Some (before_one P m z p q h.0 r h.1 line)

  -- ---- loads

  pub loads : (p k : ℕ) → loaded_before lines s p ≡ Some k → (load : ℕ) × IsLine P m load p (rows.Load (Numbers IntType) k)
  loads p k e =
      let a = onto_some (onto (line_before s p) (line_at lines)) (λ (l : IntLine). loaded l.row) k e in
      let b = onto_some (line_before s p) (line_at lines) a.0 a.1 in
      let line = line_found p b.0 b.1 in
      let t = line_told b.0 p line.0 line.1 in
      let same : t.0 ≡ a.0 = some_same t.0 a.0 (sym t.1 ∙ b.2) in
      let row : t.0.row ≡ told.Load k = ap (λ (l : IntLine). l.row) same ∙ loaded_row a.0.row k a.2 in
      let is : line.0 ≡ rows.Load (Numbers IntType) k = tells_load k line.0 (subst (λ (z : IntRow). Tells z line.0) row t.4) in
      (b.0, subst (IsLine P m b.0 p) is line.1)

  pub loaded_is : (load p k : ℕ) → IsLine P m load p (rows.Load (Numbers IntType) k) → loaded_before lines s p ≡ Some k
  loaded_is load p k line =
      let t = line_told load p (rows.Load (Numbers IntType) k) line in
      let first : onto (line_before s p) (line_at lines) ≡ Some t.0 = ap (λ (o : Option ℕ). onto o (line_at lines)) (before_is load p (rows.Load (Numbers IntType) k) line) ∙ t.1 in
      ap (λ (o : Option IntLine). onto o (λ (l : IntLine). loaded l.row)) first ∙ ap loaded (load_told t.0.row k t.4)

  -- ---- tests

  abbrev pub IsTestOf : (p next local : ℕ) → ℤ → (ℤ → Bool) → Type 0
  IsTestOf p next local offset taken = IsTest P (rules.limit m) m p next local offset taken

  -- an option that is given where a place isn't named
  unless : {A : Type 0} (q : ℕ) (o : Option A) (y : A) → (if is_named s q then None else o) ≡ Some y → (is_named s q ≡ false) × (o ≡ Some y)
  unless {A} q o y e = by (is_named s q) refl e
    where
      by : (b : Bool) → is_named s q ≡ b → (if b then None else o) ≡ Some y → (is_named s q ≡ false) × (o ≡ Some y)
      by true n e = absurd (none≢some y e)
      by false n e = (n, e)

  given : {A : Type 0} (q : ℕ) (o : Option A) → ¬ IsNamed P m q → (if is_named s q then None else o) ≡ o
  given {A} q o free = ap (λ (b : Bool). if b then None else o) (free_is q free)

  module _ (p : ℕ) (l : IntLine) (r : Row) (place : l.place ≡ p) (line : IsLine P m p l.next r) where
    pub zero_sound : (c : Comparison) (o : ℤ) → r ≡ rows.Branch (IntType ∷ []) (λ (z : ℤ). test_of c (pos 0) z) o → (t : Test) → test_of_zero lines s l c o ≡ Some t → IsTestOf p t.next t.local t.offset (taken_by t)
    zero_sound c o is t e =
        let a = unless l.place (onto (loaded_before lines s l.place) (λ k. Some (test_with l.next c o (pos 0) k))) t e in
        let b = onto_some (loaded_before lines s l.place) (λ k. Some (test_with l.next c o (pos 0) k)) t a.1 in
        let load = loads l.place b.0 b.1 in
        let same : test_with l.next c o (pos 0) b.0 ≡ t = some_same (test_with l.next c o (pos 0) b.0) t b.2 in
        let loaded' = subst (λ (q : ℕ). IsLine P m load.0 q (rows.Load (Numbers IntType) b.0)) place load.1 in
        let branch = subst (IsLine P m p l.next) is line in
        let free = is_free p (subst (λ (q : ℕ). is_named s q ≡ false) place a.0) in
        subst (λ (u : Test). IsTestOf p u.next u.local u.offset (taken_by u)) same (with_zero loaded' branch free)

    pub ints_sound : (c : Comparison) (o : ℤ) → r ≡ rows.Branch (IntType ∷ IntType ∷ []) (λ (y z : ℤ). test_of c y z) o → (t : Test) → test_of_ints lines s x l c o ≡ Some t → IsTestOf p t.next t.local t.offset (taken_by t)
    ints_sound c o is t e =
        let a = unless l.place (onto (limit_before s x l.place) (test_behind lines s l c o)) t e in
        let b = onto_some (limit_before s x l.place) (test_behind lines s l c o) t a.1 in
        let with_k = λ (k : ℕ). Some (test_with l.next c o b.0.value k) in
        let d = unless b.0.from (onto (loaded_before lines s b.0.from) with_k) t b.2 in
        let g = onto_some (loaded_before lines s b.0.from) with_k t d.1 in
        let limit = (ints.limits l.place b.0).0 b.1 in
        let load = loads b.0.from g.0 g.1 in
        let same = some_same (test_with l.next c o b.0.value g.0) t g.2 in
        let branch = subst (IsLine P m p l.next) is line in
        let free = is_free p (subst (λ (q : ℕ). is_named s q ≡ false) place a.0) in
        subst (λ (u : Test). IsTestOf p u.next u.local u.offset (taken_by u)) same
        (with_limit load.1 (subst (λ (q : ℕ). rules.limit m b.0.from q b.0.value) place limit) branch free (is_free b.0.from d.0))

  -- ---- each test is read

  abbrev pub read_test : IntLine → IntRow → Option Test
  read_test l (told.BranchZero c o) = test_of_zero lines s l c o
  read_test l (told.BranchInts c o) = test_of_ints lines s x l c o
  read_test l t = None

  -- what is read is this test
  abbrev pub IsReadAs : Option Test → (next local : ℕ) → ℤ → (ℤ → Bool) → Type 0
  IsReadAs o next local offset taken = (t : Test) × (o ≡ Some t) × (next ≡ t.next) × (local ≡ t.local) × (offset ≡ t.offset) × (taken ≡ taken_by t)

  pub complete : (p next local : ℕ) (offset : ℤ) (taken : ℤ → Bool) → IsTestOf p next local offset taken → (l : IntLine) × (line_at lines p ≡ Some l) × IsReadAs (read_test l l.row) next local offset taken
  complete p next local offset taken (with_zero {load = load} {test = test} ll lb free) =
      let t = line_told p next (rows.Branch (IntType ∷ []) test offset) lb in
      let l = t.0 in
      let z = zero_told l.row test offset t.4 in
      let with_k = λ (k : ℕ). Some (test_with l.next z.0 z.1 (pos 0) k) in
      let open_place = subst (λ (q : ℕ). ¬ IsNamed P m q) (sym t.2) free in
      let load_line = subst (λ (q : ℕ). IsLine P m load q (rows.Load (Numbers IntType) local)) (sym t.2) ll in
      let e : read_test l l.row ≡ with_k local =
      ap (read_test l) z.2
      ∙ (given l.place (onto (loaded_before lines s l.place) with_k) open_place ∙ ap (λ (o : Option ℕ). onto o with_k) (loaded_is load l.place local load_line)) in
      (l, t.1, (test_with l.next z.0 z.1 (pos 0) local, e, sym t.3, refl, z.4, z.3))
  complete p next local offset taken (with_limit {load = load} {push = push} {limit = limit} {test = test} ll lim lb free free_push) =
      let t = line_told p next (rows.Branch (IntType ∷ IntType ∷ []) test offset) lb in
      let l = t.0 in
      let z = ints_told l.row test offset t.4 in
      let with_k = λ (k : ℕ). Some (test_with l.next z.0 z.1 limit k) in
      let open_place = subst (λ (q : ℕ). ¬ IsNamed P m q) (sym t.2) free in
      let found = (ints.limits l.place (record { from = push; value = limit })).1 (subst (λ (q : ℕ). rules.limit m push q limit) (sym t.2) lim) in
      let e : read_test l l.row ≡ with_k local =
      ap (read_test l) z.2
      ∙ (given l.place (onto (limit_before s x l.place) (test_behind lines s l z.0 z.1)) open_place
      ∙ (ap (λ (o : Option KnownInt). onto o (test_behind lines s l z.0 z.1)) found
      ∙ (given push (onto (loaded_before lines s push) with_k) free_push
      ∙ ap (λ (o : Option ℕ). onto o with_k) (loaded_is load push local ll)))) in
      let at_limit : (ℤ → ℤ → Bool) → ℤ → Bool = λ f value. f limit value in
      (l, t.1, (test_with l.next z.0 z.1 limit local, e, sym t.3, refl, z.4, ap at_limit z.3))

  -- where nothing is read, there is no test
  pub none_read : (p : ℕ) (l : IntLine) → line_at lines p ≡ Some l → read_test l l.row ≡ None → (next local : ℕ) (offset : ℤ) (taken : ℤ → Bool) → ¬ IsTestOf p next local offset taken
  none_read p l is none next local offset taken h =
      let c = complete p next local offset taken h in
      let same : c.0 ≡ l = some_same c.0 l (sym c.1 ∙ is) in
      let read : read_test l l.row ≡ Some c.2.0 = sym (ap (λ (y : IntLine). read_test y y.row) same) ∙ c.2.1 in
      none≢some c.2.0 (sym none ∙ read)

  -- what is read is the only one
  pub only_read : (p : ℕ) (l : IntLine) → line_at lines p ≡ Some l → (t : Test) → read_test l l.row ≡ Some t → (next local : ℕ) (offset : ℤ) (taken : ℤ → Bool) → IsTestOf p next local offset taken
      → (next ≡ t.next) × (local ≡ t.local) × (offset ≡ t.offset) × (taken ≡ taken_by t)
  only_read p l is t e next local offset taken h =
      let c = complete p next local offset taken h in
      let same : c.0 ≡ l = some_same c.0 l (sym c.1 ∙ is) in
      let read : read_test l l.row ≡ Some c.2.0 = sym (ap (λ (y : IntLine). read_test y y.row) same) ∙ c.2.1 in
      let test : c.2.0 ≡ t = some_same c.2.0 t (sym read ∙ e) in
      (c.2.2 ∙ ap (λ (u : Test). u.next) test, c.2.3 ∙ ap (λ (u : Test). u.local) test, c.2.4 ∙ ap (λ (u : Test). u.offset) test, c.2.5 ∙ ap taken_by test)
