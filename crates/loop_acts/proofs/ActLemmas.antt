-- The acts that are read off a code are those of its instructions.
use Rattle.std.proofs.Common.{◌≡◌, ℕ, zero, suc, ℤ, Bool, List, [], ◌∷◌, map, get_or, Option, Some, None, refl, sym, ap, ◌∙◌, subst}
use Rattle.std.specs.Prelude.{MatchOption}
use Rattle.bytecode_model.specs.Program.{Program}
use Rattle.bytecode_model.specs.Rows as rows
use Rattle.bytecode_model.specs.Rows.{Row}
use Rattle.bytecode_model.specs.Types.{IntType}
use Rattle.code_lines.specs.Lines.{IsLine, written_by}
use Rattle.code_lines.specs.Laws.{LinesAreOne, OneStandsBefore}
use Rattle.code_scan.specs.declared.lines.IntLine.{IntLine}
use Rattle.code_scan.specs.declared.rows.IntRow.{IntRow}
use Rattle.code_scan.specs.declared.rows.IntRow.TheVariants as told
use Rattle.code_scan.specs.Rows.{Tells, IsOther, test_of}
use Rattle.code_scan.specs.Lines.{IsIntLine}
use Rattle.code_scan.specs.Scans.{Scanned, IsScanOf}
use Rattle.loop_rules.specs.Tests.{IsTest}
use Rattle.loop_rules.specs.Tests.IsTest.{with_zero, with_limit}
use Rattle.loop_acts.specs.Rules.{Rules}
use Rattle.loop_acts.specs.declared.reading.MethodInts.{MethodInts}
use Rattle.loop_acts.specs.declared.effects.Test.{Test}
use Rattle.loop_acts.specs.declared.effects.Act.{Act}
use Rattle.loop_acts.specs.declared.effects.Act.TheVariants as does
use Rattle.loop_acts.specs.Acts.{IsActAt, AreActs}
use Rattle.loop_acts.specs.Reading.{AreIntsIn, AreLinesOf, line_at, act_if, act_by, stored_at, test_by, test_of_zero, test_of_ints}
use Rattle.loop_acts.proofs.Rows.{tells_store, tells_store_long, tells_store_reference, tells_increment, tells_zero, tells_ints}
use Rattle.loop_acts.proofs.Tests.{read_test, zero_sound, ints_sound, none_read, only_read}

other_unwritten : (r : Row) → IsOther r → written_by r ≡ []
other_unwritten (rows.Store sort k) h = absurd h
other_unwritten (rows.Increment k n) h = absurd h
other_unwritten _ h = refl

push_unwritten : (n : ℤ) (r : Row) → Tells (told.Push n) r → written_by r ≡ []
push_unwritten n (rows.Push v) h = refl
push_unwritten n _ h = absurd h

entry_unwritten : (r : Row) → Tells told.PushEntry r → written_by r ≡ []
entry_unwritten (rows.Push v) h = refl
entry_unwritten _ h = absurd h

load_unwritten : (k : ℕ) (r : Row) → Tells (told.Load k) r → written_by r ≡ []
load_unwritten k (rows.Load sort l) h = refl
load_unwritten k _ h = absurd h

module _ (P : Program) (rules : Rules) (m : ℕ) (lines : List (Option IntLine)) (s : Scanned) (x : MethodInts) (one : LinesAreOne) (before_one : OneStandsBefore) (al : AreLinesOf P m lines) (scan : IsScanOf P m s) (ints : AreIntsIn P rules m s x) where
  abbrev Is : (p : ℕ) → Act → Type 0
  Is p a = IsActAt P rules m p a

  abbrev pub acts : List Act
  acts = map (act_if lines s x) lines

  at_map : (ls : List (Option IntLine)) (p : ℕ) → get_or (map (act_if lines s x) ls) p does.Other ≡ act_if lines s x (get_or ls p None)
  at_map [] p = refl
  at_map (l ∷ ls) zero = refl
  at_map (l ∷ ls) (suc p) = at_map ls p

  module _ (p : ℕ) (l : IntLine) (is : line_at lines p ≡ Some l) (place : l.place ≡ p) where
    abbrev NoTest : Type 0
    NoTest = (next local : ℕ) (offset : ℤ) (taken : ℤ → Bool) → ¬ IsTest P (rules.limit m) m p next local offset taken

    no_test : read_test P rules m lines s x one before_one al scan ints l l.row ≡ None → NoTest
    no_test e = none_read P rules m lines s x one before_one al scan ints p l is e

    -- no other row begins there
    unwritten : (r : Row) → IsLine P m p l.next r → written_by r ≡ [] → (next : ℕ) (q : Row) → IsLine P m p next q → written_by q ≡ []
    unwritten r line none next q other = ap written_by (one P m p next l.next q r other line).1 ∙ none

    tested : (r : Row) → IsLine P m p l.next r → written_by r ≡ [] → (o : Option Test) → read_test P rules m lines s x one before_one al scan ints l l.row ≡ o
        → ((t : Test) → o ≡ Some t → IsTest P (rules.limit m) m p t.next t.local t.offset (λ value. test_of t.taken t.limit value)) → Is p (test_by o)
    tested r line none None e sound = (no_test e, unwritten r line none)
    tested r line none (Some t) e sound = record { is = sound t refl; only = only_read P rules m lines s x one before_one al scan ints p l is t e }

    by : (t : IntRow) (r : Row) → l.row ≡ t → Tells t r → IsLine P m p l.next r → Is p (act_by lines s x l t)
    by (told.Increment k n) r e tells line = (l.next, subst (IsLine P m p l.next) (tells_increment k n r tells) line)
    by (told.Store k) r e tells line = (
      (l.next, subst (IsLine P m p l.next) (tells_store k r tells) line),
      subst (λ (q : ℕ). MatchOption (stored_at s x l.place) ((c : ℤ) → ¬ rules.stored m q c) (rules.stored m q)) place (ints.stored l.place),
    )
    by (told.StoreLong k) r e tells line = (l.next, subst (IsLine P m p l.next) (tells_store_long k r tells) line)
    by (told.StoreReference k) r e tells line = (l.next, subst (IsLine P m p l.next) (tells_store_reference k r tells) line)
    by (told.BranchZero c o) r e tells line =
        let row = tells_zero c o r tells in
        tested r line (ap written_by row) (test_of_zero lines s l c o) (ap (read_test P rules m lines s x one before_one al scan ints l) e)
        (zero_sound P rules m lines s x one before_one al scan ints p l r place line c o row)
    by (told.BranchInts c o) r e tells line =
        let row = tells_ints c o r tells in
        tested r line (ap written_by row) (test_of_ints lines s x l c o) (ap (read_test P rules m lines s x one before_one al scan ints l) e)
        (ints_sound P rules m lines s x one before_one al scan ints p l r place line c o row)
    by (told.Push n) r e tells line = (no_test (ap (read_test P rules m lines s x one before_one al scan ints l) e), unwritten r line (push_unwritten n r tells))
    by told.PushEntry r e tells line = (no_test (ap (read_test P rules m lines s x one before_one al scan ints l) e), unwritten r line (entry_unwritten r tells))
    by (told.Load k) r e tells line = (no_test (ap (read_test P rules m lines s x one before_one al scan ints l) e), unwritten r line (load_unwritten k r tells))
    by told.Other r e tells line = (no_test (ap (read_test P rules m lines s x one before_one al scan ints l) e), unwritten r line (other_unwritten r tells))

  act_is : (p : ℕ) (o : Option IntLine) → line_at lines p ≡ o → MatchOption o ((next : ℕ) (r : Row) → ¬ IsLine P m p next r) (λ l. (l.place ≡ p) × IsIntLine P m l) → Is p (act_if lines s x o)
  act_is p None e none = (no_test, λ next r line. absurd (none next r line))
    where
      no_test : (next local : ℕ) (offset : ℤ) (taken : ℤ → Bool) → ¬ IsTest P (rules.limit m) m p next local offset taken
      no_test next local offset taken (with_zero {test = test} ll lb free) = none next (rows.Branch (IntType ∷ []) test offset) lb
      no_test next local offset taken (with_limit {test = test} ll lim lb free free_push) = none next (rows.Branch (IntType ∷ IntType ∷ []) test offset) lb
  act_is p (Some l) e is = by p l e is.0 l.row is.1.0 refl is.1.2 (subst (λ (q : ℕ). IsLine P m q l.next is.1.0) is.0 is.1.1)

  pub acts_are : AreActs P rules m acts
  acts_are p = subst (Is p) (sym (at_map lines p)) (act_is p (line_at lines p) refl (al p))
