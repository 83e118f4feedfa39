-- How acts are read off the instructions of a code, what is found in it, and the ints that its instructions push.
use Rattle.std.specs.Prelude.{◌≡◌, ◌↔◌, ℕ, ℤ, pos, List, Option, Some, None, MatchOption, slice_index_or, if◌then◌else◌}
use Rattle.bytecode_model.specs.Lists.{onto}
use Rattle.bytecode_model.specs.Program.{Program}
use Rattle.bytecode_model.specs.Rows.{Row}
use Rattle.code_lines.specs.Lines.{IsLine}
use Rattle.code_scan.specs.declared.lines.IntLine.{IntLine}
use Rattle.code_scan.specs.declared.rows.Comparison.{Comparison}
use Rattle.code_scan.specs.declared.rows.IntRow.{IntRow}
use Rattle.code_scan.specs.declared.rows.IntRow.TheVariants as told
use Rattle.code_scan.specs.Lines.{IsIntLine}
use Rattle.code_scan.specs.Scans.{Scanned, is_named, line_before}
use Rattle.loop_rules.specs.declared.further.table.KnownInt.{KnownInt}
use Rattle.loop_rules.specs.Further.Found.{AreKnownInts, known_at}
use Rattle.loop_rules.specs.Sites.{SitesOf, AreNeverPut, AreSitesOf, int_at}
use Rattle.loop_acts.specs.Rules.{Rules, Given}
use Rattle.loop_acts.specs.Rules.Given.{plainly, further_on}
use Rattle.loop_acts.specs.declared.reading.MethodInts.{MethodInts}
use Rattle.loop_acts.specs.declared.reading.MethodInts.TheVariants.{OfSites, OfTable}
use Rattle.loop_acts.specs.declared.effects.Test.{Test}
use Rattle.loop_acts.specs.declared.effects.Act.{Act}
use Rattle.loop_acts.specs.declared.effects.Act.TheVariants as does

abbrev pub line_at : List (Option IntLine) → ℕ → Option IntLine
line_at lines p = slice_index_or lines p None

-- these are the method's instructions, by place
abbrev pub AreLinesOf : Program → (method : ℕ) → List (Option IntLine) → Type 0
AreLinesOf P m lines =
    (p : ℕ) → MatchOption (line_at lines p) ((next : ℕ) (r : Row) → ¬ IsLine P m p next r) (λ l. (l.place ≡ p) × IsIntLine P m l)

abbrev pub loaded : IntRow → Option ℕ
loaded (told.Load k) = Some k
loaded r = None

abbrev pub loaded_before : List (Option IntLine) → Scanned → (place : ℕ) → Option ℕ
loaded_before lines s p = onto (onto (line_before s p) (line_at lines)) (λ l. loaded l.row)

abbrev pub limit_at : SitesOf → (place : ℕ) → Option ℤ
limit_at x p = elim (int_at x.pushed p) [ Some c ↦ Some c | None ↦ int_at x.fields p ]

abbrev pub pushed_before : Scanned → SitesOf → (place : ℕ) → Option ℤ
pushed_before s x p = if is_named s p then None else onto (line_before s p) (int_at x.pushed)

abbrev pub test_with : (next : ℕ) (taken : Comparison) (offset limit : ℤ) (local : ℕ) → Test
test_with next taken offset limit local = record { next = next; local = local; offset = offset; taken = taken; limit = limit }

abbrev pub test_of_zero : List (Option IntLine) → Scanned → IntLine → Comparison → (offset : ℤ) → Option Test
test_of_zero lines s l taken offset =
    if is_named s l.place then None else onto (loaded_before lines s l.place) (λ k. Some (test_with l.next taken offset (pos 0) k))

abbrev pub told_before : Scanned → SitesOf → (place : ℕ) → Option KnownInt
told_before s x p = onto (line_before s p) (λ q. onto (limit_at x q) (λ c. Some (record { from = q; value = c })))

abbrev pub value_before : List (Option KnownInt) → (place : ℕ) → Option ℤ
value_before ints p = onto (known_at ints p) (λ k. Some k.value)

-- the limit that lines directly before a place push, by what is known of ints
abbrev pub limit_before : Scanned → MethodInts → (place : ℕ) → Option KnownInt
limit_before s (OfSites x) p = told_before s x.now p
limit_before s (OfTable ints) p = known_at ints.now p

-- the int that the instruction at a place stores
abbrev pub stored_at : Scanned → MethodInts → (place : ℕ) → Option ℤ
stored_at s (OfSites x) p = pushed_before s x.now p
stored_at s (OfTable ints) p = value_before ints.now p

-- they are those that the rules speak of
pub record AreIntsIn (P : Program) (rules : Rules) (m : ℕ) (s : Scanned) (x : MethodInts) : Type 0 where
  pub limits : (p : ℕ) (k : KnownInt) → (limit_before s x p ≡ Some k) ↔ rules.limit m k.from p k.value
  pub stored : (p : ℕ) → MatchOption (stored_at s x p) ((c : ℤ) → ¬ rules.stored m p c) (rules.stored m p)

-- they are the method's, where this is given of fields
abbrev pub AreIntsBy : Program → (method : ℕ) → MethodInts → Given → Type 0
AreIntsBy P m (OfSites x) (plainly constants) = AreSitesOf P constants m x.now × AreNeverPut P constants
AreIntsBy P m (OfTable ints) (further_on known) = AreKnownInts P known m ints.now
AreIntsBy P m x given = ⊥

abbrev pub test_behind : List (Option IntLine) → Scanned → IntLine → Comparison → (offset : ℤ) → KnownInt → Option Test
test_behind lines s l taken offset k =
    if is_named s k.from then None else onto (loaded_before lines s k.from) (λ local. Some (test_with l.next taken offset k.value local))

abbrev pub test_of_ints : List (Option IntLine) → Scanned → MethodInts → IntLine → Comparison → (offset : ℤ) → Option Test
test_of_ints lines s x l taken offset = if is_named s l.place then None else onto (limit_before s x l.place) (test_behind lines s l taken offset)

abbrev pub test_by : Option Test → Act
test_by (Some t) = does.Test t
test_by None = does.Other

abbrev pub act_by : List (Option IntLine) → Scanned → MethodInts → IntLine → IntRow → Act
act_by lines s x l (told.Increment k n) = does.Step k n
act_by lines s x l (told.Store k) = does.Set k (stored_at s x l.place)
act_by lines s x l (told.StoreLong k) = does.SetLong k
act_by lines s x l (told.StoreReference k) = does.SetReference k
act_by lines s x l (told.BranchZero taken offset) = test_by (test_of_zero lines s l taken offset)
act_by lines s x l (told.BranchInts taken offset) = test_by (test_of_ints lines s x l taken offset)
act_by lines s x l r = does.Other

abbrev pub act_of : List (Option IntLine) → Scanned → MethodInts → IntLine → Act
act_of lines s x l = act_by lines s x l l.row

abbrev pub act_if : List (Option IntLine) → Scanned → MethodInts → Option IntLine → Act
act_if lines s x (Some l) = act_of lines s x l
act_if lines s x None = does.Other
