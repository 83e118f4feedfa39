-- Checking entries one after the other, as loops do.
use Rattle.std.proofs.Common.{◌≡◌, ℕ, suc, ◌+◌, ◌^◌, ◌<◌, ◌≤◌, Bool, false, List, [], ◌∷◌, ◌++◌, length, get_or, drop, sym, ap, ◌∙◌, add-one, drop-cons, length-append, arith}
use Rattle.std.specs.Prelude.{IsTrue, ◌↔◌}
use Rattle.std.specs.List.{AllByRecursion, list_all}
use Rattle.std.proofs.lemmas.List.{drop_all}
use Rattle.std.proofs.lemmas.List.Concat.{flat_map-cons}
use Rattle.class_pool.specs.declared.entry.Entry.{Entry}
use Rattle.class_pool.specs.Utf8.{unit_bytes, utf8_bytes, AreUnits}
use Rattle.class_pool.specs.Spelling.{IsEntryInRange}
use Rattle.class_pool.specs.Grammar.{HaveSeconds, points_rightly, IsPool}
use Rattle.class_pool.proofs.PoolLaws.{all_true, true_all}

-- ---- the bytes of a text

-- so many bytes were counted, and those of the units from a place on are to come
pub record IsCounted (units : List ℕ) (i total : ℕ) : Type 0 where
  pub sum : total + length (utf8_bytes (drop i units)) ≡ length (utf8_bytes units)
  pub few : total < 2 ^ 16

pub counts_on : (units : List ℕ) (i total : ℕ) (n : ℕ) → i < length units → n ≡ length (unit_bytes (get_or units i 0)) → IsCounted units i total
    → (total + n) + length (utf8_bytes (drop (i + 1) units)) ≡ length (utf8_bytes units)
counts_on units i total n lt is so_far =
    let here : utf8_bytes (drop i units) ≡ unit_bytes (get_or units i 0) ++ utf8_bytes (drop (i + 1) units) =
    ap utf8_bytes (drop-cons units i 0 lt) ∙ flat_map-cons unit_bytes (get_or units i 0) (drop (suc i) units) ∙ ap (λ (k : ℕ). unit_bytes (get_or units i 0) ++ utf8_bytes (drop k units)) (sym (add-one i)) in
    omega (arith, so_far.sum, ap (λ (b : List ℕ). length b) here, length-append (unit_bytes (get_or units i 0)) (utf8_bytes (drop (i + 1) units)))

pub counted_all : (units : List ℕ) (i total : ℕ) → length units ≤ i → IsCounted units i total → length (utf8_bytes units) < 2 ^ 16
counted_all units i total le so_far =
    let none : length (utf8_bytes (drop i units)) ≡ 0 = ap (λ (us : List ℕ). length (utf8_bytes us)) (drop_all i units le) in
    omega (arith, so_far.sum, so_far.few)

pub are_units : (units : List ℕ) → ((i : ℕ) → get_or units i 0 < 2 ^ 16) → AreUnits units
are_units [] fits = tt
are_units (u ∷ units) fits = (fits 0, are_units units (λ i. fits (suc i)))

-- ---- second places

-- the entries from a place on have their second places exactly if all have
pub record IsDue (entries : List Entry) (i : ℕ) (due : Bool) : Type 0 where
  pub all : HaveSeconds due (drop i entries) → HaveSeconds false entries
  pub rest : HaveSeconds false entries → HaveSeconds due (drop i entries)

-- ---- pools

pub is_decided : (entries : List Entry) (b : Bool) → length entries ≤ 65534 → AllByRecursion IsEntryInRange entries → HaveSeconds false entries → b ≡ list_all (points_rightly entries) entries → IsTrue b ↔ IsPool entries
is_decided entries b few range seconds is = (
  (λ t. record { count = omega arith; in_range = range; seconds = seconds; references = all_true (points_rightly entries) entries (sym is ∙ t) }),
  (λ h. is ∙ true_all (points_rightly entries) entries h.references),
)
