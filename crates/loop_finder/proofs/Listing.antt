-- The entries of a list of beginnings.
use Rattle.std.proofs.Common.{◌≡◌, ℕ, ◌*◌, ℤ, Bool, true, false, List, [], ◌∷◌, Contains, Some, refl, sym, ap, ap₂, ◌∙◌, subst, inl, inr}
use Rattle.std.specs.Prelude.{◌==◌, if◌then◌else◌, Vec}
use Rattle.std.specs.Cmp.Derive.{both_true}
use Rattle.std.specs.declared.alloc.Global.{Global}
use Rattle.std.proofs.lemmas.Bool.{both_ways, eq-eqb, eqb-true}
use Rattle.lists.specs.Members.{at_head, in_tail, cons_cases, nil_contains}
use Rattle.lists.specs.Tests.{and_left, and_right}
use Rattle.lists.proofs.Lemmas.{none≢some, some_same}
use Rattle.bytecode_model.specs.Program.{Program}
use Rattle.loop_rules.specs.Further.Beginning.{BeginsAt}
use Rattle.loop_rules.specs.Further.Known.{Known}
use Rattle.loop_acts.specs.Rules.{further}
use Rattle.loop_finder.specs.declared.body.Beginning.{Beginning}
use Rattle.loop_finder.specs.declared.body.Beginnings.TheVariants.{Listed}
use Rattle.loop_finder.specs.Counting.{Body, begin_in, is_begin_of}
use Rattle.loop_finder.specs.Beginning.{AreBeginnings, IsBodyOf, IsSteppedAt}
use Rattle.loop_finder.specs.Further.{BeginningsAreOne}
use Rattle.loop_finder.specs.Methods.{AreBeginsBy}

abbrev entry : (h k : ℕ) → ℤ → Beginning
entry h k c = record { header = h; local = k; value = c }

-- ---- what is found is an entry, and an entry is found

module _ (h k : ℕ) where
  is_of : (c : ℤ) → is_begin_of h k (entry h k c) ≡ true
  is_of c = both_true (eq-eqb h h refl) (eq-eqb k k refl)

  same_entry : (x : Beginning) (c : ℤ) → is_begin_of h k x ≡ true → x.value ≡ c → x ≡ entry h k c
  same_entry x c is value =
      let header : x.header ≡ h = eqb-true x.header h (and_left (x.header == h) (x.local == k) is) in
      let local : x.local ≡ k = eqb-true x.local k (and_right (x.header == h) (x.local == k) is) in
      ap₂ (λ (i j : ℕ). entry i j x.value) header local ∙ ap (entry h k) value

  found_entry : (xs : List Beginning) (c : ℤ) → begin_in xs h k ≡ Some c → Contains xs (entry h k c)
  found_entry [] c e = absurd (none≢some c e)
  found_entry (x ∷ xs) c e = by (λ d. found_entry xs c d) (is_begin_of h k x) refl e
    where
      by : (begin_in xs h k ≡ Some c → Contains xs (entry h k c)) → (t : Bool) → is_begin_of h k x ≡ t → (if t then Some x.value else begin_in xs h k) ≡ Some c → Contains (x ∷ xs) (entry h k c)
      by later true is e = subst (λ (y : Beginning). Contains (x ∷ xs) y) (same_entry x c is (some_same x.value c e)) (at_head x xs)
      by later false is e = in_tail x (entry h k c) xs (later e)

  entry_found : (xs : List Beginning) (c : ℤ) → Contains xs (entry h k c) → (d : ℤ) × (begin_in xs h k ≡ Some d)
  entry_found [] c has = absurd (nil_contains (entry h k c) has)
  entry_found (x ∷ xs) c has = by (λ tail. entry_found xs c tail) (is_begin_of h k x) refl
    where
      Found : Bool → Type 0
      Found t = (d : ℤ) × ((if t then Some x.value else begin_in xs h k) ≡ Some d)

      by : (Contains xs (entry h k c) → (d : ℤ) × (begin_in xs h k ≡ Some d)) → (t : Bool) → is_begin_of h k x ≡ t → (d : ℤ) × (begin_in (x ∷ xs) h k ≡ Some d)
      by later true is = subst Found (sym is) (x.value, refl)
      by later false is = subst Found (sym is) (elim (cons_cases x (entry h k c) xs has) [
        | inl same ↦ absurd (both_ways (is_begin_of h k x) is (subst (λ (y : Beginning). is_begin_of h k y ≡ true) (sym same) (is_of c)))
        | inr tail ↦ later tail
      ])

-- the same but for the beginnings
module _ (P : Program) (known : Known) (m : ℕ) (b : Body) (of : IsBodyOf P known m b) (xs : Vec Beginning Global) (are : AreBeginnings P known m b xs.items) (one : BeginningsAreOne) where
  abbrev listed : Body
  listed = record { acts = b.acts; graph = b.graph; begins = Listed xs }

  stepped : (h k u : ℕ) → IsSteppedAt listed h k u → IsSteppedAt b h k u
  stepped h k u s = (s.0, s.1, s.2, record { is = s.3.is; moves = s.3.moves; member = s.3.member; alone = s.3.alone }, s.4)

  to : (h k u : ℕ) (c : ℤ) → IsSteppedAt listed h k u → BeginsAt P known m b.graph h k c → begin_in xs.items h k ≡ Some c
  to h k u c s begins =
      let found = entry_found h k xs.items c (are.all h k u c (stepped h k u s) begins) in
      let right = are.each (entry h k found.0) (found_entry h k xs.items found.0 found.1) in
      let same : found.0 ≡ c = one P known m b.graph h k found.0 c of.graph of.stays right.0 right.1 begins in
      found.1 ∙ ap (λ (z : ℤ). Some z) same

  from : (h k : ℕ) (c : ℤ) → begin_in xs.items h k ≡ Some c → BeginsAt P known m b.graph h k c
  from h k c e = (are.each (entry h k c) (found_entry h k xs.items c e)).1

  pub begins_listed : AreBeginsBy (further P known) m (record { acts = b.acts; graph = b.graph; begins = Listed xs })
  begins_listed h k u c s = (to (2 * h) k u c s, from (2 * h) k c)
