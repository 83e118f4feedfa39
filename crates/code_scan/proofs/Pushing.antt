-- Ints that are pushed, by place, and the one that is pushed directly before a place.
use Rattle.std.proofs.Common.{◌≡◌, ℕ, ◌<◌, ◌≤◌, true, false, ℤ, List, length, map, get_or, Contains, Option, Some, None, sym, ap, ◌∙◌, subst, inl, inr, arith}
use Rattle.std.specs.declared.cmp.Ordering.TheVariants.{Less, Equal, Greater}
use Rattle.std.specs.List.{HoldsAt}
use Rattle.std.specs.List.Sorted.{IsStrictlyIncreasing, IsNonDecreasingBy, IsPartitionPoint}
use Rattle.std.specs.Ordering.{nat_cmp, ordering_index}
use Rattle.std.proofs.lemmas.Bool.{cases_lt, false≢true}
use Rattle.std.proofs.lemmas.Bool.Decides.{nat_tests}
use Rattle.std.proofs.lemmas.Cmp.{ranked}
use Rattle.std.proofs.lemmas.List.{get_or-map, length-map}
use Rattle.std.proofs.lemmas.List.Sorted.{IsNonDecreasingBy-from_default}
use Rattle.lists.specs.Members.{rising_all}
use Rattle.bytecode_model.specs.declared.Value.TheVariants.{Int}
use Rattle.bytecode_model.specs.Program.{Program}
use Rattle.bytecode_model.specs.Rows as rows
use Rattle.bytecode_model.specs.Rows.{Row}
use Rattle.code_lines.specs.Lines.{IsLine, IsPushedBefore}
use Rattle.code_lines.specs.Laws.{LinesAreOne, OneStandsBefore}
use Rattle.code_scan.specs.declared.scan.PushedInt.{PushedInt}
use Rattle.code_scan.specs.Lines.{ArePushed, IsIntBefore, IsValueAt}
use Rattle.code_scan.specs.Scans.{Scanned, is_named, line_before, IsBefore, IsScanOf}

abbrev places : List PushedInt → List ℕ
places xs = map (λ x. x.place) xs

module _ (xs : List PushedInt) (rising : IsStrictlyIncreasing (places xs)) (place : ℕ) where
  place_at : (m : ℕ) (d : PushedInt) → m < length xs → get_or (places xs) m 0 ≡ (get_or xs m d).place
  place_at m d h = get_or-map (λ (e : PushedInt). e.place) xs m d 0 h

  length_same : length (places xs) ≡ length xs
  length_same = length-map xs (λ (e : PushedInt). e.place)

  pub is_at : (i : ℕ) (x : PushedInt) → i < length xs → HoldsAt (λ (e : PushedInt). nat_cmp e.place place ≡ Equal) xs i → x ≡ get_or xs i x → Contains xs (record { place = place; value = x.value })
  is_at i x lt equal is =
      let at : x.place ≡ place = ap (λ (e : PushedInt). e.place) is ∙ ranked (get_or xs i x).place place Equal (sym (equal x)) in
      let has : Contains xs x = (i, lt, sym is) in
      subst (λ (p : ℕ). Contains xs (record { place = p; value = x.value })) at has

  rising_answers : (d : PushedInt) → IsNonDecreasingBy (λ (e : PushedInt). ordering_index (nat_cmp e.place place)) xs
  rising_answers d = IsNonDecreasingBy-from_default (λ (e : PushedInt). ordering_index (nat_cmp e.place place)) xs d (λ i j le within.
      let first : get_or (places xs) i 0 ≡ (get_or xs i d).place = place_at i d (omega arith) in
      let second : get_or (places xs) j 0 ≡ (get_or xs j d).place = place_at j d within in
      let up = rising_all (places xs) rising i j le (omega (arith, length_same)) in
      rise (get_or xs i d).place (get_or xs j d).place (omega arith))
    where
      rise : (a b : ℕ) → a ≤ b → ordering_index (nat_cmp a place) ≤ ordering_index (nat_cmp b place)
      rise a b h = grind (arith, nat_tests)

  -- where none is found
  pub none_at : (at : ℕ) → (IsNonDecreasingBy (λ (e : PushedInt). ordering_index (nat_cmp e.place place)) xs
      → IsPartitionPoint (λ (e : PushedInt). nat_cmp e.place place ≡ Less) (λ (e : PushedInt). nat_cmp e.place place ≡ Greater) xs at)
      → (c : ℤ) → Contains xs (record { place = place; value = c }) → ⊥
  none_at at parted c has =
      let d : PushedInt = record { place = place; value = c } in
      let (below, above) = parted (rising_answers d) in
      let k = has.0 in
      let within = has.1 in
      let read : (get_or xs k d).place ≡ place = ap (λ (e : PushedInt). e.place) has.2 in
      elim (cases_lt k at) [
        | inl lt ↦ let less = ranked (get_or xs k d).place place Less (sym (below k d (omega arith) lt)) in omega (arith, less, read)
        | inr ge ↦ let more = ranked (get_or xs k d).place place Greater (sym (above k d ge within)) in omega (arith, more, read)
      ]

-- ---- directly before a place

module _ (P : Program) (m : ℕ) (s : Scanned) (xs : List PushedInt) (q : ℕ) (scan : IsScanOf P m s) where
  pub none_named : is_named s q ≡ true → (c : ℤ) → IsPushedBefore P m q c → ⊥
  none_named e c h = h.alone ((scan.named q).0 e)

  pub none_before : line_before s q ≡ None → (c : ℤ) → IsPushedBefore P m q c → ⊥
  none_before e c h = subst (IsBefore P m q) e (scan.before q) h.before (rows.Push (Int c)) h.push

  pub one_before : LinesAreOne → OneStandsBefore → ArePushed P m xs → is_named s q ≡ false → (p : ℕ) → line_before s q ≡ Some p → (o : Option ℤ) → IsValueAt xs p o → IsIntBefore P m q o
  one_before one before pushed free p is o value =
      let line : (r : Row) × IsLine P m p q r = subst (IsBefore P m q) is (scan.before q) in
      by line.0 line.1 o value
    where
      by : (r : Row) → IsLine P m p q r → (o : Option ℤ) → IsValueAt xs p o → IsIntBefore P m q o
      by r line None none = λ c h.
          let same : h.before ≡ p = before P m h.before p q (rows.Push (Int c)) r h.push line in
          none c ((pushed.each (record { place = p; value = c })).1 (q, subst (λ (x : ℕ). IsLine P m x q (rows.Push (Int c))) same h.push))
      by r line (Some c) has =
          let pushes = (pushed.each (record { place = p; value = c })).0 has in
          let same : pushes.0 ≡ q = (one P m p pushes.0 q (rows.Push (Int c)) r pushes.1 line).0 in
          record {
            before = p;
            push = subst (λ (x : ℕ). IsLine P m p x (rows.Push (Int c))) same pushes.1;
            alone = λ named. false≢true (sym free ∙ (scan.named q).1 named);
          }
