-- The cycles of entries are those of the rows.
use Rattle.std.proofs.Common.{◌≡◌, ◌≢◌, ℕ, suc, ◌+◌, Bool, true, false, cond, List, [], ◌∷◌, Option, Contains, refl, sym, ◌∙◌, ap, subst, arith, inl, inr, zero-add}
use Rattle.std.specs.Prelude.{AllPairs, sum_by, if◌then◌else◌}
use Rattle.std.proofs.lemmas.Bool.{cases_Bool}
use Rattle.std.proofs.lemmas.List.Sums.{sum_by-cons}
use Rattle.lists.specs.Members.{at_head, in_tail, cons_cases, nil_contains}
use Rattle.bound_report.specs.declared.contents.rows.ReportRow.{ReportRow}
use Rattle.bound_report.specs.Contents.Rows.{cycles_of}
use Rattle.report_lines.specs.Entries.{key_of, same_key, rows_at, IsOfAll}
use Rattle.report_lines.specs.Laws.{LinesAddUp}
use Rattle.report_lines.proofs.KeyLemmas.{keys_are, are_keys}

-- the first of a list apart from the others
pub pairs_tail : {X : Type 0} (R : X → X → Type 0) (x : X) (xs : List X) → AllPairs R (x ∷ xs) → AllPairs R xs
pairs_tail R x xs h i j d lt below = h (suc i) (suc j) d (omega arith) (omega arith)

pub pairs_head : {X : Type 0} (R : X → X → Type 0) (x : X) (xs : List X) → AllPairs R (x ∷ xs) → (y : X) → Contains xs y → R x y
pairs_head R x xs h y c = let below = c.1 in subst (R x) c.2 (h 0 (suc c.0) y (omega arith) (omega arith))

pub of_all_cycles : (own : List ReportRow) (e : ReportRow) → IsOfAll own e → e.cycles ≡ cycles_of own
of_all_cycles [] e h = absurd h
of_all_cycles (q ∷ qs) e h = ap (λ (x : ReportRow). x.cycles) h

module _ (source : ℕ → ℕ → Option (List ℕ × ℕ)) where
  -- the cycles of the rows where an entry stands
  abbrev there : List ReportRow → ReportRow → ℕ
  there rows e = cycles_of (rows_at source (key_of source e) rows)

  -- what a row adds to them
  abbrev added : ReportRow → ReportRow → ℕ
  added r e = if same_key (key_of source e) (key_of source r) then r.cycles else 0

  there_case : (b : Bool) (r : ReportRow) (own : List ReportRow) → cycles_of (cond b (r ∷ own) own) ≡ (if b then r.cycles else 0) + cycles_of own
  there_case true r own = sum_by-cons (λ (x : ReportRow). x.cycles) r own
  there_case false r own = sym (zero-add (cycles_of own))

  there_more : (r : ReportRow) (rows : List ReportRow) (e : ReportRow) → there (r ∷ rows) e ≡ added r e + there rows e
  there_more r rows e = there_case (same_key (key_of source e) (key_of source r)) r (rows_at source (key_of source e) rows)

  sum_both : (f g h : ReportRow → ℕ) → ((e : ReportRow) → f e ≡ g e + h e) → (es : List ReportRow) → sum_by f es ≡ sum_by g es + sum_by h es
  sum_both f g h is [] = refl
  sum_both f g h is (e ∷ es) =
      let first = is e in
      let rest = sum_both f g h is es in
      omega (arith, first, rest, sum_by-cons f e es, sum_by-cons g e es, sum_by-cons h e es)

  sum_none : (f : ReportRow → ℕ) (es : List ReportRow) → ((e : ReportRow) → Contains es e → f e ≡ 0) → sum_by f es ≡ 0
  sum_none f [] none = refl
  sum_none f (e ∷ es) none = omega (arith, sum_by-cons f e es, none e (at_head e es), sum_none f es (λ x c. none x (in_tail e x es c)))

  -- it adds its cycles where it stands, and nothing elsewhere
  added_here : (r e : ReportRow) → key_of source e ≡ key_of source r → added r e ≡ r.cycles
  added_here r e same = ap (λ (b : Bool). if b then r.cycles else 0) (are_keys (key_of source e) (key_of source r) same)

  added_elsewhere : (r e : ReportRow) → key_of source e ≢ key_of source r → added r e ≡ 0
  added_elsewhere r e apart = elim (cases_Bool (same_key (key_of source e) (key_of source r))) [
    | inl same ↦ absurd (apart (keys_are (key_of source e) (key_of source r) same))
    | inr not ↦ ap (λ (b : Bool). if b then r.cycles else 0) not
  ]

  -- of entries apart just one has the row
  added_once : (r : ReportRow) (es : List ReportRow) → AllPairs (λ a b. key_of source a ≢ key_of source b) es → (e : ReportRow) → Contains es e → key_of source e ≡ key_of source r → sum_by (added r) es ≡ r.cycles
  added_once r [] apart e c same = absurd (nil_contains e c)
  added_once r (x ∷ xs) apart e c same =
      elim (cons_cases x e xs c) [
        | inl here ↦
            let is : key_of source x ≡ key_of source r = ap (key_of source) here ∙ same in
            let none = sum_none (added r) xs (λ y cy. added_elsewhere r y (λ k. pairs_head (λ a b. key_of source a ≢ key_of source b) x xs apart y cy (is ∙ sym k))) in
            omega (arith, sum_by-cons (added r) x xs, added_here r x is, none)
        | inr later ↦
            let other : key_of source x ≢ key_of source r = λ k. pairs_head (λ a b. key_of source a ≢ key_of source b) x xs apart e later (k ∙ sym same) in
            let rest = added_once r xs (pairs_tail (λ a b. key_of source a ≢ key_of source b) x xs apart) e later same in
            omega (arith, sum_by-cons (added r) x xs, added_elsewhere r x other, rest)
      ]

  all_there : (rows es : List ReportRow) → AllPairs (λ a b. key_of source a ≢ key_of source b) es
      → ((r : ReportRow) → Contains rows r → (e : ReportRow) × Contains es e × (key_of source e ≡ key_of source r)) → sum_by (there rows) es ≡ cycles_of rows
  all_there [] es apart whole = sum_none (there []) es (λ e c. refl)
  all_there (r ∷ rows) es apart whole =
      let w = whole r (at_head r rows) in
      let split = sum_both (there (r ∷ rows)) (added r) (there rows) (there_more r rows) es in
      let once = added_once r es apart w.0 w.1 w.2 in
      let rest = all_there rows es apart (λ q c. whole q (in_tail r q rows c)) in
      omega (arith, split, once, rest, sum_by-cons (λ (x : ReportRow). x.cycles) r rows)

  each_sum : (rows es : List ReportRow) → ((e : ReportRow) → Contains es e → IsOfAll (rows_at source (key_of source e) rows) e) → cycles_of es ≡ sum_by (there rows) es
  each_sum rows [] each = refl
  each_sum rows (e ∷ es) each =
      let first = of_all_cycles (rows_at source (key_of source e) rows) e (each e (at_head e es)) in
      let rest = each_sum rows es (λ x c. each x (in_tail e x es c)) in
      omega (arith, first, rest, sum_by-cons (λ (x : ReportRow). x.cycles) e es, sum_by-cons (there rows) e es)

pub lines_add_up : LinesAddUp
lines_add_up source rows entries h = each_sum source rows entries h.each ∙ all_there source rows entries h.apart h.whole
