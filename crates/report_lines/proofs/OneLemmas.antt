-- Rows and totals have one text.
use Rattle.std.proofs.Common.{◌≡◌, ℕ, Bool, cond, List, [], ◌∷◌, Option, Contains, sym, refl, ◌∙◌, ap, ap₂, subst, arith, inl, inr}
use Rattle.std.specs.Prelude.{AllPairs}
use Rattle.std.proofs.lemmas.Bool.{cases_Bool}
use Rattle.lists.specs.Members.{at_head, in_tail, cons_cases, nil_contains}
use Rattle.report_lines.specs.declared.key.Key.{Key}
use Rattle.bound_report.specs.declared.contents.rows.ReportRow.{ReportRow}
use Rattle.report_lines.specs.Entries.{key_of, same_key, rows_at, IsOfAll, ComesBefore, AreEntries}
use Rattle.report_lines.specs.Text.{report_lines}
use Rattle.report_lines.specs.Laws.{ReportTextsAreOne}
use Rattle.report_lines.proofs.KeyLemmas.{keys_are}
use Rattle.report_lines.proofs.SumLemmas.{pairs_head, pairs_tail}

-- ---- the order

not_both : (a b : ReportRow) → ComesBefore a b → ComesBefore b a → ⊥
not_both a b (inl x) (inl y) = omega (arith, x, y)
not_both a b (inl x) (inr (s, y)) = omega (arith, x, s)
not_both a b (inr (s, x)) (inl y) = omega (arith, s, y)
not_both a b (inr (s, inl x)) (inr (t, inl y)) = omega (arith, x, y)
not_both a b (inr (s, inl x)) (inr (t, inr (m, y))) = omega (arith, x, m)
not_both a b (inr (s, inr (m, x))) (inr (t, inl y)) = omega (arith, m, y)
not_both a b (inr (s, inr (m, x))) (inr (t, inr (n, y))) = omega (arith, x, y)

abbrev Within : List ReportRow → List ReportRow → Type 0
Within es fs = (x : ReportRow) → Contains es x → Contains fs x

heads_same : (e f : ReportRow) (es fs : List ReportRow) → AllPairs ComesBefore (e ∷ es) → AllPairs ComesBefore (f ∷ fs) → Within (e ∷ es) (f ∷ fs) → Within (f ∷ fs) (e ∷ es) → e ≡ f
heads_same e f es fs up down to from =
    elim (cons_cases f e fs (to e (at_head e es))) [
      | inl same ↦ sym same
      | inr later ↦
          elim (cons_cases e f es (from f (at_head f fs))) [
            | inl same ↦ same
            | inr behind ↦ absurd (not_both e f (pairs_head ComesBefore e es up f behind) (pairs_head ComesBefore f fs down e later))
          ]
    ]

tails_within : (e f : ReportRow) (es fs : List ReportRow) → AllPairs ComesBefore (e ∷ es) → Within (e ∷ es) (f ∷ fs) → e ≡ f → Within es fs
tails_within e f es fs up to same x c =
    elim (cons_cases f x fs (to x (in_tail e x es c))) [
      | inl here ↦
          let before = pairs_head ComesBefore e es up x c in
          let itself = subst (ComesBefore e) (sym here ∙ sym same) before in
          absurd (not_both e e itself itself)
      | inr there ↦ there
    ]

-- lists in the order that have the same entries are the same
lists_same : (es fs : List ReportRow) → AllPairs ComesBefore es → AllPairs ComesBefore fs → Within es fs → Within fs es → es ≡ fs
lists_same [] [] up down to from = refl
lists_same [] (f ∷ fs) up down to from = absurd (nil_contains f (from f (at_head f fs)))
lists_same (e ∷ es) [] up down to from = absurd (nil_contains e (to e (at_head e es)))
lists_same (e ∷ es) (f ∷ fs) up down to from =
    let same = heads_same e f es fs up down to from in
    ap₂ (λ (x : ReportRow) (xs : List ReportRow). x ∷ xs) same
    (lists_same es fs (pairs_tail ComesBefore e es up) (pairs_tail ComesBefore f fs down) (tails_within e f es fs up to same) (tails_within f e fs es down from (sym same)))

-- ---- the entries

of_all_same : (own : List ReportRow) (e f : ReportRow) → IsOfAll own e → IsOfAll own f → e ≡ f
of_all_same [] e f h k = absurd h
of_all_same (q ∷ qs) e f h k = h ∙ sym k

module _ (source : ℕ → ℕ → Option (List ℕ × ℕ)) where
  -- an entry stands where some row does
  pub some_row : (k : Key) (rows : List ReportRow) (e : ReportRow) → IsOfAll (rows_at source k rows) e → (q : ReportRow) × Contains rows q × (key_of source q ≡ k)
  some_row k [] e h = absurd h
  some_row k (q ∷ qs) e h =
      elim (cases_Bool (same_key k (key_of source q))) [
        | inl is ↦ (q, at_head q qs, sym (keys_are k (key_of source q) is))
        | inr not ↦
            let own : rows_at source k (q ∷ qs) ≡ rows_at source k qs = ap (λ (b : Bool). cond b (q ∷ rows_at source k qs) (rows_at source k qs)) not in
            let r = some_row k qs e (subst (λ (xs : List ReportRow). IsOfAll xs e) own h) in
            (r.0, in_tail q r.0 qs r.1, r.2)
      ]

  within : (rows es fs : List ReportRow) → AreEntries source rows es → AreEntries source rows fs → Within es fs
  within rows es fs h k e c =
      let q = some_row (key_of source e) rows e (h.each e c) in
      let f = k.whole q.0 q.1 in
      let own = subst (λ (x : Key). IsOfAll (rows_at source x rows) f.0) (f.2 ∙ q.2) (k.each f.0 f.1) in
      subst (Contains fs) (of_all_same (rows_at source (key_of source e) rows) f.0 e own (h.each e c)) f.1

  entries_are_one : (rows es fs : List ReportRow) → AreEntries source rows es → AreEntries source rows fs → es ≡ fs
  entries_are_one rows es fs h k = lists_same es fs h.ordered k.ordered (within rows es fs h k) (within rows fs es k h)

pub texts_are_one : ReportTextsAreOne
texts_are_one source name rows t a b h k =
    h.text_is ∙ ap (report_lines source name t) (entries_are_one source rows h.entries k.entries h.are k.are) ∙ sym k.text_is
