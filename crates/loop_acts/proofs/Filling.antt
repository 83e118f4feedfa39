-- The instructions of a method by place, filled in start by start.
use Rattle.std.proofs.Common.{◌≡◌, ◌≢◌, ℕ, ◌+◌, ◌<◌, ◌≤◌, List, length, get_or, replicate, Contains, Option, Some, None, sym, ap, ◌∙◌, subst, inl, inr, arith}
use Rattle.std.specs.Prelude.{MatchOption}
use Rattle.std.proofs.Math.ListN.{set, length-set}
use Rattle.std.proofs.lemmas.Bool.{cases_eq, cases_lt}
use Rattle.std.proofs.lemmas.Grind.{get_or-set_at}
use Rattle.std.proofs.lemmas.List.{get_or_past, get_or-set_other, get_or-replicate, length-replicate}
use Rattle.lists.specs.Members.{place_of}
use Rattle.opcodes.specs.Start.{starts_of}
use Rattle.bytecode_model.specs.Program.{Program}
use Rattle.bytecode_model.specs.Rows.{Row}
use Rattle.method_flow.specs.Flow.{Coded, IsCodedOf}
use Rattle.code_lines.specs.Lines.{IsLine}
use Rattle.code_lines.specs.Laws.{LinesAreRead}
use Rattle.code_scan.specs.declared.lines.IntLine.{IntLine}
use Rattle.code_scan.specs.Lines.{IsIntLine}
use Rattle.code_scan.proofs.NamedPlaces.{start_here}
use Rattle.loop_acts.specs.Reading.{AreLinesOf, line_at}

-- the line is that of the place
abbrev pub IsLineAt : Coded → (place : ℕ) → IntLine → Type 0
IsLineAt k q l = (l.place ≡ q) × ((P : Program) (m : ℕ) → IsCodedOf P m k → IsIntLine P m l)

-- what is known of the instructions of the first so many starts
abbrev pub IsFilled : Coded → (starts : List ℕ) → (n q : ℕ) → Option IntLine → Type 0
IsFilled k starts n q o = MatchOption o ((j : ℕ) → j < n → get_or starts j 0 ≢ q) (IsLineAt k q)

pub record AreFilled (k : Coded) (starts : List ℕ) (n : ℕ) (lines : List (Option IntLine)) : Type 0 where
  pub long : length lines ≡ length k.code
  pub each : (q : ℕ) → IsFilled k starts n q (line_at lines q)

all_none : (n q : ℕ) → line_at (replicate n None) q ≡ None
all_none n q =
    let none : Option IntLine = None in
    elim (cases_lt q n) [ inl lt ↦ get_or-replicate n q none none lt | inr past ↦ get_or_past (replicate n none) q none (let long = length-replicate n none in omega arith) ]

pub none_filled : (k : Coded) (starts : List ℕ) (lines : List (Option IntLine)) → lines ≡ replicate (length k.code) None → AreFilled k starts 0 lines
none_filled k starts lines all = record {
  long = ap (λ (xs : List (Option IntLine)). length xs) all ∙ length-replicate (length k.code) None;
  each = λ q. subst (IsFilled k starts 0 q) (sym (ap (λ (xs : List (Option IntLine)). line_at xs q) all ∙ all_none (length k.code) q)) (λ j below same. omega arith);
}

pub one_filled : (k : Coded) (starts : List ℕ) (n : ℕ) (lines new : List (Option IntLine)) (l : IntLine) → AreFilled k starts n lines → IsLineAt k (get_or starts n 0) l → get_or starts n 0 < length k.code
    → new ≡ set lines (get_or starts n 0) (Some l) → AreFilled k starts (n + 1) new
one_filled k starts n lines new l h here below is = record {
  long = ap (λ (xs : List (Option IntLine)). length xs) is ∙ (length-set lines place (Some l) ∙ h.long);
  each = λ q. elim (cases_eq q place) [
    | inl same ↦
        let at : line_at new q ≡ Some l = ap (λ (xs : List (Option IntLine)). line_at xs q) is ∙ get_or-set_at lines place q (Some l) None same inside in
        subst (IsFilled k starts (n + 1) q) (sym at) (subst (λ (p : ℕ). IsLineAt k p l) (sym same) here)
    | inr differ ↦
        let at : line_at new q ≡ line_at lines q = ap (λ (xs : List (Option IntLine)). line_at xs q) is ∙ get_or-set_other lines place q (Some l) None differ in
        subst (IsFilled k starts (n + 1) q) (sym at) (kept q differ (line_at lines q) (h.each q))
  ];
}
  where
    place : ℕ
    place = get_or starts n 0

    inside : get_or starts n 0 < length lines
    inside = let long = h.long in omega arith

    kept : (q : ℕ) → q ≢ get_or starts n 0 → (o : Option IntLine) → IsFilled k starts n q o → IsFilled k starts (n + 1) q o
    kept q differ None none = λ j lt same.
        elim (cases_eq j n) [
          | inl last ↦ differ (sym same ∙ ap (λ (x : ℕ). get_or starts x 0) last)
          | inr other ↦ none j (omega arith) same
        ]
    kept q differ (Some x) is = is

pub all_filled : LinesAreRead → (k : Coded) (starts : List ℕ) (n : ℕ) (lines : List (Option IntLine)) → starts ≡ starts_of k.code → length starts ≤ n → AreFilled k starts n lines → (P : Program) (m : ℕ) → IsCodedOf P m k → AreLinesOf P m lines
all_filled read k starts n lines are past h P m of p = by (line_at lines p) (h.each p)
  where
    by : (o : Option IntLine) → IsFilled k starts n p o → MatchOption o ((next : ℕ) (r : Row) → IsLine P m p next r → ⊥) (λ l. (l.place ≡ p) × IsIntLine P m l)
    by None none = λ next r line.
        let start = start_here read P m k of p next r line in
        let at = place_of starts p (subst (λ (ps : List ℕ). Contains ps p) (sym are) start) in
        let below = at.1 in
        none at.0 (omega arith) at.2
    by (Some l) is = (is.0, is.1 P m of)
