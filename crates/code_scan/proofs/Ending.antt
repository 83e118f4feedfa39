-- Where instructions end.
use Rattle.std.proofs.Common.{◌≡◌, ℕ, ◌+◌, ◌<◌, ◌≤◌, List, length, get_or, replicate, Contains, Option, Some, None, MatchOption, sym, ap, ◌∙◌, subst, inl, inr, arith}
use Rattle.std.proofs.Math.ListN.{set, length-set}
use Rattle.std.proofs.lemmas.Bool.{cases_eq, cases_lt}
use Rattle.std.proofs.lemmas.Grind.{get_or-set_at}
use Rattle.std.proofs.lemmas.List.{get_or_past, get_or-set_other, get_or-replicate, length-replicate}
use Rattle.lists.specs.Members.{place_of}
use Rattle.opcodes.specs.declared.instruction.Instr.{Instr}
use Rattle.opcodes.specs.Start.{starts_of}
use Rattle.code_scan.specs.Naming.{EndsAt}
use Rattle.code_scan.proofs.Marking.{ok_same}

-- what is known of the instructions of the first so many starts
abbrev pub IsEnd : (code starts : List ℕ) → (n q : ℕ) → Option ℕ → Type 0
IsEnd code starts n q o = MatchOption o ((k : ℕ) → k < n → EndsAt code (get_or starts k 0) q → ⊥) (λ p. EndsAt code p q)

pub record AreEnds (code starts : List ℕ) (n : ℕ) (ends : List (Option ℕ)) : Type 0 where
  pub long : length ends ≡ length code + 1
  pub each : (q : ℕ) → IsEnd code starts n q (get_or ends q None)

all_none : (n q : ℕ) → ◌≡◌ {A = Option ℕ} (get_or (replicate n None) q None) None
all_none n q =
    let none : Option ℕ = None in
    elim (cases_lt q n) [ inl lt ↦ get_or-replicate n q none none lt | inr past ↦ get_or_past (replicate n none) q none (let long = length-replicate n none in omega arith) ]

pub no_ends : (code starts : List ℕ) (ends : List (Option ℕ)) → ends ≡ replicate (length code + 1) None → AreEnds code starts 0 ends
no_ends code starts ends all = record {
  long = ap (λ (xs : List (Option ℕ)). length xs) all ∙ length-replicate (length code + 1) None;
  each = λ q. subst (IsEnd code starts 0 q) (sym (ap (λ (xs : List (Option ℕ)). get_or xs q None) all ∙ all_none (length code + 1) q)) (λ k below h. omega arith);
}

-- an instruction ends at one place
one_end : (code : List ℕ) (p q e : ℕ) → EndsAt code p q → EndsAt code p e → q ≡ e
one_end code p q e h g =
    let same : h.instr ≡ g.instr = ok_same h.instr g.instr (sym h.is ∙ g.is) in
    h.behind ∙ (ap (λ (i : Instr). p + i.length) same ∙ sym g.behind)

pub ends_more : (code starts : List ℕ) (n e : ℕ) (ends new : List (Option ℕ)) → AreEnds code starts n ends → EndsAt code (get_or starts n 0) e → e < length ends → new ≡ set ends e (Some (get_or starts n 0)) → AreEnds code starts (n + 1) new
ends_more code starts n e ends new h here inside is = record {
  long = ap (λ (xs : List (Option ℕ)). length xs) is ∙ (length-set ends e (Some place) ∙ h.long);
  each = λ q. elim (cases_eq q e) [
    | inl same ↦
        let at : get_or new q None ≡ Some place = ap (λ (xs : List (Option ℕ)). get_or xs q None) is ∙ get_or-set_at ends e q (Some place) None same inside in
        subst (IsEnd code starts (n + 1) q) (sym at) (subst (EndsAt code place) (sym same) here)
    | inr differ ↦
        let at : get_or new q None ≡ get_or ends q None = ap (λ (xs : List (Option ℕ)). get_or xs q None) is ∙ get_or-set_other ends e q (Some place) None differ in
        subst (IsEnd code starts (n + 1) q) (sym at) (kept q differ (get_or ends q None) (h.each q))
  ];
}
  where
    place : ℕ
    place = get_or starts n 0

    kept : (q : ℕ) → (q ≡ e → ⊥) → (o : Option ℕ) → IsEnd code starts n q o → IsEnd code starts (n + 1) q o
    kept q differ None none = λ k below g.
        elim (cases_eq k n) [
          | inl same ↦ differ (one_end code place q e (subst (λ (x : ℕ). EndsAt code (get_or starts x 0) q) same g) here)
          | inr other ↦ none k (omega arith) g
        ]
    kept q differ (Some p) g = g

pub all_ends : (code starts : List ℕ) (n : ℕ) (ends : List (Option ℕ)) → starts ≡ starts_of code → length starts ≤ n → AreEnds code starts n ends → (q : ℕ) → MatchOption (get_or ends q None) ((p : ℕ) → EndsAt code p q → ⊥) (λ p. EndsAt code p q)
all_ends code starts n ends are past h q = by (get_or ends q None) (h.each q)
  where
    by : (o : Option ℕ) → IsEnd code starts n q o → MatchOption o ((p : ℕ) → EndsAt code p q → ⊥) (λ p. EndsAt code p q)
    by None none = λ p g.
        let at = place_of starts p (subst (λ (ps : List ℕ). Contains ps p) (sym are) g.start) in
        let below = at.1 in
        none at.0 (omega arith) (subst (λ (x : ℕ). EndsAt code x q) (sym at.2) g)
    by (Some p) g = g
