-- What the instructions of a method do by place, filled in start by start.
use Rattle.std.proofs.Common.{◌≡◌, ◌≢◌, ℕ, ◌+◌, ◌<◌, ◌≤◌, ◌⊎◌, ℤ, Option, List, length, get_or, replicate, Contains, sym, ap, ◌∙◌, subst, inl, inr, arith}
use Rattle.std.proofs.Math.ListN.{set, length-set}
use Rattle.std.proofs.lemmas.Bool.{cases_eq, cases_lt}
use Rattle.std.proofs.lemmas.Grind.{get_or-set_at}
use Rattle.std.proofs.lemmas.List.{get_or_past, get_or-set_other, get_or-replicate, length-replicate}
use Rattle.lists.specs.Members.{contains_at, has_or_not, place_of}
use Rattle.opcodes.specs.Start.{starts_of}
use Rattle.bytecode_model.specs.Program.{Program}
use Rattle.bytecode_model.specs.Rows.{Row}
use Rattle.method_flow.specs.Flow.{Coded, IsCodedOf}
use Rattle.code_lines.specs.Lines.{IsLine}
use Rattle.code_lines.specs.Laws.{LinesAreRead}
use Rattle.code_scan.proofs.NamedPlaces.{start_here}
use Rattle.loop_rules.specs.Sites.{AreSitesOf, SitesOf}
use Rattle.loop_rules.specs.Further.Known.{Known}
use Rattle.loop_rules.specs.Further.Arrays.{AreArraysRead, ReadsArray}
use Rattle.known_ints.specs.declared.parts.Part.{Part}
use Rattle.known_ints.specs.declared.parts.Part.TheVariants as does
use Rattle.known_ints.specs.Parts.{AreParts, IsPart, part_at}

-- it is what the instruction at the place does
abbrev pub IsPartOf : Coded → SitesOf → List (Option ℤ) → (place : ℕ) → Part → Type 0
IsPartOf k x ys q part = (P : Program) (known : Known) (m : ℕ) → IsCodedOf P m k → AreSitesOf P known.constants m x → AreArraysRead P known m ys → IsPart P known m q part

-- so at each of the first so many starts, and nothing is told elsewhere
pub record AreFilled (k : Coded) (x : SitesOf) (ys : List (Option ℤ)) (starts : List ℕ) (n : ℕ) (parts : List Part) : Type 0 where
  pub long : length parts ≡ length k.code
  pub done : (j : ℕ) → j < n → IsPartOf k x ys (get_or starts j 0) (part_at parts (get_or starts j 0))
  pub rest : (q : ℕ) → ((j : ℕ) → j < n → j < length starts → get_or starts j 0 ≢ q) → part_at parts q ≡ does.Other

all_other : (n q : ℕ) → part_at (replicate n does.Other) q ≡ does.Other
all_other n q =
    elim (cases_lt q n) [
      | inl lt ↦ get_or-replicate n q does.Other does.Other lt
      | inr past ↦ get_or_past (replicate n does.Other) q does.Other (let long = length-replicate n does.Other in omega arith)
    ]

pub none_filled : (k : Coded) (x : SitesOf) (ys : List (Option ℤ)) (starts : List ℕ) (parts : List Part) → parts ≡ replicate (length k.code) does.Other → AreFilled k x ys starts 0 parts
none_filled k x ys starts parts all = record {
  long = ap (λ (xs : List Part). length xs) all ∙ length-replicate (length k.code) does.Other;
  done = λ j below. absurd (omega arith);
  rest = λ q none. ap (λ (xs : List Part). part_at xs q) all ∙ all_other (length k.code) q;
}

pub one_filled : (k : Coded) (x : SitesOf) (ys : List (Option ℤ)) (starts : List ℕ) (n : ℕ) (parts new : List Part) (part : Part) → AreFilled k x ys starts n parts → IsPartOf k x ys (get_or starts n 0) part
    → n < length starts → get_or starts n 0 < length k.code → new ≡ set parts (get_or starts n 0) part → AreFilled k x ys starts (n + 1) new
one_filled k x ys starts n parts new part h here among below is = record {
  long = ap (λ (xs : List Part). length xs) is ∙ (length-set parts place part ∙ h.long);
  done = λ j lt. elim (cases_eq (get_or starts j 0) place) [
    | inl same ↦ subst (IsPartOf k x ys (get_or starts j 0)) (sym (at (get_or starts j 0) same)) (subst (λ (q : ℕ). IsPartOf k x ys q part) (sym same) here)
    | inr differ ↦ subst (IsPartOf k x ys (get_or starts j 0)) (sym (elsewhere (get_or starts j 0) differ)) (h.done j (earlier j lt differ))
  ];
  rest = λ q none. elsewhere q (λ same. none n (omega arith) among (sym same)) ∙ h.rest q (λ j lt within. none j (omega arith) within);
}
  where
    place : ℕ
    place = get_or starts n 0

    inside : place < length parts
    inside = let long = h.long in omega arith

    at : (q : ℕ) → q ≡ place → part_at new q ≡ part
    at q same = ap (λ (xs : List Part). part_at xs q) is ∙ get_or-set_at parts place q part does.Other same inside

    elsewhere : (q : ℕ) → q ≢ place → part_at new q ≡ part_at parts q
    elsewhere q differ = ap (λ (xs : List Part). part_at xs q) is ∙ get_or-set_other parts place q part does.Other differ

    earlier : (j : ℕ) → j < n + 1 → get_or starts j 0 ≢ place → j < n
    earlier j lt differ =
        elim (cases_eq j n) [
          | inl last ↦ absurd (differ (ap (λ (i : ℕ). get_or starts i 0) last))
          | inr other ↦ omega arith
        ]

pub all_filled : LinesAreRead → (k : Coded) (x : SitesOf) (ys : List (Option ℤ)) (starts : List ℕ) (n : ℕ) (parts : List Part) → starts ≡ starts_of k.code → length starts ≤ n → AreFilled k x ys starts n parts
    → (P : Program) (known : Known) (m : ℕ) → IsCodedOf P m k → AreSitesOf P known.constants m x → AreArraysRead P known m ys → AreParts P known m parts
all_filled read k x ys starts n parts are past h P known m of sites reads p = by (has_or_not starts p)
  where
    no_line : (Contains starts p → ⊥) → (next : ℕ) {r : Row} → IsLine P m p next r → ⊥
    no_line none next {r} line = none (subst (λ (xs : List ℕ). Contains xs p) (sym are) (start_here read P m k of p next r line))

    no_array : (Contains starts p → ⊥) → (n : ℕ) → ¬ ReadsArray P known m p n
    no_array none n (inl (f, q, line, holds)) = no_line none q line
    no_array none n (inr (named, owner, index, q, line, holds)) = no_line none q line

    by : Contains starts p ⊎ (Contains starts p → ⊥) → IsPart P known m p (part_at parts p)
    by (inl has) =
        let at = place_of starts p has in
        let below = at.1 in
        subst (λ (q : ℕ). IsPart P known m q (part_at parts q)) at.2 (h.done at.0 (omega arith) P known m of sites reads)
    by (inr none) =
        subst (IsPart P known m p) (sym (h.rest p (λ j lt within same. none (contains_at starts j p within same))))
        (record { no_field = λ c h. absurd (no_line none h.0 h.2); no_array = no_array none; other = λ next r line. absurd (no_line none next line) })
