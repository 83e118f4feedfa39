-- The lines of the bounds, and what each says.
use Rattle.std.proofs.Common.{◌≡◌, ℕ, ◌%◌, ◌^◌, ◌<◌, ◌≤◌, Bool, false, List, [], ◌∷◌, ◌++◌, length, refl, sym, ap, ◌∙◌, arith, lit<, inl, inr}
use Rattle.std.specs.Prelude.{◌==◌, codes, decimal}
use Rattle.std.specs.Fmt.{digits}
use Rattle.std.specs.List.{All, AllByRecursion, slice_split}
use Rattle.std.proofs.Math.Nat.{mod-lt}
use Rattle.std.proofs.lemmas.Bool.{cases_Bool, eqb-true}
use Rattle.std.proofs.lemmas.Fmt.{length-decimal-le}
use Rattle.std.proofs.lemmas.List.{append_assoc, length-append}
use Rattle.std.proofs.lemmas.List.Elements.{All-from_recursion}
use Rattle.std.proofs.lemmas.List.Splits.{slice_split_none, slice_split_at, length-slice_split}
use Rattle.ascii_text.specs.Line.{lines_of, without_empty_last}
use Rattle.ascii_text.proofs.NumberLemmas.{HasOneSpelling-decimal}
use Rattle.bound_texts.specs.Loops.Grammar.{IsLoopLine, SaysLoopBound}
use Rattle.bound_texts.specs.Loops.Lines.{IsNumber}
use Rattle.work_gen.specs.Work.{adder_name, turns_of, bound_line}
use Rattle.work_gen.specs.Bounds.{adder_text, adder_bound}
use Rattle.work_gen.proofs.Decimals.{decimal_fails}

-- the line, without its LF
abbrev pub bound_words : ℕ → List ℕ
bound_words k = codes "W." ++ (adder_name k ++ (codes "(I)I 2 loop<=" ++ decimal (turns_of k)))

pub line_is : (k : ℕ) → bound_line k ≡ bound_words k ++ 10 ∷ []
unfolding bound_line
line_is k =
    let e : decimal k ++ (codes "(I)I 2 loop<=" ++ (decimal (turns_of k) ++ 10 ∷ [])) ≡ (decimal k ++ (codes "(I)I 2 loop<=" ++ decimal (turns_of k))) ++ 10 ∷ [] = sym (append_assoc (decimal k) (codes "(I)I 2 loop<=" ++ decimal (turns_of k)) (10 ∷ [])) in
    ap (λ (t : List ℕ). codes "W.m" ++ t) e

-- ---- the numbers

few_fit : (k : ℕ) → k ≤ 1000 → k < 2 ^ 64
few_fit k few =
    let large : 1000 < 2 ^ 64 = lit< tt in omega arith

turns_most : (k : ℕ) → turns_of k ≤ 8
turns_most k =
    let small : k % 8 < 8 = mod-lt k (lit< tt) in omega (arith, small)

turns_fit : (k : ℕ) → turns_of k < 2 ^ 64
turns_fit k =
    let large : 8 < 2 ^ 64 = lit< tt in omega (arith, turns_most k, large)

pub line_short : (k : ℕ) → k ≤ 1000 → length (bound_line k) ≤ 40
unfolding bound_line
line_short k few =
    let small : k < 10 ^ 4 = omega (arith, few) in
    let one : turns_of k < 10 ^ 1 = omega (arith, turns_most k) in
    omega (arith, length-append (decimal k) (codes "(I)I 2 loop<=" ++ (decimal (turns_of k) ++ 10 ∷ [])), length-append (decimal (turns_of k)) (10 ∷ []), length-decimal-le 4 k (lit< tt) small (few_fit k few), length-decimal-le 1 (turns_of k) (lit< tt) one (turns_fit k))

-- ---- no mark below the digits, a space or an LF, is in a name or a number

abbrev is_mark : (mark : ℕ) → ℕ → Bool
is_mark mark c = c == mark

abbrev Lacks : (mark : ℕ) → List ℕ → Type 0
Lacks mark text = AllByRecursion (λ c. is_mark mark c ≡ false) text

lacks_both : (mark : ℕ) (text more : List ℕ) → Lacks mark text → Lacks mark more → Lacks mark (text ++ more)
lacks_both mark [] more h r = r
lacks_both mark (c ∷ text) more h r = (h.0, lacks_both mark text more h.1 r)

no_digit : (mark : ℕ) → mark < 40 → (c : ℕ) → 48 ≤ c → c ≤ 57 → is_mark mark c ≡ false
no_digit mark low c least most = elim (cases_Bool (is_mark mark c)) [
  | inl e ↦ absurd (let same : c ≡ mark = eqb-true c mark e in omega arith)
  | inr e ↦ e
]

number_lacks : (mark : ℕ) → mark < 40 → (n : ℕ) → n < 2 ^ 64 → Lacks mark (decimal n)
number_lacks mark low n small = decimal_fails (is_mark mark) (no_digit mark low) n small

name_lacks_space : (k : ℕ) → k ≤ 1000 → Lacks 32 (adder_text k)
name_lacks_space k few =
    (refl, (refl, (refl, lacks_both 32 (decimal k) (codes "(I)I") (number_lacks 32 (lit< tt) k (few_fit k few)) (refl, (refl, (refl, (refl, tt)))))))

turns_lack : (mark k : ℕ) → mark < 40 → Lacks mark (decimal (turns_of k))
turns_lack mark k low = number_lacks mark low (turns_of k) (turns_fit k)

bound_lacks_space : (k : ℕ) → Lacks 32 (codes "loop<=" ++ decimal (turns_of k))
bound_lacks_space k = (refl, (refl, (refl, (refl, (refl, (refl, turns_lack 32 k (lit< tt)))))))

line_lacks_feed : (k : ℕ) → k ≤ 1000 → Lacks 10 (bound_words k)
line_lacks_feed k few =
    let rest : Lacks 10 (codes "(I)I 2 loop<=" ++ decimal (turns_of k)) =
    (refl, (refl, (refl, (refl, (refl, (refl, (refl, (refl, (refl, (refl, (refl, (refl, (refl, turns_lack 10 k (lit< tt)))))))))))))) in
    (refl, (refl, (refl, lacks_both 10 (decimal k) (codes "(I)I 2 loop<=" ++ decimal (turns_of k)) (number_lacks 10 (lit< tt) k (few_fit k few)) rest)))

all_of : (mark : ℕ) (text : List ℕ) → Lacks mark text → All (λ c. is_mark mark c ≡ false) text
all_of mark text h = All-from_recursion (λ c. is_mark mark c ≡ false) text h

-- ---- what a line says

name_then : (k : ℕ) → bound_words k ≡ adder_text k ++ 32 ∷ (codes "2 loop<=" ++ decimal (turns_of k))
name_then k =
    let e : decimal k ++ (codes "(I)I" ++ (32 ∷ (codes "2 loop<=" ++ decimal (turns_of k)))) ≡ (decimal k ++ codes "(I)I") ++ 32 ∷ (codes "2 loop<=" ++ decimal (turns_of k)) = sym (append_assoc (decimal k) (codes "(I)I") (32 ∷ (codes "2 loop<=" ++ decimal (turns_of k)))) in
    ap (λ (t : List ℕ). codes "W.m" ++ t) e

parts_are : (k : ℕ) → k ≤ 1000 → slice_split (is_mark 32) (bound_words k) ≡ adder_text k ∷ codes "2" ∷ (codes "loop<=" ++ decimal (turns_of k)) ∷ []
parts_are k few =
    ap (slice_split (is_mark 32)) (name_then k)
    ∙ (slice_split_at (is_mark 32) (adder_text k) 32 (codes "2 loop<=" ++ decimal (turns_of k)) (all_of 32 (adder_text k) (name_lacks_space k few)) refl
    ∙ ap (λ (parts : List (List ℕ)). adder_text k ∷ codes "2" ∷ parts) (slice_split_none (is_mark 32) (codes "loop<=" ++ decimal (turns_of k)) (all_of 32 (codes "loop<=" ++ decimal (turns_of k)) (bound_lacks_space k))))

is_number : (n : ℕ) → n < 2 ^ 32 → IsNumber (decimal n) n
is_number n small =
    let large : 2 ^ 32 < 2 ^ 64 = lit< tt in
    let fits : n < 2 ^ 64 = omega arith in
    let one = HasOneSpelling-decimal n fits in (one.0, one.1, small)

place_is_number : IsNumber (codes "2") 2
unfolding digits
place_is_number = is_number 2 (lit< tt)

loop_line : (k : ℕ) → k ≤ 1000 → IsLoopLine (bound_words k) (adder_bound k)
loop_line k few =
    let large : 8 < 2 ^ 32 = lit< tt in
    record {
      pc_text = codes "2";
      bound_text = decimal (turns_of k);
      parts = parts_are k few;
      named = omega arith;
      pc = place_is_number;
      bound = is_number (turns_of k) (omega (arith, turns_most k, large));
    }

pub line_says : (k : ℕ) → k ≤ 1000 → SaysLoopBound (bound_words k) (adder_bound k ∷ [])
line_says k few = (λ silent. absurd (let e : 87 ≡ 35 = silent in omega arith), loop_line k few)

-- ---- one line more

onto_lines : (line : List ℕ) (pieces : List (List ℕ)) → 0 < length pieces → without_empty_last (line ∷ pieces) ≡ line ∷ without_empty_last pieces
onto_lines line [] h = absurd (omega arith)
onto_lines line (piece ∷ pieces) h = refl

pub line_first : (k : ℕ) (rest : List ℕ) → k ≤ 1000 → lines_of (bound_line k ++ rest) ≡ bound_words k ∷ lines_of rest
line_first k rest few =
    ap (λ (t : List ℕ). lines_of (t ++ rest)) (line_is k)
    ∙ (ap lines_of (append_assoc (bound_words k) (10 ∷ []) rest)
    ∙ (ap without_empty_last (slice_split_at (is_mark 10) (bound_words k) 10 rest (all_of 10 (bound_words k) (line_lacks_feed k few)) refl)
    ∙ onto_lines (bound_words k) (slice_split (is_mark 10) rest) (omega (arith, length-slice_split (is_mark 10) rest))))
