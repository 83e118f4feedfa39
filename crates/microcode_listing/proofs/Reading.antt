-- The lines of the text, read one after another.
use Rattle.std.proofs.Common.{◌≡◌, ℕ, ◌+◌, Bool, true, false, not, ◌&&◌, List, [], ◌∷◌, ◌++◌, refl, ap, ◌∙◌, subst, Option, Some, None}
use Rattle.std.specs.Prelude.{◌==◌, nat_lt, is_none}
use Rattle.std.specs.List.{list_all, slice_split, onto_first}
use Rattle.std.proofs.lemmas.Bool.{and_parts, ltb-true, false≢true}
use Rattle.std.proofs.lemmas.List.Splits.{slice_split-cons_no}
use Rattle.ascii_text.specs.Line.{without_empty_last, lines_of, with_line_feeds}
use Rattle.microcode_asm.specs.Statements.{Statement, nothing, word, branch, entry, raise, constant, turns, Line, line_of}
use Rattle.microcode_asm.specs.Programs.{LabelPlaces}
use Rattle.microcode_asm.specs.SoFar.{Kept, HasRange, TextHasRange, text_fault_by, with_text}
use Rattle.microcode_asm.proofs.ReadLemmas.{IsReadSoFar, read_more}
use Rattle.microcode_listing.proofs.ListingTexts.{Texts}

-- ---- the lines of a text that was made of lines

abbrev is_feed : ℕ → Bool
is_feed byte = byte == 10

abbrev pub has_no_feed : List ℕ → Bool
has_no_feed line = list_all (λ byte. not (is_feed byte)) line

no_feed : (b : Bool) → not b ≡ true → b ≡ false
no_feed true h = absurd (false≢true h)
no_feed false h = refl

split_line : (line rest : List ℕ) → has_no_feed line ≡ true → slice_split is_feed (line ++ 10 ∷ rest) ≡ line ∷ slice_split is_feed rest
split_line [] rest h = refl
split_line (b ∷ line) rest h =
    let p = and_parts (not (is_feed b)) (has_no_feed line) h in
    slice_split-cons_no is_feed b (line ++ 10 ∷ rest) (no_feed (is_feed b) p.0) ∙ ap (onto_first b) (split_line line rest p.1)

split_lines : (lines : Texts) → list_all has_no_feed lines ≡ true → slice_split is_feed (with_line_feeds lines) ≡ lines ++ [] ∷ []
split_lines [] h = refl
split_lines (line ∷ lines) h =
    let p = and_parts (has_no_feed line) (list_all has_no_feed lines) h in
    split_line line (with_line_feeds lines) p.0 ∙ ap (λ l. line ∷ l) (split_lines lines p.1)

without_last : (lines : Texts) → without_empty_last (lines ++ [] ∷ []) ≡ lines
without_last [] = refl
without_last (line ∷ []) = refl
without_last (line ∷ next ∷ lines) = ap (λ l. line ∷ l) (without_last (next ∷ lines))

pub lines_back : (lines : Texts) → list_all has_no_feed lines ≡ true → lines_of (with_line_feeds lines) ≡ lines
lines_back lines h = ap without_empty_last (split_lines lines h) ∙ without_last lines

-- ---- the assembler over lines

abbrev pub in_range : Statement → Bool
in_range (entry op) = nat_lt op 256
in_range (constant number value) = nat_lt number 32
in_range nothing = true
in_range (word bits) = true
in_range (branch how label) = true
in_range raise = true
in_range (turns t) = true

abbrev pub text_in_range : Option Line → Bool
text_in_range None = true
text_in_range (Some line) = in_range line.statement

range_of : (s : Statement) → in_range s ≡ true → HasRange s
range_of (entry op) h = ltb-true op 256 h
range_of (constant number value) h = ltb-true number 32 h
range_of nothing h = tt
range_of (word bits) h = tt
range_of (branch how label) h = tt
range_of raise h = tt
range_of (turns t) h = tt

text_range : (said : Option Line) (k : Kept) → text_in_range said ≡ true → TextHasRange said k
text_range None k h = tt
text_range (Some line) k h = λ e. range_of line.statement h

-- what is kept of the lines, if none is refused
abbrev pub run : LabelPlaces → Texts → Kept → Option Kept
run place [] k = Some k
run place (line ∷ lines) k =
    elim (is_none (text_fault_by place (line_of line) k) && text_in_range (line_of line)) as (λ b. Option Kept) [ true ↦ run place lines (with_text place (line_of line) k) | false ↦ None ]

none_is : {X : Type 0} (o : Option X) → is_none o ≡ true → None ≡ o
none_is None h = refl
none_is (Some x) h = absurd (false≢true h)

some_same : {A : Type 0} (x y : A) → Some x ≡ Some y → x ≡ y
some_same x y h = cc

pub run_reads : (text : List ℕ) (place : LabelPlaces) (number : ℕ) (lines : Texts) (k last : Kept) → IsReadSoFar text number lines place k → run place lines k ≡ Some last → (n : ℕ) × IsReadSoFar text n [] place last
run_reads text place number [] k last r e = (number, subst (IsReadSoFar text number [] place) (some_same k last e) r)
run_reads text place number (line ∷ lines) k last r e = by (is_none (text_fault_by place (line_of line) k) && text_in_range (line_of line)) refl e (run_reads text place (number + 1) lines (with_text place (line_of line) k) last)
  where
    by : (b : Bool) → (is_none (text_fault_by place (line_of line) k) && text_in_range (line_of line)) ≡ b
        → (elim b as (λ b. Option Kept) [ true ↦ run place lines (with_text place (line_of line) k) | false ↦ None ]) ≡ Some last
        → (IsReadSoFar text (number + 1) lines place (with_text place (line_of line) k) → run place lines (with_text place (line_of line) k) ≡ Some last → (n : ℕ) × IsReadSoFar text n [] place last)
        → (n : ℕ) × IsReadSoFar text n [] place last
    by true t e later =
        let p = and_parts (is_none (text_fault_by place (line_of line) k)) (text_in_range (line_of line)) t in
        later (read_more text number (line ∷ lines) lines line (line_of line) place k (with_text place (line_of line) k) r refl refl (text_range (line_of line) k p.1) (none_is (text_fault_by place (line_of line) k) p.0) refl) e
    by false t e later = let no : ◌≡◌ {A = Option Kept} None (Some last) = e in absurd (cc)
