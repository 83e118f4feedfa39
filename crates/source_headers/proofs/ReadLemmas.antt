-- The lines of headers are read as the numbers that are written.
use Rattle.std.proofs.Common.{◌≡◌, ℕ, zero, suc, ◌+◌, ◌/◌, ◌%◌, ◌^◌, ◌<◌, ◌≤◌, Bool, true, false, not, ◌&&◌, List, [], ◌∷◌, ◌++◌, length, Contains, refl, sym, ap, ◌∙◌, subst, arith, rules, lit<, inl, inr, Option, Some, None}
use Rattle.std.specs.Prelude.{◌==◌, nat_lt, codes, decimal, flat_map, option_map, if◌then◌else◌}
use Rattle.std.specs.Fmt.{digits, digits_onto, digit_glyph}
use Rattle.std.specs.List.{All, AllByRecursion, slice_split, list_all, filter_map, cons_option}
use Rattle.std.proofs.lemmas.Bool.{cases_Bool, eqb-true, eq-eqb, ltb-true, lt-ltb, true≢false}
use Rattle.std.proofs.lemmas.List.{append_assoc}
use Rattle.std.proofs.lemmas.List.Elements.{All-contains, All-from_recursion}
use Rattle.std.proofs.lemmas.List.Splits.{slice_split_none, slice_split_at, length-slice_split}
use Rattle.lists.specs.Members.{at_head, in_tail}
use Rattle.lists.specs.Tests.{and_left, and_right, not_true}
use Rattle.ascii_text.specs.Line.{lines_of, without_empty_last}
use Rattle.ascii_text.proofs.NumberLemmas.{HasOneSpelling-decimal}
use Rattle.bound_texts.specs.Loops.Bounds.{LoopBound}
use Rattle.bound_texts.specs.Loops.Grammar.{SaysLoopBound, Give}
use Rattle.bound_texts.specs.Loops.Lines.{IsNumber, IsSilent}
use Rattle.name_laws.specs.Written.{is_word}
use Rattle.bound_texts.specs.Sources.Notes.{Note}
use Rattle.source_headers.specs.Headers.{Header, number_written, source_line, number_line, header_lines, spaced, irreducible_line}
use Rattle.source_headers.specs.Reading.{bound_written, HeadersAreRead}

-- ---- no space and no line feed

abbrev pub is_mark : (mark : ℕ) → ℕ → Bool
is_mark mark c = c == mark

abbrev pub Lacks : (mark : ℕ) → List ℕ → Type 0
Lacks mark text = AllByRecursion (λ c. is_mark mark c ≡ false) text

pub lacks_both : (mark : ℕ) (text more : List ℕ) → Lacks mark text → Lacks mark more → Lacks mark (text ++ more)
lacks_both mark [] more h r = r
lacks_both mark (c ∷ text) more h r = (h.0, lacks_both mark text more h.1 r)

all_of : (mark : ℕ) (text : List ℕ) → Lacks mark text → All (λ c. is_mark mark c ≡ false) text
all_of mark text h = All-from_recursion (λ c. is_mark mark c ≡ false) text h

-- a byte of a word
abbrev is_visible : ℕ → Bool
is_visible c = nat_lt 32 c && not (c == 127)

plain_lacks : (mark : ℕ) → mark ≤ 32 → (text : List ℕ) → list_all is_visible text ≡ true → Lacks mark text
plain_lacks mark low [] h = tt
plain_lacks mark low (c ∷ text) h =
    let above : 32 < c = ltb-true 32 c (and_left (nat_lt 32 c) (not (c == 127)) (and_left (is_visible c) (list_all is_visible text) h)) in
    let other : is_mark mark c ≡ false =
    elim (cases_Bool (is_mark mark c)) [ inl e ↦ absurd (let same : c ≡ mark = eqb-true c mark e in omega (arith, above, low)) | inr e ↦ e ] in
    (other, plain_lacks mark low text (and_right (is_visible c) (list_all is_visible text) h))

-- what holds none of the marks
without_lacks : (mark : ℕ) (text : List ℕ) → ¬ Contains text mark → Lacks mark text
without_lacks mark [] lacks = tt
without_lacks mark (c ∷ text) lacks =
    let other : is_mark mark c ≡ false =
    elim (cases_Bool (is_mark mark c)) [ inl e ↦ absurd (lacks (subst (λ (x : ℕ). Contains (c ∷ text) x) (eqb-true c mark e) (at_head c text))) | inr e ↦ e ] in
    (other, without_lacks mark text (λ there. lacks (in_tail c mark text there)))

pub lacks_none : (mark : ℕ) (text : List ℕ) → Lacks mark text → ¬ Contains text mark
lacks_none mark text h c = true≢false (sym (eq-eqb mark mark refl) ∙ All-contains (λ c. is_mark mark c ≡ false) text mark (all_of mark text h) c)

-- a word is one part of a line, and no remark
pub record IsOnePart (name : List ℕ) : Type 0 where
  pub space : Lacks 32 name
  pub feed : Lacks 10 name
  pub long : 0 < length name
  pub said : IsSilent name → ⊥

pub word_is : (name : List ℕ) → is_word name ≡ true → IsOnePart name
word_is [] h = absurd (true≢false (sym h))
word_is (c ∷ name) h =
    let first = not_true (c == 35) (and_left (not (c == 35)) (list_all is_visible (c ∷ name)) h) in
    let plain = and_right (not (c == 35)) (list_all is_visible (c ∷ name)) h in
    record {
      space = plain_lacks 32 (omega arith) (c ∷ name) plain;
      feed = plain_lacks 10 (omega arith) (c ∷ name) plain;
      long = omega arith;
      said = λ silent. true≢false (sym (ap (λ (x : ℕ). x == 35) silent) ∙ first);
    }

glyph_lacks : (mark d : ℕ) → mark < 40 → d < 10 → is_mark mark (digit_glyph false d) ≡ false
glyph_lacks mark d low small =
    let is : digit_glyph false d ≡ 48 + d = ap (λ (b : Bool). if b then 48 + d else 87 + d) (lt-ltb d 10 small) in
    elim (cases_Bool (is_mark mark (digit_glyph false d))) [
      | inl e ↦ absurd (let same : digit_glyph false d ≡ mark = eqb-true (digit_glyph false d) mark e in omega (arith, is))
      | inr e ↦ e
    ]

digits_case : (mark : ℕ) (b : Bool) (one more : List ℕ) → Lacks mark one → Lacks mark more → Lacks mark (if b then one else more)
digits_case mark true one more h r = h
digits_case mark false one more h r = r

digits_lack : (mark : ℕ) → mark < 40 → (k n : ℕ) (text : List ℕ) → Lacks mark text → Lacks mark (digits_onto k 10 false n text)
digits_lack mark low zero n text h = h
digits_lack mark low (suc k) n text h =
    let d = digit_glyph false (n % 10) in
    let also : Lacks mark (d ∷ text) = (glyph_lacks mark (n % 10) low (omega arith), h) in
    digits_case mark (n / 10 == 0) (d ∷ text) (digits_onto k 10 false (n / 10) (d ∷ text)) also (digits_lack mark low k (n / 10) (d ∷ text) also)

pub number_lacks : (mark : ℕ) → mark < 40 → (n : ℕ) → Lacks mark (decimal n)
unfolding digits
number_lacks mark low n = digits_lack mark low 64 n [] tt

wide : (n : ℕ) → n < 2 ^ 32 → n < 2 ^ 64
wide n small = let large : 2 ^ 32 < 2 ^ 64 = lit< tt in omega arith

is_number : (n : ℕ) → n < 2 ^ 32 → IsNumber (decimal n) n
is_number n small = let one = HasOneSpelling-decimal n (wide n small) in (one.0, one.1, small)

-- ---- one line more

onto_lines : (line : List ℕ) (pieces : List (List ℕ)) → 0 < length pieces → without_empty_last (line ∷ pieces) ≡ line ∷ without_empty_last pieces
onto_lines line [] h = absurd (omega arith)
onto_lines line (piece ∷ pieces) h = refl

line_first : (line rest : List ℕ) → Lacks 10 line → lines_of (line ++ 10 ∷ rest) ≡ line ∷ lines_of rest
line_first line rest lacks =
    ap without_empty_last (slice_split_at (is_mark 10) line 10 rest (all_of 10 line lacks) refl)
    ∙ onto_lines line (slice_split (is_mark 10) rest) (omega (arith, length-slice_split (is_mark 10) rest))

-- ---- the lines

remark_words : (file : List ℕ) → (line : ℕ) → List ℕ
remark_words file line = codes "# " ++ (file ++ (codes ":" ++ decimal line))

source_words : Option (List ℕ × ℕ) → List (List ℕ)
source_words None = []
source_words (Some s) = remark_words s.0 s.1 ∷ []

wanting_words : (name : List ℕ) → (place : ℕ) → List ℕ
wanting_words name place = codes "# " ++ (name ++ (codes " " ++ (decimal place ++ codes " loop<=")))

bound_words : (name : List ℕ) → (place bound : ℕ) → List ℕ
bound_words name place bound = name ++ (codes " " ++ (decimal place ++ (codes " loop<=" ++ decimal bound)))

number_words : (name : List ℕ) → (place : ℕ) → Option ℕ → List ℕ
number_words name place None = wanting_words name place
number_words name place (Some n) = bound_words name place n

regroup_source : (a b c d rest : List ℕ) → (a ++ (b ++ (c ++ (d ++ 10 ∷ [])))) ++ rest ≡ (a ++ (b ++ (c ++ d))) ++ 10 ∷ rest
regroup_source a b c d rest = simp append_assoc

regroup_wanting : (a b c d e rest : List ℕ) → (a ++ (b ++ (c ++ (d ++ (e ++ 10 ∷ []))))) ++ rest ≡ (a ++ (b ++ (c ++ (d ++ e)))) ++ 10 ∷ rest
regroup_wanting a b c d e rest = simp append_assoc

source_first : (s : Option (List ℕ × ℕ)) (rest : List ℕ) → ((t : List ℕ × ℕ) → s ≡ Some t → ¬ Contains t.0 10) → lines_of (source_line s ++ rest) ≡ source_words s ++ lines_of rest
unfolding source_words remark_words
source_first None rest h = refl
source_first (Some s) rest h =
    let k = h s refl in
    let words = codes "# " ++ (s.0 ++ (codes ":" ++ decimal s.1)) in
    let lacks : Lacks 10 words = (refl, (refl, lacks_both 10 s.0 (codes ":" ++ decimal s.1) (without_lacks 10 s.0 k) (refl, number_lacks 10 (lit< tt) s.1))) in
    ap lines_of (regroup_source (codes "# ") s.0 (codes ":") (decimal s.1) rest) ∙ line_first words rest lacks

number_first : (name : List ℕ) (place : ℕ) (o : Option ℕ) (rest : List ℕ) → Lacks 10 name
    → lines_of (number_line name place o ++ rest) ≡ number_words name place o ∷ lines_of rest
unfolding number_words wanting_words bound_words
number_first name place None rest feed =
    let words = codes "# " ++ (name ++ (codes " " ++ (decimal place ++ codes " loop<="))) in
    let end : Lacks 10 (codes " loop<=") = (refl, (refl, (refl, (refl, (refl, (refl, (refl, tt))))))) in
    let lacks : Lacks 10 words =
    (refl, (refl, lacks_both 10 name (codes " " ++ (decimal place ++ codes " loop<=")) feed (refl, lacks_both 10 (decimal place) (codes " loop<=") (number_lacks 10 (lit< tt) place) end))) in
    ap lines_of (regroup_wanting (codes "# ") name (codes " ") (decimal place) (codes " loop<=") rest) ∙ line_first words rest lacks
number_first name place (Some n) rest feed =
    let words = name ++ (codes " " ++ (decimal place ++ (codes " loop<=" ++ decimal n))) in
    let end : Lacks 10 (codes " loop<=" ++ decimal n) = (refl, (refl, (refl, (refl, (refl, (refl, (refl, number_lacks 10 (lit< tt) n))))))) in
    let lacks : Lacks 10 words =
    lacks_both 10 name (codes " " ++ (decimal place ++ (codes " loop<=" ++ decimal n))) feed
    (refl, lacks_both 10 (decimal place) (codes " loop<=" ++ decimal n) (number_lacks 10 (lit< tt) place) end) in
    ap lines_of (regroup_wanting name (codes " ") (decimal place) (codes " loop<=") (decimal n) rest) ∙ line_first words rest lacks

-- ---- what they say

silent_front : (name rest : List ℕ) → 0 < length name → IsSilent (name ++ rest) → IsSilent name
silent_front [] rest h s = absurd (omega (arith, h))
silent_front (c ∷ name) rest h s = s

bound_says : (name : List ℕ) (place n : ℕ) → IsOnePart name → place < 2 ^ 32 → n < 2 ^ 32 → SaysLoopBound (bound_words name place n) (record { name = name; pc = place; bound = n } ∷ [])
unfolding bound_words
bound_says name place n part small low =
    let last = codes "loop<=" ++ decimal n in
    let last_lacks : Lacks 32 last = (refl, (refl, (refl, (refl, (refl, (refl, number_lacks 32 (lit< tt) n)))))) in
    let first = slice_split_at (is_mark 32) name 32 (decimal place ++ 32 ∷ last) (all_of 32 name part.space) refl in
    let second = slice_split_at (is_mark 32) (decimal place) 32 last (all_of 32 (decimal place) (number_lacks 32 (lit< tt) place)) refl in
    let third = slice_split_none (is_mark 32) last (all_of 32 last last_lacks) in (
      λ silent. part.said (silent_front name (32 ∷ (decimal place ++ 32 ∷ last)) part.long silent),
      record {
        pc_text = decimal place;
        bound_text = decimal n;
        parts = first ∙ ap (λ (ps : List (List ℕ)). name ∷ ps) (second ∙ ap (λ (ps : List (List ℕ)). decimal place ∷ ps) third);
        named = part.long;
        pc = is_number place small;
        bound = is_number n low;
      },
    )

number_given : (name : List ℕ) (place : ℕ) (o : Option ℕ) (lines : List (List ℕ)) (bs : List LoopBound) → IsOnePart name → place < 2 ^ 32 → ((n : ℕ) → o ≡ Some n → n < 2 ^ 32) → Give lines bs
    → Give (number_words name place o ∷ lines) (cons_option (option_map (λ n. record { name = name; pc = place; bound = n }) o) bs)
unfolding number_words wanting_words
number_given name place None lines bs part small h more = ([], bs, refl, refl, more)
number_given name place (Some n) lines bs part small h more = (record { name = name; pc = place; bound = n } ∷ [], bs, refl, bound_says name place n part small (h n refl), more)

source_given : (s : Option (List ℕ × ℕ)) (lines : List (List ℕ)) (bs : List LoopBound) → Give lines bs → Give (source_words s ++ lines) bs
unfolding source_words remark_words
source_given None lines bs more = more
source_given (Some s) lines bs more = ([], bs, refl, refl, more)

-- ---- a header

-- its place and its number have 32 bits, and its file's name holds no line feed
pub record IsReadable (notes : List Note) (name : List ℕ) (h : Header) : Type 0 where
  pub place : h.place < 2 ^ 32
  pub file : (s : List ℕ × ℕ) → h.source ≡ Some s → ¬ Contains s.0 10
  pub number : (n : ℕ) → number_written notes name h ≡ Some n → n < 2 ^ 32

-- its lines before others
pub header_given : (notes : List Note) (name : List ℕ) (h : Header) (rest : List ℕ) (bs : List LoopBound) → IsOnePart name → IsReadable notes name h → Give (lines_of rest) bs
    → Give (lines_of (header_lines notes name h ++ rest)) (cons_option (bound_written notes name h) bs)
header_given notes name h rest bs part is more =
    let o = number_written notes name h in
    let lines : lines_of (header_lines notes name h ++ rest) ≡ source_words h.source ++ (number_words name h.place o ∷ lines_of rest) =
    ap lines_of (append_assoc (source_line h.source) (number_line name h.place o) rest)
    ∙ (source_first h.source (number_line name h.place o ++ rest) is.file ∙ ap (λ (ls : List (List ℕ)). source_words h.source ++ ls) (number_first name h.place o rest part.feed)) in
    subst (λ (ls : List (List ℕ)). Give ls (cons_option (bound_written notes name h) bs)) (sym lines)
    (source_given h.source (number_words name h.place o ∷ lines_of rest) (cons_option (bound_written notes name h) bs) (number_given name h.place o (lines_of rest) bs part is.place is.number more))

pub headers_read : HeadersAreRead
headers_read notes name [] word range = refl
headers_read notes name (h ∷ hs) word range =
    let r = range.0 in
    header_given notes name h (flat_map (header_lines notes name) hs) (filter_map (bound_written notes name) hs) (word_is name word) (record { place = r.place; file = λ s is. (r.source s is).0; number = r.number })
    (headers_read notes name hs word range.1)

-- ---- remarks

-- a line that says nothing, before others
pub silent_given : (line rest : List ℕ) (bs : List LoopBound) → Lacks 10 line → IsSilent line → Give (lines_of rest) bs → Give (lines_of (line ++ 10 ∷ rest)) bs
silent_given line rest bs lacks silent more =
    let said : Give (line ∷ lines_of rest) bs = ([], bs, refl, silent, more) in
    subst (λ (ls : List (List ℕ)). Give ls bs) (sym (line_first line rest lacks)) said

spaced_lacks : (nodes : List ℕ) → Lacks 10 (flat_map spaced nodes)
spaced_lacks [] = tt
spaced_lacks (u ∷ nodes) = lacks_both 10 (spaced u) (flat_map spaced nodes) (refl, lacks_both 10 (decimal (u / 2)) _ (number_lacks 10 (lit< tt) (u / 2)) (suffix_lacks (u % 2 == 1))) (spaced_lacks nodes)
  where
    suffix_lacks : (b : Bool) → Lacks 10 (if b then codes "r" else [])
    suffix_lacks true = (refl, tt)
    suffix_lacks false = tt

pub irreducible_given : (name nodes rest : List ℕ) (bs : List LoopBound) → IsOnePart name → Give (lines_of rest) bs → Give (lines_of (irreducible_line name nodes ++ rest)) bs
irreducible_given name nodes rest bs part more =
    let words = codes "# " ++ (name ++ (codes " irreducible" ++ flat_map spaced nodes)) in
    let last : Lacks 10 (codes " irreducible" ++ flat_map spaced nodes) = lacks_both 10 (codes " irreducible") (flat_map spaced nodes) (search rules) (spaced_lacks nodes) in
    let lacks : Lacks 10 words = (refl, (refl, lacks_both 10 name (codes " irreducible" ++ flat_map spaced nodes) part.feed last)) in
    subst (λ (text : List ℕ). Give (lines_of text) bs) (sym (regroup_source (codes "# ") name (codes " irreducible") (flat_map spaced nodes) rest)) (silent_given words rest bs lacks refl more)
