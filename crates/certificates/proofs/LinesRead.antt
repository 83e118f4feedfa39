-- A text read line by line, up to its end or the first line that is refused.
use Rattle.std.proofs.Common.{◌≡◌, ◌≢◌, ℕ, zero, suc, ◌+◌, ◌<◌, ◌≤◌, List, [], ◌∷◌, ◌++◌, map, length, take, drop, append_assoc, append-nil, refl, sym, ◌∙◌, ap, subst, arith, Option, Some}
use Rattle.std.specs.List.{AllByRecursion}
use Rattle.std.proofs.lemmas.List.{length-append, take-append-drop, take-append-le}
use Rattle.lists.specs.Lists.{onto}
use Rattle.lists.proofs.Lemmas.{some_same}
use Rattle.certificates.specs.declared.lines.line.CertLine.{CertLine}
use Rattle.certificates.specs.CertLines.{line_text, IsLineInRange}
use Rattle.certificates.proofs.LineLemmas.{says_one_thing}
use Rattle.certificates.specs.Certificate.{Certificate, IsInGrammar}
use Rattle.certificates.specs.Texts.{said, lines_of, AreLinesOf, BeginOne, IsFirstRefusedLine}
use Rattle.certificates.specs.Drafts.{Draft, Blank, Whole, IsDraft, put, Adds, Refuses}
use Rattle.certificates.proofs.Running.{run, run_on, run_said, said_back, run_goes_on, rest_to, goal_of, run_rest, goal_in_grammar, said_in_range}

-- ---- lines and what they say

map-append : (xs ys : List CertLine) → map line_text (xs ++ ys) ≡ map line_text xs ++ map line_text ys
map-append [] ys = refl
map-append (x ∷ xs) ys = ap (λ (zs : List (List ℕ)). line_text x ∷ zs) (map-append xs ys)

-- lines that begin those of a certificate say what it begins with
begin_said : (es fs : List CertLine) (rest : List (List ℕ)) → AllByRecursion IsLineInRange es → AllByRecursion IsLineInRange fs → map line_text es ++ rest ≡ map line_text fs → (gs : List CertLine) × (fs ≡ es ++ gs) × (rest ≡ map line_text gs)
begin_said [] fs rest h k e = (fs, refl, e)
begin_said (x ∷ es) [] rest h k e = absurd (cc)
begin_said (x ∷ es) (y ∷ fs) rest h k e =
    let first : line_text x ≡ line_text y = cc in
    let later : map line_text es ++ rest ≡ map line_text fs = cc in
    let same : x ≡ y = says_one_thing x y h.0 k.0 first in
    let r = begin_said es fs rest h.1 k.1 later in
    let tail : fs ≡ es ++ r.0 = r.1 in
    (r.0, cc, r.2)

range_behind : (es gs : List CertLine) → AllByRecursion IsLineInRange (es ++ gs) → AllByRecursion IsLineInRange gs
range_behind [] gs h = h
range_behind (e ∷ es) gs h = range_behind es gs h.1

-- ---- the lines that are read

pub record IsReadTo (lines : List (List ℕ)) (number : ℕ) (left : List (List ℕ)) (draft : Draft) : Type 0 where
  pub entries : List CertLine
  pub range : AllByRecursion IsLineInRange entries
  pub whole : lines ≡ map line_text entries ++ left
  pub count : number ≡ length (map line_text entries)
  pub given : run Blank entries ≡ Some draft
  pub draft_is : IsDraft draft

pub none_read : (lines left : List (List ℕ)) → left ≡ lines → IsReadTo lines 0 left Blank
none_read lines left e = record { entries = []; range = tt; whole = sym e; count = refl; given = refl; draft_is = tt }

range_push : (es : List CertLine) (e : CertLine) → AllByRecursion IsLineInRange es → IsLineInRange e → AllByRecursion IsLineInRange (es ++ e ∷ [])
range_push [] e h k = (k, tt)
range_push (x ∷ es) e h k = (h.0, range_push es e h.1 k)

pub one_more : (lines : List (List ℕ)) (number : ℕ) (left rest : List (List ℕ)) (line : List ℕ) (d t : Draft) → IsReadTo lines number left d → left ≡ line ∷ rest → Adds d line t → IsReadTo lines (number + 1) rest t
one_more lines number left rest line d t r e a =
    let pushed = map-append r.entries (a.said ∷ []) in
    record {
      entries = r.entries ++ a.said ∷ [];
      range = range_push r.entries a.said r.range a.range;
      whole = r.whole ∙ (ap (λ (xs : List (List ℕ)). map line_text r.entries ++ xs) (e ∙ ap (λ (l : List ℕ). l ∷ rest) a.text)
          ∙ (sym (append_assoc (map line_text r.entries) (line_text a.said ∷ []) rest) ∙ ap (λ (xs : List (List ℕ)). xs ++ rest) (sym pushed)));
      count = omega (arith, r.count, ap length pushed, length-append (map line_text r.entries) (line_text a.said ∷ []));
      given = run_on Blank d r.entries (a.said ∷ []) r.given ∙ last_put d a.said t a.put;
      draft_is = a.goes_on;
    }
  where
    last_put : (d : Draft) (e : CertLine) (t : Draft) → put d e ≡ Some t → run d (e ∷ []) ≡ Some t
    last_put d e t h = ap (λ (o : Option Draft). onto o (λ u. Some u)) h

-- ---- how a certificate goes on

-- the lines that are read begin a certificate
read_begin : (lines : List (List ℕ)) (number : ℕ) (left : List (List ℕ)) (d : Draft) (r : IsReadTo lines number left d) → BeginOne (map line_text r.entries)
read_begin lines number left d r = record {
  further = map line_text (rest_to d);
  certificate = goal_of d;
  whole = record {
    grammar = goal_in_grammar d r.draft_is;
    text = sym (map-append r.entries (rest_to d)) ∙ ap (map line_text) (said_back (goal_of d) (r.entries ++ rest_to d) (run_on Blank d r.entries (rest_to d) r.given ∙ run_rest d));
  };
}

begin_prefix : (ls : List (List ℕ)) (k : ℕ) → BeginOne ls → BeginOne (take k ls)
begin_prefix ls k b = record {
  further = drop k ls ++ b.further;
  certificate = b.certificate;
  whole = record {
    grammar = b.whole.grammar;
    text = sym (append_assoc (take k ls) (drop k ls) b.further) ∙ (ap (λ (xs : List (List ℕ)). xs ++ b.further) (take-append-drop k ls) ∙ b.whole.text);
  };
}

whole_begins : (ls : List (List ℕ)) (c : Certificate) → AreLinesOf ls c → BeginOne ls
whole_begins ls c a = record { further = []; certificate = c; whole = record { grammar = a.grammar; text = append-nil ls ∙ a.text } }

before_read : (lines : List (List ℕ)) (number : ℕ) (left : List (List ℕ)) (d : Draft) → IsReadTo lines number left d → (k : ℕ) → k < number + 1 → BeginOne (take k lines)
before_read lines number left d r k lt =
    let count = r.count in
    let few : k ≤ length (map line_text r.entries) = omega arith in
    let same : take k lines ≡ take k (map line_text r.entries) = ap (take k) r.whole ∙ take-append-le k (map line_text r.entries) left few in
    subst BeginOne (sym same) (begin_prefix (map line_text r.entries) k (read_begin lines number left d r))

-- ---- a line that is refused

none_with : (lines : List (List ℕ)) (number : ℕ) (left rest : List (List ℕ)) (line : List ℕ) (d : Draft) (r : IsReadTo lines number left d) → Refuses d line → ¬ BeginOne (map line_text r.entries ++ line ∷ [])
none_with lines number left rest line d r refuses b =
    let c : Certificate = b.certificate in
    let grammar : IsInGrammar c = b.whole.grammar in
    let text : map line_text r.entries ++ (line ∷ b.further) ≡ map line_text (said c) = sym (append_assoc (map line_text r.entries) (line ∷ []) b.further) ∙ b.whole.text in
    let g = begin_said r.entries (said c) (line ∷ b.further) r.range (said_in_range c grammar) text in
    next c grammar b.further g.0 g.1 g.2
  where
    next : (c : Certificate) → IsInGrammar c → (further : List (List ℕ)) (gs : List CertLine) → said c ≡ r.entries ++ gs → line ∷ further ≡ map line_text gs → ⊥
    next c grammar further [] same text = absurd (cc)
    next c grammar further (x ∷ xs) same text =
        let line_is : line ≡ line_text x = cc in
        let leads : run d (x ∷ xs) ≡ Some (Whole c) = sym (run_on Blank d r.entries (x ∷ xs) r.given) ∙ (ap (run Blank) (sym same) ∙ run_said c) in
        let range = range_behind r.entries (x ∷ xs) (subst (AllByRecursion IsLineInRange) same (said_in_range c grammar)) in
        refuses x range.0 line_is (run_goes_on d x xs c leads grammar)

take_one : (xs : List (List ℕ)) (y : List ℕ) (ys : List (List ℕ)) (n : ℕ) → n ≡ length xs → take (suc n) (xs ++ y ∷ ys) ≡ xs ++ y ∷ []
take_one [] y ys zero e = refl
take_one [] y ys (suc n) e = absurd (omega arith)
take_one (x ∷ xs) y ys zero e = absurd (omega arith)
take_one (x ∷ xs) y ys (suc n) e = ap (λ (zs : List (List ℕ)). x ∷ zs) (take_one xs y ys n (omega arith))

pub refused : (lines : List (List ℕ)) (number : ℕ) (left rest : List (List ℕ)) (line : List ℕ) (d : Draft) → IsReadTo lines number left d → left ≡ line ∷ rest → Refuses d line → IsFirstRefusedLine lines (number + 1)
refused lines number left rest line d r e refuses =
    let count = r.count in
    let whole : lines ≡ map line_text r.entries ++ line ∷ rest = r.whole ∙ ap (λ (xs : List (List ℕ)). map line_text r.entries ++ xs) e in
    let next : number + 1 ≡ suc number = omega arith in
    let taken : take (number + 1) lines ≡ map line_text r.entries ++ line ∷ [] = ap (λ (n : ℕ). take n lines) next ∙ (ap (take (suc number)) whole ∙ take_one (map line_text r.entries) line rest number count) in
    let long = ap length whole in
    let parts = length-append (map line_text r.entries) (line ∷ rest) in
    let fails : ¬ BeginOne (take (number + 1) lines) = λ b. none_with lines number left rest line d r refuses (subst BeginOne taken b) in
    record {
      none = λ c a. fails (begin_prefix lines (number + 1) (whole_begins lines c a));
      counted = (omega arith, omega arith);
      before = before_read lines number left d r;
      at = λ le. fails;
    }

-- ---- the end of the text

same_draft : (es : List CertLine) (c : Certificate) (gs : List CertLine) (d : Draft) → run Blank es ≡ Some d → said c ≡ es ++ gs → [] ≡ map line_text gs → d ≡ Whole c
same_draft es c [] d given same none = some_same d (Whole c) (sym given ∙ (ap (run Blank) (sym (append-nil es)) ∙ (ap (run Blank) (sym same) ∙ run_said c)))
same_draft es c (x ∷ xs) d given same none = absurd (cc)

pub ended : (lines : List (List ℕ)) (number : ℕ) (left : List (List ℕ)) (d : Draft) → IsReadTo lines number left d → left ≡ [] → ((c : Certificate) → d ≢ Whole c) → IsFirstRefusedLine lines (number + 1)
ended lines number left d r e none =
    let count = r.count in
    let whole : lines ≡ map line_text r.entries ++ [] = r.whole ∙ ap (λ (xs : List (List ℕ)). map line_text r.entries ++ xs) e in
    let long = ap length (whole ∙ append-nil (map line_text r.entries)) in
    record {
      none = λ c a.
          let g = begin_said r.entries (said c) [] r.range (said_in_range c a.grammar) (sym whole ∙ a.text) in
          none c (same_draft r.entries c g.0 d r.given g.1 g.2);
      counted = (omega arith, omega arith);
      before = before_read lines number left d r;
      at = λ le. absurd (omega arith);
    }

pub all_read : (lines : List (List ℕ)) (number : ℕ) (left : List (List ℕ)) (c : Certificate) → IsReadTo lines number left (Whole c) → left ≡ [] → AreLinesOf lines c
all_read lines number left c r e = record {
  grammar = r.draft_is;
  text = r.whole ∙ (ap (λ (xs : List (List ℕ)). map line_text r.entries ++ xs) e ∙ (append-nil (map line_text r.entries) ∙ ap (map line_text) (said_back c r.entries r.given)));
}

-- ---- a text is of one certificate

pub one_certificate : (lines : List (List ℕ)) (c d : Certificate) → AreLinesOf lines c → AreLinesOf lines d → c ≡ d
one_certificate lines c d a b =
    let g = begin_said (said c) (said d) [] (said_in_range c a.grammar) (said_in_range d b.grammar) (append-nil (lines_of c) ∙ (sym a.text ∙ b.text)) in
    let same : Whole c ≡ Whole d = same_draft (said c) d g.0 (Whole c) (run_said c) g.1 g.2 in
    cc
