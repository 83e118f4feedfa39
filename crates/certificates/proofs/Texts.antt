-- The text of a certificate: put together, and taken apart again.
use Rattle.std.proofs.Common.{◌≡◌, ◌≢◌, ℕ, List, [], ◌∷◌, ◌++◌, map, append_assoc, append-nil, refl, sym, ◌∙◌, ap, Bool, false, inl, inr, ℤ}
use Rattle.std.specs.Prelude.{flat_map, ◌==◌, codes}
use Rattle.std.specs.List.{AllByRecursion, slice_split}
use Rattle.std.proofs.lemmas.Bool.{cases_Bool, eqb-true}
use Rattle.std.proofs.lemmas.List.Elements.{All-from_recursion}
use Rattle.std.proofs.lemmas.List.Splits.{slice_split_at}
use Rattle.lists.proofs.FirstLemmas.{flat_map-append}
use Rattle.ascii_text.specs.Line.{lines_of as text_lines, without_empty_last}
use Rattle.section_check.specs.Section.{CertifiedLoop}
use Rattle.certificates.specs.declared.lines.line.CertLine.{CertLine}
use Rattle.certificates.specs.declared.lines.line.CertLine.TheVariants.{Version, Root, Start, Node, Loop, Bound}
use Rattle.certificates.specs.CertLines.{line_text, IsLineInRange}
use Rattle.certificates.proofs.LineLemmas.{line_no_feed}
use Rattle.certificates.specs.declared.cert.CertSection.{CertSection}
use Rattle.certificates.specs.Certificate.{Certificate, IsInGrammar}
use Rattle.certificates.specs.Texts.{loop_said, section_said, said, lines_of, text_of, AreLinesOf}
use Rattle.certificates.specs.Written.{fed, node_fed, loop_fed, section_fed}
use Rattle.certificates.proofs.Running.{said_in_range}

-- ---- put together

text_said : (es : List CertLine) → flat_map (λ line. line ++ codes "\n") (map line_text es) ≡ flat_map fed es
text_said [] = refl
text_said (e ∷ es) = ap (λ (t : List ℕ). fed e ++ t) (text_said es)

node_texts : (ns : List (ℕ × ℤ)) → flat_map fed (map (λ e. Node e.0 e.1) ns) ≡ flat_map node_fed ns
node_texts [] = refl
node_texts (n ∷ ns) = ap (λ (t : List ℕ). fed (Node n.0 n.1) ++ t) (node_texts ns)

loop_texts : (ls : List CertifiedLoop) → flat_map fed (map (λ l. Loop (loop_said l)) ls) ≡ flat_map loop_fed ls
loop_texts [] = refl
loop_texts (l ∷ ls) = ap (λ (t : List ℕ). fed (Loop (loop_said l)) ++ t) (loop_texts ls)

section_text : (s : CertSection) → flat_map fed (section_said s) ≡ section_fed s
section_text s =
    ap (λ (t : List ℕ). fed (Start s.kind s.method) ++ t)
    (flat_map-append fed (map (λ (e : ℕ × ℤ). Node e.0 e.1) s.section.nodes) (map (λ l. Loop (loop_said l)) s.section.loops)
    ∙ (ap (λ (t : List ℕ). t ++ flat_map fed (map (λ l. Loop (loop_said l)) s.section.loops)) (node_texts s.section.nodes)
    ∙ ap (λ (t : List ℕ). flat_map node_fed s.section.nodes ++ t) (loop_texts s.section.loops)))

section_texts : (ss : List CertSection) → flat_map fed (flat_map section_said ss) ≡ flat_map section_fed ss
section_texts [] = refl
section_texts (s ∷ ss) =
    flat_map-append fed (section_said s) (flat_map section_said ss)
    ∙ (ap (λ (t : List ℕ). t ++ flat_map fed (flat_map section_said ss)) (section_text s) ∙ ap (λ (t : List ℕ). section_fed s ++ t) (section_texts ss))

whole_text : (c : Certificate) → text_of c ≡ fed (Version c.version) ++ (fed (Root c.root) ++ (flat_map section_fed c.sections ++ fed (Bound c.bound)))
whole_text c =
    text_said (said c)
    ∙ ap (λ (t : List ℕ). fed (Version c.version) ++ (fed (Root c.root) ++ t))
    (flat_map-append fed (flat_map section_said c.sections) (Bound c.bound ∷ [])
    ∙ (ap (λ (t : List ℕ). t ++ (fed (Bound c.bound) ++ [])) (section_texts c.sections) ∙ ap (λ (t : List ℕ). flat_map section_fed c.sections ++ t) (append-nil (fed (Bound c.bound)))))

pub written : (c : Certificate) (none first second third last : List ℕ) → none ≡ [] → first ≡ none ++ fed (Version c.version) → second ≡ first ++ fed (Root c.root) → third ≡ second ++ flat_map section_fed c.sections → last ≡ third ++ fed (Bound c.bound) → last ≡ text_of c
written c none first second third last e f g h k =
    let v = fed (Version c.version) in
    let r = fed (Root c.root) in
    let s = flat_map section_fed c.sections in
    let b = fed (Bound c.bound) in
    k ∙ (ap (λ (t : List ℕ). t ++ b) (h ∙ ap (λ (t : List ℕ). t ++ s) (g ∙ ap (λ (t : List ℕ). t ++ r) (f ∙ ap (λ (t : List ℕ). t ++ v) e)))
    ∙ (append_assoc (v ++ r) s b ∙ (append_assoc v r (s ++ b) ∙ sym (whole_text c))))

-- ---- taken apart

is_feed : ℕ → Bool
is_feed byte = byte == 10

no_feed_test : (xs : List ℕ) → AllByRecursion (λ byte. byte ≢ 10) xs → AllByRecursion (λ byte. (byte == 10) ≡ false) xs
no_feed_test [] h = tt
no_feed_test (x ∷ xs) h = (by x h.0, no_feed_test xs h.1)
  where
    by : (x : ℕ) → x ≢ 10 → (x == 10) ≡ false
    by x other = elim (cases_Bool (x == 10)) [ inl e ↦ absurd (other (eqb-true x 10 e)) | inr e ↦ e ]

pieces : (es : List CertLine) → AllByRecursion IsLineInRange es → slice_split (λ byte. byte == 10) (flat_map fed es) ≡ map line_text es ++ [] ∷ []
pieces [] h = refl
pieces (e ∷ es) h =
    ap (slice_split (λ byte. byte == 10)) (append_assoc (line_text e) (10 ∷ []) (flat_map fed es))
    ∙ (slice_split_at (λ byte. byte == 10) (line_text e) 10 (flat_map fed es) (All-from_recursion (λ byte. (byte == 10) ≡ false) (line_text e) (no_feed_test (line_text e) (line_no_feed e h.0))) refl
    ∙ ap (λ (ls : List (List ℕ)). line_text e ∷ ls) (pieces es h.1))

without_last : (ls : List (List ℕ)) → without_empty_last (ls ++ [] ∷ []) ≡ ls
without_last [] = refl
without_last (l ∷ []) = refl
without_last (l ∷ m ∷ ls) = ap (λ (xs : List (List ℕ)). l ∷ xs) (without_last (m ∷ ls))

pub read_back : (c : Certificate) → IsInGrammar c → AreLinesOf (text_lines (text_of c)) c
read_back c h = record {
  grammar = h;
  text = ap text_lines (text_said (said c)) ∙ (ap without_empty_last (pieces (said c) (said_in_range c h)) ∙ without_last (lines_of c));
}
