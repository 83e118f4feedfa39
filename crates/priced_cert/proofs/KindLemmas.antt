-- What lines are by their first words.
use Rattle.std.proofs.Common.{◌≡◌, ◌≢◌, ℕ, Bool, true, false, List, [], ◌∷◌, ◌++◌, map, refl, sym, ◌∙◌, ap, subst, Option, ℤ}
use Rattle.std.specs.Prelude.{codes, All, if◌then◌else◌, ◌==◌, ◌%◌}
use Rattle.std.proofs.lemmas.List.Elements.{All-nil, All-cons, All-append}
use Rattle.section_check.specs.Section.{CertifiedLoop}
use Rattle.certificates.specs.declared.lines.line.SectionKind.{SectionKind}
use Rattle.certificates.specs.declared.lines.line.SectionKind.TheVariants.{Inside, Alone, Loops}
use Rattle.certificates.specs.declared.lines.line.CertLine.{CertLine}
use Rattle.certificates.specs.declared.lines.line.CertLine.TheVariants.{Root, Start, Node, Loop, Bound}
use Rattle.certificates.specs.Loop.{LoopSaid}
use Rattle.certificates.specs.CertLines.{line_text}
use Rattle.certificates.specs.Texts.{loop_said}
use Rattle.priced_cert.specs.declared.prices.Price.{Price}
use Rattle.priced_cert.specs.declared.prices.RootPrice.{RootPrice}
use Rattle.priced_cert.specs.declared.kind.LineKind.TheVariants.{OfPrice, OfSection, OfAlone, OfBound, Other}
use Rattle.priced_cert.specs.Prices.{price_line, root_price_line}
use Rattle.priced_cert.specs.Parting.{kind_of, begins}

pub price_kind : (x : Price) → kind_of (price_line x) ≡ OfPrice
price_kind x = refl

pub root_price_kind : (x : RootPrice) → kind_of (root_price_line x) ≡ OfPrice
root_price_kind x = refl

pub root_begins : (m : ℕ) → begins (codes "root ") (line_text (Root m)) ≡ true
root_begins m = refl

node_kind_by : (t : Bool) (rest : List ℕ) → kind_of ((if t then codes "raise " else codes "node ") ++ rest) ≡ Other
node_kind_by true rest = refl
node_kind_by false rest = refl

pub node_kind : (u : ℕ) (p : ℤ) → kind_of (line_text (Node u p)) ≡ Other
node_kind u p = node_kind_by (u % 2 == 1) _

loop_kind_by : (t : Bool) (rest : List ℕ) → kind_of ((if t then codes "region " else codes "loop ") ++ rest) ≡ Other
loop_kind_by true rest = refl
loop_kind_by false rest = refl

pub loop_kind : (l : LoopSaid) → kind_of (line_text (Loop l)) ≡ Other
loop_kind l = loop_kind_by l.region _

pub bound_kind : (b : Option ℕ) → kind_of (line_text (Bound b)) ≡ OfBound
bound_kind b = refl

pub inside_kind : (m : ℕ) → kind_of (line_text (Start Inside m)) ≡ OfSection
inside_kind m = refl

pub loops_kind : (m : ℕ) → kind_of (line_text (Start Loops m)) ≡ OfSection
loops_kind m = refl

pub alone_kind : (m : ℕ) → kind_of (line_text (Start Alone m)) ≡ OfAlone
alone_kind m = refl

-- the start of a section of another kind than alone
pub start_kind : (k : SectionKind) (m : ℕ) → k ≢ Alone → kind_of (line_text (Start k m)) ≡ OfSection
start_kind Inside m h = inside_kind m
start_kind Alone m h = absurd (h refl)
start_kind Loops m h = loops_kind m

-- ---- kinds are apart

pub start_is_section : (k : SectionKind) (m : ℕ) → kind_of (line_text (Start k m)) ≡ OfSection → k ≢ Alone
start_is_section k m e a = let same : OfAlone ≡ OfSection = sym (ap (λ (j : SectionKind). kind_of (line_text (Start j m))) a ∙ alone_kind m) ∙ e in absurd (cc)

pub section_is_not_bound : OfSection ≡ OfBound → ⊥
section_is_not_bound e = absurd (cc)

pub section_is_not_other : OfSection ≡ Other → ⊥
section_is_not_other e = absurd (cc)

pub bound_is_not_other : OfBound ≡ Other → ⊥
bound_is_not_other e = absurd (cc)

alone_is_not_bound : OfAlone ≡ OfBound → ⊥
alone_is_not_bound e = absurd (cc)

alone_is_not_other : OfAlone ≡ Other → ⊥
alone_is_not_other e = absurd (cc)

pub start_is_not_bound : (k : SectionKind) (m : ℕ) → kind_of (line_text (Start k m)) ≡ OfBound → ⊥
start_is_not_bound Inside m e = section_is_not_bound (sym (inside_kind m) ∙ e)
start_is_not_bound Alone m e = alone_is_not_bound (sym (alone_kind m) ∙ e)
start_is_not_bound Loops m e = section_is_not_bound (sym (loops_kind m) ∙ e)

pub start_is_not_other : (k : SectionKind) (m : ℕ) → kind_of (line_text (Start k m)) ≡ Other → ⊥
start_is_not_other Inside m e = section_is_not_other (sym (inside_kind m) ∙ e)
start_is_not_other Alone m e = alone_is_not_other (sym (alone_kind m) ∙ e)
start_is_not_other Loops m e = section_is_not_other (sym (loops_kind m) ∙ e)

-- ---- lines of sections

abbrev pub IsOther : List ℕ → Type 0
IsOther line = kind_of line ≡ Other

nodes_are_other : (ns : List (ℕ × ℤ)) → All IsOther (map line_text (map (λ e. Node e.0 e.1) ns))
nodes_are_other [] = All-nil IsOther
nodes_are_other (n ∷ ns) = All-cons IsOther (line_text (Node n.0 n.1)) _ (node_kind n.0 n.1) (nodes_are_other ns)

loops_are_other : (ls : List CertifiedLoop) → All IsOther (map line_text (map (λ l. Loop (loop_said l)) ls))
loops_are_other [] = All-nil IsOther
loops_are_other (l ∷ ls) = All-cons IsOther (line_text (Loop (loop_said l))) _ (loop_kind (loop_said l)) (loops_are_other ls)

-- those of nodes and loops
abbrev pub body_of : List (ℕ × ℤ) → List CertifiedLoop → List (List ℕ)
body_of nodes loops = map line_text (map (λ e. Node e.0 e.1) nodes ++ map (λ l. Loop (loop_said l)) loops)

pub map_both : (xs ys : List CertLine) → map line_text (xs ++ ys) ≡ map line_text xs ++ map line_text ys
map_both [] ys = refl
map_both (x ∷ xs) ys = ap (λ (zs : List (List ℕ)). line_text x ∷ zs) (map_both xs ys)

pub body_is_other : (nodes : List (ℕ × ℤ)) (loops : List CertifiedLoop) → All IsOther (body_of nodes loops)
body_is_other nodes loops =
    subst (All IsOther) (sym (map_both (map (λ e. Node e.0 e.1) nodes) (map (λ l. Loop (loop_said l)) loops)))
    (All-append IsOther _ _ (nodes_are_other nodes) (loops_are_other loops))
