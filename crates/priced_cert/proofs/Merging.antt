-- Lines that were taken, put together again: where those without prices are those of a certificate, all are those of a certificate of version 3.
use Rattle.std.proofs.Common.{◌≡◌, ◌≢◌, ℕ, List, [], ◌∷◌, ◌++◌, length, map, append_assoc, append-nil, refl, sym, ◌∙◌, ap, ap₂, subst, arith, Option, Some, None, inl, inr}
use Rattle.std.specs.Prelude.{All, codes, flat_map}
use Rattle.std.specs.Option.{option_to_list}
use Rattle.std.specs.Fmt.{digits}
use Rattle.std.proofs.lemmas.List.{map-append}
use Rattle.std.proofs.lemmas.List.Elements.{All-nil, All-cons, All-head, All-tail, All-push}
use Rattle.lists.proofs.FirstLemmas.{flat_map-append}
use Rattle.certificates.specs.declared.lines.line.SectionKind.TheVariants.{Alone}
use Rattle.certificates.specs.declared.lines.line.CertLine.TheVariants.{Version, Root, Start, Node, Loop, Bound}
use Rattle.certificates.specs.declared.cert.CertSection.{CertSection}
use Rattle.certificates.specs.CertLines.{line_text, IsVersion}
use Rattle.certificates.specs.Certificate.{Certificate}
use Rattle.certificates.specs.Texts.{loop_said, section_said, lines_of, AreLinesOf}
use Rattle.certificates.proofs.WordLemmas.{apart}
use Rattle.priced_cert.specs.declared.prices.Price.{Price}
use Rattle.priced_cert.specs.declared.prices.RootPrice.{RootPrice}
use Rattle.priced_cert.specs.declared.kind.LineKind.{LineKind}
use Rattle.priced_cert.specs.declared.kind.LineKind.TheVariants.{OfPrice, OfSection, OfAlone, OfBound, Other}
use Rattle.priced_cert.specs.Prices.{ArePrices, AreRootPrices, price_line, root_price_line}
use Rattle.priced_cert.specs.Texts.{version_line, section_lines, ArePricedLinesOf}
use Rattle.priced_cert.specs.Parting.{Block, Parted, Blank, Versioned, Begun, Ended, kind_of, plain_of_block, plain_of, empty_block, TakesInside, Takes, TakeAll}
use Rattle.priced_cert.specs.Shown.{prices_of, root_prices_of, closed_prices}
use Rattle.priced_cert.proofs.KindLemmas.{IsOther, body_of, body_is_other, map_both, bound_kind, start_is_section, start_is_not_bound, start_is_not_other, section_is_not_bound, section_is_not_other, bound_is_not_other}
use Rattle.priced_cert.proofs.Orders.{no_prices, no_root_prices, more_prices, more_root_prices}

-- ---- what holds of lines that were taken

pub record IsBlock (b : Block) : Type 0 where
  pub start : kind_of b.start ≡ OfSection
  pub body : All IsOther b.body
  pub prices : ArePrices b.prices

-- a section before the last there is only with the last
abbrev pub IsLast : List Block → Option Block → Type 0
IsLast cl None = cl ≡ []
IsLast cl (Some b) = Unit {0}

abbrev pub IsParted : Parted → Type 0
IsParted Blank = Unit {0}
IsParted Versioned = Unit {0}
IsParted (Begun r xs cl cu) = AreRootPrices xs × All IsBlock (cl ++ option_to_list cu) × IsLast cl cu
IsParted (Ended r xs bs bound) = AreRootPrices xs × All IsBlock bs × (kind_of bound ≡ OfBound)

last_block : (cl : List Block) (b : Block) → All IsBlock (cl ++ b ∷ []) → IsBlock b
last_block [] b h = All-head IsBlock b [] h
last_block (x ∷ cl) b h = last_block cl b (All-tail IsBlock x (cl ++ b ∷ []) h)

first_blocks : (cl : List Block) (b : Block) → All IsBlock (cl ++ b ∷ []) → All IsBlock cl
first_blocks [] b h = All-nil IsBlock
first_blocks (x ∷ cl) b h = All-cons IsBlock x cl (All-head IsBlock x (cl ++ b ∷ []) h) (first_blocks cl b (All-tail IsBlock x (cl ++ b ∷ []) h))

other_block : (cl : List Block) (b c : Block) → All IsBlock (cl ++ b ∷ []) → IsBlock c → All IsBlock (cl ++ c ∷ [])
other_block cl b c h k = All-push IsBlock cl c (first_blocks cl b h) k

parted_inside : (k : LineKind) (r : List ℕ) (xs : List RootPrice) (cl : List Block) (cu : Option Block) (line : List ℕ) (t : Parted)
    → kind_of line ≡ k → IsParted (Begun r xs cl cu) → TakesInside k r xs cl cu line t → IsParted t
parted_inside OfPrice r xs cl None line t is h (x, text, behind, e) = subst IsParted (sym e) (more_root_prices xs x h.0 behind, h.1, h.2)
parted_inside OfPrice r xs cl (Some b) line t is h (x, text, behind, e) =
    let block = last_block cl b h.1 in
    subst IsParted (sym e)
    (h.0, other_block cl b (record b { prices = b.prices ++ x ∷ [] }) h.1 (record { start = block.start; body = block.body; prices = more_prices b.prices x block.prices behind }), tt)
parted_inside OfAlone r xs cl cu line t is h a = absurd a
parted_inside OfSection r xs cl cu line t is h e =
    subst IsParted (sym e) (h.0, All-push IsBlock (cl ++ option_to_list cu) (empty_block line) h.1 (record { start = is; body = All-nil IsOther; prices = no_prices }), tt)
parted_inside OfBound r xs cl cu line t is h e = subst IsParted (sym e) (h.0, h.1, is)
parted_inside Other r xs cl None line t is h a = absurd a
parted_inside Other r xs cl (Some b) line t is h (none, e) =
    let block = last_block cl b h.1 in
    subst IsParted (sym e)
    (h.0, other_block cl b (record b { body = b.body ++ line ∷ [] }) h.1 (record { start = block.start; body = All-push IsOther b.body line block.body is; prices = block.prices }), tt)

pub parted_next : (w : Parted) (line : List ℕ) (t : Parted) → IsParted w → Takes w line t → IsParted t
parted_next Blank line t h (is, e) = subst IsParted (sym e) tt
parted_next Versioned line t h (is, e) = subst IsParted (sym e) (no_root_prices, All-nil IsBlock, refl)
parted_next (Begun r xs cl cu) line t h a = parted_inside (kind_of line) r xs cl cu line t refl h a
parted_next (Ended r xs bs bound) line t h a = absurd a

-- ---- the lines again

abbrev pub lines_of_block : Block → List (List ℕ)
lines_of_block b = b.start ∷ (b.body ++ map price_line b.prices)

abbrev pub lines_in : Parted → List (List ℕ)
lines_in Blank = []
lines_in Versioned = version_line ∷ []
lines_in (Begun r xs cl cu) = version_line ∷ r ∷ (map root_price_line xs ++ flat_map lines_of_block (cl ++ option_to_list cu))
lines_in (Ended r xs bs bound) = version_line ∷ r ∷ (map root_price_line xs ++ (flat_map lines_of_block bs ++ bound ∷ []))

-- one line more behind those of the blocks
behind_blocks : (r : List ℕ) (xs : List RootPrice) (more rest : List (List ℕ)) (line : List ℕ) → more ≡ rest ++ line ∷ []
    → version_line ∷ r ∷ (map root_price_line xs ++ more) ≡ (version_line ∷ r ∷ (map root_price_line xs ++ rest)) ++ line ∷ []
behind_blocks r xs more rest line e =
    ap (λ (ls : List (List ℕ)). version_line ∷ r ∷ ls) (ap (λ (ls : List (List ℕ)). map root_price_line xs ++ ls) e ∙ sym (append_assoc (map root_price_line xs) rest (line ∷ [])))

-- the last block with one line more
last_with : (cl : List Block) (b c : Block) (line : List ℕ) → lines_of_block c ≡ lines_of_block b ++ line ∷ []
    → flat_map lines_of_block (cl ++ c ∷ []) ≡ flat_map lines_of_block (cl ++ b ∷ []) ++ line ∷ []
last_with cl b c line e =
    flat_map-append lines_of_block cl (c ∷ [])
    ∙ (ap (λ (ls : List (List ℕ)). flat_map lines_of_block cl ++ ls) (append-nil (lines_of_block c) ∙ (e ∙ ap (λ (ls : List (List ℕ)). ls ++ line ∷ []) (sym (append-nil (lines_of_block b)))))
    ∙ (sym (append_assoc (flat_map lines_of_block cl) (flat_map lines_of_block (b ∷ [])) (line ∷ []))
    ∙ ap (λ (ls : List (List ℕ)). ls ++ line ∷ []) (sym (flat_map-append lines_of_block cl (b ∷ [])))))

lines_inside : (k : LineKind) (r : List ℕ) (xs : List RootPrice) (cl : List Block) (cu : Option Block) (line : List ℕ) (t : Parted)
    → IsLast cl cu → TakesInside k r xs cl cu line t → lines_in t ≡ lines_in (Begun r xs cl cu) ++ line ∷ []
lines_inside OfPrice r xs cl None line t last (x, text, behind, e) =
    ap lines_in e
    ∙ (ap (λ (bs : List Block). version_line ∷ r ∷ (map root_price_line (xs ++ x ∷ []) ++ flat_map lines_of_block (bs ++ []))) last
    ∙ (ap (λ (ls : List (List ℕ)). version_line ∷ r ∷ ls) (append-nil (map root_price_line (xs ++ x ∷ [])) ∙ (map-append root_price_line xs (x ∷ []) ∙ ap (λ (l : List ℕ). map root_price_line xs ++ l ∷ []) (sym text)))
    ∙ (ap (λ (ls : List (List ℕ)). version_line ∷ r ∷ (ls ++ line ∷ [])) (sym (append-nil (map root_price_line xs)))
    ∙ ap (λ (bs : List Block). version_line ∷ r ∷ ((map root_price_line xs ++ flat_map lines_of_block (bs ++ [])) ++ line ∷ [])) (sym last))))
lines_inside OfPrice r xs cl (Some b) line t last (x, text, behind, e) =
    ap lines_in e
    ∙ behind_blocks r xs _ _ line
    (last_with cl b (record b { prices = b.prices ++ x ∷ [] }) line
    (ap (λ (ls : List (List ℕ)). b.start ∷ (b.body ++ ls)) (map-append price_line b.prices (x ∷ []) ∙ ap (λ (l : List ℕ). map price_line b.prices ++ l ∷ []) (sym text))
    ∙ ap (λ (ls : List (List ℕ)). b.start ∷ ls) (sym (append_assoc b.body (map price_line b.prices) (line ∷ [])))))
lines_inside OfAlone r xs cl cu line t last a = absurd a
lines_inside OfSection r xs cl cu line t last e = ap lines_in e ∙ behind_blocks r xs _ _ line (flat_map-append lines_of_block (cl ++ option_to_list cu) (empty_block line ∷ []))
lines_inside OfBound r xs cl cu line t last e = ap lines_in e ∙ behind_blocks r xs _ _ line refl
lines_inside Other r xs cl None line t last a = absurd a
lines_inside Other r xs cl (Some b) line t last (none, e) =
    ap lines_in e
    ∙ behind_blocks r xs _ _ line
    (last_with cl b (record b { body = b.body ++ line ∷ [] }) line
    (ap (λ (xs : List Price). b.start ∷ ((b.body ++ line ∷ []) ++ map price_line xs)) none
    ∙ (ap (λ (ls : List (List ℕ)). b.start ∷ ls) (append-nil (b.body ++ line ∷ []) ∙ ap (λ (ls : List (List ℕ)). ls ++ line ∷ []) (sym (append-nil b.body)))
    ∙ ap (λ (xs : List Price). b.start ∷ ((b.body ++ map price_line xs) ++ line ∷ [])) (sym none))))

lines_next : (w : Parted) (line : List ℕ) (t : Parted) → IsParted w → Takes w line t → lines_in t ≡ lines_in w ++ line ∷ []
lines_next Blank line t h (is, e) = ap lines_in e ∙ ap (λ (l : List ℕ). l ∷ []) (sym is)
lines_next Versioned line t h (is, e) = ap lines_in e
lines_next (Begun r xs cl cu) line t h a = lines_inside (kind_of line) r xs cl cu line t h.2 a
lines_next (Ended r xs bs bound) line t h a = absurd a

pub parted_all : (w t : Parted) (lines : List (List ℕ)) → IsParted w → TakeAll w lines t → IsParted t × (lines_in t ≡ lines_in w ++ lines)
parted_all w t [] h e = (subst IsParted (sym e) h, ap lines_in e ∙ sym (append-nil (lines_in w)))
parted_all w t (x ∷ xs) h (u, one, rest) =
    let r = parted_all u t xs (parted_next w x u h one) rest in
    (r.0, r.1 ∙ (ap (λ (ls : List (List ℕ)). ls ++ xs) (lines_next w x u h one) ∙ append_assoc (lines_in w) (x ∷ []) xs))

-- ---- blocks are sections

-- where other lines end is one
abbrev EndsOthers : List (List ℕ) → Type 0
EndsOthers [] = Unit {0}
EndsOthers (line ∷ lines) = ¬ IsOther line

same_body : (a b c d : List (List ℕ)) → All IsOther a → All IsOther b → EndsOthers c → EndsOthers d → a ++ c ≡ b ++ d → (a ≡ b) × (c ≡ d)
same_body [] [] c d h k p q e = (refl, e)
same_body [] (y ∷ b) [] d h k p q e = absurd (cc)
same_body [] (y ∷ b) (z ∷ c) d h k p q e = let same : z ≡ y = cc in absurd (p (subst IsOther (sym same) (All-head IsOther y b k)))
same_body (x ∷ a) [] c [] h k p q e = absurd (cc)
same_body (x ∷ a) [] c (z ∷ d) h k p q e = let same : x ≡ z = cc in absurd (q (subst IsOther same (All-head IsOther x a h)))
same_body (x ∷ a) (y ∷ b) c d h k p q e =
    let first : x ≡ y = cc in
    let later : a ++ c ≡ b ++ d = cc in
    let rest = same_body a b c d (All-tail IsOther x a h) (All-tail IsOther y b k) p q later in
    (ap₂ (λ (l : List ℕ) ls. l ∷ ls) first rest.0, rest.1)

pub record AreSections (bs : List Block) (bound : List ℕ) (behind : List (List ℕ)) (ss : List CertSection) (b : Option ℕ) : Type 0 where
  pub none : behind ≡ []
  pub lines : flat_map lines_of_block bs ≡ section_lines ss (prices_of bs)
  pub bound_is : bound ≡ line_text (Bound b)
  pub each : length (prices_of bs) ≡ length ss
  pub kinds : All (λ s. s.kind ≢ Alone) ss
  pub prices : All ArePrices (prices_of bs)

-- what is said of sections, line by line
abbrev pub texts_of : List CertSection → Option ℕ → List (List ℕ)
texts_of ss b = map line_text (flat_map section_said ss ++ Bound b ∷ [])

ends_blocks : (bs : List Block) (bound : List ℕ) (behind : List (List ℕ)) → All IsBlock bs → kind_of bound ≡ OfBound
    → EndsOthers (flat_map plain_of_block bs ++ bound ∷ behind)
ends_blocks [] bound behind h k = λ other. bound_is_not_other (sym k ∙ other)
ends_blocks (x ∷ bs) bound behind h k = λ other. section_is_not_other (sym (All-head IsBlock x bs h).start ∙ other)

ends_sections : (ss : List CertSection) (b : Option ℕ) → EndsOthers (texts_of ss b)
ends_sections [] b = λ other. bound_is_not_other (sym (bound_kind b) ∙ other)
ends_sections (s ∷ ss) b = λ other. start_is_not_other s.kind s.method other

-- the lines of a section and those behind it
pub section_texts : (s : CertSection) (ss : List CertSection) (b : Option ℕ)
    → texts_of (s ∷ ss) b ≡ line_text (Start s.kind s.method) ∷ (body_of s.section.nodes s.section.loops ++ texts_of ss b)
section_texts s ss b =
    let body = map (λ e. Node e.0 e.1) s.section.nodes ++ map (λ l. Loop (loop_said l)) s.section.loops in
    ap (λ (ls : List (List ℕ)). line_text (Start s.kind s.method) ∷ ls) (ap (map line_text) (append_assoc body (flat_map section_said ss) (Bound b ∷ [])) ∙ map_both body (flat_map section_said ss ++ Bound b ∷ []))

pub sections_are : (bs : List Block) (bound : List ℕ) (behind : List (List ℕ)) (ss : List CertSection) (b : Option ℕ) → All IsBlock bs → kind_of bound ≡ OfBound
    → flat_map plain_of_block bs ++ bound ∷ behind ≡ texts_of ss b → AreSections bs bound behind ss b
sections_are [] bound behind [] b h k e =
    record { none = cc; lines = refl; bound_is = cc; each = refl; kinds = All-nil (λ (s : CertSection). s.kind ≢ Alone); prices = All-nil ArePrices }
sections_are [] bound behind (s ∷ ss) b h k e =
    let first : bound ≡ line_text (Start s.kind s.method) = cc in
    absurd (start_is_not_bound s.kind s.method (ap kind_of (sym first) ∙ k))
sections_are (x ∷ bs) bound behind [] b h k e =
    let first : x.start ≡ line_text (Bound b) = cc in
    absurd (section_is_not_bound (sym (All-head IsBlock x bs h).start ∙ (ap kind_of first ∙ bound_kind b)))
sections_are (x ∷ bs) bound behind (s ∷ ss) b h k e =
    let block = All-head IsBlock x bs h in
    let body = body_of s.section.nodes s.section.loops in
    let whole : x.start ∷ (x.body ++ (flat_map plain_of_block bs ++ bound ∷ behind)) ≡ line_text (Start s.kind s.method) ∷ (body ++ texts_of ss b) =
    ap (λ (ls : List (List ℕ)). x.start ∷ ls) (sym (append_assoc x.body (flat_map plain_of_block bs) (bound ∷ behind))) ∙ (e ∙ section_texts s ss b) in
    let start : x.start ≡ line_text (Start s.kind s.method) = cc in
    let later : x.body ++ (flat_map plain_of_block bs ++ bound ∷ behind) ≡ body ++ texts_of ss b = cc in
    let parts = same_body x.body body _ _ block.body (body_is_other s.section.nodes s.section.loops) (ends_blocks bs bound behind (All-tail IsBlock x bs h) k) (ends_sections ss b) later in
    let rest = sections_are bs bound behind ss b (All-tail IsBlock x bs h) k parts.1 in
    record {
      none = rest.none;
      lines = ap₂ (λ (l : List ℕ) ls. l ∷ ls) start (append_assoc x.body (map price_line x.prices) (flat_map lines_of_block bs)
          ∙ ap₂ (λ (xs ys : List (List ℕ)). xs ++ (map price_line x.prices ++ ys)) parts.0 rest.lines);
      bound_is = rest.bound_is;
      each = omega (arith, rest.each);
      kinds = All-cons (λ (z : CertSection). z.kind ≢ Alone) s ss (start_is_section s.kind s.method (ap kind_of (sym start) ∙ block.start)) rest.kinds;
      prices = All-cons ArePrices x.prices (prices_of bs) block.prices rest.prices;
    }

-- lines of blocks alone aren't all lines of a certificate
ends_plain : (bs : List Block) → All IsBlock bs → EndsOthers (flat_map plain_of_block bs)
ends_plain [] h = tt
ends_plain (x ∷ bs) h = λ other. section_is_not_other (sym (All-head IsBlock x bs h).start ∙ other)

pub no_bound : (bs : List Block) (ss : List CertSection) (b : Option ℕ) → All IsBlock bs → flat_map plain_of_block bs ≡ texts_of ss b → ⊥
no_bound [] [] b h e = absurd (cc)
no_bound [] (s ∷ ss) b h e = absurd (cc)
no_bound (x ∷ bs) [] b h e =
    let first : x.start ≡ line_text (Bound b) = cc in
    section_is_not_bound (sym (All-head IsBlock x bs h).start ∙ (ap kind_of first ∙ bound_kind b))
no_bound (x ∷ bs) (s ∷ ss) b h e =
    let body = body_of s.section.nodes s.section.loops in
    let whole : x.start ∷ (x.body ++ flat_map plain_of_block bs) ≡ line_text (Start s.kind s.method) ∷ (body ++ texts_of ss b) = e ∙ section_texts s ss b in
    let later : x.body ++ flat_map plain_of_block bs ≡ body ++ texts_of ss b = cc in
    let parts = same_body x.body body _ _ (All-head IsBlock x bs h).body (body_is_other s.section.nodes s.section.loops) (ends_plain bs (All-tail IsBlock x bs h)) (ends_sections ss b) later in
    no_bound bs ss b (All-tail IsBlock x bs h) parts.1

-- ---- the certificate

version_is : (v : ℕ) → IsVersion v → codes "JOPC 2" ≡ line_text (Version v) → v ≡ 2
unfolding digits
version_is v (inl one) text = absurd (apart (codes "JOPC 2") (line_text (Version 1)) refl (text ∙ ap (λ (n : ℕ). line_text (Version n)) one))
version_is v (inr two) text = two

by_stage : (w : Parted) (c : Certificate) (lines : List (List ℕ)) → IsParted w → lines_in w ≡ lines → AreLinesOf (plain_of w) c
    → ArePricedLinesOf lines (record { plain = c; root_prices = root_prices_of w; prices = closed_prices w })
by_stage Blank c lines h is a = absurd (let e : [] ≡ lines_of c = a.text in (cc))
by_stage Versioned c lines h is a = absurd (let e : codes "JOPC 2" ∷ [] ≡ lines_of c = a.text in (cc))
by_stage (Begun r xs cl cu) c lines h is a =
    let whole : codes "JOPC 2" ∷ r ∷ flat_map plain_of_block (cl ++ option_to_list cu) ≡ line_text (Version c.version) ∷ line_text (Root c.root) ∷ texts_of c.sections c.bound = a.text in
    let later : flat_map plain_of_block (cl ++ option_to_list cu) ≡ texts_of c.sections c.bound = cc in
    absurd (no_bound (cl ++ option_to_list cu) c.sections c.bound h.1 later)
by_stage (Ended r xs bs bound) c lines h is a =
    let whole : codes "JOPC 2" ∷ r ∷ (flat_map plain_of_block bs ++ bound ∷ []) ≡ line_text (Version c.version) ∷ line_text (Root c.root) ∷ texts_of c.sections c.bound = a.text in
    let version : codes "JOPC 2" ≡ line_text (Version c.version) = cc in
    let root : r ≡ line_text (Root c.root) = cc in
    let later : flat_map plain_of_block bs ++ bound ∷ [] ≡ texts_of c.sections c.bound = cc in
    let s = sections_are bs bound [] c.sections c.bound h.1 h.2 later in
    record {
      grammar = record {
        plain = a.grammar;
        version = version_is c.version a.grammar.version version;
        kinds = s.kinds;
        root_prices = h.0;
        each = s.each;
        prices = s.prices;
      };
      text = sym is ∙ ap₂ (λ (l : List ℕ) ls. version_line ∷ l ∷ (map root_price_line xs ++ ls)) root (ap₂ (λ ls (l : List ℕ). ls ++ l ∷ []) s.lines s.bound_is);
    }

-- Where the lines without prices are those of a certificate, all are those of one of version 3.
pub merged : (lines : List (List ℕ)) (w : Parted) (c : Certificate) → TakeAll Blank lines w → AreLinesOf (plain_of w) c
    → ArePricedLinesOf lines (record { plain = c; root_prices = root_prices_of w; prices = closed_prices w })
merged lines w c h a = let p = parted_all Blank w lines tt h in by_stage w c lines p.0 p.1 a
