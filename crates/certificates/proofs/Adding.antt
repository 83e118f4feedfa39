-- What a line adds to a draft: the cases in which it adds something.
use Rattle.std.proofs.Common.{◌≡◌, ℕ, List, [], ◌∷◌, ◌++◌, map, append_assoc, append-nil, refl, sym, ◌∙◌, ap, subst, Option, Some, None, ℤ}
use Rattle.std.specs.Prelude.{flat_map}
use Rattle.std.specs.Option.{option_map, option_to_list}
use Rattle.lists.proofs.Lemmas.{none≢some, some_same}
use Rattle.lists.proofs.FirstLemmas.{flat_map-more}
use Rattle.section_check.specs.Section.{CertifiedLoop}
use Rattle.certificates.specs.declared.lines.line.SectionKind.{SectionKind}
use Rattle.certificates.specs.declared.lines.line.CertLine.{CertLine}
use Rattle.certificates.specs.declared.lines.line.CertLine.TheVariants.{Version, Root, Start, Node, Loop, Bound}
use Rattle.certificates.specs.Loop.{LoopSaid}
use Rattle.certificates.specs.declared.cert.CertSection.{CertSection}
use Rattle.certificates.specs.Texts.{loop_said, section_said, said}
use Rattle.certificates.specs.Drafts.{Draft, Blank, Versioned, Begun, Whole, IsDraft, empty_section, if_empty, certified, with_loop, put}
use Rattle.certificates.proofs.Lists.{map-push}
use Rattle.certificates.proofs.Sections.{added_node, node_back, loop_back, without_last, last_in_text, changed_last}

pub data Puts : Draft → CertLine → Draft → Type 0 where
  puts_version : (version : ℕ) → Puts Blank (Version version) (Versioned version)
  puts_root : (version root : ℕ) → Puts (Versioned version) (Root root) (Begun version root [] None)
  puts_start : (version root : ℕ) (closed : List CertSection) (current : Option CertSection) (kind : SectionKind) (method : ℕ) → Puts (Begun version root closed current) (Start kind method) (Begun version root (closed ++ option_to_list current) (Some (empty_section kind method)))
  puts_node : (version root : ℕ) (closed : List CertSection) (s : CertSection) (u : ℕ) (p : ℤ) → s.section.loops ≡ [] → Puts (Begun version root closed (Some s)) (Node u p) (Begun version root closed (Some (added_node u p s)))
  puts_loop : (version root : ℕ) (closed : List CertSection) (s : CertSection) (l : LoopSaid) → Puts (Begun version root closed (Some s)) (Loop l) (Begun version root closed (Some (with_loop l s)))
  puts_bound : (version root : ℕ) (closed : List CertSection) (current : Option CertSection) (bound : Option ℕ) → Puts (Begun version root closed current) (Bound bound) (Whole (record { version = version; root = root; sections = closed ++ option_to_list current; bound = bound }))

node_case : (loops : List CertifiedLoop) (y : CertSection) (f : CertSection → Draft) (t : Draft) → option_map f (if_empty loops y) ≡ Some t → (loops ≡ []) × (f y ≡ t)
node_case [] y f t h = (refl, some_same (f y) t h)
node_case (l ∷ loops) y f t h = absurd (none≢some t h)

pub puts : (d : Draft) (e : CertLine) (t : Draft) → put d e ≡ Some t → Puts d e t
puts Blank (Version n) t h = subst (Puts Blank (Version n)) (some_same (Versioned n) t h) (puts_version n)
puts Blank (Root n) t h = absurd (none≢some t h)
puts Blank (Start k n) t h = absurd (none≢some t h)
puts Blank (Node u p) t h = absurd (none≢some t h)
puts Blank (Loop l) t h = absurd (none≢some t h)
puts Blank (Bound b) t h = absurd (none≢some t h)
puts (Versioned v) (Version n) t h = absurd (none≢some t h)
puts (Versioned v) (Root n) t h = subst (Puts (Versioned v) (Root n)) (some_same (Begun v n [] None) t h) (puts_root v n)
puts (Versioned v) (Start k n) t h = absurd (none≢some t h)
puts (Versioned v) (Node u p) t h = absurd (none≢some t h)
puts (Versioned v) (Loop l) t h = absurd (none≢some t h)
puts (Versioned v) (Bound b) t h = absurd (none≢some t h)
puts (Begun v r cl None) (Version n) t h = absurd (none≢some t h)
puts (Begun v r cl None) (Root n) t h = absurd (none≢some t h)
puts (Begun v r cl None) (Start k n) t h = subst (Puts (Begun v r cl None) (Start k n)) (some_same _ t h) (puts_start v r cl None k n)
puts (Begun v r cl None) (Node u p) t h = absurd (none≢some t h)
puts (Begun v r cl None) (Loop l) t h = absurd (none≢some t h)
puts (Begun v r cl None) (Bound b) t h = subst (Puts (Begun v r cl None) (Bound b)) (some_same _ t h) (puts_bound v r cl None b)
puts (Begun v r cl (Some s)) (Version n) t h = absurd (none≢some t h)
puts (Begun v r cl (Some s)) (Root n) t h = absurd (none≢some t h)
puts (Begun v r cl (Some s)) (Start k n) t h = subst (Puts (Begun v r cl (Some s)) (Start k n)) (some_same _ t h) (puts_start v r cl (Some s) k n)
puts (Begun v r cl (Some s)) (Node u p) t h =
    let c = node_case s.section.loops (added_node u p s) (λ x. Begun v r cl (Some x)) t h in
    subst (Puts (Begun v r cl (Some s)) (Node u p)) c.1 (puts_node v r cl s u p c.0)
puts (Begun v r cl (Some s)) (Loop l) t h = subst (Puts (Begun v r cl (Some s)) (Loop l)) (some_same _ t h) (puts_loop v r cl s l)
puts (Begun v r cl (Some s)) (Bound b) t h = subst (Puts (Begun v r cl (Some s)) (Bound b)) (some_same _ t h) (puts_bound v r cl (Some s) b)
puts (Whole c) (Version n) t h = absurd (none≢some t h)
puts (Whole c) (Root n) t h = absurd (none≢some t h)
puts (Whole c) (Start k n) t h = absurd (none≢some t h)
puts (Whole c) (Node u p) t h = absurd (none≢some t h)
puts (Whole c) (Loop l) t h = absurd (none≢some t h)
puts (Whole c) (Bound b) t h = absurd (none≢some t h)

-- ---- a draft that goes on to one of a certificate is one itself

pub puts_back : (d : Draft) (e : CertLine) (t : Draft) → Puts d e t → IsDraft t → IsDraft d
puts_back d e t (puts_version n) h = tt
puts_back d e t (puts_root v n) h = h.version
puts_back d e t (puts_start v r cl cu k n) h = without_last v r (cl ++ option_to_list cu) (empty_section k n) h
puts_back d e t (puts_node v r cl s u p none) h =
    changed_last v r cl (added_node u p s) s h refl (node_back v s u p (last_in_text v r cl (added_node u p s) h))
puts_back d e t (puts_loop v r cl s l) h =
    changed_last v r cl (with_loop l s) s h refl (loop_back v s l (last_in_text v r cl (with_loop l s) h))
puts_back d e t (puts_bound v r cl cu b) h = record { version = h.version; root = h.root; sections = h.sections; apart = h.apart; bound = tt }

-- ---- what a draft has in it

unfoldable pub said_in : Draft → List CertLine
said_in Blank = []
said_in (Versioned v) = Version v ∷ []
said_in (Begun v r cl cu) = Version v ∷ Root r ∷ flat_map section_said (cl ++ option_to_list cu)
said_in (Whole c) = said c

node_said : (s : CertSection) (u : ℕ) (p : ℤ) (loops : List CertifiedLoop) → loops ≡ [] → map (λ (e : ℕ × ℤ). Node e.0 e.1) (s.section.nodes ++ (u, p) ∷ []) ++ map (λ l. Loop (loop_said l)) loops ≡ (map (λ (e : ℕ × ℤ). Node e.0 e.1) s.section.nodes ++ map (λ l. Loop (loop_said l)) loops) ++ Node u p ∷ []
node_said s u p [] none =
    append-nil _ ∙ (map-push (λ (e : ℕ × ℤ). Node e.0 e.1) s.section.nodes (u, p) ∙ ap (λ (xs : List CertLine). xs ++ Node u p ∷ []) (sym (append-nil (map (λ (e : ℕ × ℤ). Node e.0 e.1) s.section.nodes))))
node_said s u p (l ∷ loops) none = absurd (cc)

last_said : (v r : ℕ) (cl : List CertSection) (s t : CertSection) (e : CertLine) → section_said t ≡ section_said s ++ e ∷ [] → said_in (Begun v r cl (Some t)) ≡ said_in (Begun v r cl (Some s)) ++ e ∷ []
unfolding said_in
last_said v r cl s t e h =
    ap (λ (xs : List CertLine). Version v ∷ Root r ∷ xs)
    (flat_map-more section_said cl t ∙ (ap (λ (xs : List CertLine). flat_map section_said cl ++ xs) h
    ∙ (sym (append_assoc (flat_map section_said cl) (section_said s) (e ∷ [])) ∙ ap (λ (xs : List CertLine). xs ++ e ∷ []) (sym (flat_map-more section_said cl s)))))

pub puts_said : (d : Draft) (e : CertLine) (t : Draft) → Puts d e t → said_in t ≡ said_in d ++ e ∷ []
unfolding said_in
puts_said d e t (puts_version n) = refl
puts_said d e t (puts_root v n) = refl
puts_said d e t (puts_start v r cl cu k n) = ap (λ (xs : List CertLine). Version v ∷ Root r ∷ xs) (flat_map-more section_said (cl ++ option_to_list cu) (empty_section k n))
puts_said d e t (puts_node v r cl s u p none) = last_said v r cl s (added_node u p s) (Node u p) (ap (λ (xs : List CertLine). Start s.kind s.method ∷ xs) (node_said s u p s.section.loops none))
puts_said d e t (puts_loop v r cl s l) = last_said v r cl s (with_loop l s) (Loop l)
    (ap (λ (xs : List CertLine). Start s.kind s.method ∷ xs)
    (ap (λ (xs : List CertLine). map (λ (e : ℕ × ℤ). Node e.0 e.1) s.section.nodes ++ xs) (map-push (λ m. Loop (loop_said m)) s.section.loops (certified l))
    ∙ sym (append_assoc (map (λ (e : ℕ × ℤ). Node e.0 e.1) s.section.nodes) (map (λ m. Loop (loop_said m)) s.section.loops) (Loop l ∷ []))))
puts_said d e t (puts_bound v r cl cu b) = refl
