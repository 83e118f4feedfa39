-- Lines read one after the other: from what they say to the draft, and back.
use Rattle.std.proofs.Common.{◌≡◌, ℕ, ◌<◌, ◌^◌, List, [], ◌∷◌, ◌++◌, map, append_assoc, append-nil, refl, sym, ◌∙◌, ap, subst, arith, Option, Some, None, ℤ, inl, ◌⊎◌}
use Rattle.std.specs.Prelude.{flat_map, IsSomeAnd, All}
use Rattle.std.specs.List.{AllByRecursion}
use Rattle.std.specs.Option.{option_to_list}
use Rattle.std.proofs.lemmas.List.Elements.{All-head, All-tail}
use Rattle.lists.specs.Lists.{onto}
use Rattle.lists.proofs.Lemmas.{some_same, onto_some}
use Rattle.section_check.specs.Section.{CertifiedLoop, ArePotentials, listed, IsPotential}
use Rattle.certificates.specs.declared.lines.line.SectionKind.{SectionKind}
use Rattle.certificates.specs.declared.lines.line.CertLine.{CertLine}
use Rattle.certificates.specs.declared.lines.line.CertLine.TheVariants.{Version, Root, Node, Loop, Bound}
use Rattle.certificates.specs.CertLines.{IsLineInRange}
use Rattle.certificates.specs.declared.cert.CertSection.{CertSection}
use Rattle.certificates.specs.Certificate.{Certificate, IsLoopInText, IsSectionInText, IsInGrammar}
use Rattle.certificates.specs.Texts.{loop_said, section_said, said}
use Rattle.certificates.specs.Drafts.{Draft, Blank, Versioned, Begun, Whole, IsDraft, never_with, empty_section, put, GoesOn}
use Rattle.certificates.proofs.Adding.{puts, puts_back, puts_said, said_in}

-- what lines give one after the other
abbrev pub run : Draft → List CertLine → Option Draft
run d [] = Some d
run d (e ∷ es) = onto (put d e) (λ t. run t es)

run_case : (o : Option Draft) (xs ys : List CertLine) → ((t : Draft) → run t (xs ++ ys) ≡ onto (run t xs) (λ u. run u ys)) → onto o (λ t. run t (xs ++ ys)) ≡ onto (onto o (λ t. run t xs)) (λ u. run u ys)
run_case None xs ys h = refl
run_case (Some t) xs ys h = h t

pub run-append : (d : Draft) (xs ys : List CertLine) → run d (xs ++ ys) ≡ onto (run d xs) (λ t. run t ys)
run-append d [] ys = refl
run-append d (x ∷ xs) ys = run_case (put d x) xs ys (λ t. run-append t xs ys)

-- lines that go on from where others end
pub run_on : (d t : Draft) (xs ys : List CertLine) → run d xs ≡ Some t → run d (xs ++ ys) ≡ run t ys
run_on d t xs ys h = run-append d xs ys ∙ ap (λ (o : Option Draft). onto o (λ u. run u ys)) h

-- ---- the lines of a certificate

abbrev section_of : SectionKind → ℕ → List (ℕ × ℤ) → List CertifiedLoop → CertSection
section_of kind method nodes loops = record { kind = kind; method = method; section = record { nodes = nodes; loops = loops } }

node_lines : List (ℕ × ℤ) → List CertLine
node_lines ns = map (λ e. Node e.0 e.1) ns

run_nodes : (v r : ℕ) (cl : List CertSection) (k : SectionKind) (m : ℕ) (done ns : List (ℕ × ℤ)) → run (Begun v r cl (Some (section_of k m done []))) (map (λ e. Node e.0 e.1) ns) ≡ Some (Begun v r cl (Some (section_of k m (done ++ ns) [])))
run_nodes v r cl k m done [] = ap (λ (xs : List (ℕ × ℤ)). Some (Begun v r cl (Some (section_of k m xs [])))) (sym (append-nil done))
run_nodes v r cl k m done (n ∷ ns) =
    run_nodes v r cl k m (done ++ n ∷ []) ns ∙ ap (λ (xs : List (ℕ × ℤ)). Some (Begun v r cl (Some (section_of k m xs [])))) (append_assoc done (n ∷ []) ns)

run_loops : (v r : ℕ) (cl : List CertSection) (k : SectionKind) (m : ℕ) (nodes : List (ℕ × ℤ)) (done ls : List CertifiedLoop) → run (Begun v r cl (Some (section_of k m nodes done))) (map (λ l. Loop (loop_said l)) ls) ≡ Some (Begun v r cl (Some (section_of k m nodes (done ++ ls))))
run_loops v r cl k m nodes done [] = ap (λ (xs : List CertifiedLoop). Some (Begun v r cl (Some (section_of k m nodes xs)))) (sym (append-nil done))
run_loops v r cl k m nodes done (l ∷ ls) =
    run_loops v r cl k m nodes (done ++ l ∷ []) ls ∙ ap (λ (xs : List CertifiedLoop). Some (Begun v r cl (Some (section_of k m nodes xs)))) (append_assoc done (l ∷ []) ls)

run_section : (v r : ℕ) (cl : List CertSection) (cu : Option CertSection) (s : CertSection) → run (Begun v r cl cu) (section_said s) ≡ Some (Begun v r (cl ++ option_to_list cu) (Some s))
run_section v r cl cu s =
    run_on (Begun v r (cl ++ option_to_list cu) (Some (empty_section s.kind s.method))) (Begun v r (cl ++ option_to_list cu) (Some (section_of s.kind s.method s.section.nodes [])))
    (map (λ (e : ℕ × ℤ). Node e.0 e.1) s.section.nodes) (map (λ l. Loop (loop_said l)) s.section.loops)
    (run_nodes v r (cl ++ option_to_list cu) s.kind s.method [] s.section.nodes)
    ∙ run_loops v r (cl ++ option_to_list cu) s.kind s.method s.section.nodes [] s.section.loops

run_sections : (v r : ℕ) (cl : List CertSection) (cu : Option CertSection) (ss : List CertSection) (b : Option ℕ) → run (Begun v r cl cu) (flat_map section_said ss ++ Bound b ∷ []) ≡ Some (Whole (record { version = v; root = r; sections = (cl ++ option_to_list cu) ++ ss; bound = b }))
run_sections v r cl cu [] b = ap (λ (xs : List CertSection). Some (Whole (record { version = v; root = r; sections = xs; bound = b }))) (sym (append-nil (cl ++ option_to_list cu)))
run_sections v r cl cu (s ∷ ss) b =
    ap (run (Begun v r cl cu)) (append_assoc (section_said s) (flat_map section_said ss) (Bound b ∷ []))
    ∙ (run_on (Begun v r cl cu) (Begun v r (cl ++ option_to_list cu) (Some s)) (section_said s) (flat_map section_said ss ++ Bound b ∷ []) (run_section v r cl cu s)
    ∙ (run_sections v r (cl ++ option_to_list cu) (Some s) ss b
    ∙ ap (λ (xs : List CertSection). Some (Whole (record { version = v; root = r; sections = xs; bound = b }))) (append_assoc (cl ++ option_to_list cu) (s ∷ []) ss)))

pub run_said : (c : Certificate) → run Blank (said c) ≡ Some (Whole c)
run_said c = run_sections c.version c.root [] None c.sections c.bound

-- ---- back

-- lines that give a draft are those that it has
pub run_back : (d t : Draft) (es : List CertLine) → run d es ≡ Some t → said_in t ≡ said_in d ++ es
run_back d t [] h = sym (ap said_in (some_same d t h)) ∙ sym (append-nil (said_in d))
run_back d t (e ∷ es) h =
    let p = onto_some (put d e) (λ u. run u es) t h in
    run_back p.0 t es p.2 ∙ (ap (λ (xs : List CertLine). xs ++ es) (puts_said d e p.0 (puts d e p.0 p.1)) ∙ append_assoc (said_in d) (e ∷ []) es)

pub said_back : (c : Certificate) (es : List CertLine) → run Blank es ≡ Some (Whole c) → es ≡ said c
unfolding said_in
said_back c es h = sym (run_back Blank (Whole c) es h)

pub run_draft : (d t : Draft) (es : List CertLine) → run d es ≡ Some t → IsDraft t → IsDraft d
run_draft d t [] h k = subst IsDraft (sym (some_same d t h)) k
run_draft d t (e ∷ es) h k =
    let p = onto_some (put d e) (λ u. run u es) t h in
    puts_back d e p.0 (puts d e p.0 p.1) (run_draft p.0 t es p.2 k)

-- the first of lines that lead to a certificate is one with which one goes on
pub run_goes_on : (d : Draft) (e : CertLine) (es : List CertLine) (c : Certificate) → run d (e ∷ es) ≡ Some (Whole c) → IsInGrammar c → GoesOn d e
run_goes_on d e es c h k =
    let p = onto_some (put d e) (λ u. run u es) (Whole c) h in
    subst (λ (o : Option Draft). IsSomeAnd o IsDraft) (sym p.1) (run_draft p.0 (Whole c) es p.2 k)

-- ---- a certificate that a draft goes on to

abbrev pub rest_to : Draft → List CertLine
rest_to Blank = Version 1 ∷ Root 0 ∷ Bound None ∷ []
rest_to (Versioned v) = Root 0 ∷ Bound None ∷ []
rest_to (Begun v r cl cu) = Bound None ∷ []
rest_to (Whole c) = []

abbrev pub goal_of : Draft → Certificate
goal_of Blank = never_with 1 0 []
goal_of (Versioned v) = never_with v 0 []
goal_of (Begun v r cl cu) = never_with v r (cl ++ option_to_list cu)
goal_of (Whole c) = c

pub run_rest : (d : Draft) → run d (rest_to d) ≡ Some (Whole (goal_of d))
run_rest Blank = refl
run_rest (Versioned v) = refl
run_rest (Begun v r cl None) = refl
run_rest (Begun v r cl (Some s)) = refl
run_rest (Whole c) = refl

no_sections : (v : ℕ) → (v ≡ 1) ⊎ (v ≡ 2) → IsInGrammar (never_with v 0 [])
no_sections v h = record { version = h; root = omega arith; sections = λ k d lt. absurd (omega arith); apart = λ i j d lt inside. absurd (omega arith); bound = tt }

pub goal_in_grammar : (d : Draft) → IsDraft d → IsInGrammar (goal_of d)
goal_in_grammar Blank h = no_sections 1 (inl refl)
goal_in_grammar (Versioned v) h = no_sections v h
goal_in_grammar (Begun v r cl cu) h = h
goal_in_grammar (Whole c) h = h

-- ---- what a certificate says is in range

range_append : (xs ys : List CertLine) → AllByRecursion IsLineInRange xs → AllByRecursion IsLineInRange ys → AllByRecursion IsLineInRange (xs ++ ys)
range_append [] ys h k = k
range_append (x ∷ xs) ys h k = (h.0, range_append xs ys h.1 k)

nodes_in_range : (ns : List (ℕ × ℤ)) → All (λ u. u < 2 ^ 32) (listed ns) → ArePotentials ns → AllByRecursion IsLineInRange (map (λ e. Node e.0 e.1) ns)
nodes_in_range [] h k = tt
nodes_in_range (n ∷ ns) h k = (
  (All-head (λ u. u < 2 ^ 32) n.0 (listed ns) h, All-head (λ (p : ℕ × ℤ). IsPotential p.1) n ns k),
  nodes_in_range ns (All-tail (λ u. u < 2 ^ 32) n.0 (listed ns) h) (All-tail (λ (p : ℕ × ℤ). IsPotential p.1) n ns k),
)

loops_in_range : (ls : List CertifiedLoop) → All IsLoopInText ls → AllByRecursion IsLineInRange (map (λ l. Loop (loop_said l)) ls)
loops_in_range [] h = tt
loops_in_range (l ∷ ls) h =
    let first = All-head IsLoopInText l ls h in
    (record { instruction = first.instruction; header = first.header; cost = first.cost; members = first.members }, loops_in_range ls (All-tail IsLoopInText l ls h))

sections_in_range : (v : ℕ) (ss : List CertSection) → All (IsSectionInText v) ss → AllByRecursion IsLineInRange (flat_map section_said ss)
sections_in_range v [] h = tt
sections_in_range v (s ∷ ss) h =
    let first = All-head (IsSectionInText v) s ss h in
    range_append (section_said s) (flat_map section_said ss)
    (first.method, range_append (map (λ (e : ℕ × ℤ). Node e.0 e.1) s.section.nodes) (map (λ l. Loop (loop_said l)) s.section.loops) (nodes_in_range s.section.nodes first.places first.potentials) (loops_in_range s.section.loops first.loops))
    (sections_in_range v ss (All-tail (IsSectionInText v) s ss h))

pub said_in_range : (c : Certificate) → IsInGrammar c → AllByRecursion IsLineInRange (said c)
said_in_range c h = (h.version, (h.root, range_append (flat_map section_said c.sections) (Bound c.bound ∷ []) (sections_in_range c.version c.sections h.sections) (h.bound, tt)))
