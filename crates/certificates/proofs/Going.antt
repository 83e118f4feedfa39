-- How a draft goes on with a node, a loop, a section or a bound.
use Rattle.std.proofs.Common.{◌≡◌, ◌≢◌, ℕ, ◌<◌, ◌^◌, List, [], ◌∷◌, ◌++◌, map, refl, Option, Some, None, ℤ}
use Rattle.std.specs.Prelude.{IsSomeAnd, All}
use Rattle.std.specs.Option.{option_map, option_to_list}
use Rattle.section_check.specs.Section.{CertifiedLoop, IsPotential}
use Rattle.certificates.specs.declared.lines.line.SectionKind.{SectionKind}
use Rattle.certificates.specs.declared.lines.line.SectionKind.TheVariants.{Loops}
use Rattle.certificates.specs.declared.lines.line.CertLine.TheVariants.{Start, Node, Loop}
use Rattle.certificates.specs.Loop.{LoopSaid, IsLoopSaid}
use Rattle.certificates.specs.CertLines.{IsBoundValue}
use Rattle.certificates.specs.declared.cert.CertSection.{CertSection}
use Rattle.certificates.specs.Certificate.{sort_of, IsInGrammar}
use Rattle.certificates.specs.Drafts.{Draft, Begun, IsDraft, never_with, empty_section, if_empty, with_loop, GoesOn, TakesNode, TakesLoop}
use Rattle.certificates.proofs.Sections.{added_node, node_forth, node_above, loop_forth, loop_taken, empty_in_text, with_last, last_in_text, last_differs, changed_last}

-- ---- nodes

-- where a section takes a node, the loops are empty, and it has the node behind the others
pub node_is : (loops : List CertifiedLoop) (y : CertSection) → loops ≡ [] → if_empty loops y ≡ Some y
node_is [] y e = refl
node_is (l ∷ loops) y e = absurd (cc)

pub node_draft : (v r : ℕ) (cl : List CertSection) (s : CertSection) (u : ℕ) (p : ℤ) → TakesNode s u → u < 2 ^ 32 → IsPotential p → IsDraft (Begun v r cl (Some s)) → IsDraft (Begun v r cl (Some (added_node u p s)))
node_draft v r cl s u p takes small potential d =
    changed_last v r cl s (added_node u p s) d refl (node_forth v s u p (last_in_text v r cl s d) takes.above small potential)

none_added : (loops : List CertifiedLoop) (y : CertSection) (f : CertSection → Draft) → IsSomeAnd (option_map f (if_empty loops y)) IsDraft → (loops ≡ []) × IsDraft (f y)
none_added [] y f h = (refl, h)
none_added (l ∷ loops) y f h = absurd h

pub node_taken : (v r : ℕ) (cl : List CertSection) (s : CertSection) (u : ℕ) (p : ℤ) → GoesOn (Begun v r cl (Some s)) (Node u p) → TakesNode s u
node_taken v r cl s u p g =
    let n = none_added s.section.loops (added_node u p s) (λ t. Begun v r cl (Some t)) g in
    record { no_loop = n.0; above = node_above v s u p (last_in_text v r cl (added_node u p s) n.1) }

-- ---- loops

pub loop_draft : (v r : ℕ) (cl : List CertSection) (s : CertSection) (l : LoopSaid) → TakesLoop s l → IsLoopSaid l → IsDraft (Begun v r cl (Some s)) → IsDraft (Begun v r cl (Some (with_loop l s)))
loop_draft v r cl s l takes said d = changed_last v r cl s (with_loop l s) d refl (loop_forth v s l (last_in_text v r cl s d) takes said)

pub loop_goes : (v r : ℕ) (cl : List CertSection) (s : CertSection) (l : LoopSaid) → GoesOn (Begun v r cl (Some s)) (Loop l) → TakesLoop s l
loop_goes v r cl s l g = loop_taken v s l (last_in_text v r cl (with_loop l s) g)

-- ---- sections

pub start_draft : (v r : ℕ) (cl : List CertSection) (cu : Option CertSection) (k : SectionKind) (m : ℕ) → (k ≡ Loops → v ≡ 2) → m < 2 ^ 32 → All (λ a. a ≢ sort_of (empty_section k m)) (map sort_of (cl ++ option_to_list cu))
    → IsDraft (Begun v r cl cu) → IsDraft (Begun v r (cl ++ option_to_list cu) (Some (empty_section k m)))
start_draft v r cl cu k m of_version small differs d = with_last v r (cl ++ option_to_list cu) (empty_section k m) d (empty_in_text v k m of_version small) differs

start_in_text : (v r : ℕ) (cl : List CertSection) (cu : Option CertSection) (k : SectionKind) (m : ℕ) → GoesOn (Begun v r cl cu) (Start k m) → IsInGrammar (never_with v r ((cl ++ option_to_list cu) ++ empty_section k m ∷ []))
start_in_text v r cl None k m g = g
start_in_text v r cl (Some s) k m g = g

pub start_kind : (v r : ℕ) (cl : List CertSection) (cu : Option CertSection) (k : SectionKind) (m : ℕ) → GoesOn (Begun v r cl cu) (Start k m) → k ≡ Loops → v ≡ 2
start_kind v r cl cu k m g e = (last_in_text v r (cl ++ option_to_list cu) (empty_section k m) (start_in_text v r cl cu k m g)).kind e

pub start_differs : (v r : ℕ) (cl : List CertSection) (cu : Option CertSection) (k : SectionKind) (m : ℕ) → GoesOn (Begun v r cl cu) (Start k m) → All (λ a. a ≢ sort_of (empty_section k m)) (map sort_of (cl ++ option_to_list cu))
start_differs v r cl cu k m g = last_differs v r (cl ++ option_to_list cu) (empty_section k m) (start_in_text v r cl cu k m g)

-- ---- the bound

pub whole_grammar : (v r : ℕ) (ss : List CertSection) (b : Option ℕ) → IsBoundValue b → IsInGrammar (never_with v r ss) → IsInGrammar (record { version = v; root = r; sections = ss; bound = b })
whole_grammar v r ss b h g = record { version = g.version; root = g.root; sections = g.sections; apart = g.apart; bound = h }
