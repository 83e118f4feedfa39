-- Sections with one node or loop more, and certificates with one section more.
use Rattle.std.proofs.Common.{◌≡◌, ◌≢◌, ℕ, ◌<◌, ◌^◌, true, List, [], ◌∷◌, ◌++◌, map, sym, subst, arith, ℤ}
use Rattle.std.specs.Prelude.{All, AllPairs}
use Rattle.std.specs.List.Sorted.{IsStrictlyIncreasing}
use Rattle.std.proofs.lemmas.List.Elements.{All-push, All-nil}
use Rattle.std.proofs.lemmas.List.Quantifiers.{all_pairs_push}
use Rattle.section_check.specs.Section.{CertifiedLoop, listed, IsPotential}
use Rattle.certificates.specs.declared.lines.line.SectionKind.{SectionKind}
use Rattle.certificates.specs.declared.lines.line.SectionKind.TheVariants.{Loops}
use Rattle.certificates.specs.Loop.{LoopSaid, IsAbove, last_of, IsLoopSaid}
use Rattle.certificates.specs.declared.cert.CertSection.{CertSection}
use Rattle.certificates.specs.declared.cert.SectionSort.{SectionSort}
use Rattle.certificates.specs.Certificate.{IsLoopInText, IsSectionInText, sort_of, IsInGrammar}
use Rattle.certificates.specs.Drafts.{never_with, empty_section, certified, with_loop, TakesLoop}
use Rattle.certificates.proofs.RisingLemmas.{rises_on, rises_before, above_before}
use Rattle.certificates.proofs.Lists.{all_before, all_last, pairs_before, pairs_last, map-push}

-- ---- nodes

abbrev pub added_node : ℕ → ℤ → CertSection → CertSection
added_node u p s = record s { section = record s.section { nodes = s.section.nodes ++ (u, p) ∷ [] } }

listed-push : (ns : List (ℕ × ℤ)) (u : ℕ) (p : ℤ) → listed (ns ++ (u, p) ∷ []) ≡ listed ns ++ u ∷ []
listed-push ns u p = map-push (λ (n : ℕ × ℤ). n.0) ns (u, p)

abbrev IsSmall : ℕ → Type 0
IsSmall u = u < 2 ^ 32

abbrev HasPotential : ℕ × ℤ → Type 0
HasPotential n = IsPotential n.1

pub node_forth : (version : ℕ) (s : CertSection) (u : ℕ) (p : ℤ) → IsSectionInText version s → IsAbove (last_of (listed s.section.nodes)) u → u < 2 ^ 32 → IsPotential p → IsSectionInText version (added_node u p s)
node_forth version s u p h above small potential = record {
  kind = h.kind;
  method = h.method;
  nodes = subst IsStrictlyIncreasing (sym (listed-push s.section.nodes u p)) (rises_on (listed s.section.nodes) u h.nodes above);
  places = subst (All IsSmall) (sym (listed-push s.section.nodes u p)) (All-push IsSmall (listed s.section.nodes) u h.places small);
  potentials = All-push HasPotential s.section.nodes (u, p) h.potentials potential;
  headers = h.headers;
  loops = h.loops;
  regions = h.regions;
}

pub node_back : (version : ℕ) (s : CertSection) (u : ℕ) (p : ℤ) → IsSectionInText version (added_node u p s) → IsSectionInText version s
node_back version s u p h = record {
  kind = h.kind;
  method = h.method;
  nodes = rises_before (listed s.section.nodes) (u ∷ []) (subst IsStrictlyIncreasing (listed-push s.section.nodes u p) h.nodes);
  places = all_before IsSmall (listed s.section.nodes) (u ∷ []) (subst (All IsSmall) (listed-push s.section.nodes u p) h.places);
  potentials = all_before HasPotential s.section.nodes ((u, p) ∷ []) h.potentials;
  headers = h.headers;
  loops = h.loops;
  regions = h.regions;
}

pub node_above : (version : ℕ) (s : CertSection) (u : ℕ) (p : ℤ) → IsSectionInText version (added_node u p s) → IsAbove (last_of (listed s.section.nodes)) u
node_above version s u p h = above_before (listed s.section.nodes) [] u (subst IsStrictlyIncreasing (listed-push s.section.nodes u p) h.nodes)

-- ---- loops

abbrev headers_of : List CertifiedLoop → List ℕ
headers_of ls = map (λ l. l.header) ls

headers-push : (ls : List CertifiedLoop) (l : LoopSaid) → headers_of (ls ++ certified l ∷ []) ≡ headers_of ls ++ l.header ∷ []
headers-push ls l = map-push (λ (m : CertifiedLoop). m.header) ls (certified l)

loop_in_text : (l : LoopSaid) → IsLoopSaid l → IsLoopInText (certified l)
loop_in_text l h = record { instruction = h.instruction; header = h.header; members = h.members; cost = h.cost }

pub loop_forth : (version : ℕ) (s : CertSection) (l : LoopSaid) → IsSectionInText version s → TakesLoop s l → IsLoopSaid l → IsSectionInText version (with_loop l s)
loop_forth version s l h takes said = record {
  kind = h.kind;
  method = h.method;
  nodes = h.nodes;
  places = h.places;
  potentials = h.potentials;
  headers = subst IsStrictlyIncreasing (sym (headers-push s.section.loops l)) (rises_on (headers_of s.section.loops) l.header h.headers takes.above);
  loops = All-push IsLoopInText s.section.loops (certified l) h.loops (loop_in_text l said);
  regions = All-push (λ m. m.region ≡ true → s.kind ≡ Loops) s.section.loops (certified l) h.regions takes.region;
}

pub loop_back : (version : ℕ) (s : CertSection) (l : LoopSaid) → IsSectionInText version (with_loop l s) → IsSectionInText version s
loop_back version s l h = record {
  kind = h.kind;
  method = h.method;
  nodes = h.nodes;
  places = h.places;
  potentials = h.potentials;
  headers = rises_before (headers_of s.section.loops) (l.header ∷ []) (subst IsStrictlyIncreasing (headers-push s.section.loops l) h.headers);
  loops = all_before IsLoopInText s.section.loops (certified l ∷ []) h.loops;
  regions = all_before (λ m. m.region ≡ true → s.kind ≡ Loops) s.section.loops (certified l ∷ []) h.regions;
}

pub loop_taken : (version : ℕ) (s : CertSection) (l : LoopSaid) → IsSectionInText version (with_loop l s) → TakesLoop s l
loop_taken version s l h = record {
  region = all_last (λ m. m.region ≡ true → s.kind ≡ Loops) s.section.loops (certified l) h.regions;
  above = above_before (headers_of s.section.loops) [] l.header (subst IsStrictlyIncreasing (headers-push s.section.loops l) h.headers);
}

pub empty_in_text : (version : ℕ) (kind : SectionKind) (method : ℕ) → (kind ≡ Loops → version ≡ 2) → method < 2 ^ 32 → IsSectionInText version (empty_section kind method)
empty_in_text version kind method of_version small = record {
  kind = of_version;
  method = small;
  nodes = λ k lt. absurd (omega arith);
  places = All-nil IsSmall;
  potentials = All-nil HasPotential;
  headers = λ k lt. absurd (omega arith);
  loops = All-nil IsLoopInText;
  regions = All-nil (λ m. m.region ≡ true → kind ≡ Loops);
}

-- ---- certificates

abbrev Differ : SectionSort → SectionSort → Type 0
Differ a b = a ≢ b

sorts-push : (ss : List CertSection) (s : CertSection) → map sort_of (ss ++ s ∷ []) ≡ map sort_of ss ++ sort_of s ∷ []
sorts-push ss s = map-push sort_of ss s

pub without_last : (version root : ℕ) (ss : List CertSection) (s : CertSection) → IsInGrammar (never_with version root (ss ++ s ∷ [])) → IsInGrammar (never_with version root ss)
without_last version root ss s h = record {
  version = h.version;
  root = h.root;
  sections = all_before (IsSectionInText version) ss (s ∷ []) h.sections;
  apart = pairs_before Differ (map sort_of ss) (sort_of s ∷ []) (subst (AllPairs Differ) (sorts-push ss s) h.apart);
  bound = tt;
}

pub last_in_text : (version root : ℕ) (ss : List CertSection) (s : CertSection) → IsInGrammar (never_with version root (ss ++ s ∷ [])) → IsSectionInText version s
last_in_text version root ss s h = all_last (IsSectionInText version) ss s h.sections

pub last_differs : (version root : ℕ) (ss : List CertSection) (s : CertSection) → IsInGrammar (never_with version root (ss ++ s ∷ [])) → All (λ a. a ≢ sort_of s) (map sort_of ss)
last_differs version root ss s h = pairs_last Differ (map sort_of ss) (sort_of s) (subst (AllPairs Differ) (sorts-push ss s) h.apart)

pub with_last : (version root : ℕ) (ss : List CertSection) (s : CertSection) → IsInGrammar (never_with version root ss) → IsSectionInText version s → All (λ a. a ≢ sort_of s) (map sort_of ss) → IsInGrammar (never_with version root (ss ++ s ∷ []))
with_last version root ss s h in_text differs = record {
  version = h.version;
  root = h.root;
  sections = All-push (IsSectionInText version) ss s h.sections in_text;
  apart = subst (AllPairs Differ) (sym (sorts-push ss s)) (all_pairs_push Differ (map sort_of ss) (sort_of s) h.apart (λ k d lt. differs k d lt));
  bound = tt;
}

-- the last section in another state, of the same kind and method
pub changed_last : (version root : ℕ) (ss : List CertSection) (s t : CertSection) → IsInGrammar (never_with version root (ss ++ s ∷ [])) → sort_of t ≡ sort_of s → IsSectionInText version t → IsInGrammar (never_with version root (ss ++ t ∷ []))
changed_last version root ss s t h same in_text =
    with_last version root ss t (without_last version root ss s h) in_text (subst (λ (a : SectionSort). All (λ b. b ≢ a) (map sort_of ss)) (sym same) (last_differs version root ss s h))
