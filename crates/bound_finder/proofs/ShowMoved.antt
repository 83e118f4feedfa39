-- A solution's section under the other numbers: its loops are those of the nest under these numbers.
use Rattle.std.proofs.Common.{◌≡◌, ℕ, zero, suc, ◌<◌, Bool, false, cond, List, [], ◌∷◌, length, get_or, map, Contains, Option, Some, None, slice_index, refl, sym, ap, ◌∙◌, subst, inl, inr, arith}
use Rattle.std.specs.Prelude.{ℤ, slice_index_or}
use Rattle.std.proofs.lemmas.Bool.{cases_lt}
use Rattle.std.proofs.lemmas.List.{get_or-map, length-map, get_or_default}
use Rattle.loop_nest.specs.Digraph.{Digraph}
use Rattle.loop_nest.specs.Nest.{NaturalLoop, headers_of}
use Rattle.loop_nest.proofs.Elements.{from_map}
use Rattle.section_check.specs.Section.{CertifiedLoop, Certified, listed}
use Rattle.section_check.specs.Placing.{IsEntryAt, IsInLoop, AreWellPlaced}
use Rattle.section_check.specs.Placing.IsMisplaced.{lists_no_node, holds_no_node}
use Rattle.section_check.specs.Renumbering.{moved, moved_loop}
use Rattle.path_solver.specs.Regions.{charged}
use Rattle.compact_walks.specs.Moving.{moved_nest}
use Rattle.compact_walks.proofs.Loops.{headers_moved as nest_headers, no_loop}
use Rattle.bound_finder.proofs.Alike.{members_of}

-- ---- loops

abbrev pub headers_in : List CertifiedLoop → List ℕ
headers_in ls = map (λ l. l.header) ls

abbrev pub members_in : List CertifiedLoop → List (List ℕ)
members_in ls = map (λ l. l.members) ls

abbrev pub marks_in : List CertifiedLoop → List Bool
marks_in ls = map (λ l. l.region) ls

module _ (node : ℕ → ℕ) where
  headers_moved : (ls : List CertifiedLoop) → headers_in (map (moved_loop node) ls) ≡ map node (headers_in ls)
  headers_moved [] = refl
  headers_moved (l ∷ ls) = ap (λ (hs : List ℕ). node l.header ∷ hs) (headers_moved ls)

  members_moved : (ls : List CertifiedLoop) → members_in (map (moved_loop node) ls) ≡ map (map node) (members_in ls)
  members_moved [] = refl
  members_moved (l ∷ ls) = ap (λ (us : List (List ℕ)). map node l.members ∷ us) (members_moved ls)

  pub marks_moved : (ls : List CertifiedLoop) → marks_in (map (moved_loop node) ls) ≡ marks_in ls
  marks_moved [] = refl
  marks_moved (l ∷ ls) = ap (λ (bs : List Bool). l.region ∷ bs) (marks_moved ls)

  nest_members : (ks : List NaturalLoop) → members_of (moved_nest node ks) ≡ map (map node) (members_of ks)
  nest_members [] = refl
  nest_members (k ∷ ks) = ap (λ (us : List (List ℕ)). map node k.members ∷ us) (nest_members ks)

  pub same_headers : (ls : List CertifiedLoop) (ks : List NaturalLoop) → headers_in ls ≡ headers_of ks → headers_in (map (moved_loop node) ls) ≡ headers_of (moved_nest node ks)
  same_headers ls ks e = headers_moved ls ∙ ap (map node) e ∙ sym (nest_headers node ks)

  pub same_members : (ls : List CertifiedLoop) (ks : List NaturalLoop) → members_in ls ≡ members_of ks → members_in (map (moved_loop node) ls) ≡ members_of (moved_nest node ks)
  same_members ls ks e = members_moved ls ∙ ap (map (map node)) e ∙ sym (nest_members ks)

  pub listed_moved : (ps : List (ℕ × ℤ)) → listed (map (λ p. (node p.0, p.1)) ps) ≡ map node (listed ps)
  listed_moved [] = refl
  listed_moved (p ∷ ps) = ap (λ (us : List ℕ). node p.0 ∷ us) (listed_moved ps)

  -- ---- nodes

  -- what a well placed section lists or holds are nodes
  pub listed_node : (d : Digraph) (c : Certified) (bounds : List ℕ) (loads : List (Option ℕ)) → AreWellPlaced d c bounds loads → (u : ℕ) → Contains (listed c.nodes) u → u < d.nodes
  listed_node d c bounds loads placed u has = elim (cases_lt u d.nodes) [ inl less ↦ less | inr more ↦ absurd (placed u (lists_no_node has more)) ]

  pub held_node : (d : Digraph) (c : Certified) (bounds : List ℕ) (loads : List (Option ℕ)) → AreWellPlaced d c bounds loads → (u : ℕ) → IsInLoop c.loops u → u < d.nodes
  held_node d c bounds loads placed u held = elim (cases_lt u d.nodes) [ inl less ↦ less | inr more ↦ absurd (placed u (holds_no_node held more)) ]

  -- what the moved section lists or holds has the other number of such a node
  pub from_listed : (c : Certified) (u : ℕ) → Contains (listed (moved node c).nodes) u → (v : ℕ) × Contains (listed c.nodes) v × (node v ≡ u)
  from_listed c u has = from_map node (listed c.nodes) u (subst (λ (us : List ℕ). Contains us u) (listed_moved c.nodes) has)

  pub from_held : (c : Certified) (u : ℕ) → IsInLoop (moved node c).loops u → (v : ℕ) × IsInLoop c.loops v × (node v ≡ u)
  from_held c u held =
      let l = from_map (moved_loop node) c.loops held.holder held.among in
      let v = from_map node l.0.members u (subst (λ (k : CertifiedLoop). Contains k.members u) (sym l.2) held.inside) in
      (v.0, record { holder = l.0; among = l.1; inside = v.1 }, v.2)

-- ---- entries of lists

-- a loop of the nest stands where one of the section does
pub nest_at : (ls : List CertifiedLoop) (ks : List NaturalLoop) → members_in ls ≡ members_of ks → (i : ℕ) (l : CertifiedLoop) → IsEntryAt ls i l → (k : NaturalLoop) × IsEntryAt ks i k × (k.members ≡ l.members)
nest_at ls ks e i l at =
    let long = ap length e in
    let one = length-map ls (λ (x : CertifiedLoop). x.members) in
    let other = length-map ks (λ (x : NaturalLoop). x.members) in
    let below = at.0 in
    let lt : i < length ks = omega arith in
    let k = get_or ks i no_loop in (
      k,
      (lt, get_or_default ks i k no_loop lt),
      sym (get_or-map (λ (x : NaturalLoop). x.members) ks i no_loop [] lt) ∙ ap (λ (us : List (List ℕ)). get_or us i []) (sym e) ∙ get_or-map (λ (x : CertifiedLoop). x.members) ls i l [] below ∙ ap (λ (x : CertifiedLoop). x.members) at.1,
    )

pub mark_at : (ls : List CertifiedLoop) (flags : List Bool) → marks_in ls ≡ flags → (i : ℕ) (l : CertifiedLoop) → IsEntryAt ls i l → get_or flags i false ≡ l.region
mark_at ls flags e i l at = ap (λ (bs : List Bool). get_or bs i false) (sym e) ∙ get_or-map (λ (x : CertifiedLoop). x.region) ls i l false at.0 ∙ ap (λ (x : CertifiedLoop). x.region) at.1

-- a loop that isn't charged costs no entry
pub uncharged : (loads : List ℕ) (flags : List Bool) (i : ℕ) → get_or flags i false ≡ false → slice_index (charged loads flags) i ≡ 0
uncharged [] flags i e = refl
uncharged (x ∷ loads) [] i e = refl
uncharged (x ∷ loads) (flag ∷ flags) zero e = ap (λ (b : Bool). cond b x 0) e
uncharged (x ∷ loads) (flag ∷ flags) (suc i) e = uncharged loads flags i e

pub fee_at : (fees : List ℕ) (i fee : ℕ) → i < length fees → slice_index fees i ≡ fee → slice_index_or (map (λ n. Some n) fees) i None ≡ Some fee
fee_at fees i fee below e = get_or-map (λ (n : ℕ). Some n) fees i 0 None below ∙ ap (λ (n : ℕ). Some n) e
