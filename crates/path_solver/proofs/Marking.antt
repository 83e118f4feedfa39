-- The section of a greatest walk, with its loops marked as regions.
use Rattle.std.proofs.Common.{◌≡◌, ℕ, zero, suc, ◌+◌, ◌<◌, Bool, false, cond, List, [], ◌∷◌, ◌++◌, length, map, get_or, take, Contains, Option, Some, None, Ok, refl, sym, ap, ◌∙◌, subst, arith}
use Rattle.std.specs.List.Sorted.{IsStrictlyIncreasing}
use Rattle.std.proofs.lemmas.List.{length-map, get_or-map, get_or_default}
use Rattle.std.proofs.lemmas.List.Elements.{All-cons, All-head, All-tail}
use Rattle.loop_nest.specs.Digraph.{Digraph}
use Rattle.loop_nest.specs.Nest.{NaturalLoop}
use Rattle.section_check.specs.Section.{Certified, CertifiedLoop, IsInForm, HeadersRise, MembersRise}
use Rattle.section_check.specs.Placing.{IsEntryAt}
use Rattle.section_check.specs.Conditions.{IsSectionAnswer}
use Rattle.section_check.specs.Regions.{marked, with_regions, AreRegions, MarkedStaysAccepted}
use Rattle.section_check.proofs.Marking.{marked-long}
use Rattle.path_solver.specs.Longest.{AreLoopsOf}
use Rattle.path_solver.specs.Regions.{charged, AreRegionsApart, AreMarkedLoopsOf}

pub charged_long : (loads : List ℕ) (rs : List Bool) → length rs ≡ length loads → length (charged loads rs) ≡ length loads
charged_long [] rs long = refl
charged_long (l ∷ ls) [] long = absurd (omega arith)
charged_long (l ∷ ls) (r ∷ rs) long = ap suc (charged_long ls rs (omega arith))

-- one more
pub charged_more : (loads : List ℕ) (rs : List Bool) (i : ℕ) → i < length loads → i < length rs
    → charged (take i loads) (take i rs) ++ cond (get_or rs i false) (get_or loads i 0) 0 ∷ [] ≡ charged (take (suc i) loads) (take (suc i) rs)
charged_more [] rs i lt lt' = absurd (omega arith)
charged_more (l ∷ ls) [] i lt lt' = absurd (omega arith)
charged_more (l ∷ ls) (x ∷ xs) zero lt lt' = refl
charged_more (l ∷ ls) (x ∷ xs) (suc i) lt lt' = ap (λ (zs : List ℕ). cond x l 0 ∷ zs) (charged_more ls xs i (omega arith) (omega arith))

marked_headers : (ls : List CertifiedLoop) (rs : List Bool) → map (λ (l : CertifiedLoop). l.header) (marked ls rs) ≡ map (λ (l : CertifiedLoop). l.header) ls
marked_headers [] rs = refl
marked_headers (l ∷ ls) [] = refl
marked_headers (l ∷ ls) (r ∷ rs) = ap (λ (hs : List ℕ). l.header ∷ hs) (marked_headers ls rs)

marked_members : (ls : List CertifiedLoop) (rs : List Bool) → map (λ (l : CertifiedLoop). l.members) (marked ls rs) ≡ map (λ (l : CertifiedLoop). l.members) ls
marked_members [] rs = refl
marked_members (l ∷ ls) [] = refl
marked_members (l ∷ ls) (r ∷ rs) = ap (λ (ms : List (List ℕ)). l.members ∷ ms) (marked_members ls rs)

marked_marks : (ls : List CertifiedLoop) (rs : List Bool) → length rs ≡ length ls → map (λ (l : CertifiedLoop). l.region) (marked ls rs) ≡ rs
marked_marks [] [] long = refl
marked_marks [] (r ∷ rs) long = absurd (omega arith)
marked_marks (l ∷ ls) [] long = absurd (omega arith)
marked_marks (l ∷ ls) (r ∷ rs) long = ap (λ (bs : List Bool). r ∷ bs) (marked_marks ls rs (omega arith))

members_rise : (ls : List CertifiedLoop) (rs : List Bool) → MembersRise ls → MembersRise (marked ls rs)
members_rise [] rs h = h
members_rise (l ∷ ls) [] h = h
members_rise (l ∷ ls) (r ∷ rs) h =
    let P : CertifiedLoop → Type 0 = λ k. IsStrictlyIncreasing k.members in
    All-cons P (record l { region = r }) (marked ls rs) (All-head P l ls h) (members_rise ls rs (All-tail P l ls h))

header_at : (ls : List CertifiedLoop) (rs : List Bool) (k : ℕ) (d : CertifiedLoop) → k < length ls → (get_or (marked ls rs) k d).header ≡ (get_or ls k d).header
header_at ls rs k d lt =
    let long = marked-long ls rs in
    let here : k < length (marked ls rs) = omega arith in
    let f : CertifiedLoop → ℕ = λ l. l.header in
    sym (get_or-map f (marked ls rs) k d 0 here) ∙ ap (λ (hs : List ℕ). get_or hs k 0) (marked_headers ls rs) ∙ get_or-map f ls k d 0 lt

headers_rise : (ls : List CertifiedLoop) (rs : List Bool) → HeadersRise ls → HeadersRise (marked ls rs)
headers_rise ls rs h k d lt =
    let long = marked-long ls rs in
    let first = header_at ls rs k d (omega arith) in
    let second = header_at ls rs (k + 1) d (omega arith) in
    let rise = h k d (omega arith) in
    omega arith

pub in_form : (c : Certified) (bounds : List ℕ) (fitting : List (Option ℕ)) (rs : List Bool) → IsInForm c bounds fitting → IsInForm (with_regions c rs) bounds fitting
in_form c bounds fitting rs h =
    let long = marked-long c.loops rs in
    record {
      nodes = h.nodes;
      potentials = h.potentials;
      members = members_rise c.loops rs h.members;
      headers = headers_rise c.loops rs h.headers;
      bounded = h.bounded ∙ sym long;
      loaded = h.loaded ∙ sym long;
    }

pub as_many : (nest : List NaturalLoop) (ls : List CertifiedLoop) → AreLoopsOf nest ls → length ls ≡ length nest
as_many nest ls h = sym (length-map ls (λ (l : CertifiedLoop). l.header)) ∙ ap length h.headers ∙ length-map nest (λ (l : NaturalLoop). l.header)

pub marked_loops : (nest : List NaturalLoop) (ls : List CertifiedLoop) (rs : List Bool) → AreLoopsOf nest ls → length rs ≡ length nest → AreMarkedLoopsOf nest rs (marked ls rs)
marked_loops nest ls rs h long =
    record { headers = marked_headers ls rs ∙ h.headers; members = marked_members ls rs ∙ h.members; marks = marked_marks ls rs (long ∙ sym (as_many nest ls h)) }

-- loop i of the section has the members of loop i of the nest
members_of : (nest : List NaturalLoop) (ls : List CertifiedLoop) → AreLoopsOf nest ls → (i : ℕ) (l : CertifiedLoop) → IsEntryAt ls i l → (d : NaturalLoop) → (i < length nest) × (l.members ≡ (get_or nest i d).members)
members_of nest ls h i l at d =
    let many = as_many nest ls h in
    let lt = at.0 in
    let below : i < length nest = omega arith in (
      below,
      ap (λ (k : CertifiedLoop). k.members) (sym at.1) ∙ sym (get_or-map (λ (k : CertifiedLoop). k.members) ls i l [] lt) ∙ ap (λ (ms : List (List ℕ)). get_or ms i []) h.members
          ∙ get_or-map (λ (k : NaturalLoop). k.members) nest i d [] below,
    )

are_regions : (nest : List NaturalLoop) (ls : List CertifiedLoop) (loads : List ℕ) (rs : List Bool) → AreLoopsOf nest ls → length rs ≡ length nest → AreRegionsApart nest rs → AreRegions ls (map Some loads) rs
are_regions nest ls loads rs h long apart = record {
  long = long ∙ sym (as_many nest ls h);
  loaded = λ i region at.
      let many = length-map loads (λ (n : ℕ). Some n) in
      let lt = at.0 in
      let fits : get_or (map Some loads) i None ≡ Some (get_or loads i 0) = get_or-map (λ (n : ℕ). Some n) loads i 0 None (omega arith) in
      let bad : ⊥ = cc (fits, at.1) in
      bad;
  apart = λ i k l m at_i at_k other region_i region_k inside.
      let none : NaturalLoop = record { header = 0; members = []; outer = None } in
      let a = members_of nest ls h i l at_i none in
      let b = members_of nest ls h k m at_k none in
      let la = get_or nest i none in
      let lb = get_or nest k none in
      apart i k la lb (a.0, get_or_default nest i la none a.0) (b.0, get_or_default nest k lb none b.0) other region_i region_k (λ x has.
      let P : List ℕ → Type 0 = λ ms. Contains ms x in
      subst P b.1 (inside x (subst P (sym a.1) has)));
}

pub marked_shown : (g : Digraph) (nest : List NaturalLoop) (costs bounds loads : List ℕ) (rs : List Bool) (c : Certified) (value : ℕ) → MarkedStaysAccepted → AreLoopsOf nest c.loops → length rs ≡ length nest → IsSectionAnswer g costs c bounds (map Some loads) (Ok (Some value))
    → AreRegionsApart nest rs → IsSectionAnswer g costs (with_regions c rs) bounds (map Some loads) (Ok (Some value))
marked_shown g nest costs bounds loads rs c value law h long shown apart =
    let r = law g costs c bounds (map Some loads) rs (are_regions nest c.loops loads rs h long apart) shown.0 in
    (r.0, shown.1 ∙ sym r.1)
