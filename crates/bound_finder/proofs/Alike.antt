-- The loops of a live graph are told by it, one by one, and so is what they are charged.
use Rattle.std.proofs.Common.{◌≡◌, ℕ, ◌<◌, Bool, true, false, List, [], ◌∷◌, length, map, get_or, slice_index, refl, sym, ap, ap₂, ◌∙◌, arith}
use Rattle.std.specs.Prelude.{◌&&◌, if◌then◌else◌}
use Rattle.std.proofs.lemmas.List.{length-map, get_or-map}
use Rattle.lists.specs.Members.{heads, tails}
use Rattle.loop_nest.specs.Nest.{NaturalLoop, headers_of}
use Rattle.section_check.specs.Bounded.{BoundedLoop, holds}
use Rattle.section_check.specs.Placing.{IsEntryAt}
use Rattle.section_check.proofs.Headed.{itself_at}
use Rattle.path_solver.specs.Longest.{bounded_loops}
use Rattle.bytecode_model.specs.Program.{Program}
use Rattle.method_flow.specs.Keeping.{BoundOf}
use Rattle.method_flow.specs.declared.timing.Timing.{Timing}
use Rattle.bound_rules.specs.Fitting.{header_bounds}
use Rattle.bound_rules.specs.Laws.{ChargedLoopsAreOne}
use Rattle.bound_rules.specs.Numbers.{LiveNest, no_fees, AreCharged, AreLoads, is_in_charged}
use Rattle.bound_rules.proofs.Numbering.{same_loads_by}
use Rattle.bound_rules.proofs.Views.{same_lists}
use Rattle.compact_walks.proofs.Loops.{no_loop}

abbrev pub members_of : List NaturalLoop → List (List ℕ)
members_of ls = map (λ (l : NaturalLoop). l.members) ls

bounded_members : (ls : List NaturalLoop) (bounds fees : List ℕ) → length bounds ≡ length ls → length fees ≡ length ls → map (λ (l : BoundedLoop). l.members) (bounded_loops ls bounds fees) ≡ members_of ls
bounded_members [] bounds fees lb lf = refl
bounded_members (l ∷ ls) [] fees lb lf = absurd (omega arith)
bounded_members (l ∷ ls) (b ∷ bs) [] lb lf = absurd (omega arith)
bounded_members (l ∷ ls) (b ∷ bs) (f ∷ fs) lb lf = ap (λ (mss : List (List ℕ)). l.members ∷ mss) (bounded_members ls bs fs (omega arith) (omega arith))

module _ (one : ChargedLoopsAreOne) (P : Program) (bound_of : BoundOf) (m : ℕ) (a b : LiveNest P bound_of m) where
  pub same_long : length a.nest ≡ length b.nest
  same_long =
      let headers = ap length (one P bound_of m a b (no_fees a)).0 in
      let long_a = length-map a.nest (λ (l : NaturalLoop). l.header) in
      let long_b = length-map b.nest (λ (l : NaturalLoop). l.header) in
      omega arith

  pub same_members : members_of a.nest ≡ members_of b.nest
  same_members =
      let loops = (one P bound_of m a b (no_fees a)).1 in
      let long = same_long in
      let zeros : length (no_fees a) ≡ length a.nest = length-map {B = ℕ} a.nest (λ (l : NaturalLoop). 0) in
      sym (bounded_members a.nest (header_bounds bound_of m (headers_of a.nest)) (no_fees a) (bounds_long a) zeros)
      ∙ ap (map (λ (l : BoundedLoop). l.members)) loops
      ∙ bounded_members b.nest (header_bounds bound_of m (headers_of b.nest)) (no_fees a) (bounds_long b) (omega arith)
    where
      bounds_long : (c : LiveNest P bound_of m) → length (header_bounds bound_of m (headers_of c.nest)) ≡ length c.nest
      bounds_long c = length-map (headers_of c.nest) _ ∙ length-map c.nest (λ (l : NaturalLoop). l.header)

-- ---- nodes of charged loops

pub same_charged : (ls ks : List NaturalLoop) → members_of ls ≡ members_of ks → (flags : List Bool) (u : ℕ) → is_in_charged ls flags u ≡ is_in_charged ks flags u
same_charged [] [] e flags u = refl
same_charged [] (k ∷ ks) e flags u = absurd (cc)
same_charged (l ∷ ls) [] e flags u = absurd (cc)
same_charged (l ∷ ls) (k ∷ ks) e [] u = refl
same_charged (l ∷ ls) (k ∷ ks) e (flag ∷ flags) u =
    ap₂ (λ (us : List ℕ) (b : Bool). if flag && holds us u then true else b) (heads l.members k.members (members_of ls) (members_of ks) e) (same_charged ls ks (tails l.members k.members (members_of ls) (members_of ks) e) flags u)

-- ---- loads

-- loops with the same members are charged the same
pub same_fees : (P : Program) (t : Timing) (m : ℕ) (ls ks : List NaturalLoop) (flags : List Bool) (fees others : List ℕ) → length ls ≡ length ks → members_of ls ≡ members_of ks → AreCharged P t m ls flags → AreCharged P t m ks flags
    → AreLoads P t m ls flags fees → AreLoads P t m ks flags others → fees ≡ others
same_fees P t m ls ks flags fees others long members a b x y = same_lists 0 fees others (x.long ∙ (long ∙ sym y.long)) (λ i below. by i below (get_or flags i false) refl)
  where
    by : (i : ℕ) → i < length fees → (c : Bool) → get_or flags i false ≡ c → slice_index fees i ≡ slice_index others i
    by i below false is = x.others i (λ f. let bad : false ≡ true = sym is ∙ f in cc) ∙ sym (y.others i (λ f. let bad : false ≡ true = sym is ∙ f in cc))
    by i below true is =
        let fees_long = x.long in
        let l = get_or ls i no_loop in
        let k = get_or ks i no_loop in
        let at_l : IsEntryAt ls i l = itself_at ls i no_loop (omega arith) in
        let at_k : IsEntryAt ks i k = itself_at ks i no_loop (omega arith) in
        let same : l.members ≡ k.members =
        sym (get_or-map (λ (n : NaturalLoop). n.members) ls i no_loop [] (omega arith)) ∙ (ap (λ (mss : List (List ℕ)). get_or mss i []) members ∙ get_or-map (λ (n : NaturalLoop). n.members) ks i no_loop [] (omega arith))
        in
        let fits_l = ((a.each i l at_l).0 is).fits in
        let fits_k = ((b.each i k at_k).0 is).fits in
        x.charged i l at_l is fits_l ∙ (same_loads_by P t m l.members k.members same fits_l fits_k ∙ sym (y.charged i k at_k is fits_k))
