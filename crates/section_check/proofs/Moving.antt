-- Other numbers of nodes change no fee, no potential and no place.
use Rattle.std.proofs.Common.{◌≡◌, ℕ, zero, suc, ◌+◌, ◌<◌, ◌≤◌, ◌||◌, ℤ, Bool, true, false, cond, eqb, List, [], ◌∷◌, length, map, get_or, Contains, Option, Some, None, refl, sym, ap, ap₂, ◌∙◌, subst, inl, inr, arith}
use Rattle.std.specs.Prelude.{IfSome}
use Rattle.std.specs.Option.{option_map}
use Rattle.std.specs.List.Sorted.{IsStrictlyIncreasing}
use Rattle.std.proofs.lemmas.Bool.{cases_eq, cases_lt, cases_order, eq-eqb, ne_eqb}
use Rattle.std.proofs.lemmas.List.{get_or-map, length-map}
use Rattle.std.proofs.lemmas.List.Elements.{All-map, Contains-get_or}
use Rattle.lists.specs.Members.{at_head, in_tail, has_or_not, map_contains}
use Rattle.loop_nest.specs.Digraph.{Digraph, Edge}
use Rattle.loop_nest.proofs.Elements.{from_map}
use Rattle.section_check.specs.Bounded.{holds}
use Rattle.section_check.specs.Section.{CertifiedLoop, Certified, PricedLoop, priced, headed_by, headed_fee, entry_fee, potential, with_fee, start_value, listed, IsPotential, IsInForm}
use Rattle.section_check.specs.Placing.{IsEntryAt, LiesIn, CrossesAnother, IsFaulty, IsMisplaced}
use Rattle.section_check.specs.Placing.IsFaulty.{shares_header, leaves_header_out, crosses_another, does_not_fit, lies_in_region}
use Rattle.section_check.specs.Placing.IsMisplaced.{lists_no_node, holds_no_node, heads_faulty, enters_aside, holds_entry, exceeds_limit}
use Rattle.section_check.specs.Conditions.{DescendsTo, DescendsFrom, EdgeHolds, ExitHolds, CoversCost, IsAccepted, natural_of, value_of}
use Rattle.section_check.specs.Renumbering.{IsRenumbered, AreMovedCosts, moved_loop, moved, RenumberedStaysAccepted, RenumberedStaysInForm}

-- entry i of a mapped list
at_map : {X Y : Type 0} (f : X → Y) (xs : List X) (i : ℕ) (y : Y) → IsEntryAt (map f xs) i y → (x : X) × IsEntryAt xs i x × (y ≡ f x)
at_map f [] i y at = let below = at.0 in absurd (omega arith)
at_map f (x ∷ xs) zero y at = (x, (omega arith, refl), sym at.1)
at_map f (x ∷ xs) (suc i) y at =
    let below = at.0 in
    let r = at_map f xs i y (omega arith, at.1) in
    let lt = r.1.0 in
    (r.0, (omega arith, r.1.1), r.2)

abbrev moved_price : (ℕ → ℕ) → PricedLoop → PricedLoop
moved_price node l = record l { certified = moved_loop node l.certified }

same_fee : (node : ℕ → ℕ) (o : Option PricedLoop) → headed_fee (option_map (moved_price node) o) ≡ headed_fee o
same_fee node None = refl
same_fee node (Some l) = refl

chosen : {X Y : Type 0} (f : X → Y) (b : Bool) (x : X) (o : Option X) → cond b (Some (f x)) (option_map f o) ≡ option_map f (cond b (Some x) o)
chosen f true x o = refl
chosen f false x o = refl

descends_to : (node : ℕ → ℕ) (t : Bool) (l : PricedLoop) (cost : ℕ) (p q : ℤ) → DescendsTo t l cost p q → DescendsTo t (moved_price node l) cost p q
descends_to node true l cost p q h = h
descends_to node false l cost p q h = h

module _ (d g : Digraph) (node : ℕ → ℕ) (r : IsRenumbered d g node) where
  abbrev AreNodes : List ℕ → Type 0
  AreNodes us = (u : ℕ) → Contains us u → u < d.nodes

  rest_nodes : (m : ℕ) (ms : List ℕ) → AreNodes (m ∷ ms) → AreNodes ms
  rest_nodes m ms nodes u has = nodes u (in_tail m u ms has)

  same_node : (u v : ℕ) → u < d.nodes → v < d.nodes → node u ≡ node v → u ≡ v
  same_node u v lu lv same =
      elim (cases_order u v) [
        | inl e ↦ e
        | inr apart ↦
            elim apart [
              | inl less ↦ let up = r.rising u v less lv in absurd (omega arith)
              | inr more ↦ let up = r.rising v u more lu in absurd (omega arith)
            ]
      ]

  same_test : (u v : ℕ) → u < d.nodes → v < d.nodes → eqb (node u) (node v) ≡ eqb u v
  same_test u v lu lv =
      elim (cases_eq u v) [
        | inl e ↦ eq-eqb (node u) (node v) (ap node e) ∙ sym (eq-eqb u v e)
        | inr other ↦ ne_eqb (node u) (node v) (λ same. other (same_node u v lu lv same)) ∙ sym (ne_eqb u v other)
      ]

  same_holds : (ms : List ℕ) → AreNodes ms → (u : ℕ) → u < d.nodes → holds (map node ms) (node u) ≡ holds ms u
  same_holds [] nodes u lu = refl
  same_holds (m ∷ ms) nodes u lu = ap₂ (λ (a b : Bool). a || b) (same_test m u (nodes m (at_head m ms)) lu) (same_holds ms (rest_nodes m ms nodes) u lu)

  moved_back : (ms : List ℕ) → AreNodes ms → (u : ℕ) → u < d.nodes → Contains (map node ms) (node u) → Contains ms u
  moved_back ms nodes u lu has =
      let f = from_map node ms (node u) has in
      let P : ℕ → Type 0 = λ z. Contains ms z in
      subst P (same_node f.0 u (nodes f.0 f.1) lu f.2) f.1

  same_potential : (ps : List (ℕ × ℤ)) → AreNodes (listed ps) → (u : ℕ) → u < d.nodes → potential (map (λ p. (node p.0, p.1)) ps) (node u) ≡ potential ps u
  same_potential [] nodes u lu = refl
  same_potential (p ∷ ps) nodes u lu =
      ap₂ (λ (b : Bool) (o : Option ℤ). cond b (Some p.1) o) (same_test p.0 u (nodes p.0 (at_head p.0 (listed ps))) lu) (same_potential ps (rest_nodes p.0 (listed ps) nodes) u lu)

  moved_listed : (ps : List (ℕ × ℤ)) → listed (map (λ p. (node p.0, p.1)) ps) ≡ map node (listed ps)
  moved_listed [] = refl
  moved_listed (p ∷ ps) = ap (λ (us : List ℕ). node p.0 ∷ us) (moved_listed ps)

  rising_moved : (us : List ℕ) → AreNodes us → IsStrictlyIncreasing us → IsStrictlyIncreasing (map node us)
  rising_moved us nodes rise k lt =
      let long = length-map us node in
      let lt' : k + 1 < length us = omega arith in
      let here = get_or-map node us k 0 0 (let e : k < length us = omega arith in e) in
      let next = get_or-map node us (k + 1) 0 0 lt' in
      let up = r.rising (get_or us k 0) (get_or us (k + 1) 0) (rise k lt') (nodes (get_or us (k + 1) 0) (Contains-get_or us (k + 1) 0 lt')) in
      omega arith

  not_falling : (u v : ℕ) → u ≤ v → v < d.nodes → node u ≤ node v
  not_falling u v le lv =
      elim (cases_eq u v) [
        | inl same ↦ let e = ap node same in omega arith
        | inr other ↦ let up = r.rising u v (omega arith) lv in omega arith
      ]

  abbrev AreLoopsOfNodes : List CertifiedLoop → Type 0
  AreLoopsOfNodes ls = (l : CertifiedLoop) → Contains ls l → (l.header < d.nodes) × AreNodes l.members

  rest_loops : (l : CertifiedLoop) (ls : List CertifiedLoop) → AreLoopsOfNodes (l ∷ ls) → AreLoopsOfNodes ls
  rest_loops l ls nodes m has = nodes m (in_tail l m ls has)

  same_headed : (ls : List CertifiedLoop) (bs : List ℕ) (xs : List (Option ℕ)) → AreLoopsOfNodes ls → (u : ℕ) → u < d.nodes
      → headed_by (node u) (priced (map (moved_loop node) ls) bs xs) ≡ option_map (moved_price node) (headed_by u (priced ls bs xs))
  same_headed [] bs xs nodes u lu = refl
  same_headed (l ∷ ls) [] xs nodes u lu = refl
  same_headed (l ∷ ls) (b ∷ bs) [] nodes u lu = refl
  same_headed (l ∷ ls) (b ∷ bs) (x ∷ xs) nodes u lu =
      let one : PricedLoop = record { certified = l; bound = b; load = x } in
      ap₂ (λ (t : Bool) (o : Option PricedLoop). cond t (Some (moved_price node one)) o) (same_test l.header u (nodes l (at_head l ls)).0 lu) (same_headed ls bs xs (rest_loops l ls nodes) u lu)
      ∙ chosen (moved_price node) (eqb l.header u) one (headed_by u (priced ls bs xs))

  headed_members : (ls : List CertifiedLoop) (bs : List ℕ) (xs : List (Option ℕ)) → AreLoopsOfNodes ls → (u : ℕ) → IfSome (headed_by u (priced ls bs xs)) (λ l. AreNodes l.certified.members)
  headed_members [] bs xs nodes u = tt
  headed_members (l ∷ ls) [] xs nodes u = tt
  headed_members (l ∷ ls) (b ∷ bs) [] nodes u = tt
  headed_members (l ∷ ls) (b ∷ bs) (x ∷ xs) nodes u =
      let one : PricedLoop = record { certified = l; bound = b; load = x } in
      let P : Bool → Type 0 = λ t. IfSome (cond t (Some one) (headed_by u (priced ls bs xs))) (λ k. AreNodes k.certified.members) in
      elim (eqb l.header u) as P [ true ↦ (nodes l (at_head l ls)).1 | false ↦ headed_members ls bs xs (rest_loops l ls nodes) u ]

  descends : (o : Option PricedLoop) → IfSome o (λ l. AreNodes l.certified.members) → (cost u : ℕ) → u < d.nodes → (p q : Option ℤ) → DescendsFrom o cost u p q → DescendsFrom (option_map (moved_price node) o) cost (node u) p q
  descends o nodes cost u lu p None h = tt
  descends o nodes cost u lu None (Some q) h = absurd h
  descends None nodes cost u lu (Some p) (Some q) h = h
  descends (Some l) nodes cost u lu (Some p) (Some q) h =
      let P : Bool → Type 0 = λ t. DescendsTo t (moved_price node l) cost p q in
      subst P (sym (same_holds l.certified.members nodes u lu)) (descends_to node (holds l.certified.members u) l cost p q h)

  module _ (costs : List ℕ) (c : Certified) (bounds : List ℕ) (loads : List (Option ℕ)) (a : IsAccepted d costs c bounds loads) where
    abbrev ls : List CertifiedLoop
    ls = c.loops

    listed_node : AreNodes (listed c.nodes)
    listed_node u has = elim (cases_lt u d.nodes) [ inl below ↦ below | inr beyond ↦ absurd (a.placed u (lists_no_node has beyond)) ]

    member_node : (l : CertifiedLoop) → Contains ls l → AreNodes l.members
    member_node l among u has =
        elim (cases_lt u d.nodes) [ inl below ↦ below | inr beyond ↦ absurd (a.placed u (holds_no_node (record { holder = l; among = among; inside = has }) beyond)) ]

    own_header : (l : CertifiedLoop) → Contains ls l → Contains l.members l.header
    own_header l among =
        elim (has_or_not l.members l.header) [
          | inl has ↦ has
          | inr out ↦ absurd (a.placed l.header (heads_faulty (record { place = among.0; headed = l; at = (among.1, among.2); header = refl; faulty = leaves_header_out out })))
        ]

    header_node : (l : CertifiedLoop) → Contains ls l → l.header < d.nodes
    header_node l among = member_node l among l.header (own_header l among)

    loop_nodes : AreLoopsOfNodes ls
    loop_nodes l among = (header_node l among, member_node l among)

    entry_node : 0 < d.nodes
    entry_node = r.digraph.entry

    at_entry : {X : Type 0} (f : ℕ → X) → f 0 ≡ f (node 0)
    at_entry f = ap f (sym r.entry)

    edge_ends : (u v : ℕ) → Edge d u v → (u < d.nodes) × (v < d.nodes)
    edge_ends u v e =
        let P : ℕ × ℕ → Type 0 = λ x. (x.0 < d.nodes) × (x.1 < d.nodes) in
        subst P e.2 (r.digraph.edges.ends e.0 (u, v) e.1)

    -- ---- fees and potentials

    same_start : start_value (moved node c) (priced (map (moved_loop node) ls) bounds loads) ≡ start_value c (priced ls bounds loads)
    same_start =
        ap₂ with_fee
        (at_entry (potential (moved node c).nodes) ∙ same_potential c.nodes listed_node 0 entry_node)
        (at_entry (entry_fee (priced (map (moved_loop node) ls) bounds loads)) ∙ (ap headed_fee (same_headed ls bounds loads loop_nodes 0 entry_node) ∙ same_fee node (headed_by 0 (priced ls bounds loads))))

    -- ---- places

    -- loop i before it was moved
    record Was (i : ℕ) (m : CertifiedLoop) : Type 0 where
      was : CertifiedLoop
      at : IsEntryAt ls i was
      is : m ≡ moved_loop node was

    was_at : (i : ℕ) (m : CertifiedLoop) → IsEntryAt (map (moved_loop node) ls) i m → Was i m
    was_at i m at = let b = at_map (moved_loop node) ls i m at in record { was = b.0; at = b.1; is = b.2 }

    was_among : (m : CertifiedLoop) (has : Contains (map (moved_loop node) ls) m) → Was has.0 m
    was_among m has = was_at has.0 m (has.1, has.2)

    among : (i : ℕ) (m : CertifiedLoop) (w : Was i m) → Contains ls w.was
    among i m w = (i, w.at.0, w.at.1)

    members_of : (i : ℕ) (m : CertifiedLoop) (w : Was i m) → m.members ≡ map node w.was.members
    members_of i m w = ap (λ (l : CertifiedLoop). l.members) w.is

    header_of : (i : ℕ) (m : CertifiedLoop) (w : Was i m) → m.header ≡ node w.was.header
    header_of i m w = ap (λ (l : CertifiedLoop). l.header) w.is

    -- a member before the move, and after it
    was_member : (i : ℕ) (m : CertifiedLoop) (w : Was i m) (u : ℕ) → u < d.nodes → Contains m.members (node u) → Contains w.was.members u
    was_member i m w u lu has =
        let P : List ℕ → Type 0 = λ us. Contains us (node u) in
        moved_back w.was.members (member_node w.was (among i m w)) u lu (subst P (members_of i m w) has)

    is_member : (i : ℕ) (m : CertifiedLoop) (w : Was i m) (u : ℕ) → Contains w.was.members u → Contains m.members (node u)
    is_member i m w u has =
        let P : List ℕ → Type 0 = λ us. Contains us (node u) in
        subst P (sym (members_of i m w)) (map_contains node w.was.members u has)

    -- a member after the move is one that was moved
    member_was : (i : ℕ) (m : CertifiedLoop) (w : Was i m) (x : ℕ) → Contains m.members x → (u : ℕ) × Contains w.was.members u × (node u ≡ x)
    member_was i m w x has =
        let P : List ℕ → Type 0 = λ us. Contains us x in
        from_map node w.was.members x (subst P (members_of i m w) has)

    lies : (i k : ℕ) (l m : CertifiedLoop) (v : Was i l) (w : Was k m) → LiesIn l m → LiesIn v.was w.was
    lies i k l m v w h u has = was_member k m w u (member_node v.was (among i l v) u has) (h (node u) (is_member i l v u has))

    lies_back : (i k : ℕ) (l m : CertifiedLoop) (v : Was i l) (w : Was k m) → LiesIn v.was w.was → LiesIn l m
    lies_back i k l m v w h x has =
        let f = member_was i l v x has in
        let P : ℕ → Type 0 = λ z. Contains m.members z in
        subst P f.2 (is_member k m w f.0 (h f.0 f.1))

    crossing : (i : ℕ) (l : CertifiedLoop) (v : Was i l) → CrossesAnother (map (moved_loop node) ls) l → CrossesAnother ls v.was
    crossing i l v h =
        let w = was_among h.other h.among in
        let k = h.crossed in
        let f = member_was i l v k.common k.first in
        let P : ℕ → Type 0 = λ z. Contains h.other.members z in
        record {
          other = w.was;
          among = among h.among.0 h.other w;
          crossed = record {
            common = f.0;
            first = f.1;
            second = was_member h.among.0 h.other w f.0 (member_node v.was (among i l v) f.0 f.1) (subst P (sym f.2) k.second);
            not_in = λ inside. k.not_in (lies_back i h.among.0 l h.other v w inside);
            not_around = λ around. k.not_around (lies_back h.among.0 i h.other l w v around);
          };
        }

    faulty : (i : ℕ) (l : CertifiedLoop) → (v : Was i l) → IsFaulty (map (moved_loop node) ls) loads i l → IsFaulty ls loads i v.was
    faulty i l v (shares_header s) =
        let w = was_at s.place s.other s.at in
        let same : node w.was.header ≡ node v.was.header = sym (header_of s.place s.other w) ∙ (s.same ∙ header_of i l v) in
        shares_header (record {
          place = s.place;
          other = w.was;
          at = w.at;
          apart = s.apart;
          same = same_node w.was.header v.was.header (header_node w.was (among s.place s.other w)) (header_node v.was (among i l v)) same;
        })
    faulty i l v (leaves_header_out out) =
        let P : ℕ → Type 0 = λ z. Contains l.members z in
        leaves_header_out (λ has. out (subst P (sym (header_of i l v)) (is_member i l v v.was.header has)))
    faulty i l v (crosses_another h) = crosses_another (crossing i l v h)
    faulty i l v (does_not_fit region none) = does_not_fit (ap (λ (k : CertifiedLoop). k.region) (sym v.is) ∙ region) none
    faulty i l v (lies_in_region region h) =
        let w = was_at h.place h.other h.at in
        lies_in_region (ap (λ (k : CertifiedLoop). k.region) (sym v.is) ∙ region) (record {
          place = h.place;
          other = w.was;
          at = w.at;
          apart = h.apart;
          region = ap (λ (k : CertifiedLoop). k.region) (sym w.is) ∙ h.region;
          within = lies i h.place l h.other v w h.within;
        })

    placed : (x : ℕ) → IsMisplaced g (moved node c) bounds loads x → ⊥
    placed x (lists_no_node has beyond) =
        let P : List ℕ → Type 0 = λ us. Contains us x in
        let f = from_map node (listed c.nodes) x (subst P (moved_listed c.nodes) has) in
        let e = f.2 in
        let below = r.within f.0 (listed_node f.0 f.1) in
        omega arith
    placed x (holds_no_node h beyond) =
        let w = was_among h.holder h.among in
        let f = member_was h.among.0 h.holder w x h.inside in
        let e = f.2 in
        let below = r.within f.0 (member_node w.was (among h.among.0 h.holder w) f.0 f.1) in
        omega arith
    placed x (heads_faulty h) =
        let w = was_at h.place h.headed h.at in
        a.placed w.was.header (heads_faulty (record { place = h.place; headed = w.was; at = w.at; header = refl; faulty = faulty h.place h.headed w h.faulty }))
    placed x (enters_aside y e h) =
        let b = r.edges x y e in
        let ends = edge_ends b.0 b.1 b.2 in
        let w = was_among h.entered h.among in
        let P : ℕ → Type 0 = λ z. Contains h.entered.members z in
        a.placed b.0 (enters_aside b.1 b.2 (record {
          entered = w.was;
          among = among h.among.0 h.entered w;
          inside = was_member h.among.0 h.entered w b.1 ends.1 (subst P (sym b.4) h.inside);
          outside = λ has. h.outside (subst P b.3 (is_member h.among.0 h.entered w b.0 has));
          aside = λ same. h.aside (sym b.4 ∙ (ap node same ∙ sym (header_of h.among.0 h.entered w)));
        }))
    placed x (holds_entry at h) =
        let w = was_among h.holder h.among in
        let P : ℕ → Type 0 = λ z. Contains h.holder.members z in
        a.placed 0 (holds_entry refl (record {
          holder = w.was;
          among = among h.among.0 h.holder w;
          header = λ same. h.header (header_of h.among.0 h.holder w ∙ (ap node same ∙ r.entry));
          inside = was_member h.among.0 h.holder w 0 entry_node (subst P (sym r.entry) h.inside);
        }))
    placed x (exceeds_limit at h) = a.placed 0 (exceeds_limit refl (record { value = h.value; is = sym same_start ∙ h.is; exceeds = h.exceeds }))

    pub same_value : value_of (moved node c) (priced (map (moved_loop node) ls) bounds loads) ≡ value_of c (priced ls bounds loads)
    same_value = ap natural_of same_start

    pub stays_in_form : IsInForm c bounds loads → IsInForm (moved node c) bounds loads
    stays_in_form f = record {
      nodes = let P : List ℕ → Type 0 = λ us. IsStrictlyIncreasing us in subst P (sym (moved_listed c.nodes)) (rising_moved (listed c.nodes) listed_node f.nodes);
      potentials = All-map (λ (p : ℕ × ℤ). IsPotential p.1) (λ (p : ℕ × ℤ). (node p.0, p.1)) c.nodes f.potentials;
      members = All-map (λ (l : CertifiedLoop). IsStrictlyIncreasing l.members) (moved_loop node) ls (λ k e lt.
          rising_moved (get_or ls k e).members (member_node (get_or ls k e) (Contains-get_or ls k e lt)) (f.members k e lt));
      headers = λ k e lt.
          let long = length-map ls (moved_loop node) in
          let lt' : k + 1 < length ls = omega arith in
          let lt0 : k < length ls = omega arith in
          let here = ap (λ (l : CertifiedLoop). l.header) (get_or-map (moved_loop node) ls k e e lt0) in
          let next = ap (λ (l : CertifiedLoop). l.header) (get_or-map (moved_loop node) ls (k + 1) e e lt') in
          let up = not_falling (get_or ls k e).header (get_or ls (k + 1) e).header (f.headers k e lt') (header_node (get_or ls (k + 1) e) (Contains-get_or ls (k + 1) e lt')) in
          omega arith;
      bounded = f.bounded ∙ sym (length-map ls (moved_loop node));
      loaded = f.loaded ∙ sym (length-map ls (moved_loop node));
    }

    module _ (others : List ℕ) (same_costs : AreMovedCosts d node costs others) where
      edge_holds : (u v : ℕ) → Edge d u v → EdgeHolds others (moved node c) (priced (map (moved_loop node) ls) bounds loads) (node u) (node v)
      edge_holds u v e =
          let ends = edge_ends u v e in
          let ps = (moved node c).nodes in
          let h = descends (headed_by v (priced ls bounds loads)) (headed_members ls bounds loads loop_nodes v) (get_or costs u 0) u ends.0 (potential c.nodes u) (potential c.nodes v) (a.edges u v e) in
          let P : Option PricedLoop → Type 0 = λ o. DescendsFrom o (get_or costs u 0) (node u) (potential c.nodes u) (potential c.nodes v) in
          let Q : ℕ → Type 0 = λ cost. DescendsFrom (headed_by (node v) (priced (map (moved_loop node) ls) bounds loads)) cost (node u) (potential c.nodes u) (potential c.nodes v) in
          let R : Option ℤ → Type 0 = λ p. DescendsFrom (headed_by (node v) (priced (map (moved_loop node) ls) bounds loads)) (get_or others (node u) 0) (node u) p (potential c.nodes v) in
          let S : Option ℤ → Type 0 = λ q. DescendsFrom (headed_by (node v) (priced (map (moved_loop node) ls) bounds loads)) (get_or others (node u) 0) (node u) (potential ps (node u)) q in
          subst S (sym (same_potential c.nodes listed_node v ends.1))
          (subst R (sym (same_potential c.nodes listed_node u ends.0)) (subst Q (sym (same_costs u ends.0)) (subst P (sym (same_headed ls bounds loads loop_nodes v ends.1)) h)))

      exit_holds : (u : ℕ) → Contains d.exits u → ExitHolds others (moved node c) (node u)
      exit_holds u exit =
          let below : u < d.nodes = (let P : ℕ → Type 0 = λ x. x < d.nodes in subst P exit.2 (r.digraph.exits.within exit.0 u exit.1)) in
          let Q : ℕ → Type 0 = λ cost. CoversCost cost (potential c.nodes u) in
          let R : Option ℤ → Type 0 = λ p. CoversCost (get_or others (node u) 0) p in
          subst R (sym (same_potential c.nodes listed_node u below)) (subst Q (sym (same_costs u below)) (a.exits u exit))

      pub stays_accepted : IsAccepted g others (moved node c) bounds loads
      stays_accepted = record {
        placed = placed;
        edges = λ x y e.
            let b = r.edges x y e in
            let P : ℕ → Type 0 = λ z. EdgeHolds others (moved node c) (priced (map (moved_loop node) ls) bounds loads) z (node b.1) in
            let Q : ℕ → Type 0 = λ z. EdgeHolds others (moved node c) (priced (map (moved_loop node) ls) bounds loads) x z in
            subst Q b.4 (subst P b.3 (edge_holds b.0 b.1 b.2));
        exits = λ x exit.
            let b = r.exits x exit in
            let P : ℕ → Type 0 = λ z. ExitHolds others (moved node c) z in
            subst P b.2 (exit_holds b.0 b.1);
      }

pub renumbered_stays_accepted : RenumberedStaysAccepted
renumbered_stays_accepted d g node costs others c bounds loads r same a = (stays_accepted d g node r costs c bounds loads a others same, same_value d g node r costs c bounds loads a)

pub renumbered_stays_in_form : RenumberedStaysInForm
renumbered_stays_in_form d g node costs c bounds loads r a f = stays_in_form d g node r costs c bounds loads a f
