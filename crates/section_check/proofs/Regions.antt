-- Marking loops as regions changes no fee and no place.
use Rattle.std.proofs.Common.{◌≡◌, ℕ, zero, suc, ℤ, Bool, true, false, cond, eqb, List, [], ◌∷◌, length, get_or, Contains, Option, Some, None, refl, sym, ap, ◌∙◌, subst, arith}
use Rattle.loop_nest.specs.Digraph.{Digraph}
use Rattle.section_check.specs.Section.{Certified, CertifiedLoop, PricedLoop, priced, headed_by, headed_fee, entry_fee, with_fee, potential}
use Rattle.section_check.specs.Placing.{IsEntryAt, LiesIn, CrossesAnother, IsFaulty, IsMisplaced}
use Rattle.section_check.specs.Placing.IsFaulty.{shares_header, leaves_header_out, crosses_another, does_not_fit, lies_in_region}
use Rattle.section_check.specs.Placing.IsMisplaced.{lists_no_node, holds_no_node, heads_faulty, enters_aside, holds_entry, exceeds_limit}
use Rattle.section_check.specs.Conditions.{DescendsTo, DescendsFrom, natural_of}
use Rattle.section_check.specs.Regions.{marked, with_regions, AreRegions, MarkedStaysAccepted}

-- loop i as it was before it was marked
record Was (ls : List CertifiedLoop) (rs : List Bool) (i : ℕ) (m : CertifiedLoop) : Type 0 where
  was : CertifiedLoop
  at : IsEntryAt ls i was
  header : m.header ≡ was.header
  members : m.members ≡ was.members
  region : get_or rs i false ≡ m.region

was_at : (ls : List CertifiedLoop) (rs : List Bool) → length rs ≡ length ls → (i : ℕ) (m : CertifiedLoop) → IsEntryAt (marked ls rs) i m → Was ls rs i m
was_at [] rs long i m at = let below = at.0 in absurd (omega arith)
was_at (l ∷ ls) [] long i m at = absurd (omega arith)
was_at (l ∷ ls) (r ∷ rs) long zero m at = record {
  was = l;
  at = (omega arith, refl);
  header = ap (λ (z : CertifiedLoop). z.header) (sym at.1);
  members = ap (λ (z : CertifiedLoop). z.members) (sym at.1);
  region = ap (λ (z : CertifiedLoop). z.region) at.1;
}
was_at (l ∷ ls) (r ∷ rs) long (suc i) m at =
    let below = at.0 in
    let w = was_at ls rs (omega arith) i m (omega arith, at.1) in
    let lt = w.at.0 in
    record { was = w.was; at = (omega arith, w.at.1); header = w.header; members = w.members; region = w.region }

-- the loop of a price, marked
abbrev with_region : PricedLoop → Bool → PricedLoop
with_region l r = record l { certified = record l.certified { region = r } }

-- one is the other but for its mark, or there is neither
abbrev Alike : Option PricedLoop → Option PricedLoop → Type 0
Alike None None = Unit {0}
Alike None (Some b) = ⊥
Alike (Some a) None = ⊥
Alike (Some a) (Some b) = (r : Bool) × (a ≡ with_region b r)

alike_itself : (o : Option PricedLoop) → Alike o o
alike_itself None = tt
alike_itself (Some a) = (a.certified.region, refl)

headed_alike : (u : ℕ) (ls : List CertifiedLoop) (rs : List Bool) (bs : List ℕ) (xs : List (Option ℕ)) → Alike (headed_by u (priced (marked ls rs) bs xs)) (headed_by u (priced ls bs xs))
headed_alike u [] rs bs xs = tt
headed_alike u (l ∷ ls) [] bs xs = alike_itself (headed_by u (priced (l ∷ ls) bs xs))
headed_alike u (l ∷ ls) (r ∷ rs) [] xs = tt
headed_alike u (l ∷ ls) (r ∷ rs) (b ∷ bs) [] = tt
headed_alike u (l ∷ ls) (r ∷ rs) (b ∷ bs) (x ∷ xs) =
    let one : PricedLoop = record { certified = record l { region = r }; bound = b; load = x } in
    let other : PricedLoop = record { certified = l; bound = b; load = x } in
    let P : Bool → Type 0 = λ t. Alike (cond t (Some one) (headed_by u (priced (marked ls rs) bs xs))) (cond t (Some other) (headed_by u (priced ls bs xs))) in
    elim (eqb l.header u) as P [ true ↦ (r, refl) | false ↦ headed_alike u ls rs bs xs ]

same_fee : (a b : Option PricedLoop) → Alike a b → headed_fee a ≡ headed_fee b
same_fee None None h = refl
same_fee None (Some b) h = absurd h
same_fee (Some a) None h = absurd h
same_fee (Some a) (Some b) h = ap (λ (l : PricedLoop). headed_fee (Some l)) h.1

descends_to : (t : Bool) (b : PricedLoop) (r : Bool) (cost : ℕ) (p q : ℤ) → DescendsTo t b cost p q → DescendsTo t (with_region b r) cost p q
descends_to true b r cost p q h = h
descends_to false b r cost p q h = h

descends_from : (a b : Option PricedLoop) → Alike a b → (cost u : ℕ) (p q : Option ℤ) → DescendsFrom b cost u p q → DescendsFrom a cost u p q
descends_from a b alike cost u p None h = tt
descends_from a b alike cost u None (Some q) h = absurd h
descends_from None None alike cost u (Some p) (Some q) h = h
descends_from None (Some b) alike cost u (Some p) (Some q) h = absurd alike
descends_from (Some a) None alike cost u (Some p) (Some q) h = absurd alike
descends_from (Some a) (Some b) alike cost u (Some p) (Some q) h =
    let P : PricedLoop → Type 0 = λ l. DescendsFrom (Some l) cost u (Some p) (Some q) in
    subst P (sym alike.1) (descends_to _ b alike.0 cost p q h)

has_member : (ms ns : List ℕ) (x : ℕ) → ms ≡ ns → Contains ms x → Contains ns x
has_member ms ns x same has = let P : List ℕ → Type 0 = λ zs. Contains zs x in subst P same has

module _ (c : Certified) (bounds : List ℕ) (loads : List (Option ℕ)) (rs : List Bool) (regions : AreRegions c.loops loads rs) where
  abbrev ls : List CertifiedLoop
  ls = c.loops

  before : (i : ℕ) (m : CertifiedLoop) → IsEntryAt (marked ls rs) i m → Was ls rs i m
  before = was_at ls rs regions.long

  among : (m : CertifiedLoop) (has : Contains (marked ls rs) m) → Was ls rs has.0 m
  among m has = before has.0 m (has.1, has.2)

  lies : (i k : ℕ) (l m : CertifiedLoop) (a : Was ls rs i l) (b : Was ls rs k m) → LiesIn l m → LiesIn a.was b.was
  lies i k l m a b h x has = has_member m.members b.was.members x b.members (h x (has_member a.was.members l.members x (sym a.members) has))

  lies_back : (i k : ℕ) (l m : CertifiedLoop) (a : Was ls rs i l) (b : Was ls rs k m) → LiesIn a.was b.was → LiesIn l m
  lies_back i k l m a b h x has = has_member b.was.members m.members x (sym b.members) (h x (has_member l.members a.was.members x a.members has))

  crossing : (i : ℕ) (l : CertifiedLoop) (a : Was ls rs i l) → CrossesAnother (marked ls rs) l → CrossesAnother ls a.was
  crossing i l a h =
      let b = among h.other h.among in
      let k = h.crossed in
      record {
        other = b.was;
        among = (h.among.0, b.at.0, b.at.1);
        crossed = record {
          common = k.common;
          first = has_member l.members a.was.members k.common a.members k.first;
          second = has_member h.other.members b.was.members k.common b.members k.second;
          not_in = λ inside. k.not_in (lies_back i h.among.0 l h.other a b inside);
          not_around = λ around. k.not_around (lies_back h.among.0 i h.other l b a around);
        };
      }

  faulty : (i : ℕ) (l : CertifiedLoop) → IsEntryAt (marked ls rs) i l → (a : Was ls rs i l) → IsFaulty (marked ls rs) loads i l → IsFaulty ls loads i a.was
  faulty i l at a (shares_header s) =
      let b = before s.place s.other s.at in
      shares_header (record { place = s.place; other = b.was; at = b.at; apart = s.apart; same = sym b.header ∙ s.same ∙ a.header })
  faulty i l at a (leaves_header_out out) =
      leaves_header_out (λ has. out (let P : ℕ → Type 0 = λ z. Contains l.members z in subst P (sym a.header) (has_member a.was.members l.members a.was.header (sym a.members) has)))
  faulty i l at a (crosses_another h) = crosses_another (crossing i l a h)
  faulty i l at a (does_not_fit region none) = absurd (regions.loaded i (a.region ∙ region) none)
  faulty i l at a (lies_in_region region h) =
      let b = before h.place h.other h.at in
      absurd (regions.apart i h.place a.was b.was a.at b.at h.apart (a.region ∙ region) (b.region ∙ h.region) (lies i h.place l h.other a b h.within))

  same_start : (u : ℕ) → entry_fee (priced (marked ls rs) bounds loads) u ≡ entry_fee (priced ls bounds loads) u
  same_start u = same_fee (headed_by u (priced (marked ls rs) bounds loads)) (headed_by u (priced ls bounds loads)) (headed_alike u ls rs bounds loads)

  misplaced : (g : Digraph) (u : ℕ) → IsMisplaced g (with_regions c rs) bounds loads u → IsMisplaced g c bounds loads u
  misplaced g u (lists_no_node has beyond) = lists_no_node has beyond
  misplaced g u (holds_no_node h beyond) =
      let b = among h.holder h.among in
      holds_no_node (record { holder = b.was; among = (h.among.0, b.at.0, b.at.1); inside = has_member h.holder.members b.was.members u b.members h.inside }) beyond
  misplaced g u (heads_faulty h) =
      let a = before h.place h.headed h.at in
      heads_faulty (record { place = h.place; headed = a.was; at = a.at; header = sym a.header ∙ h.header; faulty = faulty h.place h.headed h.at a h.faulty })
  misplaced g u (enters_aside v e h) =
      let b = among h.entered h.among in
      enters_aside v e (record {
        entered = b.was;
        among = (h.among.0, b.at.0, b.at.1);
        inside = has_member h.entered.members b.was.members v b.members h.inside;
        outside = λ has. h.outside (has_member b.was.members h.entered.members u (sym b.members) has);
        aside = λ same. h.aside (same ∙ sym b.header);
      })
  misplaced g u (holds_entry at h) =
      let b = among h.holder h.among in
      holds_entry at (record { holder = b.was; among = (h.among.0, b.at.0, b.at.1); header = λ same. h.header (b.header ∙ same); inside = has_member h.holder.members b.was.members 0 b.members h.inside })
  misplaced g u (exceeds_limit at h) =
      exceeds_limit at (record { value = h.value; is = sym (ap (with_fee (potential c.nodes 0)) (same_start 0)) ∙ h.is; exceeds = h.exceeds })

pub marked_stays_accepted : MarkedStaysAccepted
marked_stays_accepted g costs c bounds loads rs regions a =
    let heads : (u : ℕ) → Alike (headed_by u (priced (marked c.loops rs) bounds loads)) (headed_by u (priced c.loops bounds loads)) = λ u. headed_alike u c.loops rs bounds loads in (
      record {
        placed = λ u m. a.placed u (misplaced c bounds loads rs regions g u m);
        edges = λ u v e.
            descends_from (headed_by v (priced (marked c.loops rs) bounds loads)) (headed_by v (priced c.loops bounds loads)) (heads v) (get_or costs u 0) u (potential c.nodes u) (potential c.nodes v) (a.edges u v e);
        exits = a.exits;
      },
      ap natural_of (ap (with_fee (potential c.nodes 0)) (same_start c bounds loads rs regions 0)),
    )
