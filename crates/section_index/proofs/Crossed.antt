-- Loops cross exactly where the sets of their members' places do.
use Rattle.std.proofs.Common.{◌≡◌, ℕ, ◌<◌, List, length, get_or, Contains, Option, Some, None, refl, sym, ap, ◌∙◌, subst, arith}
use Rattle.lists.specs.Members.{contains_at, place_of}
use Rattle.section_index.specs.Family.{set_at}
use Rattle.section_index.specs.Crossing as sets
use Rattle.loop_nest.proofs.Rising.{same_place}
use Rattle.section_check.specs.Section.{CertifiedLoop}
use Rattle.section_check.specs.Placing.{IsEntryAt, LiesIn, AreCrossed}
use Rattle.section_check.specs.Least.{IsLeast}
use Rattle.section_check.proofs.Headed.{itself_at}
use Rattle.section_index.specs.Numbering.{AreNumbers, ArePlaces, ArePlaced, Crosses}

-- a place in a set is that of a member, and a member has its place there
pub member_at : (ns ms ps : List ℕ) → ArePlaces ns ms ps → (p : ℕ) → Contains ps p → Contains ms (get_or ns p 0)
member_at ns ms ps h p has =
    let at = place_of ps p has in
    let below = at.1 in
    let long = h.long in
    let e = h.each at.0 (omega arith) in
    contains_at ms at.0 (get_or ns p 0) (omega arith) (sym e.is ∙ ap (λ k. get_or ns k 0) at.2)

pub place_in : (ns ms ps : List ℕ) → ArePlaces ns ms ps → (x : ℕ) → Contains ms x → (p : ℕ) × Contains ps p × (p < length ns) × (get_or ns p 0 ≡ x)
place_in ns ms ps h x has =
    let at = place_of ms x has in
    let below = at.1 in
    let long = h.long in
    let e = h.each at.0 (omega arith) in
    (get_or ps at.0 0, contains_at ps at.0 (get_or ps at.0 0) (omega arith) refl, e.below, e.is ∙ at.2)

-- where a number is a member, its place is in the set
pub place_back : (ls : List CertifiedLoop) (ns ms ps : List ℕ) → AreNumbers ls ns → ArePlaces ns ms ps → (p : ℕ) → p < length ns → Contains ms (get_or ns p 0) → Contains ps p
place_back ls ns ms ps numbers h p lt has =
    let r = place_in ns ms ps h (get_or ns p 0) has in
    let P : ℕ → Type 0 = λ k. Contains ps k in
    subst P (same_place ns numbers.rising r.0 p r.2 lt r.3) r.1

pub below_all : (ns ms ps : List ℕ) → ArePlaces ns ms ps → (p : ℕ) → Contains ps p → p < length ns
below_all ns ms ps h p has =
    let at = place_of ps p has in
    let below = at.1 in
    let long = h.long in
    let e = (h.each at.0 (omega arith)).below in
    let same = at.2 in
    omega arith

module _ (ls : List CertifiedLoop) (ns : List ℕ) (ss : List (List ℕ)) (numbers : AreNumbers ls ns) (h : ArePlaced ns ls ss) where
  within_sets : (i k : ℕ) (l m : CertifiedLoop) → IsEntryAt ls i l → IsEntryAt ls k m → LiesIn l m → sets.IsWithin (set_at ss i) (set_at ss k)
  within_sets i k l m at_i at_k lies p has =
      let a = h.each i l at_i in
      let b = h.each k m at_k in
      place_back ls ns m.members (set_at ss k) numbers b p (below_all ns l.members (set_at ss i) a p has) (lies (get_or ns p 0) (member_at ns l.members (set_at ss i) a p has))

  within_loops : (i k : ℕ) (l m : CertifiedLoop) → IsEntryAt ls i l → IsEntryAt ls k m → sets.IsWithin (set_at ss i) (set_at ss k) → LiesIn l m
  within_loops i k l m at_i at_k within x has =
      let a = h.each i l at_i in
      let b = h.each k m at_k in
      let r = place_in ns l.members (set_at ss i) a x has in
      let P : ℕ → Type 0 = λ z. Contains m.members z in
      subst P r.3 (member_at ns m.members (set_at ss k) b r.0 (within r.0 r.1))

  crossed_sets : (i k : ℕ) (l m : CertifiedLoop) → IsEntryAt ls i l → IsEntryAt ls k m → AreCrossed l m → sets.AreCrossed (set_at ss i) (set_at ss k)
  crossed_sets i k l m at_i at_k c =
      let a = h.each i l at_i in
      let b = h.each k m at_k in
      let r = place_in ns l.members (set_at ss i) a c.common c.first in
      let P : ℕ → Type 0 = λ z. Contains m.members z in
      record {
        common = r.0;
        first = r.1;
        second = place_back ls ns m.members (set_at ss k) numbers b r.0 r.2 (subst P (sym r.3) c.second);
        not_within = λ w. c.not_in (within_loops i k l m at_i at_k w);
        not_around = λ w. c.not_around (within_loops k i m l at_k at_i w);
      }

  crossed_loops : (i k : ℕ) (l m : CertifiedLoop) → IsEntryAt ls i l → IsEntryAt ls k m → sets.AreCrossed (set_at ss i) (set_at ss k) → AreCrossed l m
  crossed_loops i k l m at_i at_k c =
      let a = h.each i l at_i in
      let b = h.each k m at_k in
      record {
        common = get_or ns c.common 0;
        first = member_at ns l.members (set_at ss i) a c.common c.first;
        second = member_at ns m.members (set_at ss k) b c.common c.second;
        not_in = λ w. c.not_within (within_sets i k l m at_i at_k w);
        not_around = λ w. c.not_around (within_sets k i m l at_k at_i w);
      }

  to_sets : (i : ℕ) → Crosses ls i → sets.CrossesAnother ss i
  to_sets i c =
      let other = c.2.among in
      let at_k : IsEntryAt ls other.0 c.2.other = (other.1, other.2) in
      let below = c.1.0 in
      let within = other.1 in
      let long = h.long in
      record { other = other.0; below = omega arith; among = omega arith; crossed = crossed_sets i other.0 c.0 c.2.other c.1 at_k c.2.crossed }

  to_loops : (d : CertifiedLoop) (i : ℕ) → sets.CrossesAnother ss i → Crosses ls i
  to_loops d i c =
      let long = h.long in
      let below = c.below in
      let among = c.among in
      let at_i = itself_at ls i d (omega arith) in
      let at_k = itself_at ls c.other d (omega arith) in
      (get_or ls i d, at_i, record { other = get_or ls c.other d; among = (c.other, at_k.0, at_k.1); crossed = crossed_loops i c.other (get_or ls i d) (get_or ls c.other d) at_i at_k c.crossed })

  pub least_crossing : (d : CertifiedLoop) (o : Option ℕ) → sets.IsLeast (sets.CrossesAnother ss) o → IsLeast (Crosses ls) o
  least_crossing d None none = λ i c. none i (to_sets i c)
  least_crossing d (Some i) h = (to_loops d i h.0, λ u less c. h.1 u less (to_sets u c))
