use Rattle.std.proofs.Common.{◌≡◌, ℕ, ◌+◌, ◌<◌, ◌≤◌, List, ◌++◌, length, take, drop, sym, ap, ◌∙◌, subst, arith}
use Rattle.std.specs.Prelude.{All}
use Rattle.std.proofs.lemmas.List.{get_or_default}
use Rattle.std.proofs.lemmas.List.Elements.{All-get_or}
use Rattle.section_index.specs.Classes.{class_of, ArePlaces, AreMoved, IsSplitBy}
use Rattle.section_index.proofs.Moving.{split_by, still_below, written_back}
use Rattle.section_index.proofs.crossing_sets.classes.Classes.split.Goals as goal

-- before and after a split, over plain lists
module _ (xs old noted marks kept new places : List ℕ) (base : ℕ) (as_noted : noted ≡ old) (as_kept : kept ≡ old) (as_marks : marks ≡ places) (p : ArePlaces xs noted places) (m : AreMoved xs marks base kept new) where
  placed : ArePlaces xs old places
  placed = let P : List ℕ → Type 0 = λ zs. ArePlaces xs zs places in subst P as_noted p

  moves : AreMoved xs places base old new
  moves =
      let P : List ℕ → Type 0 = λ zs. AreMoved xs zs base kept new in
      let Q : List ℕ → Type 0 = λ zs. AreMoved xs places base zs new in
      subst Q as_kept (subst P as_marks m)

  splits : ((x : ℕ) → x < length old → class_of old x < base) → IsSplitBy xs old new
  splits low = split_by xs places base old new moves placed low

  still : ((x : ℕ) → x < length old → class_of old x < base) → base + length xs ≤ length places → All (λ k. k < length places) new
  still low room = λ k d lt.
      let long = moves.long in
      let at = get_or_default new k d 0 lt in
      let below = still_below xs places base old new moves placed low (length places) room k (omega arith) in
      omega arith

all_low : (n base : ℕ) (cs : List ℕ) → n ≡ base → All (λ k. k < n) cs → (x : ℕ) → x < length cs → class_of cs x < base
all_low n base cs same all x lt = let below = All-get_or (λ k. k < n) cs x 0 lt all in omega arith

-- what is written back into the two vectors
module _ (n k : ℕ) (xs old noted marks kept new places rest more : List ℕ) (base : ℕ) (fits : length new ≡ n) (holds : length places ≡ k) (as_noted : noted ≡ old) (as_kept : kept ≡ old) (as_marks : marks ≡ take k (places ++ more)) (p : ArePlaces xs noted places) (m : AreMoved xs marks base kept new) (low : (x : ℕ) → x < length old → class_of old x < base) where
  pub still_back : base + length xs ≤ length places → All (λ z. z < length (take k (places ++ more))) (take n (new ++ rest))
  still_back room =
      let P : List ℕ → Type 0 = λ zs. All (λ z. z < length (take k (places ++ more))) zs in
      let Q : List ℕ → Type 0 = λ zs. All (λ z. z < length zs) new in
      subst P (sym (written_back n new rest fits)) (subst Q (sym (written_back k places more holds)) (still xs old noted marks kept new places base as_noted as_kept (as_marks ∙ written_back k places more holds) p m low room))

  pub splits_back : IsSplitBy xs old (take n (new ++ rest))
  splits_back =
      let P : List ℕ → Type 0 = λ zs. IsSplitBy xs old zs in
      subst P (sym (written_back n new rest fits)) (splits xs old noted marks kept new places base as_noted as_kept (as_marks ∙ written_back k places more holds) p m low)

pub invariant_of-self-2 : goal.invariant_of-self-2
invariant_of-self-2 c =
    let v = c.loop.self-inside in
    let inside = c.self.inside in
    let ok_class = v.class.ok in
    let ok_places = v.places.ok in
    let ok_start = inside.places.ok in
    let long = c.move_numbers.ensures.long in
    let size : length c.deref_mut-2.result.now ≡ length v.class.items = ap length c.deref_mut-2.ensures.value in
    let kept : length c.note_places.new.places ≡ length c.deref_mut.result.now = c.note_places.auto.places in
    let before : length c.deref_mut.result.now ≡ length v.places.items = ap length c.deref_mut.ensures.value in
    let end = c.loop-test.false in
    let total = c.loop.invariant.long in
    let base : c.len-base.result ≡ inside.places.len = c.len-base.ensures in
    let low = all_low (length inside.places.items) c.len-base.result inside.class.items (omega (arith, ok_start.0)) c.self.invariant in
    still_back v.class.len v.places.len c.args.set.now inside.class.items c.deref.result.now c.deref-2.result.now c.deref_mut-2.result.now c.move_numbers.new.class c.note_places.new.places (drop (length c.move_numbers.new.class) v.class.items) (drop (length c.note_places.new.places) v.places.items) c.len-base.result
    (omega (arith, ok_class.0)) (omega (arith, ok_places.0)) (c.deref.ensures.value ∙ c.loop.invariant.class) (c.deref_mut-2.ensures.value ∙ c.loop.invariant.class) c.deref-2.ensures.value c.note_places.ensures c.move_numbers.ensures low (omega arith)

pub returns : goal.returns
returns c =
    let v = c.loop.self-inside in
    let inside = c.self.inside in
    let ok_class = v.class.ok in
    let ok_places = v.places.ok in
    let ok_start = inside.places.ok in
    let long = c.move_numbers.ensures.long in
    let size : length c.deref_mut-2.result.now ≡ length v.class.items = ap length c.deref_mut-2.ensures.value in
    let kept : length c.note_places.new.places ≡ length c.deref_mut.result.now = c.note_places.auto.places in
    let before : length c.deref_mut.result.now ≡ length v.places.items = ap length c.deref_mut.ensures.value in
    let end = c.loop-test.false in
    let total = c.loop.invariant.long in
    let base : c.len-base.result ≡ inside.places.len = c.len-base.ensures in
    let low = all_low (length inside.places.items) c.len-base.result inside.class.items (omega (arith, ok_start.0)) c.self.invariant in
    let P : List ℕ → Type 0 = λ cs. IsSplitBy c.args.set.now cs (take v.class.len (c.move_numbers.new.class ++ drop (length c.move_numbers.new.class) v.class.items)) in
    subst P c.self.view_is (splits_back v.class.len v.places.len c.args.set.now inside.class.items c.deref.result.now c.deref-2.result.now c.deref_mut-2.result.now c.move_numbers.new.class c.note_places.new.places (drop (length c.move_numbers.new.class) v.class.items) (drop (length c.note_places.new.places) v.places.items) c.len-base.result
    (omega (arith, ok_class.0)) (omega (arith, ok_places.0)) (c.deref.ensures.value ∙ c.loop.invariant.class) (c.deref_mut-2.ensures.value ∙ c.loop.invariant.class) c.deref-2.ensures.value c.note_places.ensures c.move_numbers.ensures low)
