use Rattle.std.proofs.Common.{◌≡◌, ℕ, ◌+◌, ◌<◌, List, [], ◌∷◌, ◌++◌, length, map, Contains, Vec, Global, sym, ap, ◌∙◌, subst, arith}
use Rattle.std.proofs.lemmas.List.{map-append, length-map, length_push}
use Rattle.section_index.specs.Family.{set_at}
use Rattle.section_check.specs.Section.{CertifiedLoop}
use Rattle.section_check.specs.Placing.{IsEntryAt}
use Rattle.section_index.specs.Numbering.{ArePlaces}
use Rattle.section_index.proofs.Ranks.{placed_more}
use Rattle.section_index.proofs.numbering.placed.Goals as goal

pub places-requires-clause-all : goal.places-requires-clause-all
places-requires-clause-all c = λ x has.
    let P : List ℕ → Type 0 = λ ms. Contains ms x in
    c.requires.all c.loop-i.i c.index-loops-i.result x (c.loop-i-test.true, sym c.index-loops-i.is) (subst P c.members.ensures has)

pub loop-i-preserved : goal.loop-i-preserved
loop-i-preserved c =
    let ls = c.args.loops.now in
    let ns = c.args.numbers.now in
    let i = c.loop-i.i in
    let vs = c.loop-i.sets.items in
    let v = c.in_ok-places.field-0 in
    let f : Vec ℕ Global → List ℕ = λ s. s.items in
    let added : c.push.new.self.items ≡ vs ++ v ∷ [] = c.in_ok-push.ensures.items in
    let long = c.loop-i.invariant.long in
    let size = length_push vs v in
    let now : length c.push.new.self.items ≡ length (vs ++ v ∷ []) = ap length added in
    let P : List (List ℕ) → Type 0 = λ xs. (j : ℕ) (m : CertifiedLoop) → j < i + 1 → IsEntryAt ls j m → ArePlaces ns m.members (set_at xs j) in
    record {
      long = omega arith;
      each = subst P (sym (ap (map f) added ∙ map-append f vs (v ∷ []))) (placed_more ns ls (map f vs) v.items c.members.result.now i c.index-loops-i.result (length-map vs f ∙ long) c.index-loops-i.is c.members.ensures c.in_ok-places.ensures c.loop-i.invariant.each);
    }
