use Rattle.std.proofs.Common.{◌≡◌, ℕ, ◌<◌, List, [], length, get_or, map, All, Contains, sym, ap, ◌∙◌, subst, arith}
use Rattle.std.proofs.lemmas.List.{get_or_default}
use Rattle.std.proofs.lemmas.List.Elements.{All-from_get_or, Contains-get_or}
use Rattle.loop_nest.specs.Entered.{class_of, edge_at, IsEnteredFromOne}
use Rattle.loop_nest.specs.Pointers.{AreFollowed, IsScanned, KeepsMarks}
use Rattle.loop_nest.proofs.Pointing.{pointers_merged, pointers_remarked, cannot_merge, names_fall}
use Rattle.loop_nest.proofs.passes.merge_one.Goals as goal

pub scan-requires-clause-numbers : goal.scan-requires-clause-numbers
scan-requires-clause-numbers c =
    let x = c.args.x in
    let ls = get_or c.args.numbers.now x [] in
    let es = c.edges.ensures.edges in
    let P : List ℕ → Type 0 = λ ls. All (λ i. i < length c.edges.result.now) ls in
    subst P (sym c.of.ensures) (All-from_get_or (λ (i : ℕ). i < length c.edges.result.now) ls 0 (λ j below.
    let r = (c.requires.numbers.each x (get_or ls j 0) c.requires.below).0 (Contains-get_or ls j 0 below) in
    let a = r.0 in
    omega (arith, ap length es)))

pub scan-requires-clause-to_x : goal.scan-requires-clause-to_x
scan-requires-clause-to_x c = λ i has.
    let x = c.args.x in
    let P : List ℕ → Type 0 = λ ls. Contains ls i in
    let r = (c.requires.numbers.each x i c.requires.below).0 (subst P c.of.ensures has) in
    ap (λ (es : List (ℕ × ℕ)). (edge_at es i).1) c.edges.ensures.edges ∙ r.1

pub returns-in-Some-clause-pointers : goal.returns-in-Some-clause-pointers
returns-in-Some-clause-pointers c =
    let g = c.args.g.now in
    let x = c.args.x in
    let into = c.args.into.now in
    let inv = c.requires.pointers in
    let long = inv.long in
    let below = c.requires.below in
    let short : x < length into = omega arith in
    let es = c.edges.ensures.edges in
    let ls = get_or c.args.numbers.now x [] in
    let is : c.of.result.now ≡ ls = c.of.ensures in
    let left : class_of into x ≡ x = sym (get_or_default into x 0 x short) ∙ c.if-into-x.false in
    let P : List (ℕ × ℕ) → Type 0 = λ ds. IsScanned ds inv.class c.of.result.now c.in-Some.p x c.scan.new.back in
    let Q : List ℕ → Type 0 = λ ls. IsScanned g.edges inv.class ls c.in-Some.p x c.scan.new.back in
    let R : List (ℕ × ℕ) → Type 0 = λ ds. KeepsMarks ds x c.args.back.now c.scan.new.back in
    pointers_merged {numbers = ls} c.requires.valid inv c.if-x-eq0.false short left (λ i. c.requires.numbers.each x i below) c.in-Some.ensures.left (subst Q is (subst P es (c.in-Some.ensures.scanned inv.class inv.followed))) (subst R es c.in-Some.ensures.kept)

pub returns-in-Some-clause-fewer : goal.returns-in-Some-clause-fewer
returns-in-Some-clause-fewer c =
    let x = c.args.x in
    let into = c.args.into.now in
    let inv = c.requires.pointers in
    let long = inv.long in
    let below = c.requires.below in
    let short : x < length into = omega arith in
    let left : class_of into x ≡ x = sym (get_or_default into x 0 x short) ∙ c.if-into-x.false in
    let s = c.in-Some.ensures.scanned inv.class inv.followed in
    names_fall into x c.in-Some.p short left (λ e. s.entered.other (sym e))

pub returns-in-None-clause-pointers : goal.returns-in-None-clause-pointers
returns-in-None-clause-pointers c =
    let g = c.args.g.now in
    let x = c.args.x in
    let into = c.args.into.now in
    let inv = c.requires.pointers in
    let long = inv.long in
    let below = c.requires.below in
    let short : x < length into = omega arith in
    let left : class_of into x ≡ x = sym (get_or_default into x 0 x short) ∙ c.if-into-x.false in
    let R : List (ℕ × ℕ) → Type 0 = λ ds. KeepsMarks ds x c.args.back.now c.scan.new.back in
    pointers_remarked inv short left (subst R c.edges.ensures.edges c.in-None.ensures.kept)

pub returns-in-None-clause-none : goal.returns-in-None-clause-none
returns-in-None-clause-none c =
    let g = c.args.g.now in
    let x = c.args.x in
    let into = c.args.into.now in
    let long = c.requires.pointers.long in
    let below = c.requires.below in
    let ls = get_or c.args.numbers.now x [] in
    let P : List (ℕ × ℕ) → List ℕ → Type 0 = λ es ns. (k : ℕ → ℕ) → AreFollowed k into → (p : ℕ) → IsEnteredFromOne (map (edge_at es) ns) k p x → ⊥ in
    let P1 : List (ℕ × ℕ) → Type 0 = λ es. P es c.of.result.now in
    let P2 : List ℕ → Type 0 = λ ns. P g.edges ns in
    cannot_merge ls (omega arith) (λ i. c.requires.numbers.each x i below) (subst P2 c.of.ensures (subst P1 c.edges.ensures.edges c.in-None.ensures.none))
