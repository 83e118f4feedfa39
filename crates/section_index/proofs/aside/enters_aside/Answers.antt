use Rattle.std.proofs.Common.{ℕ, List, get_or, Contains, refl, sym, ◌∙◌, subst}
use Rattle.std.specs.List.Sorted.{IsStrictlyIncreasing}
use Rattle.std.proofs.lemmas.Bool.{false≢true}
use Rattle.std.proofs.lemmas.List.Elements.{All-get_or}
use Rattle.section_check.specs.Section.{CertifiedLoop}
use Rattle.section_index.proofs.Faults.{holder_among, no_target, none_entered, entered}
use Rattle.section_index.proofs.aside.enters_aside.Goals as goal

pub returns-in_default : goal.returns-in_default
returns-in_default c = (
  λ t. absurd (false≢true t),
  λ e. absurd (no_target c.args.loops.now c.args.numbers.now c.args.u c.args.v c.place.result c.requires.numbers c.in_default.is c.place.ensures.place e),
)

pub returns : goal.returns
returns c = (
  λ t. absurd (false≢true t),
  λ e. absurd (none_entered c.args.loops.now c.args.numbers.now c.args.holders.now c.of-around.result.now c.in-Some.p c.args.u c.args.v c.loop-k.k-index c.requires.holders c.in-Some.ensures.place c.of-around.ensures c.loop-k-test.false c.loop-k.invariant e),
)

pub bounds-loops-k : goal.bounds-loops-k
bounds-loops-k c = holder_among c.args.loops.now c.args.numbers.now c.args.holders.now c.of-around.result.now c.in-Some.p c.loop-k.k-index c.requires.holders c.in-Some.ensures.place.below c.of-around.ensures c.loop-k-test.true

pub has-requires : goal.has-requires
has-requires c =
    let ls = c.args.loops.now in
    let r = c.index-loops-k.result in
    let rise : CertifiedLoop → Type 0 = λ l. IsStrictlyIncreasing l.members in
    let P : List ℕ → Type 0 = λ ms. IsStrictlyIncreasing ms in
    subst P (sym c.members.ensures) (subst rise (sym c.index-loops-k.is) (All-get_or rise ls (get_or c.of-around.result.now c.loop-k.k-index 0) r (holder_among c.args.loops.now c.args.numbers.now c.args.holders.now c.of-around.result.now c.in-Some.p c.loop-k.k-index c.requires.holders c.in-Some.ensures.place.below c.of-around.ensures c.loop-k-test.true) c.requires.members))

pub returns-then-not-has : goal.returns-then-not-has
returns-then-not-has c =
    let ls = c.args.loops.now in
    let r = c.index-loops-k.result in
    let P : List ℕ → Type 0 = λ ms. Contains ms c.args.u in
    let out : Contains r.members c.args.u → ⊥ = λ has. false≢true (sym c.if-not-has.true ∙ c.has.ensures.1 (subst P (sym c.members.ensures) has)) in (
      λ t. entered ls c.args.numbers.now c.args.holders.now c.of-around.result.now c.in-Some.p c.args.u c.args.v c.loop-k.k-index r c.requires.holders c.in-Some.ensures.place c.of-around.ensures c.loop-k-test.true
          (holder_among c.args.loops.now c.args.numbers.now c.args.holders.now c.of-around.result.now c.in-Some.p c.loop-k.k-index c.requires.holders c.in-Some.ensures.place.below c.of-around.ensures c.loop-k-test.true, sym c.index-loops-k.is) out (λ e. c.if-v-header.true (e ∙ sym c.header.ensures)),
      λ e. refl,
    )
