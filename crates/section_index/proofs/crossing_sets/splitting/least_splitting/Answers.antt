use Rattle.std.proofs.Common.{◌≡◌, ℕ, ◌+◌, ◌-◌, ◌/◌, ◌<◌, length, sym, ◌∙◌, subst, inl, inr, arith}
use Rattle.std.proofs.lemmas.Bool.{cases_lt}
use Rattle.std.proofs.lemmas.List.Elements.{All-get_or}
use Rattle.section_index.specs.Splitting.{SplitsLater}
use Rattle.section_index.proofs.Sweeping.{none_found}
use Rattle.section_index.proofs.crossing_sets.splitting.least_splitting.Goals as goal

pub loop-low-preserved : goal.loop-low-preserved
loop-low-preserved c =
    let ss = c.args.family.now.sets in
    let order = c.args.order.now in
    let middle = c.loop-low.low + (c.loop-low.high - c.loop-low.low) / 2 in
    record {
      none = λ k lt s. none_found ss order middle c.in_ok-least_split.field-0 (sym c.is_some.ensures ∙ c.if-is_some.false) c.in_ok-least_split.ensures k (omega arith) s;
      some = c.loop-low.invariant.some;
    }

pub returns-then-low-len : goal.returns-then-low-len
returns-then-low-len c =
    let ss = c.args.family.now.sets in
    let order = c.args.order.now in
    let low = c.loop-low.low in
    let end = c.loop-low-test.false in
    let few = c.if-low-len.true in
    let r = c.loop-low.invariant.some (omega arith) in
    let P : ℕ → Type 0 = λ k. SplitsLater ss order k in
    let here : P low = elim (cases_lt r.0 low) [ inl less ↦ absurd (c.loop-low.invariant.none r.0 less r.2) | inr ge ↦ let below = r.1 in let e : r.0 ≡ low = omega arith in subst P e r.2 ] in
    (here, c.loop-low.invariant.none)

pub returns-else-low-len : goal.returns-else-low-len
returns-else-low-len c = λ k s.
    let order = c.args.order.now in
    let all = c.if-low-len.false in
    let early = s.before in
    let last = s.below in
    let fits = All-get_or (λ i. i < length c.args.family.now.sets) order s.first 0 (omega arith) c.requires in
    let at = s.at in
    c.loop-low.invariant.none k (omega arith) s
