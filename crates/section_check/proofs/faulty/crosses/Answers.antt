use Rattle.std.proofs.Common.{ℕ, List, Contains, sym, ◌∙◌, subst}
use Rattle.std.proofs.lemmas.Bool.{false≢true, not-true, not_from_false, false_from_ne_true}
use Rattle.section_check.proofs.LeastLemmas.{within_as}
use Rattle.section_check.proofs.faulty.crosses.Goals as goal

pub returns-then-lies_in : goal.returns-then-lies_in
returns-then-lies_in c = (
  λ t. absurd (false≢true t),
  λ x.
      absurd
      (x.not_in
      (within_as c.members-inner.result.now c.members-outer.result.now c.args.a.now.members c.args.b.now.members c.members-inner.ensures c.members-outer.ensures
      (c.lies_in.ensures.0 c.if-lies_in.true))),
)

pub returns : goal.returns
returns c =
    let us = c.members-inner.result.now in
    let vs = c.members-outer.result.now in
    let as' = c.args.a.now.members in
    let bs = c.args.b.now.members in
    let a = c.members-inner.ensures in
    let b = c.members-outer.ensures in
    let r = c.lies_in-2.result in
    let m = c.meets.ensures.0 c.if-not-meets.false in
    let P : List ℕ → Type 0 = λ zs. Contains zs m.0 in (
      λ t.
          record {
            common = m.0;
            first = subst P a m.1;
            second = subst P b m.2;
            not_in = λ within. false≢true (sym c.if-lies_in.false ∙ c.lies_in.ensures.1 (within_as as' bs us vs (sym a) (sym b) within));
            not_around = λ around. false≢true (sym (not-true r t) ∙ c.lies_in-2.ensures.1 (within_as bs as' vs us (sym b) (sym a) around));
          },
      λ x. not_from_false r (false_from_ne_true r (λ yes'. x.not_around (within_as vs us bs as' b a (c.lies_in-2.ensures.0 yes')))),
    )
