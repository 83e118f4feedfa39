use Rattle.std.proofs.Common.{◌≡◌, ◌++◌, ◌∷◌, [], ◌<◌, List, length, get_or, sym, ap, ◌∙◌, subst}
use Rattle.class_pool.specs.declared.class.Member.{Member}
use Rattle.class_lookup.specs.Lookup.{Place}
use Rattle.program_tables.specs.Members.{members_in}
use Rattle.program_tables.proofs.MemberLemmas.{own_taken, own_left}
use Rattle.program_tables.proofs.members.add_own.Goals as goal
use Rattle.program_tables.proofs.members.add_own.Goals.{then-takes+in_ok-push, else-takes}

pub loop-i-preserved : goal.loop-i-preserved
loop-i-preserved c =
    let w = c.args.which in
    let class = c.args.number in
    let ms = members_in w c.args.class.now in
    let i = c.loop-i.i in
    let m = c.member-item.result in
    let before = c.args.places.now.items in
    let same = c.members_in-member-items.ensures in
    let lt = subst (λ (xs : List Member). i < length xs) same c.loop-i-test.true in
    let is = subst (λ (xs : List Member). m ≡ get_or xs i m) same c.member-item.is in
    elim c.if-takes.branch [
      | then-takes+in_ok-push v ↦
          ap (λ x. x.items) v.places-is ∙ (v.in_ok-push.ensures.items ∙ (ap (λ (xs : List Place). xs ++ (class, i) ∷ []) c.loop-i.invariant
          ∙ own_taken w class i ms m before lt is (sym c.takes.ensures ∙ v.if-takes.true)))
      | else-takes v ↦
          ap (λ x. x.items) v.places-is ∙ (c.loop-i.invariant ∙ own_left w class i ms m before lt is (sym c.takes.ensures ∙ v.if-takes.false))
    ]
