use Rattle.std.proofs.Common.{◌≡◌, ℕ, ◌+◌, ◌<◌, ◌++◌, ◌∷◌, [], true, Bool, List, length, map, get_or, set, take, sym, ap, ◌∙◌, subst, arith}
use Rattle.std.proofs.lemmas.List.{take_more, map-append}
use Rattle.loop_marks.specs.Flags.{Flags, AreMarkedAmong}
use Rattle.loop_marks.specs.Reach.{flag_at}
use Rattle.loop_marks.proofs.Flagging.{among_more, among_same, flag_within}
use Rattle.loop_marks.proofs.marking.mark_among.Goals.{then-is_flagged, else-is_flagged}
use Rattle.loop_marks.proofs.marking.mark_among.Goals as goal

pub loop-u-preserved : goal.loop-u-preserved
loop-u-preserved c =
    let us = c.args.us.now in
    let i = c.loop-u.u-index in
    let node : ℕ → ℕ = λ (u : ℕ). get_or c.args.nodes.now u 0 in
    let before = map node (take i us) in
    let v = node (get_or us i 0) in
    let members = c.args.members.now.items in
    let old = c.args.marks.now.items in
    let now = c.loop-u.marks.items in
    let h = c.loop-u.invariant.1 in
    let here : map node (take (i + 1) us) ≡ before ++ v ∷ [] = ap (map node) (take_more us i 0 c.loop-u-test.true) ∙ map-append node (take i us) (get_or us i 0 ∷ []) in
    let flag : c.is_flagged.result ≡ flag_at members v = c.is_flagged.ensures.flag ∙ ap (flag_at members) c.from.ensures in
    elim c.if-is_flagged.branch [
      | then-is_flagged w ↦
          let new' = w.marks-is ∙ w.mark.ensures in
          let is : flag_at members v ≡ true = sym flag ∙ w.if-is_flagged.true in
          let lt = flag_within members v is in
          let long = h.long in
          let same = c.requires.long in
          let small : v < length now = omega arith in (
            ap (λ (f : Flags). f.first) new' ∙ c.loop-u.invariant.0,
            subst (λ (fs : List Bool). AreMarkedAmong members (map node (take (i + 1) us)) old fs) (sym (ap (λ (f : Flags). f.items) new'))
                (subst (λ (vs : List ℕ). AreMarkedAmong members vs old (set now v true)) (sym here) (among_more members before old now v h small is)),
          )
      | else-is_flagged w ↦ (
        ap (λ (f : Flags). f.first) w.marks-is ∙ c.loop-u.invariant.0,
        subst (λ (fs : List Bool). AreMarkedAmong members (map node (take (i + 1) us)) old fs) (sym (ap (λ (f : Flags). f.items) w.marks-is))
            (subst (λ (vs : List ℕ). AreMarkedAmong members vs old now) (sym here) (among_same members before old now v h (sym flag ∙ w.if-is_flagged.false))),
      )
    ]
