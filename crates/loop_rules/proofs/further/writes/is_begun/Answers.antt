use Rattle.std.proofs.Common.{◌≡◌, ◌<◌, Bool, true, false, not, length, refl, sym, ◌∙◌, arith}
use Rattle.std.proofs.lemmas.Bool.{both_ways}
use Rattle.std.proofs.lemmas.List.{get_or_default}
use Rattle.loop_rules.specs.Further.Search.{flag_at}
use Rattle.loop_rules.proofs.further.writes.is_begun.Goals as goal

no_both : (b : Bool) → not b ≡ true → b ≡ true → ⊥
no_both true e f = both_ways false refl e
no_both false e f = both_ways false refl f

not_true : (b : Bool) → (b ≡ true → ⊥) → not b ≡ true
not_true true none = absurd (none refl)
not_true false none = refl

pub index-requires : goal.index-requires
index-requires g c = omega (arith, c.requires, c.args.searched.now.flags.ok.0)

pub returns-then-index : goal.returns-then-index
returns-then-index g c gr backs end s =
    let inside : 0 < length c.args.searched.now.flags.items = c.requires in
    let at : flag_at c.args.searched.now.flags.items 0 ≡ true = sym (c.index.ensures ∙ get_or_default c.args.searched.now.flags.items 0 c.index.result.now false inside) ∙ c.if-index.true in (
      (λ e. ((s.each 0).0 at, (λ stop. no_both c.is_stop.result e (c.is_stop.ensures.1 stop)))),
      (λ h. not_true c.is_stop.result (λ e. h.1 (c.is_stop.ensures.0 e))),
    )

pub returns-else-index : goal.returns-else-index
returns-else-index g c gr backs end s =
    let inside : 0 < length c.args.searched.now.flags.items = c.requires in
    let same = c.index.ensures ∙ get_or_default c.args.searched.now.flags.items 0 c.index.result.now false inside in
    ((λ e. absurd (cc)), (λ h. absurd (both_ways c.index.result.now c.if-index.false (same ∙ (s.each 0).1 h.0))))
