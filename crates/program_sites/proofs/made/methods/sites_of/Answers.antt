use Rattle.std.proofs.Common.{◌≡◌, ℕ, ◌+◌, ◌<◌, List, length, Some, sym, ap, ◌∙◌, subst, arith}
use Rattle.std.specs.Prelude.{slice_get}
use Rattle.std.proofs.lemmas.List.{length_push}
use Rattle.program_tables.specs.Resolved.{resolved}
use Rattle.memory_rules.specs.Sites.{MethodNeeds, AreSitesOf}
use Rattle.program_sites.proofs.MadeLemmas.Words.{has_number}
use Rattle.program_sites.proofs.MadeLemmas.Places.{needs_more}
use Rattle.program_sites.proofs.made.methods.sites_of.Goals as goal

pub needs_of-requires-clause-number : goal.needs_of-requires-clause-number
needs_of-requires-clause-number c =
    let lt : c.loop-m.m < length c.args.flow.now.methods = (let e = c.method_count-m-end.ensures.count in let t = c.loop-m-test.true in omega arith) in
    has_number c.methods_stand_by_number.ensures c.args.program.now c.loop-m.m ((c.requires.coded c.loop-m.m).1 lt)

pub needs_of-requires-clause-method : goal.needs_of-requires-clause-method
needs_of-requires-clause-method c = c.requires.methods c.loop-m.m c.method.result.now c.method.ensures

pub loop-m-preserved : goal.loop-m-preserved
loop-m-preserved c =
    let P = resolved c.args.program.now in
    let h = c.loop-m.invariant in (
      ap length c.in_ok-push.ensures.items ∙ length_push _ _ ∙ ap (λ (n : ℕ). n + 1) h.0,
      λ i k is. needs_more P _ _ _ h.0 h.1 c.in_ok-needs_of.ensures i k (subst (λ (ks : List MethodNeeds). slice_get ks i ≡ Some k) c.in_ok-push.ensures.items is),
    )

pub returns-clause-sites : goal.returns-clause-sites
returns-clause-sites c =
    let P = resolved c.args.program.now in
    let f = c.args.flow.now in
    let h = c.loop-m.invariant in
    let long : length c.loop-m.methods.items ≡ length c.args.flow.now.methods =
    (let e = c.method_count-m-end.ensures.count in let t = c.loop-m-test.false in let a = c.loop-m.auto.m-end in let b = h.0 in omega arith) in
    subst (λ (ks : List MethodNeeds). AreSitesOf P ks) (sym c.new.ensures) (record {
      coded = λ m. (λ some. let lt = (c.requires.coded m).0 some in omega arith, λ lt. (c.requires.coded m).1 (omega arith));
      methods = h.1;
    })
