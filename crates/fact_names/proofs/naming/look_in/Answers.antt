use Rattle.std.proofs.Common.{◌≡◌, ℕ, List, [], length, Some, sym, ◌∙◌, subst}
use Rattle.std.specs.Prelude.{slice_get}
use Rattle.std.proofs.lemmas.Bool.{eqb-true}
use Rattle.std.proofs.lemmas.List.{nil_from_length}
use Rattle.method_flow.specs.Flow.{Coded}
use Rattle.fact_names.specs.Found.{AreLinesOf, AreLookedAt}
use Rattle.fact_names.proofs.Looping.{on_ok}
use Rattle.fact_names.proofs.Meaning.{look_none, one_coded}
use Rattle.fact_names.proofs.naming.look_in.Goals as goal

pub returns-then-is_empty-clause-looked_at : goal.returns-then-is_empty-clause-looked_at
returns-then-is_empty-clause-looked_at c = λ k there.
    let lines = c.args.lines.now in
    let own = c.lines_of-own.result.now in
    let none : own ≡ [] = nil_from_length own (eqb-true (length own) 0 (sym c.is_empty.ensures ∙ c.if-is_empty.true)) in
    let same = one_coded c.args.f.now c.args.method c.method-k.result.now k c.method-k.ensures there in
    let of_name = subst (λ (name : List ℕ). AreLinesOf lines name own) c.name.ensures (c.lines_of-own.ensures lines c.requires.index) in
    look_none k c.args.method lines own c.args.found.now (subst (λ (x : Coded). AreLinesOf lines x.name own) same of_name) none

pub look_at-requires-clause-own : goal.look_at-requires-clause-own
look_at-requires-clause-own c =
    subst (λ (name : List ℕ). AreLinesOf c.args.lines.now name c.lines_of-own.result.now) c.name.ensures (c.lines_of-own.ensures c.args.lines.now c.requires.index)

pub returns-clause-looked_at : goal.returns-clause-looked_at
returns-clause-looked_at c =
    let f = c.args.f.now in
    let m = c.args.method in
    let lines = c.args.lines.now in
    let old = c.args.found.now in
    let new' = c.look_at.new.found in
    on_ok c.look_at.result (AreLookedAt c.method-k.result.now m lines old new') ((k : Coded) → slice_get f.methods m ≡ Some k → AreLookedAt k m lines old new')
    (λ l k there. subst (λ (x : Coded). AreLookedAt x m lines old new') (one_coded f m c.method-k.result.now k c.method-k.ensures there) l) c.look_at.ensures.looked_at
