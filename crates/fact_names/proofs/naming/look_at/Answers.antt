use Rattle.std.proofs.Common.{◌≡◌, ℕ, ◌+◌, List, [], ◌∷◌, ◌++◌, get_or, set, take, None, refl, sym, ap, ◌∙◌, subst, add-one, arith}
use Rattle.std.proofs.Math.Seq.{take-suc}
use Rattle.std.proofs.lemmas.List.{length-set, take_all}
use Rattle.std.proofs.lemmas.Option.{slice_get_within, get_or_from_slice_get}
use Rattle.flow_facts.specs.declared.line.NumberedFact.{NumberedFact}
use Rattle.fact_names.specs.Found.{IsLookedAt}
use Rattle.fact_names.proofs.Meaning.{AreLookedTo, line_of, look_end, look_next}
use Rattle.fact_names.proofs.naming.look_at.Goals as goal

pub bounds-lines-i : goal.bounds-lines-i
bounds-lines-i c =
    let l = line_of c.args.lines.now c.args.k.now.name c.args.own.now c.loop-i.i-index c.requires.own c.loop-i-test.true in
    slice_get_within c.args.lines.now (get_or c.args.own.now c.loop-i.i-index 0) l.0 l.1

pub slice_copy_out-look : goal.slice_copy_out-look
slice_copy_out-look c =
    let l = line_of c.args.lines.now c.args.k.now.name c.args.own.now c.loop-i.i-index c.requires.own c.loop-i-test.true in
    let lt = slice_get_within c.args.lines.now (get_or c.args.own.now c.loop-i.i-index 0) l.0 l.1 in
    let long = c.loop-i.invariant.1 in
    omega arith

pub bounds-found-i : goal.bounds-found-i
bounds-found-i c =
    let l = line_of c.args.lines.now c.args.k.now.name c.args.own.now c.loop-i.i-index c.requires.own c.loop-i-test.true in
    let lt = slice_get_within c.args.lines.now (get_or c.args.own.now c.loop-i.i-index 0) l.0 l.1 in
    let long = c.loop-i.invariant.1 in
    omega arith

pub loop-i-preserved : goal.loop-i-preserved
loop-i-preserved c =
    let k = c.args.k.now in
    let lines = c.args.lines.now in
    let own = c.args.own.now in
    let found = c.loop-i.found in
    let at = c.loop-i.i-index in
    let i = get_or own at 0 in
    let new' = c.in_ok-found.field-0 in
    let l = line_of lines k.name own at c.requires.own c.loop-i-test.true in
    let same = get_or_from_slice_get lines i l.0 c.index-lines-i.result l.1 in
    let looked = subst (λ (z : NumberedFact). IsLookedAt k c.args.method z.fact (get_or found i None) new') same c.in_ok-found.ensures.found in
    let more : take (at + 1) own ≡ take at own ++ i ∷ [] = ap (λ (n : ℕ). take n own) (add-one at) ∙ take-suc own at 0 c.loop-i-test.true in (
      c.look.ensures.kept,
      length-set found i new' ∙ c.loop-i.invariant.1,
      subst (λ (us : List ℕ). AreLookedTo k c.args.method lines us c.args.found.now (set found i new')) (sym more)
          (look_next k c.args.method lines c.args.found.now (take at own) found i l.0 (get_or found i None) new' c.loop-i.invariant.2 l.1 l.2 refl looked),
    )

pub returns-clause-looked_at : goal.returns-clause-looked_at
returns-clause-looked_at c =
    let k = c.args.k.now in
    let lines = c.args.lines.now in
    let own = c.args.own.now in
    look_end k c.args.method lines c.args.found.now own c.loop-i.found c.requires.own
    (subst (λ (us : List ℕ). AreLookedTo k c.args.method lines us c.args.found.now c.loop-i.found) (take_all c.loop-i.i-index own c.loop-i-test.false) c.loop-i.invariant.2)
