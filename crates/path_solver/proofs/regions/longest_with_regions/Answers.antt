use Rattle.std.proofs.Common.{◌≡◌, ℕ, List, map, Option, Some, IfSome, Ok, length, sym, ap, ◌∙◌, subst}
use Rattle.loop_nest.specs.Digraph.{Digraph}
use Rattle.loop_nest.specs.Nest.{NaturalLoop}
use Rattle.section_check.specs.Section.{IsInForm}
use Rattle.section_check.specs.Conditions.{IsSectionAnswer}
use Rattle.path_solver.specs.Longest.{bounded_loops, AreLoopsOf, WalksAreTooLarge}
use Rattle.path_solver.specs.Regions.{charged, AreRegionsApart, AreMarkedLoopsOf}
use Rattle.path_solver.specs.Solution.{Solution}
use Rattle.path_solver.proofs.Marking.{charged_long, in_form, marked_loops, marked_shown}
use Rattle.path_solver.proofs.regions.longest_with_regions.Goals as goal

pub longest-requires-clause-loads : goal.longest-requires-clause-loads
longest-requires-clause-loads c =
    ap length (c.deref.ensures.value ∙ c.in_ok-charged.ensures) ∙ charged_long c.args.loads.now c.args.regions.now (c.requires.regions ∙ sym c.requires.loads) ∙ c.requires.loads

-- the loops of the section that is found are those of the nest
own_loops : (nest : List NaturalLoop) (o : Option Solution) (s : Solution) → o ≡ Some s → IfSome o (λ (t : Solution). AreLoopsOf nest t.section.loops) → AreLoopsOf nest s.section.loops
own_loops nest o s is h = let P : Option Solution → Type 0 = λ q. IfSome q (λ (t : Solution). AreLoopsOf nest t.section.loops) in subst P is h

own_form : (bounds loads ns : List ℕ) (o : Option Solution) (s : Solution) → o ≡ Some s → loads ≡ ns → IfSome o (λ (t : Solution). IsInForm t.section bounds (map Some loads)) → IsInForm s.section bounds (map Some ns)
own_form bounds loads ns o s is same h =
    let P : Option Solution → Type 0 = λ q. IfSome q (λ (t : Solution). IsInForm t.section bounds (map Some loads)) in
    let Q : List ℕ → Type 0 = λ zs. IsInForm s.section bounds (map Some zs) in
    subst Q same (subst P is h)

own_answer : (g : Digraph) (costs bounds loads ns : List ℕ) (o : Option Solution) (s : Solution) → o ≡ Some s → loads ≡ ns
    → IfSome o (λ (t : Solution). IsSectionAnswer g costs t.section bounds (map Some loads) (Ok (Some t.value))) → IsSectionAnswer g costs s.section bounds (map Some ns) (Ok (Some s.value))
own_answer g costs bounds loads ns o s is same h =
    let P : Option Solution → Type 0 = λ q. IfSome q (λ (t : Solution). IsSectionAnswer g costs t.section bounds (map Some loads) (Ok (Some t.value))) in
    let Q : List ℕ → Type 0 = λ zs. IsSectionAnswer g costs s.section bounds (map Some zs) (Ok (Some s.value)) in
    subst Q same (subst P is h)

pub returns-in-Some-clause-loops : goal.returns-in-Some-clause-loops
returns-in-Some-clause-loops c =
    let nest = c.args.nest.now in
    let rs = c.args.regions.now in
    let solved = c.in-Some.solved in
    let Q : Solution → Type 0 = λ s. AreMarkedLoopsOf nest rs s.section.loops in
    subst Q (sym c.with_regions.ensures) (marked_loops nest solved.section.loops rs (own_loops nest c.in_ok-solved.field-0 solved c.in-Some.is c.in_ok-solved.ensures.loops) c.requires.regions)

pub returns-in-Some-clause-form : goal.returns-in-Some-clause-form
returns-in-Some-clause-form c =
    let bounds = c.args.bounds.now in
    let rs = c.args.regions.now in
    let ns = charged c.args.loads.now rs in
    let solved = c.in-Some.solved in
    let Q : Solution → Type 0 = λ s. IsInForm s.section bounds (map Some ns) in
    subst Q (sym c.with_regions.ensures) (
    in_form solved.section bounds (map Some ns) rs
    (own_form bounds c.deref.result.now ns c.in_ok-solved.field-0 solved c.in-Some.is (c.deref.ensures.value ∙ c.in_ok-charged.ensures) c.in_ok-solved.ensures.form)
    )

pub returns-in-Some-clause-shown : goal.returns-in-Some-clause-shown
returns-in-Some-clause-shown c =
    let g = c.args.g.now in
    let nest = c.args.nest.now in
    let costs = c.args.costs.now in
    let bounds = c.args.bounds.now in
    let rs = c.args.regions.now in
    let ns = charged c.args.loads.now rs in
    let solved = c.in-Some.solved in
    let Q : Solution → Type 0 = λ s. AreRegionsApart nest rs → IsSectionAnswer g costs s.section bounds (map Some ns) (Ok (Some s.value)) in
    subst Q (sym c.with_regions.ensures) (
    marked_shown g nest costs bounds ns rs solved.section solved.value c.marked_stays_accepted.ensures
    (own_loops nest c.in_ok-solved.field-0 solved c.in-Some.is c.in_ok-solved.ensures.loops) c.requires.regions
    (own_answer g costs bounds c.deref.result.now ns c.in_ok-solved.field-0 solved c.in-Some.is (c.deref.ensures.value ∙ c.in_ok-charged.ensures) c.in_ok-solved.ensures.shown)
    )

not_too_large : (g : Digraph) (nest : List NaturalLoop) (costs bounds loads ns : List ℕ) → loads ≡ ns → (WalksAreTooLarge g costs (bounded_loops nest bounds loads) → ⊥) → WalksAreTooLarge g costs (bounded_loops nest bounds ns) → ⊥
not_too_large g nest costs bounds loads ns same fits =
    let P : List ℕ → Type 0 = λ zs. WalksAreTooLarge g costs (bounded_loops nest bounds zs) → ⊥ in subst P same fits

pub returns-in-Some-clause-fits : goal.returns-in-Some-clause-fits
returns-in-Some-clause-fits c =
    not_too_large c.args.g.now c.args.nest.now c.args.costs.now c.args.bounds.now c.deref.result.now (charged c.args.loads.now c.args.regions.now)
    (c.deref.ensures.value ∙ c.in_ok-charged.ensures) c.in_ok-solved.ensures.fits

pub returns-clause-fits : goal.returns-clause-fits
returns-clause-fits c =
    not_too_large c.args.g.now c.args.nest.now c.args.costs.now c.args.bounds.now c.deref.result.now (charged c.args.loads.now c.args.regions.now)
    (c.deref.ensures.value ∙ c.in_ok-charged.ensures) c.in_ok-solved.ensures.fits
