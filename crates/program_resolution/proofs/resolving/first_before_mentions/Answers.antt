use Rattle.std.proofs.Common.{List, Some, refl, ◌∙◌, arith}
use Rattle.lists.specs.Lists.{first}
use Rattle.lists.proofs.FirstLemmas.{ok_same}
use Rattle.class_lookup.specs.Hierarchy.{IsAcyclic}
use Rattle.program_resolution.specs.declared.refusal.ProgramRefusal.{ProgramRefusal}
use Rattle.program_resolution.specs.Linked.{files_in}
use Rattle.program_resolution.specs.Refusals.{Places, causes_in}
use Rattle.program_resolution.proofs.RefusalLemmas.{in_first, in_later, nothing_in, first_behind_core, where_none}
use Rattle.program_resolution.proofs.resolving.first_before_mentions.Goals as goal

pub returns-in-Some-clause-first : goal.returns-in-Some-clause-first
returns-in-Some-clause-first c = in_first c.first_duplicate.result _ _ c.in-Some.refusal c.first_duplicate.ensures c.in-Some.is

pub returns-in-Some-2-clause-first : goal.returns-in-Some-2-clause-first
returns-in-Some-2-clause-first c =
    in_later c.first_duplicate.result _ _ (Some c.in-Some-2.refusal) c.first_duplicate.ensures c.in_default.not-Some
    (in_first c.in_ok-refusal.field-0 _ _ c.in-Some-2.refusal c.in_ok-refusal.ensures c.in-Some-2.is)

pub returns-in-Some-3-clause-first : goal.returns-in-Some-3-clause-first
returns-in-Some-3-clause-first c =
    in_later c.first_duplicate.result _ _ (Some c.in-Some-3.refusal) c.first_duplicate.ensures c.in_default.not-Some
    (in_later c.in_ok-refusal.field-0 _ _ (Some c.in-Some-3.refusal) c.in_ok-refusal.ensures c.in_default-2.not-Some
    (in_first c.in_ok-refusal-2.field-0 _ _ c.in-Some-3.refusal c.in_ok-refusal-2.ensures c.in-Some-3.is))

pub first_misplaced-requires-clause-behind_core : goal.first_misplaced-requires-clause-behind_core
first_misplaced-requires-clause-behind_core c =
    first_behind_core _ _ c.in_ok-first.first c.in_ok-first.ensures.first (c.requires.core (nothing_in c.first_duplicate.result _ c.first_duplicate.ensures c.in_default.not-Some))

pub returns-clause-first : goal.returns-clause-first
returns-clause-first c =
    let places : List ProgramRefusal = causes_in c.args.classes.now Places (files_in c.args.classes.now c.args.files) in
    ok_same c.first_misplaced.result (first places) _
    (in_later c.first_duplicate.result _ _ (first places) c.first_duplicate.ensures c.in_default.not-Some
    (in_later c.in_ok-refusal.field-0 _ _ (first places) c.in_ok-refusal.ensures c.in_default-2.not-Some
    (in_later c.in_ok-refusal-2.field-0 _ _ (first places) c.in_ok-refusal-2.ensures c.in_default-3.not-Some refl)))
    c.first_misplaced.ensures

pub returns-clause-acyclic : goal.returns-clause-acyclic
returns-clause-acyclic c =
    let there = c.requires.there in
    where_none c.first_misplaced.result (causes_in c.args.classes.now Places (files_in c.args.classes.now c.args.files)) (IsAcyclic c.args.classes.now) c.first_misplaced.ensures
    (λ nothing. c.in_ok-first.ensures.none (omega (arith, there)) (c.in_ok-first.ensures.first ∙ c.requires.off (nothing_in c.first_duplicate.result _ c.first_duplicate.ensures c.in_default.not-Some) nothing))
