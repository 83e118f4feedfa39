use Rattle.std.proofs.Common.{Option, ℕ, refl, subst}
use Rattle.std.specs.Prelude.{IfNone}
use Rattle.bound_finder.specs.Known.{bounds_in, known_at}
use Rattle.bound_finder.specs.Ending.{IsPastLimit}
use Rattle.bound_finder.proofs.Ended.{printed_bound, least_bound, past_bound}
use Rattle.bound_finder.proofs.ending.method_bound.Goals as goal

pub returns-in-Some-None-clause-bound : goal.returns-in-Some-None-clause-bound
returns-in-Some-None-clause-bound c =
    λ P of.
    let set = c.args.task.now in
    let table = c.args.table.now in
    let m = c.args.m in
    let s = c.in-Some-None.ensures.some in
    printed_bound P set.timing (bounds_in set) table c.args.least m (c.requires.known P of) c.printed_is_told.ensures (known_at table m).full refl c.in-Some-None.bound c.in-Some-None.is-1 s.small s.within (s.printed P of)

pub returns-in-Some-Some-clause-bound : goal.returns-in-Some-Some-clause-bound
returns-in-Some-Some-clause-bound c =
    λ P of.
    let set = c.args.task.now in
    let table = c.args.table.now in
    let m = c.args.m in
    let s = c.in-Some-Some.ensures.some in
    least_bound P set.timing (bounds_in set) table c.args.least m (c.requires.known P of) c.printed_is_told.ensures (known_at table m).full refl c.in-Some-Some.x c.in-Some-Some.field-0-0 c.in-Some-Some.is-1 s.small s.within (s.printed P of)

pub returns-in-None-default-clause-bound : goal.returns-in-None-default-clause-bound
returns-in-None-default-clause-bound c =
    λ P of.
    let set = c.args.task.now in
    let table = c.args.table.now in
    let m = c.args.m in
    let full = (known_at table m).full in
    let I : Option (Option ℕ) → Type 0 = λ o. IfNone o (IsPastLimit set full) in
    let over : IsPastLimit set full = subst I c.in-None-default.is-0 c.bound_of.ensures.none in
    past_bound P set.timing (bounds_in set) table c.args.least m (c.requires.known P of) c.printed_is_told.ensures full refl set c.lesser.result refl of over c.lesser.ensures
