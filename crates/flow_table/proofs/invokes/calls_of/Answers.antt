use Rattle.std.proofs.Common.{ℕ, List, get_or, take_all, Contains, refl, sym, ap, ◌∙◌, subst}
use Rattle.std.specs.List.{filter_map}
use Rattle.lists.specs.Members.{contains_at}
use Rattle.class_lookup.proofs.Numbering.{none_of}
use Rattle.program_tables.specs.Resolved.{resolved}
use Rattle.flow_table.specs.Invokes.{call_at}
use Rattle.flow_table.proofs.Listing.{next_some, next_none}
use Rattle.flow_table.proofs.invokes.calls_of.Goals as goal
use Rattle.flow_table.proofs.invokes.calls_of.Goals.{in-Some+in_ok-push, in_default}

pub call_at-requires-clause-inside : goal.call_at-requires-clause-inside
call_at-requires-clause-inside c =
    let xs = c.deref-place-items.result.now in
    let i = c.loop-place.place-index in
    let x = get_or xs i 0 in
    (c.starts_follow_one_another.ensures c.args.code.now).within_code x
    (subst (λ (ys : List ℕ). Contains ys x) (c.deref-place-items.ensures.value ∙ c.in_ok-starts.ensures) (contains_at xs i x c.loop-place-test.true refl))

pub call_at-requires-clause-few : goal.call_at-requires-clause-few
call_at-requires-clause-few c =
    let xs = c.deref-place-items.result.now in
    let i = c.loop-place.place-index in
    let x = get_or xs i 0 in
    c.requires.few x (subst (λ (ys : List ℕ). Contains ys x) (c.deref-place-items.ensures.value ∙ c.in_ok-starts.ensures) (contains_at xs i x c.loop-place-test.true refl))

pub loop-place-preserved : goal.loop-place-preserved
loop-place-preserved c =
    let f = call_at (resolved c.args.program.now) c.args.coded c.args.method in
    let xs = c.deref-place-items.result.now in
    let i = c.loop-place.place-index in
    let x = get_or xs i 0 in
    let ys = c.loop-place.calls.items in
    elim c.match-call_at.branch [
      | in-Some+in_ok-push w ↦
          ap (λ v. v.items) w.calls-is
          ∙ next_some f xs i x 0 ys w.push.new.self.items w.in-Some.call c.loop-place-test.true refl c.loop-place.invariant (sym c.call_at.ensures ∙ w.in-Some.is) w.in_ok-push.ensures.items
      | in_default w ↦
          ap (λ v. v.items) w.calls-is ∙ next_none f xs i x 0 ys c.loop-place-test.true refl c.loop-place.invariant (sym c.call_at.ensures ∙ none_of c.call_at.result w.in_default.not-Some)
    ]

pub returns : goal.returns
returns c =
    let f = call_at (resolved c.args.program.now) c.args.coded c.args.method in
    let xs = c.deref-place-items.result.now in
    c.loop-place.invariant ∙ ap (λ (ys : List ℕ). filter_map f ys) (take_all c.loop-place.place-index xs c.loop-place-test.false ∙ (c.deref-place-items.ensures.value ∙ c.in_ok-starts.ensures))
