use Rattle.std.proofs.Common.{◌≡◌, ℕ, ◌<◌, List, [], length, Vec, Global, get_or, sym, ap, ◌∙◌, subst, arith}
use Rattle.std.proofs.lemmas.List.{get_or-map, length-map}
use Rattle.program_tables.specs.Resolved.{resolved}
use Rattle.flow_table.specs.Receivers.{lists_of}
use Rattle.flow_table.specs.Targets.{IsSelectedList}
use Rattle.flow_table.proofs.Making.{owner_within, are_receivers}
use Rattle.flow_table.proofs.Selecting.{none_selected, virtual_by, none_by}
use Rattle.flow_table.proofs.targets.selected_for.Goals as goal

pub bounds-below-owner : goal.bounds-below-owner
bounds-below-owner c =
    let inside = owner_within c.members_are_there.ensures c.args.program.now c.args.method c.method.result c.method.ensures in
    let long = c.requires.below.long in
    let same = length-map c.args.below.now (λ (v : Vec ℕ Global). v.items) in
    let owner : c.owner.inside.class ≡ c.method.result.0 = ap (λ (x : ℕ × ℕ). x.0) c.owner.view_is in
    omega arith

pub selected_among-requires-clause-is_virtual : goal.selected_among-requires-clause-is_virtual
selected_among-requires-clause-is_virtual c = virtual_by (resolved c.args.program.now) c.args.method c.shape.result.now c.shape.ensures (sym c.is_virtual.ensures ∙ c.if-is_virtual.true)

pub selected_among-requires-clause-receivers : goal.selected_among-requires-clause-receivers
selected_among-requires-clause-receivers c =
    let cs = c.args.program.now in
    let p = c.method.result in
    let vs = c.args.below.now in
    let items : Vec ℕ Global → List ℕ = λ v. v.items in
    let inside = owner_within c.members_are_there.ensures cs c.args.method p c.method.ensures in
    let long = c.requires.below.long in
    let same = length-map vs items in
    let lt : p.0 < length vs = omega arith in
    let owner : c.owner.inside.class ≡ p.0 = ap (λ (x : ℕ × ℕ). x.0) c.owner.view_is in
    are_receivers c.members_are_there.ensures cs c.args.method p (lists_of vs) c.deref.result.now c.method.ensures c.requires.below
    (c.deref.ensures.value ∙ (ap items (c.index-below-owner.is ∙ ap (λ (k : ℕ). get_or vs k c.index-below-owner.result) owner) ∙ sym (get_or-map items vs p.0 c.index-below-owner.result [] lt)))

pub returns-else-is_virtual : goal.returns-else-is_virtual
returns-else-is_virtual c =
    let P = resolved c.args.program.now in
    let m = c.args.method in
    subst (λ (ts : List ℕ). IsSelectedList P m (Unit {0}) ts) (sym (c.new-else-is_virtual.ensures ∙ c.new.ensures.items))
    (none_selected P m (Unit {0}) (λ wanted virtual. none_by P m c.shape.result.now c.shape.ensures (sym c.is_virtual.ensures ∙ c.if-is_virtual.false) virtual))
