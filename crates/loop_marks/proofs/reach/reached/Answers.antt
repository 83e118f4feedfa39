use Rattle.std.proofs.Common.{◌≡◌, ℕ, suc, ◌+◌, ◌*◌, ◌<◌, true, false, Bool, List, [], length, replicate, set, sym, ap, ◌∙◌, subst, arith}
use Rattle.std.proofs.lemmas.List.{length-set, nil_from_length}
use Rattle.flow_graph.specs.Reach.{ArePushed}
use Rattle.loop_marks.specs.Flags.{Flags}
use Rattle.loop_marks.specs.Reach.{IsSearch, flag_at}
use Rattle.loop_marks.proofs.Flagging.{flag_within}
use Rattle.loop_marks.proofs.Searching.{search_ends, search_skips, search_start, search_takes, smaller, stacked_within, unflagged}
use Rattle.std.proofs.lemmas.Bool.{both_ways}
use Rattle.loop_marks.proofs.reach.reached.Goals.{else-is_allowed-via-then-is_allowed+else-not-is_flagged, else-is_allowed-via-else-is_allowed}
use Rattle.loop_marks.proofs.reach.reached.Goals as goal

pub loop-x-init : goal.loop-x-init
loop-x-init c =
    let allowed = c.args.allowed.now in
    let ok = set allowed.items c.args.without false in
    let flags = c.in_ok-flags.flags in
    let is = c.in_ok-flags.ensures in
    let none = ap (λ (f : Flags). f.items) is ∙ ap (λ (n : ℕ). replicate n false) (sym (length-set allowed.items c.args.without false)) in (
      ap (λ (f : Flags). f.first) is,
      search_start c.args.g.now ok c.args.start c.in_ok-stack.stack.items flags.items c.requires.start c.in_ok-stack.ensures.items none,
    )

pub push_targets-requires-clause-node : goal.push_targets-requires-clause-node
push_targets-requires-clause-node c =
    let lt = stacked_within c.args.g.now.nodes c.in-Some.x c.loop-x.stack.items c.pop.new.self.items c.in-Some.ensures.items c.loop-x.invariant.1.stack_within in
    let each = c.requires.each in
    omega arith

pub loop-x-smaller-then-not-is_flagged : goal.loop-x-smaller-then-not-is_flagged
loop-x-smaller-then-not-is_flagged c =
    let es = c.args.g.now.edges in
    let x = c.in-Some.x in
    let flags = c.loop-x.flags.items in
    let s = c.loop-x.invariant.1 in
    let left = c.pop.new.self.items in
    let pushed = c.push_targets.new.stack.items in
    let allowed = set c.args.allowed.now.items c.args.without false in
    let lt = flag_within allowed x (sym c.is_allowed.ensures.flag ∙ c.if-is_allowed.true) in
    let long = s.long in
    let inside : x < length flags = omega arith in
    let at : c.from.result ≡ x = c.from.ensures in
    let fresh : flag_at flags x ≡ false = sym (c.is_flagged.ensures.flag ∙ ap (flag_at flags) at) ∙ c.if-not-is_flagged.true in
    let less = smaller es x flags c.loop-x.stack.items left pushed inside fresh c.in-Some.ensures.items (subst (λ (xs : List (ℕ × ℕ)). ArePushed xs x left pushed) c.edges.ensures.edges c.in_ok-push_targets.ensures) in
    subst (λ (fs : List Bool). unflagged fs * suc (length es) + length pushed < unflagged flags * suc (length es) + length c.loop-x.stack.items) (sym (ap (λ (f : Flags). f.items) c.mark.ensures)) less

pub loop-x-preserved-then-not-is_flagged : goal.loop-x-preserved-then-not-is_flagged
loop-x-preserved-then-not-is_flagged c =
    let g = c.args.g.now in
    let ok = set c.args.allowed.now.items c.args.without false in
    let x = c.in-Some.x in
    let flags = c.loop-x.flags.items in
    let s = c.loop-x.invariant.1 in
    let left = c.pop.new.self.items in
    let stack = c.push_targets.new.stack.items in
    let P : List ℕ → Type 0 = λ ls. IsSearch g ok c.args.start ls flags in
    let pushed = subst (λ (xs : List (ℕ × ℕ)). ArePushed xs x left stack) c.edges.ensures.edges c.in_ok-push_targets.ensures in
    let next = search_takes g ok c.args.start flags left x stack c.nodes.ensures.valid (subst P c.in-Some.ensures.items s) (sym c.is_allowed.ensures.flag ∙ c.if-is_allowed.true) pushed in (
      ap (λ (f : Flags). f.first) c.mark.ensures ∙ c.loop-x.invariant.0,
      subst (λ (fs : List Bool). IsSearch g ok c.args.start stack fs) (sym (ap (λ (f : Flags). f.items) c.mark.ensures)) next,
    )

pub loop-x-preserved : goal.loop-x-preserved
loop-x-preserved c =
    let g = c.args.g.now in
    let ok = set c.args.allowed.now.items c.args.without false in
    let x = c.in-Some.x in
    let flags = c.loop-x.flags.items in
    let s = c.loop-x.invariant.1 in
    let left = c.pop.new.self.items in
    let P : List ℕ → Type 0 = λ ls. IsSearch g ok c.args.start ls flags in
    let at : flag_at ok x ≡ true → flag_at flags x ≡ true = λ fine. elim c.else-is_allowed.branch [
      | else-is_allowed-via-then-is_allowed+else-not-is_flagged w ↦ sym (w.is_flagged.ensures.flag ∙ ap (flag_at flags) w.from.ensures) ∙ w.if-not-is_flagged.false
      | else-is_allowed-via-else-is_allowed w ↦ absurd (both_ways (flag_at ok x) (sym c.is_allowed.ensures.flag ∙ w.if-is_allowed.false) fine)
    ] in
    (c.loop-x.invariant.0, search_skips g ok c.args.start flags left x (subst P c.in-Some.ensures.items s) at)

pub returns : goal.returns
returns c =
    let ok = c.loop-x.stack.ok in
    let cases = c.in_default.ensures.cases in
    let empty : c.loop-x.stack.items ≡ [] = nil_from_length c.loop-x.stack.items (omega (arith, ok.0, cases.0)) in
    let P : List ℕ → Type 0 = λ ls. IsSearch c.args.g.now (set c.args.allowed.now.items c.args.without false) c.args.start ls c.loop-x.flags.items in
    search_ends c.args.g.now (set c.args.allowed.now.items c.args.without false) c.args.start c.loop-x.flags.items (subst P empty c.loop-x.invariant.1)
