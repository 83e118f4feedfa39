use Rattle.std.proofs.Common.{◌≡◌, ℕ, ◌+◌, ◌-◌, ◌<◌, List, [], length, get_or, sym, ap, ◌∙◌, arith}
use Rattle.std.proofs.lemmas.List.{get_or_default}
use Rattle.std.specs.List.{slice_range}
use Rattle.loop_nest.specs.Grouping.{lists_from}
use Rattle.loop_nest.proofs.Grouping.{list_at, many_lists}
use Rattle.loop_nest.proofs.digraph.Sources.of.Goals as goal

short : (v : ℕ) (starts nodes : List ℕ) (view : List (List ℕ)) → lists_from starts nodes ≡ view → v < length view → v < length starts - 1
short v starts nodes view is lt = let a = ap length is in let b = many_lists starts nodes in omega arith

at : (starts : List ℕ) (v x : ℕ) → v < length starts → x ≡ get_or starts v x → x ≡ get_or starts v 0
at starts v x lt is = is ∙ get_or_default starts v x 0 lt

pub index-requires : goal.index-requires
index-requires c =
    let s = c.self.inside in
    let ok = s.starts.ok in
    let lt = short c.args.v s.starts.items s.nodes.items c.args.self.now c.self.view_is c.requires in
    omega (arith, ok.0)

pub index-requires-2 : goal.index-requires-2
index-requires-2 c =
    let s = c.self.inside in
    let ok = s.starts.ok in
    let lt = short c.args.v s.starts.items s.nodes.items c.args.self.now c.self.view_is c.requires in
    omega (arith, ok.0)

pub part-requires-clause-from : goal.part-requires-clause-from
part-requires-clause-from c =
    let s = c.self.inside in
    let v = c.args.v in
    let lt = short v s.starts.items s.nodes.items c.args.self.now c.self.view_is c.requires in
    let a = at s.starts.items v c.index.result.now (omega arith) c.index.ensures in
    let b = at s.starts.items (v + 1) c.index-2.result.now (omega arith) c.index-2.ensures in
    let r = c.self.invariant.rising v (omega arith) in
    omega arith

pub part-requires-clause-to : goal.part-requires-clause-to
part-requires-clause-to c =
    let s = c.self.inside in
    let v = c.args.v in
    let lt = short v s.starts.items s.nodes.items c.args.self.now c.self.view_is c.requires in
    let b = at s.starts.items (v + 1) c.index-2.result.now (omega arith) c.index-2.ensures in
    let r = c.self.invariant.within (v + 1) (omega arith) in
    let d = ap length c.deref.ensures.value in
    omega arith

pub returns : goal.returns
returns c =
    let s = c.self.inside in
    let v = c.args.v in
    let lt = short v s.starts.items s.nodes.items c.args.self.now c.self.view_is c.requires in
    let a = at s.starts.items v c.index.result.now (omega arith) c.index.ensures in
    let b = at s.starts.items (v + 1) c.index-2.result.now (omega arith) c.index-2.ensures in
    c.part.ensures ∙ ap (λ ls. slice_range ls c.index.result.now c.index-2.result.now) c.deref.ensures.value ∙ ap (λ (z : ℕ). slice_range s.nodes.items z c.index-2.result.now) a ∙ ap (λ (z : ℕ). slice_range s.nodes.items (get_or s.starts.items v 0) z) b ∙ sym (list_at s.starts.items s.nodes.items v lt) ∙ ap (λ (ls : List (List ℕ)). get_or ls v []) c.self.view_is
