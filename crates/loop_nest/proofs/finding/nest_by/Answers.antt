use Rattle.std.proofs.Common.{◌≡◌, ℕ, List, [], length, drop, sym, ◌∙◌, subst, arith}
use Rattle.std.proofs.lemmas.Bool.{eqb-true}
use Rattle.std.proofs.lemmas.List.{take_at, nil_from_length}
use Rattle.loop_nest.specs.Entered.{AreBackEdges}
use Rattle.loop_nest.specs.Nest.{NaturalLoop, IsNest}
use Rattle.loop_nest.proofs.Nested.{no_loops}
use Rattle.loop_nest.proofs.finding.nest_by.Goals as goal

pub returns-then-is_empty : goal.returns-then-is_empty
returns-then-is_empty c =
    let g = c.args.g.now in
    let none : c.args.back_edges.now ≡ [] = nil_from_length c.args.back_edges.now (eqb-true (length c.args.back_edges.now) 0 (sym c.is_empty.ensures ∙ c.if-is_empty.true)) in
    let P : List NaturalLoop → Type 0 = λ ls. IsNest g ls in
    subst P (sym (c.new-then-is_empty.ensures ∙ c.new.ensures.items)) (no_loops g (subst (λ (es : List (ℕ × ℕ)). AreBackEdges g es) none c.requires.back_edges))

pub returns : goal.returns
returns c =
    let old = c.in_ok-loops.loops.items in
    let new' = c.add_members.new.loops in
    let is : c.new-2.result ≡ new' =
    c.new-2.ensures ∙ take_at new' (drop (length new') old) c.in_ok-loops.loops.len (omega arith) in
    let Q : List NaturalLoop → Type 0 = λ ls. IsNest c.args.g.now ls in
    subst Q (sym is) c.in_ok-add_members.ensures
