use Rattle.std.proofs.Common.{ℕ, ◌<◌, sym, ap, subst}
use Rattle.std.proofs.lemmas.Result.{IfOk-weaker}
use Rattle.loop_nest.specs.Digraph.{Digraph}
use Rattle.loop_marks.specs.Marking.{AreMarksOf, AreSized}
use Rattle.loop_finder.specs.Setting.{IsOnlyEntry}
use Rattle.loop_finder.specs.Counting.{Body}
use Rattle.loop_finder.proofs.Choices.{no_entry}
use Rattle.loop_finder.proofs.counting.bound_stored.Goals as goal

pub only_entry-requires : goal.only_entry-requires
only_entry-requires c = subst (λ (g : Digraph). AreSized g c.args.marks.now) (sym (ap (λ (x : Body). x.graph) c.body.view_is)) c.requires.sized

pub bound_from-requires : goal.bound_from-requires
bound_from-requires c = record {
  sized = c.requires.sized;
  stored = c.requires.stored;
  entry = subst (λ (g : Digraph). c.in-Some.entry < g.nodes) (ap (λ (x : Body). x.graph) c.body.view_is) c.in-Some.ensures.within;
}

pub returns-in-Some : goal.returns-in-Some
returns-in-Some c =
    let g = c.args.body.now.graph in
    let h = c.args.marks.now.header in
    let told =
    subst (λ (d : Digraph). AreMarksOf d c.args.marks.now → IsOnlyEntry d h c.in-Some.entry) (ap (λ (x : Body). x.graph) c.body.view_is) c.in-Some.ensures.entry in
    IfOk-weaker c.bound_from.result _ _ (λ n least marks. least marks (told marks)) c.bound_from.ensures

pub returns-in-None : goal.returns-in-None
returns-in-None c marks =
    let h = c.args.marks.now.header in
    let told =
    subst (λ (d : Digraph). AreMarksOf d c.args.marks.now → (u : ℕ) → IsOnlyEntry d h u → ⊥) (ap (λ (x : Body). x.graph) c.body.view_is) c.in-None.ensures.entry in
    no_entry c.args.body.now h c.requires.stored (told marks)
