use Rattle.std.proofs.Common.{◌≡◌, ℕ, List, sym, ap, ◌∙◌, subst}
use Rattle.loop_nest.specs.Digraph.{Digraph}
use Rattle.method_flow.specs.Graphs.{IsGraphOf}
use Rattle.loop_acts.specs.Acts.{AreActs}
use Rattle.loop_acts.specs.Rules.{further}
use Rattle.loop_acts.specs.Rules.Given.{further_on}
use Rattle.loop_acts.specs.declared.effects.Act.{Act}
use Rattle.loop_finder.specs.Counting.{Body}
use Rattle.loop_acts.specs.Writing.{IsStoredByAll}
use Rattle.loop_finder.specs.Skipping.{AreBacksPast}
use Rattle.loop_finder.proofs.StoredLast.{unwritten_only, last_only}
use Rattle.loop_finder.proofs.beginning.stored_last.Goals as goal

pub last_at-requires-clause-backs : goal.last_at-requires-clause-backs
last_at-requires-clause-backs c =
    let b = c.body.inside in
    subst (λ (xs : List Act). AreBacksPast xs b.routes c.deref-2.result.now) (sym c.deref.ensures.value)
    (subst (λ (bs : List ℕ). AreBacksPast b.acts.items b.routes bs) (sym c.deref-2.ensures.value) c.body.invariant)

pub returns-then-last : goal.returns-then-last
returns-then-last c P known m u of at come =
    let b = c.args.body.now in
    let acts : c.deref.result.now ≡ b.acts = c.deref.ensures.value ∙ ap (λ (x : Body). x.acts) c.body.view_is in
    let graph : c.body.inside.routes ≡ b.graph = ap (λ (x : Body). x.graph) c.body.view_is in
    let last = c.in_ok-last.ensures P (further_on known) m u (subst (λ (g : Digraph). IsGraphOf P m g) (sym graph) of.graph) (subst (λ (xs : List Act). AreActs P (further P known) m xs) (sym acts) of.acts) at come in
    unwritten_only P known m b of c.lines_follow_one_another.ensures.one c.last_writes_are_reached.ensures.write c.last_writes_exist.ensures c.pushed_are_one.ensures.ints c.args.local u come
    c.in_ok-last.last last c.if-last.true

pub returns : goal.returns
returns c P known m u of at come =
    let b = c.args.body.now in
    let acts : c.deref.result.now ≡ b.acts = c.deref.ensures.value ∙ ap (λ (x : Body). x.acts) c.body.view_is in
    let graph : c.body.inside.routes ≡ b.graph = ap (λ (x : Body). x.graph) c.body.view_is in
    let last = c.in_ok-last.ensures P (further_on known) m u (subst (λ (g : Digraph). IsGraphOf P m g) (sym graph) of.graph) (subst (λ (xs : List Act). AreActs P (further P known) m xs) (sym acts) of.acts) at come in
    let acts2 : c.deref-3.result.now ≡ b.acts = c.deref-3.ensures.value ∙ ap (λ (x : Body). x.acts) c.body.view_is in
    let all =
    subst (λ (ps : List ℕ). IsStoredByAll b.acts ps c.stored_by_all.result) c.deref-4.ensures.value
    (subst (λ (xs : List Act). IsStoredByAll xs c.deref-4.result.now c.stored_by_all.result) acts2 c.stored_by_all.ensures) in
    last_only P known m b of c.lines_follow_one_another.ensures.one c.last_writes_are_reached.ensures.write c.last_writes_exist.ensures c.pushed_are_one.ensures.ints c.args.local u come
    c.in_ok-last.last last c.stored_by_all.result c.if-last.false all
