use Rattle.std.proofs.Common.{◌≡◌, ℕ, List, sym, ap, ◌∙◌, subst}
use Rattle.loop_acts.specs.declared.effects.Act.{Act}
use Rattle.loop_finder.specs.declared.body.Beginning.{Beginning}
use Rattle.loop_finder.specs.declared.body.Beginnings.TheVariants.{Stored, Listed}
use Rattle.loop_acts.specs.Writing.{IsOnly}
use Rattle.loop_finder.specs.Setting.{AreWritesBefore, IsSetTo}
use Rattle.loop_finder.specs.Counting.{Body, begin_in}
use Rattle.loop_finder.proofs.Choices.{listed_only, stored_only}
use Rattle.loop_finder.proofs.counting.begin_of.Goals as goal

pub returns-in-Stored : goal.returns-in-Stored
returns-in-Stored c before =
    let b = c.args.body.now in
    let h = c.args.marks.now.header in
    let places = c.args.writes.now.before.items in
    let k = c.args.local in
    let acts : c.deref.result.now ≡ b.acts = c.deref.ensures.value ∙ ap (λ (x : Body). x.acts) c.body.view_is in
    let stored : b.begins ≡ Stored = sym (ap (λ (x : Body). x.begins) c.body.view_is) ∙ c.in-Stored.is in
    stored_only b h k c.set_before.result stored places before
    (λ entry only writes.
    subst (λ (xs : List Act). IsOnly (IsSetTo xs b.graph h k) c.set_before.result) acts
    (c.set_before.ensures b.graph h entry only
    (subst (λ (ps : List ℕ). AreWritesBefore c.deref.result.now b.graph entry ps) (sym c.deref-in-Stored.ensures.value)
    (subst (λ (xs : List Act). AreWritesBefore xs b.graph entry places) (sym acts) writes))))

pub returns-in-Listed : goal.returns-in-Listed
returns-in-Listed c before =
    let b = c.args.body.now in
    let h = c.args.marks.now.header in
    let k = c.args.local in
    let xs = c.in-Listed.begins in
    let listed : b.begins ≡ Listed xs = sym (ap (λ (x : Body). x.begins) c.body.view_is) ∙ c.in-Listed.is in
    listed_only b h k c.begin_in.result xs listed
    (c.begin_in.ensures ∙ (ap (λ (ys : List Beginning). begin_in ys c.header.result k) c.deref-in-Listed.ensures.value ∙ ap (λ (i : ℕ). begin_in xs.items i k) c.header.ensures))
