use Rattle.std.proofs.Common.{◌+◌, ◌&&◌, List, ℕ, not, take, sym, ap, ◌∙◌, subst, eqb}
use Rattle.std.specs.Prelude.{is_some}
use Rattle.indexmap.proofs.CallerLemmas.{insert_entry-new}
use Rattle.lists.proofs.Lookups.{copied_none, copied_some}
use Rattle.class_lookup.specs.Parts.{signature_of}
use Rattle.class_lookup.specs.Symbols.{texts}
use Rattle.class_lookup.specs.Numbered.{IsIndexed}
use Rattle.class_lookup.proofs.MemberLemmas.{signed, indexed_new, indexed_old, indexed_all}
use Rattle.class_lookup.proofs.members.index_members.Goals as goal
use Rattle.class_lookup.proofs.members.index_members.Goals.{then-is_none+in_ok-insert, else-is_none}

pub loop-i-preserved : goal.loop-i-preserved
loop-i-preserved c k at =
    let ts = texts c.args.classes.now in
    let ms = c.args.members.now in
    let i = c.loop-i.i in
    let m = c.index-members-i.result in
    let is = c.index-members-i.is in
    let lt = c.loop-i-test.true in
    let es = c.loop-i.places.entries in
    let key : ℕ × ℕ = (c.text_symbol-name.result, c.text_symbol-descriptor.result) in
    let own = signed c.args.classes.now (signature_of k m) c.text_symbol-name.result c.text_symbol-descriptor.result (c.text_symbol-name.ensures k at) (c.text_symbol-descriptor.ensures k at) in
    elim c.if-is_none.branch [
      | then-is_none+in_ok-insert w ↦
          let absent = sym c.get.ensures.value ∙ copied_none c.get.result (c.is_none.ensures ∙ ap not w.if-is_none.true) in
          let entries = w.in_ok-insert.ensures.entries ∙ insert_entry-new (λ x y. eqb x.0 y.0 && eqb x.1 y.1) c.loop-i.places key i absent in
          subst (λ x. IsIndexed ts k (take (i + 1) ms) x.entries) (sym w.places-is)
          (subst (λ (x : List ((ℕ × ℕ) × ℕ)). IsIndexed ts k (take (i + 1) ms) x) (sym entries) (indexed_new ts k ms i m es key lt is (c.loop-i.invariant k at) own))
      | else-is_none w ↦
          let there = ap is_some (sym c.get.ensures.value) ∙ copied_some c.get.result w.if-is_none.ensures in
          subst (λ x. IsIndexed ts k (take (i + 1) ms) x.entries) (sym w.places-is) (indexed_old ts k ms i m es key lt is (c.loop-i.invariant k at) own there)
    ]

pub returns : goal.returns
returns c k at = indexed_all (texts c.args.classes.now) k c.args.members.now c.loop-i.i c.loop-i.places.entries c.loop-i-test.false (c.loop-i.invariant k at)
