use Rattle.std.proofs.Common.{◌≡◌, ◌∙◌, ap, sym, List, ℕ, None, eqb}
use Rattle.std.specs.Map.{lookup}
use lib.Pointwise.{pointwise}
use Rattle.indexmap.proofs.CallerLemmas.{insert_entry-new}
use Rattle.microcode_asm.proofs.LabelLemmas.{has_text, label_new, copied_absent}
use Rattle.microcode_asm.proofs.labels.add_label.Goals as goal

pub returns : goal.returns
returns c = λ q.
    let es = c.args.labels.now.entries in
    let key = c.in_ok-key.key in
    let items = c.in_ok-key.ensures.items in
    let absent : lookup (has_text c.args.name.now) es ≡ None = sym c.get.ensures.value ∙ copied_absent c.get.result (sym c.is_some.ensures ∙ c.if-is_some.false) in
    let none : lookup (has_text key.items) es ≡ None = ap (λ (x : List ℕ). lookup (has_text x) es) items ∙ absent in
    let entries = c.in_ok-insert.ensures.entries ∙ insert_entry-new (λ x y. pointwise eqb x.items y.items) c.args.labels.now key c.args.words none in
    label_new q c.args.name.now c.args.words key es c.insert.new.self.entries items entries
