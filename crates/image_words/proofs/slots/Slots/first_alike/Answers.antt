use Rattle.std.proofs.Common.{ℕ, List, Option, Some, None, get_or, sym, ap, ◌∙◌, arith}
use Rattle.image_words.specs.Slots.{slots}
use Rattle.image_builder.proofs.ListLemmas.{get_below}
use Rattle.image_words.proofs.SlotLemmas.{class_first, first_index, read_slots}
use Rattle.image_words.proofs.slots.Slots.first_alike.Goals as goal

pub returns-in-Some : goal.returns-in-Some
returns-in-Some c =
    let cs = c.args.classes.now in
    let s = c.args.self.now in
    let named = c.args.named in
    let number = c.in-Some.number in
    let t = c.index.result.now in
    let first = class_first cs s.signatures named t (read_slots cs s c.requires.slots named t c.requires.class c.index.ensures) in
    c.slot_at.ensures ∙ (ap (λ (xs : List (Option ℕ)). get_or xs number None) c.deref.ensures.value
    ∙ first_index c.members_have_symbols.ensures c.symbols_stand_for_texts.ensures cs s.signatures c.args.method (Some number) t.first.items (slots cs named) c.requires.slots.signatures c.requires.interface
    (sym c.in-Some.is ∙ c.number_at.ensures) first)

pub returns-in-None : goal.returns-in-None
returns-in-None c =
    let cs = c.args.classes.now in
    let s = c.args.self.now in
    let named = c.args.named in
    let long = c.requires.slots.long in
    let below = c.requires.class in
    let t = get_below s.classes.items named (omega (arith, long, below)) in
    let first = class_first cs s.signatures named t.0 (c.requires.slots.each named t.0 t.1) in
    first_index c.members_have_symbols.ensures c.symbols_stand_for_texts.ensures cs s.signatures c.args.method None t.0.first.items (slots cs named) c.requires.slots.signatures c.requires.interface
    (sym c.in-None.is ∙ c.number_at.ensures) first
