use Rattle.std.proofs.Common.{◌++◌, ◌∷◌, [], ℕ, Bool, List, Option, append_assoc, sym, ap, ◌∙◌}
use Rattle.std.specs.Prelude.{is_some, if◌then◌else◌}
use Rattle.image_words.proofs.SlotLemmas.{first_of, first_any}
use Rattle.image_words.proofs.class_slots.add_method.Goals as goal

pub returns-then-has_first-clause-slots : goal.returns-then-has_first-clause-slots
returns-then-has_first-clause-slots c = λ above are.
    let cs = c.args.classes.now in
    let number = c.number_at-number.result in
    let places = above ++ c.args.slots.now.added.items in
    let any = first_any c.members_have_symbols.ensures c.symbols_stand_for_texts.ensures cs c.args.signatures.now c.args.method number c.args.slots.now.first.items places
    c.requires.signatures c.requires.interface c.number_at-number.ensures are.first in
    let has = ap (λ (xs : List (Option ℕ)). is_some (first_of xs number)) (sym c.deref.ensures.value) ∙ (sym c.has_first.ensures ∙ c.if-has_first.true) in
    sym (ap (λ (b : Bool). if b then places else places ++ c.args.method ∷ []) (any ∙ has))

pub returns-clause-slots : goal.returns-clause-slots
returns-clause-slots c = λ above are.
    let cs = c.args.classes.now in
    let number = c.number_at-number.result in
    let added = c.args.slots.now.added.items in
    let places = above ++ added in
    let any = first_any c.members_have_symbols.ensures c.symbols_stand_for_texts.ensures cs c.args.signatures.now c.args.method number c.args.slots.now.first.items places
    c.requires.signatures c.requires.interface c.number_at-number.ensures are.first in
    let has = ap (λ (xs : List (Option ℕ)). is_some (first_of xs number)) (sym c.deref.ensures.value) ∙ (sym c.has_first.ensures ∙ c.if-has_first.false) in
    ap (λ xs. above ++ xs) c.in_ok-push.ensures.added
    ∙ (sym (append_assoc above added (c.args.method ∷ [])) ∙ sym (ap (λ (b : Bool). if b then places else places ++ c.args.method ∷ []) (any ∙ has)))
