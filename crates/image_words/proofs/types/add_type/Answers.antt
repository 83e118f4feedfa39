use Rattle.std.proofs.Common.{◌≡◌, ◌++◌, ◌∷◌, [], ℕ, List, Some, append_assoc, sym, ap, ◌∙◌, subst}
use Rattle.std.specs.Prelude.{slice_get}
use Rattle.std.specs.Option.{option_map}
use Rattle.std.proofs.lemmas.Option.{slice_get-map}
use Rattle.bytecode_model.specs.Types.{Kind}
use Rattle.image_facts.specs.Says.{counted_type}
use Rattle.lists.proofs.Lemmas.{some_same}
use Rattle.program_tables.specs.Numbers.{types_of}
use Rattle.program_tables.specs.Resolved.{resolved}
use Rattle.program_tables.specs.Tables.{kind_seen}
use Rattle.image_words.specs.Layout.{outline_of}
use Rattle.image_words.specs.Regions.{supertype_words, type_image}
use Rattle.image_words.proofs.BaseLemmas.{type_same}
use Rattle.image_words.proofs.types.add_type.Goals as goal

pub returns : goal.returns
returns c =
    let cs = c.args.classes.now in
    let t = c.args.number in
    let kind = kind_seen c.at-kind.result in
    let old = c.args.words.now.items in
    let there : slice_get (types_of cs) t ≡ Some kind =
    ap (λ (ks : List Kind). slice_get ks t) (sym c.requires.types) ∙ (slice_get-map kind_seen c.args.types.now t ∙ ap (option_map kind_seen) c.at-kind.ensures) in
    let component = c.in_ok-component.ensures cs c.requires.types ∙ ap (counted_type (resolved cs)) c.component_of.ensures in
    let front : List ℕ = t ∷ c.instance_words-instance.result ∷ c.in_ok-component.component ∷ c.method_table-table.result ∷ c.interface_table-interfaces.result ∷ [] in
    let whole = type_same cs t kind c.instance_words-instance.result c.in_ok-component.component c.method_table-table.result c.interface_table-interfaces.result there
    c.instance_words-instance.ensures component c.method_table-table.ensures c.interface_table-interfaces.ensures in
    let made = c.in_ok-add_supertypes.ensures
    ∙ (ap (λ (ws : List ℕ). ws ++ supertype_words cs kind) c.in_ok-extend_from_slice.ensures.items
    ∙ (append_assoc old front (supertype_words cs kind) ∙ ap (λ (ws : List ℕ). old ++ ws) whole)) in
    λ k at. subst (λ (k : Kind). c.add_supertypes.new.words.items ≡ old ++ type_image cs (outline_of cs) (t, k)) (some_same kind k (sym there ∙ at)) made
