use Rattle.std.proofs.Common.{◌≡◌, ℕ, Bool, false, List, length, slice_get, ap, ◌∙◌, sym}
use Rattle.std.proofs.Math.ListN.{replicate}
use Rattle.std.proofs.lemmas.List.{length-replicate}
use Rattle.bytecode_model.specs.Types.{same_kind}
use Rattle.class_lookup.specs.Parts.{same_text}
use Rattle.program_tables.specs.Marks.{AreAdded, arrays_of_text, text_of}
use Rattle.program_tables.specs.Tables.{kinds_of}
use Rattle.program_tables.proofs.MarkLemmas.{no_true}
use Rattle.program_tables.proofs.mentions.no_mentions.Goals as goal

no_mark : {A : Type 0} (same : A → A → Bool) (items : ℕ → List A) (there : List A) (n : ℕ) (marks : List Bool) → marks ≡ replicate n false → AreAdded same items there marks
no_mark same items there n marks e m g = absurd (no_true n m (ap (λ (bs : List Bool). slice_get bs m) (sym e) ∙ g))

pub returns-clause-added : goal.returns-clause-added
returns-clause-added c =
    let cs = c.args.classes.now in
    let n = c.symbol_count-symbols.result in
    let one : c.in_ok-vec.field-0.items ≡ replicate n false = c.in_ok-vec.ensures.items_if_clones_equal (λ y h. h) in
    let other : c.in_ok-vec-2.field-0.items ≡ replicate n false = c.in_ok-vec-2.ensures.items_if_clones_equal (λ y h. h) in
    record {
      arrays = record {
        long = ap length one ∙ (length-replicate n false ∙ c.symbol_count-symbols.ensures);
        added = no_mark same_kind (arrays_of_text cs) (kinds_of c.in_ok-first_types.field-0) n c.in_ok-vec.field-0.items one;
      };
      literals = record {
        long = ap length other ∙ (length-replicate n false ∙ c.symbol_count-symbols.ensures);
        added = no_mark same_text (text_of cs) c.new.result n c.in_ok-vec-2.field-0.items other;
      };
    }
