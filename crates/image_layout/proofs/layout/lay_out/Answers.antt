use Rattle.std.proofs.Common.{◌∙◌, ap}
use Rattle.image_words.specs.Layout.{pool_words, method_size, pools_place, methods_place}
use Rattle.image_words.specs.Regions as regions
use Rattle.program_tables.specs.Resolved.{resolved}
use Rattle.image_builder.specs.Laid.{Laid}
use Rattle.image_layout.proofs.LayoutLemmas.{places_of_run, fields_same, strings_same}
use Rattle.image_layout.proofs.layout.lay_out.Goals as goal

pub returns-clause-made : goal.returns-clause-made
unfolding regions.places_of
returns-clause-made c =
    let cs = c.args.program.now in
    let o = c.in_ok-outline.ensures in
    let made = c.layout_of.ensures in
    record {
      words = ap (λ (l : Laid). l.words) made ∙ c.in_ok-written.ensures.words;
      methods = ap (λ (l : Laid). l.methods) made ∙ places_of_run method_size (resolved cs).methods (methods_place cs) c.in_ok-outline.outline.methods o.methods;
      types = ap (λ (l : Laid). l.types) made ∙ c.in_ok-written.ensures.types;
      pools = ap (λ (l : Laid). l.pools) made ∙ places_of_run pool_words cs (pools_place cs) c.in_ok-outline.outline.pools o.pools;
      fields = ap (λ (l : Laid). l.fields) made ∙ (c.in_ok-written.ensures.fields ∙ fields_same cs);
      strings = ap (λ (l : Laid). l.strings) made ∙ (c.in_ok-written.ensures.strings ∙ strings_same c.packed_has_words.ensures cs);
    }
