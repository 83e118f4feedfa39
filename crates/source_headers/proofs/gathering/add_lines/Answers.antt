use Rattle.std.proofs.Common.{◌≡◌, List, ℕ, Option, sym, ap, ◌∙◌, subst}
use Rattle.std.specs.Prelude.{OnOk}
use Rattle.source_places.specs.declared.methods.sources.MethodSource.{MethodSource}
use Rattle.source_headers.specs.Gathered.{AddsLines}
use Rattle.source_headers.specs.Told.{headed_lines}
use Rattle.source_headers.proofs.FileLemmas.{lines_added, no_lines}
use Rattle.source_headers.proofs.gathering.add_lines.Goals as goal

pub returns-in_ok-lines-in-Some : goal.returns-in_ok-lines-in-Some
returns-in_ok-lines-in-Some c =
    let old = c.args.files.now in
    let new = c.add.new.self in
    let shape = c.args.loops.now.shape in
    let source = c.in-Some.source in
    let G : Option MethodSource → Type 0 = λ s. OnOk c.add.result (AddsLines old new s shape) in
    let lines : c.deref-in-Some-2.result.now ≡ headed_lines source.lines.items shape =
    c.deref-in-Some-2.ensures.value ∙ c.in_ok-lines-in-Some.ensures ∙ ap (λ (ls : List (Option ℕ)). headed_lines ls shape) c.deref.ensures.value in
    subst G (sym c.in-Some.is)
    (lines_added c.add.result old new source shape c.deref-in-Some-2.result.now c.deref-in-Some.result.now c.deref-in-Some.ensures.value lines c.add.ensures.names c.add.ensures.sites)

pub returns-in-None : goal.returns-in-None
returns-in-None c =
    let G : Option MethodSource → Type 0 = λ s. AddsLines c.args.files.now c.args.files.now s c.args.loops.now.shape in subst G (sym c.in-None.is) (no_lines c.args.files.now c.args.loops.now.shape)
