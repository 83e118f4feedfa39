use Rattle.std.proofs.Common.{◌≡◌, ◌+◌, ◌++◌, ◌∷◌, [], ◌∙◌, ap, sym, subst, List, ℕ, length, ◌-◌}
use Rattle.std.specs.Prelude.{sum_by, Err}
use Rattle.std.proofs.lemmas.Result.{err_from_is_err_and}
use Rattle.outside.specs.Outside.{IsWhole}
use Rattle.outside.specs.declared.operands.FilesFault.{FilesFault}
use Rattle.outside.specs.Files.{files_told, AreFiles, contents}
use Rattle.outside.proofs.Together.{cause_more, err_cause, contents_push, files_more, only_more}
use Rattle.outside.proofs.operands.read_files.Goals as goal

pub returns-in_err-bytes-clause-cause : goal.returns-in_err-bytes-clause-cause
returns-in_err-bytes-clause-cause g c =
    let p = err_from_is_err_and c.from_residual.result c.from_residual.ensures.1 in
    let old = files_told (g.F.Files.words c.args.files.now) (g.F.Files.told c.args.files.now) (g.F.Files.faults c.args.files.now) in
    let mid = files_told (g.F.Files.words c.loop-word.files) (g.F.Files.told c.loop-word.files) (g.F.Files.faults c.loop-word.files) in
    let new = files_told (g.F.Files.words c.read_file.new.files) (g.F.Files.told c.read_file.new.files) (g.F.Files.faults c.read_file.new.files) in
    err_cause old new c.args.first c.args.end c.from_residual.result c.in_err-bytes.field-0.0 (p.1 ∙ ap (λ (fault : FilesFault). Err fault) p.2)
    (cause_more old mid new c.args.first c.loop-word.word c.args.end c.loop-word.left (contents c.loop-word.read.items) c.in_err-bytes.field-0.0 c.loop-word.auto.word c.loop-word-test.true c.loop-word.invariant.left c.loop-word.invariant.files c.loop-word.invariant.rest
    c.in_err-bytes.ensures.cause c.read_file.ensures.rest)

pub loop-word-preserved : goal.loop-word-preserved
loop-word-preserved g c =
    let old = files_told (g.F.Files.words c.args.files.now) (g.F.Files.told c.args.files.now) (g.F.Files.faults c.args.files.now) in
    let mid = files_told (g.F.Files.words c.loop-word.files) (g.F.Files.told c.loop-word.files) (g.F.Files.faults c.loop-word.files) in
    let new = files_told (g.F.Files.words c.read_file.new.files) (g.F.Files.told c.read_file.new.files) (g.F.Files.faults c.read_file.new.files) in
    let same : contents c.push.new.self.items ≡ contents c.loop-word.read.items ++ c.in_ok-bytes.bytes.items ∷ [] = ap contents c.in_default.ensures.items ∙ contents_push c.loop-word.read.items c.in_ok-bytes.bytes in
    let W : _ → Type 0 = λ told. IsWhole told c.in_ok-bytes.bytes.items in
    let both = files_more (g.F.Files.told c.args.files.now) c.args.first c.loop-word.word c.loop-word.left (contents c.loop-word.read.items) c.in_ok-bytes.bytes.items c.loop-word.invariant.left c.loop-word.invariant.files
    (subst W (c.loop-word.invariant.rest.contents c.loop-word.word) c.in_ok-bytes.ensures.whole) c.in_ok-bytes.ensures.within in
    let A : List (List ℕ) → Type 0 = λ files. AreFiles (g.F.Files.told c.args.files.now) c.args.first (c.loop-word.word + 1) files in
    let size : c.len.result ≡ length c.in_ok-bytes.bytes.items = c.len.ensures ∙ c.in_ok-bytes.bytes.ok.0 in
    record {
      files = subst A (sym same) both.0;
      left = ap (λ files. sum_by length files + (c.loop-word.left - c.len.result)) same ∙ ap (λ n. sum_by length (contents c.loop-word.read.items ++ c.in_ok-bytes.bytes.items ∷ []) + (c.loop-word.left - n)) size ∙ both.1;
      rest = only_more old mid new c.args.first c.loop-word.word c.loop-word.auto.word c.loop-word.invariant.rest c.read_file.ensures.rest;
    }
