use Rattle.std.proofs.Common.{◌≡◌, ◌++◌, Some, arith}
use Rattle.std.proofs.lemmas.Bool.Decides.{Decides-eqb}
use Rattle.std.proofs.lemmas.Slice.Eq.{strip_prefix_is}
use Rattle.image_file.proofs.Whole.{mark, marked_name, named_count, counted_head, no_word_count, no_file_count, no_words, no_files, all_there}
use Rattle.image_file.proofs.linked.reading.regions_of.Goals as goal

pub returns-in_err-word_count : goal.returns-in_err-word_count
returns-in_err-word_count c =
    let bytes = c.args.bytes.now in
    let name = c.in_ok-main_name.main_name.now in
    let marked : bytes ≡ mark ++ c.in_ok-rest.rest.now = strip_prefix_is Decides-eqb bytes mark (Some c.in_ok-rest.rest) c.in_ok-rest.ensures.cases in
    let named = marked_name bytes c.in_ok-rest.rest.now name c.in_ok-main_name.rest.now marked c.in_ok-main_name.ensures in
    rw c.from_residual-in_err-word_count.ensures (no_word_count bytes name c.in_ok-main_name.rest.now named c.in_err-word_count.ensures)

pub returns-in_err-file_count : goal.returns-in_err-file_count
returns-in_err-file_count c =
    let bytes = c.args.bytes.now in
    let name = c.in_ok-main_name.main_name.now in
    let marked : bytes ≡ mark ++ c.in_ok-rest.rest.now = strip_prefix_is Decides-eqb bytes mark (Some c.in_ok-rest.rest) c.in_ok-rest.ensures.cases in
    let named = marked_name bytes c.in_ok-rest.rest.now name c.in_ok-main_name.rest.now marked c.in_ok-main_name.ensures in
    let counted = named_count bytes name c.in_ok-main_name.rest.now c.in_ok-word_count.word_count c.in_ok-word_count.rest.now named c.in_ok-word_count.ensures in
    rw c.from_residual-in_err-file_count.ensures (no_file_count bytes name c.in_ok-word_count.word_count c.in_ok-word_count.rest.now counted c.in_err-file_count.ensures)

pub returns-in_err-words : goal.returns-in_err-words
returns-in_err-words c =
    let bytes = c.args.bytes.now in
    let name = c.in_ok-main_name.main_name.now in
    let marked : bytes ≡ mark ++ c.in_ok-rest.rest.now = strip_prefix_is Decides-eqb bytes mark (Some c.in_ok-rest.rest) c.in_ok-rest.ensures.cases in
    let named = marked_name bytes c.in_ok-rest.rest.now name c.in_ok-main_name.rest.now marked c.in_ok-main_name.ensures in
    let counted = named_count bytes name c.in_ok-main_name.rest.now c.in_ok-word_count.word_count c.in_ok-word_count.rest.now named c.in_ok-word_count.ensures in
    let headed = counted_head bytes name c.in_ok-word_count.word_count c.in_ok-word_count.rest.now c.in_ok-file_count.file_count c.in_ok-file_count.rest.now counted c.in_ok-file_count.ensures in
    rw c.from_residual-in_err-words.ensures (no_words bytes name c.in_ok-word_count.word_count c.in_ok-file_count.file_count c.in_ok-file_count.rest.now headed c.in_err-words.ensures.cases)

pub returns-then-not-are_files : goal.returns-then-not-are_files
returns-then-not-are_files c =
    let bytes = c.args.bytes.now in
    let name = c.in_ok-main_name.main_name.now in
    let marked : bytes ≡ mark ++ c.in_ok-rest.rest.now = strip_prefix_is Decides-eqb bytes mark (Some c.in_ok-rest.rest) c.in_ok-rest.ensures.cases in
    let named = marked_name bytes c.in_ok-rest.rest.now name c.in_ok-main_name.rest.now marked c.in_ok-main_name.ensures in
    let counted = named_count bytes name c.in_ok-main_name.rest.now c.in_ok-word_count.word_count c.in_ok-word_count.rest.now named c.in_ok-word_count.ensures in
    let headed = counted_head bytes name c.in_ok-word_count.word_count c.in_ok-word_count.rest.now c.in_ok-file_count.file_count c.in_ok-file_count.rest.now counted c.in_ok-file_count.ensures in
    no_files bytes name c.in_ok-word_count.word_count c.in_ok-file_count.file_count c.in_ok-file_count.rest.now c.in_ok-words.words.now c.in_ok-words.files.now headed c.in_ok-words.ensures.cases
    (λ all. let yes = c.are_files.ensures.1 all in absurd (cc))

pub returns : goal.returns
returns c =
    let bytes = c.args.bytes.now in
    let name = c.in_ok-main_name.main_name.now in
    let marked : bytes ≡ mark ++ c.in_ok-rest.rest.now = strip_prefix_is Decides-eqb bytes mark (Some c.in_ok-rest.rest) c.in_ok-rest.ensures.cases in
    let named = marked_name bytes c.in_ok-rest.rest.now name c.in_ok-main_name.rest.now marked c.in_ok-main_name.ensures in
    let counted = named_count bytes name c.in_ok-main_name.rest.now c.in_ok-word_count.word_count c.in_ok-word_count.rest.now named c.in_ok-word_count.ensures in
    let headed = counted_head bytes name c.in_ok-word_count.word_count c.in_ok-word_count.rest.now c.in_ok-file_count.file_count c.in_ok-file_count.rest.now counted c.in_ok-file_count.ensures in
    all_there bytes name c.in_ok-word_count.word_count c.in_ok-file_count.file_count c.in_ok-file_count.rest.now c.in_ok-words.words.now c.in_ok-words.files.now (λ k. omega (arith, c.type_inv.bytes k)) headed c.in_ok-words.ensures.cases (c.are_files.ensures.0 c.if-not-are_files.false)
