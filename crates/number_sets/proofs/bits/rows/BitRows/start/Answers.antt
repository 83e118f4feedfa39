use Rattle.std.proofs.Common.{◌≡◌, ◌+◌, ◌&&◌, eqb, length, refl, sym, ap, ◌∙◌, arith}
use Rattle.std.specs.Option.{option_copied}
use Rattle.indexmap.proofs.CallerLemmas.{insert_entry-new}
use Rattle.number_sets.specs.Bits.Bits.{has}
use Rattle.number_sets.specs.Bits.Table.{BitTable}
use Rattle.number_sets.proofs.BitsLemmas.Bits.{longer_reads}
use Rattle.number_sets.proofs.BitsLemmas.Tables.{row_more, words_more, apart_more}
use Rattle.number_sets.proofs.bits.rows.BitRows.start.Goals as goal

pub returns-in_err-insert-clause-same : goal.returns-in_err-insert-clause-same
returns-in_err-insert-clause-same c p n =
    let fields = c.self.inside in
    let old : BitTable = record { width = fields.width; starts = fields.starts.entries; words = fields.words.items } in
    let new : BitTable = record { width = fields.width; starts = c.insert.new.self.entries; words = c.resize.new.self.items } in
    let at : c.len-start.result ≡ length fields.words.items = c.len-start.ensures ∙ fields.words.ok.0 in
    let start = c.len-start.result in
    words_more old new refl c.in_err-insert.ensures.err (longer_reads fields.words.items c.resize.new.self.items (start + fields.width) _ (omega (arith, at)) c.in_ok-resize.ensures.items) p n
    ∙ ap (λ t. has t p n) c.self.view_is

pub invariant_of-self-2 : goal.invariant_of-self-2
invariant_of-self-2 c =
    let fields = c.self.inside in
    let old : BitTable = record { width = fields.width; starts = fields.starts.entries; words = fields.words.items } in
    let new : BitTable = record { width = fields.width; starts = c.insert.new.self.entries; words = c.resize.new.self.items } in
    let absent = sym c.get.ensures.value ∙ ap option_copied c.in_default.is in
    let entries = c.in_ok-insert.ensures.entries ∙ insert_entry-new (λ x y. eqb x.0 y.0 && eqb x.1 y.1) fields.starts c.args.pair c.len-start.result absent in
    apart_more old new c.args.pair c.len-start.result refl entries (c.len-start.ensures ∙ fields.words.ok.0) (sym c.resize.new.self.ok.0 ∙ c.in_ok-resize.ensures.len) c.self.invariant

pub returns-clause-same : goal.returns-clause-same
returns-clause-same c p n =
    let fields = c.self.inside in
    let old : BitTable = record { width = fields.width; starts = fields.starts.entries; words = fields.words.items } in
    let new : BitTable = record { width = fields.width; starts = c.insert.new.self.entries; words = c.resize.new.self.items } in
    let absent = sym c.get.ensures.value ∙ ap option_copied c.in_default.is in
    let start = c.len-start.result in
    let entries = c.in_ok-insert.ensures.entries ∙ insert_entry-new (λ x y. eqb x.0 y.0 && eqb x.1 y.1) fields.starts c.args.pair start absent in
    let at : start ≡ length fields.words.items = c.len-start.ensures ∙ fields.words.ok.0 in
    row_more old new c.args.pair start refl entries (omega (arith, at)) (longer_reads fields.words.items c.resize.new.self.items (start + fields.width) _ (omega (arith, at)) c.in_ok-resize.ensures.items) p n
    ∙ ap (λ t. has t p n) c.self.view_is
