-- The code's tables against the list of rows: computed over all bytes, then read at each.
use Rattle.std.proofs.Common.{◌≡◌, ℕ, ◌<◌, List, get_or, map, sym, ◌∙◌, ap, arith}
use Rattle.std.specs.List.{range_with_len}
use Rattle.std.proofs.Math.ListN.{get_or-map}
use Rattle.std.proofs.lemmas.List.FromFn.{get_or-map-range_with_len}
use Rattle.opcodes.specs.declared.table.Entry.{Entry}
use Rattle.opcodes.specs.Entry.{entry_row, length_by, parts_of}
use Rattle.opcodes.specs.Row.{OpcodeRow, row_of}

pub entry_at : (entries : List Entry) (d : Entry) → map parts_of entries ≡ map row_of (range_with_len 0 256) → (op : ℕ) → op < 256 → entry_row (get_or entries op d) ≡ row_of op
unfolding entry_row
entry_at entries d e op h =
    sym (get_or-map parts_of entries op d)
    ∙ ap (λ (list : List OpcodeRow). get_or list op (parts_of d)) e
    ∙ get_or-map-range_with_len row_of 0 256 op op (parts_of d) (omega arith) (omega arith)

abbrev pub length_of : ℕ → ℕ
length_of op = length_by (row_of op).form

pub length_at : (lengths : List ℕ) (d : ℕ) → lengths ≡ map length_of (range_with_len 0 256) → (op : ℕ) → op < 256 → get_or lengths op d ≡ length_by (row_of op).form
length_at lengths d e op h =
    ap (λ (list : List ℕ). get_or list op d) e ∙ get_or-map-range_with_len length_of 0 256 op op d (omega arith) (omega arith)
