use Rattle.std.proofs.Common.{◌≡◌, ◌++◌, List, ℕ, length, ap, sym, ◌∙◌, arith}
use Rattle.std.proofs.lemmas.List.{length-map}
use Rattle.std.specs.Global.{Vec}
use Rattle.image_file.specs.Linked.{u4, contents}
use Rattle.image_file.proofs.Sequences.{words_fit}
use Rattle.image_file.proofs.Whole.{written}
use Rattle.image_file.proofs.linked.writing.write_linked.Goals as goal

pub returns : goal.returns
returns c =
    let many : length (contents c.args.files.now) ≡ length c.args.files.now = length-map c.args.files.now (λ (file : Vec ℕ). file.items) in
    record {
      grammar = record {
        name = c.requires.name;
        word_count = c.requires.word_count;
        words = words_fit c.args.words.now (λ k. omega (arith, c.type_inv.words k));
        file_count = omega (arith, many, c.requires.file_count);
        files = c.requires.lengths;
      };
      spelling =
          written (record { main = c.args.main_name.now; words = c.args.words.now; files = contents c.args.files.now })
          c.new-out.result.items c.extend_from_slice.new.self.items c.extend_from_slice-2.new.self.items c.extend_from_slice-3.new.self.items c.extend_from_slice-4.new.self.items c.extend_from_slice-5.new.self.items
          c.put_words.new.out.items c.put_files.new.out.items
          c.new-out.ensures.items c.in_ok-extend_from_slice.ensures.items
          (c.in_ok-extend_from_slice-2.ensures.items ∙ ap (λ (t : List ℕ). c.extend_from_slice.new.self.items ++ t) c.to_be_bytes.ensures)
          c.in_ok-extend_from_slice-3.ensures.items
          (c.in_ok-extend_from_slice-4.ensures.items ∙ ap (λ (t : List ℕ). c.extend_from_slice-3.new.self.items ++ t) c.to_be_bytes-2.ensures)
          (c.in_ok-extend_from_slice-5.ensures.items ∙ ap (λ (t : List ℕ). c.extend_from_slice-4.new.self.items ++ t) c.to_be_bytes-3.ensures ∙ ap (λ (n : ℕ). c.extend_from_slice-4.new.self.items ++ u4 n) (sym many))
          c.in_ok-put_words.ensures c.in_ok-put_files.ensures;
    }
