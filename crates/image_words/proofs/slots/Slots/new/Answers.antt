use Rattle.std.proofs.Common.{ℕ, List, subst, arith}
use Rattle.std.proofs.lemmas.Option.{slice_get_within}
use Rattle.class_pool.specs.declared.class.ClassFile.{ClassFile}
use Rattle.image_words.specs.Signatures.{HasSignatures}
use Rattle.image_words.specs.Tables.{AreMade}
use Rattle.image_words.proofs.slots.Slots.new.Goals as goal

pub returns : goal.returns
returns c =
    let cs = c.args.classes.now in
    let table = c.in_ok-table.table.items in
    let made = subst (λ (xs : List ℕ). AreMade cs c.in_ok-signatures.signatures xs table) c.as_slice.ensures c.in_ok-table.ensures in
    record {
      signatures = subst (λ (ks : List ClassFile). HasSignatures ks c.in_ok-signatures.signatures) c.classes.ensures c.in_ok-signatures.ensures;
      long = made.long;
      each = λ class t h.
          let within = slice_get_within table class t h in
          let long = made.long in
          made.each class t (c.in_ok-order.ensures.all class (omega (arith, within, long))) h;
    }
