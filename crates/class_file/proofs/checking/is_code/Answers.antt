use Rattle.std.proofs.Common.{arith}
use Rattle.class_file.proofs.CheckLemmas.{parts_fit, parts_decided}
use Rattle.class_file.proofs.checking.is_code.Goals as goal

pub overflow_add-result-3 : goal.overflow_add-result-3
overflow_add-result-3 c =
    let fits = parts_fit c.args.code.now c.as_slice-length.result.now c.as_slice-handlers.result.now c.as_slice-attributes.result.now c.named_length.result
    c.as_slice-length.ensures c.as_slice-handlers.ensures c.as_slice-attributes.ensures
    c.if-length-gt-MOST_OF_32.false (c.are_handlers.ensures.0 c.if-not-are_handlers.false) (c.are_named.ensures.0 c.if-not-are_named.false) c.named_length.ensures in
    omega arith

pub returns : goal.returns
returns c =
    parts_decided c.args.code.now c.as_slice-length.result.now c.as_slice-handlers.result.now c.as_slice-attributes.result.now c.named_length.result
    c.as_slice-length.ensures c.as_slice-handlers.ensures c.as_slice-attributes.ensures (omega arith) (omega arith)
    c.if-length-gt-MOST_OF_32.false (c.are_handlers.ensures.0 c.if-not-are_handlers.false) (c.are_named.ensures.0 c.if-not-are_named.false) c.named_length.ensures
