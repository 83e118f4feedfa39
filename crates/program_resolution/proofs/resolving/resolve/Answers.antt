use Rattle.std.proofs.Common.{map, arith}
use Rattle.std.proofs.lemmas.List.{length-map}
use Rattle.program_resolution.proofs.RefusalLemmas.{are_classes, as_many}
use Rattle.program_resolution.proofs.resolving.resolve.Goals as goal

pub link-requires-clause-few : goal.link-requires-clause-few
link-requires-clause-few c =
    let files = c.args.files.now in
    let many = as_many (map (λ f. f.items) files) c.in_ok-read.read.items c.in_ok-read.ensures.read in
    let long = length-map files (λ f. f.items) in
    let few = c.requires in
    omega (arith, many, long, few)

pub link-requires-clause-grammar : goal.link-requires-clause-grammar
link-requires-clause-grammar c = are_classes (map (λ f. f.items) c.args.files.now) c.in_ok-read.read.items c.in_ok-read.ensures.read
