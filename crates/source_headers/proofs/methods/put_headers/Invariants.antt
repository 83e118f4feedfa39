use Rattle.std.proofs.Common.{◌≡◌, ◌++◌, take}
use Rattle.source_headers.specs.Found.{AreRising}
use Rattle.source_headers.specs.Told.{headers_by}
use Rattle.source_headers.proofs.HeaderLemmas.{AreLeftAt}
use Rattle.source_headers.proofs.methods.put_headers.Given as goal

abbrev pub invariant-loop-place : goal.invariant-loop-place
invariant-loop-place l = record {
  text : l.text.items ≡ l.initial.text.items ++ headers_by l.notes l.found l.method.number l.method.name.now l.source (take l.place-index l.places);
  rising : AreRising l.left;
  left : AreLeftAt l.found l.left l.method.number l.places l.place-index;
}
