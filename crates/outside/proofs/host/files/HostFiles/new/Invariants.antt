use Rattle.std.proofs.Common.{◌≡◌, map, take, string_bytes}
use Rattle.outside.proofs.host.files.HostFiles.new.Given as goal

abbrev pub invariant-loop-word : goal.invariant-loop-word
invariant-loop-word g l = map string_bytes l.names.items ≡ map (λ w. w.now) (take l.word-index l.words)
