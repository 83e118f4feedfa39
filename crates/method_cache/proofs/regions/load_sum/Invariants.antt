use Rattle.std.proofs.Common.{◌≡◌, ◌*◌, ◌^◌, ◌≤◌, take}
use Rattle.method_cache.specs.Regions.Region.{stall_of}
use Rattle.method_cache.proofs.regions.load_sum.Given as goal

abbrev pub invariant-loop-m : goal.invariant-loop-m
invariant-loop-m l = record { cycles : l.cycles ≡ stall_of l.r l.words (take l.m-index l.members); small : l.cycles ≤ l.m-index * 2 ^ 40 }
