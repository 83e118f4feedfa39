use Rattle.std.proofs.Common.{◌≡◌, ◌*◌, ◌^◌, ◌≤◌, take}
use Rattle.method_cache.specs.Regions.Region.{blocks_together}
use Rattle.method_cache.proofs.regions.fits.Given as goal

abbrev pub invariant-loop-m : goal.invariant-loop-m
invariant-loop-m l = record { taken : l.taken ≡ blocks_together l.sizes (take l.m-index l.members); small : l.taken ≤ l.m-index * 2 ^ 32 }
