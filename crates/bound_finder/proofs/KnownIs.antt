-- What is found of a method by its walks is known of it.
use Rattle.bound_finder.specs.FoundLaws.{KnownIs}
use Rattle.bound_finder.proofs.FoundNumbers.{are_numbers}
use Rattle.bound_finder.proofs.Knowing.{is_told}
use Rattle.bound_finder.proofs.OneAgrees.{agrees, says_exceeding}
use Rattle.bound_finder.proofs.OneValue.{AreFoundLaws}
use Rattle.bound_finder.proofs.SmallCosts.{own_small}

pub known_is : AreFoundLaws → KnownIs
known_is laws x h read write few fit_of =
    let P = x.program in
    let t = x.timing in
    let m = x.method in
    let k = x.coded in
    let c = h.flow.methods m k h.at in
    let small = own_small laws.starts laws.kinds laws.costs laws.raises P t m k h.coded c read write in
    record {
      told = is_told laws P t x.bound_of k x.table m x.prepared h.coded c h.callees h.shape h.prepared small x.fit h.fits fit_of x.walked h.walked;
      agrees = λ N agree numbers. agrees laws P t x.bound_of k x.table m x.prepared h.coded c h.callees h.shape h.prepared small x.fit h.fits fit_of x.walked h.walked N agree numbers;
      exceeds = λ N agree numbers. says_exceeding laws P t x.bound_of k x.table m x.prepared h.coded c h.callees h.shape h.prepared small x.fit h.fits fit_of x.walked h.walked N agree numbers;
      found = λ none N has own. are_numbers laws P t x.bound_of k x.table m x.prepared h.coded c h.callees h.shape h.prepared small x.fit h.fits fit_of x.walked h.walked few none N has own;
    }
