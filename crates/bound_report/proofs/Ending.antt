-- What holds of all methods of an order that are found, where none of their numbers is too large.
use Rattle.std.proofs.Common.{◌≡◌, ◌<◌, ℕ, List, length, None}
use Rattle.bound_finder.specs.declared.methods.Methods.{Methods}
use Rattle.bound_finder.specs.Known.{BoundSetting, bounds_in, ForEach}
use Rattle.bound_finder.specs.Ending.{AreReadyFound, AreKnownWithin}
use Rattle.bound_finder.proofs.Certifying.{root_known}
use Rattle.bound_finder.proofs.Ended.{all_small}
use Rattle.bound_report.specs.Settled.{IsSettled, AreReadyIn}

module _ (set : BoundSetting) (root : ℕ) (order : List ℕ) (a : Methods) (below : root < length set.flow.methods) (h : AreReadyIn set root order a) where
  pub ready_found : AreReadyFound set root a
  ready_found = record { order = order; distinct = h.distinct; found = h.found; ready = h.ready }

  pub known : ForEach set (λ P. AreKnownWithin P set.timing (bounds_in set) a.table.items a.least root)
  known = root_known set root a ready_found below

  pub settled : a.least ≡ None → ForEach set (λ P. IsSettled P set.timing (bounds_in set) root order a.table.items)
  settled none P of =
      let ready = h.ready P of in
      let within = known P of in
      let small = all_small P set.timing (bounds_in set) a.table.items a.least root within none in
      record { ready = ready; known = h.found.known P of ready.order.first; small = λ m has. small m ((ready.order.methods.each m).0 has); numbers = within.known small }
