use Rattle.std.proofs.Common.{◌<◌, ℕ, List, length, sym, ap, ◌∙◌, subst}
use Rattle.class_lookup.specs.Hierarchy.{with_superinterfaces}
use Rattle.number_sets.specs.Numbers.{entry, IsSameSearch, IsPeeled}
use Rattle.class_hierarchy.proofs.Standing.{peeled_of, supertypes_of, interface_lists, interface_long, interface_within, interfaces_of}
use Rattle.class_hierarchy.proofs.above.above_of.Goals as goal

pub upward_lists-requires-2-clause-peeled : goal.upward_lists-requires-2-clause-peeled
upward_lists-requires-2-clause-peeled c =
    let cs = c.args.classes.now in
    let lists = c.superinterface_lists.result.now in
    let made = c.superinterface_lists.ensures in
    subst (λ (x : List ℕ). IsPeeled lists x) (sym c.as_slice-3.ensures)
    (peeled_of cs lists c.in_ok-order.order (interface_long cs lists made) (interface_within cs lists (interface_lists cs lists made)) c.in_ok-order.ensures.order)

pub inherited_lists-requires-clause-interfaces : goal.inherited_lists-requires-clause-interfaces
inherited_lists-requires-clause-interfaces c k lt =
    let cs = c.args.classes.now in
    let lists = c.superinterface_lists.result.now in
    let made = c.superinterface_lists.ensures in
    let long = interface_long cs lists made in
    let table = c.in_ok-interfaces.interfaces.items in
    subst (λ (t : List (List ℕ)). IsSameSearch (entry t k) (with_superinterfaces cs k)) (sym c.deref-3.ensures.value)
    (interfaces_of cs lists long (interface_lists cs lists made) (entry table k) k (c.in_ok-interfaces.ensures.reached k (subst (λ n. k < n) (sym long) lt)))

pub returns : goal.returns
returns c =
    let cs = c.args.classes.now in
    let lists = c.superinterface_lists.result.now in
    let made = c.superinterface_lists.ensures in
    let long = interface_long cs lists made in
    let same = c.deref-2.ensures.value in
    let above = c.deref-2.result.now in
    let own_long = ap (λ (t : List (List ℕ)). length t) same ∙ c.in_ok-direct.ensures.long in
    record {
      supertypes_long = c.in_ok-supertypes.ensures.long ∙ own_long;
      supertypes = λ k lt. supertypes_of cs above own_long (λ j. ap (λ (t : List (List ℕ)). entry t j) same ∙ c.in_ok-direct.ensures.direct j) (entry c.in_ok-supertypes.supertypes.items k) k
          (c.in_ok-supertypes.ensures.reached k (subst (λ n. k < n) (sym own_long) lt));
      superclasses_long = c.in_ok-superclasses.ensures.long;
      superclasses = c.in_ok-superclasses.ensures.superclasses;
      interfaces_long = c.in_ok-interfaces.ensures.long ∙ long;
      interfaces = λ k lt. interfaces_of cs lists long (interface_lists cs lists made) (entry c.in_ok-interfaces.interfaces.items k) k (c.in_ok-interfaces.ensures.reached k (subst (λ n. k < n) (sym long) lt));
      inherited_long = c.in_ok-inherited.ensures.long;
      inherited = c.in_ok-inherited.ensures.inherited;
    }
