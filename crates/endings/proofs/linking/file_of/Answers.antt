use Rattle.std.proofs.Common.{ℕ, List, refl, subst}
use Rattle.endings.specs.Linking.{AreSizes}
use Rattle.endings.proofs.linking.file_of.Goals as goal

pub returns : goal.returns
returns c =
    let P : List ℕ → Type 0 = λ bytes. AreSizes c.args.linked.now bytes c.sizes_of-sizes.result in
    record {
      linked = c.args.linked.now;
      is_linked = c.sizes_of-sizes.ensures.linked;
      its_files = refl;
      its_main = refl;
      is = c.in_ok-bytes.ensures;
      sizes_are = subst P c.deref.ensures.value c.sizes_of-sizes.ensures.sizes;
    }
