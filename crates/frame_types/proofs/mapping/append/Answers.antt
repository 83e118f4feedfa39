use Rattle.std.proofs.Common.{◌≡◌, ◌++◌, map, true, false, rules}
use Rattle.frame_types.specs.Extents.{shape, whole_extent, extents_behind, last_extent, fit}
use Rattle.frame_types.proofs.MakesLemmas.{makes_append}
use Rattle.frame_types.proofs.mapping.append.Goals as goal

pub returns-then-not-fit : goal.returns-then-not-fit
returns-then-not-fit c =
    let k = c.args.code.now in
    let es = c.args.extents.now.items in
    let e : false ≡ fit k.code (last_extent (whole_extent k.max_locals) es).left (map shape c.args.more.now) = search rules in
    λ pool ls h. makes_append k ls pool c.args.more.now es es false e (λ t. absurd (let f : false ≡ true = t in cc)) h

pub returns : goal.returns
returns c =
    let k = c.args.code.now in
    let es = c.args.extents.now.items in
    let new = c.push_all.new.extents.items in
    let e : true ≡ fit k.code (last_extent (whole_extent k.max_locals) es).left (map shape c.args.more.now) = search rules in
    let is : new ≡ es ++ extents_behind (last_extent (whole_extent k.max_locals) es) (map shape c.args.more.now) = search rules in
    λ pool ls h. makes_append k ls pool c.args.more.now es new true e (λ _. is) h
