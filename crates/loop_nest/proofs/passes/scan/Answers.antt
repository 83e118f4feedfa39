use Rattle.std.proofs.Common.{◌≡◌, ℕ, ◌+◌, ◌<◌, ◌≤◌, ◌↔◌, true, false, eqb, List, length, get_or, map, take, Contains, sym, ap, ◌∙◌, subst, arith}
use Rattle.std.proofs.lemmas.List.{take_all}
use Rattle.std.proofs.lemmas.List.Elements.{Contains-get_or, All-get_or}
use Rattle.loop_nest.specs.declared.merging.Entered.{Entered}
use Rattle.loop_nest.specs.Entered.{class_of, edge_at, IsEnteredFromOne, IsEnteredAs}
use Rattle.loop_nest.specs.Pointers.{AreFollowed}
use Rattle.loop_nest.proofs.Scanning.{HoldsOfSource, source_kept, not_from_one, scans_inside, scans_outside, scans_mark, scans_keep}
use Rattle.loop_nest.proofs.passes.scan.Goals as goal
use Rattle.loop_nest.proofs.passes.scan.Goals.{then-source-x, else-source-x}

pub loop-number-preserved : goal.loop-number-preserved
loop-number-preserved c =
    let es = c.args.edges.now in
    let numbers = c.args.numbers.now in
    let j = c.loop-number.number-index in
    let x = c.args.x in
    let lt = c.loop-number-test.true in
    let has = Contains-get_or numbers j 0 lt in
    let to = c.requires.to_x (get_or numbers j 0) has in
    let inv = c.loop-number.invariant in
    let source = c.look-source.result in
    let kept_long = inv.kept.long in
    let long = c.requires.long in
    let below : get_or numbers j 0 < length c.loop-number.back = let k = All-get_or (λ (i : ℕ). i < length es) numbers j 0 lt c.requires.numbers in omega arith in
    let name : (k : ℕ → ℕ) → AreFollowed k c.args.into.now → k (edge_at es (get_or numbers j 0)).0 ≡ source = c.look-source.ensures.name in
    record {
      entered = λ k f.
          let P : Entered → Type 0 = λ e. IsEnteredAs (map (edge_at es) (take (j + 1) numbers)) k x e in
          elim c.if-source-x.branch [
            | then-source-x w ↦
                subst P (sym (w.entered-is ∙ w.and_from-entered.ensures))
                (scans_outside es numbers j k x source c.loop-number.entered lt (name k f) w.if-source-x.true to (f.named x c.requires.inside c.requires.left) (inv.entered k f))
            | else-source-x w ↦ subst P (sym w.entered-is) (scans_inside es numbers j k x c.loop-number.entered lt (name k f ∙ w.if-source-x.false) (inv.entered k f))
          ];
      marked = λ k f. scans_mark es numbers j k x source c.loop-number.back lt below (name k f) (inv.marked k f);
      left =
          let P : Entered → Type 0 = λ e. HoldsOfSource (λ p. class_of c.args.into.now p ≡ p) e in
          elim c.if-source-x.branch [
            | then-source-x w ↦ subst P (sym (w.entered-is ∙ w.and_from-entered.ensures)) (source_kept (λ p. class_of c.args.into.now p ≡ p) c.loop-number.entered source c.look-source.ensures.left inv.left)
            | else-source-x w ↦ subst P (sym w.entered-is) inv.left
          ];
      kept = scans_keep es x (get_or numbers j 0) (eqb source x) c.args.back.now c.loop-number.back to inv.kept;
    }

all_taken : (es : List (ℕ × ℕ)) (j : ℕ) (numbers : List ℕ) → length numbers ≤ j → map (edge_at es) (take j numbers) ≡ map (edge_at es) numbers
all_taken es j numbers end' = ap (map (edge_at es)) (take_all j numbers end')

pub returns-in-From-clause-scanned : goal.returns-in-From-clause-scanned
returns-in-From-clause-scanned c = λ k f.
    let es = c.args.edges.now in
    let numbers = c.args.numbers.now in
    let j = c.loop-number.number-index in
    let x = c.args.x in
    let inv = c.loop-number.invariant in
    let P : Entered → Type 0 = λ e. IsEnteredAs (map (edge_at es) (take j numbers)) k x e in
    let Q : List (ℕ × ℕ) → Type 0 = λ ds. IsEnteredFromOne ds k c.in-From.p x in
    let R : List ℕ → Type 0 = λ ls. (i : ℕ) → Contains ls i → (get_or c.loop-number.back i false ≡ true) ↔ (k (edge_at es i).0 ≡ x) in
    record {
      entered = subst Q (all_taken es j numbers c.loop-number-test.false) (subst P c.in-From.is (inv.entered k f));
      marked = subst R (take_all j numbers c.loop-number-test.false) (inv.marked k f);
    }

pub returns-in_default-clause-none : goal.returns-in_default-clause-none
returns-in_default-clause-none c = λ k f p.
    let es = c.args.edges.now in
    let numbers = c.args.numbers.now in
    let j = c.loop-number.number-index in
    let x = c.args.x in
    let P : List (ℕ × ℕ) → Type 0 = λ ds. IsEnteredAs ds k x c.loop-number.entered in
    not_from_one (map (edge_at es) numbers) k x p c.loop-number.entered c.in_default.not-From (subst P (all_taken es j numbers c.loop-number-test.false) (c.loop-number.invariant.entered k f))
