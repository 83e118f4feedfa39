use Rattle.std.proofs.Common.{◌≡◌, ◌∙◌, ◌++◌, ◌∷◌, [], ap, sym, subst, List, ℕ, eqb, map}
use Rattle.std.specs.Prelude.{◌&&◌}
use Rattle.bound_texts.specs.declared.loops.site.Site.{Site}
use Rattle.bound_texts.specs.Loops.Bounds.{LoopBound, bound_in}
use Rattle.bound_texts.specs.Loops.Meaning.{bound_of}
use Rattle.indexmap.proofs.CallerLemmas.{insert_entry-new}
use Rattle.bound_texts.proofs.LoopsLemmas.NameLemmas.{texts, IsGrown, AreNumbered, grown, not_found, still_numbered, one_numbered, one_bound}
use Rattle.bound_texts.proofs.loops.Bounds.add.Goals as goal

-- the names with one more
more_names : (c : goal.In_ok-insert) → IsGrown (texts c.self.inside.names.keys) (texts c.insert_full.new.self.keys) c.in_ok-name-2.name c.args.found.name.now
more_names c =
    let r = c.in_ok-name-2.ensures in
    subst (IsGrown (texts c.self.inside.names.keys) (texts c.insert_full.new.self.keys) c.in_ok-name-2.name) c.in_ok-name.ensures.items
    (grown c.self.inside.names.keys c.insert_full.new.self.keys c.in_ok-name-2.name c.in_ok-name.name r.keys r.stored r.unique)

-- the entries with one more
entries : (c : goal.In_ok-insert) → c.insert.new.self.entries ≡ c.self.inside.bounds.entries ++ (record { name = c.in_ok-name-2.name; pc = c.args.found.pc }, c.args.found.bound) ∷ []
entries c =
    let found = c.args.found in
    c.in_ok-insert.ensures.entries
    ∙ insert_entry-new (λ x y. eqb x.name y.name && eqb x.pc y.pc) c.self.inside.bounds (record { name = c.in_ok-name-2.name; pc = found.pc }) found.bound
    (not_found (texts c.self.inside.names.keys) (texts c.insert_full.new.self.keys) c.in_ok-name-2.name found.pc found.name.now (more_names c) c.self.inside.bounds.entries c.self.invariant.0
    (ap (bound_in found.name.now found.pc) c.self.view_is ∙ c.requires))

pub invariant_of-self-in_err-insert : goal.invariant_of-self-in_err-insert
invariant_of-self-in_err-insert c =
    let ks = c.self.inside.names.keys in
    let es = c.self.inside.bounds.entries in
    let r = c.in_ok-name-2.ensures in
    let g = grown ks c.insert_full.new.self.keys c.in_ok-name-2.name c.in_ok-name.name r.keys r.stored r.unique in (
      subst (AreNumbered (texts c.insert_full.new.self.keys)) (sym c.in_err-insert.ensures.err) (still_numbered (texts ks) _ _ _ g es c.self.invariant.0),
      g.apart,
    )

pub invariant_of-self-2 : goal.invariant_of-self-2
invariant_of-self-2 c =
    let g = more_names c in (
      subst (AreNumbered (texts c.insert_full.new.self.keys)) (sym (entries c))
          (one_numbered (texts c.self.inside.names.keys) _ _ c.args.found.pc c.args.found.bound _ g c.self.inside.bounds.entries c.self.invariant.0),
      g.apart,
    )

pub returns : goal.returns
returns c =
    let found = c.args.found in
    ap (λ (es : List (Site × ℕ)). map (bound_of (texts c.insert_full.new.self.keys)) es) (entries c)
    ∙ one_bound (texts c.self.inside.names.keys) (texts c.insert_full.new.self.keys) c.in_ok-name-2.name found.pc found.bound found.name.now (more_names c) c.self.inside.bounds.entries c.self.invariant.0
    ∙ ap (λ (bs : List LoopBound). bs ++ (record { name = found.name.now; pc = found.pc; bound = found.bound }) ∷ []) c.self.view_is
