use Rattle.std.proofs.Common.{◌≡◌, ◌∙◌, ◌++◌, ◌∷◌, [], ap, ap₂, sym, subst, Bool, List, ℕ, eqb, map}
use Rattle.std.specs.Prelude.{◌&&◌}
use Rattle.std.proofs.Math.Bool.{beq}
use Rattle.bound_texts.specs.declared.sources.site.Site.{Site}
use Rattle.bound_texts.specs.Sources.Notes.{Subject, Note, noted_bound}
use Rattle.bound_texts.specs.Sources.Meaning.{note_of, subject_seen, subject_of, name_of}
use Rattle.indexmap.proofs.CallerLemmas.{insert_entry-new}
use Rattle.bound_texts.proofs.LoopsLemmas.NameLemmas.{texts, IsGrown, grown}
use Rattle.bound_texts.proofs.SourcesLemmas.NameLemmas.{AreNumbered, not_found, still_numbered, one_numbered, one_bound, parts_make}
use Rattle.bound_texts.proofs.sources.SourceBounds.add.Goals as goal

-- the subject by its parts
subject_is : (c : goal.In_ok-insert) → subject_of c.is_line.result (name_of (subject_seen c.args.note.subject)) c.number.result ≡ subject_seen c.args.note.subject
subject_is c =
    let s = subject_seen c.args.note.subject in
    ap₂ (λ (b : Bool) (n : ℕ). subject_of b (name_of s) n) c.is_line.ensures c.number.ensures ∙ parts_make s

-- the names with one more
more_names : (c : goal.In_ok-insert) → IsGrown (texts c.self.inside.names.keys) (texts c.insert_full.new.self.keys) c.in_ok-name-2.name (name_of (subject_seen c.args.note.subject))
more_names c =
    let r = c.in_ok-name-2.ensures in
    subst (IsGrown (texts c.self.inside.names.keys) (texts c.insert_full.new.self.keys) c.in_ok-name-2.name) (c.in_ok-name.ensures.items ∙ c.name.ensures)
    (grown c.self.inside.names.keys c.insert_full.new.self.keys c.in_ok-name-2.name c.in_ok-name.name r.keys r.stored r.unique)

-- the entries with one more
entries : (c : goal.In_ok-insert) → c.insert.new.self.entries ≡ c.self.inside.bounds.entries ++ (record { of_line = c.is_line.result; name = c.in_ok-name-2.name; number = c.number.result }, c.args.note.bound) ∷ []
entries c =
    let s = subject_seen c.args.note.subject in
    c.in_ok-insert.ensures.entries
    ∙ insert_entry-new (λ x y. beq x.of_line y.of_line && (eqb x.name y.name && eqb x.number y.number)) c.self.inside.bounds
    (record { of_line = c.is_line.result; name = c.in_ok-name-2.name; number = c.number.result }) c.args.note.bound
    (not_found (texts c.self.inside.names.keys) (texts c.insert_full.new.self.keys) c.is_line.result c.in_ok-name-2.name c.number.result (name_of s) (more_names c) c.self.inside.bounds.entries c.self.invariant.0
    (ap₂ noted_bound (subject_is c) c.self.view_is ∙ c.requires))

pub invariant_of-self-in_err-insert : goal.invariant_of-self-in_err-insert
invariant_of-self-in_err-insert c =
    let ks = c.self.inside.names.keys in
    let es = c.self.inside.bounds.entries in
    let r = c.in_ok-name-2.ensures in
    let g = grown ks c.insert_full.new.self.keys c.in_ok-name-2.name c.in_ok-name.name r.keys r.stored r.unique in (
      subst (AreNumbered (texts c.insert_full.new.self.keys)) (sym c.in_err-insert.ensures.err) (still_numbered (texts ks) _ _ _ g es c.self.invariant.0),
      g.apart,
    )

pub invariant_of-self-2 : goal.invariant_of-self-2
invariant_of-self-2 c =
    let g = more_names c in (
      subst (AreNumbered (texts c.insert_full.new.self.keys)) (sym (entries c))
          (one_numbered (texts c.self.inside.names.keys) _ c.is_line.result _ c.number.result c.args.note.bound _ g c.self.inside.bounds.entries c.self.invariant.0),
      g.apart,
    )

pub returns : goal.returns
returns c =
    let s = subject_seen c.args.note.subject in
    let bound = c.args.note.bound in
    ap (λ (es : List (Site × ℕ)). map (note_of (texts c.insert_full.new.self.keys)) es) (entries c)
    ∙ one_bound (texts c.self.inside.names.keys) (texts c.insert_full.new.self.keys) c.is_line.result c.in_ok-name-2.name c.number.result bound (name_of s) (more_names c) c.self.inside.bounds.entries c.self.invariant.0
    ∙ ap₂ (λ (ns : List Note) (t : Subject). ns ++ (record { subject = t; bound = bound }) ∷ []) c.self.view_is (subject_is c)
